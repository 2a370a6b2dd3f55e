-- Laws of the ring's record: what soundness says, and what is held. Assumes nothing.
use Prim.Native.Nat.{ℕ, zero, suc, ◌+◌, ◌-◌, ◌%◌, ◌^◌, ◌<◌, ◌≤◌, min}
use mathlib.Core.Path.{◌≡◌, refl, sym, ap, ◌∙◌}
use mathlib.Core.Logic.{⊎_elim}
use mathlib.Core.Bool.{true}
use mathlib.Core.List.{List}
use native.Mathlib.Omega.{arith}
use native.Mathlib.Nat.{mod-lt, mod_self, mod-add-mod}
use lib.ListN.{length}
use borrow.Author.Tests.{leb-true, eqb-true, le-leb, eq-eqb}
use Rattle.defs.specs.Limits.{min_ring, max_ring, is_ring_size}
use Rattle.defs.proofs.Basics.{both, lt_or_ge}
use Rattle.defs.specs.Promises.{Exactly}
use Rattle.defs.specs.Wrapping.{wadd, wsub}
use Rattle.defs.proofs.LimitLaws.{ring_size, ring_sizes}
use Rattle.defs.proofs.MeansLaws.{and_means, within_means, equal_means}
use Rattle.txbuf.specs.Record.{used_of, sound_record, sound_of, held_from, held}
use Rattle.txbuf.specs.Flush.{piece_len}
use Rattle.txbuf.specs.Means.{Sound, SoundMeans}
use Rattle.txbuf.specs.declared.record.TxBuf.{TxBuf}

pub sound_means : SoundMeans
unfolding sound_record sound_of
sound_means = record { alone = alone; over = λ b storage. and_means (alone b) (equal_means storage b.size) }
  where
    alone : (b : TxBuf) → Exactly (sound_record b ≡ true) (Sound b)
    alone b =
        let m = and_means (ring_sizes b.size) (within_means (used_of b) b.size) in (
          λ e. let p = m.0 e in record { power = p.0.0; least = p.0.1; most = p.0.2; within = p.1 },
          λ s. m.1 ((s.power, s.least, s.most), s.within),
        )

-- what soundness says, over a storage of n bytes
pub record Fit (b : TxBuf) (n : ℕ) : Type 0 where
  pub sized : is_ring_size b.size ≡ true
  pub least : min_ring ≤ b.size
  pub most : b.size ≤ max_ring
  pub within : used_of b ≤ b.size
  pub whole : n ≡ b.size

pub sound_says : (b : TxBuf) (n : ℕ) → sound_of b n ≡ true → Fit b n
unfolding sound_of sound_record
sound_says b n e =
    let u = both _ _ e in
    let v = both _ _ u.0 in
    let r = ring_size b.size v.0 in
    record { sized = v.0; least = r.least; most = r.most; within = leb-true _ _ v.1; whole = eqb-true _ _ u.1 }

pub is_sound_lem : (b : TxBuf) (n : ℕ) → Fit b n → sound_of b n ≡ true
unfolding sound_of sound_record
is_sound_lem b n s = simp (s.sized, le-leb _ _ s.within, eq-eqb _ _ s.whole)

-- what is held once bytes are pushed, and once they are taken
pub used_after : (h t m : ℕ) → h < 2 ^ 32 → t < 2 ^ 32 → wsub h t + m < 2 ^ 32 → wsub (wadd h m) t ≡ wsub h t + m
used_after h t m p q l = omega arith

pub used_advanced : (h t k : ℕ) → h < 2 ^ 32 → t < 2 ^ 32 → k ≤ wsub h t → wsub h (wadd t k) ≡ wsub h t - k
used_advanced h t k p q l = omega arith

-- an offset into the storage, whichever counter it is of
pub offset_in : (x size n : ℕ) → 0 < size → n ≡ size → x % size < n
offset_in x size n p e = let m = mod-lt x p in omega arith

-- a part from an offset, no longer than to the end
pub part_within : (at n len u : ℕ) → n ≡ min (len - at) u → at < len → at + n ≤ len
part_within at n len u e l = omega arith

pub held_from_length : (store : List ℕ) (size t n : ℕ) → length (held_from store size t n) ≡ n
unfolding held_from
held_from_length store size t zero = refl
held_from_length store size t (suc n) = ap suc (held_from_length store size (suc t) n)

pub held_length : (b : TxBuf) (store : List ℕ) → length (held b store) ≡ used_of b
unfolding held
held_length b store = held_from_length store b.size b.tail (used_of b)

-- ---- the second piece

-- a piece that leaves something ends at the storage's end, so the next starts at the front
next_offset : (t k size : ℕ) → 0 < size → k ≡ size - t % size → (t + k) % size ≡ 0
next_offset t k size l e =
    let m = mod-lt t l in
    let z : t % size + k ≡ size = omega arith in
    sym (mod-add-mod t size k) ∙ ap (λ (x : ℕ). x % size) z ∙ mod_self size

-- and it offers all that is left
pub next_length : (size t t' n : ℕ) → 0 < size → n ≤ size → t' % size ≡ (t + piece_len size t n) % size → piece_len size t' (n - piece_len size t n) ≡ n - piece_len size t n
next_length size t t' n l h e =
    let m = mod-lt t l in
    ⊎_elim
    (λ (x : size - t % size < n).
    let k : piece_len size t n ≡ size - t % size = omega arith in
    let z : t' % size ≡ 0 = e ∙ next_offset t (piece_len size t n) size l k in
    omega arith)
    (λ (x : n ≤ size - t % size). omega arith)
    (lt_or_ge (size - t % size) n)
