-- Laws of little-endian numbers and of records of them, over the width and over the table of widths. Assumes nothing.
use Prim.Native.Nat.{ℕ, zero, suc, ◌+◌, ◌*◌, ◌/◌, ◌%◌, ◌^◌, ◌<◌, ◌≤◌}
use mathlib.Core.Path.{◌≡◌, refl, ap, sym, ◌∙◌}
use mathlib.Core.List.{List, [], ◌∷◌, ◌++◌, append_assoc}
use native.Mathlib.Omega.{arith}
use native.Mathlib.Nat.{div-one, div-div-eq-div-mul, mul_comm, mul_assoc, pow-suc, div-add-mod', le_of_suc-le-suc, not-suc-le-zero, add-zero, add-suc, suc-add}
use lib.ListN.{length, get_or, take, drop, set, length-drop, length-take}
use lib.Seq.{drop-drop, get_or-drop, take-add, take_at, drop_at, take_all, sets}
use Rattle.std.specs.Prelude.{slice_index}
use Rattle.std.specs.Int.{byte_at, byte_worth, bytes_low_first, sum_through}
use Rattle.packet.specs.Le.{le, of_le, num_at, packed, unpacked}
use Rattle.packet.specs.Promises.{Bytes, Fit}

pub length_le : (w n : ℕ) → length (le w n) ≡ w
length_le zero n = refl
length_le (suc w) n = ap suc (length_le w (n / 256))

-- ---- there and back

-- a number that fits w bytes comes back
of_le_le : (w n : ℕ) → n < 256 ^ w → of_le (le w n) ≡ n
of_le_le zero n h = omega arith
of_le_le (suc w) n h =
    let h' : n < 256 ^ w * 256 = rw pow-suc at h in
    rw (of_le_le w (n / 256) (omega arith)) (omega (arith, div-add-mod' n 256))

-- and so do w bytes
le_of_le : (w : ℕ) (s : List ℕ) → Bytes s → w ≤ length s → le w (of_le (take w s)) ≡ take w s
le_of_le zero s b h = refl
le_of_le (suc w) [] b h = absurd (not-suc-le-zero h)
le_of_le (suc w) (x ∷ s) b h =
    let r = of_le (take w s) in
    let lo : (x + 256 * r) % 256 ≡ x = omega (arith, b 0) in
    let hi : (x + 256 * r) / 256 ≡ r = omega (arith, b 0) in
    rw (lo, hi, le_of_le w s (λ k. b (suc k)) (le_of_suc-le-suc h))

-- a record comes back, whatever follows it
pub unpacked_packed : (ws ns r : List ℕ) → Fit ws ns → unpacked ws (packed ws ns ++ r) ≡ ns
unpacked_packed [] [] r f = refl
unpacked_packed [] (n ∷ ns) r f = absurd f
unpacked_packed (w ∷ ws) [] r f = absurd f
unpacked_packed (w ∷ ws) (n ∷ ns) r f =
    rw (
      append_assoc,
      take_at (le w n) (packed ws ns ++ r) w (length_le w n),
      drop_at (le w n) (packed ws ns ++ r) w (length_le w n),
      of_le_le w n f.0,
      unpacked_packed ws ns r f.1,
    )

abbrev pub sum : List ℕ → ℕ
sum [] = 0
sum (w ∷ ws) = w + sum ws

-- and so do the bytes of one
pub packed_unpacked : (ws s : List ℕ) → Bytes s → sum ws ≤ length s → packed ws (unpacked ws s) ≡ take (sum ws) s
packed_unpacked [] s b h = refl
packed_unpacked (w ∷ ws) s b h =
    let b' : Bytes (drop w s) = λ k. rw get_or-drop (b (w + k)) in
    rw (take-add, le_of_le w s b (omega arith), packed_unpacked ws (drop w s) b' (rw length-drop (omega arith)))

-- ---- std's words

byte_at-pow : (i n : ℕ) → byte_at i n ≡ n / 256 ^ i % 256
byte_at-pow zero n = rw div-one refl
byte_at-pow (suc i) n = refl

byte_worth-pow : (i b : ℕ) → byte_worth i b ≡ 256 ^ i * b
byte_worth-pow zero b = omega arith
byte_worth-pow (suc i) b = mul_comm b (256 ^ suc i)

-- bytes from place i up are those of the number less its i lowest bytes
low_first : (i w n : ℕ) → bytes_low_first i w n ≡ le w (n / 256 ^ i)
low_first i zero n = refl
low_first i (suc w) n =
    let e : n / 256 ^ suc i ≡ n / 256 ^ i / 256 = rw (div-div-eq-div-mul, pow-suc) refl in
    rw (byte_at-pow i n, low_first (suc i) w n, e) refl

-- what std stores of a number are its w low bytes
pub stored : (w n : ℕ) → bytes_low_first 0 w n ≡ le w n
stored w n = low_first 0 w n ∙ ap (le w) (div-one n)

-- one byte more
of_le_snoc : (k : ℕ) (s : List ℕ) → of_le (take (suc k) s) ≡ of_le (take k s) + 256 ^ k * get_or s k 0
of_le_snoc zero [] = refl
of_le_snoc zero (x ∷ s) = omega arith
of_le_snoc (suc k) [] = omega arith
of_le_snoc (suc k) (x ∷ s) =
    let e : 256 ^ k * 256 * get_or s k 0 ≡ 256 * (256 ^ k * get_or s k 0) = rw (mul_comm (256 ^ k) 256) (mul_assoc 256 (256 ^ k) (get_or s k 0)) in
    rw (of_le_snoc k s, pow-suc, e) (omega arith)

-- what std reads of w bytes is their number
read : (k : ℕ) (s : List ℕ) → sum_through (λ i. byte_worth i (slice_index s i)) k ≡ of_le (take (suc k) s)
read zero s = sym (of_le_snoc 0 s ∙ omega arith)
read (suc k) s = rw (read k s, of_le_snoc (suc k) s, byte_worth-pow (suc k) (get_or s (suc k) 0)) refl

-- and of the w bytes from a place on that is the number there
pub read_at : (k : ℕ) (s part : List ℕ) (at n : ℕ) → part ≡ take (suc k) (drop at s) → n ≡ sum_through (λ i. byte_worth i (slice_index part i)) k
    → n ≡ num_at s at (suc k)
read_at k s part at n e r = r ∙ read k part ∙ rw e (ap of_le (take_all (suc k) (take (suc k) (drop at s)) (rw length-take (omega arith))))

-- ---- numbers at their offsets

-- the numbers of a record, each read at its offset
abbrev pub nums_at : ℕ → List ℕ → List ℕ → List ℕ
nums_at at [] s = []
nums_at at (w ∷ ws) s = num_at s at w ∷ nums_at (at + w) ws s

pub unpacked_at : (at : ℕ) (ws s : List ℕ) → unpacked ws (drop at s) ≡ nums_at at ws s
unpacked_at at [] s = refl
unpacked_at at (w ∷ ws) s = rw (drop-drop w at s, unpacked_at (at + w) ws s)

-- one store of each number at its offset
abbrev pub stores : List ℕ → ℕ → List ℕ → List ℕ → List ℕ
stores l at [] ns = l
stores l at (w ∷ ws) [] = l
stores l at (w ∷ ws) (n ∷ ns) = stores (sets l at (le w n)) (at + w) ws ns

sets_append : (l : List ℕ) (i : ℕ) (a b : List ℕ) → sets l i (a ++ b) ≡ sets (sets l i a) (i + length a) b
sets_append l i [] b = rw add-zero
sets_append l i (x ∷ a) b = rw (sets_append (set l i x) (suc i) a b, add-suc, suc-add)

pub stores_packed : (l : List ℕ) (at : ℕ) (ws ns : List ℕ) → stores l at ws ns ≡ sets l at (packed ws ns)
stores_packed l at [] ns = refl
stores_packed l at (w ∷ ws) [] = refl
stores_packed l at (w ∷ ws) (n ∷ ns) =
    rw (sets_append l at (le w n) (packed ws ns), length_le, stores_packed (sets l at (le w n)) (at + w) ws ns)
