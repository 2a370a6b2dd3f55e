-- A queue that is filled item by item holds the first items. Assumes nothing.
use Prim.Native.Nat.{ℕ, ◌+◌, ◌≤◌, ◌<◌}
use mathlib.Core.Path.{◌≡◌, refl, ap, sym, ◌∙◌}
use mathlib.Core.Logic.{⊎_elim}
use mathlib.Core.Bool.{Bool, true, false, ◌&&◌}
use mathlib.Core.List.{List, [], ◌∷◌, ◌++◌, map-id, append-nil}
use native.Mathlib.Omega.{arith}
use borrow.Author.Tests.{ltb-true, lt-ltb, le-ltb, lt-leb, le-leb}
use lib.Dec.{leb, ltb}
use lib.ListN.{length, take, drop, set, length-append, length-take}
use lib.Seq.{append_snoc, take_all, length-take-le, take-append-le}
use Rattle.std.proofs.lemmas.List.{take-append-drop}
use Rattle.std.specs.Prelude.{Option, None}
use Rattle.std.specs.Iterator.{Yields}
use Rattle.std.proofs.lemmas.Iterator.{YieldsList}
use Rattle.std.proofs.lemmas.Iterator.Consumers.{YieldsList-end}
use Rattle.std.proofs.lemmas.Bool.{false_from_ne_true}
use Rattle.defs.proofs.Basics.{both, lt_or_ge}
use Rattle.defs.proofs.ChoiceLaws.{when_true, when_false}
use Rattle.queue.specs.Queue.{Queue, Kind, Lawful, pack, empty_of}
use Rattle.queue.specs.Fill.{take_in_of, with_in, all_in, filled}
use Rattle.queue.proofs.PlacesLaws.{places_append}
use Rattle.queue.proofs.QueueLaws.{packs, packed}

-- the two ends of the call
module _ {Q A : Type 0} (k : Kind Q A) (x : A) (q : Q) where
  pub taken_in : (k.seen q).len < (k.seen q).limit → (k.seen q).len < k.size
      → k.made (record { places = set (k.seen q).places (k.seen q).len x; len = (k.seen q).len + 1; limit = (k.seen q).limit; synced = (k.seen q).synced }) ≡ with_in k x q
  unfolding take_in_of
  taken_in h m = ap k.made (sym (when_true _ _ _ (rw (lt-ltb _ _ h, lt-ltb _ _ m) refl)))

  pub left_out : ((k.seen q).len < (k.seen q).limit → (k.seen q).len < k.size → ⊥)
      → k.made (record { places = (k.seen q).places; len = (k.seen q).len; limit = (k.seen q).limit; synced = false }) ≡ with_in k x q
  unfolding take_in_of
  left_out n = ap k.made (sym (when_false _ _ _ (false_from_ne_true (ltb (k.seen q).len (k.seen q).limit && ltb (k.seen q).len k.size) over)))
    where
      over : ltb (k.seen q).len (k.seen q).limit && ltb (k.seen q).len k.size ≡ true → ⊥
      over e = let p = both _ _ e in n (ltb-true _ _ p.0) (ltb-true _ _ p.1)

module _ {Q A : Type 0} (k : Kind Q A) (w : Lawful k) (limit : ℕ) (x : A) (l : List A) (synced : Bool) where
  -- an item goes behind those of a list, or is one too many
  in_goes : length l < limit → limit ≤ k.size → with_in k x (pack k l limit synced) ≡ pack k (l ++ (x ∷ [])) limit synced
  unfolding take_in_of
  in_goes h m =
      let n : length l < k.size = omega arith in
      ap (λ (q : Queue A). k.made (take_in_of k x q)) (packed k w l limit synced)
      ∙ ap k.made (when_true _ _ _ (rw (lt-ltb (length l) limit h, lt-ltb (length l) k.size n) refl))
      ∙ packs k _ (l ++ (x ∷ [])) _ limit synced (omega (arith, length-append l (x ∷ []))) (places_append k.size k.zero_item l x n)

  in_not : limit ≤ length l → with_in k x (pack k l limit synced) ≡ pack k l limit false
  unfolding take_in_of
  in_not h =
      ap (λ (q : Queue A). k.made (take_in_of k x q)) (packed k w l limit synced)
      ∙ ap k.made (when_false _ _ _ (rw (le-ltb (length l) limit h) refl))

module _ {Q A : Type 0} (k : Kind Q A) (w : Lawful k) (limit : ℕ) (h : limit ≤ k.size) where
  pub filled_none : empty_of k limit ≡ filled k limit []
  filled_none = rw (take_all {A = A} limit [] (omega arith), le-leb 0 limit (omega arith)) refl

  pub filled_more : (l : List A) (x : A) → with_in k x (filled k limit l) ≡ filled k limit (l ++ (x ∷ []))
  filled_more l x =
      ⊎_elim
      (λ (t : length l < limit).
      let n : length (l ++ (x ∷ [])) ≤ limit = omega (arith, length-append l (x ∷ [])) in
      rw (take_all limit l (omega arith), le-leb (length l) limit (omega arith), take_all limit (l ++ (x ∷ [])) n, le-leb (length (l ++ (x ∷ []))) limit n)
      (in_goes k w limit x l true t h))
      (λ (t : limit ≤ length l).
      let n : limit < length (l ++ (x ∷ [])) = omega (arith, length-append l (x ∷ [])) in
      rw (take-append-le limit l (x ∷ []) t, lt-leb (length (l ++ (x ∷ []))) limit n)
      (in_not k w limit x (take limit l) (leb (length l) limit) (omega (arith, length-take limit l))))
      (lt_or_ge (length l) limit)

  -- of the items past the limit the first tells all
  pub filled_first : (l : List A) → filled k limit (take (limit + 1) l) ≡ filled k limit l
  filled_first l =
      ⊎_elim
      (λ (t : length l < limit + 1). ap (filled k limit) (take_all (limit + 1) l (omega arith)))
      (λ (t : limit + 1 ≤ length l).
      let n : length (take (limit + 1) l) ≡ limit + 1 = length-take-le (limit + 1) l t in
      let m : limit < length (take (limit + 1) l) = omega (arith, n) in
      let f : take limit (take (limit + 1) l) ≡ take limit l =
      sym (take-append-le limit (take (limit + 1) l) (drop (limit + 1) l) (omega arith)) ∙ ap (take limit) (take-append-drop (limit + 1) l) in
      rw (f, lt-leb (length (take (limit + 1) l)) limit m, lt-leb (length l) limit (omega arith)) refl)
      (lt_or_ge (length l) (limit + 1))

  all_more : (m l : List A) → all_in k m (filled k limit l) ≡ filled k limit (l ++ m)
  unfolding all_in
  all_more [] l = ap (filled k limit) (sym (append-nil l))
  all_more (x ∷ m) l = ap (all_in k m) (filled_more l x) ∙ all_more m (l ++ (x ∷ [])) ∙ ap (filled k limit) (append_snoc l x m)

  pub all_filled : (l : List A) → all_in k l (empty_of k limit) ≡ filled k limit l
  all_filled l = ap (all_in k l) filled_none ∙ all_more l []

-- what a loop took, once its iterator gives no more
pub took_all : {S A : Type 0} {steps : S → Option A → S → Type 0} {s : S} {xs all : List A} {r : Option A} (t u : S) → Yields steps s xs t → r ≡ None → steps t r u
    → YieldsList steps (λ x. x) s all → xs ≡ all
took_all {xs = xs} {r = r} t u y e p road = sym (map-id xs) ∙ (YieldsList-end road xs t y r u e p).0
