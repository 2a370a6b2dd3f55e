-- Laws of a list's places: an append, a rewrite and a pop of the list, each as one on the places. Assumes nothing.
use Prim.Native.Nat.{ℕ, zero, suc, ◌-◌, ◌≤◌, ◌<◌}
use mathlib.Core.Path.{◌≡◌, refl, ap, sym, ◌∙◌}
use mathlib.Core.Bool.{Bool, true, false, ◌&&◌}
use mathlib.Core.List.{List, [], ◌∷◌, ◌++◌}
use native.Mathlib.Omega.{arith}
use lib.ListN.{length, take, drop, set, replicate, length-append, length-drop, length-set, take-append-drop}
use lib.Seq.{set_at, set-append_left, append_snoc, length-take-le, take-append_seam, drop-append_seam}
use Rattle.std.specs.List.{list_all}
use Rattle.defs.proofs.Basics.{both}
use Rattle.queue.specs.Queue.{padded, all}

-- ---- the places past the items

pub listed_all : {A : Type 0} (test : A → Bool) (l : List A) → list_all test l ≡ all test l
unfolding all
listed_all test [] = refl
listed_all test (x ∷ l) = ap (λ (b : Bool). test x && b) (listed_all test l)

pub all_append : {A : Type 0} (test : A → Bool) (l m : List A) → all test (l ++ m) ≡ all test l && all test m
unfolding all
all_append test [] m = refl
all_append test (x ∷ l) m = rw (all_append test l m) (grouped (test x) (all test l) (all test m))
  where
    grouped : (x y z : Bool) → x && (y && z) ≡ (x && y) && z
    grouped true y z = refl
    grouped false y z = refl

-- ---- places and lists: N places, zero items z past the items

module _ {A : Type 0} (N : ℕ) (z : A) where
  alike : (test : A → Bool) → ((x : A) → test x ≡ true → x ≡ z) → (l : List A) → all test l ≡ true → l ≡ replicate (length l) z
  unfolding all
  alike test says [] e = refl
  alike test says (x ∷ l) e = let p = both (test x) (all test l) e in rw (← alike test says l p.1, says x p.0)

  -- places whose rest is zero are those of the items before
  pub places_are : (test : A → Bool) → ((x : A) → test x ≡ true → x ≡ z) → (q : List A) (n : ℕ) → length q ≡ N → n ≤ N → all test (drop n q) ≡ true
      → q ≡ padded N z (take n q)
  places_are test says q n e h t =
      sym (take-append-drop n q)
      ∙ ap (λ (r : List A). take n q ++ r)
      (alike test says (drop n q) t
      ∙ ap (λ (k : ℕ). replicate k z) (let k : length (drop n q) ≡ N - length (take n q) = omega (arith, length-drop n q, length-take-le n q (omega arith)) in k))

  pub items_of : (l : List A) → take (length l) (padded N z l) ≡ l
  items_of l = take-append_seam l (replicate (N - length l) z)

  pub places_append : (l : List A) (x : A) → length l < N → set (padded N z l) (length l) x ≡ padded N z (l ++ (x ∷ []))
  places_append l x h =
      let k : N - length l ≡ suc (N - length (l ++ (x ∷ []))) = omega (arith, length-append l (x ∷ [])) in
      ap (λ (k : ℕ). set (l ++ replicate k z) (length l) x) k
      ∙ set_at l z (replicate (N - length (l ++ (x ∷ []))) z) x (length l) refl
      ∙ sym (append_snoc l x _)

  pub places_set : (l : List A) (k : ℕ) (x : A) → k < length l → set (padded N z l) k x ≡ padded N z (set l k x)
  places_set l k x h =
      set-append_left l (replicate (N - length l) z) k x h
      ∙ ap (λ (n : ℕ). set l k x ++ replicate (N - n) z) (sym (length-set l k x))

  -- the items moved up, and the freed place zero
  pub places_up : (l : List A) → 0 < length l → length l ≤ N → drop 1 l ++ (z ∷ drop (length l) (padded N z l)) ≡ padded N z (drop 1 l)
  places_up l h m =
      ap (λ (t : List A). drop 1 l ++ (z ∷ t)) (drop-append_seam l (replicate (N - length l) z))
      ∙ ap (λ (n : ℕ). drop 1 l ++ replicate n z) (let e : suc (N - length l) ≡ N - length (drop 1 l) = omega (arith, length-drop 1 l) in e)

  -- other items, as many
  pub places_rearranged : (l m : List A) → length m ≡ length l → m ++ drop (length l) (padded N z l) ≡ padded N z m
  places_rearranged l m e =
      ap (λ (r : List A). m ++ r) (drop-append_seam l (replicate (N - length l) z))
      ∙ ap (λ (n : ℕ). m ++ replicate (N - n) z) (sym e)

  -- the places past the items are zero
  pub places_clear : (test : A → Bool) → test z ≡ true → (l : List A) → all test (drop (length l) (padded N z l)) ≡ true
  unfolding all
  places_clear test e l = ap (all test) (drop-append_seam l (replicate (N - length l) z)) ∙ by (N - length l)
    where
      by : (n : ℕ) → all test (replicate n z) ≡ true
      by zero = refl
      by (suc n) = rw e (by n)

-- ---- the first places

-- turned by one, and the last replaced
pub turned_set : {A : Type 0} (l rest : List A) (x : A) (n : ℕ) → length l ≡ n → 0 < n → set ((drop 1 l ++ take 1 l) ++ rest) (n - 1) x ≡ drop 1 l ++ (x ∷ rest)
turned_set [] rest x n e h = absurd (omega arith)
turned_set {A = A} (y ∷ l) rest x n e h = ap (λ (t : List A). set t (n - 1) x) (append_snoc l y rest) ∙ set_at l y rest x (n - 1) (omega arith)
