-- Laws of a list that is turned, and of the places that are counted round the limit. Assumes nothing.
use Prim.Native.Nat.{ℕ, suc, ◌+◌, ◌-◌, ◌%◌, ◌≤◌, ◌<◌}
use mathlib.Core.Path.{◌≡◌, refl, ap, ap₂, sym, ◌∙◌}
use mathlib.Core.Logic.{◌⊎◌, ⊎_elim, inl, inr}
use mathlib.Core.Bool.{Bool, true, false, ◌&&◌}
use mathlib.Core.List.{List, [], ◌∷◌, ◌++◌, append_assoc}
use native.Mathlib.Nat.{mod-eq_of_lt, add-mod_right, min-eq_left, min-eq_right}
use native.Mathlib.Omega.{arith}
use borrow.Author.Tests.{lt-ltb, le-ltb}
use lib.ListN.{length, get_or, take, drop, set, replicate, length-append, length-drop, length-take, length-replicate, take-append-drop, replicate-append-replicate, get_or-append}
use lib.Seq.{take_all, set-append_left, length-take-le, take-take, drop-drop, take-append-le, drop-append-le, drop-append-add, take_at, drop_at, get_or-append-add, get_or-take, get_or-drop, take-set-le, take-set-lt, drop-set-lt, drop-set-add}
use Rattle.defs.proofs.Basics.{lt_or_ge}
use Rattle.defs.proofs.ChoiceLaws.{when_true, when_false}
use Rattle.queue.specs.Queue.{all, padded, turned, place_after, used_past, used_round}
use Rattle.std.proofs.lemmas.List.{drop_all}
use Rattle.queue.proofs.PlacesLaws.{all_append}
use Rattle.queue.specs.Promises.{PlaceAfterMeans, UsedMeans}

-- ---- places counted from the front

module _ (front n limit : ℕ) where
  pub place_ahead : n < limit - front → place_after front n limit ≡ front + n
  unfolding place_after
  place_ahead h = when_true _ _ _ (lt-ltb n (limit - front) h)

  pub place_round : limit - front ≤ n → place_after front n limit ≡ n - (limit - front)
  unfolding place_after
  place_round h = when_false _ _ _ (le-ltb n (limit - front) h)

-- the front itself
pub place_front : (front limit : ℕ) → front < limit → place_after front 0 limit ≡ front
place_front front limit h = place_ahead front 0 limit (omega arith) ∙ (let e : front + 0 ≡ front = omega arith in e)

pub place_within : (front n limit : ℕ) → front < limit → n ≤ limit → place_after front n limit < limit
place_within front n limit f h =
    ⊎_elim
    (λ (t : n < limit - front). omega (arith, place_ahead front n limit t))
    (λ (t : limit - front ≤ n). omega (arith, place_round front n limit t))
    (lt_or_ge n (limit - front))

pub place_mod : PlaceAfterMeans
place_mod front n limit f h =
    ⊎_elim
    (λ (t : n < limit - front). place_ahead front n limit t ∙ sym (mod-eq_of_lt (let z : front + n < limit = omega arith in z)))
    (λ (t : limit - front ≤ n).
    let m : ℕ = n - (limit - front) in
    let e : front + n ≡ m + limit = omega arith in
    place_round front n limit t ∙ sym (ap (λ (x : ℕ). x % limit) e ∙ add-mod_right m limit ∙ mod-eq_of_lt (let z : m < limit = omega arith in z)))
    (lt_or_ge n (limit - front))

-- ---- a list turned

module _ {A : Type 0} where
  pub turned_length : (n : ℕ) (l : List A) → length (turned n l) ≡ length l
  turned_length n l = omega (arith, length-append (drop n l) (take n l), length-drop n l, length-take n l)

  -- turned on by the rest of its length, it is as it was
  pub turned_back : (n m : ℕ) (l : List A) → length l ≡ m → n ≤ m → turned (m - n) (turned n l) ≡ l
  turned_back n m l e h =
      let k : length (drop n l) ≡ m - n = omega (arith, length-drop n l) in
      ap₂ (λ (x y : List A). x ++ y) (drop_at (drop n l) (take n l) (m - n) k) (take_at (drop n l) (take n l) (m - n) k) ∙ take-append-drop n l

  set_append_right : (xs ys : List A) (n : ℕ) (x : A) → set (xs ++ ys) (length xs + n) x ≡ xs ++ set ys n x
  set_append_right [] ys n x = ap (λ (k : ℕ). set ys k x) (let e : 0 + n ≡ n = omega arith in e)
  set_append_right (y ∷ xs) ys n x =
      ap (λ (k : ℕ). set (y ∷ (xs ++ ys)) k x) (let e : suc (length xs) + n ≡ suc (length xs + n) = omega arith in e)
      ∙ ap (λ (l : List A). y ∷ l) (set_append_right xs ys n x)

  -- a list of m items, turned so that its first stands at f: its item n stands at the place n on from f
  module _ (m f n : ℕ) (p : List A) (e : length p ≡ m) (h : f < m) (i : n < m) where
    ends : length (drop (m - f) p) ≡ f
    ends = omega (arith, length-drop (m - f) p)

    pub turned_get : (d : A) → get_or (turned (m - f) p) (place_after f n m) d ≡ get_or p n d
    turned_get d =
        ⊎_elim
        (λ (t : n < m - f).
        ap (λ (k : ℕ). get_or (turned (m - f) p) k d) (place_ahead f n m t ∙ ap (λ (k : ℕ). k + n) (sym ends))
        ∙ get_or-append-add (drop (m - f) p) (take (m - f) p) n d
        ∙ get_or-take (m - f) p n d t)
        (λ (t : m - f ≤ n).
        ap (λ (k : ℕ). get_or (turned (m - f) p) k d) (place_round f n m t)
        ∙ get_or-append (drop (m - f) p) (take (m - f) p) d (n - (m - f)) (omega (arith, ends))
        ∙ get_or-drop (m - f) p (n - (m - f)) d
        ∙ ap (λ (k : ℕ). get_or p k d) (let z : m - f + (n - (m - f)) ≡ n = omega arith in z))
        (lt_or_ge n (m - f))

    pub turned_set : (x : A) → set (turned (m - f) p) (place_after f n m) x ≡ turned (m - f) (set p n x)
    turned_set x =
        ⊎_elim
        (λ (t : n < m - f).
        ap (λ (k : ℕ). set (turned (m - f) p) k x) (place_ahead f n m t ∙ ap (λ (k : ℕ). k + n) (sym ends))
        ∙ set_append_right (drop (m - f) p) (take (m - f) p) n x
        ∙ sym (ap₂ (λ (a b : List A). a ++ b) (drop-set-lt (m - f) p n x t) (take-set-lt (m - f) p n x t)))
        (λ (t : m - f ≤ n).
        let z : n ≡ m - f + (n - (m - f)) = omega arith in
        ap (λ (k : ℕ). set (turned (m - f) p) k x) (place_round f n m t)
        ∙ set-append_left (drop (m - f) p) (take (m - f) p) (n - (m - f)) x (omega (arith, ends))
        ∙ sym
        (ap₂ (λ (a b : List A). a ++ b)
        (ap (λ (k : ℕ). drop (m - f) (set p k x)) z ∙ drop-set-add (m - f) p (n - (m - f)) x)
        (take-set-le (m - f) p n x t)))
        (lt_or_ge n (m - f))

  -- a zero item behind a list, or before it and the list turned by one place less
  one_less : (m f : ℕ) (z : A) (r : List A) → f < m → suc (length r) ≡ m → turned (m - f) (z ∷ r) ≡ turned (m - place_after f 1 m) (r ++ (z ∷ []))
  one_less m f z r h e =
      ⊎_elim
      (λ (t : 1 < m - f).
      let a : m - f ≡ suc (m - place_after f 1 m) = omega (arith, place_ahead f 1 m t) in
      let b : m - place_after f 1 m ≤ length r = omega (arith, place_ahead f 1 m t) in
      ap (λ (k : ℕ). turned k (z ∷ r)) a
      ∙ sym (append_assoc (drop (m - place_after f 1 m) r) (z ∷ []) (take (m - place_after f 1 m) r))
      ∙ sym (ap₂ (λ (x y : List A). x ++ y) (drop-append-le (m - place_after f 1 m) r (z ∷ []) b) (take-append-le (m - place_after f 1 m) r (z ∷ []) b)))
      (λ (t : m - f ≤ 1).
      let a : m - f ≡ 1 = omega arith in
      let b : m - place_after f 1 m ≡ m = omega (arith, place_round f 1 m t) in
      let c : length (r ++ (z ∷ [])) ≡ m = omega (arith, length-append r (z ∷ [])) in
      ap (λ (k : ℕ). turned k (z ∷ r)) a
      ∙ sym (ap (λ (k : ℕ). turned k (r ++ (z ∷ []))) b ∙ ap₂ (λ (x y : List A). x ++ y) (drop_all m (r ++ (z ∷ [])) (omega (arith, c))) (take_all m (r ++ (z ∷ [])) (omega (arith, c)))))
      (lt_or_ge 1 (m - f))

  -- the first item of a padded list cleared: what is left, padded, from a front that is one on
  pub turned_pop : (m f : ℕ) (z x : A) (l : List A) → f < m → length l < m
      → set (turned (m - f) (padded m z (x ∷ l))) f z ≡ turned (m - place_after f 1 m) (padded m z l)
  turned_pop m f z x l h i =
      let r : List A = l ++ replicate (m - suc (length l)) z in
      let n : suc (length r) ≡ m = omega (arith, length-append l (replicate (m - suc (length l)) z), length-replicate (m - suc (length l)) z) in
      let more : padded m z l ≡ r ++ (z ∷ []) =
      ap (λ (k : ℕ). l ++ replicate k z) (let e : m - length l ≡ m - suc (length l) + 1 = omega arith in e)
      ∙ ap (λ (t : List A). l ++ t) (sym (replicate-append-replicate (m - suc (length l)) 1 z))
      ∙ sym (append_assoc l (replicate (m - suc (length l)) z) (z ∷ [])) in
      ap (λ (k : ℕ). set (turned (m - f) (x ∷ r)) k z) (sym (place_front f m h))
      ∙ turned_set m f 0 (x ∷ r) n h (omega arith) z
      ∙ one_less m f z r h n
      ∙ ap (turned (m - place_after f 1 m)) (sym more)

-- ---- what is in use

module _ (front len limit : ℕ) where
  past_ahead : len < limit - front → used_past front len limit ≡ front + len
  unfolding used_past
  past_ahead h = min-eq_left (let z : front + len ≤ limit = omega arith in z)

  past_round : front < limit → limit - front ≤ len → used_past front len limit ≡ limit
  unfolding used_past
  past_round f h = min-eq_right (let z : limit ≤ front + len = omega arith in z)

  round_is : used_round front len limit ≡ front + len - limit
  unfolding used_round
  round_is = refl

pub used_means : UsedMeans
used_means front len limit n f h = (
  λ free. apart free (lt_or_ge n front),
  λ clear i j e. clash i j (place_mod front i limit f (omega arith) ∙ e) clear (lt_or_ge i (limit - front)),
)
  where
    r : used_round front len limit ≡ len - (limit - front)
    r = omega (arith, round_is front len limit)

    past : ((used_past front len limit ≡ front + len) × (len < limit - front)) ⊎ ((used_past front len limit ≡ limit) × (limit - front ≤ len))
    past =
        ⊎_elim (λ (t : len < limit - front). inl (past_ahead front len limit t, t)) (λ (t : limit - front ≤ len). inr (past_round front len limit f t, t)) (lt_or_ge len (limit - front))

    -- an item stands at n, if any does
    ahead : (i : ℕ) → i < limit - front → front + i ≡ n → (front + i) % limit ≡ n
    ahead i t e = mod-eq_of_lt (let z : front + i < limit = omega arith in z) ∙ e

    around : (i : ℕ) → front + i ≡ n + limit → n < limit → (front + i) % limit ≡ n
    around i e t = ap (λ (x : ℕ). x % limit) e ∙ add-mod_right n limit ∙ mod-eq_of_lt t

    apart : ((i : ℕ) → i < len → (front + i) % limit ≡ n → ⊥) → (n < front) ⊎ (front ≤ n) → ((used_round front len limit ≤ n) × (n < front)) ⊎ (used_past front len limit ≤ n)
    apart free (inl t) =
        inl (
          ⊎_elim
              (λ (u : n < len - (limit - front)). absurd (free (n + (limit - front)) (omega arith) (around (n + (limit - front)) (omega arith) (omega arith))))
              (λ (u : len - (limit - front) ≤ n). omega (arith, r))
              (lt_or_ge n (len - (limit - front))),
          t,
        )
    apart free (inr t) =
        inr
        (⊎_elim
        (λ (u : n < used_past front len limit).
        absurd
        (⊎_elim
        (λ (p : (used_past front len limit ≡ front + len) × (len < limit - front)).
        let a = p.0 in let b = p.1 in free (n - front) (omega arith) (ahead (n - front) (omega arith) (omega arith)))
        (λ (p : (used_past front len limit ≡ limit) × (limit - front ≤ len)).
        let a = p.0 in let b = p.1 in free (n - front) (omega arith) (ahead (n - front) (omega arith) (omega arith)))
        past))
        (λ (u : used_past front len limit ≤ n). u)
        (lt_or_ge n (used_past front len limit)))

    clash : (i : ℕ) → i < len → place_after front i limit ≡ n → ((used_round front len limit ≤ n) × (n < front)) ⊎ (used_past front len limit ≤ n) → (i < limit - front) ⊎ (limit - front ≤ i) → ⊥
    clash i j e (inl c) (inl t) = let a = c.1 in omega (arith, place_ahead front i limit t)
    clash i j e (inl c) (inr t) = let a = c.0 in omega (arith, place_round front i limit t, r)
    clash i j e (inr c) (inl t) =
        ⊎_elim
        (λ (p : (used_past front len limit ≡ front + len) × (len < limit - front)). let a = p.0 in omega (arith, place_ahead front i limit t))
        (λ (p : (used_past front len limit ≡ limit) × (limit - front ≤ len)). let a = p.0 in omega (arith, place_ahead front i limit t))
        past
    clash i j e (inr c) (inr t) =
        ⊎_elim
        (λ (p : (used_past front len limit ≡ front + len) × (len < limit - front)). let a = p.0 in let b = p.1 in omega arith)
        (λ (p : (used_past front len limit ≡ limit) × (limit - front ≤ len)). let a = p.0 in omega (arith, place_round front i limit t))
        past

-- what is not in use, of an array that reaches to the limit: the places behind the items, from the front on, and those past the limit
pub unused_parts : {A : Type 0} (test : A → Bool) (p : List A) (front len limit : ℕ) → limit ≤ length p → front < limit → len ≤ limit
    → all test (drop (used_round front len limit) (take front p)) && all test (drop (used_past front len limit) p)
    ≡ all test (drop len (turned front (take limit p))) && all test (drop limit p)
unused_parts {A} test p front len limit m f h = ⊎_elim ahead around (lt_or_ge len (limit - front))
  where
    swapped : (x y z : Bool) → x && (y && z) ≡ (y && x) && z
    swapped true true z = refl
    swapped true false z = refl
    swapped false true z = refl
    swapped false false z = refl

    t_is : length (drop front (take limit p)) ≡ limit - front
    t_is = omega (arith, length-drop front (take limit p), length-take-le limit p m)

    firsts : take front (take limit p) ≡ take front p
    firsts = take-take front limit p (omega arith)

    ahead : len < limit - front
        → all test (drop (used_round front len limit) (take front p)) && all test (drop (used_past front len limit) p)
        ≡ all test (drop len (turned front (take limit p))) && all test (drop limit p)
    ahead c =
        let r : used_round front len limit ≡ 0 = omega (arith, round_is front len limit) in
        let x : List A = drop (front + len) (take limit p) in
        let left : all test (drop (used_past front len limit) p) ≡ all test x && all test (drop limit p) =
        ap (λ (n : ℕ). all test (drop n p)) (past_ahead front len limit c)
        ∙ ap (λ (l : List A). all test (drop (front + len) l)) (sym (take-append-drop limit p))
        ∙ ap (all test) (drop-append-le (front + len) (take limit p) (drop limit p) (omega (arith, length-take-le limit p m)))
        ∙ all_append test x (drop limit p) in
        let right : all test (drop len (turned front (take limit p))) ≡ all test x && all test (take front p) =
        ap (all test) (drop-append-le len (drop front (take limit p)) (take front (take limit p)) (omega (arith, t_is)))
        ∙ ap₂ (λ (a b : List A). all test (a ++ b)) (drop-drop len front (take limit p)) firsts
        ∙ all_append test x (take front p) in
        ap₂ (λ (n : ℕ) (b : Bool). all test (drop n (take front p)) && b) r left
        ∙ swapped (all test (take front p)) (all test x) (all test (drop limit p))
        ∙ ap (λ (b : Bool). b && all test (drop limit p)) (sym right)

    around : limit - front ≤ len
        → all test (drop (used_round front len limit) (take front p)) && all test (drop (used_past front len limit) p)
        ≡ all test (drop len (turned front (take limit p))) && all test (drop limit p)
    around c =
        let right : drop len (turned front (take limit p)) ≡ drop (len - (limit - front)) (take front p) =
        ap (λ (n : ℕ). drop n (turned front (take limit p))) (let z : len ≡ length (drop front (take limit p)) + (len - (limit - front)) = omega (arith, t_is) in z)
        ∙ drop-append-add (drop front (take limit p)) (take front (take limit p)) (len - (limit - front))
        ∙ ap (drop (len - (limit - front))) firsts in
        ap₂ (λ (a b : ℕ). all test (drop a (take front p)) && all test (drop b p)) (let z : used_round front len limit ≡ len - (limit - front) = omega (arith, round_is front len limit) in z) (past_round front len limit f c)
        ∙ ap (λ (l : List A). all test l && all test (drop limit p)) (sym right)
