-- Marks and the sort find two used slots with the same ports exactly where there are such; each turn of the code's loops. Assumes nothing.
use Prim.Native.Nat.{ℕ, suc, zero, ◌+◌, ◌<◌}
use mathlib.Core.Path.{◌≡◌, refl, ap, sym, ◌∙◌}
use mathlib.Core.Bool.{Bool, true, false, not, ◌&&◌, ◌||◌}
use mathlib.Core.List.{List, [], ◌∷◌, ◌++◌, reverse}
use native.Mathlib.Omega.{arith}
use native.Mathlib.Numerals.{add-one}
use native.Mathlib.Nat.{mod-lt}
use borrow.Author.Tests.{eqb-true, eqb-false, eq-eqb, ne_eqb}
use lib.Dec.{eqb}
use lib.ListN.{length, get_or, take, set, length-set}
use lib.Seq.{get_or-set_same, get_or-set_other, take-suc-set}
use Rattle.std.proofs.lemmas.Grind.{reverse_onto}
use Rattle.defs.specs.Choice.{when}
use Rattle.defs.proofs.Basics.{never, neither}
use Rattle.defs.proofs.ChoiceLaws.{when_true, when_false, when_holds}
use Rattle.conn_map.specs.Table.{used_at, any_below, hit, distinct, chosen}
use Rattle.conn_map.specs.Distinct.{keys_to, has, twice, mark_count, mark_of, next_mark, marked, repeats, again}

-- ---- the ports of the used slots

module _ (ports used : List ℕ) where
  keys_has : (key n : ℕ) → has key (keys_to ports used n) ≡ any_below (hit ports used key) n
  unfolding has keys_to any_below hit when
  keys_has key zero = refl
  keys_has key (suc n) = by (used_at used n) (keys_has key n)
    where
      by : (b : Bool) → has key (keys_to ports used n) ≡ any_below (hit ports used key) n
          → has key (when b (get_or ports n 0 ∷ keys_to ports used n) (keys_to ports used n)) ≡ (b && eqb (get_or ports n 0) key) || any_below (hit ports used key) n
      by true e = ap (λ (r : Bool). eqb (get_or ports n 0) key || r) e
      by false e = e

  keys_twice : (n : ℕ) → twice (keys_to ports used n) ≡ any_below (λ (j : ℕ). used_at used j && any_below (hit ports used (get_or ports j 0)) j) n
  unfolding twice keys_to any_below when
  keys_twice zero = refl
  keys_twice (suc n) = by (used_at used n) (keys_twice n)
    where
      f : ℕ → Bool
      f j = used_at used j && any_below (hit ports used (get_or ports j 0)) j

      by : (b : Bool) → twice (keys_to ports used n) ≡ any_below f n
          → twice (when b (get_or ports n 0 ∷ keys_to ports used n) (keys_to ports used n)) ≡ (b && any_below (hit ports used (get_or ports n 0)) n) || any_below f n
      by true e = rw (keys_has (get_or ports n 0) n, e)
      by false e = e

  -- THE LAW: 01's test asks whether a port is there twice
  pub distinct_keys : distinct ports used ≡ not (twice (keys_to ports used (length ports)))
  unfolding distinct
  distinct_keys = ap not (sym (keys_twice (length ports)))

  pub keys_more : (i : ℕ) → (get_or used i 0 ≡ 0 → ⊥) → keys_to ports used (i + 1) ≡ get_or ports i 0 ∷ keys_to ports used i
  unfolding keys_to used_at
  keys_more i u = ap (keys_to ports used) (add-one i) ∙ when_true _ _ _ (ap not (ne_eqb (get_or used i 0) 0 u))

  pub keys_skip : (i : ℕ) → get_or used i 0 ≡ 0 → keys_to ports used (i + 1) ≡ keys_to ports used i
  unfolding keys_to used_at
  keys_skip i e = ap (keys_to ports used) (add-one i) ∙ when_false _ _ _ (ap not (eq-eqb (get_or used i 0) 0 e))

-- ---- a choice that misses nothing that is there twice

module _ (f : ℕ → Bool) where
  -- what is there again further on passes
  abbrev Caught : List ℕ → Type 0
  Caught [] = Unit
  Caught (x ∷ l) = (has x l ≡ true → f x ≡ true) × Caught l

  chosen_has : (key : ℕ) (l : List ℕ) → f key ≡ true → has key (chosen f l) ≡ has key l
  unfolding has chosen when
  chosen_has key [] e = refl
  chosen_has key (x ∷ l) e = by (f x) refl (eqb x key) refl (chosen_has key l e)
    where
      by : (b : Bool) → f x ≡ b → (c : Bool) → eqb x key ≡ c → has key (chosen f l) ≡ has key l → has key (when b (x ∷ chosen f l) (chosen f l)) ≡ c || has key l
      by true p c q ih = rw (q, ih)
      by false p true q ih = absurd (never (sym p ∙ ap f (eqb-true x key q) ∙ e))
      by false p false q ih = ih

  chosen_twice : (l : List ℕ) → Caught l → twice (chosen f l) ≡ twice l
  unfolding twice chosen when
  chosen_twice [] c = refl
  chosen_twice (x ∷ l) c = by (f x) refl (has x l) refl (chosen_twice l c.1)
    where
      by : (b : Bool) → f x ≡ b → (h : Bool) → has x l ≡ h → twice (chosen f l) ≡ twice l → twice (when b (x ∷ chosen f l) (chosen f l)) ≡ h || twice l
      by true p h q ih = rw (chosen_has x l p, q, ih)
      by false p true q ih = absurd (never (sym p ∙ c.0 q))
      by false p false q ih = ih

-- ---- marks

module _ (marks : List ℕ) (long : length marks ≡ mark_count) where
  pub marked_length : (l : List ℕ) → length (marked marks l) ≡ mark_count
  unfolding marked
  marked_length [] = long
  marked_length (x ∷ l) = length-set (marked marks l) (mark_of x) _ ∙ marked_length l

  mark_in : (key : ℕ) (l : List ℕ) → mark_of key < length (marked marks l)
  unfolding mark_of
  mark_in key l = rw (marked_length l) (mod-lt key (omega arith))

  -- a key's own mark after it
  mark_own : (x : ℕ) (l : List ℕ) → get_or (marked marks (x ∷ l)) (mark_of x) 0 ≡ next_mark (get_or (marked marks l) (mark_of x) 0)
  unfolding marked
  mark_own x l = get_or-set_same (marked marks l) (mark_of x) _ 0 (mark_in x l)

  mark_other : (x h : ℕ) (l : List ℕ) → (h ≡ mark_of x → ⊥) → get_or (marked marks (x ∷ l)) h 0 ≡ get_or (marked marks l) h 0
  unfolding marked
  mark_other x h l n = get_or-set_other (marked marks l) (mark_of x) h _ 0 n

  -- a mark that is left stays left, and one that is left again stays so
  next_left : (m : ℕ) → next_mark m ≡ 0 → ⊥
  unfolding next_mark
  next_left m = when_holds (λ (r : ℕ). r ≡ 0 → ⊥) (eqb m 0) _ _ (λ e z. omega arith) (λ e z. omega arith)

  next_again : (m : ℕ) → (m ≡ 0 → ⊥) → next_mark m ≡ 2
  unfolding next_mark
  next_again m n = when_false _ _ _ (ne_eqb m 0 n)

  stays_left : (x h : ℕ) (l : List ℕ) → (get_or (marked marks l) h 0 ≡ 0 → ⊥) → get_or (marked marks (x ∷ l)) h 0 ≡ 0 → ⊥
  stays_left x h l n e = by (eqb h (mark_of x)) refl
    where
      by : (b : Bool) → eqb h (mark_of x) ≡ b → ⊥
      by true q = next_left _ (sym (mark_own x l) ∙ ap (λ (k : ℕ). get_or (marked marks (x ∷ l)) k 0) (sym (eqb-true _ _ q)) ∙ e)
      by false q = n (sym (mark_other x h l (eqb-false _ _ q)) ∙ e)

  stays_again : (x h : ℕ) (l : List ℕ) → get_or (marked marks l) h 0 ≡ 2 → get_or (marked marks (x ∷ l)) h 0 ≡ 2
  stays_again x h l e = by (eqb h (mark_of x)) refl
    where
      by : (b : Bool) → eqb h (mark_of x) ≡ b → get_or (marked marks (x ∷ l)) h 0 ≡ 2
      by true q =
          let p : h ≡ mark_of x = eqb-true _ _ q in
          ap (λ (k : ℕ). get_or (marked marks (x ∷ l)) k 0) p ∙ mark_own x l ∙ next_again _ (λ z. let y : get_or (marked marks l) h 0 ≡ 0 = ap (λ (k : ℕ). get_or (marked marks l) k 0) p ∙ z in omega arith)
      by false q = mark_other x h l (eqb-false _ _ q) ∙ e

  -- a key that is there has left its mark
  has_left : (key : ℕ) (l : List ℕ) → has key l ≡ true → get_or (marked marks l) (mark_of key) 0 ≡ 0 → ⊥
  unfolding has
  has_left key [] e z = never e
  has_left key (x ∷ l) e z = by (eqb x key) refl (has_left key l)
    where
      by : (b : Bool) → eqb x key ≡ b → (has key l ≡ true → get_or (marked marks l) (mark_of key) 0 ≡ 0 → ⊥) → ⊥
      by true q ih = next_left _ (sym (mark_own x l) ∙ ap (λ (k : ℕ). get_or (marked marks (x ∷ l)) (mark_of k) 0) (eqb-true x key q) ∙ z)
      by false q ih = stays_left x (mark_of key) l (ih (rw q at e)) z

  -- what is there twice is caught by the marks, and by all that come of them
  all_caught : (l all : List ℕ) → ((h : ℕ) → get_or (marked marks l) h 0 ≡ 2 → get_or all h 0 ≡ 2) → Caught (again all) l
  unfolding again
  all_caught [] all k = tt
  all_caught (x ∷ l) all k = (
    λ e. eq-eqb _ 2 (k (mark_of x) (mark_own x l ∙ next_again _ (has_left x l e))),
    all_caught l all (λ h e. k h (stays_again x h l e)),
  )

  -- THE LAW: only what has left its mark again need be compared
  pub doubtful_twice : (l : List ℕ) → twice (chosen (again (marked marks l)) l) ≡ twice l
  doubtful_twice l = chosen_twice (again (marked marks l)) l (all_caught l (marked marks l) (λ h e. e))

  -- and where no key finds its mark left already nothing is there twice
  pub no_repeat : (l : List ℕ) → repeats marks l ≡ false → twice l ≡ false
  unfolding repeats twice
  no_repeat [] e = refl
  no_repeat (x ∷ l) e =
      let n = neither (repeats marks l) _ e in
      by (has x l) refl n.1 (no_repeat l n.0)
    where
      by : (b : Bool) → has x l ≡ b → not (eqb (get_or (marked marks l) (mark_of x) 0) 0) ≡ false → twice l ≡ false → b || twice l ≡ false
      by true p n ih = absurd (never (sym n ∙ ap not (ne_eqb _ 0 (has_left x l p))))
      by false p n ih = ih

-- ---- what the code's two ways say of a table

module _ (ports used marks : List ℕ) (long : length marks ≡ mark_count) where
  pub doubtful_decide : not (twice (chosen (again (marked marks (keys_to ports used (length ports)))) (keys_to ports used (length ports)))) ≡ distinct ports used
  doubtful_decide = ap not (doubtful_twice marks long (keys_to ports used (length ports))) ∙ sym (distinct_keys ports used)

  pub none_doubtful : repeats marks (keys_to ports used (length ports)) ≡ false → distinct ports used ≡ true
  none_doubtful e = distinct_keys ports used ∙ ap not (no_repeat marks long (keys_to ports used (length ports)) e)

-- ---- the turns of the marking

pub marks_start : (ports used marks : List ℕ) → marks ≡ marked marks (keys_to ports used 0)
unfolding marked keys_to
marks_start ports used marks = refl

pub finds_start : (ports used marks : List ℕ) → false ≡ repeats marks (keys_to ports used 0)
unfolding repeats keys_to
finds_start ports used marks = refl

module _ (ports used marks next : List ℕ) (i : ℕ) (m : next ≡ marked marks (keys_to ports used i)) where
  module _ (u : get_or used i 0 ≡ 0 → ⊥) (h : ℕ) (e : h ≡ mark_of (get_or ports i 0)) where
    pub marks_one : set next h (next_mark (get_or next h 0)) ≡ marked marks (keys_to ports used (i + 1))
    unfolding marked
    marks_one = rw (e, m) (ap (marked marks) (sym (keys_more ports used i u)))

    pub finds_one : (found : Bool) → found ≡ repeats marks (keys_to ports used i) → found || not (eqb (get_or next h 0) 0) ≡ repeats marks (keys_to ports used (i + 1))
    unfolding repeats
    finds_one found f = rw (e, m, f) (ap (repeats marks) (sym (keys_more ports used i u)))

  pub marks_none : get_or used i 0 ≡ 0 → next ≡ marked marks (keys_to ports used (i + 1))
  marks_none u = m ∙ ap (marked marks) (sym (keys_skip ports used i u))

pub finds_none : (ports used marks : List ℕ) (i : ℕ) (found : Bool) → get_or used i 0 ≡ 0 → found ≡ repeats marks (keys_to ports used i) → found ≡ repeats marks (keys_to ports used (i + 1))
finds_none ports used marks i found u f = f ∙ ap (repeats marks) (sym (keys_skip ports used i u))

-- ---- the turns of the gathering

-- none is gathered yet
pub none_gathered : (ports used marks out : List ℕ) → take 0 out ≡ reverse (chosen (again marks) (keys_to ports used 0))
unfolding chosen keys_to
none_gathered ports used marks out = refl

module _ (ports used marks : List ℕ) (i : ℕ) (out : List ℕ) (n : ℕ) (e : take n out ≡ reverse (chosen (again marks) (keys_to ports used i))) where
  module _ (u : get_or used i 0 ≡ 0 → ⊥) (h : ℕ) (p : h ≡ mark_of (get_or ports i 0)) where
    chosen_is : chosen (again marks) (keys_to ports used (i + 1)) ≡ when (eqb (get_or marks h 0) 2) (get_or ports i 0 ∷ chosen (again marks) (keys_to ports used i)) (chosen (again marks) (keys_to ports used i))
    unfolding chosen again
    chosen_is = ap (chosen (again marks)) (keys_more ports used i u) ∙ rw p

    pub takes_one : n < length out → get_or marks h 0 ≡ 2 → take (n + 1) (set out n (get_or ports i 0)) ≡ reverse (chosen (again marks) (keys_to ports used (i + 1)))
    takes_one l q =
        ap (λ (k : ℕ). take k (set out n (get_or ports i 0))) (add-one n)
        ∙ take-suc-set out n _ l
        ∙ ap (λ (t : List ℕ). t ++ (get_or ports i 0 ∷ [])) e
        ∙ sym (reverse_onto (chosen (again marks) (keys_to ports used i)) (get_or ports i 0) [])
        ∙ ap reverse (sym (chosen_is ∙ when_true _ _ _ (eq-eqb _ 2 q)))

    pub leaves_one : (get_or marks h 0 ≡ 2 → ⊥) → take n out ≡ reverse (chosen (again marks) (keys_to ports used (i + 1)))
    leaves_one q = e ∙ ap reverse (sym (chosen_is ∙ when_false _ _ _ (ne_eqb _ 2 q)))

  pub skips_one : get_or used i 0 ≡ 0 → take n out ≡ reverse (chosen (again marks) (keys_to ports used (i + 1)))
  skips_one u = e ∙ ap (λ (t : List ℕ). reverse (chosen (again marks) t)) (sym (keys_skip ports used i u))
