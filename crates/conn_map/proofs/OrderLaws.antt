-- What a build gathers is in slot order: the same list, with each slot put behind those before it. Assumes nothing.
use Prim.Native.Nat.{ℕ, suc, zero, ◌+◌, ◌<◌, ◌≤◌}
use mathlib.Core.Path.{◌≡◌, refl, ap, sym, subst, ◌∙◌}
use mathlib.Core.Bool.{Bool, true, false, ◌&&◌}
use mathlib.Core.List.{List, [], ◌∷◌, ◌++◌, map}
use mathlib.Core.Logic.{⊎_elim}
use lib.Dec.{ltb}
use lib.ListN.{length, get_or, take, length-append}
use lib.Seq.{length-take-le, take_all, take-append-le, get_or_at, get_or-take, take_at}
use borrow.Author.Tests.{lt-ltb, le-ltb}
use native.Mathlib.Omega.{arith}
use Rattle.defs.specs.Choice.{when}
use Rattle.defs.proofs.Basics.{lt_or_ge, true_or_false}
use Rattle.defs.proofs.ChoiceLaws.{when_true, when_false}
use Rattle.conn_map.specs.Table.{Slot, slot_at, slots_from, slots_of, chosen, gathered}
use Rattle.conn_map.specs.Order.{count_below, among_first, SmallerOf, InSlotOrder}
use Rattle.conn_map.specs.Promises.{GatheredInOrder}

-- one item more at the end, where a test holds
abbrev also : {A : Type 0} → List A → Bool → A → List A
also l b x = when b (l ++ (x ∷ [])) l

-- what the slots below n that pass give, the last put last
pub listed : {A : Type 0} → (ℕ → Bool) → (ℕ → A) → ℕ → List A
listed passes give zero = []
listed passes give (suc n) = also (listed passes give n) (passes n) (give n)

module _ {A : Type 0} (passes : ℕ → Bool) (give : ℕ → A) where
  pub listed_length : (n : ℕ) → length (listed passes give n) ≡ count_below passes n
  unfolding listed count_below when
  listed_length zero = refl
  listed_length (suc n) = by (passes n) (listed_length n)
    where
      by : (b : Bool) → length (listed passes give n) ≡ count_below passes n → length (also (listed passes give n) b (give n)) ≡ when b 1 0 + count_below passes n
      by true e = omega (arith, e, length-append (listed passes give n) (give n ∷ []))
      by false e = omega (arith, e)

  -- an item more leaves the places before it
  before : (l : List A) (x d : A) (b : Bool) (i : ℕ) → i < length l → get_or (also l b x) i d ≡ get_or l i d
  unfolding when
  before l x d true i h =
      sym (get_or-take (length l) (l ++ (x ∷ [])) i d h) ∙ ap (λ (r : List A). get_or r i d) (take_at l (x ∷ []) (length l) refl)
  before l x d false i h = refl

  -- a slot that passes is counted among those below any later one
  counted : (i n : ℕ) → i < n → passes i ≡ true → count_below passes i < count_below passes n
  unfolding count_below when
  counted i zero h e = absurd (omega arith)
  counted i (suc n) h e =
      ⊎_elim
      (λ (t : i < n). later (passes n) (counted i n t e))
      (λ (t : n ≤ i). let z : i ≡ n = omega arith in met (passes n) (sym (ap passes z) ∙ e) (ap (count_below passes) z))
      (lt_or_ge i n)
    where
      later : (b : Bool) → count_below passes i < count_below passes n → count_below passes i < when b 1 0 + count_below passes n
      later true k = omega arith
      later false k = omega arith

      met : (b : Bool) → b ≡ true → count_below passes i ≡ count_below passes n → count_below passes i < when b 1 0 + count_below passes n
      met b z k = rw z (omega arith)

  listed_each : (d : A) (n i : ℕ) → i < n → passes i ≡ true → get_or (listed passes give n) (count_below passes i) d ≡ give i
  unfolding listed
  listed_each d zero i h e = absurd (omega arith)
  listed_each d (suc n) i h e =
      ⊎_elim
      (λ (t : i < n).
      before (listed passes give n) (give n) d (passes n) (count_below passes i) (let k = counted i n t e in omega (arith, listed_length n)) ∙ listed_each d n i t e)
      (λ (t : n ≤ i).
      let z : n ≡ i = omega arith in
      ap (λ (l : List A). get_or l (count_below passes i) d) (when_true _ _ _ (ap passes z ∙ e))
      ∙ get_or_at (listed passes give n) (give n) [] d (count_below passes i) (listed_length n ∙ ap (count_below passes) z)
      ∙ ap give z)
      (lt_or_ge i n)

  pub listed_in_order : (d : A) (n : ℕ) → InSlotOrder n passes give d (listed passes give n)
  listed_in_order d n = record { each = λ i h e. listed_each d n i h e; no_more = listed_length n }

  -- the first of them are those with few before
  pub listed_first : (most n : ℕ) → take most (listed passes give n) ≡ listed (among_first most passes) give n
  unfolding listed
  listed_first zero zero = refl
  listed_first (suc most) zero = refl
  listed_first most (suc n) =
      let l : List A = listed passes give n in
      ⊎_elim
      (λ (e : passes n ≡ true).
      ap (take most) (when_true _ _ _ e)
      ∙ ⊎_elim
      (λ (h : count_below passes n < most).
      take_all most (l ++ (give n ∷ [])) (omega (arith, listed_length n, length-append l (give n ∷ [])))
      ∙ ap (λ (r : List A). r ++ (give n ∷ [])) (sym (take_all most l (omega (arith, listed_length n))) ∙ listed_first most n)
      ∙ sym (when_true _ _ _ (both_hold e (lt-ltb _ _ h))))
      (λ (h : most ≤ count_below passes n).
      take-append-le most l (give n ∷ []) (omega (arith, listed_length n)) ∙ listed_first most n ∙ sym (when_false _ _ _ (second_fails (le-ltb _ _ h))))
      (lt_or_ge (count_below passes n) most))
      (λ (e : passes n ≡ false). ap (take most) (when_false _ _ _ e) ∙ listed_first most n ∙ sym (when_false _ _ _ (first_fails e)))
      (true_or_false (passes n))
    where
      both_hold : passes n ≡ true → ltb (count_below passes n) most ≡ true → among_first most passes n ≡ true
      both_hold e f = rw (e, f)

      first_fails : passes n ≡ false → among_first most passes n ≡ false
      first_fails e = rw e

      second_fails : ltb (count_below passes n) most ≡ false → among_first most passes n ≡ false
      second_fails f = by (passes n)
        where
          by : (b : Bool) → b && ltb (count_below passes n) most ≡ false
          by true = f
          by false = refl

-- the first of a list are as many as asked for, or all
pub take_smaller : {A : Type 0} (most : ℕ) (l : List A) (n : ℕ) → length l ≡ n → SmallerOf (length (take most l)) most n
take_smaller most l n e = (λ h. length-take-le most l (omega (arith, e)), λ h. ap length (take_all most l (omega (arith, e))) ∙ e)

-- ---- of a list, those that pass

chosen_also : {A : Type 0} (test : A → Bool) (l : List A) (x : A) → chosen test (l ++ (x ∷ [])) ≡ also (chosen test l) (test x) x
unfolding chosen when
chosen_also test [] x = refl
chosen_also {A} test (y ∷ l) x = by (test y) (test x) (chosen_also test l x)
  where
    by : (b c : Bool) → chosen test (l ++ (x ∷ [])) ≡ also (chosen test l) c x
        → when b (y ∷ chosen test (l ++ (x ∷ []))) (chosen test (l ++ (x ∷ []))) ≡ also (when b (y ∷ chosen test l) (chosen test l)) c x
    by true true e = ap (λ (r : List A). y ∷ r) e
    by true false e = ap (λ (r : List A). y ∷ r) e
    by false c e = e

pub listed_chosen : {A : Type 0} (passes : ℕ → Bool) (give : ℕ → A) (test : A → Bool) (n : ℕ)
    → chosen test (listed passes give n) ≡ listed (λ (i : ℕ). passes i && test (give i)) give n
unfolding listed chosen when
listed_chosen passes give test zero = refl
listed_chosen {A} passes give test (suc n) = by (passes n) (listed_chosen passes give test n)
  where
    l : List A
    l = listed passes give n

    m : List A
    m = listed (λ (i : ℕ). passes i && test (give i)) give n

    by : (b : Bool) → chosen test l ≡ m → chosen test (also l b (give n)) ≡ also m (b && test (give n)) (give n)
    by true e = chosen_also test l (give n) ∙ ap (λ (r : List A). also r (test (give n)) (give n)) e
    by false e = e

-- ---- what the slots of a table give

module _ {A : Type 0} (test : Slot → Bool) (make : Slot → A) (ports used marks : List ℕ) where
  slots_also : (i n : ℕ) → slots_from ports used marks i (suc n) ≡ slots_from ports used marks i n ++ (slot_at ports used marks (i + n) ∷ [])
  unfolding slots_from
  slots_also i zero = ap (λ (k : ℕ). slot_at ports used marks k ∷ []) (let z : i ≡ i + 0 = omega arith in z)
  slots_also i (suc n) =
      ap (λ (r : List Slot). slot_at ports used marks i ∷ r)
      (slots_also (suc i) n ∙ ap (λ (k : ℕ). slots_from ports used marks (suc i) n ++ (slot_at ports used marks k ∷ [])) (let z : suc i + n ≡ i + suc n = omega arith in z))

  gathered_also : (l : List Slot) (x : Slot) → gathered test make (l ++ (x ∷ [])) ≡ also (gathered test make l) (test x) (make x)
  unfolding gathered when
  gathered_also l x = ap (map make) (chosen_also test l x) ∙ by (test x)
    where
      mapped : (l : List Slot) → map make (l ++ (x ∷ [])) ≡ map make l ++ (make x ∷ [])
      mapped [] = refl
      mapped (y ∷ l) = ap (λ (r : List A). make y ∷ r) (mapped l)

      by : (b : Bool) → map make (also (chosen test l) b x) ≡ also (map make (chosen test l)) b (make x)
      by true = mapped (chosen test l)
      by false = refl

  none_gathered : gathered test make (slots_from ports used marks 0 0) ≡ []
  unfolding gathered chosen slots_from
  none_gathered = refl

  from_listed : (n : ℕ) → gathered test make (slots_from ports used marks 0 n) ≡ listed (λ (i : ℕ). test (slot_at ports used marks i)) (λ (i : ℕ). make (slot_at ports used marks i)) n
  unfolding listed
  from_listed zero = none_gathered
  from_listed (suc n) =
      ap (gathered test make) (slots_also 0 n ∙ ap (λ (k : ℕ). slots_from ports used marks 0 n ++ (slot_at ports used marks k ∷ [])) (let z : 0 + n ≡ n = omega arith in z))
      ∙ gathered_also (slots_from ports used marks 0 n) (slot_at ports used marks n)
      ∙ ap (λ (r : List A). also r (test (slot_at ports used marks n)) (make (slot_at ports used marks n))) (from_listed n)

  pub gathered_listed : gathered test make (slots_of ports used marks) ≡ listed (λ (i : ℕ). test (slot_at ports used marks i)) (λ (i : ℕ). make (slot_at ports used marks i)) (length ports)
  unfolding slots_of
  gathered_listed = from_listed (length ports)

-- what is said of a list is said of the same list
pub by_list : {A : Type 0} {slots : ℕ} {passes : ℕ → Bool} {give : ℕ → A} {nothing : A} {l m : List A} → l ≡ m → InSlotOrder slots passes give nothing l
    → InSlotOrder slots passes give nothing m
by_list {slots = slots} {passes = passes} {give = give} {nothing = nothing} e o = subst (λ (r : List _). InSlotOrder slots passes give nothing r) e o

pub gathered_in_order : GatheredInOrder
gathered_in_order A test make nothing ports used marks =
    by_list (sym (gathered_listed test make ports used marks)) (listed_in_order _ _ nothing (length ports))
