-- The test of a table means that no two used slots have the same ports; a walk over the slots. Assumes nothing.
use Prim.Native.Nat.{ℕ, suc, zero, ◌/◌, ◌%◌, ◌^◌, ◌<◌, ◌≤◌}
use mathlib.Core.Path.{◌≡◌, refl, ap, sym, ◌∙◌}
use mathlib.Core.Bool.{Bool, true, false, not, ◌&&◌, ◌||◌}
use mathlib.Core.List.{List, [], ◌∷◌, map}
use mathlib.Core.Logic.{⊎_elim}
use lib.ListN.{length, get_or}
use lib.Dec.{eqb, leb, ltb}
use borrow.Author.Tests.{eqb-true, eqb-false, eq-eqb, ne_eqb, le-leb, leb-true, ltb-true, ltb-false}
use native.Mathlib.Omega.{arith}
use Rattle.std.specs.Prelude.{cond, filter}
use Rattle.std.specs.List.{zip}
use Rattle.defs.specs.Choice.{when}
use Rattle.defs.specs.Limits.{min_slots, max_slots, is_slot_count}
use Rattle.defs.specs.Promises.{Exactly}
use Rattle.defs.proofs.Basics.{both, both_true, never, true_or_false, or_left, or_right}
use Rattle.defs.proofs.MeansLaws.{some_means}
use Rattle.conn_map.specs.Key.{key_of}
use Rattle.conn_map.specs.Table.{Slot, slot_at, slots_from, slots_of, chosen, gathered, any_below, used_at, hit, distinct, sound_table}
use Rattle.conn_map.specs.Promises.{SamePorts, NoTwoAlike, SoundMeans, NumberIsPorts}

clashing : {A : Type 0} (b : Bool) → b ≡ true → b ≡ false → A
clashing b e f = absurd (never (sym f ∙ e))

-- a number below n that passes
pub record Some (f : ℕ → Bool) (n : ℕ) : Type 0 where
  pub at : ℕ
  pub below : at < n
  pub passes : f at ≡ true

pub some : (f : ℕ → Bool) (n : ℕ) → any_below f n ≡ true → Some f n
unfolding any_below
some f zero e = clashing false e refl
some f (suc n) e = go (f n) refl (λ k. some f n k)
  where
    go : (b : Bool) → f n ≡ b → (any_below f n ≡ true → Some f n) → Some f (suc n)
    go true h ih = record { at = n; below = omega arith; passes = h }
    go false h ih = let r = ih (rw h at e) in record { at = r.at; below = omega (arith, r.below); passes = r.passes }

lower : (i n : ℕ) → i < suc n → (i ≡ n → ⊥) → i < n
lower i n h ne = by (ltb i n) refl
  where
    by : (t : Bool) → ltb i n ≡ t → i < n
    by true z = ltb-true i n z
    by false z = absurd (ne (omega (arith, ltb-false i n z)))

pub any : (f : ℕ → Bool) (n i : ℕ) → i < n → f i ≡ true → any_below f n ≡ true
unfolding any_below
any f zero i h e = absurd (omega arith)
any f (suc n) i h e = go (eqb i n) refl (λ k. any f n i k e)
  where
    go : (b : Bool) → eqb i n ≡ b → (i < n → any_below f n ≡ true) → f n || any_below f n ≡ true
    go true k ih = or_left (f n) _ (rw (← (eqb-true i n k)) e)
    go false k ih = or_right (f n) _ (ih (lower i n h (eqb-false i n k)))

module _ (ports used : List ℕ) where
  -- slots i and j, i below j, both used, with the same ports
  pub record Clash : Type 0 where
    pub i : ℕ
    pub j : ℕ
    pub order : i < j
    pub inside : j < length ports
    pub used_i : used_at used i ≡ true
    pub used_j : used_at used j ≡ true
    pub same : get_or ports i 0 ≡ get_or ports j 0

  hit_used : (key i : ℕ) → hit ports used key i ≡ true → (used_at used i ≡ true) × (get_or ports i 0 ≡ key)
  unfolding hit
  hit_used key i e = let p = both (used_at used i) _ e in (p.0, eqb-true _ _ p.1)

  used_hit : (key i : ℕ) → used_at used i ≡ true → get_or ports i 0 ≡ key → hit ports used key i ≡ true
  unfolding hit
  used_hit key i u e = both_true _ _ u (eq-eqb _ _ e)

  pub clash_of : distinct ports used ≡ false → Clash
  unfolding distinct
  clash_of e =
      let x = some _ (length ports) (not_not _ e) in
      let p = both (used_at used x.at) _ x.passes in
      let y = some (hit ports used (get_or ports x.at 0)) x.at p.1 in
      let q = hit_used (get_or ports x.at 0) y.at y.passes in
      record { i = y.at; j = x.at; order = y.below; inside = x.below; used_i = q.0; used_j = p.0; same = q.1 }
    where
      not_not : (b : Bool) → not b ≡ false → b ≡ true
      not_not true e = refl
      not_not false e = sym e

  pub of_clash : Clash → distinct ports used ≡ false
  unfolding distinct
  of_clash c =
      let f : ℕ → Bool = λ (j : ℕ). used_at used j && any_below (hit ports used (get_or ports j 0)) j in
      let a : any_below (hit ports used (get_or ports c.j 0)) c.j ≡ true = any (hit ports used (get_or ports c.j 0)) c.j c.i c.order (used_hit _ c.i c.used_i c.same) in
      let b : any_below f (length ports) ≡ true = any f (length ports) c.j c.inside (both_true _ _ c.used_j a) in
      ap not b

-- ---- what the test means

pub number_is_ports : NumberIsPorts
unfolding key_of
number_is_ports ports = (omega arith, omega arith)

same_number : (a b : ℕ) → SamePorts a b → a ≡ b
same_number a b s = omega (arith, s.0, s.1)

used_means : (used : List ℕ) (i : ℕ) → Exactly (used_at used i ≡ true) (0 < get_or used i 0)
unfolding used_at
used_means used i = some_means (get_or used i 0)

distinct_means : (ports used : List ℕ) → Exactly (distinct ports used ≡ true) (NoTwoAlike ports used)
distinct_means ports used = (
  λ d i j o h u v k. never (sym (of_clash ports used (record { i = i; j = j; order = o; inside = h; used_i = (used_means used i).1 u; used_j = (used_means used j).1 v; same = same_number _ _ k })) ∙ d),
  λ n.
      ⊎_elim
      (λ (d : distinct ports used ≡ true). d)
      (λ (d : distinct ports used ≡ false).
      let c = clash_of ports used d in
      absurd
      (n c.i c.j c.order c.inside ((used_means used c.i).0 c.used_i) ((used_means used c.j).0 c.used_j)
      (ap (λ (p : ℕ). p / 2 ^ 32) c.same, ap (λ (p : ℕ). p % 2 ^ 32) c.same)))
      (true_or_false (distinct ports used)),
)

pub sound_means : SoundMeans
unfolding sound_table is_slot_count
sound_means ports used marks = (
  λ e.
      let a = both (is_slot_count (length ports)) _ e in
      let n = both (leb min_slots (length ports)) (leb (length ports) max_slots) a.0 in
      let b = both (eqb (length used) (length ports)) _ a.1 in
      let d = both (eqb marks (length ports)) _ b.1 in
      (leb-true _ _ n.0, leb-true _ _ n.1, eqb-true _ _ b.0, eqb-true _ _ d.0, (distinct_means ports used).0 d.1),
  λ p. rw (le-leb min_slots _ p.0, le-leb _ max_slots p.1, eq-eqb _ _ p.2, eq-eqb _ _ p.3, (distinct_means ports used).1 p.4),
)

-- ---- the test in the order of the code

module _ (ports used : List ℕ) (marks : ℕ) where
  pub sound_count : is_slot_count (length ports) ≡ false → sound_table ports used marks ≡ false
  unfolding sound_table
  sound_count e = rw e

  module _ (c : is_slot_count (length ports) ≡ true) where
    pub sound_used : (length used ≡ length ports → ⊥) → sound_table ports used marks ≡ false
    unfolding sound_table
    sound_used e = rw (c, ne_eqb (length used) (length ports) e)

    module _ (u : length used ≡ length ports) where
      pub sound_marks : (marks ≡ length ports → ⊥) → sound_table ports used marks ≡ false
      unfolding sound_table
      sound_marks e = rw (c, eq-eqb (length used) (length ports) u, ne_eqb marks (length ports) e)

      pub sound_distinct : marks ≡ length ports → sound_table ports used marks ≡ distinct ports used
      unfolding sound_table
      sound_distinct e = rw (c, eq-eqb (length used) (length ports) u, eq-eqb marks (length ports) e)

pub slots_fit : (slots : ℕ) → is_slot_count slots ≡ true → slots ≤ max_slots
unfolding is_slot_count
slots_fit slots e = leb-true slots max_slots (both (leb min_slots slots) _ e).1

-- ---- a walk over the slots

-- what a walk over the three slices at once sees of a slot: its ports, whether it is used, its mark
abbrev pub slot_in : (ℕ × ℕ) × ℕ → Slot
slot_in s = record { used = not (eqb s.0.1 0); key = key_of s.0.0; mark = s.1 }

behind : (p u m : ℕ) (ports used marks : List ℕ) (i n : ℕ) → slots_from (p ∷ ports) (u ∷ used) (m ∷ marks) (suc i) n ≡ slots_from ports used marks i n
unfolding slots_from used_at
behind p u m ports used marks i zero = refl
behind p u m ports used marks i (suc n) = ap (λ (l : List Slot). slot_at ports used marks i ∷ l) (behind p u m ports used marks (suc i) n)

-- it sees the slots of the table
slots_in : (ports used marks : List ℕ) → length used ≡ length ports → length marks ≡ length ports → slots_of ports used marks ≡ map slot_in (zip (zip ports used) marks)
unfolding slots_of slots_from used_at
slots_in [] used marks u m = refl
slots_in (p ∷ ports) [] marks u m = absurd (omega arith)
slots_in (p ∷ ports) (v ∷ used) [] u m = absurd (omega arith)
slots_in (p ∷ ports) (v ∷ used) (n ∷ marks) u m =
    ap (λ (l : List Slot). slot_in ((p, v), n) ∷ l) (behind p v n ports used marks 0 (length ports) ∙ slots_in ports used marks (omega arith) (omega arith))

module _ {A : Type 0} (test : Slot → Bool) (make : Slot → A) where
  gathered_map : {B : Type 0} (f : B → Slot) (l : List B) → gathered test make (map f l) ≡ map (λ (x : B). make (f x)) (filter (λ (x : B). test (f x)) l)
  unfolding gathered chosen when
  gathered_map f [] = refl
  gathered_map {B = B} f (x ∷ l) = by (test (f x)) (gathered_map f l)
    where
      by : (b : Bool) → gathered test make (map f l) ≡ map (λ (x : B). make (f x)) (filter (λ (x : B). test (f x)) l)
          → map make (when b (f x ∷ chosen test (map f l)) (chosen test (map f l))) ≡ map (λ (x : B). make (f x)) (cond b (x ∷ filter (λ (x : B). test (f x)) l) (filter (λ (x : B). test (f x)) l))
      by true e = ap (λ (l : List A). make (f x) ∷ l) e
      by false e = e

  -- what the slots that pass a test give is what such a walk gathers
  pub gathered_in : (ports used marks : List ℕ) → length used ≡ length ports → length marks ≡ length ports
      → map (λ (s : (ℕ × ℕ) × ℕ). make (slot_in s)) (filter (λ (s : (ℕ × ℕ) × ℕ). test (slot_in s)) (zip (zip ports used) marks)) ≡ gathered test make (slots_of ports used marks)
  gathered_in ports used marks u m = sym (ap (gathered test make) (slots_in ports used marks u m) ∙ gathered_map slot_in (zip (zip ports used) marks))

-- ---- what a build knows past its refusals: its limit within its places, the slices equally long

pub record Ready (most limit : ℕ) (ports used marks : List ℕ) : Type 0 where
  pub in_range : limit ≤ most
  pub used_long : length used ≡ length ports
  pub marks_long : length marks ≡ length ports

pub ready : (most limit : ℕ) (ports used marks : List ℕ) (limited : Bool) → (limited ≡ true → limit ≤ most) → limited && sound_table ports used (length marks) ≡ true
    → Ready most limit ports used marks
ready most limit ports used marks limited fits e =
    let p = both limited _ e in
    let s = (sound_means ports used (length marks)).0 p.1 in
    record { in_range = fits p.0; used_long = s.2; marks_long = s.3 }
