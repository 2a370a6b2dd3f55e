-- The ladder answers number n exactly when row n's test holds and no lower row's. Assumes nothing.
use Rattle.std.proofs.Common.{◌≡◌, ℕ, zero, suc, ◌^◌, ◌<◌, ◌≤◌, Bool, true, false, not, List, [], ◌∷◌, sym, refl, ap, ◌∙◌, subst, ⊎_elim, le_of_suc-le-suc, not-suc-le-zero, arith}
use borrow.Author.Tests.{not-false}
use Rattle.defs.specs.Choice.{when}
use Rattle.defs.specs.Answer.{Told, Answer, told, done, is_done, when_done}
use Rattle.defs.specs.Ladder.{door_of, late_of, lowest_of, record_answer, clock_answer}
use Rattle.defs.specs.Limits.{is_clock}
use Rattle.defs.specs.Stream.{stopped_by, stops}
use Rattle.defs.specs.Promises.{Exactly, row_at, FirstInTurn, AnswersInTurn, LowestNumber, RecordAnswers, ClockAnswers}
use Rattle.defs.specs.declared.stream.StreamAnswer.{StreamAnswer}
use Rattle.defs.specs.declared.stream.StreamAnswer.TheVariants.{Count, WouldBlock, Failed}
use Rattle.defs.proofs.ChoiceLaws.{when_true, when_false}
use Rattle.defs.proofs.AnswerLaws.{NotDone, not_done, is_done_lem, done_is_done, when_done_lem, when_not_done}
use Rattle.defs.proofs.Basics.{never, lt_or_ge, true_or_false}
use Rattle.defs.proofs.MeansLaws.{as_is, not_as_is, not_means}
use Rattle.defs.proofs.LimitLaws.{clock_over}

clash : (b : Bool) → b ≡ false → b ≡ true → ⊥
clash b p q = never (sym p ∙ q)

-- a row with the test that decides it
pub record Decided : Type 1 where
  pub number : ℕ
  pub fact : Type 0
  pub test : Bool
  pub means : Exactly (test ≡ true) fact

abbrev rows_of : List Decided → List (ℕ × Type 0)
rows_of [] = []
rows_of (d ∷ l) = (d.number, d.fact) ∷ rows_of l

abbrev pub tests_of : List Decided → List (ℕ × Bool)
tests_of [] = []
tests_of (d ∷ l) = (d.number, d.test) ∷ tests_of l

-- the number of the first row whose test holds, 0 where none does
abbrev pub first_in_turn : List (ℕ × Bool) → ℕ
first_in_turn [] = 0
first_in_turn (r ∷ rows) = when r.1 r.0 (first_in_turn rows)

first_holds : (d : Decided) (l : List Decided) → d.test ≡ true → FirstInTurn (rows_of (d ∷ l)) (first_in_turn (tests_of (d ∷ l)))
first_holds d l t = (0, sym (when_true d.number (first_in_turn (tests_of l)) d.test t), d.means.0 t, λ j k. absurd (not-suc-le-zero k))

first_passes : (d : Decided) (l : List Decided) → d.test ≡ false → FirstInTurn (rows_of l) (first_in_turn (tests_of l))
    → FirstInTurn (rows_of (d ∷ l)) (first_in_turn (tests_of (d ∷ l)))
first_passes d l f p = (suc p.0, p.1 ∙ sym (when_false d.number (first_in_turn (tests_of l)) d.test f), p.2, λ j k. above j k)
  where
    above : (j : ℕ) → j < suc p.0 → (row_at (rows_of (d ∷ l)) j).1 → ⊥
    above zero k q = clash d.test f (d.means.1 q)
    above (suc j) k q = p.3 j (le_of_suc-le-suc k) q

first_in_turn_lem : (l : List Decided) → FirstInTurn (rows_of l) (first_in_turn (tests_of l))
first_in_turn_lem [] = (0, refl, tt, λ j k. absurd (not-suc-le-zero k))
first_in_turn_lem (d ∷ l) =
    ⊎_elim (λ (t : d.test ≡ true). first_holds d l t) (λ (f : d.test ≡ false). first_passes d l f (first_in_turn_lem l)) (true_or_false d.test)

one_first : (rows : List (ℕ × Type 0)) (n k : ℕ) → FirstInTurn rows n → FirstInTurn rows k → n ≡ k
one_first rows n k p q =
    ⊎_elim
    (λ (l : p.0 < q.0). absurd (q.3 p.0 l p.2))
    (λ (l : q.0 ≤ p.0).
    ⊎_elim
    (λ (m : q.0 < p.0). absurd (p.3 q.0 m q.2))
    (λ (m : p.0 ≤ q.0). let e : p.0 ≡ q.0 = omega arith in sym p.1 ∙ ap (λ (i : ℕ). (row_at rows i).0) e ∙ q.1)
    (lt_or_ge q.0 p.0))
    (lt_or_ge p.0 q.0)

-- where a number is that of the first row whose test holds
pub by_turn : (t : Told) (l : List Decided) → t.number ≡ first_in_turn (tests_of l) → AnswersInTurn t (rows_of l)
by_turn t l e = record {
  exactly = λ n. (λ p. subst (FirstInTurn (rows_of l)) (sym e ∙ p) (first_in_turn_lem l), λ q. e ∙ one_first (rows_of l) _ n (first_in_turn_lem l) q);
}

-- a row by its number and what its test means
abbrev pub row : {fact : Type 0} {test : Bool} → ℕ → Exactly (test ≡ true) fact → Decided
row {fact} {test} n means = record { number = n; fact = fact; test = test; means = means }

-- rows behind one may be exchanged for others whose number is the same where its test fails
pub exchange : (n : ℕ) (b : Bool) (k m : ℕ) → (b ≡ false → k ≡ m) → when b n k ≡ when b n m
unfolding when
exchange n true k m e = refl
exchange n false k m e = e refl

-- what comes after door and late rungs decides where these pass
pub ladder_then : (r h c l a m : Bool) (end : Answer) (rest : List (ℕ × Bool)) → (told end).number ≡ first_in_turn rest
    → (told (lowest_of (lowest_of (door_of r h c l) (late_of a m)) end)).number ≡ first_in_turn ((1, r) ∷ (2, h) ∷ (3, c) ∷ (4, l) ∷ (5, a) ∷ (6, m) ∷ rest)
unfolding lowest_of door_of late_of when_done when
ladder_then true h c l a m end rest e = refl
ladder_then false true c l a m end rest e = refl
ladder_then false false true l a m end rest e = refl
ladder_then false false false true a m end rest e = refl
ladder_then false false false false true m end rest e = refl
ladder_then false false false false false true end rest e = refl
ladder_then false false false false false false end rest e = e

-- number 10, of a call that makes one write
pub stop_number : (a : StreamAnswer) → (told (stopped_by a)).number ≡ first_in_turn ((10, stops a) ∷ [])
unfolding when
stop_number (Count n) = refl
stop_number WouldBlock = refl
stop_number Failed = refl

pub lowest_done : (q : Answer) → lowest_of done q ≡ q
unfolding lowest_of
lowest_done q = when_done_lem done q done refl

pub lowest_refused : (p q : Answer) → is_done p ≡ false → lowest_of p q ≡ p
unfolding lowest_of
lowest_refused p q n = when_not_done p q p n

pub lowest_end : (p : Answer) → lowest_of p done ≡ p
lowest_end p =
    ⊎_elim
    (λ (t : is_done p ≡ true). let d = is_done_lem p t in rw d (lowest_done done))
    (λ (t : is_done p ≡ false). lowest_refused p done t)
    (true_or_false (is_done p))

pub lowest_number : LowestNumber
lowest_number r h c l a m =
    by_turn (told (lowest_of (door_of r h c l) (late_of a m)))
    (row 1 (as_is r) ∷ row 2 (as_is h) ∷ row 3 (as_is c) ∷ row 4 (as_is l) ∷ row 5 (as_is a) ∷ row 6 (as_is m) ∷ [])
    (ap (λ (x : Answer). (told x).number) (sym (lowest_end _)) ∙ ladder_then r h c l a m done [] refl)

pub record_number : (s : Bool) → (told (record_answer s)).number ≡ first_in_turn ((1, not s) ∷ [])
unfolding record_answer door_of when
record_number true = refl
record_number false = refl

pub record_answers : RecordAnswers
record_answers sound = by_turn (told (record_answer sound)) (row 1 (not_as_is sound) ∷ []) (record_number sound)

pub clock_number : (s c : Bool) → (told (door_of (not s) false (not c) false)).number ≡ first_in_turn ((1, not s) ∷ (3, not c) ∷ [])
unfolding door_of when
clock_number true true = refl
clock_number true false = refl
clock_number false c = refl

pub clock_answers : ClockAnswers
unfolding clock_answer
clock_answers sound ms =
    by_turn (told (clock_answer sound ms)) (row 1 (not_as_is sound) ∷ row 3 (clock_over ms) ∷ []) (clock_number sound (is_clock ms))

-- the same where it is known what the test says
pub by_record : (t : Told) (sound : Bool) (P : Type 0) → t ≡ told (record_answer sound) → Exactly (sound ≡ true) P → AnswersInTurn t ((1, P → ⊥) ∷ [])
by_record t sound P e m = by_turn t (row 1 (not_means m) ∷ []) (ap (λ (x : Told). x.number) e ∙ record_number sound)

pub by_clock : (t : Told) (sound : Bool) (ms : ℕ) (P : Type 0) → t ≡ told (clock_answer sound ms) → Exactly (sound ≡ true) P
    → AnswersInTurn t ((1, P → ⊥) ∷ (3, 2 ^ 62 < ms) ∷ [])
unfolding clock_answer
by_clock t sound ms P e m = by_turn t (row 1 (not_means m) ∷ row 3 (clock_over ms) ∷ []) (ap (λ (x : Told). x.number) e ∙ clock_number sound (is_clock ms))

-- ---- for callers: what a part that passed or refused says

-- past a `let Answer::done = a else`, the first part's refusal is the ladder's
pub lowest_kept : (a p q : Answer) → a ≡ p → NotDone a → a ≡ lowest_of p q
unfolding lowest_of
lowest_kept a p q e k = rw (← e) (sym (when_not_done a q a (not_done a k)))

-- after it, the second part decides
pub lowest_on : (a p q : Answer) → a ≡ p → a ≡ done → lowest_of p q ≡ q
unfolding lowest_of
lowest_on a p q e d = when_done_lem p q p (sym e ∙ d)

pub lowest_passed : (p q : Answer) → lowest_of p q ≡ done → (p ≡ done) × (q ≡ done)
unfolding lowest_of
lowest_passed p q e =
    ⊎_elim
    (λ (t : is_done p ≡ true). let d = is_done_lem p t in (d, sym (when_done_lem p q p d) ∙ e))
    (λ (t : is_done p ≡ false). absurd (clash (is_done p) t (ap is_done (sym (when_not_done p q p t) ∙ e) ∙ done_is_done)))
    (true_or_false (is_done p))

refused : {A : Type 0} (a : Answer) → a ≡ done → 0 < (told a).number → A
refused a e l = let z : (told a).number ≡ 0 = ap (λ (x : Answer). (told x).number) e in absurd (omega arith)

pub record DoorPassed (r h c l : Bool) : Type 0 where
  pub record_ok : r ≡ false
  pub header_ok : h ≡ false
  pub clock_ok : c ≡ false
  pub length_ok : l ≡ false

pub door_passed : (r h c l : Bool) → door_of r h c l ≡ done → DoorPassed r h c l
unfolding door_of when
door_passed true h c l e = refused _ e (omega arith)
door_passed false true c l e = refused _ e (omega arith)
door_passed false false true l e = refused _ e (omega arith)
door_passed false false false true e = refused _ e (omega arith)
door_passed false false false false e = record { record_ok = refl; header_ok = refl; clock_ok = refl; length_ok = refl }

pub record LatePassed (a n : Bool) : Type 0 where
  pub answer_ok : a ≡ false
  pub room_ok : n ≡ false

pub late_passed : (a n : Bool) → late_of a n ≡ done → LatePassed a n
unfolding late_of when
late_passed true n e = refused _ e (omega arith)
late_passed false true e = refused _ e (omega arith)
late_passed false false e = record { answer_ok = refl; room_ok = refl }

-- a record whose answer is done is sound
pub record_passed : (a : Answer) (sound : Bool) → a ≡ record_answer sound → a ≡ done → sound ≡ true
unfolding record_answer
record_passed a sound e d = not-false sound (door_passed _ _ _ _ (sym e ∙ d)).record_ok

-- and one that is not sound is refused
pub record_refused : (sound : Bool) → sound ≡ false → is_done (record_answer sound) ≡ false
unfolding record_answer door_of when
record_refused sound e = rw e

-- its answer is done exactly where it is sound
pub record_is_done : (sound : Bool) → is_done (record_answer sound) ≡ sound
unfolding record_answer door_of when
record_is_done true = refl
record_is_done false = refl

-- behind a door that refuses, two rungs decide nothing
pub behind_two : (door p q : Answer) → is_done door ≡ false → lowest_of (lowest_of door p) q ≡ door
behind_two door p q n = rw (lowest_refused door p n) (lowest_refused door q n)

-- and what two calls leave that answer as it does goes by that answer alone
pub left_alike : {A : Type 0} (door a b : Answer) (x y : A) (kept : Answer → A) → is_done door ≡ false → a ≡ door → b ≡ door
    → when_done a x (kept a) ≡ when_done b y (kept b)
left_alike door a b x y kept n e f = rw (e, f) (when_not_done door x (kept door) n ∙ sym (when_not_done door y (kept door) n))
