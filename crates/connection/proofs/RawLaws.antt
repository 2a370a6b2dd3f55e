-- Laws of the raw send. Assumes nothing.
use Prim.Native.Nat.{ℕ, ◌≤◌}
use mathlib.Core.Path.{◌≡◌, sym, ap, ◌∙◌}
use mathlib.Core.List.{List, ◌++◌}
use lib.Dec.{ltb}
use native.Mathlib.Omega.{arith}
use lib.ListN.{length, take, drop}
use lib.Seq.{length-take-le}
use borrow.Author.Tests.{ltb-false, le-ltb}
use Rattle.defs.specs.Choice.{when}
use Rattle.std.specs.Prelude.{Result, Ok, Err}
use Rattle.std.specs.Result.{result_and}
use mathlib.Core.Path.{refl}
use Rattle.defs.specs.Answer.{Answer, told, done, when_done, answer_of, given_or}
use Rattle.defs.specs.declared.answer.Refusal.{Refusal}
use Rattle.defs.specs.declared.answer.Refusal.TheVariants.{StreamBlocked, StreamFailed}
use Rattle.defs.specs.Stream.{stopped_by}
use Rattle.defs.specs.Ladder.{late_of, lowest_of}
use Rattle.defs.specs.Copying.{copied}
use Rattle.defs.specs.declared.stream.StreamAnswer.{StreamAnswer}
use Rattle.defs.specs.declared.stream.StreamAnswer.TheVariants.{Count, WouldBlock, Failed}
use Rattle.defs.proofs.AnswerLaws.{when_done_lem}
use Rattle.defs.proofs.LadderLaws.{lowest_done, lowest_end, lowest_passed, late_passed, behind_two}
use Rattle.defs.proofs.StreamLaws.{NotCount, takes_none}
use Rattle.defs.proofs.CopyLaws.{copied_fits}
use Rattle.rules.specs.Raw.{RawIn, RawLeft, raw_count, raw_door, raw_answer, raw_done, raw_kept, raw_of}

-- ---- what is left of a call that is not done

raw_kept_lem : (i : RawIn) (r : Refusal) → raw_answer i ≡ Err r → ◌≡◌ {A = RawLeft} (record { answer = told (Err r); count = 0; out = i.out }) (raw_of i)
unfolding raw_of raw_kept when_done when
raw_kept_lem i r e = rw e refl

-- by its door
pub raw_shut : (i : RawIn) (r : Refusal) → Err r ≡ raw_door i.conn (length i.buf) → ◌≡◌ {A = RawLeft} (record { answer = told (Err r); count = 0; out = i.out }) (raw_of i)
unfolding raw_answer
raw_shut i r e = raw_kept_lem i r (rw (← e) (behind_two (Err r) _ _ refl))

-- past it the later rungs decide
past_door : (i : RawIn) → done ≡ raw_door i.conn (length i.buf)
    → raw_answer i ≡ lowest_of (late_of (ltb (length i.buf) (raw_count i)) (ltb (length i.out) (raw_count i))) (stopped_by i.answers.first)
unfolding raw_answer
past_door i e = rw (← e, lowest_done (late_of (ltb (length i.buf) (raw_count i)) (ltb (length i.out) (raw_count i)))) refl

-- a write that blocks or fails
pub raw_stopped : (i : RawIn) (r : Result ℕ Refusal) → done ≡ raw_door i.conn (length i.buf) → NotCount i.answers.first → r ≡ result_and (stopped_by i.answers.first) (Ok 0)
    → ◌≡◌ {A = RawLeft} (record { answer = told (answer_of r); count = given_or 0 r; out = i.out }) (raw_of i)
unfolding late_of when
raw_stopped i r d k e = by i.answers.first k e (past_door i d ∙ rw (takes_none i.answers.first k, le-ltb (length i.buf) 0 (omega arith), le-ltb (length i.out) 0 (omega arith)) (lowest_done _))
  where
    by : (a : StreamAnswer) → NotCount a → r ≡ result_and (stopped_by a) (Ok 0) → raw_answer i ≡ stopped_by a
        → ◌≡◌ {A = RawLeft} (record { answer = told (answer_of r); count = given_or 0 r; out = i.out }) (raw_of i)
    by (Count n) k e f = absurd (k n refl)
    by WouldBlock k e f = rw e (raw_kept_lem i StreamBlocked f)
    by Failed k e f = rw e (raw_kept_lem i StreamFailed f)

-- one that counts
pub raw_counted : (i : RawIn) (l : Answer) (n : ℕ) → done ≡ raw_door i.conn (length i.buf) → i.answers.first ≡ Count n → l ≡ late_of (ltb (length i.buf) n) (ltb (length i.out) n)
    → raw_answer i ≡ l
raw_counted i l n d c e = past_door i d ∙ rw (c, ← e) (lowest_end l)

pub raw_late : (i : RawIn) (r : Refusal) (n : ℕ) → done ≡ raw_door i.conn (length i.buf) → i.answers.first ≡ Count n
    → Err r ≡ late_of (ltb (length i.buf) n) (ltb (length i.out) n) → ◌≡◌ {A = RawLeft} (record { answer = told (Err r); count = 0; out = i.out }) (raw_of i)
raw_late i r n d c e = raw_kept_lem i r (raw_counted i (Err r) n d c e)

-- ---- what is left of one that is

-- the bytes taken are there, and fit
pub record Fits (i : RawIn) : Type 0 where
  pub offered : raw_count i ≤ length i.buf
  pub room : raw_count i ≤ length i.out

pub raw_fits : (i : RawIn) → raw_answer i ≡ done → Fits i
unfolding raw_answer
raw_fits i d =
    let l = late_passed _ _ (lowest_passed _ _ (lowest_passed _ _ d).0).1 in
    record { offered = ltb-false _ _ l.answer_ok; room = ltb-false _ _ l.room_ok }

pub raw_left : (i : RawIn) (n : ℕ) (x : List ℕ) → raw_answer i ≡ done → n ≡ raw_count i → x ≡ copied i.out (take n i.buf)
    → ◌≡◌ {A = RawLeft} (record { answer = told done; count = n; out = x }) (raw_of i)
unfolding raw_of raw_done
raw_left i n x d f g =
    let s = raw_fits i d in
    let m : length (take (raw_count i) i.buf) ≡ raw_count i = length-take-le (raw_count i) i.buf s.offered in
    let y : x ≡ take (raw_count i) i.buf ++ drop (raw_count i) i.out =
    g ∙ ap (λ (j : ℕ). copied i.out (take j i.buf)) f ∙ copied_fits i.out _ (omega arith) ∙ ap (λ (j : ℕ). take (raw_count i) i.buf ++ drop j i.out) m in
    rw (f, y) (sym (when_done_lem (raw_answer i) _ _ d))
