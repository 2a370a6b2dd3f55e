-- Laws of a turn to speak: what it answers, how much it says, and what it does to the state. Assumes nothing.
use Prim.Native.Nat.{ℕ, ◌≤◌, zero-le}
use mathlib.Core.Path.{◌≡◌, refl, sym, ap, subst, ◌∙◌}
use mathlib.Core.Bool.{Bool, true, false, not, ◌&&◌, ◌||◌}
use mathlib.Core.List.{[], ◌∷◌}
use native.Mathlib.Omega.{arith}
use lib.Dec.{eqb}
use Rattle.defs.specs.Choice.{when}
use Rattle.defs.specs.Answer.{told}
use Rattle.defs.specs.Stream.{counted, blocks}
use Rattle.defs.specs.declared.stream.StreamAnswer.{StreamAnswer}
use Rattle.defs.specs.declared.stream.StreamAnswer.TheVariants.{Count, WouldBlock, Failed}
use Rattle.defs.proofs.Basics.{and_false}
use Rattle.defs.proofs.ChoiceLaws.{when_true, when_false}
use Rattle.defs.proofs.LadderLaws.{first_in_turn}
use Rattle.csm.specs.State.{gives}
use Rattle.csm.specs.Turn.{read_step, data_step, update_step, data_first, turn_step, turn_reads}
use Rattle.csm.specs.Row.{row_of}
use Rattle.csm.specs.Promises.{SaysWhatWasRead}
use Rattle.csm.specs.declared.pending.PendingRxSet.{PendingRxSet}
use Rattle.csm.specs.declared.row.After.{After}
use Rattle.csm.specs.declared.row.After.TheVariants.{Same, Closes}
use Rattle.csm.specs.declared.state.ConnState.{ConnState}
use Rattle.csm.specs.declared.turn.RxStep.{RxStep}
use Rattle.csm.specs.declared.turn.RxStep.TheVariants.{Rst, Response, Request, Data, Close, Update, Nothing}

-- ---- what is answered

-- 7: no indication is left but one for data that the stream has not got yet
unfoldable pub has_nothing : PendingRxSet → ConnState → Bool → Bool → StreamAnswer → Bool
has_nothing p state no_credit present a =
    not p.rst && not p.response && not p.request && (not p.rw || turn_reads p state no_credit present && blocks a) && not p.credit_update

-- 8: data due, credit not 0, no buffer
unfoldable pub lacks_buffer : PendingRxSet → ConnState → Bool → Bool → Bool
lacks_buffer p state no_credit present = data_first p && gives state && not no_credit && not present

by_answer : (r s q w up no_credit present u : Bool) (a : StreamAnswer)
    → (told (row_of (when r Rst (when s Response (when q Request (when w (data_step up no_credit present (read_step a (update_step u))) (update_step u)))))).answer).number
    ≡ first_in_turn
    ((7, not r && not s && not q && (not w || not r && not s && not q && w && up && not no_credit && present && blocks a) && not u)
    ∷ (8, not r && not s && not q && w && up && not no_credit && not present)
    ∷ [])
unfolding when
by_answer true s q w up no_credit present u a = refl
by_answer false true q w up no_credit present u a = refl
by_answer false false true w up no_credit present u a = refl
by_answer false false false false up no_credit present true a = refl
by_answer false false false false up no_credit present false a = refl
by_answer false false false true false no_credit present u a = refl
by_answer false false false true true true present u a = refl
by_answer false false false true true false false u a = refl
by_answer false false false true true false true u (Count n) = by_count (eqb n 0)
  where
    by_count : (end : Bool) → (told (row_of (when end Close (Data n))).answer).number ≡ 0
    by_count true = refl
    by_count false = refl
by_answer false false false true true false true true WouldBlock = refl
by_answer false false false true true false true false WouldBlock = refl
by_answer false false false true true false true u Failed = refl

pub turn_number : (p : PendingRxSet) (s : ConnState) (no_credit present : Bool) (a : StreamAnswer)
    → (told (row_of (turn_step p s no_credit present a)).answer).number
    ≡ first_in_turn ((7, has_nothing p s no_credit present a) ∷ (8, lacks_buffer p s no_credit present) ∷ [])
unfolding turn_step turn_reads has_nothing lacks_buffer
turn_number p s no_credit present a = by_answer p.rst p.response p.request p.rw (gives s) no_credit present p.credit_update a

-- ---- how much is said

counts : (end : Bool) (n : ℕ) → (row_of (when end Close (Data n))).count ≤ n
unfolding when
counts true n = zero-le
counts false n = omega arith

none : (u : Bool) → (row_of (when u Update Nothing)).count ≤ 0
unfolding when
none true = zero-le
none false = zero-le

by_read : (a : StreamAnswer) (u : Bool) → (row_of (read_step a (update_step u))).count ≤ counted a
by_read (Count n) u = counts (eqb n 0) n
by_read WouldBlock u = none u
by_read Failed u = zero-le

by_step : (r s q w up no_credit present u : Bool) (a : StreamAnswer)
    → (row_of (when r Rst (when s Response (when q Request (when w (data_step up no_credit present (read_step a (update_step u))) (update_step u)))))).count
    ≤ when (not r && not s && not q && w && up && not no_credit && present) (counted a) 0
unfolding when
by_step true s q w up no_credit present u a = zero-le
by_step false true q w up no_credit present u a = zero-le
by_step false false true w up no_credit present u a = zero-le
by_step false false false false up no_credit present u a = none u
by_step false false false true false no_credit present u a = zero-le
by_step false false false true true true present u a = zero-le
by_step false false false true true false false u a = zero-le
by_step false false false true true false true u a = by_read a u

pub says_what_was_read : SaysWhatWasRead
unfolding turn_step turn_reads
says_what_was_read p s no_credit present a = by_step p.rst p.response p.request p.rw (gives s) no_credit present p.credit_update a

-- without a buffer a turn does not read
pub absent_reads_not : (p : PendingRxSet) (s : ConnState) (no_credit present : Bool) → present ≡ false → turn_reads p s no_credit present ≡ false
unfolding turn_reads
absent_reads_not p s no_credit present e = rw e (and_false (data_first p && gives s && not no_credit))

-- ---- what becomes of the state

-- only a RESPONSE opens, and only where data may go to the guest does a turn close
pub data NotOpening (up : Bool) : After → Type 0 where
  same_state : NotOpening up Same
  closes_state : up ≡ true → NotOpening up Closes

no_opening : (request w up no_credit present u : Bool) (a : StreamAnswer)
    → NotOpening up (row_of (when request Request (when w (data_step up no_credit present (read_step a (update_step u))) (update_step u)))).after
unfolding when
no_opening true w up no_credit present u a = same_state
no_opening false false up no_credit present true a = same_state
no_opening false false up no_credit present false a = same_state
no_opening false true false no_credit present u a = same_state
no_opening false true true true present u a = same_state
no_opening false true true false false u a = same_state
no_opening false true true false true u (Count n) = by_count (eqb n 0)
  where
    by_count : (end : Bool) → NotOpening true (row_of (when end Close (Data n))).after
    by_count true = closes_state refl
    by_count false = same_state
no_opening false true true false true true WouldBlock = same_state
no_opening false true true false true false WouldBlock = same_state
no_opening false true true false true u Failed = same_state

pub reset_stays : (p : PendingRxSet) (s : ConnState) (no_credit present : Bool) (a : StreamAnswer) → p.rst ≡ true → (row_of (turn_step p s no_credit present a)).after ≡ Same
unfolding turn_step
reset_stays p s no_credit present a t = ap (λ (x : RxStep). (row_of x).after) (when_true Rst _ _ t)

pub response_alone_opens : (p : PendingRxSet) (s : ConnState) (no_credit present : Bool) (a : StreamAnswer) → p.rst ≡ false → p.response ≡ false
    → NotOpening (gives s) (row_of (turn_step p s no_credit present a)).after
unfolding turn_step
response_alone_opens p s no_credit present a t u =
    subst (λ (x : RxStep). NotOpening (gives s) (row_of x).after) (sym (when_false Rst _ _ t ∙ when_false Response _ _ u))
    (no_opening p.request p.rw (gives s) no_credit present p.credit_update a)
