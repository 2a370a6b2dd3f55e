-- What this crate promises, in statements only; proofs/Promises has a line for each. Assumes nothing.
use Rattle.std.specs.Prelude.{◌≤◌, ◌≡◌, Bool, true, [], ◌∷◌}
use Rattle.defs.specs.Choice.{when}
use Rattle.defs.specs.Promises.{Exactly, AnswersInTurn}
use Rattle.defs.specs.Stream.{counted}
use Rattle.defs.specs.declared.stream.StreamAnswer.{StreamAnswer}
use Rattle.csm.specs.State.{shut_by, Grown}
use Rattle.csm.specs.Turn.{turn_step, turn_reads}
use Rattle.csm.specs.Row.{row_of}
use Rattle.csm.specs.Said.{Turn, said_by, answer_of, NothingToSay, BufferMissing, TellsOurCount}
use Rattle.csm.specs.declared.pending.PendingRxSet.{PendingRxSet}
use Rattle.csm.specs.declared.state.ConnState.{ConnState}
use Rattle.csm.specs.declared.state.ConnState.TheVariants.{PeerClosed}

-- no more data is said than was read, and none where the turn does not read
abbrev pub SaysWhatWasRead : Type 0
SaysWhatWasRead =
    (p : PendingRxSet) (s : ConnState) (no_credit present : Bool) (a : StreamAnswer)
    → (row_of (turn_step p s no_credit present a)).count ≤ when (turn_reads p s no_credit present) (counted a) 0

-- 01's table, 7 and 8: a turn answers them exactly when it has nothing to say, and when data is due, credit isn't 0 and there is no buffer; else it is done
abbrev pub TurnAnswers : Type 0
TurnAnswers = (t : Turn) → AnswersInTurn (answer_of t) ((7, NothingToSay t) ∷ (8, BufferMissing t) ∷ [])

-- 01: last-told is updated on credit request, data, shutdown, read failure and credit update only
abbrev pub LastToldMoves : Type 0
LastToldMoves = (t : Turn) → Exactly ((said_by t).tells ≡ true) (TellsOurCount t)

-- a SHUTDOWN takes no flag back
abbrev pub ShutOnlyGrows : Type 0
ShutOnlyGrows = (r s recv_off send_off : Bool) → Grown r s (shut_by (PeerClosed r s) recv_off send_off)
