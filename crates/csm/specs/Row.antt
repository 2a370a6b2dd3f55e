-- The table of the steps (01, `recv_pkt`), and what a row leaves of state and timer. Assumes nothing.
use Rattle.std.specs.Prelude.{ℕ, ◌+◌, Bool, true, false, Err}
use Rattle.defs.specs.Answer.{Answer, done}
use Rattle.defs.specs.declared.answer.Refusal.TheVariants.{NoData, PktBufMissing}
use Rattle.packet.specs.Uapi.{op_request, op_response, op_rst, op_shutdown, op_rw, op_credit_update, op_credit_request, flag_shutdown_rcv, flag_shutdown_send}
use Rattle.csm.specs.Timer.{Timer}
use Rattle.csm.specs.declared.state.ConnState.{ConnState}
use Rattle.csm.specs.declared.state.ConnState.TheVariants.{Established, LocalClosed}
use Rattle.csm.specs.declared.turn.RxStep.{RxStep}
use Rattle.csm.specs.declared.turn.RxStep.TheVariants.{Rst, Response, Request, OutOfState, AskCredit, NoBuffer, Data, Close, Fail, Update, Nothing}
use Rattle.csm.specs.declared.row.After.{After}
use Rattle.csm.specs.declared.row.After.TheVariants.{Same, Opens, Closes}
use Rattle.csm.specs.declared.row.Arms.{Arms}
use Rattle.csm.specs.declared.row.Arms.TheVariants.{Keep, Wait, Linger}
use Rattle.csm.specs.declared.row.Row.{Row}

-- a row by its columns
abbrev is : Answer → ℕ → ℕ → ℕ → Bool → Bool → After → Arms → Row
is answer op flags count tells ends after arms = record {
  answer = answer;
  op = op;
  flags = flags;
  count = count;
  tells = tells;
  ends = ends;
  after = after;
  arms = arms;
}

-- a row that carries no data and leaves state and timer
abbrev pub plain_row : Answer → ℕ → Bool → Bool → Row
plain_row answer op tells ends = is answer op 0 0 tells ends Same Keep

-- one that moves state or timer; our fwd_cnt does not count as told
abbrev pub turning_row : ℕ → After → Arms → Row
turning_row op after arms = is done op 0 0 false false after arms

-- THE TABLE: answer, op, (flags, len,) whether last-told is updated, whether a pending update ends, (state, timer)
abbrev pub row_of : RxStep → Row
row_of Rst = plain_row done op_rst false false
row_of Response = turning_row op_response Opens Keep
row_of Request = turning_row op_request Same Wait
row_of OutOfState = plain_row done op_rst false false
row_of AskCredit = plain_row done op_credit_request true false
row_of NoBuffer = plain_row (Err PktBufMissing) 0 false false
row_of (Data n) = is done op_rw 0 n true false Same Keep
row_of Close = is done op_shutdown (flag_shutdown_rcv + flag_shutdown_send) 0 true false Closes Linger
row_of Fail = plain_row done op_rst true false
row_of Update = plain_row done op_credit_update true true
row_of Nothing = plain_row (Err NoData) 0 false true

-- what becomes of the state
abbrev pub afterwards : After → ConnState → ConnState
afterwards Same state = state
afterwards Opens state = Established
afterwards Closes state = LocalClosed

-- what becomes of the timer: kept, or set for the request or for the shutdown
abbrev pub armed : Arms → Timer → Timer → Timer → Timer
armed Keep expiry wait linger = expiry
armed Wait expiry wait linger = wait
armed Linger expiry wait linger = linger
