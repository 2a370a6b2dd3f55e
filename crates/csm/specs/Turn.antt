-- What a turn to speak says (01, `recv_pkt`): the first that is pending, and for data what state, credit, buffer and stream make of it. Assumes nothing.
use Rattle.std.specs.Prelude.{Bool, not, ◌&&◌, eqb}
use Rattle.defs.specs.Choice.{when}
use Rattle.defs.specs.declared.stream.StreamAnswer.{StreamAnswer}
use Rattle.defs.specs.declared.stream.StreamAnswer.TheVariants.{Count, WouldBlock, Failed}
use Rattle.csm.specs.State.{gives}
use Rattle.csm.specs.declared.pending.PendingRxSet.{PendingRxSet}
use Rattle.csm.specs.declared.state.ConnState.{ConnState}
use Rattle.csm.specs.declared.turn.RxStep.{RxStep}
use Rattle.csm.specs.declared.turn.RxStep.TheVariants.{Rst, Response, Request, OutOfState, AskCredit, NoBuffer, Data, Close, Fail, Update, Nothing}

-- a positive count is data, 0 closes, a would-block falls through, a failure fails
abbrev pub read_step : StreamAnswer → RxStep → RxStep
read_step (Count n) else = when (eqb n 0) Close (Data n)
read_step WouldBlock else = else
read_step Failed else = Fail

-- Rw out of state: RST; then credit 0: CREDIT_REQUEST; then the buffer is needed
abbrev pub data_step : Bool → Bool → Bool → RxStep → RxStep
data_step allowed no_credit present read = when allowed (when no_credit AskCredit (when present read NoBuffer)) OutOfState

-- else a credit update, if one is pending
abbrev pub update_step : Bool → RxStep
update_step update = when update Update Nothing

-- the first pending of Rst; Response; Request; Rw; CreditUpdate
abbrev pub rx_step : PendingRxSet → RxStep → RxStep → RxStep
rx_step p on_rw update = when p.rst Rst (when p.response Response (when p.request Request (when p.rw on_rw update)))

-- by what is pending, the state, whether the guest's credit is 0, whether there is a buffer, and the stream's answer
unfoldable pub turn_step : PendingRxSet → ConnState → Bool → Bool → StreamAnswer → RxStep
turn_step p state no_credit present a =
    let update = update_step p.credit_update in
    rx_step p (data_step (gives state) no_credit present (read_step a update)) update

-- Rw is the first that is pending
abbrev pub data_first : PendingRxSet → Bool
data_first p = not p.rst && not p.response && not p.request && p.rw

-- the turn reads from the stream: Rw is first, the state gives, credit isn't 0, and there is a buffer
unfoldable pub turn_reads : PendingRxSet → ConnState → Bool → Bool → Bool
turn_reads p state no_credit present = data_first p && gives state && not no_credit && present
