-- `finish` meets its contract: refused by the rest or the room, or the piece copied to the front.
use Rattle.txbuf.proofs.FlushLaws.{Passed, passed_done, passed_stopped, finish_forbidden, finish_none, finish_done}
use Rattle.txbuf.proofs.record.TxBuf.finish.Goals as goal
use Rattle.txbuf.proofs.record.TxBuf.finish.Goals.{in-Ok, in-Err+in_default}

pub returns-in-BadAnswer : goal.returns-in-BadAnswer
returns-in-BadAnswer c = finish_forbidden _ _ _ _ _ c.in-Err.is c.in-BadAnswer.is

pub returns-then-out-piece : goal.returns-then-out-piece
returns-then-out-piece c =
    let p : Passed c.args.rest c.match-rest.more =
    elim c.match-rest.branch [
      | in-Ok w ↦ passed_done _ _ _ w.in-Ok.is w.more-is
      | in-Err+in_default w ↦ passed_stopped _ _ _ w.in-Err.is w.in_default.not-BadAnswer w.in_default.not-NoRoom w.more-is
    ] in
    finish_none _ _ _ _ _ p c.if-out-piece.true

pub returns : goal.returns
returns c =
    let p : Passed c.args.rest c.match-rest.more =
    elim c.match-rest.branch [
      | in-Ok w ↦ passed_done _ _ _ w.in-Ok.is w.more-is
      | in-Err+in_default w ↦ passed_stopped _ _ _ w.in-Err.is w.in_default.not-BadAnswer w.in_default.not-NoRoom w.more-is
    ] in
    finish_done _ _ _ _ _ p _ _ c.if-out-piece.false c.advanced.ensures c.copy.ensures
