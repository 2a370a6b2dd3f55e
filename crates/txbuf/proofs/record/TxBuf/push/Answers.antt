-- `push` meets its contract: refused, or written in two runs.
use Rattle.std.proofs.Common.{length, refl, sym, arith}
use Rattle.std.proofs.lemmas.Result.{err_from_is_err_and}
use Rattle.txbuf.proofs.RecordLaws.{offset_in}
use Rattle.txbuf.proofs.AnswerLaws.{ready}
use Rattle.txbuf.proofs.PushLaws.{push_refused, push_left}
use Rattle.txbuf.proofs.record.TxBuf.push.Goals as goal

pub returns-in_err-push_answer : goal.returns-in_err-push_answer
returns-in_err-push_answer c =
    let p = err_from_is_err_and c.from_residual.result c.from_residual.ensures.1 in rw (p.1, p.2) (push_refused _ _ (sym c.in_err-push_answer.ensures))

pub nonzero_rem-at : goal.nonzero_rem-at
nonzero_rem-at c =
    let s = (ready c.args.self (length c.args.storage.now) (length c.args.src.now) (sym c.in_ok-push_answer.ensures)).sound in omega arith

pub overflow_cast-head : goal.overflow_cast-head
overflow_cast-head c =
    let r = ready c.args.self (length c.args.storage.now) (length c.args.src.now) (sym c.in_ok-push_answer.ensures) in omega arith

pub write_runs-requires : goal.write_runs-requires
write_runs-requires c =
    let s = (ready c.args.self (length c.args.storage.now) (length c.args.src.now) (sym c.in_ok-push_answer.ensures)).sound in
    offset_in _ _ _ (omega arith) s.whole

pub returns : goal.returns
returns c = push_left _ _ _ (sym c.in_ok-push_answer.ensures) refl c.write_runs.ensures
