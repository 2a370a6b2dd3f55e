use Rattle.std.proofs.Common.{sym, ◌∙◌}
use Rattle.std.proofs.lemmas.Result.{err_from_is_err_and}
use Rattle.connection.proofs.ReceiveLaws.{refused_door, not_read, not_counted, counts}
use Rattle.connection.proofs.receive.recv_refusal.Goals as goal

pub returns-in_err-door_of : goal.returns-in_err-door_of
returns-in_err-door_of c =
    let p = err_from_is_err_and c.from_residual.result c.from_residual.ensures.1 in rw (p.1, p.2) (refused_door _ _ _ _ _ _ _ _ c.in_err-door_of.ensures)

pub returns-then-not-reads : goal.returns-then-not-reads
returns-then-not-reads c = not_read _ _ _ _ _ _ _ c.in_ok-door_of.ensures (sym c.reads.ensures ∙ c.if-not-reads.true)

pub returns-in_default : goal.returns-in_default
returns-in_default c = not_counted _ _ _ _ _ _ _ c.in_ok-door_of.ensures c.in_default.not-Count

pub returns : goal.returns
returns c =
    counts _ _ _ _ _ _ _ _ _ _ c.in_ok-door_of.ensures (sym c.reads.ensures ∙ c.if-not-reads.false) c.in-Count.is (rw c.credit.ensures at c.min-asked.ensures)
    (rw c.min.ensures at c.late.ensures)
