use Rattle.std.proofs.lemmas.Result.{err_from_is_err_and}
use Rattle.connection.proofs.OfferLaws.{asks, asks_not}
use Rattle.connection.proofs.offer.recv_asked.Goals as goal

pub returns-in_err-door_of : goal.returns-in_err-door_of
returns-in_err-door_of c =
    let p = err_from_is_err_and c.from_residual.result c.from_residual.ensures.1 in rw (p.1, p.2) (asks_not _ _ _ _ _ _ c.in_err-door_of.ensures)

pub returns : goal.returns
returns c = asks _ _ _ _ _ _ _ _ c.in_ok-door_of.ensures c.reads.ensures (rw c.credit.ensures at c.min-asked.ensures) c.then_some.ensures
