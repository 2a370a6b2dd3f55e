use Rattle.std.proofs.Common.{◌∙◌}
use Rattle.defs.proofs.AnswerLaws.{result_ok, result_err}
use Rattle.connection.proofs.OfferLaws.{writes_in, no_write}
use Rattle.connection.proofs.offer.send_writes.Goals as goal

pub returns-in-Ok : goal.returns-in-Ok
returns-in-Ok c = c.writes.ensures ∙ writes_in _ _ _ _ _ _ _ (result_ok _ _ _ c.in-Ok.ensures)

pub returns-in-Err : goal.returns-in-Err
returns-in-Err c = no_write _ _ _ _ _ _ _ (result_err _ _ _ c.in-Err.ensures)
