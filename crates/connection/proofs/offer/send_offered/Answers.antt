use Rattle.std.proofs.Common.{sym, ◌∙◌}
use Rattle.defs.proofs.AnswerLaws.{result_ok, result_err}
use Rattle.connection.proofs.OfferLaws.{writes_in, no_write, nothing_offered, front_offered}
use Rattle.connection.proofs.offer.send_offered.Goals.{in_default-via-in-Ok+else-writes, in_default-via-in_default}
use Rattle.connection.proofs.offer.send_offered.Goals as goal

pub returns-in-Ok : goal.returns-in-Ok
returns-in-Ok c =
    let k = result_ok _ _ _ c.in-Ok.ensures in
    front_offered _ _ _ _ _ _ _ _ (sym c.if-writes.true ∙ c.writes.ensures ∙ writes_in _ _ _ _ _ _ _ k) k.1 c.min.ensures

pub returns-in_default : goal.returns-in_default
returns-in_default c =
    elim c.in_default.branch [
      | in_default-via-in-Ok+else-writes w ↦
          nothing_offered _ _ _ _ _ _ (sym w.if-writes.false ∙ w.writes.ensures ∙ writes_in _ _ _ _ _ _ _ (result_ok _ _ _ (sym w.in-Ok.is ∙ c.judge.ensures)))
      | in_default-via-in_default w ↦ nothing_offered _ _ _ _ _ _ (no_write _ _ _ _ _ _ _ (result_err _ _ _ (sym w.in_default.is ∙ c.judge.ensures)))
    ]
