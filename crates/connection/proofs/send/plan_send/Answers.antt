use Rattle.std.proofs.Common.{sym, ◌∙◌}
use Rattle.connection.proofs.SendLaws.{plan_none, plan_held, plan_stopped, plan_counted}
use Rattle.connection.proofs.send.plan_send.Goals as goal

pub returns-then-not-goes : goal.returns-then-not-goes
returns-then-not-goes c = plan_none _ _ _ _ (sym c.goes.ensures ∙ c.if-not-goes.true)

pub returns-then-not-is_quiet : goal.returns-then-not-is_quiet
returns-then-not-is_quiet c = plan_held _ _ _ _ (sym c.goes.ensures ∙ c.if-not-goes.false) (sym c.is_quiet.ensures ∙ c.if-not-is_quiet.true)

pub returns-in_default : goal.returns-in_default
returns-in_default c =
    rw c.has_failed.ensures
    (plan_stopped _ _ _ _ (sym c.goes.ensures ∙ c.if-not-goes.false) (sym c.is_quiet.ensures ∙ c.if-not-is_quiet.false) c.in_default.not-Count)

pub returns : goal.returns
returns c = plan_counted _ _ _ _ _ (sym c.goes.ensures ∙ c.if-not-goes.false) (sym c.is_quiet.ensures ∙ c.if-not-is_quiet.false) c.in-Count.is
