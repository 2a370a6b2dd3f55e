use Rattle.std.proofs.Common.{⊎_elim}
use borrow.Author.Tests.{ne_eqb}
use Rattle.defs.specs.Choice.{when}
use Rattle.rules.specs.Send.{rule_of}
use Rattle.connection.proofs.send.rule.Goals as goal

pub returns-in-2 : goal.returns-in-2
unfolding rule_of when
returns-in-2 c = rw c.in-2.is c.on_response.ensures

pub returns-in-4 : goal.returns-in-4
unfolding rule_of when
returns-in-4 c = rw c.in-4.is c.on_shutdown.ensures

pub returns-in-5 : goal.returns-in-5
unfolding rule_of when
returns-in-5 c = rw c.in-5.is c.on_data.ensures

pub returns-in-7 : goal.returns-in-7
unfolding rule_of when
returns-in-7 c = rw c.in-7.is c.on_credit_request.ensures

pub returns-in-0 : goal.returns-in-0
unfolding rule_of when
returns-in-0 c = ⊎_elim (λ e. rw e) (λ e. rw e) c.in-0.in-0-own.keys5

pub returns-in-0-2 : goal.returns-in-0-2
unfolding rule_of when
returns-in-0-2 c = let r = c.in-0.in-0-own.rest in simp (ne_eqb _ 2 r.0.0.0.0.1, ne_eqb _ 4 r.0.0.0.1, ne_eqb _ 5 r.0.0.1, ne_eqb _ 7 r.0.1)
