use Rattle.connection.proofs.NotifyLaws.{absorbed_stop, not_absorbed, done_absorbed}
use Rattle.connection.proofs.event.absorb.Goals as goal

pub returns-in-Ok-clause-answer : goal.returns-in-Ok-clause-answer
returns-in-Ok-clause-answer c = rw c.in-Ok.is done_absorbed

pub returns-in-StreamBlocked-clause-answer : goal.returns-in-StreamBlocked-clause-answer
returns-in-StreamBlocked-clause-answer c = rw c.in-Err.is (absorbed_stop _ c.in-StreamBlocked.is)

pub returns-in_default-clause-answer : goal.returns-in_default-clause-answer
returns-in_default-clause-answer c = rw c.in-Err.is (not_absorbed _ c.in_default.not-StreamBlocked c.in_default.not-StreamFailed)
