use Rattle.std.proofs.Common.{arith}
use Rattle.std.proofs.lemmas.Grind.{common_steps}
use Rattle.queue.specs.Queue.{sound_q}
use Rattle.queue.proofs.queue.Queue.is_sound.Goals as goal
use Rattle.queue.proofs.queue.Queue.is_sound.Goals.{then-is_limit, else-is_limit}

pub returns-then-self : goal.returns-then-self
unfolding sound_q
returns-then-self g c =
    elim c.if-is_limit.branch [ then-is_limit w ↦ grind (arith, common_steps) | else-is_limit w ↦ absurd cc ]

pub returns-else-self : goal.returns-else-self
unfolding sound_q
returns-else-self g c =
    elim c.if-is_limit.branch [ then-is_limit w ↦ grind (arith, common_steps) | else-is_limit w ↦ grind (arith, common_steps) ]
