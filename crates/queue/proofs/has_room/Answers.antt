use mathlib.Core.Path.{refl}
use Rattle.queue.specs.Queued.{has_room}
use Rattle.queue.proofs.has_room.Goals as goal

pub returns : goal.returns
unfolding has_room
returns c = refl
