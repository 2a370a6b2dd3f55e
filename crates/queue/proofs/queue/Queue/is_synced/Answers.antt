use mathlib.Core.Path.{refl}
use Rattle.queue.proofs.LookLaws.{flag_held}
use Rattle.queue.proofs.queue.Queue.is_synced.Goals as goal

pub returns : goal.returns
returns g c = flag_held _ c.args.self _ c.answer.ensures _ _ _ c.and.ensures (λ e. refl)
