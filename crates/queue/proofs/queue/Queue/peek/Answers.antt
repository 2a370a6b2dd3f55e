use Rattle.std.proofs.Common.{ap, ◌∙◌, Ok}
use Rattle.std.specs.Result.{result_and}
use Rattle.queue.proofs.LookLaws.{peek_said}
use Rattle.queue.proofs.queue.Queue.peek.Goals as goal

pub returns : goal.returns
returns g c = peek_said _ c.args.self _ c.answer.ensures _ (c.and.ensures ∙ ap (λ o. result_and c.answer.result (Ok o)) c.front.ensures)
