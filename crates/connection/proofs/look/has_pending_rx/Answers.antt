use Rattle.std.proofs.Common.{ap, ◌∙◌}
use Rattle.defs.specs.Ladder.{record_answer}
use Rattle.defs.proofs.LookLaws.{flag_said, flag_told}
use Rattle.connection.proofs.look.has_pending_rx.Goals as goal

pub returns : goal.returns
returns c = flag_told _ _ _ _ _ (flag_said _ _ _ c.and.ensures) (c.record_answer.ensures ∙ ap record_answer c.is_sound.ensures) (λ d. c.is_pending.ensures)
