use Rattle.std.proofs.Common.{ap, ◌∙◌}
use Rattle.defs.specs.Ladder.{clock_answer}
use Rattle.defs.proofs.LookLaws.{flag_said, flag_told}
use Rattle.connection.proofs.look.has_expired.Goals as goal

pub returns : goal.returns
returns c = flag_told _ _ _ _ _ (flag_said _ _ _ c.and.ensures) (c.clock_answer.ensures ∙ ap (λ b. clock_answer b c.args.now_ms) c.is_sound.ensures) (λ d. c.is_due.ensures)
