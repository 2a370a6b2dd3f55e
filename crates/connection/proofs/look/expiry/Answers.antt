use Rattle.std.proofs.Common.{ap, ◌∙◌}
use Rattle.std.specs.Prelude.{None}
use Rattle.defs.specs.Ladder.{record_answer}
use Rattle.defs.proofs.AnswerLaws.{result_left}
use Rattle.rules.specs.Look.{expiry_of}
use Rattle.connection.proofs.look.expiry.Goals as goal

pub returns : goal.returns
unfolding expiry_of
returns c = result_left (λ t x. record { answer = t; expiry = x }) None _ _ _ _ c.and.ensures (c.record_answer.ensures ∙ ap record_answer c.is_sound.ensures)
