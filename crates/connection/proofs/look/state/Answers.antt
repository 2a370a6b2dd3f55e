use Rattle.std.proofs.Common.{ap, ◌∙◌}
use Rattle.csm.specs.declared.state.ConnState.TheVariants.{LocalInit}
use Rattle.defs.specs.Ladder.{record_answer}
use Rattle.defs.proofs.AnswerLaws.{result_left}
use Rattle.rules.specs.Look.{state_of}
use Rattle.connection.proofs.look.state.Goals as goal

pub returns : goal.returns
unfolding state_of
returns c = result_left (λ t x. record { answer = t; state = x }) LocalInit _ _ _ _ c.and.ensures (c.record_answer.ensures ∙ ap record_answer c.is_sound.ensures)
