use Rattle.std.proofs.Common.{ap, ◌∙◌}
use Rattle.defs.specs.Ladder.{record_answer}
use Rattle.defs.proofs.AnswerLaws.{result_left}
use Rattle.rules.specs.Look.{kill_of}
use Rattle.connection.proofs.look.kill.Goals as goal

pub returns : goal.returns
unfolding kill_of
returns c =
    rw (← c.killed.ensures)
    (result_left (λ t x. record { answer = t; conn = x }) c.args.conn _ _ _ _ c.and.ensures (c.record_answer.ensures ∙ ap record_answer c.is_sound.ensures))
