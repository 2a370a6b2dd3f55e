use Rattle.std.proofs.Common.{ap, ◌∙◌}
use Rattle.std.proofs.lemmas.Result.{err_from_is_err_and}
use Rattle.defs.specs.Ladder.{record_answer}
use Rattle.connection.proofs.LookLaws.{evset_kept, evset_done}
use Rattle.connection.proofs.look.get_polled_evset.Goals as goal

pub returns-in_err-record_answer : goal.returns-in_err-record_answer
returns-in_err-record_answer c =
    let p = err_from_is_err_and c.from_residual.result c.from_residual.ensures.1 in
    rw (p.1, p.2) (evset_kept _ _ _ (c.in_err-record_answer.ensures ∙ ap record_answer c.is_sound.ensures))

pub returns : goal.returns
returns c = rw (c.may_read.ensures, c.is_quiet.ensures) (evset_done _ _ (c.in_ok-record_answer.ensures ∙ ap record_answer c.is_sound.ensures))
