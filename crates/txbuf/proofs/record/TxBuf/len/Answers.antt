use mathlib.Core.Path.{◌∙◌}
use Rattle.defs.proofs.LookLaws.{len_said}
use Rattle.txbuf.specs.Record.{look_answer}
use Rattle.txbuf.proofs.record.TxBuf.len.Goals as goal

pub returns : goal.returns
returns c = len_said (look_answer c.args.self) _ _ (c.and.ensures ∙ rw (c.record_answer.ensures, c.is_sound.ensures, c.used.ensures))
