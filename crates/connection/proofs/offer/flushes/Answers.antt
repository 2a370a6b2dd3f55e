use Rattle.std.proofs.Common.{sym, ◌∙◌}
use Rattle.connection.proofs.OfferLaws.{flushes_by, no_flush}
use Rattle.connection.proofs.offer.flushes.Goals as goal

pub returns-then-is_sound_over : goal.returns-then-is_sound_over
returns-then-is_sound_over c = c.is_flush_due.ensures ∙ flushes_by _ _ _ (sym c.is_sound_over.ensures ∙ c.if-is_sound_over.true)

pub returns-else-is_sound_over : goal.returns-else-is_sound_over
returns-else-is_sound_over c = c.if-is_sound_over.false ∙ no_flush _ _ _ (sym c.is_sound_over.ensures ∙ c.if-is_sound_over.false)
