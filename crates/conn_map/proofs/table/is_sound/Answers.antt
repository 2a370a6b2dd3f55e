use Rattle.std.proofs.Common.{sym, ⊎_elim, ◌∙◌}
use Rattle.conn_map.proofs.TableLaws.{sound_count, sound_used, sound_marks, sound_distinct, slots_fit}
use Rattle.conn_map.proofs.table.is_sound.Goals as goal

pub returns-then-not-is_slot_count : goal.returns-then-not-is_slot_count
returns-then-not-is_slot_count c =
    let count = c.is_slot_count.ensures in
    ⊎_elim
    (λ a. sym (sound_count _ _ _ (sym count ∙ a)))
    (λ b. ⊎_elim (λ p. sym (sound_used _ _ _ (sym count ∙ p.0) p.1)) (λ p. sym (sound_marks _ _ _ (sym count ∙ p.0) p.1 p.2)) b)
    c.then-not-is_slot_count.either

pub are_distinct-requires : goal.are_distinct-requires
are_distinct-requires c = (slots_fit _ (sym c.is_slot_count.ensures ∙ c.if-not-is_slot_count.false), c.if-used-ports.false)

pub returns : goal.returns
returns c =
    c.are_distinct.ensures ∙ sym (sound_distinct _ _ _ (sym c.is_slot_count.ensures ∙ c.if-not-is_slot_count.false) c.if-used-ports.false c.if-marks-ports.false)
