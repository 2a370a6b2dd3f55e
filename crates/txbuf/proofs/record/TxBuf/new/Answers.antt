use Rattle.std.proofs.Common.{◌≡◌, true, false, refl, sym, ap, ◌∙◌}
use Rattle.defs.specs.Choice.{when}
use Rattle.defs.specs.Answer.{when_done, is_done}
use Rattle.defs.specs.Limits.{is_ring_size}
use Rattle.defs.specs.Ladder.{record_answer}
use Rattle.txbuf.specs.Record.{new_of}
use Rattle.txbuf.proofs.record.TxBuf.new.Goals as goal

pub returns-then-is_ok : goal.returns-then-is_ok
unfolding new_of when_done when
returns-then-is_ok c =
    let e = c.record_answer-answer.ensures ∙ ap record_answer c.is_ring_size.ensures in
    let d : is_done (record_answer (is_ring_size c.args.size)) ≡ true = sym (ap is_done e) ∙ sym c.is_ok.ensures.value ∙ c.if-is_ok.true in
    rw (e, c.default-zero.ensures.1.0, c.default-zero.ensures.1.1, d) refl

pub returns-else-is_ok : goal.returns-else-is_ok
unfolding new_of when_done when
returns-else-is_ok c =
    let e = c.record_answer-answer.ensures ∙ ap record_answer c.is_ring_size.ensures in
    let d : is_done (record_answer (is_ring_size c.args.size)) ≡ false = sym (ap is_done e) ∙ sym c.is_ok.ensures.value ∙ c.if-is_ok.false in
    let z = c.default-zero.ensures in
    let zero : c.default-zero.result ≡ record { size = 0; head = 0; tail = 0 } = λ i. record { size = z.0 i; head = z.1.0 i; tail = z.1.1 i } in
    rw (e, d, zero) refl
