use Rattle.std.proofs.Common.{◌≤◌, ◌<◌, ◌+◌, ◌∙◌, refl, sym, arith, lt-ltb, le-ltb}
use Rattle.std.proofs.lemmas.Result.{err_from_is_err_and}
use borrow.Author.Tests.{not-false}
use Rattle.defs.proofs.AnswerLaws.{refusal_not_done}
use Rattle.defs.proofs.ChoiceLaws.{when_true, when_false}
use Rattle.defs.proofs.LadderLaws.{lowest_kept, lowest_on, door_passed}
use Rattle.defs.proofs.LimitLaws.{packet_length}
use Rattle.txbuf.specs.Record.{used_of}
use Rattle.txbuf.specs.Push.{push_answer}
use Rattle.txbuf.proofs.record.TxBuf.push_answer.Goals as goal

pub returns-in_err-door : goal.returns-in_err-door
unfolding push_answer
returns-in_err-door c =
    let p = err_from_is_err_and c.from_residual.result c.from_residual.ensures.1 in
    rw (p.1, p.2, ← c.is_sound_over-sound.ensures, ← c.is_packet_length-short.ensures) (lowest_kept _ _ _ c.in_err-door.ensures (refusal_not_done _ _ refl))

pub overflow_add-held : goal.overflow_add-held
overflow_add-held c =
    let p = door_passed _ _ _ _ (sym c.in_ok-door.ensures) in
    let l = (packet_length _).0 (sym c.is_packet_length-short.ensures ∙ not-false _ p.length_ok) in
    omega arith

pub returns-then-storage-held : goal.returns-then-storage-held
unfolding push_answer
returns-then-storage-held c =
    let l : c.args.storage < used_of c.args.self + c.args.bytes = rw c.used-held.ensures at c.if-storage-held.true in
    rw (← c.is_sound_over-sound.ensures, ← c.is_packet_length-short.ensures)
    (sym (lowest_on _ _ _ c.in_ok-door.ensures refl ∙ when_true _ _ _ (lt-ltb _ _ l)))

pub returns : goal.returns
unfolding push_answer
returns c =
    let l : used_of c.args.self + c.args.bytes ≤ c.args.storage = rw c.used-held.ensures at c.if-storage-held.false in
    rw (← c.is_sound_over-sound.ensures, ← c.is_packet_length-short.ensures)
    (sym (lowest_on _ _ _ c.in_ok-door.ensures refl ∙ when_false _ _ _ (le-ltb _ _ l)))
