use Rattle.std.proofs.lemmas.Result.{err_from_is_err_and}
use Rattle.packet.proofs.Callers.{header_is, no_header}
use Rattle.connection.proofs.JudgeLaws.{refused_by, given_by, judged_record, judged_header, judged_door}
use Rattle.connection.proofs.send.judge.Goals as goal

pub returns-in_err-record_answer : goal.returns-in_err-record_answer
returns-in_err-record_answer c =
    let p = err_from_is_err_and c.from_residual.result c.from_residual.ensures.1 in
    rw (p.1, p.2) (refused_by _ _ _ (judged_record _ _ _ _ _ _ _ _ c.in_err-record_answer.ensures c.is_sound_over.ensures))

pub returns-in_err-hdr : goal.returns-in_err-hdr
returns-in_err-hdr c =
    let p = err_from_is_err_and c.from_residual-in_err-hdr.result c.from_residual-in_err-hdr.ensures.1 in
    rw (p.1, p.2)
    (refused_by _ _ _ (judged_header _ _ _ _ _ _ _ _ c.in_ok-record_answer.ensures c.is_sound_over.ensures (no_header _ _ c.in_err-hdr.ensures)))

pub returns-in_err-door : goal.returns-in_err-door
returns-in_err-door c =
    let p = err_from_is_err_and c.from_residual-in_err-door.result c.from_residual-in_err-door.ensures.1 in
    rw (p.1, p.2)
    (refused_by _ _ _
    (judged_door _ _ _ _ _ _ _ _ _ _ _ c.in_ok-record_answer.ensures c.is_sound_over.ensures (header_is _ _ c.in_ok-hdr.ensures) c.is_long-long.ensures
    c.is_clock.ensures c.in_err-door.ensures))

pub returns : goal.returns
returns c =
    let h = header_is _ _ c.in_ok-hdr.ensures in
    given_by _ _ _
    (judged_door _ _ _ _ _ _ _ _ _ _ _ c.in_ok-record_answer.ensures c.is_sound_over.ensures h c.is_long-long.ensures c.is_clock.ensures c.in_ok-door.ensures)
    h.1
