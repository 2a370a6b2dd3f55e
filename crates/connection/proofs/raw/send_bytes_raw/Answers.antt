-- `send_bytes_raw` meets its contract: refused, blocked or failed, or one copy of what the stream took.
use Rattle.std.proofs.Common.{length-take, sym, ap, arith}
use Rattle.std.proofs.lemmas.Result.{err_from_is_err_and}
use Rattle.defs.specs.Stream.{counted}
use Rattle.defs.proofs.AnswerLaws.{told_tells_apart}
use Rattle.rules.specs.Raw.{RawIn}
use Rattle.connection.proofs.RawLaws.{raw_shut, raw_stopped, raw_counted, raw_late, raw_fits, raw_left}
use Rattle.connection.proofs.raw.send_bytes_raw.Goals as goal

pub returns-in_err-raw_door : goal.returns-in_err-raw_door
returns-in_err-raw_door c =
    let p = err_from_is_err_and c.from_residual.result c.from_residual.ensures.1 in
    rw (p.1, p.2) (raw_shut _ _ (told_tells_apart _ _ c.in_err-raw_door.ensures))

pub returns-in_default : goal.returns-in_default
returns-in_default c = raw_stopped _ _ (told_tells_apart _ _ c.in_ok-raw_door.ensures) c.in_default.not-Count (rw c.stopped_by.ensures at c.and.ensures)

pub returns-in_err-late : goal.returns-in_err-late
returns-in_err-late c =
    let p = err_from_is_err_and c.from_residual-in_err-late.result c.from_residual-in_err-late.ensures.1 in
    rw (p.1, p.2) (raw_late _ _ _ (told_tells_apart _ _ c.in_ok-raw_door.ensures) c.in-Count.is c.in_err-late.ensures)

pub slice_bounds-copy-end : goal.slice_bounds-copy-end
slice_bounds-copy-end c =
    let a = c.args in
    let i : RawIn = record { conn = a.conn; buf = a.buf.now; answers = a.answers; out = a.out.now } in
    let f = raw_fits i (raw_counted _ _ _ (told_tells_apart _ _ c.in_ok-raw_door.ensures) c.in-Count.is c.in_ok-late.ensures) in
    let n = ap counted c.in-Count.is in
    simp length-take (omega arith)

pub returns : goal.returns
returns c =
    raw_left _ _ _ (raw_counted _ _ _ (told_tells_apart _ _ c.in_ok-raw_door.ensures) c.in-Count.is c.in_ok-late.ensures) (sym (ap counted c.in-Count.is)) c.copy.ensures
