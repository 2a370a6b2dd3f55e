-- `notify` meets its contract: refused, seen, or flushed and drained.
use Rattle.std.proofs.Common.{refl, sym, ap, ◌∙◌, arith}
use Rattle.std.proofs.lemmas.Result.{err_from_is_err_and}
use Rattle.defs.specs.Answer.{done, answer_of}
use Rattle.defs.proofs.AnswerLaws.{told_tells_apart}
use Rattle.txbuf.specs.declared.flush.Flushed.{Flushed}
use Rattle.txbuf.specs.Flush.{FlushLeft, flush_seen}
use Rattle.rules.specs.Notify.{NotifyIn}
use Rattle.connection.proofs.NotifyLaws.{Flushing, flushing, flush_within, notify_refused, notify_seen, notify_kept_lem, notify_done_lem}
use Rattle.connection.proofs.event.notify.Goals.{After-absorb}
use Rattle.connection.proofs.event.notify.Goals as goal

-- what the call is given, where a flush was due
abbrev given : After-absorb → NotifyIn
given f =
    let a = f.args in
    record { conn = a.conn; readable = a.readable; writable = a.writable; store = a.storage.now; answers = a.answers; out = a.out.now }

-- the flush
abbrev flush_left : After-absorb → FlushLeft
flush_left f = flush_seen f.args.conn.tx_buf f.flush_to-flushed.result f.flush_to-flushed.new.out

answered : (f : After-absorb) → Flushing (given f) (answer_of f.absorb.result) (flush_left f)
answered f =
    flushing (given f) _ (answer_of f.flush_to-flushed.result) _ (told_tells_apart _ _ f.in_ok-notify_door.ensures)
    (sym f.is_flush_due.ensures ∙ f.if-not-is_flush_due.false) f.flush_to-flushed.ensures refl f.absorb.ensures.answer

pub returns-in_err-notify_door : goal.returns-in_err-notify_door
returns-in_err-notify_door c =
    let p = err_from_is_err_and c.from_residual.result c.from_residual.ensures.1 in
    rw (p.1, p.2) (notify_refused _ _ (told_tells_apart _ _ c.in_err-notify_door.ensures))

pub returns-then-not-is_flush_due : goal.returns-then-not-is_flush_due
returns-then-not-is_flush_due c =
    let a = c.args in
    let i : NotifyIn = record { conn = a.conn; readable = a.readable; writable = a.writable; store = a.storage.now; answers = a.answers; out = a.out.now } in
    notify_seen i _ (told_tells_apart _ _ c.in_ok-notify_door.ensures) (sym c.is_flush_due.ensures ∙ c.if-not-is_flush_due.true) c.see-seen.ensures

pub returns-in_err-left : goal.returns-in_err-left
returns-in_err-left c =
    let f = (goal.at.returns-in_err-left c).After-absorb in
    let p = err_from_is_err_and c.from_residual-in_err-left.result c.from_residual-in_err-left.ensures.1 in
    rw (p.1, p.2) (notify_kept_lem (given f) _ (flush_left f) (rw c.in_err-left.was at (answered f)))

pub drained-requires : goal.drained-requires
drained-requires c =
    let f = (goal.at.drained-requires c).After-absorb in
    let n = flush_within (given f) done (flush_left f) (rw c.in_ok-left.was at (answered f)) in
    let e = ap (λ (x : Flushed). x.count) c.in_ok-left.ensures.left in
    omega arith

pub returns : goal.returns
returns c =
    let f = (goal.at.returns c).After-absorb in
    notify_done_lem (given f) (flush_left f) _ _ _ _ (rw c.in_ok-left.was at (answered f)) c.in_ok-left.ensures.left c.see-seen.ensures c.has_failed.ensures c.drained.ensures
