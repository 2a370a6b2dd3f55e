-- `recv_pkt` meets its contract: refused, or header, buffer and record written from one row.
use mathlib.Core.Path.{◌≡◌, sym, ap, ◌∙◌}
use native.Mathlib.Omega.{arith}
use lib.ListN.{length-take}
use Rattle.csm.specs.declared.row.Row.{Row}
use Rattle.rules.specs.Receive.{RecvIn, said_by}
use Rattle.rules.proofs.ReceiveLaws.{Passed, passed}
use Rattle.connection.proofs.ReceiveLaws.{recv_kept_lem, recv_left}
use Rattle.defs.specs.Answer.{done}
use Rattle.defs.proofs.AnswerLaws.{is_done_lem}
use mathlib.Core.Bool.{not}
use Rattle.connection.proofs.receive.recv_pkt.Goals.{After-next_row-row}
use Rattle.connection.proofs.receive.recv_pkt.Goals as goal

-- what the call is given, where nothing is refused
abbrev given : After-next_row-row → RecvIn
given c =
    let a = c.args in
    record { conn = a.conn; hdr = a.hdr.now; present = a.present; buf = a.buf.now; clock = a.now_ms; answer = a.answer; read = a.read.now }

done_then : (c : After-next_row-row) → c.recv_refusal-refusal.result ≡ done
done_then c = is_done_lem _ (c.is_err.ensures.negation ∙ ap not c.if-is_err.false)

-- what is known then
fit : (c : After-next_row-row) → Passed (given c)
fit c = passed _ (sym c.recv_refusal-refusal.ensures ∙ done_then c)

pub returns-then-is_err : goal.returns-then-is_err
returns-then-is_err c =
    let a = c.args in
    let i : RecvIn = record { conn = a.conn; hdr = a.hdr.now; present = a.present; buf = a.buf.now; clock = a.now_ms; answer = a.answer; read = a.read.now } in
    recv_kept_lem i _ c.recv_refusal-refusal.ensures (c.is_err.ensures.negation ∙ ap not c.if-is_err.true)

pub header-requires : goal.header-requires
header-requires c =
    let d = (goal.at.header-requires c).After-next_row-row in
    let r : c.next_row-row.result ≡ said_by (given d) = c.next_row-row.ensures in
    rw r (fit d).receivable.count

pub slice_bounds-copy-end : goal.slice_bounds-copy-end
slice_bounds-copy-end c =
    let d = (goal.at.slice_bounds-copy-end c).After-next_row-row in
    let r : c.next_row-row.result ≡ said_by (given d) = c.next_row-row.ensures in
    let f : Passed (given d) = fit d in
    let e = ap (λ (x : Row). x.count) r in
    simp length-take (omega arith)

pub received-requires : goal.received-requires
received-requires c =
    let d = (goal.at.received-requires c).After-next_row-row in
    let r : c.next_row-row.result ≡ said_by (given d) = c.next_row-row.ensures in
    rw r (fit d).receivable

pub returns : goal.returns
returns c =
    let d = (goal.at.returns c).After-next_row-row in
    recv_left (given d) _ c.encode-written.result _ _ _ _ _ _ c.recv_refusal-refusal.ensures (done_then d) c.next_row-row.ensures c.header.ensures
    c.encode-written.ensures c.copy.ensures c.received.ensures c.and.ensures
