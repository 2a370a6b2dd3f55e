-- `send_pkt` meets its contract: refused, or the bytes carried and the record ruled by one plan.
use Rattle.std.proofs.Common.{◌≡◌, ◌&&◌, not, length-take, ap, ◌∙◌, arith}
use Rattle.std.proofs.lemmas.Result.{err_from_is_err_and}
use Rattle.defs.specs.Answer.{done}
use Rattle.defs.proofs.AnswerLaws.{result_err}
use Rattle.rules.specs.Send.{SendPlan, SendIn}
use Rattle.rules.proofs.SendLaws.{passed}
use Rattle.connection.specs.Plan.{planned}
use Rattle.connection.proofs.SendLaws.{Found, found, rules, killable, carries_by, send_kept_lem, send_shut, answers_late, send_left}
use Rattle.connection.proofs.send.send_pkt.Goals.{After-plan_send-plan, then-plan, else-plan}
use Rattle.connection.proofs.send.send_pkt.Goals as goal

-- what the call is given, where the packet has a header
abbrev given : After-plan_send-plan → SendIn
given f =
    let a = f.args in
    record { conn = a.conn; store = a.storage.now; hdr = a.pkt.hdr.now; present = a.pkt.present; buf = a.pkt.buf.now; clock = a.now_ms; answers = a.answers; out = a.out.now }

-- and a plan
known : (f : After-plan_send-plan) → Found (given f) f.in_ok-hdr.hdr (planned f.plan_send-plan.result)
known f = found (given f) _ _ f.in_ok-hdr.ensures f.plan_send-plan.ensures

pub returns-in_err-hdr : goal.returns-in_err-hdr
returns-in_err-hdr c =
    let p = err_from_is_err_and c.from_residual.result c.from_residual.ensures.1 in
    rw (p.1, p.2) (send_shut _ _ (result_err _ _ _ c.in_err-hdr.ensures))

pub returns-in_err-late : goal.returns-in_err-late
returns-in_err-late c =
    let f = (goal.at.returns-in_err-late c).After-plan_send-plan in
    let p = err_from_is_err_and c.from_residual-in_err-late.result c.from_residual-in_err-late.ensures.1 in
    rw (p.1, p.2) (send_kept_lem (given f) _ (answers_late (given f) _ _ _ (known f) c.in_err-late.ensures))

pub kills-kills-requires : goal.kills-kills-requires
kills-kills-requires c =
    let f = (goal.at.kills-kills-requires c).After-plan_send-plan in
    killable _ _ (passed _ (answers_late (given f) _ _ done (known f) c.in_ok-late.ensures)) (known f).plan

pub slice_bounds-payload-end : goal.slice_bounds-payload-end
slice_bounds-payload-end c =
    let f = (goal.at.slice_bounds-payload-end c).After-plan_send-plan in
    let w = passed _ (answers_late (given f) _ _ done (known f) c.in_ok-late.ensures) in
    let p = ap (λ (x : SendPlan). x.len) (known f).plan in
    simp length-take (omega arith)

pub carry-left-requires : goal.carry-left-requires
carry-left-requires c =
    let f = (goal.at.carry-left-requires c).After-plan_send-plan in
    let k : c.if-plan.keeps ≡ c.plan_send-plan.result.goes && not c.kills-kills.result =
    elim c.if-plan.branch [ then-plan w ↦ rw w.if-plan.true w.keeps-is | else-plan w ↦ rw w.if-plan.false (w.keeps-is ∙ w.if-plan.false) ] in
    rw k (carries_by (given f) _ _ (passed _ (answers_late (given f) _ _ done (known f) c.in_ok-late.ensures)) (known f).plan c.kills-kills.ensures)

pub rule-requires : goal.rule-requires
rule-requires c =
    let f = (goal.at.rule-requires c).After-plan_send-plan in
    rules _ _ _ _ (passed _ (answers_late (given f) _ _ done (known f) c.in_ok-late.ensures)) (known f).plan c.heard.ensures

pub returns : goal.returns
returns c =
    let f = (goal.at.returns c).After-plan_send-plan in
    let k : c.if-plan.keeps ≡ c.plan_send-plan.result.goes && not c.kills-kills.result =
    elim c.if-plan.branch [ then-plan w ↦ rw w.if-plan.true w.keeps-is | else-plan w ↦ rw w.if-plan.false (w.keeps-is ∙ w.if-plan.false) ] in
    send_left (given f) _ _ _ _ _ _ _ _ _ (known f) (answers_late (given f) _ _ done (known f) c.in_ok-late.ensures) c.kills-kills.ensures
    (rw k at c.carry-left.ensures.storage_after) c.carry-left.ensures.out_after c.is_quiet-empty.ensures c.heard.ensures c.rule.ensures
