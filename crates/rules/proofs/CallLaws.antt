-- What a call does, said a second time: the promises of specs/Outcomes. Assumes nothing.
use Prim.Native.Nat.{ℕ, zero, suc, ◌≤◌}
use mathlib.Core.Path.{◌≡◌, refl, sym, ap, subst, ◌∙◌}
use mathlib.Core.Logic.{⊎_elim}
use mathlib.Core.Bool.{Bool, true, false, not, ◌&&◌, ◌||◌}
use mathlib.Core.List.{[], ◌++◌}
use native.Mathlib.Omega.{arith}
use lib.Dec.{leb, eqb}
use lib.ListN.{take, drop}
use borrow.Author.Tests.{eqb-true, ne_eqb, le-leb, not-false}
use Rattle.defs.specs.Answer.{Told, told, is_done, when_done, Answer, done}
use Rattle.defs.specs.Choice.{when}
use Rattle.defs.specs.Credit.{peer_needs_credit_update}
use Rattle.defs.specs.Ladder.{door_of, late_of, lowest_of}
use Rattle.defs.specs.Look.{FlagLeft, flag_of}
use Rattle.defs.specs.Promises.{Refuses, Exactly}
use Rattle.defs.specs.Stream.{counted, failed}
use Rattle.defs.proofs.Basics.{never, both, true_or_false, positive, or_false}
use Rattle.defs.proofs.AnswerLaws.{done_is_done, is_done_lem, done_passes, when_done_lem, when_not_done, when_refused, number_zero, answer_told, left_done, left_kept}
use Rattle.defs.proofs.LadderLaws.{lowest_passed, door_passed}
use Rattle.defs.proofs.LookLaws.{flag_done}
use Rattle.defs.proofs.ChoiceLaws.{when_true, when_false, when_holds}
use Rattle.packet.specs.Header.{layout, fields, encoded, decoded}
use Rattle.packet.specs.Promises.{Fit}
use Rattle.packet.proofs.HeaderLaws.{decoded_encoded}
use Rattle.packet.specs.Uapi.{op_response, op_shutdown, op_rw, op_credit_request}
use Rattle.packet.specs.declared.hdr.VsockPacketHdr.{VsockPacketHdr}
use Rattle.txbuf.specs.Record.{used_of}
use Rattle.txbuf.specs.declared.record.TxBuf.{TxBuf}
use Rattle.csm.specs.State.{is_local_init, both_off}
use Rattle.csm.specs.Pending.{none, is_pending, marked}
use Rattle.csm.specs.declared.pending.PendingRxSet.{PendingRxSet}
use Rattle.csm.specs.Row.{row_of}
use Rattle.csm.specs.Means.{takes_data, shut_both}
use Rattle.csm.specs.Said.{Said, said_now, said_by, number_of}
use Rattle.csm.proofs.Promises.{every_state_means, every_timer_means, says_first_pending, seven_and_eight}
use Rattle.csm.specs.declared.turn.RxStep.{RxStep}
use Rattle.csm.specs.declared.turn.RxStep.TheVariants.{Rst, Response, Request, OutOfState, AskCredit, NoBuffer, Data, Close, Fail, Update, Nothing}
use Rattle.rules.specs.Record.{Peer, peer_of, quiet, credit_of, with_state, killed_of}
use Rattle.rules.specs.Open.{ConnLeft}
use Rattle.rules.specs.Look.{look_answer, timed_answer, StateLeft, state_of, ExpiryLeft, expiry_of, EvSetLeft, ev_set_of, kill_of}
use Rattle.rules.specs.Raw.{RawLeft, raw_answer, raw_done, raw_kept, raw_of}
use Rattle.rules.specs.Receive.{RecvIn, RecvLeft, spoken_of, received_of, header_of, recv_door, recv_refusal, refusal_of, next_step, recv_done, recv_kept, recv_of}
use Rattle.rules.specs.Send.{SendPlan, heard_of, moved_of, updated_of, on_response, on_shutdown, on_credit_request, on_data, rule_of, goes_of, plan_of, kills_of, SendIn, SendLeft, pkt_of, send_plan, send_answer, send_kills, send_carried, send_done, send_kept, send_of, accepted}
use Rattle.rules.specs.Notify.{NotifyIn, NotifyLeft, seen_of, settled_of, drained_of, due, flushed, notify_answer, notify_done, notify_kept, notify_of}
use Rattle.rules.specs.Outcomes.{Addressed, HeaderTells, initialised, SevenAndEightLeave, turn_of, header_now, conn_now, EveryTurnLeaves, RefusalsChangeNothing, EverySendHears, meets_data, writes_now, taken_now, kills_now, accepted_now, EverySendAccepts, falls_short, UpdateIsDue, Dead, KillMeans, EveryKillKills, EveryPollPolls, ExpiryMeans, LooksTell, RefusedTellsNothing}
use Rattle.rules.specs.declared.record.VsockConnection.{VsockConnection}
use Rattle.rules.proofs.RecordLaws.{sound_means}
use Rattle.rules.proofs.ReceiveLaws.{passed}

-- ---- refusals

-- what is said is no refusal, nor are 7 and 8
said_passes : (s : RxStep) → Refuses (told (row_of s).answer) → ⊥
said_passes Rst r = done_passes r
said_passes Response r = done_passes r
said_passes Request r = done_passes r
said_passes OutOfState r = done_passes r
said_passes AskCredit r = done_passes r
said_passes NoBuffer r = omega (arith, r.1)
said_passes (Data n) r = done_passes r
said_passes Close r = done_passes r
said_passes Fail r = done_passes r
said_passes Update r = done_passes r
said_passes Nothing r = omega (arith, r.1)

-- where one field alone depends on the answer
pub field_kept : {A : Type 0} (a : Answer) (x y : A) → Refuses (told a) → when_done a x y ≡ y
field_kept a x y r =
    ⊎_elim
    (λ (t : is_done a ≡ true). let z : (told a).number ≡ 0 = ap (λ (b : Answer). (told b).number) (is_done_lem a t) in absurd (omega (arith, r.0)))
    (λ (t : is_done a ≡ false). when_not_done a x y t)
    (true_or_false (is_done a))

field_done : {A : Type 0} (a : Answer) (x y : A) → (told a).number ≡ 0 → when_done a x y ≡ x
field_done a x y n = when_done_lem a x y (number_zero a n)

pub refusals_change_nothing : RefusalsChangeNothing
unfolding send_of send_done send_kept recv_of recv_done recv_kept notify_of notify_done notify_kept raw_of raw_done raw_kept kill_of
refusals_change_nothing = record {
  send = λ i o says r.
      let z = left_kept (λ (x : SendLeft). x.answer) (send_answer i) (send_done i) (send_kept i) o done_passes says r in
      (ap (λ (x : SendLeft). x.conn) z, ap (λ (x : SendLeft). x.store) z, ap (λ (x : SendLeft). x.out) z);
  recv = λ i o says r.
      let z = left_kept (λ (x : RecvLeft). x.answer) (refusal_of i) (recv_done i) (recv_kept i) o (said_passes (next_step i.conn i.present i.answer)) says r in
      (ap (λ (x : RecvLeft). x.conn) z, ap (λ (x : RecvLeft). x.hdr) z, ap (λ (x : RecvLeft). x.buf) z);
  notify = λ i o says r.
      let z = left_kept (λ (x : NotifyLeft). x.answer) (notify_answer i) (notify_done i) (notify_kept i) o done_passes says r in
      (ap (λ (x : NotifyLeft). x.conn) z, ap (λ (x : NotifyLeft). x.out) z);
  raw = λ i o says r.
      let z = left_kept (λ (x : RawLeft). x.answer) (raw_answer i) (raw_done i) (raw_kept i) o done_passes says r in
      (ap (λ (x : RawLeft). x.out) z, ap (λ (x : RawLeft). x.count) z);
  kill = λ c o says r.
      ap (λ (x : ConnLeft). x.conn) says ∙ field_kept (look_answer c) (killed_of c) c (subst Refuses (ap (λ (x : ConnLeft). x.answer) says) r);
}

-- ---- a packet

-- what the guest said last stays, whichever rule is chosen
same_peer : (b : Bool) (x y : VsockConnection) (v : Peer) → peer_of x ≡ v → peer_of y ≡ v → peer_of (when b x y) ≡ v
same_peer b x y v e f = when_holds (λ (c : VsockConnection). peer_of c ≡ v) b x y (λ t. e) (λ t. f)

rule_peer : (c : VsockConnection) (empty : Bool) (pkt : VsockPacketHdr) (p : SendPlan) (kills : Bool) (ring : TxBuf) (clock : ℕ) → peer_of (rule_of c empty pkt p kills ring clock) ≡ peer_of c
unfolding rule_of on_response on_shutdown on_credit_request on_data killed_of updated_of moved_of with_state
rule_peer c empty pkt p kills ring clock =
    same_peer (eqb pkt.op op_response) _ _ _ (same_peer (is_local_init c.state) _ _ _ refl refl)
    (same_peer (eqb pkt.op op_shutdown) _ _ _ refl
    (same_peer (eqb pkt.op op_rw) _ _ _ (same_peer p.goes _ _ _ (same_peer kills _ _ _ refl refl) refl)
    (same_peer (eqb pkt.op op_credit_request) _ _ _ refl refl)))

-- what a packet that is done leaves
pub done_left : (i : SendIn) (o : SendLeft) → o ≡ send_of i → o.answer.number ≡ 0 → o ≡ send_done i
unfolding send_of send_kept
done_left i o says n = left_done (λ (x : SendLeft). x.answer) (send_answer i) (send_done i) (send_kept i) o refl says n

done_peer : (i : SendIn) → peer_of (send_done i).conn ≡ record { alloc = (decoded i.hdr).buf_alloc; fwd = (decoded i.hdr).fwd_cnt }
unfolding send_done heard_of
done_peer i = rule_peer (heard_of i.conn (pkt_of i)) (quiet i.conn.tx_buf) (pkt_of i) (send_plan i) (send_kills i) (send_carried i).ring i.clock

pub every_send_hears : EverySendHears
every_send_hears i o says = record {
  alloc = λ n. ap (λ (x : SendLeft). x.conn.peer_buf_alloc) (done_left i o says n) ∙ ap (λ (p : Peer). p.alloc) (done_peer i);
  fwd = λ n. ap (λ (x : SendLeft). x.conn.peer_fwd_cnt) (done_left i o says n) ∙ ap (λ (p : Peer). p.fwd) (done_peer i);
  refused = λ r.
      let e = (refusals_change_nothing.send i o says r).0 in
      (ap (λ (c : VsockConnection). c.peer_buf_alloc) e, ap (λ (c : VsockConnection). c.peer_fwd_cnt) e);
}

-- the plan by what the packet meets
goes_now : (i : SendIn) → goes_of i.conn (pkt_of i).op i.present ≡ meets_data i
unfolding goes_of
goes_now i = ap (λ (t : Bool). t && i.present && eqb (pkt_of i).op op_rw) (every_state_means i.conn.state).takes

module _ (i : SendIn) (g : meets_data i ≡ true) where
  pub goes : goes_of i.conn (pkt_of i).op i.present ≡ true
  goes = goes_now i ∙ g

  pub plan_len : (send_plan i).len ≡ (decoded i.hdr).len
  unfolding plan_of
  plan_len = when_true _ _ _ goes

  pub plan_written : (send_plan i).written ≡ taken_now i
  unfolding plan_of quiet
  plan_written = ap (λ (t : Bool). when (t && writes_now i) (counted i.answers.first) 0) goes

  pub kills_now_lem : send_kills i ≡ kills_now i
  unfolding kills_of plan_of quiet when
  kills_now_lem = rw goes

module _ (i : SendIn) (g : meets_data i ≡ false) where
  pub stays_out : goes_of i.conn (pkt_of i).op i.present ≡ false
  stays_out = goes_now i ∙ g

  nothing_brought : when (send_kills i) (take (send_plan i).written (take (send_plan i).len i.buf)) (take (send_plan i).len i.buf) ≡ []
  unfolding kills_of plan_of when
  nothing_brought = rw stays_out

pub met : (i : SendIn) → when (send_kills i) (take (send_plan i).written (take (send_plan i).len i.buf)) (take (send_plan i).len i.buf) ≡ accepted_now i
met i =
    ⊎_elim
    (λ (g : meets_data i ≡ true). rw (kills_now_lem i g, plan_written i g, plan_len i g) (sym (when_true _ _ _ g)))
    (λ (g : meets_data i ≡ false). nothing_brought i g ∙ sym (when_false _ _ _ g))
    (true_or_false (meets_data i))

pub send_number : (i : SendIn) (o : SendLeft) → o ≡ send_of i → o.answer ≡ told (send_answer i)
unfolding send_of send_done send_kept
send_number i o says = ap (λ (x : SendLeft). x.answer) says ∙ answer_told (λ (x : SendLeft). x.answer) (send_answer i) (send_done i) (send_kept i) refl refl

pub every_send_accepts : EverySendAccepts
unfolding accepted
every_send_accepts i o says = record {
  done = λ n. field_done (send_answer i) _ [] (ap (λ (t : Told). t.number) (sym (send_number i o says)) ∙ n) ∙ met i;
  refused = λ r. field_kept (send_answer i) _ [] (subst Refuses (send_number i o says) r);
}

-- ---- updates

pub rule_data : (c : VsockConnection) (empty : Bool) (pkt : VsockPacketHdr) (p : SendPlan) (ring : TxBuf) (clock : ℕ) → pkt.op ≡ op_rw → p.goes ≡ true
    → rule_of c empty pkt p false ring clock ≡ updated_of (moved_of c ring p.written)
unfolding rule_of on_data when
rule_data c empty pkt p ring clock e g = rw (e, g)

-- what the threshold rule leaves, by the record that it leaves
updated : (c : VsockConnection) → (updated_of c).pending_rx.credit_update ≡ c.pending_rx.credit_update || falls_short (updated_of c)
unfolding updated_of with_state peer_needs_credit_update
updated c = refl

moved_update : (c : VsockConnection) (pkt : VsockPacketHdr) (ring : TxBuf) (n : ℕ) → (moved_of (heard_of c pkt) ring n).pending_rx.credit_update ≡ c.pending_rx.credit_update
unfolding moved_of heard_of
moved_update c pkt ring n = refl

send_due : (i : SendIn) (o : SendLeft) → o ≡ send_of i → o.answer.number ≡ 0 → meets_data i ≡ true → kills_now i ≡ false
    → o.conn.pending_rx.credit_update ≡ i.conn.pending_rx.credit_update || falls_short o.conn
unfolding send_done plan_of
send_due i o says n g k =
    let d = moved_of (heard_of i.conn (pkt_of i)) (send_carried i).ring (send_plan i).written in
    let op : (pkt_of i).op ≡ op_rw = eqb-true _ _ (both (takes_data i.conn.state && i.present) _ g).1 in
    let z : o.conn ≡ updated_of d =
    ap (λ (x : SendLeft). x.conn) (done_left i o says n)
    ∙ ap (λ (b : Bool). rule_of (heard_of i.conn (pkt_of i)) (quiet i.conn.tx_buf) (pkt_of i) (send_plan i) b (send_carried i).ring i.clock) (kills_now_lem i g ∙ k)
    ∙ rule_data _ _ (pkt_of i) (send_plan i) _ _ op (goes i g) in
    rw z (updated d ∙ ap (λ (b : Bool). b || falls_short (updated_of d)) (moved_update i.conn (pkt_of i) (send_carried i).ring (send_plan i).written))

-- an update is pending after a flush: where one was before, or where the record falls short, unless it ends a connection that was shut both ways
abbrev DueOn : Bool → VsockConnection → Type 0
DueOn before d = d.pending_rx.credit_update ≡ before || (not (shut_both d.state && eqb (used_of d.tx_buf) 0) && falls_short d)

reset_due : (c : VsockConnection) → shut_both c.state && eqb (used_of c.tx_buf) 0 ≡ true
    → DueOn c.pending_rx.credit_update (with_state c c.state c.expiry (marked c.pending_rx true false false))
unfolding with_state
reset_due c q = rw q

update_due : (c : VsockConnection) → shut_both c.state && eqb (used_of c.tx_buf) 0 ≡ false → DueOn c.pending_rx.credit_update (updated_of c)
unfolding updated_of with_state peer_needs_credit_update
update_due c q = rw q

settled_due : (c : VsockConnection) (empty : Bool) → empty ≡ quiet c.tx_buf → DueOn c.pending_rx.credit_update (settled_of c empty)
unfolding settled_of quiet
settled_due c empty e =
    when_holds (DueOn c.pending_rx.credit_update) (both_off c.state && empty) _ _ (λ t. reset_due c (ends t)) (λ t. update_due c (ends t))
  where
    ends : {b : Bool} → both_off c.state && empty ≡ b → shut_both c.state && eqb (used_of c.tx_buf) 0 ≡ b
    ends t = ap (λ (x : Bool). x && eqb (used_of c.tx_buf) 0) (sym (every_state_means c.state).both) ∙ ap (λ (x : Bool). both_off c.state && x) (sym e) ∙ t

-- so one is due after a flush that did not kill
flushed_due : (c : VsockConnection) (readable : Bool) (ring : TxBuf) (n : ℕ)
    → DueOn c.pending_rx.credit_update (settled_of (moved_of (seen_of c readable) ring n) (quiet ring))
unfolding moved_of seen_of with_state
flushed_due c readable ring n =
    let x = moved_of (seen_of c readable) ring n in
    subst (λ (b : Bool). DueOn b (settled_of x (quiet ring))) (or_false c.pending_rx.credit_update) (settled_due x (quiet ring) refl)

notify_due : (i : NotifyIn) (o : NotifyLeft) → o ≡ notify_of i → o.answer.number ≡ 0 → i.writable ≡ true → 1 ≤ used_of i.conn.tx_buf
    → failed i.answers.first ≡ false → DueOn i.conn.pending_rx.credit_update o.conn
unfolding notify_of notify_done notify_kept drained_of quiet
notify_due i o says n w l b =
    let d : due i ≡ true = rw w (ap not (ne_eqb (used_of i.conn.tx_buf) 0 (λ e. omega arith))) in
    let z = ap (λ (y : NotifyLeft). y.conn) (left_done (λ (y : NotifyLeft). y.answer) (notify_answer i) (notify_done i) (notify_kept i) o refl says n) ∙ when_true _ _ _ d ∙ when_false _ _ _ b in
    subst (DueOn i.conn.pending_rx.credit_update) (sym z) (flushed_due i.conn i.readable (flushed i).ring (flushed i).count)

pub update_is_due : UpdateIsDue
update_is_due = record { send = send_due; notify = notify_due }

-- ---- a turn to speak

-- a refusal of a turn is a number from 1 to 6
refusal_small : (r h c l a m : Bool) → (told (lowest_of (door_of r h c l) (late_of a m))).number ≤ 6
unfolding lowest_of door_of late_of when_done when
refusal_small true h c l a m = omega arith
refusal_small false true c l a m = omega arith
refusal_small false false true l a m = omega arith
refusal_small false false false true a m = omega arith
refusal_small false false false false true m = omega arith
refusal_small false false false false false true = omega arith
refusal_small false false false false false false = omega arith

-- so what isn't refused is done, said or lacks its buffer
pub not_refused : (i : RecvIn) (o : RecvLeft) → o ≡ recv_of i → (Refuses o.answer → ⊥) → refusal_of i ≡ done
unfolding recv_of recv_kept recv_refusal recv_door
not_refused i o says k =
    ⊎_elim
    (λ (t : is_done (refusal_of i) ≡ true). is_done_lem _ t)
    (λ (t : is_done (refusal_of i) ≡ false).
    let z : o.answer ≡ told (refusal_of i) = ap (λ (x : RecvLeft). x.answer) (says ∙ when_not_done (refusal_of i) _ _ t) in
    absurd
    (k (rw z (positive _ (λ e. never (sym t ∙ ap is_done (number_zero (refusal_of i) e) ∙ done_is_done)), refusal_small _ _ _ _ _ _))))
    (true_or_false (is_done (refusal_of i)))

turn_done : (i : RecvIn) (o : RecvLeft) → o ≡ recv_of i → (Refuses o.answer → ⊥) → o ≡ recv_done i
unfolding recv_of
turn_done i o says k = says ∙ when_done_lem (refusal_of i) _ _ (not_refused i o says k)

-- what is said has an op of at most 7 and flags of at most 3
row_small : (s : RxStep) → ((row_of s).op ≤ 7) × ((row_of s).flags ≤ 3)
row_small Rst = (omega arith, omega arith)
row_small Response = (omega arith, omega arith)
row_small Request = (omega arith, omega arith)
row_small OutOfState = (omega arith, omega arith)
row_small AskCredit = (omega arith, omega arith)
row_small NoBuffer = (omega arith, omega arith)
row_small (Data n) = (omega arith, omega arith)
row_small Close = (omega arith, omega arith)
row_small Fail = (omega arith, omega arith)
row_small Update = (omega arith, omega arith)
row_small Nothing = (omega arith, omega arith)

-- so the header's fields fit their widths
header_fits : (i : RecvIn) (o : RecvLeft) → o ≡ recv_of i → (Refuses o.answer → ⊥) → Addressed i.conn → Fit layout (fields (header_now i.conn (said_now (turn_of i))))
unfolding recv_refusal recv_door credit_of
header_fits i o says k a =
    let d = not_refused i o says k in
    let n = (passed i d).receivable.count in
    let r = row_small (next_step i.conn i.present i.answer) in
    let s = ((sound_means.alone i.conn).0 (not-false _ (door_passed _ _ _ _ (lowest_passed _ _ d).0).record_ok)).settings.most in
    subst (λ (x : Said). Fit layout (fields (header_now i.conn x))) (says_first_pending (turn_of i))
    (a.cids.0, (a.cids.1, (a.ports.0, (a.ports.1, (omega arith, (omega arith, (omega arith, (omega arith, (omega arith, (a.count, tt))))))))))

header_said : (i : RecvIn) (o : RecvLeft) → o ≡ recv_of i → (Refuses o.answer → ⊥) → Addressed i.conn → decoded o.hdr ≡ header_now i.conn (said_now (turn_of i))
unfolding recv_done header_of credit_of
header_said i o says k a =
    ap decoded (ap (λ (x : RecvLeft). x.hdr) (turn_done i o says k) ∙ ap (λ (x : Said). encoded (header_now i.conn x)) (says_first_pending (turn_of i)))
    ∙ decoded_encoded _ (header_fits i o says k a)

-- the answer of a turn that isn't refused is its row's
turn_number : (i : RecvIn) (o : RecvLeft) → o ≡ recv_of i → 7 ≤ o.answer.number → o.answer.number ≡ number_of (turn_of i)
unfolding recv_done credit_of
turn_number i o says l = ap (λ (x : RecvLeft). x.answer.number) (turn_done i o says (λ r. omega (arith, r.1)))

-- a turn answered 7 or 8 says nothing
says_nothing : (i : RecvIn) (o : RecvLeft) → o ≡ recv_of i → 7 ≤ o.answer.number → ((said_now (turn_of i)).op ≡ 0) × ((said_now (turn_of i)).len ≡ 0) × ((said_now (turn_of i)).flags ≡ 0)
says_nothing i o says l =
    let b = (seven_and_eight (turn_of i)).blank (λ z. let n = turn_number i o says l in omega arith) in
    let m = sym (says_first_pending (turn_of i)) in
    (ap (λ (x : Said). x.op) m ∙ b.0, ap (λ (x : Said). x.len) m ∙ b.1, ap (λ (x : Said). x.flags) m ∙ b.2)

pub header_tells : HeaderTells
header_tells = record {
  said = header_said;
  blank = λ i o says l a.
      let e = header_said i o says (λ r. omega (arith, r.1)) a in
      let n = says_nothing i o says l in
      (ap (λ (h : VsockPacketHdr). h.op) e ∙ n.0, ap (λ (h : VsockPacketHdr). h.len) e ∙ n.1);
}

blank_header : (c : VsockConnection) (s : Said) → s.op ≡ 0 → s.len ≡ 0 → s.flags ≡ 0 → encoded (header_now c s) ≡ encoded (initialised c s)
blank_header c s p q r = rw (p, q, r)

module _ (i : RecvIn) (o : RecvLeft) (says : o ≡ recv_of i) (l : 7 ≤ o.answer.number) where
  spoken : o ≡ recv_done i
  spoken = turn_done i o says (λ r. omega (arith, r.1))

  pending_left : o.conn.pending_rx ≡ (said_by (turn_of i)).pending
  unfolding recv_done received_of spoken_of credit_of
  pending_left = ap (λ (x : RecvLeft). x.conn.pending_rx) spoken

  header_left : o.hdr ≡ encoded (initialised i.conn (said_now (turn_of i)))
  unfolding recv_done header_of credit_of
  header_left =
      let b = (seven_and_eight (turn_of i)).blank (λ z. let n = turn_number i o says l in omega arith) in
      ap (λ (x : RecvLeft). x.hdr) spoken ∙ blank_header i.conn (said_by (turn_of i)) b.0 b.1 b.2

pub seven_and_eight_leave : SevenAndEightLeave
seven_and_eight_leave i o says = record {
  seven = λ n. let l : 7 ≤ o.answer.number = omega arith in pending_left i o says l ∙ (seven_and_eight (turn_of i)).seven (sym (turn_number i o says l) ∙ n);
  eight = λ n. let l : 7 ≤ o.answer.number = omega arith in pending_left i o says l ∙ (seven_and_eight (turn_of i)).eight (sym (turn_number i o says l) ∙ n);
  header = header_left i o says;
}

pub every_turn_leaves : EveryTurnLeaves
unfolding recv_done received_of spoken_of header_of credit_of
every_turn_leaves i o says k =
    let z = turn_done i o says k in
    let m = says_first_pending (turn_of i) in
    record {
      conn = ap (λ (x : RecvLeft). x.conn) z ∙ ap (conn_now i.conn) m;
      hdr = ap (λ (x : RecvLeft). x.hdr) z ∙ ap (λ (x : Said). encoded (header_now i.conn x)) m;
      buf = ap (λ (x : RecvLeft). x.buf) z ∙ ap (λ (x : Said). take x.len i.read ++ drop x.len i.buf) m;
    }

-- ---- killing, polled events, timers

pub killed_dead : (c : VsockConnection) → Dead (killed_of c)
unfolding killed_of with_state
killed_dead c = record { state = refl; rst = refl; request = refl; response = refl; rw = refl; update = refl }

killed_means : (c : VsockConnection) → KillMeans c (killed_of c)
unfolding killed_of with_state
killed_means c = record {
  dead = killed_dead c;
  expiry = refl;
  settings = refl;
  addresses = (refl, refl, refl, refl);
  ring = refl;
  peer = (refl, refl);
  counts = (refl, refl, refl);
}

pub every_kill_kills : EveryKillKills
unfolding kill_of
every_kill_kills c o says n =
    let z : o.conn ≡ killed_of c = ap (λ (x : ConnLeft). x.conn) says ∙ field_done (look_answer c) (killed_of c) c (ap (λ (x : ConnLeft). x.answer.number) (sym says) ∙ n) in
    rw z (killed_means c)

pub some : (n : ℕ) → not (eqb n 0) ≡ leb 1 n
some zero = refl
some (suc n) = ap not (ne_eqb (suc n) 0 (λ e. omega arith)) ∙ sym (le-leb 1 (suc n) (omega arith))

pub every_poll_polls : EveryPollPolls
unfolding ev_set_of credit_of quiet
every_poll_polls c o says n =
    let a : (told (look_answer c)).number ≡ 0 = ap (λ (x : EvSetLeft). x.answer.number) (sym says) ∙ n in
    record {
      writable = ap (λ (x : EvSetLeft). x.writable) says ∙ field_done (look_answer c) _ false a ∙ some (used_of c.tx_buf);
      readable = ap (λ (x : EvSetLeft). x.readable) says ∙ field_done (look_answer c) _ false a ∙ rw ((every_state_means c.state).polls, some _);
    }

-- a look that is done says what the test says
told_flag : (a : Answer) (test : Bool) (o : FlagLeft) (P : Type 0) → o ≡ flag_of a test → o.answer.number ≡ 0 → Exactly (test ≡ true) P → Exactly (o.holds ≡ true) P
unfolding flag_of
told_flag a test o P says n m =
    let z : o.holds ≡ test = ap (λ (x : FlagLeft). x.holds) says ∙ field_done a test false (ap (λ (x : FlagLeft). x.answer.number) (sym says) ∙ n) in
    (λ e. m.0 (sym z ∙ e), λ p. z ∙ m.1 p)

pub expiry_means : ExpiryMeans
expiry_means = record {
  will = λ i o says n. told_flag (timed_answer i) _ o _ says n (every_timer_means i.conn.expiry i.clock).after;
  has = λ i o says n. told_flag (timed_answer i) _ o _ says n (every_timer_means i.conn.expiry i.clock).due;
}

-- the five indications by themselves
none_of : (request response rst rw update : Bool) → request || response || rst || rw || update ≡ false
    → ◌≡◌ {A = PendingRxSet} (record { request = request; response = response; rst = rst; rw = rw; credit_update = update }) none
none_of false false false false false e = refl
none_of false false false false true e = absurd (never (sym e))
none_of false false false true update e = absurd (never (sym e))
none_of false false true rw update e = absurd (never (sym e))
none_of false true rst rw update e = absurd (never (sym e))
none_of true response rst rw update e = absurd (never (sym e))

pub refused_tells_nothing : RefusedTellsNothing
unfolding expiry_of state_of ev_set_of
refused_tells_nothing = record {
  expiry = λ c o says n. ap (λ (x : ExpiryLeft). x.expiry) says ∙ when_refused (look_answer c) _ _ (λ z. n (ap (λ (x : ExpiryLeft). x.answer.number) says ∙ z));
  state = λ c o says n. ap (λ (x : StateLeft). x.state) says ∙ when_refused (look_answer c) _ _ (λ z. n (ap (λ (x : StateLeft). x.answer.number) says ∙ z));
  polled = λ c o says n.
      let r : (told (look_answer c)).number ≡ 0 → ⊥ = λ z. n (ap (λ (x : EvSetLeft). x.answer.number) says ∙ z) in
      (ap (λ (x : EvSetLeft). x.readable) says ∙ when_refused (look_answer c) _ _ r, ap (λ (x : EvSetLeft). x.writable) says ∙ when_refused (look_answer c) _ _ r);
}

pub looks_tell : LooksTell
unfolding state_of expiry_of is_pending
looks_tell = record {
  pending = λ c o says n.
      let z = flag_done (look_answer c) (is_pending c.pending_rx) o says n in
      let p = c.pending_rx in
      (λ e. none_of p.request p.response p.rst p.rw p.credit_update (sym z ∙ e), λ e. z ∙ ap is_pending e);
  state = λ c o says n. ap (λ (x : StateLeft). x.state) says ∙ field_done (look_answer c) _ _ (ap (λ (x : StateLeft). x.answer.number) (sym says) ∙ n);
  expiry = λ c o says n. ap (λ (x : ExpiryLeft). x.expiry) says ∙ field_done (look_answer c) _ _ (ap (λ (x : ExpiryLeft). x.answer.number) (sym says) ∙ n);
}
