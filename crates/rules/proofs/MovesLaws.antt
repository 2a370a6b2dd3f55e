-- Laws of what a call moves. Assumes nothing.
use Prim.Native.Nat.{ℕ, ◌+◌, ◌^◌, ◌<◌, ◌≤◌}
use mathlib.Core.Path.{◌≡◌, refl, sym, ap, subst, ◌∙◌}
use mathlib.Core.Logic.{◌⊎◌, inl, inr, ⊎_elim}
use mathlib.Core.Bool.{Bool, true, false, not, ◌&&◌}
use mathlib.Core.List.{List, [], ◌++◌, append-nil, append_assoc}
use native.Mathlib.Omega.{arith}
use native.Mathlib.Nat.{mod-lt}
use lib.Dec.{eqb}
use lib.ListN.{length, take, drop, length-drop, take-append-drop}
use lib.Seq.{length-take-le, take_at}
use borrow.Author.Tests.{eqb-true}
use Rattle.defs.specs.Choice.{when}
use Rattle.defs.specs.Answer.{told, is_done, when_done, done}
use Rattle.defs.specs.Wrapping.{wadd}
use Rattle.defs.proofs.Basics.{both, true_or_false}
use Rattle.defs.proofs.ChoiceLaws.{when_true, when_false, when_holds}
use Rattle.defs.proofs.AnswerLaws.{is_done_lem, when_done_lem, when_not_done}
use Rattle.packet.specs.Uapi.{op_response, op_shutdown, op_rw, op_credit_request}
use Rattle.packet.specs.declared.hdr.VsockPacketHdr.{VsockPacketHdr}
use Rattle.txbuf.specs.Record.{Wide, used_of, held_from, held}
use Rattle.txbuf.specs.Push.{PushIn, PushLeft, push_answer, push_answer_of, push_done, push_of}
use Rattle.txbuf.specs.declared.record.TxBuf.{TxBuf}
use Rattle.txbuf.proofs.RecordLaws.{held_length}
use Rattle.txbuf.proofs.PushLaws.{push_is_done, push_appends}
use Rattle.txbuf.proofs.FlushLaws.{count_small, flush_takes_oldest, flush_wide}
use Rattle.csm.specs.State.{takes, is_local_init, both_off}
use Rattle.csm.specs.declared.row.Row.{Row}
use Rattle.csm.specs.Timer.{Timer}
use Rattle.csm.specs.declared.pending.PendingRxSet.{PendingRxSet}
use Rattle.csm.specs.declared.state.ConnState.{ConnState}
use Rattle.rules.specs.Record.{quiet, with_state, killed_of}
use Rattle.rules.specs.Receive.{spoken_of, received_of, RecvLeft, refusal_of, recv_done, recv_kept, recv_of}
use Rattle.rules.specs.Open.{ConnLeft}
use Rattle.rules.specs.Look.{look_answer, kill_of}
use Rattle.rules.specs.Send.{SendPlan, heard_of, moved_of, updated_of, on_response, on_shutdown, on_credit_request, on_data, rule_of, goes_of, plan_of, carried, SendIn, SendLeft, pkt_of, send_plan, send_answer, payload, send_kills, send_carried, send_done, send_kept, send_of, accepted}
use Rattle.rules.specs.Notify.{seen_of, settled_of, drained_of, NotifyIn, NotifyLeft, due, flush_in, flushed, notify_answer, notify_done, notify_kept, notify_of}
use Rattle.rules.specs.Moves.{Account, account, Numbers, send_taken, notify_taken, Moved}
use Rattle.rules.specs.Promises.{SendMoves, NotifyMoves, ReceiveKeeps, KillKeeps}
use Rattle.rules.specs.declared.record.VsockConnection.{VsockConnection}
use Rattle.rules.proofs.SendLaws.{Passed, passed, carries}

-- whichever way it goes, the same account
either : (b : Bool) (x y : VsockConnection) (v : Account) → account x ≡ v → account y ≡ v → account (when b x y) ≡ v
either b x y v e f = when_holds (λ (c : VsockConnection). account c ≡ v) b x y (λ t. e) (λ t. f)

abbrev counted_on : Account → TxBuf → ℕ → Account
counted_on a ring n = record { settings = a.settings; ring = ring; fwd_cnt = wadd a.fwd_cnt n }

state_account : (c : VsockConnection) (state : ConnState) (expiry : Timer) (p : PendingRxSet) → account (with_state c state expiry p) ≡ account c
unfolding account with_state
state_account c state expiry p = refl

kill_account : (c : VsockConnection) → account (killed_of c) ≡ account c
unfolding killed_of
kill_account c = state_account c _ _ _

update_account : (c : VsockConnection) → account (updated_of c) ≡ account c
unfolding updated_of
update_account c = state_account c _ _ _

move_account : (c : VsockConnection) (ring : TxBuf) (n : ℕ) → account (moved_of c ring n) ≡ counted_on (account c) ring n
unfolding account moved_of
move_account c ring n = refl

hear_account : (c : VsockConnection) (pkt : VsockPacketHdr) → account (heard_of c pkt) ≡ account c
unfolding account heard_of
hear_account c pkt = refl

response_account : (c : VsockConnection) → account (on_response c) ≡ account c
unfolding on_response
response_account c = either (is_local_init c.state) _ c _ (state_account c _ _ _) refl

shutdown_account : (c : VsockConnection) (empty : Bool) (flags clock : ℕ) → account (on_shutdown c empty flags clock) ≡ account c
unfolding on_shutdown
shutdown_account c empty flags clock = state_account c _ _ _

request_account : (c : VsockConnection) → account (on_credit_request c) ≡ account c
unfolding on_credit_request
request_account c = state_account c _ _ _

data_account : (c : VsockConnection) (p : SendPlan) (kills : Bool) (ring : TxBuf) → p.goes ≡ true → account (on_data c p kills ring) ≡ counted_on (account c) ring p.written
unfolding on_data
data_account c p kills ring g =
    ap account (when_true _ _ _ g)
    ∙ either kills _ _ _ (kill_account _ ∙ move_account c ring p.written) (update_account _ ∙ move_account c ring p.written)

-- a packet whose data goes counts it; any other leaves the account
pub rule_counts : (c : VsockConnection) (empty : Bool) (pkt : VsockPacketHdr) (p : SendPlan) (kills : Bool) (ring : TxBuf) (clock : ℕ) → p.goes ≡ true → eqb pkt.op op_rw ≡ true
    → account (rule_of (heard_of c pkt) empty pkt p kills ring clock) ≡ counted_on (account c) ring p.written
unfolding rule_of when heard_of
rule_counts c empty pkt p kills ring clock g o =
    let e : pkt.op ≡ op_rw = eqb-true _ _ o in
    rw e (data_account (heard_of c pkt) p kills ring g ∙ ap (λ (a : Account). counted_on a ring p.written) (hear_account c pkt))

pub rule_keeps : (c : VsockConnection) (empty : Bool) (pkt : VsockPacketHdr) (p : SendPlan) (kills : Bool) (ring : TxBuf) (clock : ℕ) → p.goes ≡ false
    → account (rule_of (heard_of c pkt) empty pkt p kills ring clock) ≡ account c
unfolding rule_of on_data
rule_keeps c empty pkt p kills ring clock g =
    let h = heard_of c pkt in
    either (eqb pkt.op op_response) _ _ _ (response_account h ∙ hear_account c pkt)
    (either (eqb pkt.op op_shutdown) _ _ _ (shutdown_account h empty pkt.flags clock ∙ hear_account c pkt)
    (either (eqb pkt.op op_rw) _ _ _ (ap account (when_false _ _ _ g) ∙ hear_account c pkt)
    (either (eqb pkt.op op_credit_request) _ _ _ (request_account h ∙ hear_account c pkt) (hear_account c pkt))))

see_account : (c : VsockConnection) (readable : Bool) → account (seen_of c readable) ≡ account c
unfolding seen_of
see_account c readable = state_account c _ _ _

settle_account : (c : VsockConnection) (empty : Bool) → account (settled_of c empty) ≡ account c
unfolding settled_of
settle_account c empty = either (both_off c.state && empty) _ _ _ (state_account c c.state c.expiry _) (update_account c)

pub drain_counts : (c : VsockConnection) (readable : Bool) (ring : TxBuf) (n : ℕ) (empty fails : Bool) → account (drained_of (seen_of c readable) ring n empty fails) ≡ counted_on (account c) ring n
unfolding drained_of
drain_counts c readable ring n empty fails =
    let m = move_account (seen_of c readable) ring n ∙ ap (λ (a : Account). counted_on a ring n) (see_account c readable) in
    either fails _ _ _ (kill_account _ ∙ m) (settle_account _ empty ∙ m)

received_account : (c : VsockConnection) (row : Row) (clock : ℕ) → account (received_of c row clock) ≡ account c
unfolding account received_of spoken_of
received_account c row clock = refl

-- ---- the bytes

-- where nothing was written or nothing was held, what is taken may stand on either side of what is held
swaps : (t h : List ℕ) → (t ≡ []) ⊎ (h ≡ []) → t ++ h ≡ h ++ t
swaps t h = ⊎_elim (λ (e : t ≡ []). rw e (sym (append-nil h))) (λ (e : h ≡ []). rw e (append-nil t))

nothing_held : (c : VsockConnection) (store : List ℕ) → quiet c.tx_buf ≡ true → held c.tx_buf store ≡ []
unfolding quiet held held_from
nothing_held c store q = ap (λ (n : ℕ). held_from store c.tx_buf.size c.tx_buf.tail n) (eqb-true (used_of c.tx_buf) 0 q)

unwritten : (goes q : Bool) (n : ℕ) → q ≡ false → when (goes && q) n 0 ≡ 0
unfolding when
unwritten true q n e = rw e
unwritten false q n e = refl

-- the one write is made where the ring is empty
none_or_empty : (i : SendIn) → (take (send_plan i).written (payload i) ≡ []) ⊎ (held i.conn.tx_buf i.store ≡ [])
unfolding plan_of
none_or_empty i =
    ⊎_elim
    (λ (q : quiet i.conn.tx_buf ≡ true). inr (nothing_held i.conn i.store q))
    (λ (q : quiet i.conn.tx_buf ≡ false). inl (ap (λ (n : ℕ). take n (payload i)) (unwritten (send_plan i).goes (quiet i.conn.tx_buf) _ q)))
    (true_or_false (quiet i.conn.tx_buf))

-- what the plan says where no data goes
no_data : (i : SendIn) → (send_plan i).goes ≡ false → ((send_plan i).len ≡ 0) × ((send_plan i).written ≡ 0)
unfolding plan_of when
no_data i g = rw g (refl, refl)

pub goes_is_rw : (i : SendIn) → (send_plan i).goes ≡ true → eqb (pkt_of i).op op_rw ≡ true
unfolding plan_of goes_of
goes_is_rw i g = (both (takes i.conn.state && i.present) (eqb (pkt_of i).op op_rw) g).1

goes_not : (goes kills : Bool) → goes ≡ false → goes && not kills ≡ false
goes_not goes kills g = rw g

goes_unless : (goes kills b : Bool) → goes ≡ true → kills ≡ b → goes && not kills ≡ not b
goes_unless goes kills b g k = rw (g, k)

-- data that goes: the account, the bytes held and the bytes taken
record Gone (i : SendIn) : Type 0 where
  ring : account (send_done i).conn ≡ counted_on (account i.conn) (send_carried i).ring (send_plan i).written
  bytes : take (send_plan i).written (payload i) ++ held (send_carried i).ring (send_carried i).store
      ≡ held i.conn.tx_buf i.store ++ when (send_kills i) (take (send_plan i).written (payload i)) (payload i)

gone : (i : SendIn) → Wide i.conn.tx_buf → Passed i → (send_plan i).goes ≡ true → Gone i
unfolding send_done carried push_done
gone i w s g = record {
  ring = rule_counts i.conn (quiet i.conn.tx_buf) (pkt_of i) (send_plan i) (send_kills i) (send_carried i).ring i.clock g (goes_is_rw i g);
  bytes =
      ⊎_elim
      (λ (k : send_kills i ≡ true).
      let n = goes_unless (send_plan i).goes (send_kills i) true g k in
      let c : send_carried i ≡ record { answer = told done; ring = i.conn.tx_buf; store = i.store } = when_false _ _ _ n in
      ap (λ (o : PushLeft). t ++ held o.ring o.store) c ∙ swaps t h (none_or_empty i) ∙ ap (λ (x : List ℕ). h ++ x) (sym (when_true _ _ _ k)))
      (λ (k : send_kills i ≡ false).
      let y = goes_unless (send_plan i).goes (send_kills i) false g k in
      let j : PushIn = record { ring = i.conn.tx_buf; store = i.store; src = drop (send_plan i).written (payload i) } in
      let d : push_answer_of j ≡ done = ap (push_answer i.conn.tx_buf (length i.store)) (length-drop (send_plan i).written (payload i)) ∙ (carries i s).pushes y in
      let c : send_carried i ≡ push_of j = when_true _ _ _ y ∙ sym (push_is_done j d) in
      let a : held (push_of j).ring (push_of j).store ≡ h ++ drop (send_plan i).written (payload i) = push_appends j (push_of j) w refl (ap (λ (o : PushLeft). o.answer) (push_is_done j d)) in
      ap (λ (o : PushLeft). t ++ held o.ring o.store) c
      ∙ ap (λ (x : List ℕ). t ++ x) a
      ∙ sym (append_assoc t h _)
      ∙ ap (λ (x : List ℕ). x ++ drop (send_plan i).written (payload i)) (swaps t h (none_or_empty i))
      ∙ append_assoc h t _
      ∙ ap (λ (x : List ℕ). h ++ x) (take-append-drop (send_plan i).written (payload i) ∙ sym (when_false _ _ _ k)))
      (true_or_false (send_kills i));
}
  where
    t : List ℕ
    t = take (send_plan i).written (payload i)

    h : List ℕ
    h = held i.conn.tx_buf i.store

wadd_none : (n : ℕ) → n < 2 ^ 32 → wadd n 0 ≡ n
wadd_none n l = omega arith

-- the numbers of a record whose account is known
numbers_of : (c : VsockConnection) (a : Account) → account c ≡ a → Wide a.ring → a.fwd_cnt < 2 ^ 32 → Numbers c
unfolding account
numbers_of c a e w l = record { ring = subst (λ (x : Account). Wide x.ring) (sym e) w; fwd_cnt = subst (λ (x : Account). x.fwd_cnt < 2 ^ 32) (sym e) l }

-- a call that leaves ring, count, settings and storage moves nothing
pub stays : (before after : VsockConnection) (store : List ℕ) → Numbers before → account after ≡ account before
    → Moved before after (held before.tx_buf store) (held after.tx_buf store) [] []
unfolding account
stays before after store n e = record {
  bytes = ap (λ (a : Account). held a.ring store) e ∙ sym (append-nil _);
  counted = ap (λ (a : Account). a.fwd_cnt) e ∙ sym (wadd_none _ n.fwd_cnt);
  settings = ap (λ (a : Account). a.settings) e;
  numbers = numbers_of after (account before) e n.ring n.fwd_cnt;
}

carried_wide : (keeps : Bool) (ring : TxBuf) (store rest : List ℕ) → Wide ring → Wide (carried keeps ring store rest).ring
unfolding carried push_done when
carried_wide true ring store rest w = record { head = mod-lt (ring.head + length rest) (omega arith); tail = w.tail }
carried_wide false ring store rest w = w

same : (b : Bool) (x y v : List ℕ) → x ≡ v → y ≡ v → when b x y ≡ v
unfolding when
same true x y v e f = e
same false x y v e f = f

abbrev SendMoved : SendIn → SendLeft → Type 0
SendMoved i left =
    Moved i.conn left.conn (held i.conn.tx_buf i.store) (held left.conn.tx_buf left.store) (take (send_taken i) left.out) (accepted i)

data_moves : (i : SendIn) → Numbers i.conn → send_answer i ≡ done → (send_plan i).goes ≡ true → SendMoved i (send_done i)
unfolding account send_taken accepted send_done
data_moves i n d g =
    let s = passed i d in
    let o = gone i n.ring s g in
    let l : length (payload i) ≡ (send_plan i).len = length-take-le _ i.buf s.part in
    let k = s.killable in
    let m : length (take (send_plan i).written (payload i)) ≡ (send_plan i).written = length-take-le _ (payload i) (omega arith) in
    let f : take (send_taken i) (send_done i).out ≡ take (send_plan i).written (payload i) =
    ap (λ (x : ℕ). take x (send_done i).out) (when_done_lem _ _ _ d) ∙ take_at _ (drop (send_plan i).written i.out) _ m in
    record {
      bytes =
          ap (λ (x : List ℕ). x ++ held (send_done i).conn.tx_buf (send_done i).store) f
          ∙ ap (λ (a : Account). take (send_plan i).written (payload i) ++ held a.ring (send_done i).store) o.ring
          ∙ o.bytes
          ∙ ap (λ (x : List ℕ). held i.conn.tx_buf i.store ++ x) (sym (when_done_lem _ _ _ d));
      counted = ap (λ (a : Account). a.fwd_cnt) o.ring ∙ ap (wadd i.conn.fwd_cnt) (sym (ap length f ∙ m));
      settings = ap (λ (a : Account). a.settings) o.ring;
      numbers = numbers_of (send_done i).conn _ o.ring (carried_wide _ _ _ _ n.ring) (mod-lt (i.conn.fwd_cnt + (send_plan i).written) (omega arith));
    }

no_data_moves : (i : SendIn) → Numbers i.conn → send_answer i ≡ done → (send_plan i).goes ≡ false → SendMoved i (send_done i)
unfolding send_taken accepted send_done carried
no_data_moves i n d g =
    let z = no_data i g in
    let p : payload i ≡ [] = ap (λ (x : ℕ). take x i.buf) z.0 in
    let t : take (send_plan i).written (payload i) ≡ [] = ap (λ (x : ℕ). take x (payload i)) z.1 in
    let a : accepted i ≡ [] = when_done_lem _ _ _ d ∙ same (send_kills i) _ _ _ t p in
    let f : take (send_taken i) (send_done i).out ≡ [] = ap (λ (x : ℕ). take x (send_done i).out) (when_done_lem _ _ _ d ∙ z.1) in
    let c : (send_carried i).store ≡ i.store = ap (λ (o : PushLeft). o.store) (when_false _ _ _ (goes_not (send_plan i).goes (send_kills i) g)) in
    let s = stays i.conn (send_done i).conn i.store n (rule_keeps i.conn (quiet i.conn.tx_buf) (pkt_of i) (send_plan i) (send_kills i) (send_carried i).ring i.clock g) in
    record {
      bytes =
          ap (λ (x : List ℕ). x ++ held (send_done i).conn.tx_buf (send_done i).store) f
          ∙ ap (held (send_done i).conn.tx_buf) c
          ∙ s.bytes
          ∙ ap (λ (x : List ℕ). held i.conn.tx_buf i.store ++ x) (sym a);
      counted = s.counted ∙ ap (λ (x : List ℕ). wadd i.conn.fwd_cnt (length x)) (sym f);
      settings = s.settings;
      numbers = s.numbers;
    }

kept_moves : (i : SendIn) → Numbers i.conn → is_done (send_answer i) ≡ false → SendMoved i (send_kept i)
unfolding send_taken accepted send_kept
kept_moves i n k =
    let a : accepted i ≡ [] = when_not_done _ _ _ k in
    let f : take (send_taken i) i.out ≡ [] = ap (λ (x : ℕ). take x i.out) (when_not_done _ _ _ k) in
    let s = stays i.conn i.conn i.store n refl in
    record {
      bytes =
          ap (λ (x : List ℕ). x ++ held i.conn.tx_buf i.store) f ∙ s.bytes ∙ ap (λ (x : List ℕ). held i.conn.tx_buf i.store ++ x) (sym a);
      counted = s.counted ∙ ap (λ (x : List ℕ). wadd i.conn.fwd_cnt (length x)) (sym f);
      settings = refl;
      numbers = n;
    }

send_of_moves : (i : SendIn) → Numbers i.conn → SendMoved i (send_of i)
unfolding send_of when_done
send_of_moves i n =
    when_holds (SendMoved i) (is_done (send_answer i)) (send_done i) (send_kept i)
    (λ t. let d = is_done_lem _ t in ⊎_elim (data_moves i n d) (no_data_moves i n d) (true_or_false (send_plan i).goes))
    (kept_moves i n)

pub send_moves : SendMoves
send_moves i left n says = subst (SendMoved i) (sym says) (send_of_moves i n)

-- ---- an event

abbrev NotifyMoved : NotifyIn → NotifyLeft → Type 0
NotifyMoved i left =
    Moved i.conn left.conn (held i.conn.tx_buf i.store) (held left.conn.tx_buf i.store) (take (notify_taken i) left.out) []

flush_moves : (i : NotifyIn) → Numbers i.conn → notify_answer i ≡ done → due i ≡ true → NotifyMoved i (notify_done i)
unfolding account notify_taken notify_done
flush_moves i n d u =
    let h : List ℕ = held i.conn.tx_buf i.store in
    let o = flush_takes_oldest (flush_in i) (flushed i) n.ring refl in
    let l : length h ≡ used_of i.conn.tx_buf = held_length i.conn.tx_buf i.store in
    let k : (flushed i).count ≤ used_of i.conn.tx_buf = count_small (flush_in i) (flushed i) refl in
    let m : length (take (flushed i).count h) ≡ (flushed i).count = length-take-le _ h (omega arith) in
    let c : account (notify_done i).conn ≡ counted_on (account i.conn) (flushed i).ring (flushed i).count =
    ap account (when_true _ _ _ u) ∙ drain_counts i.conn i.readable (flushed i).ring (flushed i).count _ _ in
    let t : notify_taken i ≡ (flushed i).count = when_done_lem _ _ _ d ∙ when_true _ _ _ u in
    let f : take (notify_taken i) (notify_done i).out ≡ take (flushed i).count h =
    ap (λ (x : ℕ). take x (notify_done i).out) t
    ∙ ap (take (flushed i).count) (when_true _ _ _ u ∙ o.front)
    ∙ take_at _ (drop (flushed i).count i.out) _ m in
    record {
      bytes =
          ap (λ (x : List ℕ). x ++ held (notify_done i).conn.tx_buf i.store) f
          ∙ ap (λ (a : Account). take (flushed i).count h ++ held a.ring i.store) c
          ∙ o.rest
          ∙ sym (append-nil h);
      counted = ap (λ (a : Account). a.fwd_cnt) c ∙ ap (wadd i.conn.fwd_cnt) (sym (ap length f ∙ m));
      settings = ap (λ (a : Account). a.settings) c;
      numbers = numbers_of (notify_done i).conn _ c (flush_wide (flush_in i) (flushed i) n.ring refl) (mod-lt (i.conn.fwd_cnt + (flushed i).count) (omega arith));
    }

-- nothing was taken
none_taken : (i : NotifyIn) (left : NotifyLeft) → Numbers i.conn → notify_taken i ≡ 0 → account left.conn ≡ account i.conn → NotifyMoved i left
none_taken i left n t e =
    let f : take (notify_taken i) left.out ≡ [] = ap (λ (x : ℕ). take x left.out) t in
    let s = stays i.conn left.conn i.store n e in
    record {
      bytes = ap (λ (x : List ℕ). x ++ held left.conn.tx_buf i.store) f ∙ s.bytes;
      counted = s.counted ∙ ap (λ (x : List ℕ). wadd i.conn.fwd_cnt (length x)) (sym f);
      settings = s.settings;
      numbers = s.numbers;
    }

seen_moves : (i : NotifyIn) → Numbers i.conn → notify_answer i ≡ done → due i ≡ false → NotifyMoved i (notify_done i)
unfolding notify_taken notify_done
seen_moves i n d u =
    none_taken i (notify_done i) n (when_done_lem _ _ _ d ∙ when_false _ _ _ u) (ap account (when_false _ _ _ u) ∙ see_account i.conn i.readable)

refused_moves : (i : NotifyIn) → Numbers i.conn → is_done (notify_answer i) ≡ false → NotifyMoved i (notify_kept i)
unfolding notify_taken notify_kept
refused_moves i n k = none_taken i (notify_kept i) n (when_not_done _ _ _ k) refl

notify_of_moves : (i : NotifyIn) → Numbers i.conn → NotifyMoved i (notify_of i)
unfolding notify_of when_done
notify_of_moves i n =
    when_holds (NotifyMoved i) (is_done (notify_answer i)) (notify_done i) (notify_kept i)
    (λ t. let d = is_done_lem _ t in ⊎_elim (flush_moves i n d) (seen_moves i n d) (true_or_false (due i)))
    (refused_moves i n)

pub notify_moves : NotifyMoves
notify_moves i left n says = subst (NotifyMoved i) (sym says) (notify_of_moves i n)

-- ---- the calls that leave the account

pub receive_keeps : ReceiveKeeps
unfolding recv_of recv_done recv_kept
receive_keeps i left says =
    ap (λ (o : RecvLeft). account o.conn) says
    ∙ ⊎_elim
    (λ (t : is_done (refusal_of i) ≡ true). ap (λ (o : RecvLeft). account o.conn) (when_done_lem (refusal_of i) (recv_done i) (recv_kept i) (is_done_lem _ t)) ∙ received_account i.conn _ i.clock)
    (λ (t : is_done (refusal_of i) ≡ false). ap (λ (o : RecvLeft). account o.conn) (when_not_done (refusal_of i) (recv_done i) (recv_kept i) t))
    (true_or_false (is_done (refusal_of i)))

pub kill_keeps : KillKeeps
unfolding kill_of when_done
kill_keeps c left says =
    ap (λ (o : ConnLeft). account o.conn) says ∙ either (is_done (look_answer c)) (killed_of c) c _ (kill_account c) refl
