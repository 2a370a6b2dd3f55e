-- What a packet and an event leave, whole: the promises of specs/Leaves. Assumes nothing.
use Prim.Native.Nat.{ℕ, zero, suc, ◌+◌, ◌-◌, ◌%◌, ◌<◌, ◌≤◌}
use mathlib.Core.Path.{◌≡◌, refl, sym, ap, subst, ◌∙◌}
use mathlib.Core.Logic.{⊎_elim}
use mathlib.Core.Bool.{Bool, true, false, not, ◌&&◌, ◌||◌}
use mathlib.Core.List.{List, ◌++◌}
use native.Mathlib.Omega.{arith}
use native.Mathlib.Nat.{div-one, mod-lt}
use lib.Dec.{ltb, eqb}
use lib.ListN.{length, take, drop, length-drop}
use lib.Seq.{length-take-le}
use borrow.Author.Tests.{ltb-false, eqb-true, ne_eqb, not-true, not-false}
use Rattle.std.specs.Prelude.{None, Some}
use Rattle.defs.specs.Answer.{Told, told, is_done, when_done, Answer, done}
use Rattle.defs.specs.Promises.{row_at, FirstInTurn, Refuses}
use Rattle.defs.specs.Ladder.{door_of, late_of, lowest_of}
use Rattle.defs.specs.Stream.{counted, failed, stops, stopped_by}
use Rattle.defs.specs.declared.stream.StreamAnswer.{StreamAnswer}
use Rattle.defs.specs.declared.stream.StreamAnswer.TheVariants.{Count, WouldBlock, Failed}
use Rattle.defs.specs.Choice.{when}
use Rattle.defs.specs.Credit.{peer_needs_credit_update}
use Rattle.defs.specs.Wrapping.{wadd, wsub}
use Rattle.defs.proofs.Basics.{never, both, neither, true_or_false, and_false, or_true, or_false}
use Rattle.defs.proofs.AnswerLaws.{done_is_done, number_zero, is_done_lem, when_done_lem, when_not_done, when_done_holds, left_done, left_where}
use Rattle.defs.proofs.LadderLaws.{lowest_passed, record_passed}
use Rattle.defs.proofs.ChoiceLaws.{when_true, when_false, when_holds}
use Rattle.packet.specs.Header.{decoded}
use Rattle.packet.specs.Uapi.{op_response, op_shutdown, op_rw, op_credit_request}
use Rattle.packet.specs.declared.hdr.VsockPacketHdr.{VsockPacketHdr}
use Rattle.txbuf.specs.Record.{used_of, sound_of, held}
use Rattle.txbuf.specs.Push.{runs, written, PushLeft, push_done}
use Rattle.txbuf.specs.Flush.{FlushLeft, flush_answer, flush_done, flush_kept, flush_of}
use Rattle.txbuf.specs.Means.{first_length, second_length, uses_first, uses_second, counted_now}
use Rattle.txbuf.specs.Answers.{flush_rows}
use Rattle.txbuf.proofs.RingLaws.{two_runs}
use Rattle.txbuf.proofs.AnswerLaws.{count_is, flush_answers}
use Rattle.txbuf.proofs.RecordLaws.{sound_says}
use Rattle.txbuf.proofs.FlushLaws.{count_small}
use Rattle.txbuf.proofs.Promises.{flush_takes_oldest}
use Rattle.txbuf.specs.declared.record.TxBuf.{TxBuf}
use Rattle.csm.specs.State.{is_local_init, recv_off, send_off, shut_by, both_off, asks}
use Rattle.csm.specs.Pending.{marked}
use Rattle.csm.specs.declared.pending.PendingRxSet.{PendingRxSet}
use Rattle.csm.specs.Timer.{is_set, Timer}
use Rattle.csm.specs.Means.{takes_data, shut_both, answers_request}
use Rattle.csm.proofs.Promises.{every_state_means}
use Rattle.csm.specs.declared.state.ConnState.{ConnState}
use Rattle.csm.specs.declared.state.ConnState.TheVariants.{LocalInit, PeerInit, Established, LocalClosed, PeerClosed, Killed}
use Rattle.rules.specs.Notify.{NotifyIn, NotifyLeft, seen_of, settled_of, drained_of, absorbed, due, flush_in, flushed, notify_door, notify_answer, notify_done, notify_kept, notify_of}
use Rattle.rules.specs.Record.{peer_of, sent_of, regrouped, quiet, with_state, killed_of}
use Rattle.rules.specs.Open.{Opening, ConnLeft, fresh_of, allocated, zero_conn, open_answer, peer_init_of, local_init_of}
use Rattle.rules.specs.Raw.{RawLeft, raw_door, raw_answer, raw_done, raw_kept, raw_of}
use Rattle.rules.specs.Look.{look_answer, kill_of}
use Rattle.rules.specs.Send.{SendPlan, heard_of, moved_of, updated_of, on_response, on_shutdown, on_credit_request, on_data, rule_of, plan_of, SendIn, SendLeft, send_plan, send_answer, send_kills, send_carried, send_done, send_kept, send_of, carried}
use Rattle.rules.specs.Moves.{Numbers}
use Rattle.rules.specs.Outcomes.{meets_data, writes_now, taken_now, kills_now, falls_short, Dead}
use Rattle.rules.specs.Common.{KillsAlike, TimersArm, LastToldMoves}
use Rattle.rules.specs.Leaves.{pushed_on, taken_off, shuts_receive, shuts_send, closed_by, closed_now, confirmed, data_kills, data_stays, unless_killed, state_now, cleared, lingers_now, unless_running, timer_now, flushes_now, flush_fails, flush_ends, SendLeaves, NotifyLeaves, EveryNotifyLeaves, Opened, OpeningMeans, AllZero, RefusedIsZero, EveryRawLeaves, EverySendLeaves}
use Rattle.rules.specs.declared.record.VsockConnection.{VsockConnection}
use Rattle.rules.proofs.RecordLaws.{sound_over_ring}
use Rattle.rules.proofs.AnswerLaws.{notify_told}
use Rattle.rules.proofs.SendLaws.{passed}
use Rattle.rules.proofs.CallLaws.{some, field_kept, every_turn_leaves, send_number, done_left, goes, plan_len, plan_written, kills_now_lem, stays_out, rule_data, killed_dead, every_kill_kills}

-- ---- tables

confirmed_is : (s : ConnState) → confirmed s ≡ when (is_local_init s) Established s
unfolding when
confirmed_is LocalInit = refl
confirmed_is PeerInit = refl
confirmed_is Established = refl
confirmed_is LocalClosed = refl
confirmed_is (PeerClosed a b) = refl
confirmed_is Killed = refl

cleared_is : (s : ConnState) (t : Timer) → cleared s t ≡ when (is_local_init s) None t
unfolding when
cleared_is LocalInit t = refl
cleared_is PeerInit t = refl
cleared_is Established t = refl
cleared_is LocalClosed t = refl
cleared_is (PeerClosed a b) t = refl
cleared_is Killed t = refl

closed_is : (s : ConnState) (r f : Bool) → closed_by s r f ≡ shut_by s r f
closed_is LocalInit r f = refl
closed_is PeerInit r f = refl
closed_is Established r f = refl
closed_is LocalClosed r f = refl
closed_is (PeerClosed a b) r f = refl
closed_is Killed r f = refl

-- a timer that runs stays, by a test of it or case by case
arms_is : (x y : Bool) (t : Timer) (time : ℕ) → x ≡ y → when (x && not (is_set t)) (Some time) t ≡ when y (unless_running t time) t
unfolding when
arms_is true y None time e = rw (← e)
arms_is true y (Some running) time e = rw (← e)
arms_is false y t time e = rw (← e)

first_part : (a b c d u : Bool) → a ≡ true → c ≡ false → b ≡ u → u ≡ (a && b) || (c && d)
first_part a b c d u p q r = rw (p, q, r) (sym (or_false u))

-- ---- the rule that an op selects

module _ (c : VsockConnection) (empty : Bool) (pkt : VsockPacketHdr) (p : SendPlan) (kills : Bool) (ring : TxBuf) (clock : ℕ) where
  rule_response : pkt.op ≡ op_response → rule_of c empty pkt p kills ring clock ≡ on_response c
  unfolding rule_of when
  rule_response e = rw e

  rule_shutdown : pkt.op ≡ op_shutdown → rule_of c empty pkt p kills ring clock ≡ on_shutdown c empty pkt.flags clock
  unfolding rule_of when
  rule_shutdown e = rw e

  rule_request : pkt.op ≡ op_credit_request → rule_of c empty pkt p kills ring clock ≡ on_credit_request c
  unfolding rule_of when
  rule_request e = rw e

  rule_unmet : pkt.op ≡ op_rw → p.goes ≡ false → rule_of c empty pkt p kills ring clock ≡ c
  unfolding rule_of on_data when
  rule_unmet e g = rw (e, g)

  rule_kills : pkt.op ≡ op_rw → p.goes ≡ true → kills ≡ true → rule_of c empty pkt p kills ring clock ≡ killed_of (moved_of c ring p.written)
  unfolding rule_of on_data when
  rule_kills e g k = rw (e, g, k)

  rule_other : eqb pkt.op op_response ≡ false → eqb pkt.op op_shutdown ≡ false → eqb pkt.op op_rw ≡ false → eqb pkt.op op_credit_request ≡ false
      → rule_of c empty pkt p kills ring clock ≡ c
  unfolding rule_of when
  rule_other a b d e = rw (a, b, d, e)

-- ---- a packet

-- the indications by what may be set besides, or, where the call kills, by the reset alone
abbrev indicated : Bool → PendingRxSet → Bool → Bool → Bool → PendingRxSet
indicated dies p rst rw update = record {
  request = unless_killed dies p.request;
  response = unless_killed dies p.response;
  rst = p.rst || rst;
  rw = unless_killed dies (p.rw || rw);
  credit_update = unless_killed dies (p.credit_update || update);
}

-- by the kill itself, or by what is said of it
kills_as : {a b : Bool} → a ≡ b → (x : Bool) → unless_killed a x ≡ unless_killed b x
kills_as e x = ap (λ (c : Bool). unless_killed c x) e

-- the record after a packet by what it may move
abbrev shaped : SendIn → ConnState → Timer → Bool → Bool → Bool → TxBuf → ℕ → VsockConnection
shaped i s t dies rst update ring n =
    regrouped i.conn (record { alloc = (decoded i.hdr).buf_alloc; fwd = (decoded i.hdr).fwd_cnt }) (record { ring = ring; count = n })
    (sent_of i.conn) (record { state = s; expiry = t; pending = indicated dies i.conn.pending_rx rst false update })

record Shape (i : SendIn) (d : VsockConnection) : Type 0 where
  s : ConnState
  t : Timer
  dies : Bool
  rst : Bool
  update : Bool
  ring : TxBuf
  n : ℕ
  is : d ≡ shaped i s t dies rst update ring n
  state_is : s ≡ state_now i
  timer_is : t ≡ timer_now i
  dies_is : dies ≡ data_kills i
  rst_is : rst ≡ data_kills i || (eqb (decoded i.hdr).op op_shutdown && (shut_both (closed_now i) && eqb (used_of i.conn.tx_buf) 0))
  update_is : update ≡ (data_stays i && falls_short d) || (eqb (decoded i.hdr).op op_credit_request && answers_request i.conn.state)
  ring_is : ring ≡ when (data_stays i) (pushed_on i.conn.tx_buf ((decoded i.hdr).len - taken_now i)) i.conn.tx_buf
  count_is : n ≡ when (meets_data i) (wadd i.conn.fwd_cnt (taken_now i)) i.conn.fwd_cnt

module _ (i : SendIn) where
  abbrev by : VsockConnection
  by = (send_done i).conn

  abbrev heard : VsockConnection
  heard = heard_of i.conn (decoded i.hdr)

  pub not_met : eqb (decoded i.hdr).op op_rw ≡ false → meets_data i ≡ false
  not_met e = ap (λ (b : Bool). takes_data i.conn.state && i.present && b) e ∙ and_false (takes_data i.conn.state && i.present)

  -- where nothing is marked
  unmarked : (s : ConnState) (t : Timer) → with_state heard s t i.conn.pending_rx ≡ shaped i s t false false false i.conn.tx_buf i.conn.fwd_cnt
  unfolding heard_of with_state
  unmarked s t = let p = i.conn.pending_rx in rw (or_false p.rst, or_false p.rw, or_false p.credit_update)

  response_is : (b : Bool)
      → when b (with_state heard Established None i.conn.pending_rx) heard
      ≡ shaped i (when b Established i.conn.state) (when b None i.conn.expiry) false false false i.conn.tx_buf i.conn.fwd_cnt
  unfolding heard_of with_state when
  response_is true = unmarked Established None
  response_is false = unmarked i.conn.state i.conn.expiry

  response_now : on_response heard
      ≡ shaped i (when (is_local_init i.conn.state) Established i.conn.state) (when (is_local_init i.conn.state) None i.conn.expiry) false false false i.conn.tx_buf i.conn.fwd_cnt
  unfolding on_response heard_of
  response_now = response_is (is_local_init i.conn.state)

  -- the flags of a SHUTDOWN, read as the code does
  abbrev shut : ConnState
  shut = shut_by i.conn.state (recv_off (decoded i.hdr).flags) (send_off (decoded i.hdr).flags)

  shut_now : shut ≡ closed_now i
  shut_now = rw (div-one (decoded i.hdr).flags) (sym (closed_is i.conn.state (shuts_receive i) (shuts_send i)))

  lingers_now_lem : both_off shut && not (both_off i.conn.state) && not (eqb (used_of i.conn.tx_buf) 0) ≡ lingers_now i
  lingers_now_lem = rw (shut_now, (every_state_means (closed_now i)).both, (every_state_means i.conn.state).both, some (used_of i.conn.tx_buf))

  -- the timer by the rule
  abbrev lingering : Timer
  lingering = (on_shutdown heard (quiet i.conn.tx_buf) (decoded i.hdr).flags i.clock).expiry

  lingering_now : lingering ≡ when (lingers_now i) (unless_running i.conn.expiry (i.clock + i.conn.settings.shutdown_timeout)) i.conn.expiry
  unfolding on_shutdown heard_of with_state quiet
  lingering_now = arms_is _ _ i.conn.expiry (i.clock + i.conn.settings.shutdown_timeout) lingers_now_lem

  shutdown_now : on_shutdown heard (quiet i.conn.tx_buf) (decoded i.hdr).flags i.clock
      ≡ shaped i shut lingering false (both_off shut && eqb (used_of i.conn.tx_buf) 0) false i.conn.tx_buf i.conn.fwd_cnt
  unfolding on_shutdown heard_of with_state quiet
  shutdown_now = refl

  request_now : on_credit_request heard ≡ shaped i i.conn.state i.conn.expiry false false (asks i.conn.state) i.conn.tx_buf i.conn.fwd_cnt
  unfolding on_credit_request heard_of with_state
  request_now = refl

  still : heard ≡ shaped i i.conn.state i.conn.expiry false false false i.conn.tx_buf i.conn.fwd_cnt
  unfolding heard_of with_state
  still = unmarked i.conn.state i.conn.expiry

  -- a packet that brings no data
  module _ (m : meets_data i ≡ false) where
    by_response : (decoded i.hdr).op ≡ op_response → Shape i by
    unfolding send_done when
    by_response e = record {
      s = when (is_local_init i.conn.state) Established i.conn.state;
      t = when (is_local_init i.conn.state) None i.conn.expiry;
      dies = false;
      rst = false;
      update = false;
      ring = i.conn.tx_buf;
      n = i.conn.fwd_cnt;
      is = rule_response heard _ (decoded i.hdr) _ _ _ _ e ∙ response_now;
      state_is = rw (m, e) (sym (confirmed_is i.conn.state));
      timer_is = rw e (sym (cleared_is i.conn.state i.conn.expiry));
      dies_is = rw m;
      rst_is = rw (m, e);
      update_is = rw (m, e);
      ring_is = rw m;
      count_is = rw m;
    }

    by_shutdown : (decoded i.hdr).op ≡ op_shutdown → Shape i by
    unfolding send_done when
    by_shutdown e = record {
      s = shut;
      t = lingering;
      dies = false;
      rst = both_off shut && eqb (used_of i.conn.tx_buf) 0;
      update = false;
      ring = i.conn.tx_buf;
      n = i.conn.fwd_cnt;
      is = rule_shutdown heard _ (decoded i.hdr) _ _ _ _ e ∙ shutdown_now;
      state_is = rw (m, e) shut_now;
      timer_is = rw e lingering_now;
      dies_is = rw m;
      rst_is = rw (m, e) (rw shut_now (ap (λ (b : Bool). b && eqb (used_of i.conn.tx_buf) 0) (every_state_means (closed_now i)).both));
      update_is = rw (m, e);
      ring_is = rw m;
      count_is = rw m;
    }

    by_request : (decoded i.hdr).op ≡ op_credit_request → Shape i by
    unfolding send_done when
    by_request e = record {
      s = i.conn.state;
      t = i.conn.expiry;
      dies = false;
      rst = false;
      update = asks i.conn.state;
      ring = i.conn.tx_buf;
      n = i.conn.fwd_cnt;
      is = rule_request heard _ (decoded i.hdr) _ _ _ _ e ∙ request_now;
      state_is = rw (m, e);
      timer_is = rw e;
      dies_is = rw m;
      rst_is = rw (m, e);
      update_is = rw (m, e) (every_state_means i.conn.state).asks;
      ring_is = rw m;
      count_is = rw m;
    }

    -- any other op, or data that is not taken
    by_other : eqb (decoded i.hdr).op op_response ≡ false → eqb (decoded i.hdr).op op_shutdown ≡ false → eqb (decoded i.hdr).op op_credit_request ≡ false → by ≡ heard → Shape i by
    unfolding when
    by_other a b c e = record {
      s = i.conn.state;
      t = i.conn.expiry;
      dies = false;
      rst = false;
      update = false;
      ring = i.conn.tx_buf;
      n = i.conn.fwd_cnt;
      is = e ∙ still;
      state_is = rw (m, a, b);
      timer_is = rw (a, b);
      dies_is = rw m;
      rst_is = rw (m, b);
      update_is = rw (m, c);
      ring_is = rw m;
      count_is = rw m;
    }

  -- a packet whose data is taken
  module _ (m : meets_data i ≡ true) where
    data_op : (decoded i.hdr).op ≡ op_rw
    data_op = eqb-true _ _ (both (takes_data i.conn.state && i.present) _ m).1

    killed_form : (ring : TxBuf) (n : ℕ) → killed_of (moved_of heard ring n) ≡ shaped i Killed i.conn.expiry true true false ring (wadd i.conn.fwd_cnt n)
    unfolding killed_of moved_of heard_of with_state
    killed_form ring n = rw (or_true i.conn.pending_rx.rst)

    updated_form : (ring : TxBuf) (n : ℕ)
        → updated_of (moved_of heard ring n)
        ≡ shaped i i.conn.state i.conn.expiry false false
        (ltb (wsub ring.size (wsub (wadd i.conn.fwd_cnt n) i.conn.last_fwd_cnt_to_peer)) i.conn.settings.threshold) ring (wadd i.conn.fwd_cnt n)
    unfolding updated_of moved_of heard_of with_state peer_needs_credit_update
    updated_form ring n = refl

    by_kill : kills_now i ≡ true → Shape i by
    unfolding send_done plan_of carried when
    by_kill k =
        let g = goes i m in
        let x : send_kills i ≡ true = kills_now_lem i m ∙ k in
        let w : (send_plan i).written ≡ taken_now i = plan_written i m in
        record {
          s = Killed;
          t = i.conn.expiry;
          dies = true;
          rst = true;
          update = false;
          ring = (send_carried i).ring;
          n = wadd i.conn.fwd_cnt (taken_now i);
          is = rule_kills heard _ (decoded i.hdr) (send_plan i) _ (send_carried i).ring _ data_op g x ∙ ap (λ (n : ℕ). killed_of (moved_of heard (send_carried i).ring n)) w ∙ killed_form (send_carried i).ring (taken_now i);
          state_is = rw (m, k);
          timer_is = rw data_op;
          dies_is = rw (m, k);
          rst_is = rw (m, k);
          update_is = rw (m, k, data_op);
          ring_is = rw (m, k, x, g);
          count_is = rw m;
        }

    -- what the stream did not take is pushed
    abbrev rest : List ℕ
    rest = drop (taken_now i) (take (decoded i.hdr).len i.buf)

    pushes : kills_now i ≡ false → send_carried i ≡ push_done (record { ring = i.conn.tx_buf; store = i.store; src = rest })
    unfolding carried plan_of
    pushes k =
        let g = goes i m in
        let x : send_kills i ≡ false = kills_now_lem i m ∙ k in
        let l : (send_plan i).len ≡ (decoded i.hdr).len = plan_len i m in
        let w : (send_plan i).written ≡ taken_now i = plan_written i m in
        let keeps : (send_plan i).goes && not (send_kills i) ≡ true = ap (λ (b : Bool). b && not (send_kills i)) g ∙ ap not x in
        when_true _ _ _ keeps
        ∙ ap (λ (r : List ℕ). push_done (record { ring = i.conn.tx_buf; store = i.store; src = r }))
        (ap (λ (n : ℕ). drop (send_plan i).written (take n i.buf)) l ∙ ap (λ (n : ℕ). drop n (take (decoded i.hdr).len i.buf)) w)

    rest_length : send_answer i ≡ done → length rest ≡ (decoded i.hdr).len - taken_now i
    rest_length d =
        let l : (send_plan i).len ≡ (decoded i.hdr).len = plan_len i m in
        let p = (passed i d).part in
        length-drop (taken_now i) _ ∙ ap (λ (n : ℕ). n - taken_now i) (length-take-le (decoded i.hdr).len i.buf (omega arith))

    pushed_ring : send_answer i ≡ done → kills_now i ≡ false → (send_carried i).ring ≡ pushed_on i.conn.tx_buf ((decoded i.hdr).len - taken_now i)
    unfolding push_done
    pushed_ring d k = ap (λ (o : PushLeft). o.ring) (pushes k) ∙ ap (pushed_on i.conn.tx_buf) (rest_length d)

    by_data : send_answer i ≡ done → kills_now i ≡ false → Shape i by
    unfolding send_done plan_of when
    by_data d k =
        let g = goes i m in
        let x : send_kills i ≡ false = kills_now_lem i m ∙ k in
        let w : (send_plan i).written ≡ taken_now i = plan_written i m in
        let ring : TxBuf = (send_carried i).ring in
        let short = ltb (wsub ring.size (wsub (wadd i.conn.fwd_cnt (taken_now i)) i.conn.last_fwd_cnt_to_peer)) i.conn.settings.threshold in
        let z : by ≡ shaped i i.conn.state i.conn.expiry false false short ring (wadd i.conn.fwd_cnt (taken_now i)) =
        ap (λ (b : Bool). rule_of heard (quiet i.conn.tx_buf) (decoded i.hdr) (send_plan i) b ring i.clock) x
        ∙ rule_data heard _ (decoded i.hdr) (send_plan i) ring _ data_op g
        ∙ ap (λ (n : ℕ). updated_of (moved_of heard ring n)) w ∙ updated_form ring (taken_now i) in
        record {
          s = i.conn.state;
          t = i.conn.expiry;
          dies = false;
          rst = false;
          update = short;
          ring = ring;
          n = wadd i.conn.fwd_cnt (taken_now i);
          is = z;
          state_is = rw (m, k, data_op);
          timer_is = rw data_op;
          dies_is = rw (m, k);
          rst_is = rw (m, k, data_op);
          update_is = first_part (data_stays i) _ _ _ short (rw (m, k)) (ap (λ (o : ℕ). eqb o op_credit_request) data_op) (ap falls_short z);
          ring_is = rw (m, k) (pushed_ring d k);
          count_is = rw m;
        }

    -- what is pushed is written byte by byte
    pushed_store : send_answer i ≡ done → kills_now i ≡ false → (send_carried i).store ≡ written i.store i.conn.tx_buf.size i.conn.tx_buf.head rest
    unfolding push_done
    pushed_store d k =
        let b : TxBuf = i.conn.tx_buf in
        let s = (passed i d).sound in
        let w : length i.store ≡ b.size = s.whole in
        let l : length rest ≡ (decoded i.hdr).len - taken_now i = rest_length d in
        let f : used_of b + ((decoded i.hdr).len - taken_now i) ≤ b.size = ltb-false b.size _ (neither (writes_now i && failed i.answers.first) _ k).1 in
        ap (λ (o : PushLeft). o.store) (pushes k)
        ∙ ap (λ (n : ℕ). runs i.store (b.head % n) rest) (sym w)
        ∙ two_runs i.store rest b.head (omega (arith, s.least)) (omega arith)
        ∙ ap (λ (n : ℕ). written i.store n b.head rest) w

  -- where nothing is pushed
  kept_store : data_stays i ≡ false → (send_carried i).store ≡ i.store
  unfolding carried plan_of
  kept_store n = ap (λ (o : PushLeft). o.store) (when_false _ _ ((send_plan i).goes && not (send_kills i)) keeps)
    where
      keeps : (send_plan i).goes && not (send_kills i) ≡ false
      keeps =
          ⊎_elim
          (λ (m : meets_data i ≡ true).
          let k : kills_now i ≡ true = not-false _ (ap (λ (b : Bool). b && not (kills_now i)) (sym m) ∙ n) in
          ap (λ (b : Bool). (send_plan i).goes && not b) (kills_now_lem i m ∙ k) ∙ and_false (send_plan i).goes)
          (λ (m : meets_data i ≡ false). ap (λ (b : Bool). b && not (send_kills i)) (stays_out i m))
          (true_or_false (meets_data i))

  shape : send_answer i ≡ done → Shape i by
  unfolding send_done plan_of
  shape d =
      ⊎_elim
      (λ (m : meets_data i ≡ true).
      ⊎_elim (λ (k : kills_now i ≡ true). by_kill m k) (λ (k : kills_now i ≡ false). by_data m d k) (true_or_false (kills_now i)))
      (λ (m : meets_data i ≡ false). plain m)
      (true_or_false (meets_data i))
    where
      other : (m : meets_data i ≡ false) → eqb (decoded i.hdr).op op_response ≡ false → eqb (decoded i.hdr).op op_shutdown ≡ false → eqb (decoded i.hdr).op op_credit_request ≡ false → by ≡ heard
      other m a b c =
          ⊎_elim
          (λ (e : eqb (decoded i.hdr).op op_rw ≡ true). rule_unmet heard _ (decoded i.hdr) (send_plan i) _ _ _ (eqb-true _ _ e) (stays_out i m))
          (λ (e : eqb (decoded i.hdr).op op_rw ≡ false). rule_other heard _ (decoded i.hdr) (send_plan i) _ _ _ a b e c)
          (true_or_false (eqb (decoded i.hdr).op op_rw))

      plain : (m : meets_data i ≡ false) → Shape i by
      plain m =
          ⊎_elim (λ (a : eqb (decoded i.hdr).op op_response ≡ true). by_response m (eqb-true _ _ a))
          (λ (a : eqb (decoded i.hdr).op op_response ≡ false).
          ⊎_elim (λ (b : eqb (decoded i.hdr).op op_shutdown ≡ true). by_shutdown m (eqb-true _ _ b))
          (λ (b : eqb (decoded i.hdr).op op_shutdown ≡ false).
          ⊎_elim (λ (c : eqb (decoded i.hdr).op op_credit_request ≡ true). by_request m (eqb-true _ _ c))
          (λ (c : eqb (decoded i.hdr).op op_credit_request ≡ false). by_other m a b c (other m a b c))
          (true_or_false (eqb (decoded i.hdr).op op_credit_request)))
          (true_or_false (eqb (decoded i.hdr).op op_shutdown)))
          (true_or_false (eqb (decoded i.hdr).op op_response))

  out_now : (send_done i).out ≡ when (meets_data i) (take (taken_now i) (take (decoded i.hdr).len i.buf) ++ drop (taken_now i) i.out) i.out
  unfolding send_done plan_of when
  out_now =
      ⊎_elim
      (λ (m : meets_data i ≡ true). rw (m, plan_written i m, plan_len i m))
      (λ (m : meets_data i ≡ false). rw (m, stays_out i m))
      (true_or_false (meets_data i))

  store_now : send_answer i ≡ done
      → (send_done i).store
      ≡ when (data_stays i) (written i.store i.conn.tx_buf.size i.conn.tx_buf.head (drop (taken_now i) (take (decoded i.hdr).len i.buf))) i.store
  unfolding send_done
  store_now d =
      ⊎_elim
      (λ (t : data_stays i ≡ true). let s = both _ _ t in pushed_store s.0 d (not-true _ s.1) ∙ sym (when_true _ _ _ t))
      (λ (t : data_stays i ≡ false). kept_store t ∙ sym (when_false _ _ _ t))
      (true_or_false (data_stays i))

-- a packet that is done
pub sent_done : (i : SendIn) (o : SendLeft) → o ≡ send_of i → o.answer.number ≡ 0 → send_answer i ≡ done
sent_done i o says n = number_zero (send_answer i) (ap (λ (t : Told). t.number) (sym (send_number i o says)) ∙ n)

leaves : (i : SendIn) (d : VsockConnection) (o : SendLeft) → Shape i d → o.conn ≡ d
    → o.store ≡ when (data_stays i) (written i.store i.conn.tx_buf.size i.conn.tx_buf.head (drop (taken_now i) (take (decoded i.hdr).len i.buf))) i.store
    → o.out ≡ when (meets_data i) (take (taken_now i) (take (decoded i.hdr).len i.buf) ++ drop (taken_now i) i.out) i.out → SendLeaves i o
leaves i d o h e s x =
    let z = e ∙ h.is in
    let p : PendingRxSet = i.conn.pending_rx in
    let kept = kills_as h.dies_is in
    record {
      self = record {
        settings = ap (λ (c : VsockConnection). c.settings) z;
        cids = (ap (λ (c : VsockConnection). c.local_cid) z, ap (λ (c : VsockConnection). c.peer_cid) z);
        ports = (ap (λ (c : VsockConnection). c.local_port) z, ap (λ (c : VsockConnection). c.peer_port) z);
      };
      state = ap (λ (c : VsockConnection). c.state) z ∙ h.state_is;
      request = ap (λ (c : VsockConnection). c.pending_rx.request) z ∙ kept p.request;
      response = ap (λ (c : VsockConnection). c.pending_rx.response) z ∙ kept p.response;
      rw = ap (λ (c : VsockConnection). c.pending_rx.rw) z ∙ kept (p.rw || false) ∙ ap (unless_killed (data_kills i)) (or_false p.rw);
      rst = ap (λ (c : VsockConnection). c.pending_rx.rst) z ∙ ap (λ (b : Bool). p.rst || b) h.rst_is;
      update =
          ap (λ (c : VsockConnection). c.pending_rx.credit_update) z
          ∙ kept (p.credit_update || h.update)
          ∙ ap (λ (b : Bool). unless_killed (data_kills i) (p.credit_update || b))
          (h.update_is ∙ ap (λ (c : VsockConnection). (data_stays i && falls_short c) || (eqb (decoded i.hdr).op op_credit_request && answers_request i.conn.state)) (sym e));
      ring = ap (λ (c : VsockConnection). c.tx_buf) z ∙ h.ring_is;
      store = s;
      count = ap (λ (c : VsockConnection). c.fwd_cnt) z ∙ h.count_is;
      sent = ap (λ (c : VsockConnection). c.rx_cnt) z;
      out = x;
    }

pub every_send_leaves : EverySendLeaves
every_send_leaves i o says n =
    let d = sent_done i o says n in
    let z = done_left i o says n in
    leaves i _ o (shape i d) (ap (λ (x : SendLeft). x.conn) z) (ap (λ (x : SendLeft). x.store) z ∙ store_now i d) (ap (λ (x : SendLeft). x.out) z ∙ out_now i)

-- ---- an event

-- an event leaves the timer and what the guest was told
abbrev Keeps : VsockConnection → VsockConnection → Type 0
Keeps c d = (d.expiry ≡ c.expiry) × (d.last_fwd_cnt_to_peer ≡ c.last_fwd_cnt_to_peer)

flush_keeps : (c : VsockConnection) (readable : Bool) (ring : TxBuf) (n : ℕ) (empty fails : Bool) → Keeps c (drained_of (seen_of c readable) ring n empty fails)
unfolding drained_of settled_of killed_of updated_of moved_of seen_of with_state
flush_keeps c readable ring n empty fails =
    when_holds (Keeps c) fails _ _ (λ t. (refl, refl)) (λ t. when_holds (Keeps c) (both_off c.state && empty) _ _ (λ u. (refl, refl)) (λ u. (refl, refl)))

event_keeps : (i : NotifyIn) (o : NotifyLeft) → o ≡ notify_of i → Keeps i.conn o.conn
unfolding notify_of notify_done notify_kept seen_of with_state
event_keeps i o says =
    rw says
    (when_done_holds (λ (x : NotifyLeft). Keeps i.conn x.conn) (notify_answer i) (notify_done i) (notify_kept i)
    (when_holds (Keeps i.conn) (due i) _ _ (λ t. flush_keeps i.conn i.readable _ _ _ _) (λ t. (refl, refl))) (refl, refl))

sum_none : (b u : Bool) (x y : ℕ) → x ≡ 0 → u ≡ false → when b x 0 + when u y 0 ≡ 0
unfolding when
sum_none true u x y e f = rw (e, f)
sum_none false u x y e f = rw f

-- the record after an event by what it may move
abbrev noted : VsockConnection → TxBuf → ℕ → ConnState → Bool → Bool → Bool → Bool → VsockConnection
noted c ring n s dies rst readable update =
    regrouped c (peer_of c) (record { ring = ring; count = n }) (sent_of c) (record { state = s; expiry = c.expiry; pending = indicated dies c.pending_rx rst readable update })

-- the threshold rule, with the ring and the count that a flush leaves
abbrev short_of : VsockConnection → TxBuf → ℕ → Bool
short_of c ring n = ltb (wsub ring.size (wsub n c.last_fwd_cnt_to_peer)) c.settings.threshold

module _ (c : VsockConnection) (readable : Bool) (ring : TxBuf) (n : ℕ) where
  abbrev ahead : VsockConnection
  ahead = moved_of (seen_of c readable) ring n

  drained_dead : (empty : Bool) → drained_of (seen_of c readable) ring n empty true ≡ noted c ring (wadd c.fwd_cnt n) Killed true true readable (short_of c ring (wadd c.fwd_cnt n))
  unfolding drained_of killed_of moved_of seen_of with_state when
  drained_dead empty = rw (or_true c.pending_rx.rst)

  drained_alive : (empty : Bool)
      → drained_of (seen_of c readable) ring n empty false
      ≡ noted c ring (wadd c.fwd_cnt n) c.state false (both_off c.state && empty) readable (not (both_off c.state && empty) && short_of c ring (wadd c.fwd_cnt n))
  unfolding drained_of settled_of updated_of moved_of seen_of with_state peer_needs_credit_update when
  drained_alive empty = by_end (both_off c.state && empty)
    where
      by_end : (b : Bool)
          → when b (with_state ahead ahead.state ahead.expiry (marked ahead.pending_rx true false false)) (updated_of ahead)
          ≡ noted c ring (wadd c.fwd_cnt n) c.state false b readable (not b && short_of c ring (wadd c.fwd_cnt n))
      by_end true = simp (or_false, or_true)
      by_end false = simp or_false

seen_form : (c : VsockConnection) (readable : Bool) → seen_of c readable ≡ noted c c.tx_buf c.fwd_cnt c.state false false readable false
unfolding seen_of with_state
seen_form c readable = refl

module _ (i : NotifyIn) where
  abbrev ring : TxBuf
  ring = i.conn.tx_buf

  abbrev total : ℕ
  total = counted_now ring i.answers

  pub due_now : due i ≡ flushes_now i
  unfolding quiet
  due_now = ap (λ (b : Bool). i.writable && b) (some (used_of ring))

  -- a first write that stops takes nothing
  stopped_row : FirstInTurn (flush_rows (flush_in i)) 10 → (0 < used_of ring) × (stops i.answers.first ≡ true)
  stopped_row r = at r.0 r.1 r.2
    where
      at : (k : ℕ) → (row_at (flush_rows (flush_in i)) k).0 ≡ 10 → (row_at (flush_rows (flush_in i)) k).1 → (0 < used_of ring) × (stops i.answers.first ≡ true)
      at zero e f = absurd (omega arith)
      at (suc zero) e f = absurd (omega arith)
      at (suc (suc zero)) e f = absurd (omega arith)
      at (suc (suc (suc zero))) e f = f
      at (suc (suc (suc (suc k)))) e f = absurd (omega arith)

  stopped_none : sound_of ring (length i.store) ≡ true → (flushed i).answer.number ≡ 10 → total ≡ 0
  stopped_none s n =
      let f = stopped_row (((flush_answers (flush_in i) (flushed i) refl).exactly 10).0 n) in
      let c : counted i.answers.first ≡ 0 = stops_none i.answers.first f.1 in
      let m : ring.tail % ring.size < ring.size = mod-lt ring.tail (omega (arith, (sound_says ring (length i.store) s).least)) in
      let u : uses_second ring i.answers ≡ false = ap (λ (b : Bool). b && ltb 0 (second_length ring)) (ne_eqb (counted i.answers.first) (first_length ring) (λ e. omega (arith, f.0))) in
      sum_none (uses_first ring) _ _ _ c u
    where
      stops_none : (a : StreamAnswer) → stops a ≡ true → counted a ≡ 0
      stops_none (Count k) e = absurd (never e)
      stops_none WouldBlock e = refl
      stops_none Failed e = refl

  -- what a flush that the event absorbs leaves: it is done, or its first write stopped and nothing was taken
  pub record Flushed : Type 0 where
    pub count : (flushed i).count ≡ total
    pub ring_left : Numbers i.conn → (flushed i).ring ≡ taken_off ring total

  flush_left : sound_of ring (length i.store) ≡ true → absorbed (flush_answer (flush_in i)) ≡ done → Flushed
  unfolding flush_of flush_done flush_kept absorbed
  flush_left s a =
      ⊎_elim
      (λ (t : is_done (flush_answer (flush_in i)) ≡ true).
      let z : flushed i ≡ flush_done (flush_in i) = when_done_lem _ _ _ (is_done_lem _ t) in
      record {
        count = ap (λ (o : FlushLeft). o.count) z ∙ count_is (flush_in i);
        ring_left = λ w. ap (λ (o : FlushLeft). o.ring) z ∙ ap (taken_off ring) (count_is (flush_in i));
      })
      (λ (t : is_done (flush_answer (flush_in i)) ≡ false).
      let z : flushed i ≡ flush_kept (flush_in i) = when_not_done _ _ _ t in
      let n : (told (flush_answer (flush_in i))).number ≡ 10 =
      ⊎_elim
      (λ (e : eqb (told (flush_answer (flush_in i))).number 10 ≡ true). eqb-true _ 10 e)
      (λ (e : eqb (told (flush_answer (flush_in i))).number 10 ≡ false). absurd (never (sym t ∙ ap is_done (sym (when_false _ _ _ e) ∙ a) ∙ done_is_done)))
      (true_or_false (eqb (told (flush_answer (flush_in i))).number 10)) in
      let none : total ≡ 0 = stopped_none s (ap (λ (o : FlushLeft). o.answer.number) z ∙ n) in
      record {
        count = ap (λ (o : FlushLeft). o.count) z ∙ sym none;
        ring_left = λ w. ap (λ (o : FlushLeft). o.ring) z ∙ rw none (let k = w.ring.tail in let q : wadd ring.tail 0 ≡ ring.tail = omega arith in rw q);
      })
      (true_or_false (is_done (flush_answer (flush_in i))))

  module _ (d : notify_answer i ≡ done) where
    sound : sound_of ring (length i.store) ≡ true
    unfolding notify_answer notify_door
    sound = sound_over_ring i.conn (length i.store) (record_passed _ _ refl (lowest_passed _ _ d).0)

    pub left : flushes_now i ≡ true → Flushed
    unfolding notify_answer
    left f = flush_left sound (sym (when_true _ _ (due i) (due_now ∙ f)) ∙ (lowest_passed _ _ d).1)

    -- no more is taken than is held
    pub within : flushes_now i ≡ true → total ≤ used_of ring
    within f = let c = (left f).count in let l = count_small (flush_in i) (flushed i) refl in omega arith

  module _ (w : Numbers i.conn) (d : notify_answer i ≡ done) where
    module _ (f : flushes_now i ≡ true) where
      abbrev count : ℕ
      count = wadd i.conn.fwd_cnt total

      -- the record after a flush
      conn_left : (notify_done i).conn ≡ drained_of (seen_of i.conn i.readable) (taken_off ring total) total (eqb (used_of (taken_off ring total)) 0) (failed i.answers.first)
      unfolding notify_done quiet
      conn_left =
          when_true _ _ (due i) (due_now ∙ f)
          ∙ rw ((left d f).ring_left w, (left d f).count)

      out_left : (notify_done i).out ≡ take total (held ring i.store) ++ drop total i.out
      unfolding notify_done
      out_left =
          when_true _ _ (due i) (due_now ∙ f) ∙ (flush_takes_oldest (flush_in i) (flushed i) w.ring refl).front
          ∙ ap (λ (k : ℕ). take k (held ring i.store) ++ drop k i.out) (left d f).count

    -- what it leaves, by the form of its record
    abbrev ends : ConnState → TxBuf → Bool
    ends s r = flushes_now i && (shut_both s && eqb (used_of r) 0)

    by_form : (o : NotifyLeft) (r : TxBuf) (n : ℕ) (s : ConnState) (dies rst update : Bool) → o.conn ≡ noted i.conn r n s dies rst i.readable update
        → s ≡ when (flush_fails i) Killed i.conn.state → dies ≡ flush_fails i → rst ≡ flush_fails i || ends s r → update ≡ flushes_now i && (not (ends s r) && short_of i.conn r n)
        → r ≡ when (flushes_now i) (taken_off ring total) ring → n ≡ when (flushes_now i) (wadd i.conn.fwd_cnt total) i.conn.fwd_cnt
        → o.out ≡ when (flushes_now i) (take total (held ring i.store) ++ drop total i.out) i.out → NotifyLeaves i o
    by_form o r n s dies rst update z e v g h j k x =
        let at : flush_ends i o.conn ≡ ends s r = ap (flush_ends i) z in
        let p : PendingRxSet = i.conn.pending_rx in
        let kept = kills_as v in
        let short : falls_short o.conn ≡ short_of i.conn r n = ap falls_short z in
        record {
          self = record {
            settings = ap (λ (c : VsockConnection). c.settings) z;
            cids = (ap (λ (c : VsockConnection). c.local_cid) z, ap (λ (c : VsockConnection). c.peer_cid) z);
            ports = (ap (λ (c : VsockConnection). c.local_port) z, ap (λ (c : VsockConnection). c.peer_port) z);
          };
          peer = (ap (λ (c : VsockConnection). c.peer_buf_alloc) z, ap (λ (c : VsockConnection). c.peer_fwd_cnt) z);
          state = ap (λ (c : VsockConnection). c.state) z ∙ e;
          request = ap (λ (c : VsockConnection). c.pending_rx.request) z ∙ kept p.request;
          response = ap (λ (c : VsockConnection). c.pending_rx.response) z ∙ kept p.response;
          rw = ap (λ (c : VsockConnection). c.pending_rx.rw) z ∙ kept (p.rw || i.readable);
          rst = ap (λ (c : VsockConnection). c.pending_rx.rst) z ∙ ap (λ (b : Bool). p.rst || b) (g ∙ ap (λ (b : Bool). flush_fails i || b) (sym at));
          update =
              ap (λ (c : VsockConnection). c.pending_rx.credit_update) z
              ∙ kept (p.credit_update || update)
              ∙ ap (λ (b : Bool). unless_killed (flush_fails i) (p.credit_update || b))
              (h ∙ ap (λ (b : Bool). flushes_now i && (not b && short_of i.conn r n)) (sym at) ∙ ap (λ (b : Bool). flushes_now i && (not (flush_ends i o.conn) && b)) (sym short));
          ring = ap (λ (c : VsockConnection). c.tx_buf) z ∙ j;
          count = ap (λ (c : VsockConnection). c.fwd_cnt) z ∙ k;
          sent = ap (λ (c : VsockConnection). c.rx_cnt) z;
          out = x;
        }

    -- an event that makes no flush
    idle_conn : flushes_now i ≡ false → (notify_done i).conn ≡ noted i.conn ring i.conn.fwd_cnt i.conn.state false false i.readable false
    unfolding notify_done
    idle_conn f = when_false _ _ (due i) (due_now ∙ f) ∙ seen_form i.conn i.readable

    idle_out : flushes_now i ≡ false → (notify_done i).out ≡ i.out
    unfolding notify_done
    idle_out f = when_false _ _ (due i) (due_now ∙ f)

    event_leaves : NotifyLeaves i (notify_done i)
    event_leaves =
        ⊎_elim
        (λ (f : flushes_now i ≡ true).
        ⊎_elim
        (λ (b : failed i.answers.first ≡ true).
        by_form (notify_done i) (taken_off ring total) (count f) Killed true true (short_of i.conn (taken_off ring total) (count f))
        (conn_left f ∙ rw b (drained_dead i.conn i.readable (taken_off ring total) total _)) (rw (f, b) (sym (when_true _ _ true refl))) (rw (f, b)) (rw (f, b)) (rw f) (sym (when_true _ _ _ f)) (sym (when_true _ _ _ f))
        (out_left f ∙ sym (when_true _ _ _ f)))
        (λ (b : failed i.answers.first ≡ false).
        let e : Bool = eqb (used_of (taken_off ring total)) 0 in
        let t = (every_state_means i.conn.state).both in
        by_form (notify_done i) (taken_off ring total) (count f) i.conn.state false (both_off i.conn.state && e) (not (both_off i.conn.state && e) && short_of i.conn (taken_off ring total) (count f))
        (conn_left f ∙ rw b (drained_alive i.conn i.readable (taken_off ring total) total e)) (rw (f, b) (sym (when_false _ _ false refl))) (rw (f, b))
        (rw (f, b) (ap (λ (x : Bool). x && e) t)) (rw f (ap (λ (x : Bool). not (x && e) && short_of i.conn (taken_off ring total) (count f)) t)) (sym (when_true _ _ _ f)) (sym (when_true _ _ _ f))
        (out_left f ∙ sym (when_true _ _ _ f)))
        (true_or_false (failed i.answers.first)))
        (λ (f : flushes_now i ≡ false).
        by_form (notify_done i) ring i.conn.fwd_cnt i.conn.state false false false (idle_conn f) (rw f (sym (when_false _ _ false refl))) (rw f) (rw f) (rw f) (sym (when_false _ _ _ f)) (sym (when_false _ _ _ f))
        (idle_out f ∙ sym (when_false _ _ _ f)))
        (true_or_false (flushes_now i))

pub notified_done : (i : NotifyIn) (o : NotifyLeft) → o ≡ notify_of i → o.answer.number ≡ 0 → notify_answer i ≡ done
notified_done i o says n =
    number_zero (notify_answer i) (ap (λ (t : Told). t.number) (sym (notify_told i)) ∙ ap (λ (x : NotifyLeft). x.answer.number) (sym says) ∙ n)

pub every_notify_leaves : EveryNotifyLeaves
unfolding notify_of notify_kept
every_notify_leaves i o w says n =
    let z : o ≡ notify_done i = left_done (λ (x : NotifyLeft). x.answer) (notify_answer i) (notify_done i) (notify_kept i) o refl says n in
    let d : notify_answer i ≡ done = notified_done i o says n in
    subst (NotifyLeaves i) (sym z) (event_leaves i w d)

-- ---- openings

fresh_opened : (o : Opening) (alloc : ℕ) (state : ConnState) (request response : Bool)
    → Opened o (fresh_of (allocated o alloc) state (record { request = request; response = response; rst = false; rw = false; credit_update = false }))
unfolding fresh_of
fresh_opened o alloc state request response = record {
  settings = refl;
  cids = (refl, refl);
  ports = (refl, refl);
  ring = (refl, refl, refl);
  counts = (refl, refl, refl, refl);
  expiry = refl;
  quiet = (refl, refl, refl);
}

-- a record that is made where the answer passes
pub made_done : (a : Answer) (x y : VsockConnection) (left : ConnLeft) → left ≡ record { answer = told a; conn = when_done a x y } → left.answer.number ≡ 0 → left.conn ≡ x
made_done a x y left says n = ap (λ (l : ConnLeft). l.conn) says ∙ when_done_lem a x y (number_zero a (ap (λ (l : ConnLeft). l.answer.number) (sym says) ∙ n))

made_refused : (a : Answer) (x y : VsockConnection) (left : ConnLeft) → left ≡ record { answer = told a; conn = when_done a x y } → Refuses left.answer → left.conn ≡ y
made_refused a x y left says r =
    ap (λ (l : ConnLeft). l.conn) says ∙ field_kept a x y (subst Refuses (ap (λ (l : ConnLeft). l.answer) says) r)

-- what an opening gives is all that is seen of it
opened_as : (o : Opening) (c x : VsockConnection) → Opened o x → c ≡ x
    → Opened o c × (c.state ≡ x.state) × (c.peer_buf_alloc ≡ x.peer_buf_alloc) × (c.pending_rx.response ≡ x.pending_rx.response)
    × (c.pending_rx.request ≡ x.pending_rx.request)
opened_as o c x p z = (
  subst (Opened o) (sym z) p,
  ap (λ (c : VsockConnection). c.state) z,
  ap (λ (c : VsockConnection). c.peer_buf_alloc) z,
  ap (λ (c : VsockConnection). c.pending_rx.response) z,
  ap (λ (c : VsockConnection). c.pending_rx.request) z,
)

pub opening_means : OpeningMeans
unfolding peer_init_of local_init_of fresh_of
opening_means = record {
  peer = λ o left says n. opened_as o _ _ (fresh_opened o o.alloc PeerInit false true) (made_done (open_answer o.size o.settings) _ _ left says n);
  local = λ o left says n. opened_as o _ _ (fresh_opened o 0 LocalInit true false) (made_done (open_answer o.size o.settings) _ _ left says n);
}

all_zero : AllZero zero_conn
unfolding zero_conn fresh_of
all_zero = record {
  settings = (refl, refl, refl);
  addresses = (refl, refl, refl, refl);
  ring = (refl, refl, refl);
  counts = (refl, refl, refl, refl, refl);
  phase = (refl, refl, refl);
}

pub refused_is_zero : RefusedIsZero
unfolding peer_init_of local_init_of
refused_is_zero = record {
  peer = λ o left says r. subst AllZero (sym (made_refused (open_answer o.size o.settings) _ _ left says r)) all_zero;
  local = λ o left says r. subst AllZero (sym (made_refused (open_answer o.size o.settings) _ _ left says r)) all_zero;
}

-- ---- the raw send

stopped_kind : (r h c l a m : Bool) (s : StreamAnswer) → (told (lowest_of (lowest_of (door_of r h c l) (late_of a m)) (stopped_by s))).number ≡ 10
    → (told (lowest_of (lowest_of (door_of r h c l) (late_of a m)) (stopped_by s))).failed ≡ failed s
unfolding lowest_of door_of late_of when_done when
stopped_kind true h c l a m s n = absurd (omega arith)
stopped_kind false true c l a m s n = absurd (omega arith)
stopped_kind false false true l a m s n = absurd (omega arith)
stopped_kind false false false true a m s n = absurd (omega arith)
stopped_kind false false false false true m s n = absurd (omega arith)
stopped_kind false false false false false true s n = absurd (omega arith)
stopped_kind false false false false false false (Count k) n = absurd (omega arith)
stopped_kind false false false false false false WouldBlock n = refl
stopped_kind false false false false false false Failed n = refl

pub every_raw_leaves : EveryRawLeaves
unfolding raw_of raw_done raw_kept raw_answer raw_door
every_raw_leaves i o says = record {
  count = λ n. ap (λ (x : RawLeft). x.count) (left_done (λ (x : RawLeft). x.answer) (raw_answer i) (raw_done i) (raw_kept i) o refl says n);
  out = λ n. ap (λ (x : RawLeft). x.out) (left_done (λ (x : RawLeft). x.answer) (raw_answer i) (raw_done i) (raw_kept i) o refl says n);
  stopped = λ n.
      let z = left_where (λ (t : Told). t.number ≡ 10) (λ (x : RawLeft). x.answer) (raw_answer i) (raw_done i) (raw_kept i) o (λ (e : ◌≡◌ {A = ℕ} 0 10). omega arith) says n in (
        ap (λ (x : RawLeft). x.count) z,
        ap (λ (x : RawLeft). x.out) z,
        ap (λ (x : RawLeft). x.answer.failed) z ∙ stopped_kind _ false false _ _ _ i.answers.first (ap (λ (x : RawLeft). x.answer.number) (sym z) ∙ n),
      );
}

-- ---- killing

data_dead : (i : SendIn) (o : SendLeft) → o ≡ send_of i → o.answer.number ≡ 0 → data_kills i ≡ true → Dead o.conn
unfolding send_done plan_of
data_dead i o says n e =
    let k = both (meets_data i) (kills_now i) e in
    let z = ap (λ (x : SendLeft). x.conn) (done_left i o says n)
    ∙ rule_kills (heard i) _ (decoded i.hdr) (send_plan i) _ (send_carried i).ring _ (data_op i k.0) (goes i k.0) (kills_now_lem i k.0 ∙ k.1) in
    subst Dead (sym z) (killed_dead _)

flush_dead : (i : NotifyIn) (o : NotifyLeft) → o ≡ notify_of i → o.answer.number ≡ 0 → flush_fails i ≡ true → Dead o.conn
unfolding notify_of notify_done notify_kept drained_of
flush_dead i o says n e =
    let f = both (flushes_now i) (failed i.answers.first) e in
    let z = ap (λ (x : NotifyLeft). x.conn) (left_done (λ (x : NotifyLeft). x.answer) (notify_answer i) (notify_done i) (notify_kept i) o refl says n)
    ∙ when_true _ _ _ (due_now i ∙ f.0) ∙ when_true _ _ _ f.1 in
    subst Dead (sym z) (killed_dead _)

pub kills_alike : KillsAlike
kills_alike = record { send = data_dead; notify = flush_dead; kill = λ c o says n. (every_kill_kills c o says n).dead }

-- ---- timers, and what the guest was told

kill_keeps : (c : VsockConnection) (o : ConnLeft) → o ≡ kill_of c → Keeps c o.conn
unfolding kill_of killed_of with_state
kill_keeps c o says = rw says (when_done_holds (Keeps c) (look_answer c) (killed_of c) c (refl, refl) (refl, refl))

send_told_stays : (i : SendIn) (o : SendLeft) → o ≡ send_of i → o.conn.last_fwd_cnt_to_peer ≡ i.conn.last_fwd_cnt_to_peer
unfolding send_of send_kept
send_told_stays i o says =
    ⊎_elim
    (λ (t : is_done (send_answer i) ≡ true).
    let d = is_done_lem _ t in
    ap (λ (x : SendLeft). x.conn.last_fwd_cnt_to_peer) (says ∙ when_done_lem _ _ _ d) ∙ ap (λ (c : VsockConnection). c.last_fwd_cnt_to_peer) (shape i d).is)
    (λ (t : is_done (send_answer i) ≡ false). ap (λ (x : SendLeft). x.conn.last_fwd_cnt_to_peer) (says ∙ when_not_done _ _ _ t))
    (true_or_false (is_done (send_answer i)))

pub timers_arm : TimersArm
timers_arm = record {
  send = λ i o says n.
      let h = shape i (sent_done i o says n) in
      ap (λ (x : SendLeft). x.conn.expiry) (done_left i o says n) ∙ ap (λ (c : VsockConnection). c.expiry) h.is ∙ h.timer_is;
  notify = λ i o says. (event_keeps i o says).0;
  recv = λ i o says k. ap (λ (c : VsockConnection). c.expiry) (every_turn_leaves i o says k).conn;
  kill = λ c o says. (kill_keeps c o says).0;
}

pub last_told_moves : LastToldMoves
last_told_moves = record {
  send = send_told_stays;
  notify = λ i o says. (event_keeps i o says).1;
  recv = λ i o says k. ap (λ (c : VsockConnection). c.last_fwd_cnt_to_peer) (every_turn_leaves i o says k).conn;
  kill = λ c o says. (kill_keeps c o says).1;
}
