-- The timer of a SHUTDOWN (2026-08): which packets arm it, and that a connection which waits for its last bytes has one. Assumes nothing.
use Prim.Native.Nat.{ℕ, ◌+◌, ◌≤◌}
use mathlib.Core.Path.{◌≡◌, refl, sym, ap, subst, ◌∙◌}
use mathlib.Core.Logic.{⊎_elim}
use mathlib.Core.Bool.{Bool, true, false, not, ◌&&◌}
use mathlib.Core.List.{List}
use native.Mathlib.Omega.{arith}
use lib.Dec.{eqb}
use borrow.Author.Tests.{leb-true, le-leb, eqb-true, not-true}
use Rattle.std.specs.Prelude.{None, Some}
use Rattle.defs.specs.Answer.{Told, told, is_done, Answer}
use Rattle.defs.specs.Choice.{when}
use Rattle.defs.proofs.AnswerLaws.{is_done_lem, when_not_done, when_done_holds}
use Rattle.defs.proofs.Basics.{never, both, both_true, true_or_false}
use Rattle.defs.proofs.ChoiceLaws.{when_true, when_false, when_holds}
use Rattle.packet.specs.Header.{decoded}
use Rattle.packet.specs.Uapi.{op_response, op_shutdown, op_rw}
use Rattle.runs.specs.Promises.{Keeps}
use Rattle.runs.proofs.Promises as any
use Rattle.txbuf.specs.Record.{used_of}
use Rattle.txbuf.specs.declared.record.TxBuf.{TxBuf}
use Rattle.csm.specs.Means.{shut_both, takes_data}
use Rattle.csm.specs.Row.{afterwards, armed}
use Rattle.csm.specs.declared.row.After.{After}
use Rattle.csm.specs.declared.row.After.TheVariants.{Same, Opens, Closes}
use Rattle.csm.specs.declared.row.Arms.{Arms}
use Rattle.csm.specs.declared.row.Arms.TheVariants.{Keep, Wait, Linger}
use Rattle.csm.specs.declared.state.ConnState.{ConnState}
use Rattle.csm.specs.declared.state.ConnState.TheVariants.{LocalInit, PeerInit, Established, LocalClosed, PeerClosed, Killed}
use Rattle.csm.specs.Timer.{Timer}
use Rattle.csm.proofs.MeansLaws.{unset, both_shut, open_yet}
use Rattle.rules.specs.Record.{with_state, killed_of}
use Rattle.rules.specs.Look.{look_answer, kill_of}
use Rattle.rules.specs.Receive.{spoken_of, received_of, RecvIn, RecvLeft, refusal_of, said_by, recv_done, recv_kept, recv_of}
use Rattle.rules.specs.Notify.{NotifyIn, NotifyLeft, notify_answer, notify_kept, notify_of}
use Rattle.rules.specs.Moves.{Numbers}
use Rattle.rules.specs.Runs.{Event, sends, receives, notifies, kills, looks, after, Made, connections, ClosingIsTimed}
use Rattle.rules.specs.Send.{SendIn, SendLeft, send_answer, send_kept, send_of}
use Rattle.rules.specs.Outcomes.{meets_data, kills_now}
use Rattle.rules.specs.Common.{ArmsNow, ShutdownArms}
use Rattle.rules.specs.Leaves.{closed_now, cleared, confirmed, lingers_now, unless_running, timer_now, flushes_now, flush_fails, SendLeaves, NotifyLeaves}
use Rattle.rules.specs.declared.record.VsockConnection.{VsockConnection}
use Rattle.rules.proofs.AnswerLaws.{notify_told}
use Rattle.rules.proofs.CallLaws.{send_number}
use Rattle.rules.proofs.ChangeLaws.{not_met, every_send_leaves, every_notify_leaves, timers_arm}
use Rattle.rules.proofs.RunLaws.{numbers_kept, begun_numbers, opening}

-- ---- tables

-- a RESPONSE arms nothing
cleared_set : (s : ConnState) (t : Timer) (time : ℕ) → cleared s t ≡ Some time → t ≡ Some time
cleared_set LocalInit t time e = absurd (unset time e)
cleared_set PeerInit t time e = e
cleared_set Established t time e = e
cleared_set LocalClosed t time e = e
cleared_set (PeerClosed a b) t time e = e
cleared_set Killed t time e = e

-- ---- a SHUTDOWN

module _ (i : SendIn) where
  abbrev linger_time : ℕ
  linger_time = i.clock + i.conn.settings.shutdown_timeout

  timer_shut : (decoded i.hdr).op ≡ op_shutdown → timer_now i ≡ when (lingers_now i) (unless_running i.conn.expiry linger_time) i.conn.expiry
  unfolding when
  timer_shut e = rw e

  state_shut : (o : SendLeft) → SendLeaves i o → (decoded i.hdr).op ≡ op_shutdown → o.conn.state ≡ closed_now i
  unfolding when
  state_shut o v e = v.state ∙ rw (not_met i (ap (λ (n : ℕ). eqb n op_rw) e), e)

  -- a timer that was not there before was set by a SHUTDOWN, where none ran
  armed_by : (time : ℕ) → (i.conn.expiry ≡ Some time → ⊥) → timer_now i ≡ Some time → (eqb (decoded i.hdr).op op_shutdown && lingers_now i ≡ true) × (i.conn.expiry ≡ None) × (time ≡ linger_time)
  armed_by time f e =
      ⊎_elim
      (λ (a : eqb (decoded i.hdr).op op_response ≡ true). absurd (f (cleared_set i.conn.state i.conn.expiry time (sym (when_true _ _ _ a) ∙ e))))
      (λ (a : eqb (decoded i.hdr).op op_response ≡ false).
      ⊎_elim
      (λ (b : eqb (decoded i.hdr).op op_shutdown && lingers_now i ≡ true).
      let z : unless_running i.conn.expiry linger_time ≡ Some time = sym (when_true _ _ _ b) ∙ sym (when_false _ _ _ a) ∙ e in
      let w = made i.conn.expiry z f in
      (b, w.0, w.1))
      (λ (b : eqb (decoded i.hdr).op op_shutdown && lingers_now i ≡ false). absurd (f (sym (when_false _ _ _ b) ∙ sym (when_false _ _ _ a) ∙ e)))
      (true_or_false (eqb (decoded i.hdr).op op_shutdown && lingers_now i)))
      (true_or_false (eqb (decoded i.hdr).op op_response))
    where
      made : (t : Timer) → unless_running t linger_time ≡ Some time → (t ≡ Some time → ⊥) → (t ≡ None) × (time ≡ linger_time)
      made None z g = (refl, cc)
      made (Some r) z g = absurd (g z)

  sets : (o : SendLeft) (time : ℕ) → SendLeaves i o → o.conn.expiry ≡ timer_now i → (i.conn.expiry ≡ Some time → ⊥) × (o.conn.expiry ≡ Some time)
      → ArmsNow i o × (time ≡ linger_time)
  sets o time v t p =
      let a = armed_by time p.0 (sym t ∙ p.1) in
      let b = both (eqb (decoded i.hdr).op op_shutdown) (lingers_now i) a.0 in
      let e = eqb-true _ _ b.0 in
      let l = both (shut_both (closed_now i) && not (shut_both i.conn.state)) _ b.1 in
      let s = both (shut_both (closed_now i)) _ l.0 in (
        record {
          op = e;
          before = λ z. never (sym (not-true _ s.1) ∙ ap shut_both z);
          after = state_shut o v e ∙ both_shut (closed_now i) s.0;
          held = leb-true 1 _ l.1;
          idle = a.1;
        },
        a.2,
      )

  is_set : (o : SendLeft) (time : ℕ) → SendLeaves i o → o.conn.expiry ≡ timer_now i → ArmsNow i o → time ≡ linger_time
      → (i.conn.expiry ≡ Some time → ⊥) × (o.conn.expiry ≡ Some time)
  is_set o time v t b e =
      let s : shut_both (closed_now i) ≡ true = ap shut_both (sym (state_shut o v b.op) ∙ b.after) in
      let l : lingers_now i ≡ true = both_true _ _ (both_true _ _ s (open_yet i.conn.state b.before)) (le-leb 1 _ b.held) in (
        λ z. unset time (sym b.idle ∙ z),
        t ∙ timer_shut b.op ∙ when_true _ _ _ l ∙ ap (λ (x : Timer). unless_running x linger_time) b.idle ∙ ap Some (sym e),
      )

  stays_set : (time : ℕ) → (decoded i.hdr).op ≡ op_shutdown → i.conn.expiry ≡ Some time → timer_now i ≡ Some time
  stays_set time e t = timer_shut e ∙ when_holds (λ (x : Timer). x ≡ Some time) (lingers_now i) _ _ (λ l. ap (λ (x : Timer). unless_running x linger_time) t) (λ l. t)

pub shutdown_arms : ShutdownArms
unfolding send_of send_kept
shutdown_arms = record {
  arms = λ i o time says n.
      let v = every_send_leaves i o says n in
      let t = timers_arm.send i o says n in
      (λ p. sets i o time v t p, λ p. is_set i o time v t p.0 p.1);
  runs = λ i o time says e t.
      ⊎_elim
      (λ (d : is_done (send_answer i) ≡ true).
      let n : o.answer.number ≡ 0 = ap (λ (x : Told). x.number) (send_number i o says) ∙ ap (λ (a : Answer). (told a).number) (is_done_lem _ d) in
      timers_arm.send i o says n ∙ stays_set i time e t)
      (λ (d : is_done (send_answer i) ≡ false). ap (λ (x : SendLeft). x.conn.expiry) (says ∙ when_not_done (send_answer i) _ _ d) ∙ t)
      (true_or_false (is_done (send_answer i)));
}

-- ---- over a run

-- shut both ways and bytes held: a timer is set
abbrev HasTimer : VsockConnection → Type 0
HasTimer c = c.state ≡ PeerClosed true true → 1 ≤ used_of c.tx_buf → c.expiry ≡ None → ⊥

-- one record waits for no more than another did
record NoLonger (c d : VsockConnection) : Type 0 where
  state : d.state ≡ PeerClosed true true → c.state ≡ PeerClosed true true
  held : d.state ≡ PeerClosed true true → 1 ≤ used_of d.tx_buf → 1 ≤ used_of c.tx_buf
  timer : d.state ≡ PeerClosed true true → d.expiry ≡ None → c.expiry ≡ None

no_longer : (c d : VsockConnection) → NoLonger c d → HasTimer c → HasTimer d
no_longer c d w f s h t = f (w.state s) (w.held s h) (w.timer s t)

same : (c d : VsockConnection) → d ≡ c → NoLonger c d
same c d e = rw e (record { state = λ s. s; held = λ s h. h; timer = λ s t. t })

-- a RESPONSE that leaves it shut both ways found it so, and left the timer
confirmed_both : (s : ConnState) (t : Timer) → confirmed s ≡ PeerClosed true true → (s ≡ PeerClosed true true) × (cleared s t ≡ t)
confirmed_both LocalInit t e = absurd (never (ap shut_both e))
confirmed_both PeerInit t e = (e, refl)
confirmed_both Established t e = (e, refl)
confirmed_both LocalClosed t e = (e, refl)
confirmed_both (PeerClosed a b) t e = (e, refl)
confirmed_both Killed t e = (e, refl)

-- no data is taken once both ways are shut
no_data : (i : SendIn) → i.conn.state ≡ PeerClosed true true → meets_data i ≡ false
no_data i e = ap (λ (s : ConnState). takes_data s && i.present && eqb (decoded i.hdr).op op_rw) e

-- a SHUTDOWN that leaves no timer found none, and was not one that arms
still_unset : (b : Bool) (t : Timer) (time : ℕ) → when b (unless_running t time) t ≡ None → (t ≡ None) × (b ≡ false)
unfolding when
still_unset true None time e = absurd (unset time (sym e))
still_unset true (Some r) time e = absurd (unset r (sym e))
still_unset false t time e = (e, refl)

module _ (i : SendIn) (o : SendLeft) (v : SendLeaves i o) (t : o.conn.expiry ≡ timer_now i) where
  -- what is held stays, unless data was taken
  ring_stays : meets_data i ≡ false → o.conn.tx_buf ≡ i.conn.tx_buf
  unfolding when
  ring_stays m = v.ring ∙ rw m

  by_response : meets_data i ≡ false → (decoded i.hdr).op ≡ op_response → NoLonger i.conn o.conn
  unfolding when
  by_response m e =
      let s : o.conn.state ≡ confirmed i.conn.state = v.state ∙ rw (m, e) in
      let x : o.conn.expiry ≡ cleared i.conn.state i.conn.expiry = t ∙ rw e in
      record {
        state = λ z. (confirmed_both i.conn.state i.conn.expiry (sym s ∙ z)).0;
        held = λ z h. subst (λ (b : TxBuf). 1 ≤ used_of b) (ring_stays m) h;
        timer = λ z u. sym (confirmed_both i.conn.state i.conn.expiry (sym s ∙ z)).1 ∙ sym x ∙ u;
      }

  by_other : meets_data i ≡ false → eqb (decoded i.hdr).op op_response ≡ false → eqb (decoded i.hdr).op op_shutdown ≡ false → NoLonger i.conn o.conn
  unfolding when
  by_other m a b =
      let s : o.conn.state ≡ i.conn.state = v.state ∙ rw (m, a, b) in
      let x : o.conn.expiry ≡ i.conn.expiry = t ∙ rw (a, b) in
      record {
        state = λ z. sym s ∙ z;
        held = λ z h. subst (λ (b : TxBuf). 1 ≤ used_of b) (ring_stays m) h;
        timer = λ z u. sym x ∙ u;
      }

  -- data kills, or leaves a state that takes it
  by_data : meets_data i ≡ true → o.conn.state ≡ PeerClosed true true → ⊥
  unfolding when
  by_data m z =
      ⊎_elim
      (λ (k : kills_now i ≡ true). let s : o.conn.state ≡ Killed = v.state ∙ rw (m, k) in never (ap shut_both (sym s ∙ z)))
      (λ (k : kills_now i ≡ false).
      let e : (decoded i.hdr).op ≡ op_rw = eqb-true _ _ (both (takes_data i.conn.state && i.present) _ m).1 in
      let s : o.conn.state ≡ i.conn.state = v.state ∙ rw (m, k, e) in
      never (sym (no_data i (sym s ∙ z)) ∙ m))
      (true_or_false (kills_now i))

  by_shutdown : (decoded i.hdr).op ≡ op_shutdown → HasTimer i.conn → HasTimer o.conn
  by_shutdown e f z h u =
      let m = not_met i (ap (λ (n : ℕ). eqb n op_rw) e) in
      let w = still_unset (lingers_now i) i.conn.expiry _ (sym (timer_shut i e) ∙ sym t ∙ u) in
      let held : 1 ≤ used_of i.conn.tx_buf = subst (λ (b : TxBuf). 1 ≤ used_of b) (ring_stays m) h in
      let c : shut_both (closed_now i) ≡ true = ap shut_both (sym (state_shut i o v e) ∙ z) in
      ⊎_elim
      (λ (b : shut_both i.conn.state ≡ true). f (both_shut _ b) held w.0)
      (λ (b : shut_both i.conn.state ≡ false). never (sym w.1 ∙ both_true _ _ (both_true _ _ c (ap not b)) (le-leb 1 _ held)))
      (true_or_false (shut_both i.conn.state))

  after_packet : HasTimer i.conn → HasTimer o.conn
  after_packet f =
      ⊎_elim
      (λ (m : meets_data i ≡ true). λ z h u. by_data m z)
      (λ (m : meets_data i ≡ false).
      ⊎_elim
      (λ (a : eqb (decoded i.hdr).op op_response ≡ true). no_longer i.conn o.conn (by_response m (eqb-true _ _ a)) f)
      (λ (a : eqb (decoded i.hdr).op op_response ≡ false).
      ⊎_elim
      (λ (b : eqb (decoded i.hdr).op op_shutdown ≡ true). by_shutdown (eqb-true _ _ b) f)
      (λ (b : eqb (decoded i.hdr).op op_shutdown ≡ false). no_longer i.conn o.conn (by_other m a b) f)
      (true_or_false (eqb (decoded i.hdr).op op_shutdown)))
      (true_or_false (eqb (decoded i.hdr).op op_response)))
      (true_or_false (meets_data i))

-- ---- turns, events, kills

same_both : (x : After) (s : ConnState) → afterwards x s ≡ PeerClosed true true → s ≡ PeerClosed true true
same_both Same s e = e
same_both Opens s e = absurd (never (ap shut_both e))
same_both Closes s e = absurd (never (ap shut_both e))

same_timer : (x : Arms) (t : Timer) (wait linger : ℕ) → armed x t (Some wait) (Some linger) ≡ None → t ≡ None
same_timer Keep t wait linger e = e
same_timer Wait t wait linger e = absurd (unset wait (sym e))
same_timer Linger t wait linger e = absurd (unset linger (sym e))

spoke : (i : RecvIn) → NoLonger i.conn (recv_done i).conn
unfolding recv_done received_of spoken_of
spoke i = record {
  state = λ z. same_both (said_by i).after i.conn.state z;
  held = λ z h. h;
  timer = λ z u. same_timer (said_by i).arms i.conn.expiry _ _ u;
}

by_turn : (i : RecvIn) → NoLonger i.conn (recv_of i).conn
unfolding recv_of recv_kept
by_turn i = when_done_holds (λ (o : RecvLeft). NoLonger i.conn o.conn) (refusal_of i) (recv_done i) (recv_kept i) (spoke i) (same _ _ refl)

-- an event flushes only what is held, and moves no timer
by_event : (i : NotifyIn) (o : NotifyLeft) → NotifyLeaves i o → o.conn.expiry ≡ i.conn.expiry → NoLonger i.conn o.conn
unfolding when
by_event i o v t = record {
  state = λ z.
      ⊎_elim
      (λ (b : flush_fails i ≡ true). absurd (never (ap shut_both (sym (v.state ∙ when_true _ _ _ b) ∙ z))))
      (λ (b : flush_fails i ≡ false). sym (v.state ∙ when_false _ _ _ b) ∙ z)
      (true_or_false (flush_fails i));
  held = λ z h.
      ⊎_elim
      (λ (b : flushes_now i ≡ true). leb-true 1 _ (both i.writable _ b).1)
      (λ (b : flushes_now i ≡ false). subst (λ (x : TxBuf). 1 ≤ used_of x) (v.ring ∙ when_false _ _ _ b) h)
      (true_or_false (flushes_now i));
  timer = λ z u. sym t ∙ u;
}

by_kill : (c : VsockConnection) → NoLonger c (kill_of c).conn
unfolding kill_of killed_of with_state
by_kill c =
    when_done_holds (NoLonger c) (look_answer c) (killed_of c) c
    (record { state = λ z. absurd (never (ap shut_both z)); held = λ z h. h; timer = λ z u. u }) (same c c refl)

-- ---- every run

by_call : (c : VsockConnection) (store : List ℕ) (e : Event) → Numbers c → Made c store e → HasTimer c → HasTimer (after e)
unfolding send_of send_kept notify_of notify_kept
by_call c store (sends i o) w m f =
    ⊎_elim
    (λ (t : is_done (send_answer i) ≡ true).
    let n : o.answer.number ≡ 0 = ap (λ (x : Told). x.number) (send_number i o m.2) ∙ ap (λ (a : Answer). (told a).number) (is_done_lem _ t) in
    after_packet i o (every_send_leaves i o m.2 n) (timers_arm.send i o m.2 n) (rw m.0 f))
    (λ (t : is_done (send_answer i) ≡ false). subst HasTimer (sym (ap (λ (x : SendLeft). x.conn) (m.2 ∙ when_not_done (send_answer i) _ _ t) ∙ m.0)) f)
    (true_or_false (is_done (send_answer i)))
by_call c store (receives i o) w m f = rw m.1 (no_longer i.conn (recv_of i).conn (by_turn i) (rw m.0 f))
by_call c store (notifies i o) w m f =
    ⊎_elim
    (λ (t : is_done (notify_answer i) ≡ true).
    let n : o.answer.number ≡ 0 = ap (λ (x : NotifyLeft). x.answer.number) m.2 ∙ ap (λ (x : Told). x.number) (notify_told i) ∙ ap (λ (a : Answer). (told a).number) (is_done_lem _ t) in
    no_longer i.conn o.conn (by_event i o (every_notify_leaves i o (rw m.0 w) m.2 n) (timers_arm.notify i o m.2)) (rw m.0 f))
    (λ (t : is_done (notify_answer i) ≡ false). subst HasTimer (sym (ap (λ (x : NotifyLeft). x.conn) (m.2 ∙ when_not_done (notify_answer i) _ _ t) ∙ m.0)) f)
    (true_or_false (is_done (notify_answer i)))
by_call c store (kills d o) w m f = rw m.1 (no_longer d (kill_of d).conn (by_kill d) (rw m.0 f))
by_call c store (looks l) w m f = rw m.0 f

-- with numbers of 32 bits, as an event asks
abbrev Kept : VsockConnection → Type 0
Kept c = Numbers c × HasTimer c

kept : Keeps connections Kept
kept c store e p m = (numbers_kept c store e p.0 m, by_call c store e p.0 m p.1)

pub closing_is_timed : ClosingIsTimed
closing_is_timed s t c store r = (any.every_run_keeps connections Kept kept _ _ _ _ _ (begun_numbers _ (opening r), fresh) r.steps).1
  where
    fresh : HasTimer s.left.conn
    fresh z h u = let b = opening r in let e : used_of s.left.conn.tx_buf ≡ 0 = rw (b.head, b.tail) in omega arith
