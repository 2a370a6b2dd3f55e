-- The flags of PeerClosed only grow over a run, and Killed is never left. A RESPONSE, which opens a connection, is pending only in PeerInit, and that is
-- what a run keeps. Assumes nothing.
use Prim.Native.Nat.{ℕ}
use mathlib.Core.Path.{◌≡◌, refl, sym, ap, subst, ◌∙◌}
use mathlib.Core.Logic.{⊎_elim}
use mathlib.Core.Bool.{Bool, true, false, ◌&&◌}
use mathlib.Core.List.{List}
use lib.Dec.{eqb}
use Rattle.defs.specs.Choice.{when}
use Rattle.defs.specs.Answer.{is_done, when_done}
use Rattle.defs.specs.Stream.{failed}
use Rattle.defs.proofs.Basics.{never, both, true_or_false}
use Rattle.defs.proofs.ChoiceLaws.{when_holds}
use Rattle.packet.specs.Uapi.{op_response, op_shutdown, op_rw, op_credit_request}
use Rattle.packet.specs.declared.hdr.VsockPacketHdr.{VsockPacketHdr}
use Rattle.runs.specs.Promises.{Keeps}
use Rattle.runs.proofs.Promises as any
use Rattle.txbuf.specs.declared.record.TxBuf.{TxBuf}
use Rattle.csm.specs.State.{gives, is_local_init, shut_by, both_off, recv_off, send_off, Grown, grown, closed, dead}
use Rattle.csm.specs.Row.{afterwards}
use Rattle.csm.specs.declared.row.After.{After}
use Rattle.csm.specs.declared.row.After.TheVariants.{Same, Opens as Opened, Closes}
use Rattle.csm.specs.declared.pending.PendingRxSet.{PendingRxSet}
use Rattle.csm.specs.declared.state.ConnState.{ConnState}
use Rattle.csm.specs.declared.state.ConnState.TheVariants.{LocalInit, PeerInit, Established, LocalClosed, PeerClosed, Killed}
use Rattle.csm.proofs.Promises.{shut_only_grows}
use Rattle.csm.proofs.TurnLaws.{NotOpening, same_state, closes_state, reset_stays, response_alone_opens}
use Rattle.rules.specs.Record.{quiet, credit_of, with_state, killed_of}
use Rattle.rules.specs.Open.{Opening, ConnLeft, fresh_of, zero_conn, open_answer, peer_init_of, local_init_of}
use Rattle.rules.specs.Look.{look_answer, kill_of}
use Rattle.rules.specs.Receive.{spoken_of, received_of, RecvIn, RecvLeft, refusal_of, said_by, recv_done, recv_kept, recv_of}
use Rattle.rules.specs.Send.{SendPlan, SendLeft, heard_of, moved_of, updated_of, on_response, on_shutdown, on_credit_request, on_data, rule_of, SendIn, pkt_of, send_plan, send_answer, send_kills, send_carried, send_done, send_kept, send_of}
use Rattle.rules.specs.Notify.{NotifyLeft, seen_of, settled_of, drained_of, NotifyIn, due, flushed, notify_answer, notify_done, notify_kept, notify_of}
use Rattle.rules.specs.Runs.{Event, sends, receives, notifies, kills, looks, after, Made, connections, Start, Opens, Run, FlagsOnlyGrow, KilledStays}
use Rattle.rules.specs.declared.record.VsockConnection.{VsockConnection}

-- ---- what may follow a state

-- of a connection that a call does not kill
data Follows (s : ConnState) : ConnState → Type 0 where
  stays : Follows s s
  opens : is_local_init s ≡ true → Follows s Established
  shuts : (a b : Bool) → Follows s (shut_by s a b)

grows : (r q : Bool) (s d : ConnState) → Follows s d → s ≡ PeerClosed r q → Grown r q d
grows r q s d stays e = rw e (grown r q (λ x. x) (λ x. x))
grows r q s d (opens t) e = absurd (never (sym (ap is_local_init e) ∙ t))
grows r q s d (shuts a b) e = rw e (shut_only_grows r q a b)

-- PeerInit and Killed stay: neither is opened by a RESPONSE of the guest's, or shut
stays_so : (x : ConnState) → is_local_init x ≡ false → ((a b : Bool) → shut_by x a b ≡ x) → (s d : ConnState) → Follows s d → s ≡ x → d ≡ x
stays_so x l h s d stays e = e
stays_so x l h s d (opens t) e = absurd (never (sym (ap is_local_init e ∙ l) ∙ t))
stays_so x l h s d (shuts a b) e = ap (λ (y : ConnState). shut_by y a b) e ∙ h a b

-- one record follows another: with the RESPONSE as it was, or killed, and then with none pending
data Next (c d : VsockConnection) : Type 0 where
  lives : d.pending_rx.response ≡ c.pending_rx.response → Follows c.state d.state → Next c d
  dies : d.pending_rx.response ≡ false → d.state ≡ Killed → Next c d

same : (c : VsockConnection) → Next c c
same c = lives refl stays

choose : (c x y : VsockConnection) (b : Bool) → (b ≡ true → Next c x) → Next c y → Next c (when b x y)
choose c x y b p q = when_holds (Next c) b x y p (λ t. q)

-- ---- packets

killed_moved : (c : VsockConnection) (ring : TxBuf) (n : ℕ) → Next c (killed_of (moved_of c ring n))
unfolding moved_of killed_of with_state
killed_moved c ring n = dies refl refl

updated_moved : (c : VsockConnection) (ring : TxBuf) (n : ℕ) → Next c (updated_of (moved_of c ring n))
unfolding moved_of updated_of with_state
updated_moved c ring n = lives refl stays

by_data : (c : VsockConnection) (p : SendPlan) (breaks : Bool) (ring : TxBuf) → Next c (on_data c p breaks ring)
unfolding on_data
by_data c p breaks ring = choose c _ _ p.goes (λ t. choose c _ _ breaks (λ k. killed_moved c ring p.written) (updated_moved c ring p.written)) (same c)

by_response : (c : VsockConnection) → Next c (on_response c)
unfolding on_response with_state
by_response c = choose c _ _ (is_local_init c.state) (λ t. lives refl (opens t)) (same c)

by_shutdown : (c : VsockConnection) (empty : Bool) (flags clock : ℕ) → Next c (on_shutdown c empty flags clock)
unfolding on_shutdown with_state
by_shutdown c empty flags clock = lives refl (shuts (recv_off flags) (send_off flags))

by_request : (c : VsockConnection) → Next c (on_credit_request c)
unfolding on_credit_request with_state
by_request c = lives refl stays

by_rule : (c : VsockConnection) (empty : Bool) (pkt : VsockPacketHdr) (p : SendPlan) (breaks : Bool) (ring : TxBuf) (clock : ℕ) → Next c (rule_of c empty pkt p breaks ring clock)
unfolding rule_of
by_rule c empty pkt p breaks ring clock =
    choose c _ _ (eqb pkt.op op_response) (λ t. by_response c)
    (choose c _ _ (eqb pkt.op op_shutdown) (λ t. by_shutdown c empty pkt.flags clock)
    (choose c _ _ (eqb pkt.op op_rw) (λ t. by_data c p breaks ring) (choose c _ _ (eqb pkt.op op_credit_request) (λ t. by_request c) (same c))))

heard : (c d : VsockConnection) (pkt : VsockPacketHdr) → Next (heard_of c pkt) d → Next c d
unfolding heard_of
heard c d pkt (lives p f) = lives p f
heard c d pkt (dies p e) = dies p e

by_packet : (i : SendIn) → Next i.conn (send_of i).conn
unfolding send_of send_done send_kept when_done
by_packet i =
    when_holds (λ (o : SendLeft). Next i.conn o.conn) (is_done (send_answer i)) (send_done i) (send_kept i)
    (λ t. heard i.conn _ (pkt_of i) (by_rule (heard_of i.conn (pkt_of i)) (quiet i.conn.tx_buf) (pkt_of i) (send_plan i) (send_kills i) (send_carried i).ring i.clock))
    (λ t. same i.conn)

-- ---- events and kills

seen : (c d : VsockConnection) (readable : Bool) → Next (seen_of c readable) d → Next c d
unfolding seen_of with_state
seen c d readable (lives p f) = lives p f
seen c d readable (dies p e) = dies p e

settled_moved : (c : VsockConnection) (ring : TxBuf) (n : ℕ) (empty : Bool) → Next c (settled_of (moved_of c ring n) empty)
unfolding settled_of moved_of updated_of with_state
settled_moved c ring n empty = choose c _ _ (both_off c.state && empty) (λ t. lives refl stays) (lives refl stays)

by_drain : (c : VsockConnection) (ring : TxBuf) (n : ℕ) (empty fails : Bool) → Next c (drained_of c ring n empty fails)
unfolding drained_of
by_drain c ring n empty fails = choose c _ _ fails (λ t. killed_moved c ring n) (settled_moved c ring n empty)

by_event : (i : NotifyIn) → Next i.conn (notify_of i).conn
unfolding notify_of notify_done notify_kept when_done
by_event i =
    when_holds (λ (o : NotifyLeft). Next i.conn o.conn) (is_done (notify_answer i)) (notify_done i) (notify_kept i)
    (λ t.
    choose i.conn _ _ (due i) (λ u. seen i.conn _ i.readable (by_drain (seen_of i.conn i.readable) (flushed i).ring (flushed i).count (quiet (flushed i).ring) (failed i.answers.first)))
    (seen i.conn _ i.readable (same _)))
    (λ t. same i.conn)

by_kill : (c : VsockConnection) → Next c (kill_of c).conn
unfolding kill_of killed_of with_state when_done
by_kill c = choose c _ _ (is_done (look_answer c)) (λ t. dies refl refl) (same c)

-- ---- what a run keeps

-- a RESPONSE is pending only in PeerInit
abbrev Fit : VsockConnection → Type 0
Fit c = c.pending_rx.response ≡ true → c.state ≡ PeerInit

-- of a record that fits, what a call leaves: it fits, flags have only grown, and one that was killed is
record Turned (c d : VsockConnection) : Type 0 where
  fits : Fit c → Fit d
  grow : Fit c → (r q : Bool) → c.state ≡ PeerClosed r q → Grown r q d.state
  dead : Fit c → c.state ≡ Killed → d.state ≡ Killed

turned : (c d : VsockConnection) → Next c d → Turned c d
turned c d (lives p n) = record {
  fits = λ f e. stays_so PeerInit refl (λ a b. refl) c.state d.state n (f (sym p ∙ e));
  grow = λ f r q e. grows r q c.state d.state n e;
  dead = λ f e. stays_so Killed refl (λ a b. refl) c.state d.state n e;
}
turned c d (dies p e) = record { fits = λ f u. absurd (never (sym p ∙ u)); grow = λ f r q s. subst (Grown r q) (sym e) dead; dead = λ f s. e }

abbrev is_peer_init : ConnState → Bool
is_peer_init LocalInit = false
is_peer_init PeerInit = true
is_peer_init Established = false
is_peer_init LocalClosed = false
is_peer_init (PeerClosed a b) = false
is_peer_init Killed = false

-- where a turn does not open
unopened : (x : After) (s d : ConnState) (r q : Bool) → NotOpening (gives s) x → d ≡ afterwards x s → s ≡ PeerClosed r q → Grown r q d
unopened Same s d r q same_state e f = grows r q s d (subst (Follows s) (sym e) stays) f
unopened Opened s d r q h e f = elim h [ ]
unopened Closes s d r q (closes_state g) e f = subst (Grown r q) (sym e) closed

unclosed : (x : After) (s d : ConnState) → NotOpening (gives s) x → d ≡ afterwards x s → s ≡ Killed → d ≡ Killed
unclosed Same s d same_state e f = e ∙ f
unclosed Opened s d h e f = elim h [ ]
unclosed Closes s d (closes_state g) e f = absurd (never (sym (ap gives f) ∙ g))

by_turn : (c d : VsockConnection) (x : After) (rst : Bool) → d.state ≡ afterwards x c.state → d.pending_rx.response ≡ c.pending_rx.response && rst
    → (rst ≡ true → x ≡ Same) → (rst ≡ false → c.pending_rx.response ≡ false → NotOpening (gives c.state) x) → Turned c d
by_turn c d x rst s p first other = record {
  fits = λ f e.
      let b = both c.pending_rx.response rst (sym p ∙ e) in
      let z : d.state ≡ c.state = s ∙ ap (λ (y : After). afterwards y c.state) (first b.1) in
      rw z (f b.0);
  grow = λ f r q e. unopened x c.state d.state r q (shut f (λ z. never (ap is_peer_init (sym e ∙ z)))) s e;
  dead = λ f e. unclosed x c.state d.state (shut f (λ z. never (ap is_peer_init (sym e ∙ z)))) s e;
}
  where
    -- past PeerInit no turn opens
    shut : Fit c → (c.state ≡ PeerInit → ⊥) → NotOpening (gives c.state) x
    shut f past =
        ⊎_elim
        (λ (t : rst ≡ true). rw (first t) same_state)
        (λ (t : rst ≡ false).
        ⊎_elim
        (λ (u : c.pending_rx.response ≡ true). absurd (past (f u)))
        (λ (u : c.pending_rx.response ≡ false). other t u)
        (true_or_false c.pending_rx.response))
        (true_or_false rst)

spoke : (i : RecvIn) → Turned i.conn (recv_done i).conn
unfolding recv_done received_of spoken_of
spoke i =
    let c = i.conn in
    by_turn c (recv_done i).conn (said_by i).after c.pending_rx.rst refl refl
    (reset_stays c.pending_rx c.state (eqb (credit_of c) 0) i.present i.answer)
    (response_alone_opens c.pending_rx c.state (eqb (credit_of c) 0) i.present i.answer)

by_receive : (i : RecvIn) → Turned i.conn (recv_of i).conn
unfolding recv_of recv_kept when_done
by_receive i =
    when_holds (λ (o : RecvLeft). Turned i.conn o.conn) (is_done (refusal_of i)) (recv_done i) (recv_kept i) (λ t. spoke i) (λ t. turned _ _ (same i.conn))

-- ---- every run

by_call : (c : VsockConnection) (store : List ℕ) (e : Event) → Made c store e → Turned c (after e)
by_call c store (sends i o) m = rw (← m.0, m.2) (turned _ _ (by_packet i))
by_call c store (receives i o) m = rw (← m.0, m.1) (by_receive i)
by_call c store (notifies i o) m = rw (← m.0, m.2) (turned _ _ (by_event i))
by_call c store (kills d o) m = rw (← m.0, m.1) (turned _ _ (by_kill d))
by_call c store (looks l) m = rw m.0 (turned _ _ (same c))

fits : Keeps connections Fit
fits c store e f m = (by_call c store e m).fits f

fresh_fits : (o : Opening) (state : ConnState) (p : PendingRxSet) → (p.response ≡ true → state ≡ PeerInit) → Fit (fresh_of o state p)
unfolding fresh_of
fresh_fits o state p f = f

fit_either : (b : Bool) (x y : VsockConnection) → Fit x → Fit y → Fit (when b x y)
fit_either b x y p q = when_holds Fit b x y (λ t. p) (λ t. q)

opening_fits : (guest : Bool) (o : Opening) (left : ConnLeft) → Opens guest o left → Fit left.conn
unfolding peer_init_of local_init_of zero_conn when_done
opening_fits true o left e =
    rw e (fit_either (is_done (open_answer o.size o.settings)) _ _ (fresh_fits o PeerInit _ (λ x. refl)) (fresh_fits _ LocalInit _ (λ x. absurd (never x))))
opening_fits false o left e =
    rw e (fit_either (is_done (open_answer o.size o.settings)) _ _ (fresh_fits _ LocalInit _ (λ x. absurd (never x))) (fresh_fits _ LocalInit _ (λ x. absurd (never x))))

fit_after : {s : Start} {t : List Event} {c : VsockConnection} {store : List ℕ} → Run s t c store → Fit c
fit_after {s} r = any.every_run_keeps connections Fit fits _ _ _ _ _ (opening_fits s.guest s.given s.left r.opened) r.steps

pub flags_only_grow : FlagsOnlyGrow
flags_only_grow s t c store r e m = (by_call c store e m).grow (fit_after r)

-- killed, and no RESPONSE is pending: every call keeps it so
abbrev Gone : VsockConnection → Type 0
Gone c = Fit c × (c.state ≡ Killed)

gone : Keeps connections Gone
gone c store e p m = (fits c store e p.0 m, (by_call c store e m).dead p.0 p.1)

pub killed_stays : KilledStays
killed_stays s t c store r k u d y l = (any.every_run_keeps connections Gone gone _ _ _ _ _ (fit_after r, k) l).1
