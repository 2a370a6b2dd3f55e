-- Runs at work: each theorem about runs, on calls that deliver, refuse, block, kill and shut down, so that no premise of it is empty. Assumes nothing.
use Rattle.std.specs.Prelude.{ℕ, ◌≡◌, Bool, true, false, List, [], ◌∷◌, ◌++◌, map, take, drop, replicate, None, Some}
use Rattle.defs.specs.declared.stream.StreamAnswer.{StreamAnswer}
use Rattle.defs.specs.declared.stream.StreamAnswer.TheVariants.{Count, WouldBlock, Failed}
use Rattle.packet.specs.Uapi.{op_response, op_rst, op_shutdown, op_rw}
use Rattle.packet.specs.Header.{decoded}
use Rattle.packet.specs.Edges.{bytes_a}
use Rattle.runs.specs.Runs.{gathered}
use Rattle.txbuf.specs.Record.{used_of}
use Rattle.csm.specs.State.{Grown}
use Rattle.csm.specs.Pending.{reset_only}
use Rattle.csm.specs.declared.state.ConnState.{ConnState}
use Rattle.csm.specs.declared.state.ConnState.TheVariants.{LocalInit, PeerInit, Established, LocalClosed, PeerClosed, Killed}
use Rattle.rules.specs.Edges.{packet}
use Rattle.rules.specs.Record.{with_state}
use Rattle.rules.specs.Open.{Opening, peer_init_of, local_init_of}
use Rattle.rules.specs.Look.{kill_of}
use Rattle.rules.specs.Receive.{RecvIn, recv_of}
use Rattle.rules.specs.Send.{SendIn, send_of}
use Rattle.rules.specs.Notify.{NotifyIn, notify_of}
use Rattle.rules.specs.Runs.{Event, sends, receives, notifies, kills, before, after, store_after, Start, Run, took_by, accepted_by, delivered_by, Forwards, Alike, Steps, outs, Pushless}
use Rattle.rules.specs.declared.record.VsockConnection.{VsockConnection}

-- ---- what the stories are told with

-- a guest's opening with a ring of so many bytes
abbrev begins : ℕ → Start
begins size =
    let given : Opening = record {
      size = size;
      settings = record { threshold = 4; request_timeout = 2000; shutdown_timeout = 2000 };
      local_cid = 2;
      peer_cid = 3;
      local_port = 1024;
      peer_port = 5000;
      alloc = 100;
    } in
    record { guest = true; given = given; left = peer_init_of given; store = replicate size 0 }

-- a turn to speak, and one whose read answers so
abbrev turned : VsockConnection → Bool → StreamAnswer → Event
turned c present answer =
    let i : RecvIn = record { conn = c; hdr = replicate 44 9; present = present; buf = []; clock = 0; answer = answer; read = [] } in
    receives i (recv_of i)

abbrev pub turn : VsockConnection → Event
turn c = turned c false WouldBlock

-- a packet with this header and this data, to a stream that answers so
abbrev comes : VsockConnection → List ℕ → List ℕ → List ℕ → StreamAnswer → Event
comes c store hdr bytes answer =
    let i : SendIn = record {
      conn = c;
      store = store;
      hdr = hdr;
      present = true;
      buf = bytes;
      clock = 0;
      answers = record { first = answer; second = WouldBlock };
      out = replicate 16 99;
    } in
    sends i (send_of i)

-- an event, of a stream that answers so, and so to a second piece
abbrev happens : VsockConnection → Bool → Bool → List ℕ → StreamAnswer → StreamAnswer → Event
happens c readable writable store answer second =
    let i : NotifyIn = record { conn = c; readable = readable; writable = writable; store = store; answers = record { first = answer; second = second }; out = replicate 16 99 } in
    notifies i (notify_of i)

abbrev out2 : VsockConnection → List ℕ → StreamAnswer → StreamAnswer → Event
out2 c store answer second = happens c false true store answer second

abbrev out : VsockConnection → List ℕ → StreamAnswer → Event
out c store answer = out2 c store answer WouldBlock

abbrev pub ten : List ℕ
ten = 10 ∷ 11 ∷ 12 ∷ 13 ∷ 14 ∷ 15 ∷ 16 ∷ 17 ∷ 18 ∷ 19 ∷ []

-- ---- a guest that is confirmed, sends ten bytes, is refused once, meets a stream that blocks, and shuts down in two halves

abbrev pub start_a : Start
start_a = begins 16

abbrev pub a1 : Event
a1 = turn start_a.left.conn

abbrev pub a2 : Event
a2 = comes (after a1) start_a.store (packet op_rw 0 10) ten (Count 4)

abbrev pub store_a : List ℕ
store_a = store_after start_a.store a2

-- a header of 43 bytes: refused
abbrev pub a3 : Event
a3 = comes (after a2) store_a (replicate 43 9) ten (Count 4)

abbrev pub a4 : Event
a4 = out (after a3) (store_after store_a a3) WouldBlock

abbrev pub a5 : Event
a5 = comes (after a4) (store_after store_a a3) (packet op_shutdown 1 0) [] (Count 9)

abbrev pub a6 : Event
a6 = comes (after a5) (store_after (store_after store_a a3) a5) (packet op_shutdown 2 0) [] (Count 9)

abbrev pub end_store_a : List ℕ
end_store_a = store_after (store_after (store_after store_a a3) a5) a6

abbrev pub a7 : Event
a7 = out (after a6) end_store_a (Count 6)

abbrev pub story_a : List Event
story_a = a7 ∷ a6 ∷ a5 ∷ a4 ∷ a3 ∷ a2 ∷ a1 ∷ []

abbrev pub up_to_a5 : List Event
up_to_a5 = a5 ∷ a4 ∷ a3 ∷ a2 ∷ a1 ∷ []

-- ---- the same ten bytes in another cut, through a ring of 32: three that the stream takes, seven that it takes later

abbrev pub start_b : Start
start_b = begins 32

abbrev pub b1 : Event
b1 = turn start_b.left.conn

abbrev pub b2 : Event
b2 = comes (after b1) start_b.store (packet op_rw 0 3) (take 3 ten) (Count 3)

abbrev pub b3 : Event
b3 = comes (after b2) (store_after start_b.store b2) (packet op_rw 0 7) (drop 3 ten) WouldBlock

abbrev pub end_store_b : List ℕ
end_store_b = store_after (store_after start_b.store b2) b3

abbrev pub b4 : Event
b4 = out (after b3) end_store_b (Count 7)

abbrev pub story_b : List Event
story_b = b4 ∷ b3 ∷ b2 ∷ b1 ∷ []

-- ---- a guest that finds the ring full: killed, and what was accepted before still goes on

abbrev pub c3 : Event
c3 = comes (after a2) store_a (packet op_rw 0 11) (99 ∷ ten) (Count 11)

abbrev pub end_store_c : List ℕ
end_store_c = store_after store_a c3

abbrev pub c4 : Event
c4 = out (after c3) end_store_c (Count 6)

abbrev pub story_c : List Event
story_c = c4 ∷ c3 ∷ a2 ∷ a1 ∷ []

-- ---- two bytes held, then two out-events that take one each, with a turn to speak between

abbrev pub d2 : Event
d2 = comes (after a1) start_a.store (packet op_rw 0 2) (take 2 ten) WouldBlock

abbrev pub store_d : List ℕ
store_d = store_after start_a.store d2

abbrev pub d3 : Event
d3 = out (after d2) store_d (Count 1)

abbrev pub d4 : Event
d4 = turn (after d3)

abbrev pub d5 : Event
d5 = out (after d4) store_d (Count 1)

abbrev pub draining : List Event
draining = d5 ∷ d4 ∷ d3 ∷ []

-- ---- ten bytes across the storage's end, opened by the host: twelve are held and taken, then ten are held as four and six, and taken in both pieces

abbrev pub start_e : Start
start_e =
    let given : Opening = (begins 16).given in
    record { guest = false; given = given; left = local_init_of given; store = replicate 16 0 }

abbrev pub e1 : Event
e1 = comes start_e.left.conn start_e.store (packet op_response 0 0) [] (Count 9)

abbrev pub e2 : Event
e2 = comes (after e1) (store_after start_e.store e1) (packet op_rw 0 12) (replicate 12 7) WouldBlock

abbrev pub store_e : List ℕ
store_e = store_after (store_after start_e.store e1) e2

abbrev pub e3 : Event
e3 = out (after e2) store_e (Count 12)

abbrev pub e4 : Event
e4 = comes (after e3) store_e (packet op_rw 0 10) ten WouldBlock

abbrev pub end_store_e : List ℕ
end_store_e = store_after store_e e4

abbrev pub e5 : Event
e5 = out2 (after e4) end_store_e (Count 4) (Count 6)

abbrev pub story_e : List Event
story_e = e5 ∷ e4 ∷ e3 ∷ e2 ∷ e1 ∷ []

-- ---- a guest that will receive no more, and still sends: three bytes more, behind the six that are held

abbrev pub store_f : List ℕ
store_f = store_after (store_after store_a a3) a5

abbrev pub f6 : Event
f6 = comes (after a5) store_f (packet op_rw 0 3) (take 3 ten) (Count 9)

abbrev pub end_store_f : List ℕ
end_store_f = store_after store_f f6

abbrev pub f7 : Event
f7 = out (after f6) end_store_f (Count 9)

abbrev pub story_f : List Event
story_f = f7 ∷ f6 ∷ up_to_a5

-- ---- a packet of which the stream takes three bytes, and whose rest the ring has no room for: killed, and the three were accepted

abbrev pub g2 : Event
g2 = comes (after a1) start_a.store (packet op_rw 0 20) (ten ++ ten) (Count 3)

abbrev pub end_store_g : List ℕ
end_store_g = store_after start_a.store g2

abbrev pub story_g : List Event
story_g = g2 ∷ a1 ∷ []

-- ---- kills (2026-07): at h3 bytes are held, and an update and Rw are pending; at h4 the stream has ended; a failed flush kills at h5, a full ring at
-- h6, a failed write, with an update pending, at i3

abbrev pub h2 : Event
h2 = comes (after a1) start_a.store (packet op_rw 0 20) (ten ++ ten) (Count 13)

abbrev pub store_h : List ℕ
store_h = store_after start_a.store h2

abbrev pub h3 : Event
h3 = happens (after h2) true false store_h WouldBlock WouldBlock

abbrev pub h4 : Event
h4 = turned (after h3) true (Count 0)

-- an in-event and an out-event at once
abbrev pub h5 : Event
h5 = happens (after h2) true true store_h Failed WouldBlock

abbrev pub h6 : Event
h6 = comes (after h3) store_h (packet op_rw 0 10) ten (Count 9)

abbrev pub i2 : Event
i2 = comes (after a1) start_a.store (packet op_rw 0 13) (take 13 (ten ++ ten)) (Count 13)

abbrev pub store_i : List ℕ
store_i = store_after start_a.store i2

abbrev pub i3 : Event
i3 = comes (after i2) store_i (packet op_rw 0 10) ten Failed

-- `kill`, on any record; then two turns to speak, a RESPONSE, a SHUTDOWN both ways, data, both events at once, and a turn
abbrev pub k1 : VsockConnection → Event
k1 c = kills c (kill_of c)

abbrev pub k2 : VsockConnection → Event
k2 c = turn (after (k1 c))

abbrev pub k3 : VsockConnection → Event
k3 c = turn (after (k2 c))

abbrev pub k4 : VsockConnection → List ℕ → Event
k4 c store = comes (after (k3 c)) store (packet op_response 0 0) [] (Count 9)

abbrev pub store_k4 : VsockConnection → List ℕ → List ℕ
store_k4 c store = store_after store (k4 c store)

abbrev pub k5 : VsockConnection → List ℕ → Event
k5 c store = comes (after (k4 c store)) (store_k4 c store) (packet op_shutdown 3 0) [] (Count 9)

abbrev pub store_k5 : VsockConnection → List ℕ → List ℕ
store_k5 c store = store_after (store_k4 c store) (k5 c store)

abbrev pub k6 : VsockConnection → List ℕ → Event
k6 c store = comes (after (k5 c store)) (store_k5 c store) (packet op_rw 0 10) ten (Count 10)

abbrev pub store_k6 : VsockConnection → List ℕ → List ℕ
store_k6 c store = store_after (store_k5 c store) (k6 c store)

abbrev pub k7 : VsockConnection → List ℕ → Event
k7 c store = happens (after (k6 c store)) true true (store_k6 c store) (Count 1) WouldBlock

abbrev pub k8 : VsockConnection → List ℕ → Event
k8 c store = turn (after (k7 c store))

abbrev pub killing : VsockConnection → List ℕ → List Event
killing c store = k8 c store ∷ k7 c store ∷ k6 c store ∷ k5 c store ∷ k4 c store ∷ k3 c ∷ k2 c ∷ k1 c ∷ []

-- the ops of the headers that are handed to the guest
abbrev pub heard_ops : List Event → List ℕ
heard_ops t = map (λ (hdr : List ℕ). (decoded hdr).op) (gathered delivered_by t)

-- no run: Killed by hand, with the RESPONSE of an opening still pending
abbrev pub by_hand : VsockConnection
by_hand = with_state start_a.left.conn Killed None start_a.left.conn.pending_rx

-- ---- what the theorems say of them, and what they come to

pub record Ends (s : Start) (t : List Event) (c : VsockConnection) (store bytes : List ℕ) : Type 0 where
  pub run : Run s t c store
  pub forwards : Forwards t c store
  pub taken : gathered took_by t ≡ bytes
  pub accepted : gathered accepted_by t ≡ bytes
  pub empty : used_of c.tx_buf ≡ 0

-- a run that ends in this state is killed there: the guest hears RST, and RST again after the in-event, and nothing else; and Killed stays
pub record StaysDead (s : Start) (t : List Event) (c : VsockConnection) (store : List ℕ) (was : ConnState) : Type 0 where
  pub run : Run s t c store
  pub state : c.state ≡ was
  pub dies : (after (k1 c)).state ≡ Killed
  pub heard : heard_ops (killing c store) ≡ op_rst ∷ op_rst ∷ []
  pub dead : (after (k8 c store)).state ≡ Killed

pub record StoriesHold : Type 0 where
  pub shut_down : Ends start_a story_a (after a7) end_store_a ten
  pub other_cut : Ends start_b story_b (after b4) end_store_b ten
  pub killed : Ends start_a story_c (after c4) end_store_c ten
  pub both_pieces : Ends start_e story_e (after e5) end_store_e (replicate 12 7 ++ ten)
  pub peer_closed : Ends start_a story_f (after f7) end_store_f (ten ++ take 3 ten)
  pub taken_in_part : Ends start_a story_g (after g2) end_store_g (take 3 ten)
  pub is_killed : (after c3).state ≡ Killed
  pub is_closed : (before f6).state ≡ PeerClosed true false
  pub dies_in_part : (after g2).state ≡ Killed
  pub refused : after a3 ≡ before a3
  pub alike : Alike story_a story_b (after a7) (after b4)
  pub grown : Grown true false (after a6).state
  pub both_off : (after a6).state ≡ PeerClosed true true
  pub six_held : used_of (after a6).tx_buf ≡ 6
  pub timed : (after a6).expiry ≡ None → ⊥
  pub timer : (after a6).expiry ≡ Some 2000
  pub two_held : used_of (after d2).tx_buf ≡ 2
  pub draining_is : Steps (after d2) store_d draining (after d5) store_d
  pub two_outs : outs draining ≡ 2
  pub none_pushed : Pushless draining
  pub drained : used_of (after d5).tx_buf ≡ 0
  pub first_header : gathered delivered_by story_a ≡ bytes_a ∷ []
  pub dead_local_init : StaysDead start_e [] start_e.left.conn start_e.store LocalInit
  pub dead_peer_init : StaysDead start_a [] start_a.left.conn start_a.store PeerInit
  pub dead_established : StaysDead start_a (h3 ∷ h2 ∷ a1 ∷ []) (after h3) store_h Established
  pub dead_local_closed : StaysDead start_a (h4 ∷ h3 ∷ h2 ∷ a1 ∷ []) (after h4) store_h LocalClosed
  pub dead_peer_closed : StaysDead start_a up_to_a5 (after a5) store_f (PeerClosed true false)
  pub dead_both_closed : StaysDead start_a (a6 ∷ up_to_a5) (after a6) end_store_a (PeerClosed true true)
  pub owed : (after h3).pending_rx ≡ record { request = false; response = false; rst = false; rw = true; credit_update = true }
  pub owed_update : (after i2).pending_rx.credit_update ≡ true
  pub flush_fails : (after h5).pending_rx ≡ reset_only
  pub ring_full : (after h6).pending_rx ≡ reset_only
  pub write_fails : (after i3).pending_rx ≡ reset_only
  pub dead_flush : StaysDead start_a (h5 ∷ h2 ∷ a1 ∷ []) (after h5) store_h Killed
  pub dead_full : StaysDead start_a (h6 ∷ h3 ∷ h2 ∷ a1 ∷ []) (after h6) (store_after store_h h6) Killed
  pub dead_write : StaysDead start_a (i3 ∷ i2 ∷ a1 ∷ []) (after i3) (store_after store_i i3) Killed
  pub by_hand : (after (turn by_hand)).state ≡ Established
