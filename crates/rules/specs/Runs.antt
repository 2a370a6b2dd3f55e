-- Runs of calls on one connection, from its opening: `runs` says what a run of any machine is, and here is the machine.
-- Raw sends are left out: they keep no account. Assumes nothing.
use Rattle.std.specs.Prelude.{ℕ, ◌≤◌, ◌≡◌, Bool, true, false, not, ◌&&◌, ◌||◌, List, [], ◌∷◌, take, leb, eqb, None}
use Rattle.defs.specs.Choice.{when}
use Rattle.defs.specs.Stream.{counted}
use Rattle.defs.specs.Answer.{Told}
use Rattle.defs.specs.Look.{FlagLeft}
use Rattle.runs.specs.Runs as runs
use Rattle.runs.specs.Runs.{Machine, gathered, Each, Account}
use Rattle.txbuf.specs.Record.{used_of, held}
use Rattle.csm.specs.State.{Grown}
use Rattle.csm.specs.declared.state.ConnState.TheVariants.{PeerClosed, Killed}
use Rattle.rules.specs.Open.{Opening, ConnLeft, PeerInitSays, LocalInitSays}
use Rattle.rules.specs.Look.{PendingSays, Timed, WillExpireSays, HasExpiredSays, ExpiryLeft, ExpirySays, StateLeft, StateSays, EvSetLeft, EvSetSays, KillSays}
use Rattle.rules.specs.Receive.{RecvIn, RecvLeft, RecvSays}
use Rattle.rules.specs.Send.{SendIn, SendLeft, SendSays}
use Rattle.rules.specs.Notify.{NotifyIn, NotifyLeft, NotifySays, due}
use Rattle.rules.specs.Moves.{Numbers}
use Rattle.rules.specs.Leaves.{send_took, notify_took, send_accepted}
use Rattle.rules.specs.Offer.{SendGiven, RecvGiven, AskedLeft, SendDoorSays, SendWritesSays, SendOfferedSays, RecvDoorSays, RecvAskedSays, NotifyDoorSays, NotifyOfferedSays, NotifyNextSays, RawDoorSays, RawOfferedSays}
use Rattle.rules.specs.declared.record.VsockConnection.{VsockConnection}

-- ---- calls

-- a call that only looks, with what it was given and what it said
pub data Looking : Type 0 where
  has_pending_rx : VsockConnection → FlagLeft → Looking
  will_expire : Timed → FlagLeft → Looking
  has_expired : Timed → FlagLeft → Looking
  expiry : VsockConnection → ExpiryLeft → Looking
  state : VsockConnection → StateLeft → Looking
  get_polled_evset : VsockConnection → EvSetLeft → Looking
  send_door : SendGiven → Told → Looking
  send_writes : SendGiven → Bool → Looking
  send_offered : SendGiven → List ℕ → Looking
  recv_door : RecvGiven → Told → Looking
  recv_asked : RecvGiven → AskedLeft → Looking
  notify_door : VsockConnection → List ℕ → Told → Looking
  notify_offered : VsockConnection → Bool → List ℕ → List ℕ → Looking
  notify_offered_next : VsockConnection → Bool → List ℕ → List ℕ → Looking
  raw_door : VsockConnection → List ℕ → Told → Looking
  raw_offered : VsockConnection → List ℕ → List ℕ → Looking

-- the record that it looked at
abbrev pub looked_at : Looking → VsockConnection
looked_at (has_pending_rx c o) = c
looked_at (will_expire i o) = i.conn
looked_at (has_expired i o) = i.conn
looked_at (expiry c o) = c
looked_at (state c o) = c
looked_at (get_polled_evset c o) = c
looked_at (send_door g o) = g.conn
looked_at (send_writes g o) = g.conn
looked_at (send_offered g o) = g.conn
looked_at (recv_door g o) = g.conn
looked_at (recv_asked g o) = g.conn
looked_at (notify_door c s o) = c
looked_at (notify_offered c w s o) = c
looked_at (notify_offered_next c w s o) = c
looked_at (raw_door c b o) = c
looked_at (raw_offered c b o) = c

-- and what its contract says
abbrev pub LookSays : Looking → Type 0
LookSays (has_pending_rx c o) = PendingSays c o
LookSays (will_expire i o) = WillExpireSays i o
LookSays (has_expired i o) = HasExpiredSays i o
LookSays (expiry c o) = ExpirySays c o
LookSays (state c o) = StateSays c o
LookSays (get_polled_evset c o) = EvSetSays c o
LookSays (send_door g o) = SendDoorSays g o
LookSays (send_writes g o) = SendWritesSays g o
LookSays (send_offered g o) = SendOfferedSays g o
LookSays (recv_door g o) = RecvDoorSays g o
LookSays (recv_asked g o) = RecvAskedSays g o
LookSays (notify_door c s o) = NotifyDoorSays c s o
LookSays (notify_offered c w s o) = NotifyOfferedSays c w s o
LookSays (notify_offered_next c w s o) = NotifyNextSays c w s o
LookSays (raw_door c b o) = RawDoorSays c b o
LookSays (raw_offered c b o) = RawOfferedSays c b o

-- a call, with what it was given and what it left
pub data Event : Type 0 where
  sends : SendIn → SendLeft → Event
  receives : RecvIn → RecvLeft → Event
  notifies : NotifyIn → NotifyLeft → Event
  kills : VsockConnection → ConnLeft → Event
  looks : Looking → Event

-- the record that it was given, and the record and the storage that it left
abbrev pub before : Event → VsockConnection
before (sends i o) = i.conn
before (receives i o) = i.conn
before (notifies i o) = i.conn
before (kills c o) = c
before (looks l) = looked_at l

abbrev pub after : Event → VsockConnection
after (sends i o) = o.conn
after (receives i o) = o.conn
after (notifies i o) = o.conn
after (kills c o) = o.conn
after (looks l) = looked_at l

abbrev pub store_after : List ℕ → Event → List ℕ
store_after store (sends i o) = o.store
store_after store (receives i o) = store
store_after store (notifies i o) = store
store_after store (kills c o) = store
store_after store (looks l) = store

-- the call was made on this record and this storage, and left what its contract says
abbrev pub Made : VsockConnection → List ℕ → Event → Type 0
Made c store (sends i o) = (i.conn ≡ c) × (i.store ≡ store) × SendSays i o
Made c store (receives i o) = (i.conn ≡ c) × RecvSays i o
Made c store (notifies i o) = (i.conn ≡ c) × (i.store ≡ store) × NotifySays i o
Made c store (kills d o) = (d ≡ c) × KillSays d o
Made c store (looks l) = (looked_at l ≡ c) × LookSays l

-- ---- runs

-- THE CONNECTION AS A MACHINE: its record, the ring's storage that is lent beside it, and its calls
abbrev pub connections : Machine
connections = record { Record = VsockConnection; Lent = List ℕ; Event = Event; after = after; lent_after = store_after; Made = Made }

-- calls in turn from a record and a storage on, the newest first, and where they lead
abbrev pub Steps : VsockConnection → List ℕ → List Event → VsockConnection → List ℕ → Type 0
Steps = runs.Steps connections

-- an opening, by the guest or by the host, and the storage that goes with it, of any length
pub record Start : Type 0 where
  pub guest : Bool
  pub given : Opening
  pub left : ConnLeft
  pub store : List ℕ

abbrev pub Opens : Bool → Opening → ConnLeft → Type 0
Opens true given left = PeerInitSays given left
Opens false given left = LocalInitSays given left

-- A RUN: any calls in turn from an opening, also from a refused one
pub record Run (s : Start) (t : List Event) (c : VsockConnection) (store : List ℕ) : Type 0 where
  pub opened : Opens s.guest s.given s.left
  pub steps : Steps s.left.conn s.store t c store

-- ---- what a run comes to

-- the bytes that the stream took in a call: the front of the outgoing buffer, as many as the answers count that the call reached
abbrev pub took_by : Event → List ℕ
took_by (sends i o) = take (send_took i o) o.out
took_by (receives i o) = []
took_by (notifies i o) = take (notify_took i o) o.out
took_by (kills c o) = []
took_by (looks l) = []

-- 01's accepted payload
abbrev pub accepted_by : Event → List ℕ
accepted_by (sends i o) = send_accepted i o
accepted_by (receives i o) = []
accepted_by (notifies i o) = []
accepted_by (kills c o) = []
accepted_by (looks l) = []

-- the header that was handed to the guest, if any
abbrev pub delivered_by : Event → List (List ℕ)
delivered_by (sends i o) = []
delivered_by (receives i o) = when (eqb o.answer.number 0) (o.hdr ∷ []) []
delivered_by (notifies i o) = []
delivered_by (kills c o) = []
delivered_by (looks l) = []

-- THE ACCOUNT of a connection: bytes that the stream took, accepted payload, what the ring holds, and fwd_cnt
abbrev pub bytes : Account connections
bytes = record { Item = ℕ; took = took_by; accepted = accepted_by; held = λ c store. held c.tx_buf store; count = λ c. c.fwd_cnt }

-- ---- what holds of every run

-- taken ++ held is accepted, and fwd_cnt the number taken modulo 2^32
abbrev pub Forwards : List Event → VsockConnection → List ℕ → Type 0
Forwards = runs.Forwards connections bytes

-- DEMAND 3: bytes the stream took, then bytes the ring holds, oldest first, are the accepted payload in order; fwd_cnt is the number taken
abbrev pub EveryRunForwards : Type 0
EveryRunForwards = (s : Start) (t : List Event) (c : VsockConnection) (store : List ℕ) → Run s t c store → Forwards t c store

-- the stream was given the same bytes, and the counts are the same
abbrev pub Alike : List Event → List Event → VsockConnection → VsockConnection → Type 0
Alike = runs.Alike connections bytes

-- two runs that accept the same bytes and end with empty rings gave the stream the same bytes and show the same count
abbrev pub CutsDoNotMatter : Type 0
CutsDoNotMatter =
    (r s : Start) (t u : List Event) (c d : VsockConnection) (x y : List ℕ) → Run r t c x → Run s u d y → gathered accepted_by t ≡ gathered accepted_by u
    → used_of c.tx_buf ≡ 0 → used_of d.tx_buf ≡ 0 → Alike t u c d

-- 01: in a run from opening, the flags of PeerClosed only grow until LocalClosed or Killed
abbrev pub FlagsOnlyGrow : Type 0
FlagsOnlyGrow =
    (s : Start) (t : List Event) (c : VsockConnection) (store : List ℕ) → Run s t c store → (e : Event) → Made c store e
    → (recv_off send_off : Bool) → c.state ≡ PeerClosed recv_off send_off → Grown recv_off send_off (after e).state

-- 2026-07: from an opening on, Killed is never left, whatever calls follow. It is about runs: a record made by hand, Killed with a RESPONSE pending, which
-- no run leaves, says RESPONSE at its turn and is Established
abbrev pub KilledStays : Type 0
KilledStays =
    (s : Start) (t : List Event) (c : VsockConnection) (store : List ℕ) → Run s t c store → c.state ≡ Killed
    → (u : List Event) (d : VsockConnection) (y : List ℕ) → Steps c store u d y → d.state ≡ Killed

-- 2026-08: in a run from opening, a connection that the guest has shut both ways while bytes are held has a timer, by which the host can end it
abbrev pub ClosingIsTimed : Type 0
ClosingIsTimed =
    (s : Start) (t : List Event) (c : VsockConnection) (store : List ℕ) → Run s t c store → c.state ≡ PeerClosed true true → 1 ≤ used_of c.tx_buf
    → c.expiry ≡ None → ⊥

-- an out-event, not refused, whose first write, where one is due, takes at least one byte
abbrev pub is_out : Event → Bool
is_out (sends i o) = false
is_out (receives i o) = false
is_out (notifies i o) = i.writable && eqb o.answer.number 0 && (not (due i) || leb 1 (counted i.answers.first))
is_out (kills c o) = false
is_out (looks l) = false

-- how many of a run's calls are such
abbrev pub outs : List Event → ℕ
outs = runs.outs is_out

-- a call pushes nothing: it leaves the head
abbrev pub HeadStays : Event → Type 0
HeadStays e = (after e).tx_buf.head ≡ (before e).tx_buf.head

-- nothing is pushed: no call moves the head
abbrev pub Pushless : List Event → Type 0
Pushless = Each HeadStays

-- 01: a ring of n bytes is empty after n such out-events, if nothing is pushed between; calls that push nothing may stand between. From any record whose
-- numbers are 32 bits wide
abbrev pub Drains : Type 0
Drains =
    (u : List Event) (c d : VsockConnection) (x y : List ℕ) → Numbers c → Steps c x u d y → Pushless u → used_of c.tx_buf ≤ outs u
    → used_of d.tx_buf ≡ 0
