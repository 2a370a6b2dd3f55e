-- What a packet, an event, an opening and a raw send leave, whole, said a second time: each field of the record and every lent byte, in 01's words, apart
-- from the rules that the code follows. Assumes nothing.
use Rattle.std.specs.Prelude.{ℕ, ◌+◌, ◌-◌, ◌/◌, ◌%◌, ◌≡◌, Bool, true, false, not, ◌&&◌, ◌||◌, List, [], ◌++◌, leb, eqb, take, drop, None, Some}
use Rattle.defs.specs.Choice.{when}
use Rattle.defs.specs.Promises.{Refuses}
use Rattle.defs.specs.Stream.{counted, failed}
use Rattle.defs.specs.Wrapping.{wadd}
use Rattle.packet.specs.Header.{decoded}
use Rattle.packet.specs.Uapi.{op_response, op_shutdown, op_credit_request}
use Rattle.txbuf.specs.Record.{used_of, held}
use Rattle.txbuf.specs.Push.{written}
use Rattle.txbuf.specs.Means.{counted_now}
use Rattle.txbuf.specs.declared.record.TxBuf.{TxBuf}
use Rattle.csm.specs.Means.{shut_both, answers_request}
use Rattle.csm.specs.Pending.{none}
use Rattle.csm.specs.declared.state.ConnState.{ConnState}
use Rattle.csm.specs.declared.state.ConnState.TheVariants.{LocalInit, PeerInit, Established, LocalClosed, PeerClosed, Killed}
use Rattle.csm.specs.Timer.{Timer}
use Rattle.rules.specs.Open.{Opening, ConnLeft, PeerInitSays, LocalInitSays}
use Rattle.rules.specs.Raw.{RawIn, RawLeft, RawSays}
use Rattle.rules.specs.Send.{SendIn, SendLeft, SendSays}
use Rattle.rules.specs.Notify.{NotifyIn, NotifyLeft, NotifySays}
use Rattle.rules.specs.Moves.{Numbers}
use Rattle.rules.specs.Outcomes.{meets_data, taken_now, kills_now, accepted_now, falls_short}
use Rattle.rules.specs.declared.record.VsockConnection.{VsockConnection}

-- settings and addresses never move
pub record SameSelf (c d : VsockConnection) : Type 0 where
  pub settings : d.settings ≡ c.settings
  pub cids : (d.local_cid ≡ c.local_cid) × (d.peer_cid ≡ c.peer_cid)
  pub ports : (d.local_port ≡ c.local_port) × (d.peer_port ≡ c.peer_port)

-- a ring with so many bytes more, and one with so many taken
abbrev pub pushed_on : TxBuf → ℕ → TxBuf
pushed_on b n = record { size = b.size; head = wadd b.head n; tail = b.tail }

abbrev pub taken_off : TxBuf → ℕ → TxBuf
taken_off b n = record { size = b.size; head = b.head; tail = wadd b.tail n }

-- ---- a packet

-- SHUTDOWN's flags: 1 receive, 2 send
abbrev pub shuts_receive : SendIn → Bool
shuts_receive i = eqb ((decoded i.hdr).flags % 2) 1

abbrev pub shuts_send : SendIn → Bool
shuts_send i = eqb ((decoded i.hdr).flags / 2 % 2) 1

-- SHUTDOWN: from Established PeerClosed with the flags, in PeerClosed they are ORed; any other state stays
abbrev pub closed_by : ConnState → Bool → Bool → ConnState
closed_by LocalInit r s = LocalInit
closed_by PeerInit r s = PeerInit
closed_by Established r s = PeerClosed r s
closed_by LocalClosed r s = LocalClosed
closed_by (PeerClosed a b) r s = PeerClosed (a || r) (b || s)
closed_by Killed r s = Killed

-- of this packet
abbrev pub closed_now : SendIn → ConnState
closed_now i = closed_by i.conn.state (shuts_receive i) (shuts_send i)

-- RESPONSE: from LocalInit Established; any other state stays
abbrev pub confirmed : ConnState → ConnState
confirmed LocalInit = Established
confirmed PeerInit = PeerInit
confirmed Established = Established
confirmed LocalClosed = LocalClosed
confirmed (PeerClosed a b) = PeerClosed a b
confirmed Killed = Killed

-- decisions go by the op number
abbrev op_of : SendIn → ℕ
op_of i = (decoded i.hdr).op

-- data was brought that kills, or that doesn't
abbrev pub data_kills : SendIn → Bool
data_kills i = meets_data i && kills_now i

abbrev pub data_stays : SendIn → Bool
data_stays i = meets_data i && not (kills_now i)

-- the state after a packet: killed by its data, or by its op's rule; any other op leaves it
abbrev pub state_now : SendIn → ConnState
state_now i =
    when (data_kills i) Killed
    (when (eqb (op_of i) op_response) (confirmed i.conn.state) (when (eqb (op_of i) op_shutdown) (closed_now i) i.conn.state))

-- 2026-07: what would be pending, unless the call kills
abbrev pub unless_killed : Bool → Bool → Bool
unless_killed kills would = not kills && would

-- the bytes of the packet
abbrev payload_now : SendIn → List ℕ
payload_now i = take (decoded i.hdr).len i.buf

-- what a packet that is done leaves (the guest's numbers: `EverySendHears`; timer and last-told: specs/Common)
pub record SendLeaves (i : SendIn) (o : SendLeft) : Type 0 where
  pub self : SameSelf i.conn o.conn
  pub state : o.conn.state ≡ state_now i
  -- indications: a reset where data kills, and then no other; a reset where a SHUTDOWN leaves both flags set and nothing is held; an update by the
  -- threshold rule after data that doesn't kill, or by a CREDIT_REQUEST in a state that answers it; no other moves
  pub request : o.conn.pending_rx.request ≡ unless_killed (data_kills i) i.conn.pending_rx.request
  pub response : o.conn.pending_rx.response ≡ unless_killed (data_kills i) i.conn.pending_rx.response
  pub rw : o.conn.pending_rx.rw ≡ unless_killed (data_kills i) i.conn.pending_rx.rw
  pub rst : o.conn.pending_rx.rst
      ≡ i.conn.pending_rx.rst || (data_kills i || (eqb (op_of i) op_shutdown && (shut_both (closed_now i) && eqb (used_of i.conn.tx_buf) 0)))
  pub update : o.conn.pending_rx.credit_update
      ≡ unless_killed (data_kills i)
      (i.conn.pending_rx.credit_update || ((data_stays i && falls_short o.conn) || (eqb (op_of i) op_credit_request && answers_request i.conn.state)))
  -- of data that doesn't kill, what the stream did not take stands from the head on, each byte at its place modulo R; all else of ring and storage stays
  pub ring : o.conn.tx_buf ≡ when (data_stays i) (pushed_on i.conn.tx_buf ((decoded i.hdr).len - taken_now i)) i.conn.tx_buf
  pub store : o.store ≡ when (data_stays i) (written i.store i.conn.tx_buf.size i.conn.tx_buf.head (drop (taken_now i) (payload_now i))) i.store
  -- what the stream took is forwarded, also where the packet kills; nothing was sent to the guest
  pub count : o.conn.fwd_cnt ≡ when (meets_data i) (wadd i.conn.fwd_cnt (taken_now i)) i.conn.fwd_cnt
  pub sent : o.conn.rx_cnt ≡ i.conn.rx_cnt
  -- it stands at the front of the outgoing buffer, the rest of which stays
  pub out : o.out ≡ when (meets_data i) (take (taken_now i) (payload_now i) ++ drop (taken_now i) i.out) i.out

abbrev pub EverySendLeaves : Type 0
EverySendLeaves = (i : SendIn) (o : SendLeft) → SendSays i o → o.answer.number ≡ 0 → SendLeaves i o

-- ---- an event

-- an out-event, and something is held
abbrev pub flushes_now : NotifyIn → Bool
flushes_now i = i.writable && leb 1 (used_of i.conn.tx_buf)

-- the first write failed
abbrev pub flush_fails : NotifyIn → Bool
flush_fails i = flushes_now i && failed i.answers.first

-- both ways are shut, and the flush left nothing
abbrev pub flush_ends : NotifyIn → VsockConnection → Bool
flush_ends i d = flushes_now i && (shut_both d.state && eqb (used_of d.tx_buf) 0)

-- what an event that is done leaves
pub record NotifyLeaves (i : NotifyIn) (o : NotifyLeft) : Type 0 where
  pub self : SameSelf i.conn o.conn
  pub peer : (o.conn.peer_buf_alloc ≡ i.conn.peer_buf_alloc) × (o.conn.peer_fwd_cnt ≡ i.conn.peer_fwd_cnt)
  pub state : o.conn.state ≡ when (flush_fails i) Killed i.conn.state
  -- indications: a reset where the first write failed, and then no other; Rw by an in-event; a reset where the flush ends a connection that was shut both
  -- ways; an update where a flush doesn't end it and the record falls short
  pub request : o.conn.pending_rx.request ≡ unless_killed (flush_fails i) i.conn.pending_rx.request
  pub response : o.conn.pending_rx.response ≡ unless_killed (flush_fails i) i.conn.pending_rx.response
  pub rw : o.conn.pending_rx.rw ≡ unless_killed (flush_fails i) (i.conn.pending_rx.rw || i.readable)
  pub rst : o.conn.pending_rx.rst ≡ i.conn.pending_rx.rst || (flush_fails i || flush_ends i o.conn)
  pub update : o.conn.pending_rx.credit_update
      ≡ unless_killed (flush_fails i) (i.conn.pending_rx.credit_update || (flushes_now i && (not (flush_ends i o.conn) && falls_short o.conn)))
  -- the bytes that the reached answers count leave from the tail, and are forwarded; nothing was sent to the guest
  pub ring : o.conn.tx_buf ≡ when (flushes_now i) (taken_off i.conn.tx_buf (counted_now i.conn.tx_buf i.answers)) i.conn.tx_buf
  pub count : o.conn.fwd_cnt ≡ when (flushes_now i) (wadd i.conn.fwd_cnt (counted_now i.conn.tx_buf i.answers)) i.conn.fwd_cnt
  pub sent : o.conn.rx_cnt ≡ i.conn.rx_cnt
  -- they stand at the front of the outgoing buffer, oldest first, and the rest of it stays
  pub out : o.out
      ≡ when (flushes_now i)
      (take (counted_now i.conn.tx_buf i.answers) (held i.conn.tx_buf i.store) ++ drop (counted_now i.conn.tx_buf i.answers) i.out)
      i.out

abbrev pub EveryNotifyLeaves : Type 0
EveryNotifyLeaves = (i : NotifyIn) (o : NotifyLeft) → Numbers i.conn → NotifySays i o → o.answer.number ≡ 0 → NotifyLeaves i o

-- ---- an opening

-- an empty ring of the given size with head and tail 0, every count 0, no timer, and one indication pending, RESPONSE or REQUEST
pub record Opened (o : Opening) (c : VsockConnection) : Type 0 where
  pub settings : c.settings ≡ o.settings
  pub cids : (c.local_cid ≡ o.local_cid) × (c.peer_cid ≡ o.peer_cid)
  pub ports : (c.local_port ≡ o.local_port) × (c.peer_port ≡ o.peer_port)
  pub ring : (c.tx_buf.size ≡ o.size) × (c.tx_buf.head ≡ 0) × (c.tx_buf.tail ≡ 0)
  pub counts : (c.fwd_cnt ≡ 0) × (c.rx_cnt ≡ 0) × (c.peer_fwd_cnt ≡ 0) × (c.last_fwd_cnt_to_peer ≡ 0)
  pub expiry : c.expiry ≡ None
  pub quiet : (c.pending_rx.rst ≡ false) × (c.pending_rx.rw ≡ false) × (c.pending_rx.credit_update ≡ false)

-- by the guest: PeerInit, Response pending, the given space. By the host: LocalInit, Request pending, space 0
pub record OpeningMeans : Type 0 where
  pub peer : (o : Opening) (left : ConnLeft) → PeerInitSays o left → left.answer.number ≡ 0
      → Opened o left.conn × (left.conn.state ≡ PeerInit) × (left.conn.peer_buf_alloc ≡ o.alloc)
      × (left.conn.pending_rx.response ≡ true) × (left.conn.pending_rx.request ≡ false)
  pub local : (o : Opening) (left : ConnLeft) → LocalInitSays o left → left.answer.number ≡ 0
      → Opened o left.conn × (left.conn.state ≡ LocalInit) × (left.conn.peer_buf_alloc ≡ 0)
      × (left.conn.pending_rx.response ≡ false) × (left.conn.pending_rx.request ≡ true)

-- 01: a refused opening gives the all-zero record (LocalInit, no timer)
pub record AllZero (c : VsockConnection) : Type 0 where
  pub settings : (c.settings.threshold ≡ 0) × (c.settings.request_timeout ≡ 0) × (c.settings.shutdown_timeout ≡ 0)
  pub addresses : (c.local_cid ≡ 0) × (c.peer_cid ≡ 0) × (c.local_port ≡ 0) × (c.peer_port ≡ 0)
  pub ring : (c.tx_buf.size ≡ 0) × (c.tx_buf.head ≡ 0) × (c.tx_buf.tail ≡ 0)
  pub counts : (c.fwd_cnt ≡ 0) × (c.rx_cnt ≡ 0) × (c.peer_buf_alloc ≡ 0) × (c.peer_fwd_cnt ≡ 0) × (c.last_fwd_cnt_to_peer ≡ 0)
  pub phase : (c.state ≡ LocalInit) × (c.expiry ≡ None) × (c.pending_rx ≡ none)

pub record RefusedIsZero : Type 0 where
  pub peer : (o : Opening) (left : ConnLeft) → PeerInitSays o left → Refuses left.answer → AllZero left.conn
  pub local : (o : Opening) (left : ConnLeft) → LocalInitSays o left → Refuses left.answer → AllZero left.conn

-- ---- the raw send

-- what its one write counts stands at the front of the outgoing buffer, the rest of which stays; blocked or failed, it changes nothing
pub record RawLeaves (i : RawIn) (o : RawLeft) : Type 0 where
  pub count : o.answer.number ≡ 0 → o.count ≡ counted i.answers.first
  pub out : o.answer.number ≡ 0 → o.out ≡ take (counted i.answers.first) i.buf ++ drop (counted i.answers.first) i.out
  pub stopped : o.answer.number ≡ 10 → (o.count ≡ 0) × (o.out ≡ i.out) × (o.answer.failed ≡ failed i.answers.first)

abbrev pub EveryRawLeaves : Type 0
EveryRawLeaves = (i : RawIn) (o : RawLeft) → RawSays i o → RawLeaves i o

-- ---- what a call took and accepted: nothing unless it is done

-- of data that the state takes, what the write counts
abbrev pub send_took : SendIn → SendLeft → ℕ
send_took i o = when (eqb o.answer.number 0) (when (meets_data i) (taken_now i) 0) 0

-- of a flush, what the reached answers count
abbrev pub notify_took : NotifyIn → NotifyLeft → ℕ
notify_took i o = when (eqb o.answer.number 0) (when (flushes_now i) (counted_now i.conn.tx_buf i.answers) 0) 0

-- 01's accepted payload
abbrev pub send_accepted : SendIn → SendLeft → List ℕ
send_accepted i o = when (eqb o.answer.number 0) (accepted_now i) []

-- ---- the timer after a packet

-- RESPONSE in LocalInit clears the timer
abbrev pub cleared : ConnState → Timer → Timer
cleared LocalInit t = None
cleared PeerInit t = t
cleared Established t = t
cleared LocalClosed t = t
cleared (PeerClosed a b) t = t
cleared Killed t = t

-- 2026-08: a SHUTDOWN by which both flags become set that were not both set before, while bytes are held
abbrev pub lingers_now : SendIn → Bool
lingers_now i = (shut_both (closed_now i) && not (shut_both i.conn.state)) && leb 1 (used_of i.conn.tx_buf)

-- a timer that runs stays; where none runs it is set to this time
abbrev pub unless_running : Timer → ℕ → Timer
unless_running None time = Some time
unless_running (Some running) time = Some running

-- RESPONSE in LocalInit clears the timer; such a SHUTDOWN sets one that doesn't run to now plus the shutdown timeout; all else leaves it
abbrev pub timer_now : SendIn → Timer
timer_now i =
    when (eqb (op_of i) op_response) (cleared i.conn.state i.conn.expiry)
    (when (eqb (op_of i) op_shutdown && lingers_now i) (unless_running i.conn.expiry (i.clock + i.conn.settings.shutdown_timeout)) i.conn.expiry)
