-- What a call does, said a second time: over what it was given and what it left, in 01's words, apart from the definitions that the code follows, so
-- that a wrong behaviour put into both is refused here. Assumes nothing.
use Rattle.std.specs.Prelude.{ℕ, ◌+◌, ◌-◌, ◌^◌, ◌≤◌, ◌<◌, ◌≡◌, Bool, true, false, not, ◌&&◌, ◌||◌, List, [], ◌++◌, ltb, leb, eqb, take, drop, None, Some}
use Rattle.defs.specs.Choice.{when}
use Rattle.defs.specs.Credit.{peer_avail_credit}
use Rattle.defs.specs.Look.{FlagLeft}
use Rattle.defs.specs.Promises.{Exactly, Refuses}
use Rattle.defs.specs.Stream.{counted, failed}
use Rattle.defs.specs.Wrapping.{wadd, wsub}
use Rattle.packet.specs.Header.{encoded, decoded}
use Rattle.packet.specs.Uapi.{op_rw}
use Rattle.packet.specs.declared.hdr.VsockPacketHdr.{VsockPacketHdr}
use Rattle.txbuf.specs.Record.{used_of}
use Rattle.csm.specs.Means.{takes_data, waits_for_data, shut_both}
use Rattle.csm.specs.Pending.{none}
use Rattle.csm.specs.Said.{Turn, Said, said_now, rw_gone}
use Rattle.csm.specs.declared.state.ConnState.TheVariants.{LocalInit, Killed}
use Rattle.rules.specs.Open.{ConnLeft}
use Rattle.rules.specs.Look.{PendingSays, Timed, WillExpireSays, HasExpiredSays, ExpiryLeft, ExpirySays, StateLeft, StateSays, EvSetLeft, EvSetSays, KillSays}
use Rattle.rules.specs.Raw.{RawIn, RawLeft, RawSays}
use Rattle.rules.specs.Receive.{RecvIn, RecvLeft, RecvSays}
use Rattle.rules.specs.Send.{SendIn, SendLeft, SendSays, accepted}
use Rattle.rules.specs.Notify.{NotifyIn, NotifyLeft, NotifySays}
use Rattle.rules.specs.declared.record.VsockConnection.{VsockConnection}

-- ---- refusals

-- DEMAND 1: answers 1 to 6 change no byte and no number, of every call that leaves a record or is lent a buffer
pub record RefusalsChangeNothing : Type 0 where
  pub send : (i : SendIn) (o : SendLeft) → SendSays i o → Refuses o.answer → (o.conn ≡ i.conn) × (o.store ≡ i.store) × (o.out ≡ i.out)
  pub recv : (i : RecvIn) (o : RecvLeft) → RecvSays i o → Refuses o.answer → (o.conn ≡ i.conn) × (o.hdr ≡ i.hdr) × (o.buf ≡ i.buf)
  pub notify : (i : NotifyIn) (o : NotifyLeft) → NotifySays i o → Refuses o.answer → (o.conn ≡ i.conn) × (o.out ≡ i.out)
  pub raw : (i : RawIn) (o : RawLeft) → RawSays i o → Refuses o.answer → (o.out ≡ i.out) × (o.count ≡ 0)
  pub kill : (c : VsockConnection) (o : ConnLeft) → KillSays c o → Refuses o.answer → o.conn ≡ c

-- ---- a packet

-- 01, `send_pkt`, "peer credit is always stored first": in any state and for any op the guest's numbers are then the header's; refused, the old ones
pub record HearsCredit (i : SendIn) (o : SendLeft) : Type 0 where
  pub alloc : o.answer.number ≡ 0 → o.conn.peer_buf_alloc ≡ (decoded i.hdr).buf_alloc
  pub fwd : o.answer.number ≡ 0 → o.conn.peer_fwd_cnt ≡ (decoded i.hdr).fwd_cnt
  pub refused : Refuses o.answer → (o.conn.peer_buf_alloc ≡ i.conn.peer_buf_alloc) × (o.conn.peer_fwd_cnt ≡ i.conn.peer_fwd_cnt)

abbrev pub EverySendHears : Type 0
EverySendHears = (i : SendIn) (o : SendLeft) → SendSays i o → HearsCredit i o

-- RW meets a state that takes it, with a buffer
abbrev pub meets_data : SendIn → Bool
meets_data i = takes_data i.conn.state && i.present && eqb (decoded i.hdr).op op_rw

-- the ring holds nothing, so the packet is written
abbrev pub writes_now : SendIn → Bool
writes_now i = eqb (used_of i.conn.tx_buf) 0

-- what the stream takes of it
abbrev pub taken_now : SendIn → ℕ
taken_now i = when (writes_now i) (counted i.answers.first) 0

-- 01: a failed write or a full ring kills
abbrev pub kills_now : SendIn → Bool
kills_now i =
    writes_now i && failed i.answers.first
    || ltb i.conn.tx_buf.size (used_of i.conn.tx_buf + ((decoded i.hdr).len - taken_now i))

-- 01's accepted payload, from its sentence alone: the first `len` bytes, or those that the stream took where the packet kills; none otherwise
abbrev pub accepted_now : SendIn → List ℕ
accepted_now i =
    let payload : List ℕ = take (decoded i.hdr).len i.buf in
    when (meets_data i) (when (kills_now i) (take (taken_now i) payload) payload) []

pub record AcceptedMeans (i : SendIn) (o : SendLeft) : Type 0 where
  pub done : o.answer.number ≡ 0 → accepted i ≡ accepted_now i
  pub refused : Refuses o.answer → accepted i ≡ []

abbrev pub EverySendAccepts : Type 0
EverySendAccepts = (i : SendIn) (o : SendLeft) → SendSays i o → AcceptedMeans i o

-- 01's threshold rule on a record: (R - (fwd_cnt - last told)), wrapping, is below T
abbrev pub falls_short : VsockConnection → Bool
falls_short c = ltb (wsub c.tx_buf.size (wsub c.fwd_cnt c.last_fwd_cnt_to_peer)) c.settings.threshold

-- 01: after data that does not kill, and after a flush that does not kill (2026-07) unless it ends a connection that was shut both ways, an update is
-- pending where one was before or where the record that is left falls short
pub record UpdateIsDue : Type 0 where
  pub send : (i : SendIn) (o : SendLeft) → SendSays i o → o.answer.number ≡ 0 → meets_data i ≡ true → kills_now i ≡ false
      → o.conn.pending_rx.credit_update ≡ i.conn.pending_rx.credit_update || falls_short o.conn
  pub notify : (i : NotifyIn) (o : NotifyLeft) → NotifySays i o → o.answer.number ≡ 0 → i.writable ≡ true → 1 ≤ used_of i.conn.tx_buf
      → failed i.answers.first ≡ false
      → o.conn.pending_rx.credit_update
      ≡ i.conn.pending_rx.credit_update || (not (shut_both o.conn.state && eqb (used_of o.conn.tx_buf) 0) && falls_short o.conn)

-- ---- a turn to speak

-- what it goes by: 01's order over it is `saidNow` of `csm`
abbrev pub turn_of : RecvIn → Turn
turn_of i = record {
  pending = i.conn.pending_rx;
  state = i.conn.state;
  no_credit = eqb (peer_avail_credit i.conn.peer_buf_alloc i.conn.rx_cnt i.conn.peer_fwd_cnt) 0;
  present = i.present;
  answer = i.answer;
  expiry = i.conn.expiry;
  wait = Some (i.clock + i.conn.settings.request_timeout);
  linger = Some (i.clock + i.conn.settings.shutdown_timeout);
}

-- own addresses, type 1, R and fwd_cnt, and what is said
abbrev pub header_now : VsockConnection → Said → VsockPacketHdr
header_now c said = record {
  src_cid = c.local_cid;
  dst_cid = c.peer_cid;
  src_port = c.local_port;
  dst_port = c.peer_port;
  len = said.len;
  type_ = 1;
  op = said.op;
  flags = said.flags;
  buf_alloc = c.tx_buf.size;
  fwd_cnt = c.fwd_cnt;
}

-- the record after it: indications, state and timer as said; sent rises by len, last-told becomes fwd_cnt where the turn tells it; nothing else moves
abbrev pub conn_now : VsockConnection → Said → VsockConnection
conn_now c said = record {
  settings = c.settings;
  state = said.state;
  local_cid = c.local_cid;
  peer_cid = c.peer_cid;
  local_port = c.local_port;
  peer_port = c.peer_port;
  tx_buf = c.tx_buf;
  fwd_cnt = c.fwd_cnt;
  peer_buf_alloc = c.peer_buf_alloc;
  peer_fwd_cnt = c.peer_fwd_cnt;
  rx_cnt = wadd c.rx_cnt said.len;
  last_fwd_cnt_to_peer = when said.tells c.fwd_cnt c.last_fwd_cnt_to_peer;
  pending_rx = said.pending;
  expiry = said.expiry;
}

-- a turn that isn't refused, answers 0, 7 and 8: the whole record, the whole header and the whole buffer by 01's order
pub record TurnLeaves (i : RecvIn) (o : RecvLeft) : Type 0 where
  pub conn : o.conn ≡ conn_now i.conn (said_now (turn_of i))
  pub hdr : o.hdr ≡ encoded (header_now i.conn (said_now (turn_of i)))
  pub buf : o.buf ≡ take (said_now (turn_of i)).len i.read ++ drop (said_now (turn_of i)).len i.buf

abbrev pub EveryTurnLeaves : Type 0
EveryTurnLeaves = (i : RecvIn) (o : RecvLeft) → RecvSays i o → (Refuses o.answer → ⊥) → TurnLeaves i o

-- addresses and count are as wide as the record's types say
pub record Addressed (c : VsockConnection) : Type 0 where
  pub cids : (c.local_cid < 2 ^ 64) × (c.peer_cid < 2 ^ 64)
  pub ports : (c.local_port < 2 ^ 32) × (c.peer_port < 2 ^ 32)
  pub count : c.fwd_cnt < 2 ^ 32

-- after answers 0, 7 and 8 the 44 bytes decode to just that; after 7 and 8 with op and len 0
pub record HeaderTells : Type 0 where
  pub said : (i : RecvIn) (o : RecvLeft) → RecvSays i o → (Refuses o.answer → ⊥) → Addressed i.conn → decoded o.hdr ≡ header_now i.conn (said_now (turn_of i))
  pub blank : (i : RecvIn) (o : RecvLeft) → RecvSays i o → 7 ≤ o.answer.number → Addressed i.conn → ((decoded o.hdr).op ≡ 0) × ((decoded o.hdr).len ≡ 0)

-- a header that says nothing: op, len and flags 0
abbrev pub initialised : VsockConnection → Said → VsockPacketHdr
initialised c said = header_now c (record { op = 0; len = 0; flags = 0; pending = said.pending; tells = said.tells; state = said.state; expiry = said.expiry })

-- 01's table, 7 and 8, "leaves": the header initialised, op 0; after 7 nothing is pending, after 8 Rw is gone and all else stays
pub record NothingSaidLeaves (i : RecvIn) (o : RecvLeft) : Type 0 where
  pub seven : o.answer.number ≡ 7 → o.conn.pending_rx ≡ none
  pub eight : o.answer.number ≡ 8 → o.conn.pending_rx ≡ rw_gone i.conn.pending_rx
  pub header : 7 ≤ o.answer.number → o.hdr ≡ encoded (initialised i.conn (said_now (turn_of i)))

abbrev pub SevenAndEightLeave : Type 0
SevenAndEightLeave = (i : RecvIn) (o : RecvLeft) → RecvSays i o → NothingSaidLeaves i o

-- ---- killing, the polled events, timers

-- 2026-07: state Killed, and of the five indications only the reset is pending
pub record Dead (d : VsockConnection) : Type 0 where
  pub state : d.state ≡ Killed
  pub rst : d.pending_rx.rst ≡ true
  pub request : d.pending_rx.request ≡ false
  pub response : d.pending_rx.response ≡ false
  pub rw : d.pending_rx.rw ≡ false
  pub update : d.pending_rx.credit_update ≡ false

-- `kill`: that, and nothing else of the record moves
pub record KillMeans (c d : VsockConnection) : Type 0 where
  pub dead : Dead d
  pub expiry : d.expiry ≡ c.expiry
  pub settings : d.settings ≡ c.settings
  pub addresses : (d.local_cid ≡ c.local_cid) × (d.peer_cid ≡ c.peer_cid) × (d.local_port ≡ c.local_port) × (d.peer_port ≡ c.peer_port)
  pub ring : d.tx_buf ≡ c.tx_buf
  pub peer : (d.peer_buf_alloc ≡ c.peer_buf_alloc) × (d.peer_fwd_cnt ≡ c.peer_fwd_cnt)
  pub counts : (d.fwd_cnt ≡ c.fwd_cnt) × (d.rx_cnt ≡ c.rx_cnt) × (d.last_fwd_cnt_to_peer ≡ c.last_fwd_cnt_to_peer)

abbrev pub EveryKillKills : Type 0
EveryKillKills = (c : VsockConnection) (o : ConnLeft) → KillSays c o → o.answer.number ≡ 0 → KillMeans c o.conn

-- as the Rust's `get_polled_evset`: out exactly while bytes are held, in exactly where data is waited for and the guest has room
pub record PolledMeans (c : VsockConnection) (o : EvSetLeft) : Type 0 where
  pub writable : o.writable ≡ leb 1 (used_of c.tx_buf)
  pub readable : o.readable ≡ waits_for_data c.state && leb 1 (peer_avail_credit c.peer_buf_alloc c.rx_cnt c.peer_fwd_cnt)

abbrev pub EveryPollPolls : Type 0
EveryPollPolls = (c : VsockConnection) (o : EvSetLeft) → EvSetSays c o → o.answer.number ≡ 0 → PolledMeans c o

-- 01: `will_expire` is time > now, `has_expired` time <= now, of a timer that is set
pub record ExpiryMeans : Type 0 where
  pub will : (i : Timed) (o : FlagLeft) → WillExpireSays i o → o.answer.number ≡ 0
      → Exactly (o.holds ≡ true) ((time : ℕ) × (i.conn.expiry ≡ Some time) × (i.clock < time))
  pub has : (i : Timed) (o : FlagLeft) → HasExpiredSays i o → o.answer.number ≡ 0
      → Exactly (o.holds ≡ true) ((time : ℕ) × (i.conn.expiry ≡ Some time) × (time ≤ i.clock))

-- the other looks tell what stands in the record: whether any indication is pending, the state, the timer
pub record LooksTell : Type 0 where
  pub pending : (c : VsockConnection) (o : FlagLeft) → PendingSays c o → o.answer.number ≡ 0 → Exactly (o.holds ≡ false) (c.pending_rx ≡ none)
  pub state : (c : VsockConnection) (o : StateLeft) → StateSays c o → o.answer.number ≡ 0 → o.state ≡ c.state
  pub expiry : (c : VsockConnection) (o : ExpiryLeft) → ExpirySays c o → o.answer.number ≡ 0 → o.expiry ≡ c.expiry

-- where it is not done a look tells nothing: no timer, LocalInit, no event (those that tell a yes or no: `RefusedTellsNothing` of `defs`)
pub record RefusedTellsNothing : Type 0 where
  pub expiry : (c : VsockConnection) (o : ExpiryLeft) → ExpirySays c o → (o.answer.number ≡ 0 → ⊥) → o.expiry ≡ None
  pub state : (c : VsockConnection) (o : StateLeft) → StateSays c o → (o.answer.number ≡ 0 → ⊥) → o.state ≡ LocalInit
  pub polled : (c : VsockConnection) (o : EvSetLeft) → EvSetSays c o → (o.answer.number ≡ 0 → ⊥) → (o.readable ≡ false) × (o.writable ≡ false)
