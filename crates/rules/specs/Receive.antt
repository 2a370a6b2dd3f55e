-- `recv_pkt` (01, section of that name): the step of the state machine, and what its row leaves of record, header and buffer. Assumes nothing.
use Rattle.std.specs.Prelude.{ℕ, ◌≤◌, min, ◌≡◌, Bool, false, not, ◌&&◌, ◌||◌, List, ◌++◌, length, take, drop, ltb}
use Rattle.defs.specs.Choice.{when}
use Rattle.defs.specs.Answer.{Told, told, when_done, Answer}
use Rattle.defs.specs.Limits.{max_packet, max_clock, max_timeout, is_header_length, is_clock, is_packet_length}
use Rattle.defs.specs.Stream.{counted}
use Rattle.defs.specs.Ladder.{door_of, late_of, lowest_of}
use Rattle.defs.specs.Wrapping.{wadd}
use Rattle.defs.specs.declared.stream.StreamAnswer.{StreamAnswer}
use Rattle.packet.specs.Uapi.{type_stream}
use Rattle.packet.specs.Header.{encoded}
use Rattle.packet.specs.declared.hdr.VsockPacketHdr.{VsockPacketHdr}
use Rattle.csm.specs.Pending.{left_of}
use Rattle.csm.specs.Timer.{later, Timer}
use Rattle.csm.specs.Turn.{turn_step, turn_reads}
use Rattle.csm.specs.Row.{row_of, afterwards, armed}
use Rattle.csm.specs.declared.pending.PendingRxSet.{PendingRxSet}
use Rattle.csm.specs.declared.state.ConnState.{ConnState}
use Rattle.csm.specs.declared.turn.RxStep.{RxStep}
use Rattle.csm.specs.declared.row.Row.{Row}
use Rattle.rules.specs.Record.{sound_conn, credit_of, no_credit, peer_of, onward_of, regrouped}
use Rattle.rules.specs.declared.record.VsockConnection.{VsockConnection}

-- what is said at this turn
abbrev pub next_step : VsockConnection → Bool → StreamAnswer → RxStep
next_step c present a = turn_step c.pending_rx c.state (no_credit c) present a

-- ---- what a row leaves

-- sent rises by the count (wrapping), last-told by the row
unfoldable pub spoken_of : VsockConnection → ℕ → Bool → ConnState → PendingRxSet → Timer → VsockConnection
spoken_of c count tells state pending expiry =
    regrouped c (peer_of c) (onward_of c)
    (record { count = wadd c.rx_cnt count; last_told = when tells c.fwd_cnt c.last_fwd_cnt_to_peer })
    (record { state = state; expiry = expiry; pending = pending })

-- the record after a row: what it says of state and timer, and the indications that are left
unfoldable pub received_of : VsockConnection → Row → ℕ → VsockConnection
received_of c row clock =
    spoken_of c row.count row.tells (afterwards row.after c.state) (left_of c.pending_rx row.ends)
    (armed row.arms c.expiry (later clock c.settings.request_timeout) (later clock c.settings.shutdown_timeout))

-- the header initialised (own addresses, stream type, buf_alloc R, fwd_cnt), then the row's op, flags and len
unfoldable pub header_of : VsockConnection → Row → VsockPacketHdr
header_of c row = record {
  src_cid = c.local_cid;
  dst_cid = c.peer_cid;
  src_port = c.local_port;
  dst_port = c.peer_port;
  len = row.count;
  type_ = type_stream;
  op = row.op;
  flags = row.flags;
  buf_alloc = c.tx_buf.size;
  fwd_cnt = c.fwd_cnt;
}

-- what the sums and casts of a turn need
pub record Receivable (c : VsockConnection) (row : Row) (clock : ℕ) : Type 0 where
  pub clocked : clock ≤ max_clock
  pub wait : c.settings.request_timeout ≤ max_timeout
  pub linger : c.settings.shutdown_timeout ≤ max_timeout
  pub count : row.count ≤ max_packet

-- ---- the call

pub record RecvIn : Type 0 where
  pub conn : VsockConnection
  pub hdr : List ℕ
  pub present : Bool
  pub buf : List ℕ
  pub clock : ℕ
  pub answer : StreamAnswer
  pub read : List ℕ

pub record RecvLeft : Type 0 where
  pub answer : Told
  pub conn : VsockConnection
  pub hdr : List ℕ
  pub buf : List ℕ

-- THE DOOR of `recv_pkt`: 01's table, 1 to 4; a buffer that is absent has no length
unfoldable pub recv_door : VsockConnection → ℕ → Bool → ℕ → ℕ → Answer
recv_door c hdr present buf clock =
    door_of (not (sound_conn c)) (not (is_header_length hdr)) (not (is_clock clock)) (present && not (is_packet_length buf))

-- this turn reads from the stream
abbrev pub reads_of : VsockConnection → Bool → Bool
reads_of c present = turn_reads c.pending_rx c.state (no_credit c) present

-- the read asks for the smaller of buffer and credit
abbrev pub asked_of : VsockConnection → ℕ → ℕ
asked_of c buf = min buf (credit_of c)

-- then 5: a count over what was asked, or over the bytes supplied
unfoldable pub recv_refusal : VsockConnection → ℕ → Bool → ℕ → ℕ → StreamAnswer → ℕ → Answer
recv_refusal c hdr present buf clock a read =
    lowest_of (recv_door c hdr present buf clock)
    (late_of (reads_of c present && (ltb (asked_of c buf) (counted a) || ltb read (counted a))) false)

-- 1 to 5 of this call
abbrev pub refusal_of : RecvIn → Answer
refusal_of i = recv_refusal i.conn (length i.hdr) i.present (length i.buf) i.clock i.answer (length i.read)

-- the row of what is said
abbrev pub said_by : RecvIn → Row
said_by i = row_of (next_step i.conn i.present i.answer)

-- record, header and buffer by that row; the bytes read fill the front of the buffer, the rest of which stays
unfoldable pub recv_done : RecvIn → RecvLeft
recv_done i = record {
  answer = told (said_by i).answer;
  conn = received_of i.conn (said_by i) i.clock;
  hdr = encoded (header_of i.conn (said_by i));
  buf = take (said_by i).count i.read ++ drop (said_by i).count i.buf;
}

-- 1 to 5: nothing changed
unfoldable pub recv_kept : RecvIn → RecvLeft
recv_kept i = record { answer = told (refusal_of i); conn = i.conn; hdr = i.hdr; buf = i.buf }

unfoldable pub recv_of : RecvIn → RecvLeft
recv_of i = when_done (refusal_of i) (recv_done i) (recv_kept i)

-- THE STATEMENT of `recv_pkt`
abbrev pub RecvSays : RecvIn → RecvLeft → Type 0
RecvSays i left = left ≡ recv_of i
