-- `send_pkt` (01, section of that name): what is planned in numbers, the refusals, the rules of the ops, and what is left. Assumes nothing.
use Rattle.std.specs.Prelude.{ℕ, ◌+◌, ◌-◌, ◌≤◌, ◌≡◌, Bool, true, false, not, ◌&&◌, ◌||◌, List, [], ◌++◌, length, take, drop, ltb, eqb, None}
use Rattle.defs.specs.Choice.{when}
use Rattle.defs.specs.Answer.{Told, told, when_done, Answer, done}
use Rattle.defs.specs.Limits.{max_packet, max_clock, max_timeout, is_header_length, is_clock, is_packet_length}
use Rattle.defs.specs.Stream.{counted, failed}
use Rattle.defs.specs.Ladder.{door_of, late_of, lowest_of}
use Rattle.defs.specs.Wrapping.{wadd}
use Rattle.defs.specs.Credit.{peer_needs_credit_update}
use Rattle.defs.specs.declared.stream.StreamAnswer.{StreamAnswer}
use Rattle.defs.specs.declared.stream.StreamAnswers.{StreamAnswers}
use Rattle.packet.specs.Uapi.{op_response, op_shutdown, op_rw, op_credit_request}
use Rattle.packet.specs.Header.{decoded}
use Rattle.packet.specs.declared.hdr.VsockPacketHdr.{VsockPacketHdr}
use Rattle.txbuf.specs.Record.{used_of}
use Rattle.txbuf.specs.Push.{PushLeft, push_answer, push_done}
use Rattle.txbuf.specs.declared.record.TxBuf.{TxBuf}
use Rattle.csm.specs.State.{takes, asks, is_local_init, recv_off, send_off, shut_by, both_off}
use Rattle.csm.specs.Pending.{marked}
use Rattle.csm.specs.Timer.{later, shut_arms}
use Rattle.csm.specs.declared.state.ConnState.{ConnState}
use Rattle.csm.specs.declared.state.ConnState.TheVariants.{Established}
use Rattle.rules.specs.Record.{sound_over, quiet, peer_of, onward_of, sent_of, phase_of, regrouped, with_state, killed_of}
use Rattle.rules.specs.declared.record.VsockConnection.{VsockConnection}

-- what a packet's data does, in numbers: all 0 where no data goes
pub record SendPlan : Type 0 where
  pub goes : Bool
  pub len : ℕ
  pub written : ℕ
  pub broken : Bool

-- ---- the rules of the ops, on the record alone

-- peer credit is always stored first
unfoldable pub heard_of : VsockConnection → VsockPacketHdr → VsockConnection
heard_of c pkt = regrouped c (record { alloc = pkt.buf_alloc; fwd = pkt.fwd_cnt }) (onward_of c) (sent_of c) (phase_of c)

-- RESPONSE in LocalInit: Established, timer cleared
unfoldable pub on_response : VsockConnection → VsockConnection
on_response c = when (is_local_init c.state) (with_state c Established None c.pending_rx) c

-- the state after a SHUTDOWN with these flags
abbrev pub shut_of : VsockConnection → ℕ → ConnState
shut_of c flags = shut_by c.state (recv_off flags) (send_off flags)

-- THE SHUTDOWN RULE: both set and ring empty: Rst; both become set, ring not empty and no timer runs: the shutdown timer (2026-08)
unfoldable pub on_shutdown : VsockConnection → Bool → ℕ → ℕ → VsockConnection
on_shutdown c empty flags clock =
    with_state c (shut_of c flags)
    (when (shut_arms c.state (shut_of c flags) empty c.expiry) (later clock c.settings.shutdown_timeout) c.expiry)
    (marked c.pending_rx (both_off (shut_of c flags) && empty) false false)

-- CREDIT_REQUEST: sets a credit update
unfoldable pub on_credit_request : VsockConnection → VsockConnection
on_credit_request c = with_state c c.state c.expiry (marked c.pending_rx false false (asks c.state))

-- the ring and the count of taken bytes have moved
unfoldable pub moved_of : VsockConnection → TxBuf → ℕ → VsockConnection
moved_of c ring taken = regrouped c (peer_of c) (record { ring = ring; count = wadd c.fwd_cnt taken }) (sent_of c) (phase_of c)

-- a credit update is set if (R - (fwd_cnt - last told)), wrapping, is below T
unfoldable pub updated_of : VsockConnection → VsockConnection
updated_of c =
    with_state c c.state c.expiry
    (marked c.pending_rx false false (peer_needs_credit_update c.tx_buf.size c.settings.threshold c.fwd_cnt c.last_fwd_cnt_to_peer))

-- RW: a failed write or full ring kills; else the threshold rule
unfoldable pub on_data : VsockConnection → SendPlan → Bool → TxBuf → VsockConnection
on_data c p kills ring = when p.goes (when kills (killed_of (moved_of c ring p.written)) (updated_of (moved_of c ring p.written))) c

-- the op selects the rule; all else: nothing more
unfoldable pub rule_of : VsockConnection → Bool → VsockPacketHdr → SendPlan → Bool → TxBuf → ℕ → VsockConnection
rule_of c empty pkt p kills ring clock =
    when (eqb pkt.op op_response) (on_response c)
    (when (eqb pkt.op op_shutdown) (on_shutdown c empty pkt.flags clock)
    (when (eqb pkt.op op_rw) (on_data c p kills ring)
    (when (eqb pkt.op op_credit_request) (on_credit_request c) c)))

-- ---- what is decided before a byte is touched

-- RW in a state that takes it, with a buffer
unfoldable pub goes_of : VsockConnection → ℕ → Bool → Bool
goes_of c op present = takes c.state && present && eqb op op_rw

-- ring empty: one write, also of 0 bytes; would-block counts as 0
abbrev pub writes_of : VsockConnection → ℕ → Bool → Bool
writes_of c op present = goes_of c op present && quiet c.tx_buf

-- the plan of a packet
unfoldable pub plan_of : VsockConnection → VsockPacketHdr → Bool → StreamAnswer → SendPlan
plan_of c pkt present a = record {
  goes = goes_of c pkt.op present;
  len = when (goes_of c pkt.op present) pkt.len 0;
  written = when (writes_of c pkt.op present) (counted a) 0;
  broken = writes_of c pkt.op present && failed a;
}

-- a failed write or full ring kills
unfoldable pub kills_of : VsockConnection → SendPlan → Bool
kills_of c p = p.goes && (p.broken || ltb c.tx_buf.size (used_of c.tx_buf + (p.len - p.written)))

-- 4: a packet over 65,536 bytes; or, in any state, op RW with `len` over its size
abbrev pub too_long : VsockPacketHdr → ℕ → Bool
too_long pkt buf = not (is_packet_length buf) || eqb pkt.op op_rw && ltb buf pkt.len

-- 1 to 4, by whether the record is sound and the header 44 bytes long
unfoldable pub send_door_of : Bool → Bool → VsockPacketHdr → Bool → ℕ → ℕ → Answer
send_door_of sound headed pkt present buf clock = door_of (not sound) (not headed) (not (is_clock clock)) (present && too_long pkt buf)

-- 5: the write's count is over what it offered; 6: or over the outgoing buffer
unfoldable pub send_late : SendPlan → ℕ → Answer
send_late p room = late_of (ltb p.len p.written) (ltb room p.written)

-- what the sums and parts within need
abbrev pub Killable : SendPlan → Type 0
Killable p = (p.written ≤ p.len) × (p.len ≤ max_packet)

abbrev pub Lingers : VsockConnection → ℕ → Type 0
Lingers c clock = (clock ≤ max_clock) × (c.settings.shutdown_timeout ≤ max_timeout)

-- the ring and the storage, where the rest is kept
unfoldable pub carried : Bool → TxBuf → List ℕ → List ℕ → PushLeft
carried keeps ring store rest = when keeps (push_done (record { ring = ring; store = store; src = rest })) (record { answer = told done; ring = ring; store = store })

pub record Carries (ring : TxBuf) (store payload : List ℕ) (written : ℕ) (keeps : Bool) (out : List ℕ) : Type 0 where
  pub part : written ≤ length payload
  pub room : written ≤ length out
  pub pushes : keeps ≡ true → push_answer ring (length store) (length payload - written) ≡ done

-- ---- the call

pub record SendIn : Type 0 where
  pub conn : VsockConnection
  pub store : List ℕ
  pub hdr : List ℕ
  pub present : Bool
  pub buf : List ℕ
  pub clock : ℕ
  pub answers : StreamAnswers
  pub out : List ℕ

pub record SendLeft : Type 0 where
  pub answer : Told
  pub conn : VsockConnection
  pub store : List ℕ
  pub out : List ℕ

-- the packet's header
abbrev pub pkt_of : SendIn → VsockPacketHdr
pkt_of i = decoded i.hdr

-- of this one
abbrev pub send_plan : SendIn → SendPlan
send_plan i = plan_of i.conn (pkt_of i) i.present i.answers.first

-- THE DOOR of `send_pkt`: 01's table, 1 to 4, of a record over a storage of so many bytes, a header, a buffer of so many and a clock
unfoldable pub send_door : VsockConnection → ℕ → List ℕ → Bool → ℕ → ℕ → Answer
send_door c storage hdr present buf clock = send_door_of (sound_over c storage) (is_header_length (length hdr)) (decoded hdr) present buf clock

abbrev pub send_door_in : SendIn → Answer
send_door_in i = send_door i.conn (length i.store) i.hdr i.present (length i.buf) i.clock

-- 01's table, 1 to 6
unfoldable pub send_answer : SendIn → Answer
send_answer i = lowest_of (send_door_in i) (send_late (send_plan i) (length i.out))

-- the bytes that the packet brings, none where it brings no data
abbrev pub payload : SendIn → List ℕ
payload i = take (send_plan i).len i.buf

-- the packet kills
abbrev pub send_kills : SendIn → Bool
send_kills i = kills_of i.conn (send_plan i)

-- ring and storage after it: only what the stream did not take goes there
abbrev pub send_carried : SendIn → PushLeft
send_carried i = carried ((send_plan i).goes && not (send_kills i)) i.conn.tx_buf i.store (drop (send_plan i).written (payload i))

-- peer credit, then the op's rule; what was taken stands at the front of the outgoing buffer
unfoldable pub send_done : SendIn → SendLeft
send_done i = record {
  answer = told done;
  conn = rule_of (heard_of i.conn (pkt_of i)) (quiet i.conn.tx_buf) (pkt_of i) (send_plan i) (send_kills i) (send_carried i).ring i.clock;
  store = (send_carried i).store;
  out = take (send_plan i).written (payload i) ++ drop (send_plan i).written i.out;
}

-- 1 to 6: nothing changed
unfoldable pub send_kept : SendIn → SendLeft
send_kept i = record { answer = told (send_answer i); conn = i.conn; store = i.store; out = i.out }

unfoldable pub send_of : SendIn → SendLeft
send_of i = when_done (send_answer i) (send_done i) (send_kept i)

-- THE STATEMENT of `send_pkt`
abbrev pub SendSays : SendIn → SendLeft → Type 0
SendSays i left = left ≡ send_of i

-- 01's accepted payload of a call: the first `len` bytes if RW meets a state that takes it, with a buffer, and doesn't kill; if it kills, the
-- bytes the stream took in that call; otherwise none
unfoldable pub accepted : SendIn → List ℕ
accepted i = when_done (send_answer i) (when (send_kills i) (take (send_plan i).written (payload i)) (payload i)) []
