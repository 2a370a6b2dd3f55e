-- Which number a call of a connection answers (01, "What comes back"): n exactly when row n is given and no lower row, in 01's words over what the call is
-- given. Of 10 the call's own statement tells which kind. Assumes nothing.
use Rattle.std.specs.Prelude.{ℕ, ◌^◌, ◌<◌, ◌≤◌, min, ◌≡◌, ◌⊎◌, Bool, true, List, [], ◌∷◌, length}
use Rattle.defs.specs.Answer.{Told}
use Rattle.defs.specs.Credit.{peer_avail_credit}
use Rattle.defs.specs.Look.{FlagLeft}
use Rattle.defs.specs.Promises.{Exactly, PowerOfTwo, AnswersInTurn}
use Rattle.defs.specs.Stream.{counted, stops}
use Rattle.packet.specs.Header.{decoded}
use Rattle.packet.specs.Uapi.{op_rw}
use Rattle.txbuf.specs.Means.{bytes_held, counted_now, CountsTooMuch}
use Rattle.csm.specs.Means.{takes_data}
use Rattle.csm.specs.Said.{Reads, NothingToSay, BufferMissing}
use Rattle.rules.specs.Record.{sound_conn, sound_over}
use Rattle.rules.specs.Open.{Opening, ConnLeft, PeerInitSays, LocalInitSays}
use Rattle.rules.specs.Look.{PendingSays, Timed, WillExpireSays, HasExpiredSays, ExpiryLeft, ExpirySays, StateLeft, StateSays, EvSetLeft, EvSetSays, KillSays}
use Rattle.rules.specs.Send.{SendIn, SendLeft, SendSays}
use Rattle.rules.specs.Receive.{RecvIn, RecvLeft, RecvSays}
use Rattle.rules.specs.Notify.{NotifyIn, NotifyLeft, NotifySays}
use Rattle.rules.specs.Raw.{RawIn, RawLeft, RawSays}
use Rattle.rules.specs.Offer.{SendGiven, SendDoorSays, RecvGiven, RecvDoorSays, AskedLeft, RecvAskedSays, NotifyDoorSays, RawDoorSays}
use Rattle.rules.specs.Outcomes.{turn_of}
use Rattle.rules.specs.declared.record.Settings.{Settings}
use Rattle.rules.specs.declared.record.VsockConnection.{VsockConnection}

-- ---- soundness

-- 01, "The numbers of a connection": R a power of two from 16 to 1,048,576, T from 1 to R, both timeouts from 1 to 60,000 ms
pub record InRange (size : ℕ) (g : Settings) : Type 0 where
  pub power : PowerOfTwo size
  pub least : 16 ≤ size
  pub most : size ≤ 1048576
  pub threshold : (1 ≤ g.threshold) × (g.threshold ≤ size)
  pub request : (1 ≤ g.request_timeout) × (g.request_timeout ≤ 60000)
  pub shutdown : (1 ≤ g.shutdown_timeout) × (g.shutdown_timeout ≤ 60000)

-- a record is sound when its settings are in range, and head minus tail (32-bit wrapping) is at most R
pub record Sound (c : VsockConnection) : Type 0 where
  pub settings : InRange c.tx_buf.size c.settings
  pub held : bytes_held c.tx_buf ≤ c.tx_buf.size

-- and the ring storage, where the call lends one, exactly R bytes
abbrev pub SoundOver : VsockConnection → ℕ → Type 0
SoundOver c storage = Sound c × (storage ≡ c.tx_buf.size)

-- the quick tests say just that
pub record SoundMeans : Type 0 where
  pub alone : (c : VsockConnection) → Exactly (sound_conn c ≡ true) (Sound c)
  pub over : (c : VsockConnection) (storage : ℕ) → Exactly (sound_over c storage ≡ true) (SoundOver c storage)

-- ---- the openings, and the calls that look

-- 1: a setting is out of range
abbrev pub open_rows : Opening → List (ℕ × Type 0)
open_rows o = (1, InRange o.size o.settings → ⊥) ∷ []

pub record OpenAnswers : Type 0 where
  pub peer : (o : Opening) (left : ConnLeft) → PeerInitSays o left → AnswersInTurn left.answer (open_rows o)
  pub local : (o : Opening) (left : ConnLeft) → LocalInitSays o left → AnswersInTurn left.answer (open_rows o)

-- 1: the record, no storage being lent, is not sound; then 3, where a clock is handed in
abbrev pub look_rows : VsockConnection → List (ℕ × Type 0)
look_rows c = (1, Sound c → ⊥) ∷ []

abbrev pub timed_rows : Timed → List (ℕ × Type 0)
timed_rows i = (1, Sound i.conn → ⊥) ∷ (3, 2 ^ 62 < i.clock) ∷ []

pub record LookAnswers : Type 0 where
  pub pending : (c : VsockConnection) (left : FlagLeft) → PendingSays c left → AnswersInTurn left.answer (look_rows c)
  pub will_expire : (i : Timed) (left : FlagLeft) → WillExpireSays i left → AnswersInTurn left.answer (timed_rows i)
  pub has_expired : (i : Timed) (left : FlagLeft) → HasExpiredSays i left → AnswersInTurn left.answer (timed_rows i)
  pub expiry : (c : VsockConnection) (left : ExpiryLeft) → ExpirySays c left → AnswersInTurn left.answer (look_rows c)
  pub state : (c : VsockConnection) (left : StateLeft) → StateSays c left → AnswersInTurn left.answer (look_rows c)
  pub polled : (c : VsockConnection) (left : EvSetLeft) → EvSetSays c left → AnswersInTurn left.answer (look_rows c)
  pub kill : (c : VsockConnection) (left : ConnLeft) → KillSays c left → AnswersInTurn left.answer (look_rows c)

-- ---- `send_pkt`

-- 4: over 65,536 bytes; or, in any state, op RW with `len` over the buffer's size
abbrev pub PacketTooLong : Bool → ℕ → List ℕ → Type 0
PacketTooLong present buf hdr = (present ≡ true) × ((65536 < buf) ⊎ (((decoded hdr).op ≡ op_rw) × (buf < (decoded hdr).len)))

-- the one write is made: the state takes data, a buffer, op RW, ring empty
abbrev pub Writes : SendIn → Type 0
Writes i = (takes_data i.conn.state ≡ true) × (i.present ≡ true) × ((decoded i.hdr).op ≡ op_rw) × (bytes_held i.conn.tx_buf ≡ 0)

-- 1 to 4; 5 the write counts more than it was offered; 6 no room for what it took
abbrev pub send_rows : SendIn → List (ℕ × Type 0)
send_rows i =
    (1, SoundOver i.conn (length i.store) → ⊥)
    ∷ (2, length i.hdr ≡ 44 → ⊥)
    ∷ (3, 2 ^ 62 < i.clock)
    ∷ (4, PacketTooLong i.present (length i.buf) i.hdr)
    ∷ (5, Writes i × ((decoded i.hdr).len < counted i.answers.first))
    ∷ (6, Writes i × (length i.out < counted i.answers.first))
    ∷ []

abbrev pub SendAnswers : Type 0
SendAnswers = (i : SendIn) (left : SendLeft) → SendSays i left → AnswersInTurn left.answer (send_rows i)

-- ---- `recv_pkt`

-- the read asks for the smaller of buffer and credit
abbrev pub asked_now : RecvIn → ℕ
asked_now i = min (length i.buf) (peer_avail_credit i.conn.peer_buf_alloc i.conn.rx_cnt i.conn.peer_fwd_cnt)

-- 1 to 4; 5 the read counts more than was asked or than the bytes supplied; 7 nothing to say; 8 data due, credit not 0, no buffer
abbrev pub recv_rows : RecvIn → List (ℕ × Type 0)
recv_rows i =
    (1, Sound i.conn → ⊥)
    ∷ (2, length i.hdr ≡ 44 → ⊥)
    ∷ (3, 2 ^ 62 < i.clock)
    ∷ (4, (i.present ≡ true) × (65536 < length i.buf))
    ∷ (5, Reads (turn_of i) × ((asked_now i < counted i.answer) ⊎ (length i.read < counted i.answer)))
    ∷ (7, NothingToSay (turn_of i))
    ∷ (8, BufferMissing (turn_of i))
    ∷ []

abbrev pub RecvAnswers : Type 0
RecvAnswers = (i : RecvIn) (left : RecvLeft) → RecvSays i left → AnswersInTurn left.answer (recv_rows i)

-- ---- `notify`

-- a flush is due: an out-event, and the ring isn't empty
abbrev pub Flushes : NotifyIn → Type 0
Flushes i = (i.writable ≡ true) × (0 < bytes_held i.conn.tx_buf)

-- 1; where a flush is due, 5 an answer that is used counts too much and 6 no room for the bytes that the used answers count; never 10
abbrev pub notify_rows : NotifyIn → List (ℕ × Type 0)
notify_rows i =
    (1, SoundOver i.conn (length i.store) → ⊥)
    ∷ (5, Flushes i × CountsTooMuch i.conn.tx_buf i.answers)
    ∷ (6, Flushes i × (length i.out < counted_now i.conn.tx_buf i.answers))
    ∷ []

abbrev pub NotifyAnswers : Type 0
NotifyAnswers = (i : NotifyIn) (left : NotifyLeft) → NotifySays i left → AnswersInTurn left.answer (notify_rows i)

-- ---- `send_bytes_raw`

-- 1, 4, 5, 6, and 10 where its write blocks or fails
abbrev pub raw_rows : RawIn → List (ℕ × Type 0)
raw_rows i =
    (1, Sound i.conn → ⊥)
    ∷ (4, 65536 < length i.buf)
    ∷ (5, length i.buf < counted i.answers.first)
    ∷ (6, length i.out < counted i.answers.first)
    ∷ (10, stops i.answers.first ≡ true)
    ∷ []

abbrev pub RawAnswers : Type 0
RawAnswers = (i : RawIn) (left : RawLeft) → RawSays i left → AnswersInTurn left.answer (raw_rows i)

-- ---- the doors: the same rows, as far as they look at no answer of the stream

-- of a turn: what `recv_asked` answers too
abbrev pub recv_door_rows : RecvGiven → List (ℕ × Type 0)
recv_door_rows g =
    (1, Sound g.conn → ⊥) ∷ (2, length g.hdr ≡ 44 → ⊥) ∷ (3, 2 ^ 62 < g.clock) ∷ (4, (g.present ≡ true) × (65536 < length g.buf)) ∷ []

pub record DoorAnswers : Type 0 where
  pub send : (g : SendGiven) (t : Told) → SendDoorSays g t
      → AnswersInTurn t
      ((1, SoundOver g.conn (length g.store) → ⊥)
      ∷ (2, length g.hdr ≡ 44 → ⊥)
      ∷ (3, 2 ^ 62 < g.clock)
      ∷ (4, PacketTooLong g.present (length g.buf) g.hdr)
      ∷ [])
  pub recv : (g : RecvGiven) (t : Told) → RecvDoorSays g t → AnswersInTurn t (recv_door_rows g)
  pub asked : (g : RecvGiven) (o : AskedLeft) → RecvAskedSays g o → AnswersInTurn o.answer (recv_door_rows g)
  pub notify : (c : VsockConnection) (store : List ℕ) (t : Told) → NotifyDoorSays c store t → AnswersInTurn t ((1, SoundOver c (length store) → ⊥) ∷ [])
  pub raw : (c : VsockConnection) (buf : List ℕ) (t : Told) → RawDoorSays c buf t → AnswersInTurn t ((1, Sound c → ⊥) ∷ (4, 65536 < length buf) ∷ [])
