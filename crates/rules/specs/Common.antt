-- What calls have in common, said over what they were given and what they left: killing, timers, what the guest was told, answers that are not reached,
-- soundness, room at the guest, and what they would offer. Assumes nothing.
use Rattle.std.specs.Prelude.{ℕ, ◌+◌, ◌-◌, ◌%◌, ◌^◌, ◌<◌, ◌≤◌, ◌≡◌, Bool, true, false, ◌&&◌, List, [], ◌++◌, leb, eqb, length, take, drop, None, Some}
use Rattle.defs.specs.Choice.{when}
use Rattle.defs.specs.Answer.{Told}
use Rattle.defs.specs.Promises.{Exactly, Refuses}
use Rattle.defs.specs.declared.stream.StreamAnswer.{StreamAnswer}
use Rattle.defs.specs.declared.stream.StreamAnswer.TheVariants.{WouldBlock}
use Rattle.defs.specs.declared.stream.StreamAnswers.{StreamAnswers}
use Rattle.packet.specs.Header.{decoded}
use Rattle.packet.specs.Uapi.{op_request, op_shutdown, op_rw, op_credit_request}
use Rattle.txbuf.specs.Record.{used_of}
use Rattle.txbuf.specs.Flush.{first_piece, second_piece}
use Rattle.txbuf.specs.Means.{uses_second}
use Rattle.csm.specs.Said.{DataFirst, Reads, op_due, tells_now, said_now}
use Rattle.csm.specs.declared.state.ConnState.TheVariants.{PeerClosed}
use Rattle.rules.specs.Open.{Opening, ConnLeft, PeerInitSays, LocalInitSays}
use Rattle.rules.specs.Look.{KillSays, EvSetLeft, EvSetSays}
use Rattle.rules.specs.Receive.{RecvIn, RecvLeft, RecvSays}
use Rattle.rules.specs.Send.{SendIn, SendLeft, SendSays}
use Rattle.rules.specs.Notify.{NotifyIn, NotifyLeft, NotifySays}
use Rattle.rules.specs.Raw.{RawIn, RawLeft, RawSays}
use Rattle.rules.specs.Offer.{SendGiven, SendDoorSays, SendWritesSays, SendOfferedSays, RecvGiven, RecvDoorSays, AskedLeft, RecvAskedSays, NotifyDoorSays, NotifyOfferedSays, NotifyNextSays, RawDoorSays, RawOfferedSays}
use Rattle.rules.specs.Moves.{Numbers}
use Rattle.rules.specs.Outcomes.{Dead, turn_of, Addressed}
use Rattle.rules.specs.Leaves.{data_kills, flush_fails, timer_now}
use Rattle.rules.specs.Answers.{Sound, SoundOver, Writes, asked_now, Flushes}
use Rattle.rules.specs.declared.record.VsockConnection.{VsockConnection}

-- ---- killing

-- 2026-07: whatever kills (a failed write or a full ring, a failed flush, `kill`) leaves Killed and only the reset pending
pub record KillsAlike : Type 0 where
  pub send : (i : SendIn) (o : SendLeft) → SendSays i o → o.answer.number ≡ 0 → data_kills i ≡ true → Dead o.conn
  pub notify : (i : NotifyIn) (o : NotifyLeft) → NotifySays i o → o.answer.number ≡ 0 → flush_fails i ≡ true → Dead o.conn
  pub kill : (c : VsockConnection) (o : ConnLeft) → KillSays c o → o.answer.number ≡ 0 → Dead o.conn

-- ---- timers, and what the guest was told

-- 01, timers: which calls set, clear or leave the timer. A turn to speak sets it to now plus the request timeout where it says REQUEST, to now plus the
-- shutdown timeout where it says SHUTDOWN
pub record TimersArm : Type 0 where
  pub send : (i : SendIn) (o : SendLeft) → SendSays i o → o.answer.number ≡ 0 → o.conn.expiry ≡ timer_now i
  pub notify : (i : NotifyIn) (o : NotifyLeft) → NotifySays i o → o.conn.expiry ≡ i.conn.expiry
  pub recv : (i : RecvIn) (o : RecvLeft) → RecvSays i o → (Refuses o.answer → ⊥)
      → o.conn.expiry
      ≡ when (eqb (op_due (turn_of i)) op_request) (Some (i.clock + i.conn.settings.request_timeout))
      (when (eqb (op_due (turn_of i)) op_shutdown) (Some (i.clock + i.conn.settings.shutdown_timeout)) i.conn.expiry)
  pub kill : (c : VsockConnection) (o : ConnLeft) → KillSays c o → o.conn.expiry ≡ c.expiry

-- 2026-08: a SHUTDOWN by which both flags become set that were not both set before, while the ring isn't empty and no timer runs
pub record ArmsNow (i : SendIn) (o : SendLeft) : Type 0 where
  pub op : (decoded i.hdr).op ≡ op_shutdown
  pub before : i.conn.state ≡ PeerClosed true true → ⊥
  pub after : o.conn.state ≡ PeerClosed true true
  pub held : 1 ≤ used_of i.conn.tx_buf
  pub idle : i.conn.expiry ≡ None

-- a packet that is done leaves a timer that was not there before exactly then, and its time is now plus the shutdown timeout; a SHUTDOWN of the guest's
-- moves no timer that runs, in any state and at any clock
pub record ShutdownArms : Type 0 where
  pub arms : (i : SendIn) (o : SendLeft) (time : ℕ) → SendSays i o → o.answer.number ≡ 0
      → Exactly ((i.conn.expiry ≡ Some time → ⊥) × (o.conn.expiry ≡ Some time)) (ArmsNow i o × (time ≡ i.clock + i.conn.settings.shutdown_timeout))
  pub runs : (i : SendIn) (o : SendLeft) (time : ℕ) → SendSays i o → (decoded i.hdr).op ≡ op_shutdown → i.conn.expiry ≡ Some time → o.conn.expiry ≡ Some time

-- 01: last-told becomes fwd_cnt on credit request, data, shutdown, read failure and credit update, which only a turn to speak says (`tellsNow` of `csm`)
pub record LastToldMoves : Type 0 where
  pub send : (i : SendIn) (o : SendLeft) → SendSays i o → o.conn.last_fwd_cnt_to_peer ≡ i.conn.last_fwd_cnt_to_peer
  pub notify : (i : NotifyIn) (o : NotifyLeft) → NotifySays i o → o.conn.last_fwd_cnt_to_peer ≡ i.conn.last_fwd_cnt_to_peer
  pub recv : (i : RecvIn) (o : RecvLeft) → RecvSays i o → (Refuses o.answer → ⊥)
      → o.conn.last_fwd_cnt_to_peer ≡ when (tells_now (turn_of i)) i.conn.fwd_cnt i.conn.last_fwd_cnt_to_peer
  pub kill : (c : VsockConnection) (o : ConnLeft) → KillSays c o → o.conn.last_fwd_cnt_to_peer ≡ c.last_fwd_cnt_to_peer

-- ---- answers that are not reached

-- the same call with other answers of the stream
abbrev pub sent_with : SendIn → StreamAnswers → SendIn
sent_with i a = record { conn = i.conn; store = i.store; hdr = i.hdr; present = i.present; buf = i.buf; clock = i.clock; answers = a; out = i.out }

abbrev pub read_with : RecvIn → StreamAnswer → List ℕ → RecvIn
read_with i a bytes = record { conn = i.conn; hdr = i.hdr; present = i.present; buf = i.buf; clock = i.clock; answer = a; read = bytes }

abbrev pub notified_with : NotifyIn → StreamAnswers → NotifyIn
notified_with i a = record { conn = i.conn; readable = i.readable; writable = i.writable; store = i.store; answers = a; out = i.out }

abbrev pub raw_with : RawIn → StreamAnswers → RawIn
raw_with i a = record { conn = i.conn; buf = i.buf; answers = a; out = i.out }

-- a second answer beside the same first
abbrev pub with_second : StreamAnswers → StreamAnswer → StreamAnswers
with_second a y = record { first = a.first; second = y }

-- what a call is given besides the stream's answers: its door goes by that
abbrev pub send_given : SendIn → SendGiven
send_given i = record { conn = i.conn; store = i.store; hdr = i.hdr; present = i.present; buf = i.buf; clock = i.clock }

abbrev pub recv_given : RecvIn → RecvGiven
recv_given i = record { conn = i.conn; hdr = i.hdr; present = i.present; buf = i.buf; clock = i.clock }

-- 01: an answer that isn't reached isn't looked at, whatever it counts and whatever bytes it brings. Behind a door that refuses (1 to 4) none is reached
pub record UnreachedIsIgnored : Type 0 where
  pub send_door : (i : SendIn) (a : StreamAnswers) (t : Told) (o other : SendLeft) → SendSays i o → SendSays (sent_with i a) other
      → SendDoorSays (send_given i) t → (t.number ≡ 0 → ⊥) → o ≡ other
  pub recv_door : (i : RecvIn) (a : StreamAnswer) (bytes : List ℕ) (t : Told) (o other : RecvLeft) → RecvSays i o → RecvSays (read_with i a bytes) other
      → RecvDoorSays (recv_given i) t → (t.number ≡ 0 → ⊥) → o ≡ other
  pub notify_door : (i : NotifyIn) (a : StreamAnswers) (t : Told) (o other : NotifyLeft) → NotifySays i o → NotifySays (notified_with i a) other
      → NotifyDoorSays i.conn i.store t → (t.number ≡ 0 → ⊥) → o ≡ other
  pub raw_door : (i : RawIn) (a : StreamAnswers) (t : Told) (o other : RawLeft) → RawSays i o → RawSays (raw_with i a) other
      → RawDoorSays i.conn i.buf t → (t.number ≡ 0 → ⊥) → o ≡ other
  pub send : (i : SendIn) (a : StreamAnswers) (o other : SendLeft) → SendSays i o → SendSays (sent_with i a) other → (Writes i → ⊥) → o ≡ other
  pub send_second : (i : SendIn) (y : StreamAnswer) (o other : SendLeft) → SendSays i o → SendSays (sent_with i (with_second i.answers y)) other → o ≡ other
  pub recv : (i : RecvIn) (a : StreamAnswer) (bytes : List ℕ) (o other : RecvLeft) → RecvSays i o → RecvSays (read_with i a bytes) other
      → (Reads (turn_of i) → ⊥) → o ≡ other
  pub notify : (i : NotifyIn) (a : StreamAnswers) (o other : NotifyLeft) → NotifySays i o → NotifySays (notified_with i a) other → (Flushes i → ⊥) → o ≡ other
  pub notify_second : (i : NotifyIn) (y : StreamAnswer) (o other : NotifyLeft) → NotifySays i o → NotifySays (notified_with i (with_second i.answers y)) other
      → uses_second i.conn.tx_buf i.answers ≡ false → o ≡ other
  pub raw_second : (i : RawIn) (y : StreamAnswer) (o other : RawLeft) → RawSays i o → RawSays (raw_with i (with_second i.answers y)) other → o ≡ other

-- ---- soundness

-- a sound record stays sound, over the same storage; an opening that is done gives a sound one
pub record SoundStaysSound : Type 0 where
  pub peer : (o : Opening) (left : ConnLeft) → PeerInitSays o left → left.answer.number ≡ 0 → Sound left.conn
  pub local : (o : Opening) (left : ConnLeft) → LocalInitSays o left → left.answer.number ≡ 0 → Sound left.conn
  pub send : (i : SendIn) (o : SendLeft) → Numbers i.conn → SendSays i o → SoundOver i.conn (length i.store) → SoundOver o.conn (length o.store)
  pub recv : (i : RecvIn) (o : RecvLeft) → RecvSays i o → Sound i.conn → Sound o.conn
  pub notify : (i : NotifyIn) (o : NotifyLeft) → Numbers i.conn → NotifySays i o → SoundOver i.conn (length i.store) → SoundOver o.conn (length i.store)
  pub kill : (c : VsockConnection) (o : ConnLeft) → KillSays c o → Sound c → Sound o.conn

-- ---- the sender's duty (virtio 1.2, 5.10.6.3)

-- true counts of what was sent to the guest and forwarded there, of which the record has the last 32 bits: no more forwarded than sent, and less than
-- 2^32 outstanding
pub record TrueCounts (c : VsockConnection) (sent fwd : ℕ) : Type 0 where
  pub forwarded : fwd ≤ sent
  pub outstanding : sent - fwd < 2 ^ 32
  pub count : c.rx_cnt ≡ sent % 2 ^ 32
  pub heard : c.peer_fwd_cnt ≡ fwd % 2 ^ 32

-- what a turn says is no longer than the guest's free space by the standard's formula, 0 where the guest allocates less than is outstanding; its len is
-- the number of bytes that filled the buffer: so many were supplied, so many fit, the rest stays; and the header that is handed out has it
pub record FitsPeer (i : RecvIn) (o : RecvLeft) (sent fwd : ℕ) : Type 0 where
  pub free : (said_now (turn_of i)).len ≤ i.conn.peer_buf_alloc - (sent - fwd)
  pub supplied : (said_now (turn_of i)).len ≤ length i.read
  pub fits : (said_now (turn_of i)).len ≤ length i.buf
  pub filled : o.buf ≡ take (said_now (turn_of i)).len i.read ++ drop (said_now (turn_of i)).len i.buf
  pub told : Addressed i.conn → (decoded o.hdr).len ≡ (said_now (turn_of i)).len

abbrev pub DataFitsPeer : Type 0
DataFitsPeer = (i : RecvIn) (o : RecvLeft) (sent fwd : ℕ) → RecvSays i o → (Refuses o.answer → ⊥) → TrueCounts i.conn sent fwd → FitsPeer i o sent fwd

-- 2026-03: to a guest that allocates no more than is outstanding no packet with data goes out; data that is due becomes a CREDIT_REQUEST
pub record AsksForRoom (i : RecvIn) (o : RecvLeft) : Type 0 where
  pub silent : (decoded o.hdr).op ≡ op_rw → ⊥
  pub asks : DataFirst (turn_of i) → (decoded o.hdr).op ≡ op_credit_request

-- and the polled events are without "readable"
pub record NoRoomAsks : Type 0 where
  pub recv : (i : RecvIn) (o : RecvLeft) (sent fwd : ℕ) → RecvSays i o → (Refuses o.answer → ⊥) → Addressed i.conn → TrueCounts i.conn sent fwd
      → i.conn.peer_buf_alloc ≤ sent - fwd → AsksForRoom i o
  pub polled : (c : VsockConnection) (o : EvSetLeft) (sent fwd : ℕ) → EvSetSays c o → TrueCounts c sent fwd → c.peer_buf_alloc ≤ sent - fwd
      → o.readable ≡ false

-- ---- what a call would offer or ask for, before the stream has answered: by the door's number, and by the words of the call itself

-- a packet and a turn as they are before the stream has answered
abbrev pub as_sent : SendGiven → SendIn
as_sent g = record { conn = g.conn; store = g.store; hdr = g.hdr; present = g.present; buf = g.buf; clock = g.clock; answers = record { first = WouldBlock; second = WouldBlock }; out = [] }

abbrev pub as_read : RecvGiven → RecvIn
as_read g = record { conn = g.conn; hdr = g.hdr; present = g.present; buf = g.buf; clock = g.clock; answer = WouldBlock; read = [] }

pub record OffersMean : Type 0 where
  pub writes : (g : SendGiven) (t : Told) (r : Bool) → SendDoorSays g t → SendWritesSays g r
      → Exactly (r ≡ true) ((t.number ≡ 0) × Writes (as_sent g))
  pub offers : (g : SendGiven) (w : Bool) (r : List ℕ) → SendWritesSays g w → SendOfferedSays g r → r ≡ when w (take (decoded g.hdr).len g.buf) []
  pub asks : (g : RecvGiven) (o : AskedLeft) → RecvAskedSays g o → Exactly (o.reads ≡ true) ((o.answer.number ≡ 0) × Reads (turn_of (as_read g)))
  pub asked : (g : RecvGiven) (o : AskedLeft) → RecvAskedSays g o → o.count ≡ when o.reads (asked_now (as_read g)) 0
  pub first : (c : VsockConnection) (writable : Bool) (store : List ℕ) (t : Told) (r : List ℕ) → NotifyDoorSays c store t → NotifyOfferedSays c writable store r
      → r ≡ when (eqb t.number 0 && (writable && leb 1 (used_of c.tx_buf))) (first_piece c.tx_buf store) []
  pub second : (c : VsockConnection) (writable : Bool) (store : List ℕ) (t : Told) (r : List ℕ) → NotifyDoorSays c store t → NotifyNextSays c writable store r
      → r ≡ when (eqb t.number 0 && (writable && leb 1 (used_of c.tx_buf))) (second_piece c.tx_buf store) []
  pub raw : (c : VsockConnection) (buf : List ℕ) (t : Told) (r : List ℕ) → RawDoorSays c buf t → RawOfferedSays c buf r → r ≡ when (eqb t.number 0) buf []
