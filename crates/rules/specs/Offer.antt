-- What a call would offer to the stream, or ask of it, before the stream has answered: none where its door refuses. Assumes nothing.
use Rattle.std.specs.Prelude.{ℕ, ◌≡◌, Bool, ◌&&◌, List, [], length, take}
use Rattle.defs.specs.Choice.{when}
use Rattle.defs.specs.Answer.{Told, told, is_done, when_done}
use Rattle.packet.specs.Header.{decoded}
use Rattle.txbuf.specs.Record.{held}
use Rattle.txbuf.specs.Flush.{first_piece, second_piece}
use Rattle.rules.specs.Send.{writes_of, send_door, SendIn}
use Rattle.rules.specs.Receive.{recv_door, reads_of, asked_of, RecvIn, refusal_of, said_by}
use Rattle.rules.specs.Notify.{flush_due, notify_door, NotifyIn}
use Rattle.rules.specs.Raw.{raw_door}
use Rattle.rules.specs.declared.record.VsockConnection.{VsockConnection}

-- `send_pkt` makes its one write: data goes, and the ring is empty
unfoldable pub send_writes : VsockConnection → ℕ → List ℕ → Bool → ℕ → ℕ → Bool
send_writes c storage hdr present buf clock = is_done (send_door c storage hdr present buf clock) && writes_of c (decoded hdr).op present

-- what it offers: the first `len` bytes, which may be none
unfoldable pub send_offered : VsockConnection → ℕ → List ℕ → Bool → List ℕ → ℕ → List ℕ
send_offered c storage hdr present buf clock = when (send_writes c storage hdr present (length buf) clock) (take (decoded hdr).len buf) []

abbrev pub send_offers : SendIn → List ℕ
send_offers i = send_offered i.conn (length i.store) i.hdr i.present i.buf i.clock

pub record AskedLeft : Type 0 where
  pub answer : Told
  pub reads : Bool
  pub count : ℕ

-- `recv_pkt` reads from the stream
unfoldable pub recv_reads : VsockConnection → ℕ → Bool → ℕ → ℕ → Bool
recv_reads c hdr present buf clock = is_done (recv_door c hdr present buf clock) && reads_of c present

-- and for how many bytes its read asks, which may be none; the answer is its door's
unfoldable pub recv_asked : VsockConnection → ℕ → Bool → ℕ → ℕ → AskedLeft
recv_asked c hdr present buf clock = record {
  answer = told (recv_door c hdr present buf clock);
  reads = recv_reads c hdr present buf clock;
  count = when (recv_reads c hdr present buf clock) (asked_of c buf) 0;
}

abbrev pub recv_asks : RecvIn → AskedLeft
recv_asks i = recv_asked i.conn (length i.hdr) i.present (length i.buf) i.clock

-- how many bytes of the answer to its read it takes
unfoldable pub recv_taken : RecvIn → ℕ
recv_taken i = when_done (refusal_of i) (said_by i).count 0

-- `notify` flushes: an out-event, and the ring isn't empty
unfoldable pub notify_flushes : VsockConnection → Bool → ℕ → Bool
notify_flushes c writable storage = is_done (notify_door c storage) && flush_due c writable

-- what it offers: all that is held, in two pieces, the second only if the first was taken whole
unfoldable pub notify_offered : VsockConnection → Bool → List ℕ → List ℕ
notify_offered c writable store = when (notify_flushes c writable (length store)) (held c.tx_buf store) []

abbrev pub notify_offers : NotifyIn → List ℕ
notify_offers i = notify_offered i.conn i.writable i.store

-- the first piece
unfoldable pub notify_first : VsockConnection → Bool → List ℕ → List ℕ
notify_first c writable store = when (notify_flushes c writable (length store)) (first_piece c.tx_buf store) []

-- the second
unfoldable pub notify_second : VsockConnection → Bool → List ℕ → List ℕ
notify_second c writable store = when (notify_flushes c writable (length store)) (second_piece c.tx_buf store) []

-- the raw send offers its bytes
unfoldable pub raw_offered : VsockConnection → List ℕ → List ℕ
raw_offered c buf = when (is_done (raw_door c (length buf))) buf []

-- ---- THE STATEMENTS of the functions that tell so, of what a call is given besides the stream's answers

pub record SendGiven : Type 0 where
  pub conn : VsockConnection
  pub store : List ℕ
  pub hdr : List ℕ
  pub present : Bool
  pub buf : List ℕ
  pub clock : ℕ

-- of a packet: what is answered before the stream is asked, whether a write is made, and what is offered
abbrev pub SendDoorSays : SendGiven → Told → Type 0
SendDoorSays g t = t ≡ told (send_door g.conn (length g.store) g.hdr g.present (length g.buf) g.clock)

abbrev pub SendWritesSays : SendGiven → Bool → Type 0
SendWritesSays g r = r ≡ send_writes g.conn (length g.store) g.hdr g.present (length g.buf) g.clock

abbrev pub SendOfferedSays : SendGiven → List ℕ → Type 0
SendOfferedSays g r = r ≡ send_offered g.conn (length g.store) g.hdr g.present g.buf g.clock

pub record RecvGiven : Type 0 where
  pub conn : VsockConnection
  pub hdr : List ℕ
  pub present : Bool
  pub buf : List ℕ
  pub clock : ℕ

-- of a turn to speak
abbrev pub RecvDoorSays : RecvGiven → Told → Type 0
RecvDoorSays g t = t ≡ told (recv_door g.conn (length g.hdr) g.present (length g.buf) g.clock)

abbrev pub RecvAskedSays : RecvGiven → AskedLeft → Type 0
RecvAskedSays g r = r ≡ recv_asked g.conn (length g.hdr) g.present (length g.buf) g.clock

-- of an event, an out-event or none
abbrev pub NotifyDoorSays : VsockConnection → List ℕ → Told → Type 0
NotifyDoorSays c store t = t ≡ told (notify_door c (length store))

abbrev pub NotifyOfferedSays : VsockConnection → Bool → List ℕ → List ℕ → Type 0
NotifyOfferedSays c writable store r = r ≡ notify_first c writable store

abbrev pub NotifyNextSays : VsockConnection → Bool → List ℕ → List ℕ → Type 0
NotifyNextSays c writable store r = r ≡ notify_second c writable store

-- of the raw send
abbrev pub RawDoorSays : VsockConnection → List ℕ → Told → Type 0
RawDoorSays c buf t = t ≡ told (raw_door c (length buf))

abbrev pub RawOfferedSays : VsockConnection → List ℕ → List ℕ → Type 0
RawOfferedSays c buf r = r ≡ raw_offered c buf
