-- `notify` (01, section of that name). Assumes nothing.
use Rattle.std.specs.Prelude.{ℕ, ◌≡◌, Bool, true, false, not, ◌&&◌, List, length, eqb}
use Rattle.defs.specs.Choice.{when}
use Rattle.defs.specs.Answer.{Told, told, when_done, Answer, done}
use Rattle.defs.specs.Ladder.{lowest_of, record_answer}
use Rattle.defs.specs.Stream.{failed}
use Rattle.defs.specs.declared.stream.StreamAnswers.{StreamAnswers}
use Rattle.txbuf.specs.Flush.{FlushIn, FlushLeft, flush_answer, flush_of}
use Rattle.txbuf.specs.declared.record.TxBuf.{TxBuf}
use Rattle.csm.specs.State.{both_off}
use Rattle.csm.specs.Pending.{marked}
use Rattle.rules.specs.Record.{sound_over, quiet, with_state, killed_of}
use Rattle.rules.specs.Send.{moved_of, updated_of}
use Rattle.rules.specs.declared.record.VsockConnection.{VsockConnection}

-- in-event sets Rw
unfoldable pub seen_of : VsockConnection → Bool → VsockConnection
seen_of c readable = with_state c c.state c.expiry (marked c.pending_rx false readable false)

-- 01's table, number 10: only of direct calls; here the flush's answer is absorbed
unfoldable pub absorbed : Answer → Answer
absorbed a = when (eqb (told a).number 10) done a

-- then Rst if PeerClosed(true, true) and empty, else credit update by the threshold rule
unfoldable pub settled_of : VsockConnection → Bool → VsockConnection
settled_of c empty =
    when (both_off c.state && empty) (with_state c c.state c.expiry (marked c.pending_rx true false false)) (updated_of c)

-- add the count; a first-write failure kills, and nothing settles after it (2026-07); a would-block doesn't kill
unfoldable pub drained_of : VsockConnection → TxBuf → ℕ → Bool → Bool → VsockConnection
drained_of c ring taken empty fails = when fails (killed_of (moved_of c ring taken)) (settled_of (moved_of c ring taken) empty)

-- a flush is due: an out-event, and the ring isn't empty
abbrev pub flush_due : VsockConnection → Bool → Bool
flush_due c writable = writable && not (quiet c.tx_buf)

-- ---- the call

pub record NotifyIn : Type 0 where
  pub conn : VsockConnection
  pub readable : Bool
  pub writable : Bool
  pub store : List ℕ
  pub answers : StreamAnswers
  pub out : List ℕ

pub record NotifyLeft : Type 0 where
  pub answer : Told
  pub conn : VsockConnection
  pub out : List ℕ

-- of this event
abbrev pub due : NotifyIn → Bool
due i = flush_due i.conn i.writable

-- the flush that it makes, and what that leaves
abbrev pub flush_in : NotifyIn → FlushIn
flush_in i = record { ring = i.conn.tx_buf; store = i.store; answers = i.answers; out = i.out }

abbrev pub flushed : NotifyIn → FlushLeft
flushed i = flush_of (flush_in i)

-- THE DOOR of `notify`: 01's table, 1, of a record over a storage of so many bytes
unfoldable pub notify_door : VsockConnection → ℕ → Answer
notify_door c storage = record_answer (sound_over c storage)

-- then 5 and 6 where a flush is due
unfoldable pub notify_answer : NotifyIn → Answer
notify_answer i = lowest_of (notify_door i.conn (length i.store)) (when (due i) (absorbed (flush_answer (flush_in i))) done)

-- the in-event is seen; a flush that is due moves ring, count and bytes
unfoldable pub notify_done : NotifyIn → NotifyLeft
notify_done i = record {
  answer = told done;
  conn = when (due i) (drained_of (seen_of i.conn i.readable) (flushed i).ring (flushed i).count (quiet (flushed i).ring) (failed i.answers.first)) (seen_of i.conn i.readable);
  out = when (due i) (flushed i).out i.out;
}

-- 1, 5, 6: nothing changed
unfoldable pub notify_kept : NotifyIn → NotifyLeft
notify_kept i = record { answer = told (notify_answer i); conn = i.conn; out = i.out }

unfoldable pub notify_of : NotifyIn → NotifyLeft
notify_of i = when_done (notify_answer i) (notify_done i) (notify_kept i)

-- THE STATEMENT of `notify`
abbrev pub NotifySays : NotifyIn → NotifyLeft → Type 0
NotifySays i left = left ≡ notify_of i
