-- `send_bytes_raw`: one write, no account (01, answers 4, 5, 6, 10). Assumes nothing.
use Rattle.std.specs.Prelude.{ℕ, ◌≡◌, false, not, List, ◌++◌, length, take, drop, ltb}
use Rattle.defs.specs.Answer.{Told, told, when_done, Answer, done}
use Rattle.defs.specs.Limits.{is_packet_length}
use Rattle.defs.specs.Stream.{counted, stopped_by}
use Rattle.defs.specs.Ladder.{door_of, late_of, lowest_of}
use Rattle.defs.specs.declared.stream.StreamAnswers.{StreamAnswers}
use Rattle.rules.specs.Record.{sound_conn}
use Rattle.rules.specs.declared.record.VsockConnection.{VsockConnection}

pub record RawIn : Type 0 where
  pub conn : VsockConnection
  pub buf : List ℕ
  pub answers : StreamAnswers
  pub out : List ℕ

pub record RawLeft : Type 0 where
  pub answer : Told
  pub count : ℕ
  pub out : List ℕ

-- what the one write takes
abbrev pub raw_count : RawIn → ℕ
raw_count i = counted i.answers.first

-- THE DOOR of `send_bytes_raw`: 01's table, 1 and 4
unfoldable pub raw_door : VsockConnection → ℕ → Answer
raw_door c buf = door_of (not (sound_conn c)) false false (not (is_packet_length buf))

-- then 5 and 6, then 10 by the one write
unfoldable pub raw_answer : RawIn → Answer
raw_answer i =
    lowest_of
    (lowest_of (raw_door i.conn (length i.buf))
    (late_of (ltb (length i.buf) (raw_count i)) (ltb (length i.out) (raw_count i))))
    (stopped_by i.answers.first)

-- what the stream took stands at the front of the outgoing buffer
unfoldable pub raw_done : RawIn → RawLeft
raw_done i = record { answer = told done; count = raw_count i; out = take (raw_count i) i.buf ++ drop (raw_count i) i.out }

-- refused, blocked or failed: nothing changed
unfoldable pub raw_kept : RawIn → RawLeft
raw_kept i = record { answer = told (raw_answer i); count = 0; out = i.out }

unfoldable pub raw_of : RawIn → RawLeft
raw_of i = when_done (raw_answer i) (raw_done i) (raw_kept i)

-- THE STATEMENT of `send_bytes_raw`
abbrev pub RawSays : RawIn → RawLeft → Type 0
RawSays i left = left ≡ raw_of i
