-- `flush_to` and the first piece (01, "The ring"). Assumes nothing.
use Rattle.std.specs.Prelude.{ℕ, ◌+◌, ◌-◌, ◌%◌, min, ◌≡◌, Bool, false, not, ◌&&◌, ◌||◌, List, [], ◌∷◌, ◌++◌, length, take, drop, ltb, eqb, Result}
use Rattle.defs.specs.Choice.{when}
use Rattle.defs.specs.Answer.{Told, Answer, told, done, when_done, answer_of, given_or}
use Rattle.defs.specs.Stream.{counted, stopped_by}
use Rattle.defs.specs.Ladder.{late_of, lowest_of, record_answer}
use Rattle.defs.specs.Wrapping.{wadd}
use Rattle.defs.specs.Copying.{copied}
use Rattle.defs.specs.declared.answer.Refusal.{Refusal}
use Rattle.defs.specs.declared.stream.StreamAnswer.{StreamAnswer}
use Rattle.defs.specs.declared.stream.StreamAnswers.{StreamAnswers}
use Rattle.txbuf.specs.Record.{used_of, sound_of, held}
use Rattle.txbuf.specs.declared.record.TxBuf.{TxBuf}
use Rattle.txbuf.specs.declared.flush.Flushed.{Flushed}

-- how many of n bytes held from the place t on are offered: to the storage's end or the head, whichever is nearer
abbrev pub piece_len : ℕ → ℕ → ℕ → ℕ
piece_len size t n = min (size - t % size) n

-- the piece that would be offered first, a part of the storage; none of a ring that is not sound
unfoldable pub first_piece : TxBuf → List ℕ → List ℕ
first_piece b store =
    when (sound_of b (length store)) (take (piece_len b.size b.tail (used_of b)) (drop (b.tail % b.size) store)) []

-- ---- what the stream takes, by its answers in turn: the rule for a piece, applied again to what is left where that was taken whole

-- how many bytes are taken of n held from the place t on
unfoldable pub taken_by : ℕ → ℕ → ℕ → List StreamAnswer → ℕ
taken_by size t n [] = 0
taken_by size t n (a ∷ later) =
    when (eqb n 0) 0
    (counted a + when (eqb (counted a) (piece_len size t n)) (taken_by size (t + piece_len size t n) (n - piece_len size t n) later) 0)

-- whether an answer that is reached counts more than was offered
unfoldable pub over_by : ℕ → ℕ → ℕ → List StreamAnswer → Bool
over_by size t n [] = false
over_by size t n (a ∷ later) =
    not (eqb n 0)
    && (ltb (piece_len size t n) (counted a)
    || eqb (counted a) (piece_len size t n) && over_by size (t + piece_len size t n) (n - piece_len size t n) later)

-- how it ends: done, or 10 where a first write was due and blocked or failed
unfoldable pub ends_by : ℕ → StreamAnswer → Answer
ends_by n a = when (eqb n 0) done (stopped_by a)

-- ---- the call

pub record FlushIn : Type 0 where
  pub ring : TxBuf
  pub store : List ℕ
  pub answers : StreamAnswers
  pub out : List ℕ

pub record FlushLeft : Type 0 where
  pub answer : Told
  pub count : ℕ
  pub ring : TxBuf
  pub out : List ℕ

-- what a flush gives; where it is refused nothing is counted, and the ring stays
abbrev pub flushed_or : TxBuf → Result Flushed Refusal → Flushed
flushed_or b r = given_or (record { count = 0; ring = b }) r

-- what is seen of it: its answer, what it counts, the ring and the outgoing buffer
abbrev pub flush_seen : TxBuf → Result Flushed Refusal → List ℕ → FlushLeft
flush_seen b r out = record { answer = told (answer_of r); count = (flushed_or b r).count; ring = (flushed_or b r).ring; out = out }

abbrev pub in_turn : FlushIn → List StreamAnswer
in_turn i = i.answers.first ∷ i.answers.second ∷ []

unfoldable pub flush_count : FlushIn → ℕ
flush_count i = taken_by i.ring.size i.ring.tail (used_of i.ring) (in_turn i)

unfoldable pub flush_over : FlushIn → Bool
flush_over i = over_by i.ring.size i.ring.tail (used_of i.ring) (in_turn i)

-- 01's table: 1; 5 on both pieces, then 6 on the bytes of both; then how it ends
unfoldable pub flush_answer : FlushIn → Answer
flush_answer i =
    lowest_of
    (lowest_of (record_answer (sound_of i.ring (length i.store))) (late_of (flush_over i) (ltb (length i.out) (flush_count i))))
    (ends_by (used_of i.ring) i.answers.first)

-- a ring with so many bytes taken from its tail
abbrev pub advanced : TxBuf → ℕ → TxBuf
advanced b n = record { size = b.size; head = b.head; tail = wadd b.tail n }

-- the piece that would be offered next, were the first taken whole: the same rule applied again to what is left
unfoldable pub second_piece : TxBuf → List ℕ → List ℕ
second_piece b store = first_piece (advanced b (length (first_piece b store))) store

-- the oldest bytes, as many as were taken, stand at the front of the outgoing buffer, the rest of which stays
unfoldable pub flush_done : FlushIn → FlushLeft
flush_done i = record {
  answer = told done;
  count = flush_count i;
  ring = advanced i.ring (flush_count i);
  out = take (flush_count i) (held i.ring i.store) ++ drop (flush_count i) i.out;
}

-- a refusal changes nothing, and counts nothing
unfoldable pub flush_kept : FlushIn → FlushLeft
flush_kept i = record { answer = told (flush_answer i); count = 0; ring = i.ring; out = i.out }

unfoldable pub flush_of : FlushIn → FlushLeft
flush_of i = when_done (flush_answer i) (flush_done i) (flush_kept i)

-- THE STATEMENT of `flush_to`
abbrev pub FlushSays : FlushIn → FlushLeft → Type 0
FlushSays i left = left ≡ flush_of i

-- ---- within a flush: a piece was taken, and a flush of what was left answered by a number and a count

unfoldable pub finish_answer : ℕ → ℕ → ℕ → Answer
finish_answer number bytes room = late_of (eqb number 5) (eqb number 6 || ltb room bytes)

unfoldable pub finish_of : TxBuf → List ℕ → ℕ → ℕ → List ℕ → FlushLeft
finish_of b piece number count out =
    when_done (finish_answer number (length piece) (length out))
    (record { answer = told done; count = length piece + count; ring = advanced b (length piece + count); out = copied out piece })
    (record { answer = told (finish_answer number (length piece) (length out)); count = 0; ring = b; out = out })
