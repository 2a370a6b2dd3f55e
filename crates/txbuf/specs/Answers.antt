-- Which number a call on a ring answers (01, "What comes back"): n exactly when row n is given and no lower row, in 01's words over what the call is
-- given. Assumes nothing.
use Rattle.std.specs.Prelude.{ℕ, ◌+◌, ◌<◌, ◌≤◌, ◌≡◌, true, false, List, [], ◌∷◌, length}
use Rattle.defs.specs.Look.{LenLeft, LenSays, FlagLeft, FlagSays}
use Rattle.defs.specs.Promises.{AnswersInTurn, PowerOfTwo}
use Rattle.defs.specs.Stream.{stops}
use Rattle.txbuf.specs.Record.{used_of, is_empty, look_answer, NewLeft, NewSays}
use Rattle.txbuf.specs.Push.{PushIn, PushLeft, PushSays, NumberedLeft, NumberedSays}
use Rattle.txbuf.specs.Flush.{FlushIn, FlushLeft, FlushSays}
use Rattle.txbuf.specs.Means.{bytes_held, Sound, SoundOver, counted_now, CountsTooMuch}
use Rattle.txbuf.specs.declared.record.TxBuf.{TxBuf}

-- `push`: 1 not sound, 4 over 65,536 bytes, 9 held plus new exceeds R
abbrev pub push_rows : PushIn → List (ℕ × Type 0)
push_rows i =
    (1, SoundOver i.ring (length i.store) → ⊥)
    ∷ (4, 65536 < length i.src)
    ∷ (9, i.ring.size < bytes_held i.ring + length i.src)
    ∷ []

abbrev pub PushAnswers : Type 0
PushAnswers = (i : PushIn) (left : PushLeft) → PushSays i left → AnswersInTurn left.answer (push_rows i)

-- the same under its C name
abbrev pub NumberedAnswers : Type 0
NumberedAnswers = (i : PushIn) (left : NumberedLeft) → NumberedSays i left → AnswersInTurn (record { number = left.number; failed = false }) (push_rows i)

-- `flush_to`: 1 not sound, 5 an answer that is used counts too much, 6 no room for the bytes taken, 10 the first write blocks or fails
abbrev pub flush_rows : FlushIn → List (ℕ × Type 0)
flush_rows i =
    (1, SoundOver i.ring (length i.store) → ⊥)
    ∷ (5, CountsTooMuch i.ring i.answers)
    ∷ (6, length i.out < counted_now i.ring i.answers)
    ∷ (10, (0 < bytes_held i.ring) × (stops i.answers.first ≡ true))
    ∷ []

abbrev pub FlushAnswers : Type 0
FlushAnswers = (i : FlushIn) (left : FlushLeft) → FlushSays i left → AnswersInTurn left.answer (flush_rows i)

-- `new`: 1 exactly where R is out of range
abbrev pub NewAnswers : Type 0
NewAnswers = (size : ℕ) (left : NewLeft) → NewSays size left → AnswersInTurn left.answer ((1, PowerOfTwo size × (16 ≤ size) × (size ≤ 1048576) → ⊥) ∷ [])

-- `len` and `is_empty`: 1 exactly where the record, no storage being lent, is not sound
pub record LookAnswers : Type 0 where
  pub len : (b : TxBuf) (left : LenLeft) → LenSays (look_answer b) (used_of b) left → AnswersInTurn left.answer ((1, Sound b → ⊥) ∷ [])
  pub is_empty : (b : TxBuf) (left : FlagLeft) → FlagSays (look_answer b) (is_empty b) left → AnswersInTurn left.answer ((1, Sound b → ⊥) ∷ [])
