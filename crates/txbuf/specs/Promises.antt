-- What this crate promises besides specs/Means, specs/Answers and specs/Outcomes, in statements only; proofs/Promises has a line for each. Assumes nothing.
use Rattle.std.specs.Prelude.{ℕ, suc, ◌%◌, ◌<◌, ◌≤◌, ◌≡◌, true, List, [], ◌++◌, length, take, drop}
use Rattle.defs.specs.Answer.{told, done}
use Rattle.defs.specs.Reading.{Hold}
use Rattle.defs.specs.declared.stream.StreamAnswer.TheVariants.{Count}
use Rattle.txbuf.specs.Record.{Wide, used_of, sound_of, held}
use Rattle.txbuf.specs.Push.{runs, written, PushIn, PushLeft, PushSays}
use Rattle.txbuf.specs.Flush.{first_piece, second_piece, FlushIn, FlushLeft, FlushSays}
use Rattle.txbuf.specs.Means.{SoundOver, first_length}
use Rattle.txbuf.specs.Edges.{reading_bcd, reading_f, reading_r}
use Rattle.txbuf.specs.declared.record.TxBuf.{TxBuf}

-- the two runs of a push are one write, each byte at its place modulo the size
abbrev pub TwoRunsAreOneWrite : Type 0
TwoRunsAreOneWrite =
    (store src : List ℕ) (h : ℕ) → 0 < length store → length src ≤ length store → runs store (h % length store) src ≡ written store (length store) h src

-- as many bytes are held as `len` says
abbrev pub HeldIsCounted : Type 0
HeldIsCounted = (b : TxBuf) (store : List ℕ) → length (held b store) ≡ used_of b

-- a push that is done appends its bytes to those that are held
abbrev pub PushAppends : Type 0
PushAppends =
    (i : PushIn) (left : PushLeft) → Wide i.ring → PushSays i left → left.answer ≡ told done
    → held left.ring left.store ≡ held i.ring i.store ++ i.src

-- the first piece of a sound ring is the front of what is held, to the storage's end or the head
abbrev pub FirstPieceIsOldest : Type 0
FirstPieceIsOldest = (b : TxBuf) (store : List ℕ) → Wide b → SoundOver b (length store) → first_piece b store ≡ take (first_length b) (held b store)

-- a ring that is not sound has none, and no second
pub record UnsoundHasNoPiece : Type 0 where
  pub first : (b : TxBuf) (store : List ℕ) → (SoundOver b (length store) → ⊥) → first_piece b store ≡ []
  pub second : (b : TxBuf) (store : List ℕ) → Wide b → (SoundOver b (length store) → ⊥) → second_piece b store ≡ []

-- the two pieces of a sound ring are all that is held
abbrev pub PiecesAreHeld : Type 0
PiecesAreHeld = (b : TxBuf) (store : List ℕ) → Wide b → sound_of b (length store) ≡ true → first_piece b store ++ second_piece b store ≡ held b store

-- whatever a flush answers, the bytes that it counts are the oldest, they stand at the front of the outgoing buffer, and the rest is still held
pub record TakesOldest (i : FlushIn) (left : FlushLeft) : Type 0 where
  pub front : left.out ≡ take left.count (held i.ring i.store) ++ drop left.count i.out
  pub rest : take left.count (held i.ring i.store) ++ held left.ring i.store ≡ held i.ring i.store

abbrev pub FlushTakesOldest : Type 0
FlushTakesOldest = (i : FlushIn) (left : FlushLeft) → Wide i.ring → FlushSays i left → TakesOldest i left

-- a flush whose first write takes at least one byte leaves fewer held
abbrev pub FlushProgresses : Type 0
FlushProgresses =
    (i : FlushIn) (left : FlushLeft) (n : ℕ) → Wide i.ring → FlushSays i left → left.answer ≡ told done
    → i.answers.first ≡ Count (suc n) → 0 < used_of i.ring → used_of left.ring < used_of i.ring

-- 01's readings at the edges of this crate
pub record EdgesHold : Type 0 where
  pub bcd : Hold reading_bcd
  pub f : Hold reading_f
  pub r : Hold reading_r
