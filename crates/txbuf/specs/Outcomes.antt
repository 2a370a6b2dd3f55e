-- What a call on a ring leaves, said a second time: over what it was given and what it left, in 01's words, apart from the definitions that the code
-- follows, so that a wrong behaviour put into both is refused here. Assumes nothing.
use Rattle.std.specs.Prelude.{ℕ, ◌+◌, ◌%◌, ◌<◌, ◌≡◌, true, false, length, get_or, drop}
use Rattle.defs.specs.Look.{LenLeft, LenSays, FlagLeft, FlagSays}
use Rattle.defs.specs.Promises.{Exactly, Refuses}
use Rattle.defs.specs.Stream.{failed}
use Rattle.defs.specs.declared.stream.StreamAnswer.{StreamAnswer}
use Rattle.defs.specs.declared.stream.StreamAnswers.{StreamAnswers}
use Rattle.txbuf.specs.Record.{Wide, used_of, is_empty, look_answer, NewLeft, NewSays}
use Rattle.txbuf.specs.Push.{PushIn, PushLeft, PushSays, NumberedLeft, NumberedSays}
use Rattle.txbuf.specs.Flush.{FlushIn, FlushLeft, FlushSays}
use Rattle.txbuf.specs.Means.{bytes_held, Sound, SoundOver, uses_second, counted_now}
use Rattle.txbuf.specs.declared.record.TxBuf.{TxBuf}

-- ---- refusals

-- answers 1 to 6 change nothing and count nothing; a refused `new` gives the all-zero record
pub record RefusalsChangeNothing : Type 0 where
  pub push : (i : PushIn) (o : PushLeft) → PushSays i o → Refuses o.answer → (o.ring ≡ i.ring) × (o.store ≡ i.store)
  pub flush : (i : FlushIn) (o : FlushLeft) → FlushSays i o → Refuses o.answer → (o.ring ≡ i.ring) × (o.out ≡ i.out) × (o.count ≡ 0)
  pub new : (size : ℕ) (o : NewLeft) → NewSays size o → Refuses o.answer → o.ring ≡ record { size = 0; head = 0; tail = 0 }

-- nor do 9 (and whatever `push` under its C name answers but 0) and 10, which tells whether the first write failed
pub record NineAndTenChangeNothing : Type 0 where
  pub push : (i : PushIn) (o : PushLeft) → PushSays i o → o.answer.number ≡ 9 → (o.ring ≡ i.ring) × (o.store ≡ i.store)
  pub numbered : (i : PushIn) (o : NumberedLeft) → NumberedSays i o → (o.number ≡ 0 → ⊥) → o.store ≡ i.store
  pub flush : (i : FlushIn) (o : FlushLeft) → FlushSays i o → o.answer.number ≡ 10
      → (o.ring ≡ i.ring) × (o.out ≡ i.out) × (o.count ≡ 0) × (o.answer.failed ≡ failed i.answers.first)

-- ---- what is done

-- a ring that a call leaves is sound, over the same storage
pub record SoundStaysSound : Type 0 where
  pub push : (i : PushIn) (o : PushLeft) → Wide i.ring → PushSays i o → o.answer.number ≡ 0 → SoundOver o.ring (length o.store)
  pub flush : (i : FlushIn) (o : FlushLeft) → Wide i.ring → FlushSays i o → o.answer.number ≡ 0 → SoundOver o.ring (length i.store)
  pub new : (size : ℕ) (o : NewLeft) → NewSays size o → o.answer.number ≡ 0 → Sound o.ring

-- a new ring has the size that was asked for, and is empty, as in the Rust with head and tail 0
abbrev pub NewIsEmpty : Type 0
NewIsEmpty = (size : ℕ) (o : NewLeft) → NewSays size o → o.answer.number ≡ 0 → (o.ring.size ≡ size) × (o.ring.head ≡ 0) × (o.ring.tail ≡ 0)

-- a push writes its bytes from the head offset on, modulo R, leaves every other place of the storage, and so many more are held
pub record PushMeans (i : PushIn) (o : PushLeft) : Type 0 where
  pub size : o.ring.size ≡ i.ring.size
  pub tail : o.ring.tail ≡ i.ring.tail
  pub held : bytes_held o.ring ≡ bytes_held i.ring + length i.src
  pub bytes : (k : ℕ) → k < length i.src → get_or o.store ((i.ring.head + k) % i.ring.size) 0 ≡ get_or i.src k 0
  pub others : (place : ℕ) → ((k : ℕ) → k < length i.src → (i.ring.head + k) % i.ring.size ≡ place → ⊥) → get_or o.store place 0 ≡ get_or i.store place 0

abbrev pub EveryPushMeans : Type 0
EveryPushMeans = (i : PushIn) (o : PushLeft) → Wide i.ring → PushSays i o → o.answer.number ≡ 0 → PushMeans i o

-- under its C name it answers the number of `push`, and leaves its storage
abbrev pub NumberedIsPush : Type 0
NumberedIsPush = (i : PushIn) (o : NumberedLeft) (p : PushLeft) → NumberedSays i o → PushSays i p → (o.number ≡ p.answer.number) × (o.store ≡ p.store)

-- a flush takes the bytes that the used answers count from the tail offset on, modulo R, to the front of the outgoing buffer, the rest of which stays,
-- and so many fewer are held
pub record FlushMeans (i : FlushIn) (o : FlushLeft) : Type 0 where
  pub size : o.ring.size ≡ i.ring.size
  pub head : o.ring.head ≡ i.ring.head
  pub count : o.count ≡ counted_now i.ring i.answers
  pub held : bytes_held o.ring + o.count ≡ bytes_held i.ring
  pub bytes : (k : ℕ) → k < o.count → get_or o.out k 0 ≡ get_or i.store ((i.ring.tail + k) % i.ring.size) 0
  pub length : length o.out ≡ length i.out
  pub others : drop o.count o.out ≡ drop o.count i.out

abbrev pub EveryFlushMeans : Type 0
EveryFlushMeans = (i : FlushIn) (o : FlushLeft) → Wide i.ring → FlushSays i o → o.answer.number ≡ 0 → FlushMeans i o

-- the same flush with other answers
abbrev pub with_answers : FlushIn → StreamAnswers → FlushIn
with_answers i a = record { ring = i.ring; store = i.store; answers = a; out = i.out }

-- 01: an answer that isn't reached isn't looked at. The second, where it is not used; both, where the ring is empty or not sound (answer 1)
pub record UnreachedIsIgnored : Type 0 where
  pub second : (i : FlushIn) (y : StreamAnswer) (o other : FlushLeft) → FlushSays i o
      → FlushSays (with_answers i (record { first = i.answers.first; second = y })) other → uses_second i.ring i.answers ≡ false → o ≡ other
  pub both : (i : FlushIn) (a : StreamAnswers) (o other : FlushLeft) → FlushSays i o → FlushSays (with_answers i a) other → bytes_held i.ring ≡ 0 → o ≡ other
  pub unsound : (i : FlushIn) (a : StreamAnswers) (o other : FlushLeft) → FlushSays i o → FlushSays (with_answers i a) other
      → (SoundOver i.ring (length i.store) → ⊥) → o ≡ other

-- `len` and `is_empty` tell how many bytes are held, and whether none; `used` tells head minus tail of any record
pub record LooksMean : Type 0 where
  pub used : (b : TxBuf) → used_of b ≡ bytes_held b
  pub len : (b : TxBuf) (o : LenLeft) → LenSays (look_answer b) (used_of b) o → o.answer.number ≡ 0 → o.len ≡ bytes_held b
  pub is_empty : (b : TxBuf) (o : FlagLeft) → FlagSays (look_answer b) (is_empty b) o → o.answer.number ≡ 0 → Exactly (o.holds ≡ true) (bytes_held b ≡ 0)
