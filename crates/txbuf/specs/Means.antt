-- What a sound ring is, and which answers a flush uses, said a second time: in 01's words, apart from the tests that the code follows. Assumes nothing.
use Rattle.std.specs.Prelude.{ℕ, ◌+◌, ◌-◌, ◌%◌, ◌<◌, ◌≤◌, min, ◌≡◌, ◌⊎◌, Bool, true, ◌&&◌, ltb, eqb}
use Rattle.defs.specs.Choice.{when}
use Rattle.defs.specs.Promises.{Exactly, PowerOfTwo}
use Rattle.defs.specs.Stream.{counted}
use Rattle.defs.specs.Wrapping.{wsub}
use Rattle.defs.specs.declared.stream.StreamAnswers.{StreamAnswers}
use Rattle.txbuf.specs.Record.{sound_record, sound_of}
use Rattle.txbuf.specs.declared.record.TxBuf.{TxBuf}

-- how many bytes are held: head minus tail, 32-bit wrapping
abbrev pub bytes_held : TxBuf → ℕ
bytes_held b = wsub b.head b.tail

-- 01, "The numbers of a connection": R is a power of two from 16 to 1,048,576, and head minus tail is at most R
pub record Sound (b : TxBuf) : Type 0 where
  pub power : PowerOfTwo b.size
  pub least : 16 ≤ b.size
  pub most : b.size ≤ 1048576
  pub within : bytes_held b ≤ b.size

-- and the ring storage, of so many bytes, is exactly R
abbrev pub SoundOver : TxBuf → ℕ → Type 0
SoundOver b storage = Sound b × (storage ≡ b.size)

pub record SoundMeans : Type 0 where
  pub alone : (b : TxBuf) → Exactly (sound_record b ≡ true) (Sound b)
  pub over : (b : TxBuf) (storage : ℕ) → Exactly (sound_of b storage ≡ true) (SoundOver b storage)

-- ---- a flush

-- the first piece: from the tail to the storage's end or the head, whichever is nearer
abbrev pub first_length : TxBuf → ℕ
first_length b = min (b.size - b.tail % b.size) (bytes_held b)

-- the second: what is left
abbrev pub second_length : TxBuf → ℕ
second_length b = bytes_held b - first_length b

-- the first answer is used where something is held
abbrev pub uses_first : TxBuf → Bool
uses_first b = ltb 0 (bytes_held b)

-- the second where the first counts the whole first piece and something is left
abbrev pub uses_second : TxBuf → StreamAnswers → Bool
uses_second b a = eqb (counted a.first) (first_length b) && ltb 0 (second_length b)

-- the bytes that the used answers count
abbrev pub counted_now : TxBuf → StreamAnswers → ℕ
counted_now b a = when (uses_first b) (counted a.first) 0 + when (uses_second b a) (counted a.second) 0

-- 01, answer 5: an answer that is used counts more than was asked
abbrev pub CountsTooMuch : TxBuf → StreamAnswers → Type 0
CountsTooMuch b a =
    ((uses_first b ≡ true) × (first_length b < counted a.first)) ⊎ ((uses_second b a ≡ true) × (second_length b < counted a.second))
