-- What this crate promises, in statements only; proofs/Promises has a line for each. Assumes nothing.
use Rattle.std.specs.Prelude.{◌≡◌, ℕ, ◌+◌, ◌-◌, ◌%◌, ◌^◌, ◌<◌, ◌≤◌, Bool, true, false, ◌⊎◌, List, [], ◌∷◌, ◌≢◌, slice_index_or}
use Rattle.defs.specs.Answer.{Told, Answer, told, is_done}
use Rattle.defs.specs.Limits.{is_ring_size, is_threshold, is_timeout, is_rxq_limit, is_killq_limit, is_slot_count, is_clock, is_packet_length, is_header_length}
use Rattle.defs.specs.Ladder.{door_of, late_of, lowest_of, record_answer, clock_answer}
use Rattle.defs.specs.Look.{FlagLeft, FlagSays, LenLeft, LenSays}
use Rattle.defs.specs.Stream.{counted, failed, stops, stopped_by, blocks}
use Rattle.defs.specs.Wrapping.{wadd, wsub}
use Rattle.defs.specs.Credit.{peer_avail_credit, peer_needs_credit_update}
use Rattle.defs.specs.Reading.{Hold}
use Rattle.defs.specs.Edges.{reading_e, reading_h}
use Rattle.defs.specs.declared.stream.StreamAnswer.{StreamAnswer}
use Rattle.defs.specs.declared.stream.StreamAnswer.TheVariants.{Count, WouldBlock, Failed}

-- each of the two facts holds where the other does
abbrev pub Exactly : Type 0 → Type 0 → Type 0
Exactly p q = (p → q) × (q → p)

-- 01, "When an answer is an enum": number and values tell the cases apart
abbrev pub ToldTellsApart : Type 0
ToldTellsApart = (a b : Answer) → told a ≡ told b → a ≡ b

-- done is number 0 alone
abbrev pub DoneIsZero : Type 0
DoneIsZero = (a : Answer) → Exactly (is_done a ≡ true) ((told a).number ≡ 0)

-- row i of a list of rows, each a number of 01's table and when it is given; past the last stands 0, "otherwise"
abbrev pub row_at : List (ℕ × Type 0) → ℕ → ℕ × Type 0
row_at rows i = slice_index_or rows i (0, Unit)

-- a row of this number is given, and none before it
abbrev pub FirstInTurn : List (ℕ × Type 0) → ℕ → Type 0
FirstInTurn rows n = (i : ℕ) × ((row_at rows i).0 ≡ n) × (row_at rows i).1 × ((j : ℕ) → j < i → (row_at rows j).1 → ⊥)

-- 01's "given exactly when" and "several at once: the lowest number": rows stand in the order in which they are tried
pub record AnswersInTurn (t : Told) (rows : List (ℕ × Type 0)) : Type 0 where
  pub exactly : (n : ℕ) → Exactly (t.number ≡ n) (FirstInTurn rows n)

-- a refusal that changes nothing: a number from 1 to 6
abbrev pub Refuses : Told → Type 0
Refuses t = (1 ≤ t.number) × (t.number ≤ 6)

-- the ladder does so, rows 1 to 6
abbrev pub LowestNumber : Type 0
LowestNumber =
    (r h c l a m : Bool)
    → AnswersInTurn (told (lowest_of (door_of r h c l) (late_of a m)))
    ((1, r ≡ true) ∷ (2, h ≡ true) ∷ (3, c ≡ true) ∷ (4, l ≡ true) ∷ (5, a ≡ true) ∷ (6, m ≡ true) ∷ [])

-- so does a call that tests nothing but its record, and one that tests its clock besides
abbrev pub RecordAnswers : Type 0
RecordAnswers = (sound : Bool) → AnswersInTurn (told (record_answer sound)) ((1, sound ≡ false) ∷ [])

abbrev pub ClockAnswers : Type 0
ClockAnswers = (sound : Bool) (ms : ℕ) → AnswersInTurn (told (clock_answer sound ms)) ((1, sound ≡ false) ∷ (3, 2 ^ 62 < ms) ∷ [])

-- where it is not done, a call that only looks tells nothing: no, or 0
pub record RefusedTellsNothing : Type 0 where
  pub flag : (a : Answer) (value : Bool) (left : FlagLeft) → FlagSays a value left → (left.answer.number ≢ 0) → left.holds ≡ false
  pub len : (a : Answer) (value : ℕ) (left : LenLeft) → LenSays a value left → (left.answer.number ≢ 0) → left.len ≡ 0

-- 01: an answer from the stream is a count, a would-block or a failure. Only a count takes or brings bytes; a direct call ends by 10 where its first write
-- blocks or fails, and the answer tells which
pub record StreamMeans : Type 0 where
  pub takes : (a : StreamAnswer) (n : ℕ) → 0 < n → Exactly (counted a ≡ n) (a ≡ Count n)
  pub fails : (a : StreamAnswer) → Exactly (failed a ≡ true) (a ≡ Failed)
  pub stops : (a : StreamAnswer) → Exactly (stops a ≡ true) ((a ≡ WouldBlock) ⊎ (a ≡ Failed))
  pub ten : (a : StreamAnswer) → Exactly ((told (stopped_by a)).number ≡ 10) ((a ≡ WouldBlock) ⊎ (a ≡ Failed))
  pub which : (a : StreamAnswer) → Exactly ((told (stopped_by a)).failed ≡ true) (a ≡ Failed)
  pub blocks : (a : StreamAnswer) → Exactly (blocks a ≡ true) (a ≡ WouldBlock)

-- a power of two
abbrev pub PowerOfTwo : ℕ → Type 0
PowerOfTwo size = (k : ℕ) × (size ≡ 2 ^ k)

-- the quick test of a ring's size says what 01 says: a power of two from 16 to 1,048,576
abbrev pub RingSizes : Type 0
RingSizes = (size : ℕ) → Exactly (is_ring_size size ≡ true) (PowerOfTwo size × (16 ≤ size) × (size ≤ 1048576))

-- so does every other test of a number: 01's limits ("The numbers of a connection", "The stream, the clock, the header") as numbers
pub record LimitsMean : Type 0 where
  pub threshold : (t size : ℕ) → Exactly (is_threshold t size ≡ true) ((1 ≤ t) × (t ≤ size))
  pub timeout : (ms : ℕ) → Exactly (is_timeout ms ≡ true) ((1 ≤ ms) × (ms ≤ 60000))
  pub rxq : (limit : ℕ) → Exactly (is_rxq_limit limit ≡ true) ((1 ≤ limit) × (limit ≤ 512))
  pub killq : (limit : ℕ) → Exactly (is_killq_limit limit ≡ true) ((1 ≤ limit) × (limit ≤ 128))
  pub slots : (slots : ℕ) → Exactly (is_slot_count slots ≡ true) ((1 ≤ slots) × (slots ≤ 1024))
  pub clock : (ms : ℕ) → Exactly (is_clock ms ≡ true) (ms ≤ 2 ^ 62)
  pub packet : (bytes : ℕ) → Exactly (is_packet_length bytes ≡ true) (bytes ≤ 65536)
  pub header : (bytes : ℕ) → Exactly (is_header_length bytes ≡ true) (bytes ≡ 44)

-- wrapping sums and differences are those of the numbers modulo 2^32
pub record WrapsAround : Type 0 where
  pub sums : (a b c : ℕ) → wadd (wadd a b) c ≡ wadd a (b + c)
  pub back : (a b : ℕ) → a < 2 ^ 32 → b < 2 ^ 32 → wsub (wadd a b) a ≡ b
  pub forth : (a b : ℕ) → a < 2 ^ 32 → b < 2 ^ 32 → wadd b (wsub a b) ≡ a

-- a ring's size divides 2^32, so a wrapping count keeps its place in the ring
pub record KeepsPlace : Type 0 where
  pub divides : (size : ℕ) → is_ring_size size ≡ true → 2 ^ 32 % size ≡ 0
  pub sum : (size a b : ℕ) → is_ring_size size ≡ true → wadd a b % size ≡ (a + b) % size
  pub difference : (size a b : ℕ) → is_ring_size size ≡ true → b < 2 ^ 32 → (wsub a b + b) % size ≡ a % size

-- the standard's formula over true counts: credit is the free space, and 0 where an allocation shrank below what is outstanding (a difference stops at 0)
abbrev pub CreditIsFreeSpace : Type 0
CreditIsFreeSpace =
    (alloc sent fwd : ℕ) → fwd ≤ sent → sent - fwd < 2 ^ 32 → peer_avail_credit alloc (sent % 2 ^ 32) (fwd % 2 ^ 32) ≡ alloc - (sent - fwd)

-- the threshold rule over true counts: the guest was told `told` and has sent at least `fwd`, so by what it knows at most R - (fwd - told) bytes are
-- free. An update is set exactly when that is below T; past R, which only a guest that heeds no credit reaches, none is (reading e, 17)
abbrev pub ThresholdTells : Type 0
ThresholdTells =
    (size threshold fwd told : ℕ) → threshold ≤ size → size < 2 ^ 32 → told ≤ fwd → fwd - told < 2 ^ 32
    → Exactly (peer_needs_credit_update size threshold (fwd % 2 ^ 32) (told % 2 ^ 32) ≡ true) ((fwd - told ≤ size) × (size - (fwd - told) < threshold))

-- 01's readings at the edges of this crate
pub record EdgesHold : Type 0 where
  pub e : Hold reading_e
  pub h : Hold reading_h
