-- The refusal ladder (01, "What comes back"): of several refusals the lowest number. Assumes nothing.
use Rattle.std.specs.Prelude.{ℕ, Bool, false, not, Err}
use Rattle.defs.specs.Choice.{when}
use Rattle.defs.specs.Answer.{Answer, done, when_done}
use Rattle.defs.specs.Limits.{is_clock}
use Rattle.defs.specs.declared.answer.Refusal.TheVariants.{BadRecord, BadHeader, BadClock, BadLength, BadAnswer, NoRoom}

-- refusals 1 to 4, which look at no answer of the stream, by the tests of their rows
unfoldable pub door_of : (record_bad header_bad clock_bad length_bad : Bool) → Answer
door_of r h c l = when r (Err BadRecord) (when h (Err BadHeader) (when c (Err BadClock) (when l (Err BadLength) done)))

-- refusals 5 and 6, which judge what the stream answered
unfoldable pub late_of : (answer_bad no_room : Bool) → Answer
late_of a n = when a (Err BadAnswer) (when n (Err NoRoom) done)

-- the first part's refusal, else the second's: further rungs go between a door and its late rungs
unfoldable pub lowest_of : Answer → Answer → Answer
lowest_of first second = when_done first second first

-- the whole answer of a call that tests nothing but its record: 1, exactly where it is not sound
unfoldable pub record_answer : Bool → Answer
record_answer sound = door_of (not sound) false false false

-- and of one that tests its record and its clock: 1, then 3
unfoldable pub clock_answer : Bool → ℕ → Answer
clock_answer sound ms = door_of (not sound) false (not (is_clock ms)) false
