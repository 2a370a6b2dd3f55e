-- The stream's answers (01, "The stream, the clock, the header"). Assumes nothing.
use Rattle.std.specs.Prelude.{ℕ, Bool, true, false, Err}
use Rattle.defs.specs.declared.stream.StreamAnswer.{StreamAnswer}
use Rattle.defs.specs.declared.stream.StreamAnswer.TheVariants.{Count, WouldBlock, Failed}
use Rattle.defs.specs.Answer.{Answer, done}
use Rattle.defs.specs.declared.answer.Refusal.TheVariants.{StreamBlocked, StreamFailed}

-- how many bytes an answer takes, or brings where it answers a read: a would-block and a failure take and bring none
abbrev pub counted : StreamAnswer → ℕ
counted (Count n) = n
counted WouldBlock = 0
counted Failed = 0

-- it is a failure
abbrev pub failed : StreamAnswer → Bool
failed (Count n) = false
failed WouldBlock = false
failed Failed = true

-- it blocks or fails (01, answer 10)
abbrev pub stops : StreamAnswer → Bool
stops (Count n) = false
stops WouldBlock = true
stops Failed = true

-- how a direct call ends by the answer to its first write: 01, answer 10, "the answer tells which"
abbrev pub stopped_by : StreamAnswer → Answer
stopped_by (Count n) = done
stopped_by WouldBlock = Err StreamBlocked
stopped_by Failed = Err StreamFailed

-- the stream has nothing to read yet
abbrev pub blocks : StreamAnswer → Bool
blocks (Count n) = false
blocks WouldBlock = true
blocks Failed = false
