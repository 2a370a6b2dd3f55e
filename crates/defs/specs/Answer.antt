-- 01's table "What comes back": the number and values of each answer. Assumes nothing.
use Rattle.std.specs.Prelude.{ℕ, Bool, true, false, Result, Ok, Err, is_ok}
use Rattle.defs.specs.Choice.{when}
use Rattle.defs.specs.declared.answer.Refusal.{Refusal}
use Rattle.defs.specs.declared.answer.Refusal.TheVariants.{BadRecord, BadHeader, BadClock, BadLength, BadAnswer, NoRoom, NoData, PktBufMissing, TxBufFull, StreamBlocked, StreamFailed, NotQueued}

-- what a call answers: that it is done, or another of 01's answers
abbrev pub Answer : Type 0
Answer = Result Unit Refusal

abbrev pub done : Answer
done = Ok tt

-- an answer in 01's terms: its number and, of number 10, whether the stream failed (else it would block)
pub record Told : Type 0 where
  pub number : ℕ
  pub failed : Bool

abbrev numbered : ℕ → Told
numbered n = record { number = n; failed = false }

-- 01's table, row by row
abbrev pub told : Answer → Told
told (Ok u) = numbered 0
told (Err BadRecord) = numbered 1
told (Err BadHeader) = numbered 2
told (Err BadClock) = numbered 3
told (Err BadLength) = numbered 4
told (Err BadAnswer) = numbered 5
told (Err NoRoom) = numbered 6
told (Err NoData) = numbered 7
told (Err PktBufMissing) = numbered 8
told (Err TxBufFull) = numbered 9
told (Err StreamBlocked) = numbered 10
told (Err StreamFailed) = record { number = 10; failed = true }
told (Err NotQueued) = numbered 11

-- the call is done: number 0 (`DoneIsZero` of Promises)
abbrev pub is_done : Answer → Bool
is_done a = is_ok a

-- what is left where the call is done, and what is left where it is not
unfoldable pub when_done {ℓ} : {A : Type ℓ} → Answer → A → A → A
when_done a done else = when (is_done a) done else

-- the answer of a call that gives something where it is done
abbrev pub answer_of : {A : Type 0} → Result A Refusal → Answer
answer_of (Ok x) = done
answer_of (Err r) = Err r

-- what it gives, or a fixed value where it is not done
abbrev pub given_or : {A : Type 0} → A → Result A Refusal → A
given_or other (Ok x) = x
given_or other (Err r) = other
