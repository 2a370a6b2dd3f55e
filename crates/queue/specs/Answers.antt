-- Which number a call of a queue answers (01, "What comes back"): n exactly when row n is given and no lower row, in 01's words over what the call is given;
-- `Sound` and `InRange` are each queue's own. Assumes nothing.
use Rattle.std.specs.Prelude.{ℕ, ◌^◌, ◌<◌, ◌≡◌, List, [], ◌∷◌}
use Rattle.defs.specs.Look.{FlagLeft, LenLeft}
use Rattle.defs.specs.Promises.{AnswersInTurn}
use Rattle.queue.specs.Queue.{Kind}
use Rattle.queue.specs.Queued.{QueuedLeft, new_of}
use Rattle.queue.specs.Look.{PeekLeft, peek_of, SyncedSays, EmptySays, FullSays, LengthSays}

-- 1: what is to be sound is not
abbrev pub sound_rows : Type 0 → List (ℕ × Type 0)
sound_rows Sound = (1, Sound → ⊥) ∷ []

-- then 3, where a clock is handed in
abbrev pub timed_rows : Type 0 → ℕ → List (ℕ × Type 0)
timed_rows Sound clock = (1, Sound → ⊥) ∷ (3, 2 ^ 62 < clock) ∷ []

-- of a push: 1, then 11 where it is turned down
abbrev pub push_rows : Type 0 → Type 0 → List (ℕ × Type 0)
push_rows Sound TurnedDown = (1, Sound → ⊥) ∷ (11, TurnedDown) ∷ []

module _ {Q A : Type 0} (k : Kind Q A) where
  -- the calls that only look
  pub record LookAnswers (Sound : Q → Type 0) : Type 0 where
    pub is_synced : (q : Q) (left : FlagLeft) → SyncedSays k q left → AnswersInTurn left.answer (sound_rows (Sound q))
    pub is_empty : (q : Q) (left : FlagLeft) → EmptySays k q left → AnswersInTurn left.answer (sound_rows (Sound q))
    pub is_full : (q : Q) (left : FlagLeft) → FullSays k q left → AnswersInTurn left.answer (sound_rows (Sound q))
    pub len : (q : Q) (left : LenLeft) → LengthSays k q left → AnswersInTurn left.answer (sound_rows (Sound q))
    pub peek : (q : Q) (left : PeekLeft A) → left ≡ peek_of k q → AnswersInTurn left.answer (sound_rows (Sound q))

  -- the constructor: 1 where the limit is out of range
  abbrev pub NewAnswers : (ℕ → Type 0) → Type 0
  NewAnswers InRange = (limit : ℕ) (left : QueuedLeft Q) → left ≡ new_of k limit → AnswersInTurn left.answer (sound_rows (InRange limit))
