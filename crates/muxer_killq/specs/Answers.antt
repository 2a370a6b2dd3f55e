-- Which number a call of this queue answers (01, "What comes back"): n exactly when row n is given and no lower row, in 01's words over what the call is
-- given. Assumes nothing.
use Rattle.std.specs.Prelude.{ℕ, ◌≤◌, length}
use Rattle.defs.specs.Promises.{AnswersInTurn}
use Rattle.conn_map.specs.Promises as tables
use Rattle.queue.specs.Queued.{QueuedLeft}
use Rattle.queue.specs.Means.{Room}
use Rattle.queue.specs.Answers as answers
use Rattle.queue.specs.Answers.{timed_rows, push_rows}
use Rattle.muxer_killq.specs.Queue.{killq, MuxerKillQ}
use Rattle.muxer_killq.specs.Push.{PushIn, PushSays}
use Rattle.muxer_killq.specs.Pop.{PopIn, PopLeft, PopSays}
use Rattle.muxer_killq.specs.Build.{BuildIn, BuildSays}
use Rattle.muxer_killq.specs.Outcomes.{Sound}

-- K, 1 to 128
abbrev pub InRange : ℕ → Type 0
InRange limit = (1 ≤ limit) × (limit ≤ 128)

-- `is_synced`, `is_empty`, `is_full`, `len`, `peek`: 1
abbrev pub LookAnswers : Type 0
LookAnswers = answers.LookAnswers killq Sound

-- `new`: 1
abbrev pub NewAnswers : Type 0
NewAnswers = answers.NewAnswers killq InRange

-- `pop`: 1, 3
abbrev pub PopAnswers : Type 0
PopAnswers = (i : PopIn) (left : PopLeft) → PopSays i left → AnswersInTurn left.answer (timed_rows (Sound i.queue) i.clock)

-- `push`: 1, 11 where it is not (synced and not full); the pushed time isn't tested
abbrev pub PushAnswers : Type 0
PushAnswers = (i : PushIn) (left : QueuedLeft MuxerKillQ) → PushSays i left → AnswersInTurn left.answer (push_rows (Sound i.queue) (Room killq i.queue → ⊥))

-- `from_conn_map`: 1 where the limit or the table is not sound, 3
abbrev pub BuildAnswers : Type 0
BuildAnswers =
    (i : BuildIn) (left : QueuedLeft MuxerKillQ) → BuildSays i left
    → AnswersInTurn left.answer (timed_rows (InRange i.limit × tables.Sound i.ports i.used (length i.times)) i.clock)
