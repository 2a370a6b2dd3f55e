-- Which number a call of this queue answers (01, "What comes back"): n exactly when row n is given and no lower row, in 01's words over what the call is
-- given. Assumes nothing.
use Rattle.std.specs.Prelude.{ℕ, ◌≤◌, ◌≡◌, ◌⊎◌, false, length}
use Rattle.defs.specs.Promises.{AnswersInTurn}
use Rattle.conn_map.specs.Promises as tables
use Rattle.queue.specs.Queued.{QueuedLeft}
use Rattle.queue.specs.Means.{Room}
use Rattle.queue.specs.Answers as answers
use Rattle.queue.specs.Answers.{sound_rows, push_rows}
use Rattle.muxer_rxq.specs.Queue.{rxq, items, MuxerRxQ}
use Rattle.muxer_rxq.specs.Push.{PushIn, PushSays}
use Rattle.muxer_rxq.specs.Pop.{PopLeft, PopSays}
use Rattle.muxer_rxq.specs.Build.{BuildIn, BuildSays}
use Rattle.muxer_rxq.specs.Outcomes.{Sound, AllRsts}

-- Q, 1 to 512
abbrev pub InRange : ℕ → Type 0
InRange limit = (1 ≤ limit) × (limit ≤ 512)

-- `is_synced`, `is_empty`, `is_full`, `len`, `peek`: 1
abbrev pub LookAnswers : Type 0
LookAnswers = answers.LookAnswers rxq Sound

-- `new`: 1
abbrev pub NewAnswers : Type 0
NewAnswers = answers.NewAnswers rxq InRange

-- `pop`: 1
abbrev pub PopAnswers : Type 0
PopAnswers = (q : MuxerRxQ) (left : PopLeft) → PopSays q left → AnswersInTurn left.answer (sound_rows (Sound q))

-- not (synced and not full), and a connection, or an RST that finds only RSTs
abbrev pub TurnedDown : PushIn → Type 0
TurnedDown i = (Room rxq i.queue → ⊥) × ((i.rx.rst ≡ false) ⊎ AllRsts (items i.queue))

-- `push`: 1, 11
abbrev pub PushAnswers : Type 0
PushAnswers = (i : PushIn) (left : QueuedLeft MuxerRxQ) → PushSays i left → AnswersInTurn left.answer (push_rows (Sound i.queue) (TurnedDown i))

-- `from_conn_map`: 1 where the limit or the table is not sound
abbrev pub BuildAnswers : Type 0
BuildAnswers =
    (i : BuildIn) (left : QueuedLeft MuxerRxQ) → BuildSays i left
    → AnswersInTurn left.answer (sound_rows (InRange i.limit × tables.Sound i.ports i.used (length i.pending)))
