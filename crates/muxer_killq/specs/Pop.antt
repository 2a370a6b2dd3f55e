-- `peek` and `pop` (01, "The two queues"). Assumes nothing.
use Rattle.std.specs.Prelude.{ℕ, ◌≡◌, Bool, ltb}
use Rattle.defs.specs.Ladder.{clock_answer}
use Rattle.conn_map.specs.declared.key.ConnMapKey.{ConnMapKey}
use Rattle.queue.specs.Look.{PeekLeft, peek_of}
use Rattle.queue.specs.Pop as pops
use Rattle.muxer_killq.specs.Queue.{killq, sound_q, MuxerKillQ}
use Rattle.muxer_killq.specs.declared.item.MuxerKillQItem.{MuxerKillQItem}
use Rattle.defs.specs.Answer.{Answer}

-- THE STATEMENT of `peek`: the front, whatever its time
abbrev pub PeekSays : MuxerKillQ → PeekLeft MuxerKillQItem → Type 0
PeekSays q left = left ≡ peek_of killq q

pub record PopIn : Type 0 where
  pub queue : MuxerKillQ
  pub clock : ℕ

abbrev pub PopLeft : Type 0
PopLeft = pops.PopLeft ConnMapKey MuxerKillQ

-- no item: ports 0 beside "not found"
abbrev pub no_key : ConnMapKey
no_key = record { local_port = 0; peer_port = 0 }

-- the front item goes if now is after its time
abbrev pub has_passed : ℕ → MuxerKillQItem → Bool
has_passed clock it = ltb it.kill_time clock

-- and its ports are given
abbrev pub key_in : MuxerKillQItem → ConnMapKey
key_in it = record { local_port = it.local_port; peer_port = it.peer_port }

-- 01's table: 1 where the queue is not sound, then 3
abbrev pub pop_answer_of : PopIn → Answer
pop_answer_of i = clock_answer (sound_q i.queue) i.clock

-- a refusal changes nothing
abbrev pub pop_of : PopIn → PopLeft
pop_of i = pops.pop_of killq no_key (has_passed i.clock) key_in (pop_answer_of i) i.queue

-- THE STATEMENT of `pop`
abbrev pub PopSays : PopIn → PopLeft → Type 0
PopSays i left = left ≡ pop_of i
