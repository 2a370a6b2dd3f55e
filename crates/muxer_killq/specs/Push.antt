-- `push` (01, "The two queues"). Assumes nothing.
use Rattle.std.specs.Prelude.{ℕ, ◌≡◌, Bool, false, List, [], ◌∷◌, ◌++◌, length, Err}
use Rattle.defs.specs.Choice.{when}
use Rattle.defs.specs.declared.answer.Refusal.TheVariants.{NotQueued}
use Rattle.queue.specs.Queued as queued
use Rattle.queue.specs.Queued.{QueuedLeft, ListLeft, leaves, has_room}
use Rattle.conn_map.specs.declared.key.ConnMapKey.{ConnMapKey}
use Rattle.muxer_killq.specs.Queue.{killq, MuxerKillQ}
use Rattle.muxer_killq.specs.declared.item.MuxerKillQItem.{MuxerKillQItem}
use Rattle.defs.specs.Answer.{done}

-- a connection to be ended at a time
abbrev pub item_at : ConnMapKey → ℕ → MuxerKillQItem
item_at key time = record { local_port = key.local_port; peer_port = key.peer_port; kill_time = time }

-- as with any queue: synced and not full, append, unsorted. Otherwise turned down, and unsyncs
unfoldable pub push_list : MuxerKillQItem → List MuxerKillQItem → ℕ → Bool → ListLeft MuxerKillQItem
push_list it l limit synced = when (has_room synced (length l) limit) (leaves done (l ++ (it ∷ [])) synced) (leaves (Err NotQueued) l false)

pub record PushIn : Type 0 where
  pub queue : MuxerKillQ
  pub key : ConnMapKey
  pub kill_time : ℕ

-- of a sound queue; a refusal changes nothing
abbrev pub push_of : PushIn → QueuedLeft MuxerKillQ
push_of i = queued.push_of killq (push_list (item_at i.key i.kill_time)) i.queue

-- THE STATEMENT of `push`
abbrev pub PushSays : PushIn → QueuedLeft MuxerKillQ → Type 0
PushSays i left = left ≡ push_of i
