-- `push` (01, "The two queues"). Assumes nothing.
use Rattle.std.specs.Prelude.{ℕ, ◌+◌, ◌-◌, ◌≡◌, Bool, false, List, [], ◌∷◌, ◌++◌, eqb, length, set, Err}
use Rattle.defs.specs.Choice.{when}
use Rattle.defs.specs.declared.answer.Refusal.TheVariants.{NotQueued}
use Rattle.queue.specs.Queued as queued
use Rattle.queue.specs.Queued.{QueuedLeft, ListLeft, leaves, has_room}
use Rattle.muxer_rxq.specs.Queue.{rxq, MuxerRxQ}
use Rattle.muxer_rxq.specs.declared.rxq.MuxerRx.{MuxerRx}
use Rattle.defs.specs.Answer.{done}

-- one more than the place of the rearmost connection, or 0
unfoldable pub last_conn : List MuxerRx → ℕ
last_conn [] = 0
last_conn (x ∷ l) = when (eqb (last_conn l) 0) (when x.rst 0 1) (last_conn l + 1)

-- an RST replaces the rearmost connection, and sync is lost; with none it is turned down, sync unchanged
unfoldable pub evict_list : MuxerRx → List MuxerRx → Bool → ListLeft MuxerRx
evict_list rx l synced = when (eqb (last_conn l) 0) (leaves (Err NotQueued) l synced) (leaves done (set l (last_conn l - 1) rx) false)

-- synced and not full: append. Otherwise an RST evicts; a connection is turned down, and unsyncs
unfoldable pub push_list : MuxerRx → List MuxerRx → ℕ → Bool → ListLeft MuxerRx
push_list rx l limit synced =
    when (has_room synced (length l) limit)
    (leaves done (l ++ (rx ∷ [])) synced)
    (when rx.rst (evict_list rx l synced) (leaves (Err NotQueued) l false))

pub record PushIn : Type 0 where
  pub queue : MuxerRxQ
  pub rx : MuxerRx

-- of a sound queue; a refusal changes nothing
abbrev pub push_of : PushIn → QueuedLeft MuxerRxQ
push_of i = queued.push_of rxq (push_list i.rx) i.queue

-- THE STATEMENT of an eviction, of a sound queue
abbrev pub EvictSays : PushIn → QueuedLeft MuxerRxQ → Type 0
EvictSays i left = left ≡ queued.push_of rxq (λ l limit synced. evict_list i.rx l synced) i.queue

-- THE STATEMENT of `push`
abbrev pub PushSays : PushIn → QueuedLeft MuxerRxQ → Type 0
PushSays i left = left ≡ push_of i
