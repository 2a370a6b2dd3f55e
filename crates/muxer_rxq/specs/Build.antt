-- `from_conn_map` (01, "The two queues"), as a function of the list of slots. Assumes nothing.
use Rattle.std.specs.Prelude.{ℕ, ◌≡◌, Bool, false, not, ◌&&◌, List, leb, eqb, length, take}
use Rattle.defs.specs.Ladder.{record_answer}
use Rattle.defs.specs.Limits.{is_rxq_limit}
use Rattle.conn_map.specs.Table.{Slot, slots_of, gathered, sound_table}
use Rattle.conn_map.specs.declared.key.ConnMapKey.{ConnMapKey}
use Rattle.queue.specs.Queued.{QueuedLeft, made_of}
use Rattle.muxer_rxq.specs.Queue.{rxq, pack, MuxerRxQ}
use Rattle.muxer_rxq.specs.declared.rxq.MuxerRx.{MuxerRx}
use Rattle.defs.specs.Answer.{Answer}

-- a used slot with RX pending
abbrev pub is_pending : Slot → Bool
is_pending s = s.used && not (eqb s.mark 0)

-- a connection as an item
abbrev pub conn_to : ConnMapKey → MuxerRx
conn_to key = record { rst = false; local_port = key.local_port; peer_port = key.peer_port }

-- the item of a slot
abbrev pub item_of : Slot → MuxerRx
item_of s = conn_to s.key

-- the connections of the pending slots, in slot order
abbrev pub pending_of : List Slot → List MuxerRx
pending_of slots = gathered is_pending item_of slots

-- the first of them, as far as the limit goes; unsynced exactly if there are more
unfoldable pub built_from : ℕ → List Slot → MuxerRxQ
built_from limit slots = pack (take limit (pending_of slots)) limit (leb (length (pending_of slots)) limit)

pub record BuildIn : Type 0 where
  pub limit : ℕ
  pub ports : List ℕ
  pub used : List ℕ
  pub pending : List ℕ

-- answer 1: the limit, or the table, is not sound
unfoldable pub build_answer : BuildIn → Answer
build_answer i = record_answer (is_rxq_limit i.limit && sound_table i.ports i.used (length i.pending))

-- a refused build is an empty, synced queue of limit 0
unfoldable pub build_of : BuildIn → QueuedLeft MuxerRxQ
build_of i = made_of rxq (build_answer i) (built_from i.limit (slots_of i.ports i.used i.pending))

-- THE STATEMENT of `from_conn_map`
abbrev pub BuildSays : BuildIn → QueuedLeft MuxerRxQ → Type 0
BuildSays i left = left ≡ build_of i

-- ---- within the walk

-- `isPending` on the numbers of a slot
abbrev pub marked : ℕ → ℕ → Bool
marked used pending = not (eqb used 0) && not (eqb pending 0)
