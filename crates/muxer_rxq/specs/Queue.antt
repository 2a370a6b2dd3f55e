-- The RX queue as a queue (01, "The numbers of a connection", "The two queues"): what it has of its own, and by that what `queue` says of any. Assumes nothing.
use Rattle.std.specs.Prelude.{ℕ, Bool, List}
use Rattle.defs.specs.Limits.{max_rxq}
use Rattle.queue.specs.Arrays.{arrays}
use Rattle.queue.specs.Queue as queues
use Rattle.queue.specs.Queued as queued
use Rattle.queue.specs.Queued.{QueuedLeft}
use Rattle.queue.specs.declared.queue.Queue.{Queue}
use Rattle.muxer_rxq.specs.Item.{zero_item, is_zero}
use Rattle.muxer_rxq.specs.declared.rxq.MuxerRx.{MuxerRx}

-- the RX queue of the code: `MuxerRxQ` of src/rxq.rt
abbrev pub MuxerRxQ : Type 0
MuxerRxQ = Queue MuxerRx max_rxq

-- its record, its zero item, its places and its limits
abbrev pub rxq : queues.Kind MuxerRxQ MuxerRx
rxq = arrays max_rxq zero_item is_zero

-- the limit in range, the length within it, zero items past the length
abbrev pub sound_q : MuxerRxQ → Bool
sound_q q = queues.sound_q rxq q

-- THE ABSTRACTION: the items of a queue, front first
abbrev pub items : MuxerRxQ → List MuxerRx
items q = queues.items rxq q

-- and the queue that holds a list of items
abbrev pub pack : List MuxerRx → ℕ → Bool → MuxerRxQ
pack l limit synced = queues.pack rxq l limit synced

-- THE STATEMENT of `new`: an empty, synced queue, of limit 0 where it is refused
abbrev pub NewSays : ℕ → QueuedLeft MuxerRxQ → Type 0
NewSays limit left = queued.NewSays rxq limit left
