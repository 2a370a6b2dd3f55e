-- The kill queue as a queue (01, "The numbers of a connection", "The two queues"): what it has of its own, and by that what `queue` says of any. Assumes nothing.
use Rattle.std.specs.Prelude.{ℕ, Bool, List}
use Rattle.defs.specs.Limits.{max_killq}
use Rattle.queue.specs.Arrays.{arrays}
use Rattle.queue.specs.Queue as queues
use Rattle.queue.specs.Queued as queued
use Rattle.queue.specs.Queued.{QueuedLeft}
use Rattle.queue.specs.declared.queue.Queue.{Queue}
use Rattle.muxer_killq.specs.Item.{zero_item, is_zero}
use Rattle.muxer_killq.specs.declared.item.MuxerKillQItem.{MuxerKillQItem}

-- the kill queue of the code: `MuxerKillQ` of src/killq.rt
abbrev pub MuxerKillQ : Type 0
MuxerKillQ = Queue MuxerKillQItem max_killq

-- its record, its zero item, its places and its limits
abbrev pub killq : queues.Kind MuxerKillQ MuxerKillQItem
killq = arrays max_killq zero_item is_zero

-- the limit in range, the length within it, zero items past the length
abbrev pub sound_q : MuxerKillQ → Bool
sound_q q = queues.sound_q killq q

-- THE ABSTRACTION: the items of a queue, front first
abbrev pub items : MuxerKillQ → List MuxerKillQItem
items q = queues.items killq q

-- and the queue that holds a list of items
abbrev pub pack : List MuxerKillQItem → ℕ → Bool → MuxerKillQ
pack l limit synced = queues.pack killq l limit synced

-- THE STATEMENT of `new`: an empty, synced queue, of limit 0 where it is refused
abbrev pub NewSays : ℕ → QueuedLeft MuxerKillQ → Type 0
NewSays limit left = queued.NewSays killq limit left
