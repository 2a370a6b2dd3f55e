-- What this crate promises, in statements only; proofs/Promises has a line for each. Assumes nothing.
use Rattle.defs.specs.Reading.{Hold}
use Rattle.queue.specs.Promises as queues
use Rattle.muxer_rxq.specs.Queue.{rxq}
use Rattle.muxer_rxq.specs.Edges.{reading_j, reading_q, reading_slots, builds}

-- the queue means its list: a list within the limit makes a sound queue that holds it, and a sound queue is the one that its items make
abbrev pub QueueIsItsList : Type 0
QueueIsItsList = queues.QueueIsItsList rxq

-- 01's readings at the edges of this crate, and builds at the limit
pub record EdgesHold : Type 0 where
  pub j : Hold reading_j
  pub q : Hold reading_q
  pub slots : Hold reading_slots
  pub builds : Hold builds
