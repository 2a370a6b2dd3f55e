-- What this crate promises, in statements only; proofs/Promises has a line for each. Assumes nothing.
use Rattle.std.specs.Prelude.{ℕ, ◌≤◌, ◌≡◌, Bool, List, [], ◌∷◌, eqb, length}
use Rattle.defs.specs.Reading.{Hold}
use Rattle.conn_map.specs.Table.{chosen}
use Rattle.queue.specs.Promises as queues
use Rattle.muxer_killq.specs.Queue.{killq}
use Rattle.muxer_killq.specs.Sort.{sort_by_time}
use Rattle.muxer_killq.specs.Edges.{reading_i, ties, builds}
use Rattle.muxer_killq.specs.declared.item.MuxerKillQItem.{MuxerKillQItem}

-- the queue means its list: a list within the limit makes a sound queue that holds it, and a sound queue is the one that its items make
abbrev pub QueueIsItsList : Type 0
QueueIsItsList = queues.QueueIsItsList killq

-- the first item of a list is not earlier than a time
abbrev pub NotBefore : ℕ → List MuxerKillQItem → Type 0
NotBefore time [] = Unit
NotBefore time (y ∷ l) = time ≤ y.kill_time

-- sorted by time
abbrev pub Sorted : List MuxerKillQItem → Type 0
Sorted [] = Unit
Sorted (x ∷ l) = NotBefore x.kill_time l × Sorted l

-- the sort: the result is sorted, holds what came in as often (whatever test is put to it), and items of one time keep their order
pub record SortIsStable (l : List MuxerKillQItem) : Type 0 where
  pub is_sorted : Sorted (sort_by_time l)
  pub permutes : (test : MuxerKillQItem → Bool) → length (chosen test (sort_by_time l)) ≡ length (chosen test l)
  pub stable : (time : ℕ) → chosen (λ (x : MuxerKillQItem). eqb x.kill_time time) (sort_by_time l) ≡ chosen (λ (x : MuxerKillQItem). eqb x.kill_time time) l

-- whatever came in
abbrev pub EverySortIsStable : Type 0
EverySortIsStable = (l : List MuxerKillQItem) → SortIsStable l

-- 01's reading at the edge of this crate, its rule on equal times, and builds at the limit
pub record EdgesHold : Type 0 where
  pub i : Hold reading_i
  pub ties : Hold ties
  pub builds : Hold builds
