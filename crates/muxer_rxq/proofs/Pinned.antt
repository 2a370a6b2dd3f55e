-- Every public call of this queue's own is pinned by its own contract, which only proofs/ can name (`Learnt`: what a caller learns of it); those that every queue has by `EachQueueCallPinned` of `queue`. Assumes nothing.
use mathlib.Core.Bool.{Bool}
use Rattle.defs.specs.Answer.{told}
use Rattle.defs.specs.Pinned.{Pinned}
use Rattle.defs.proofs.Pins.{by_equation}
use Rattle.queue.specs.Queued.{QueuedLeft}
use Rattle.queue.specs.Pop.{pop_seen}
use Rattle.muxer_rxq.specs.Item.{zero_item}
use Rattle.muxer_rxq.specs.Pop.{PopLeft}
use Rattle.muxer_rxq.specs.Queue.{MuxerRxQ}
use Rattle.muxer_rxq.proofs.rxq.MuxerRxItem.is_zero.Reads as is_zero
use Rattle.muxer_rxq.proofs.rxq.MuxerRxQRxQueue.from_conn_map.Reads as from_conn_map
use Rattle.muxer_rxq.proofs.rxq.MuxerRxQRxQueue.push.Reads as push
use Rattle.muxer_rxq.proofs.rxq.MuxerRxQRxQueue.pop.Reads as pop

-- any two outcomes that meet a call's contract are identical: what it gives back, its answer by `told`
pub record EachCallPinned : Type 0 where
  pub is_zero : Pinned is_zero.Learnt Bool (λ l r e. r)
  pub from_conn_map : Pinned from_conn_map.Learnt (QueuedLeft MuxerRxQ) (λ l r e. record { answer = told r.answer; queue = r.queue })
  pub push : Pinned push.Learnt (QueuedLeft MuxerRxQ) (λ l r e. record { answer = told r.answer; queue = r.queue })
  pub pop : Pinned pop.Learnt PopLeft (λ l r e. pop_seen zero_item r.given r.queue)

pub each_call_pinned : EachCallPinned
each_call_pinned = record { is_zero = by_equation _ _ _; from_conn_map = by_equation _ _ _; push = by_equation _ _ _; pop = by_equation _ _ _ }
