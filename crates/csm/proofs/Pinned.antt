-- Every public call is pinned by its own contract, which only proofs/ can name (`Learnt`: what a caller learns of it). Assumes nothing.
use mathlib.Core.Bool.{Bool}
use Rattle.defs.specs.Pinned.{Pinned}
use Rattle.csm.specs.declared.pending.PendingRxSet.{PendingRxSet}
use Rattle.csm.specs.declared.row.Row.{Row}
use Rattle.csm.specs.declared.state.ConnState.{ConnState}
use Rattle.csm.specs.Timer.{Timer}
use Rattle.csm.specs.declared.turn.RxStep.{RxStep}
use Rattle.defs.proofs.Pins.{by_equation}
use Rattle.csm.proofs.pending.PendingRxSet.is_pending.Reads as is_pending
use Rattle.csm.proofs.pending.PendingRxSet.mark.Reads as mark
use Rattle.csm.proofs.pending.PendingRxSet.remaining.Reads as remaining
use Rattle.csm.proofs.turn.RxStep.row.Reads as row
use Rattle.csm.proofs.row.After.state_after.Reads as state_after
use Rattle.csm.proofs.row.Arms.timer_after.Reads as timer_after
use Rattle.csm.proofs.state.ConnState.asks.Reads as asks
use Rattle.csm.proofs.state.ConnState.both_off.Reads as both_off
use Rattle.csm.proofs.state.ConnState.is_local_init.Reads as is_local_init
use Rattle.csm.proofs.state.is_recv_off.Reads as is_recv_off
use Rattle.csm.proofs.state.is_send_off.Reads as is_send_off
use Rattle.csm.proofs.state.ConnState.polls.Reads as polls
use Rattle.csm.proofs.state.ConnState.shut.Reads as shut
use Rattle.csm.proofs.state.ConnState.takes.Reads as takes
use Rattle.csm.proofs.timer.is_after.Reads as is_after
use Rattle.csm.proofs.timer.is_due.Reads as is_due
use Rattle.csm.proofs.timer.shut_arms.Reads as shut_arms
use Rattle.csm.proofs.turn.Turn.reads.Reads as reads
use Rattle.csm.proofs.turn.Turn.step.Reads as step

-- any two outcomes that meet a call's contract are identical: what it gives back
pub record EachCallPinned : Type 0 where
  pub is_pending : Pinned is_pending.Learnt Bool (λ l r e. r)
  pub mark : Pinned mark.Learnt PendingRxSet (λ l r e. r)
  pub remaining : Pinned remaining.Learnt PendingRxSet (λ l r e. r)
  pub row : Pinned row.Learnt Row (λ l r e. r)
  pub state_after : Pinned state_after.Learnt ConnState (λ l r e. r)
  pub timer_after : Pinned timer_after.Learnt Timer (λ l r e. r)
  pub asks : Pinned asks.Learnt Bool (λ l r e. r)
  pub both_off : Pinned both_off.Learnt Bool (λ l r e. r)
  pub is_local_init : Pinned is_local_init.Learnt Bool (λ l r e. r)
  pub is_recv_off : Pinned is_recv_off.Learnt Bool (λ l r e. r)
  pub is_send_off : Pinned is_send_off.Learnt Bool (λ l r e. r)
  pub polls : Pinned polls.Learnt Bool (λ l r e. r)
  pub shut : Pinned shut.Learnt ConnState (λ l r e. r)
  pub takes : Pinned takes.Learnt Bool (λ l r e. r)
  pub is_after : Pinned is_after.Learnt Bool (λ l r e. r)
  pub is_due : Pinned is_due.Learnt Bool (λ l r e. r)
  pub shut_arms : Pinned shut_arms.Learnt Bool (λ l r e. r)
  pub reads : Pinned reads.Learnt Bool (λ l r e. r)
  pub step : Pinned step.Learnt RxStep (λ l r e. r)

pub each_call_pinned : EachCallPinned
each_call_pinned = record {
  is_pending = by_equation _ _ _;
  mark = by_equation _ _ _;
  remaining = by_equation _ _ _;
  row = by_equation _ _ _;
  state_after = by_equation _ _ _;
  timer_after = by_equation _ _ _;
  asks = by_equation _ _ _;
  both_off = by_equation _ _ _;
  is_local_init = by_equation _ _ _;
  is_recv_off = by_equation _ _ _;
  is_send_off = by_equation _ _ _;
  polls = by_equation _ _ _;
  shut = by_equation _ _ _;
  takes = by_equation _ _ _;
  is_after = by_equation _ _ _;
  is_due = by_equation _ _ _;
  shut_arms = by_equation _ _ _;
  reads = by_equation _ _ _;
  step = by_equation _ _ _;
}
