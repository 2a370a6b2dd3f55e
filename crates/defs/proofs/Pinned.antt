-- Every public call is pinned by its own contract, which only proofs/ can name (`Learnt`: what a caller learns of it). Assumes nothing.
use Rattle.std.proofs.Common.{ℕ, Bool, List}
use Rattle.defs.specs.Answer.{Answer}
use Rattle.defs.specs.Pinned.{Pinned}
use Rattle.defs.proofs.Pins.{by_equation}
use Rattle.defs.proofs.answer.U8FromRefusal.from.Reads as from
use Rattle.defs.proofs.answer.number_of.Reads as number_of
use Rattle.defs.proofs.stream.StreamAnswer.has_failed.Reads as has_failed
use Rattle.defs.proofs.stream.StreamAnswer.stopped_by.Reads as stopped_by
use Rattle.defs.proofs.limits.is_ring_size.Reads as is_ring_size
use Rattle.defs.proofs.limits.is_threshold.Reads as is_threshold
use Rattle.defs.proofs.limits.is_timeout.Reads as is_timeout
use Rattle.defs.proofs.limits.is_rxq_limit.Reads as is_rxq_limit
use Rattle.defs.proofs.limits.is_killq_limit.Reads as is_killq_limit
use Rattle.defs.proofs.limits.is_slot_count.Reads as is_slot_count
use Rattle.defs.proofs.limits.is_clock.Reads as is_clock
use Rattle.defs.proofs.limits.is_packet_length.Reads as is_packet_length
use Rattle.defs.proofs.limits.is_header_length.Reads as is_header_length
use Rattle.defs.proofs.ladder.door.Reads as door
use Rattle.defs.proofs.ladder.late.Reads as late
use Rattle.defs.proofs.ladder.record_answer.Reads as record_answer
use Rattle.defs.proofs.ladder.clock_answer.Reads as clock_answer
use Rattle.defs.proofs.credit.peer_avail_credit.Reads as peer_avail_credit
use Rattle.defs.proofs.credit.peer_needs_credit_update.Reads as peer_needs_credit_update
use Rattle.defs.proofs.copying.copy.Reads as copy
use Rattle.defs.proofs.copying.vsock_copy.Reads as vsock_copy

-- any two outcomes that meet a call's contract are identical: what it gives back, its answer by `told`, and what it leaves behind each `&mut`; the first parameter's end is `e.0`, the second's `e.1.0`
pub record EachCallPinned : Type 0 where
  pub from : Pinned from.Learnt ℕ (λ l r e. r)
  pub number_of : Pinned number_of.Learnt ℕ (λ l r e. r)
  pub has_failed : Pinned has_failed.Learnt Bool (λ l r e. r)
  pub stopped_by : Pinned stopped_by.Learnt Answer (λ l r e. r)
  pub is_ring_size : Pinned is_ring_size.Learnt Bool (λ l r e. r)
  pub is_threshold : Pinned is_threshold.Learnt Bool (λ l r e. r)
  pub is_timeout : Pinned is_timeout.Learnt Bool (λ l r e. r)
  pub is_rxq_limit : Pinned is_rxq_limit.Learnt Bool (λ l r e. r)
  pub is_killq_limit : Pinned is_killq_limit.Learnt Bool (λ l r e. r)
  pub is_slot_count : Pinned is_slot_count.Learnt Bool (λ l r e. r)
  pub is_clock : Pinned is_clock.Learnt Bool (λ l r e. r)
  pub is_packet_length : Pinned is_packet_length.Learnt Bool (λ l r e. r)
  pub is_header_length : Pinned is_header_length.Learnt Bool (λ l r e. r)
  pub door : Pinned door.Learnt Answer (λ l r e. r)
  pub late : Pinned late.Learnt Answer (λ l r e. r)
  pub record_answer : Pinned record_answer.Learnt Answer (λ l r e. r)
  pub clock_answer : Pinned clock_answer.Learnt Answer (λ l r e. r)
  pub peer_avail_credit : Pinned peer_avail_credit.Learnt ℕ (λ l r e. r)
  pub peer_needs_credit_update : Pinned peer_needs_credit_update.Learnt Bool (λ l r e. r)
  pub copy : Pinned copy.Learnt (List ℕ) (λ l r e. e.0.now)
  pub vsock_copy : Pinned vsock_copy.Learnt (List ℕ) (λ l r e. e.0.now)

pub each_call_pinned : EachCallPinned
each_call_pinned = record {
  from = by_equation _ _ _;
  number_of = by_equation _ _ _;
  has_failed = by_equation _ _ _;
  stopped_by = by_equation _ _ _;
  is_ring_size = by_equation _ _ _;
  is_threshold = by_equation _ _ _;
  is_timeout = by_equation _ _ _;
  is_rxq_limit = by_equation _ _ _;
  is_killq_limit = by_equation _ _ _;
  is_slot_count = by_equation _ _ _;
  is_clock = by_equation _ _ _;
  is_packet_length = by_equation _ _ _;
  is_header_length = by_equation _ _ _;
  door = by_equation _ _ _;
  late = by_equation _ _ _;
  record_answer = by_equation _ _ _;
  clock_answer = by_equation _ _ _;
  peer_avail_credit = by_equation _ _ _;
  peer_needs_credit_update = by_equation _ _ _;
  copy = by_equation _ _ _;
  vsock_copy = by_equation _ _ _;
}
