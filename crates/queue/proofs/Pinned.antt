-- Every public call is pinned by its own contract, which only proofs/ can name (`Learnt`: what a caller learns of it), those of a queue whatever its items. Assumes nothing.
use Prim.Native.Nat.{ℕ}
use mathlib.Core.Bool.{Bool}
use denote.RattleType.{RattleType}
use denote.Param.Laws as laws
use mir.Syntax.{w64, Dict}
use mir.Val.{Fits}
use Rattle.std.specs.Prelude.{Option, Result}
use Rattle.defs.specs.Answer.{Answer, told}
use Rattle.defs.specs.Look.{flag_seen, len_seen}
use Rattle.defs.specs.Pinned.{Pinned}
use Rattle.defs.specs.declared.answer.Refusal.{Refusal}
use Rattle.defs.proofs.LookLaws.{flag_apart, len_apart}
use Rattle.defs.proofs.Pins.{by_equation, by_result}
use Rattle.queue.specs.Look.{peek_seen}
use Rattle.queue.specs.Pop.{PopLeft, pop_seen}
use Rattle.queue.specs.Queued.{QueuedLeft}
use Rattle.queue.specs.declared.item.Item as item
use Rattle.queue.specs.declared.queue.Queue.{Queue}
use Rattle.std.specs.declared.clone.Clone as clone
use Rattle.std.specs.declared.default.Default as default
use Rattle.queue.proofs.LookLaws.{peek_apart}
use Rattle.queue.proofs.has_room.Reads as has_room
use Rattle.queue.proofs.place_after.Reads as place_after
use Rattle.queue.proofs.lesser.Reads as lesser
use Rattle.queue.proofs.queue.Queue.new.Reads as new
use Rattle.queue.proofs.queue.Queue.is_sound.Reads as is_sound
use Rattle.queue.proofs.queue.Queue.answer.Reads as answer
use Rattle.queue.proofs.queue.Queue.is_synced.Reads as is_synced
use Rattle.queue.proofs.queue.Queue.len.Reads as len
use Rattle.queue.proofs.queue.Queue.is_empty.Reads as is_empty
use Rattle.queue.proofs.queue.Queue.is_full.Reads as is_full
use Rattle.queue.proofs.queue.Queue.peek.Reads as peek
use Rattle.queue.proofs.queue.Queue.front.Reads as front
use Rattle.queue.proofs.queue.Queue.empty.Reads as empty
use Rattle.queue.proofs.queue.Queue.push_back.Reads as push_back
use Rattle.queue.proofs.queue.Queue.pop_front.Reads as pop_front
use Rattle.queue.proofs.queue.Queue.take_in.Reads as take_in

-- any two outcomes that meet a call's contract are identical: what it gives back
pub record EachCallPinned : Type 0 where
  pub has_room : Pinned has_room.Learnt Bool (λ l r e. r)
  pub place_after : Pinned place_after.Learnt ℕ (λ l r e. r)
  pub lesser : Pinned lesser.Learnt ℕ (λ l r e. r)

pub each_call_pinned : EachCallPinned
each_call_pinned = record {
  has_room = by_equation _ _ _;
  place_after = by_equation _ _ _;
  lesser = by_equation _ _ _;
}

module _ (T : RattleType) (N : ℕ) (L : laws.Laws T) (F : Fits w64 N) (C : laws.IsCopy T) (i : item.Ghosts T.Denot) (d : Dict) (c : clone.Ghosts T.Denot) (e : Dict) (f : default.Ghosts T.Denot) (h : Dict) where
  -- the same of the calls of a queue of N places, of items of a type
  pub record EachQueueCallPinned : Type 0 where
    pub new : Pinned (new.Learnt T N L F C i d c e f h) (QueuedLeft (Queue T.Denot N)) (λ l r e. record { answer = told r.answer; queue = r.queue })
    pub is_sound : Pinned (is_sound.Learnt T N L F C i d c e f h) Bool (λ l r e. r)
    pub answer : Pinned (answer.Learnt T N L F C i d c e f h) Answer (λ l r e. r)
    pub is_synced : Pinned (is_synced.Learnt T N L F C i d c e f h) (Result Bool Refusal) (λ l r e. r)
    pub len : Pinned (len.Learnt T N L F C i d c e f h) (Result ℕ Refusal) (λ l r e. r)
    pub is_empty : Pinned (is_empty.Learnt T N L F C i d c e f h) (Result Bool Refusal) (λ l r e. r)
    pub is_full : Pinned (is_full.Learnt T N L F C i d c e f h) (Result Bool Refusal) (λ l r e. r)
    pub peek : Pinned (peek.Learnt T N L F C i d c e f h) (Result (Option T.Denot) Refusal) (λ l r e. r)
    pub front : Pinned (front.Learnt T N L F C i d c e f h) (Option T.Denot) (λ l r e. r)
    pub empty : Pinned (empty.Learnt T N L F C i d c e f h) (Queue T.Denot N) (λ l r e. r)
    pub push_back : Pinned (push_back.Learnt T N L F C i d c e f h) (QueuedLeft (Queue T.Denot N)) (λ l r e. record { answer = told r.answer; queue = r.queue })
    pub pop_front : Pinned (pop_front.Learnt T N L F C i d c e f h) (PopLeft T.Denot (Queue T.Denot N)) (λ l r e. pop_seen i.zero_item r.given r.queue)
    pub take_in : Pinned (take_in.Learnt T N L F C i d c e f h) (Queue T.Denot N) (λ l r e. e.0.now)

  pub each_queue_call_pinned : EachQueueCallPinned
  each_queue_call_pinned = record {
    new = by_equation _ _ _;
    is_sound = by_equation _ _ _;
    answer = by_equation _ _ _;
    is_synced = by_result _ flag_seen flag_apart _;
    len = by_result _ len_seen len_apart _;
    is_empty = by_result _ flag_seen flag_apart _;
    is_full = by_result _ flag_seen flag_apart _;
    peek = by_result _ (peek_seen i.zero_item) (peek_apart i.zero_item) _;
    front = by_equation _ _ _;
    empty = by_equation _ _ _;
    push_back = by_equation _ _ _;
    pop_front = by_equation _ _ _;
    take_in = by_equation _ _ _;
  }
