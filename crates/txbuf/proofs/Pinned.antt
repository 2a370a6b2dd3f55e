-- Every public call is pinned by its own contract, which only proofs/ can name (`Learnt`: what a caller learns of it). Assumes nothing.
use Rattle.std.specs.Prelude.{Result}
use Prim.Native.Nat.{ℕ}
use mathlib.Core.Path.{◌≡◌, sym, ap, ◌∙◌}
use mathlib.Core.Bool.{Bool}
use mathlib.Core.List.{List}
use Rattle.defs.specs.Answer.{told}
use Rattle.defs.specs.declared.answer.Refusal.{Refusal}
use Rattle.defs.specs.Pinned.{Pinned}
use Rattle.txbuf.specs.Record.{NewLeft}
use Rattle.txbuf.specs.Push.{PushLeft, push_seen, NumberedLeft}
use Rattle.txbuf.specs.Flush.{FlushLeft, flushed_or, flush_seen}
use Rattle.txbuf.specs.declared.record.TxBuf.{TxBuf}
use Rattle.txbuf.specs.declared.flush.Flushed.{Flushed}
use Rattle.defs.proofs.AnswerLaws.{seen_apart}
use Rattle.defs.proofs.LookLaws.{len_apart, flag_apart}
use Rattle.defs.proofs.Pins.{by_equation, by_result}
use Rattle.txbuf.proofs.record.TxBuf.new.Reads as new
use Rattle.txbuf.proofs.record.TxBuf.used.Reads as used
use Rattle.txbuf.proofs.record.TxBuf.is_sound.Reads as is_sound
use Rattle.txbuf.proofs.record.TxBuf.is_sound_over.Reads as is_sound_over
use Rattle.txbuf.proofs.record.TxBuf.len.Reads as len
use Rattle.txbuf.proofs.record.TxBuf.is_empty.Reads as is_empty
use Rattle.txbuf.proofs.record.TxBuf.push.Reads as push
use Rattle.txbuf.proofs.push.vsock_ring_push.Reads as vsock_ring_push
use Rattle.txbuf.proofs.record.TxBuf.first_piece.Reads as first_piece
use Rattle.txbuf.proofs.record.TxBuf.second_piece.Reads as second_piece
use Rattle.txbuf.proofs.record.TxBuf.flush_to.Reads as flush_to

-- what is seen of a push, and of a flush, tells its results apart
push_alike : (b : TxBuf) (r s : Result TxBuf Refusal) (x y : List ℕ) → push_seen b r x ≡ push_seen b s y → ◌≡◌ {A = Result TxBuf Refusal × List ℕ} (r, x) (s, y)
push_alike b r s x y e =
    let f = seen_apart b r s (ap (λ (o : PushLeft). o.answer) e) (ap (λ (o : PushLeft). o.ring) e) in
    let g = ap (λ (o : PushLeft). o.store) e in
    λ i. (f i, g i)

flush_alike : (b : TxBuf) (r s : Result Flushed Refusal) (x y : List ℕ) → flush_seen b r x ≡ flush_seen b s y → ◌≡◌ {A = Result Flushed Refusal × List ℕ} (r, x) (s, y)
flush_alike b r s x y e =
    let given : flushed_or b r ≡ flushed_or b s = λ i. record { count = (e i).count; ring = (e i).ring } in
    let f = seen_apart _ r s (ap (λ (o : FlushLeft). o.answer) e) given in
    let g = ap (λ (o : FlushLeft). o.out) e in
    λ i. (f i, g i)

-- any two outcomes that meet a call's contract are identical: what it gives back (of `new` its answer by `told`), and what it leaves behind each `&mut`; the first parameter's end is `e.0`, the second's `e.1.0`
pub record EachCallPinned : Type 0 where
  pub new : Pinned new.Learnt NewLeft (λ l r e. record { answer = told r.answer; ring = r.ring })
  pub used : Pinned used.Learnt ℕ (λ l r e. r)
  pub is_sound : Pinned is_sound.Learnt Bool (λ l r e. r)
  pub is_sound_over : Pinned is_sound_over.Learnt Bool (λ l r e. r)
  pub len : Pinned len.Learnt (Result ℕ Refusal) (λ l r e. r)
  pub is_empty : Pinned is_empty.Learnt (Result Bool Refusal) (λ l r e. r)
  pub push : Pinned push.Learnt (Result TxBuf Refusal × List ℕ) (λ l r e. (r, e.1.0.now))
  pub vsock_ring_push : Pinned vsock_ring_push.Learnt NumberedLeft (λ l r e. record { number = r; store = e.1.0.now })
  pub first_piece : Pinned first_piece.Learnt (List ℕ) (λ l r e. r.now)
  pub second_piece : Pinned second_piece.Learnt (List ℕ) (λ l r e. r.now)
  pub flush_to : Pinned flush_to.Learnt (Result Flushed Refusal × List ℕ) (λ l r e. (r, e.1.1.1.0.now))

pub each_call_pinned : EachCallPinned
each_call_pinned = record {
  new = by_equation _ _ _;
  used = by_equation _ _ _;
  is_sound = by_equation _ _ _;
  is_sound_over = by_equation _ _ _;
  len = by_result _ _ len_apart _;
  is_empty = by_result _ _ flag_apart _;
  push = λ l i r s d e p q. push_alike _ r s _ _ (p ∙ sym q);
  vsock_ring_push = by_equation _ _ _;
  first_piece = by_equation _ _ _;
  second_piece = by_equation _ _ _;
  flush_to = λ l i r s d e p q. flush_alike _ r s _ _ (p ∙ sym q);
}
