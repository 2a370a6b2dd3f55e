-- Every public call is pinned by its own contract, which only proofs/ can name (`Learnt`: what a caller learns of it). Assumes nothing.
use Rattle.defs.specs.Pinned.{Pinned}
use Rattle.txbuf.specs.Push.{NumberedLeft}
use Rattle.defs.proofs.Pins.{by_equation}
use Rattle.txbuf_c.proofs.vsock_ring_push.Reads as vsock_ring_push

-- any two outcomes that meet a call's contract are identical: what it gives back and what it leaves behind each `&mut`; the first parameter's end is `e.0`, the second's `e.1.0`
pub record EachCallPinned : Type 0 where
  pub vsock_ring_push : Pinned vsock_ring_push.Learnt NumberedLeft (λ l r e. record { number = r; store = e.1.0.now })

pub each_call_pinned : EachCallPinned
each_call_pinned = record {
  vsock_ring_push = by_equation _ _ _;
}
