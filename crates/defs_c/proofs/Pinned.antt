-- Every public call is pinned by its own contract, which only proofs/ can name (`Learnt`: what a caller learns of it). Assumes nothing.
use Rattle.std.proofs.Common.{ℕ, List}
use Rattle.defs.specs.Pinned.{Pinned}
use Rattle.defs.proofs.Pins.{by_equation}
use Rattle.defs_c.proofs.vsock_copy.Reads as vsock_copy

-- any two outcomes that meet a call's contract are identical: what it gives back and what it leaves behind each `&mut`
pub record EachCallPinned : Type 0 where
  pub vsock_copy : Pinned vsock_copy.Learnt (List ℕ) (λ l r e. e.0.now)

pub each_call_pinned : EachCallPinned
each_call_pinned = record {
  vsock_copy = by_equation _ _ _;
}
