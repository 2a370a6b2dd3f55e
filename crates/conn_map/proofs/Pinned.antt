-- Every public call is pinned by its own contract, which only proofs/ can name (`Learnt`: what a caller learns of it). Assumes nothing.
use mathlib.Core.Bool.{Bool}
use Rattle.defs.specs.Pinned.{Pinned}
use Rattle.conn_map.specs.declared.key.ConnMapKey.{ConnMapKey}
use Rattle.defs.proofs.Pins.{by_equation}
use Rattle.conn_map.proofs.key.key_of.Reads as key_of
use Rattle.conn_map.proofs.table.is_sound.Reads as is_sound

-- any two outcomes that meet a call's contract are identical: what it gives back
pub record EachCallPinned : Type 0 where
  pub key_of : Pinned key_of.Learnt ConnMapKey (λ l r e. r)
  pub is_sound : Pinned is_sound.Learnt Bool (λ l r e. r)

pub each_call_pinned : EachCallPinned
each_call_pinned = record {
  key_of = by_equation _ _ _;
  is_sound = by_equation _ _ _;
}
