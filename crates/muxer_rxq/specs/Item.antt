-- An RX queue item (01, "The two queues"), and that its test finds just the zero item. Assumes nothing.
use Rattle.std.specs.Prelude.{◌≡◌, Bool, true, false, not, ◌&&◌, eqb, refl}
use borrow.Author.Tests.{eqb-true, not-true}
use Rattle.defs.proofs.Basics.{both}
use Rattle.muxer_rxq.specs.declared.rxq.MuxerRx.{MuxerRx}

-- the zero item: a connection, ports 0
abbrev pub zero_item : MuxerRx
zero_item = record { rst = false; local_port = 0; peer_port = 0 }

-- an item is the zero item
unfoldable pub is_zero : MuxerRx → Bool
is_zero it = (not it.rst && eqb it.local_port 0) && eqb it.peer_port 0

pub zero_passes : is_zero zero_item ≡ true
unfolding is_zero
zero_passes = refl

pub zero_alone : (it : MuxerRx) → is_zero it ≡ true → it ≡ zero_item
unfolding is_zero
zero_alone it e =
    let u = both _ _ e in
    let v = both (not it.rst) _ u.0 in
    let a : it.rst ≡ false = not-true it.rst v.0 in
    let b : it.local_port ≡ 0 = eqb-true _ _ v.1 in
    let d : it.peer_port ≡ 0 = eqb-true _ _ u.1 in
    λ i. record { rst = a i; local_port = b i; peer_port = d i }
