-- A kill queue item (01, "The two queues"), and that its test finds just the zero item. Assumes nothing.
use Rattle.std.specs.Prelude.{◌≡◌, ℕ, ◌+◌, ◌-◌, Bool, true, ◌&&◌, leb, eqb, refl}
use borrow.Author.Tests.{eqb-true}
use Rattle.defs.proofs.Basics.{both}
use Rattle.muxer_killq.specs.declared.item.MuxerKillQItem.{MuxerKillQItem}

-- the zero item: ports 0, time 0
abbrev pub zero_item : MuxerKillQItem
zero_item = record { local_port = 0; peer_port = 0; kill_time = 0 }

-- an item is the zero item
unfoldable pub is_zero : MuxerKillQItem → Bool
is_zero it = (eqb it.local_port 0 && eqb it.peer_port 0) && eqb it.kill_time 0

pub zero_passes : is_zero zero_item ≡ true
unfolding is_zero
zero_passes = refl

pub zero_alone : (it : MuxerKillQItem) → is_zero it ≡ true → it ≡ zero_item
unfolding is_zero
zero_alone it e =
    let u = both _ _ e in
    let v = both (eqb it.local_port 0) _ u.0 in
    let a : it.local_port ≡ 0 = eqb-true _ _ v.0 in
    let b : it.peer_port ≡ 0 = eqb-true _ _ v.1 in
    let d : it.kill_time ≡ 0 = eqb-true _ _ u.1 in
    λ i. record { local_port = a i; peer_port = b i; kill_time = d i }

-- by how much two times differ, whichever is later
unfoldable pub times_apart : ℕ → ℕ → ℕ
times_apart a b = (a - b) + (b - a)

-- equality allows 10 ms
unfoldable pub is_alike : MuxerKillQItem → MuxerKillQItem → Bool
is_alike a b =
    (eqb a.local_port b.local_port && eqb a.peer_port b.peer_port) && leb (times_apart a.kill_time b.kill_time) 10
