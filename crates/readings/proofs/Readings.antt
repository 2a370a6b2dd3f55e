-- The one list holds, since each crate's part does. Assumes nothing.
use mathlib.Core.Path.{refl}
use mathlib.Core.List.{List, [], ◌∷◌}
use Rattle.defs.specs.Reading.{Hold}
use Rattle.defs.specs.Edges.{reading_e as rule_e, reading_h as formula_h}
use Rattle.packet.specs.Edges.{reading_a as bytes_of_a}
use Rattle.txbuf.specs.Edges.{reading_bcd as ring_bcd, reading_f as ring_f, reading_r as ring_r}
use Rattle.rules.specs.Edges.{reading_a, reading_bcd, reading_e, reading_f, reading_g, reading_h, reading_i, reading_k, reading_l, reading_r}
use Rattle.muxer_killq.specs.Edges.{reading_i as pop_i}
use Rattle.conn_map.specs.Edges.{reading_slots as table_slots}
use Rattle.muxer_rxq.specs.Edges.{reading_j, reading_q, reading_slots}
use Rattle.defs.proofs.Readings.{hold_append}
use Rattle.defs.proofs.Promises.{edges_hold as defs_edges}
use Rattle.packet.proofs.Promises.{edges_hold as packet_edges}
use Rattle.txbuf.proofs.Promises.{edges_hold as txbuf_edges}
use Rattle.rules.proofs.Promises.{edges_hold as connection_edges}
use Rattle.muxer_killq.proofs.Promises.{edges_hold as killq_edges}
use Rattle.conn_map.proofs.Promises.{edges_hold as table_edges}
use Rattle.muxer_rxq.proofs.Promises.{edges_hold as rxq_edges}
use Rattle.readings.specs.Readings.{Lettered, lettered, joined, readings, EachLetter, NoneLeftOut, ReadingsHold}

each_letter : EachLetter
unfolding lettered bytes_of_a ring_bcd rule_e ring_f formula_h reading_a reading_bcd reading_e reading_f reading_g reading_h reading_i reading_k reading_l pop_i reading_j ring_r reading_r table_slots reading_slots reading_q
each_letter = refl

pub none_left_out : NoneLeftOut
unfolding lettered
none_left_out = record { letters = each_letter; crates = refl }

-- each part holds
abbrev Each : List Lettered → Type 0
Each [] = Unit
Each (l ∷ ls) = Hold l.list × Each ls

hold_joined : (ls : List Lettered) → Each ls → Hold (joined ls)
hold_joined [] h = tt
hold_joined (l ∷ ls) h = hold_append l.list (joined ls) h.0 (hold_joined ls h.1)

infixr 4 ◌and◌
abbrev ◌and◌ : {P Q : Type 0} → P → Q → P × Q
◌and◌ p q = (p, q)

pub readings_hold : ReadingsHold
unfolding readings lettered
readings_hold =
    hold_joined lettered
    (packet_edges.a and txbuf_edges.bcd and defs_edges.e and txbuf_edges.f and defs_edges.h
    and connection_edges.a and connection_edges.bcd and connection_edges.e and connection_edges.f and connection_edges.g and connection_edges.h and connection_edges.i
    and connection_edges.k and connection_edges.l and killq_edges.i and rxq_edges.j
    and txbuf_edges.r and connection_edges.r and table_edges.slots and rxq_edges.slots and rxq_edges.q and tt)
