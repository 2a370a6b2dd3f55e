-- The edges of specs/Edges, each computed. Assumes nothing.
use mathlib.Core.Path.{refl}
use Rattle.defs.specs.Limits.{is_slot_count}
use Rattle.conn_map.specs.Table.{used_at, any_below, hit, distinct, sound_table}
use Rattle.conn_map.specs.Edges.{last_pair, far_pair, same_mark, reading_slots}
use Rattle.conn_map.specs.Promises.{EdgesHold}

pub edges_hold : EdgesHold
unfolding is_slot_count used_at any_below hit distinct sound_table last_pair far_pair same_mark reading_slots
edges_hold = record {
  last_pair = (refl, (refl, (refl, (refl, tt))));
  far_pair = (refl, (refl, (refl, (refl, tt))));
  same_mark = (refl, (refl, (refl, tt)));
  slots = (refl, (refl, (refl, (refl, tt))));
}
