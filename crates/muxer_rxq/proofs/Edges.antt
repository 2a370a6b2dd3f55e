-- 01's readings of the RX queue and the builds at the limit, computed. Assumes nothing.
use mathlib.Core.Path.{refl}
use Rattle.defs.specs.Choice.{when}
use Rattle.defs.specs.Answer.{when_done}
use Rattle.defs.specs.Limits.{is_rxq_limit, is_slot_count}
use Rattle.defs.specs.Ladder.{door_of, record_answer}
use Rattle.conn_map.specs.Key.{key_of}
use Rattle.conn_map.specs.Table.{used_at, slots_from, slots_of, chosen, gathered, any_below, hit, distinct, sound_table}
use Rattle.queue.specs.Queue.{all, clear_q, sound_q}
use Rattle.queue.specs.Queued.{has_room, made_of, new_of, push_of}
use Rattle.queue.specs.Pop.{pop_list, pop_of}
use Rattle.muxer_rxq.specs.Item.{is_zero}
use Rattle.muxer_rxq.specs.Push.{last_conn, evict_list, push_list}
use Rattle.muxer_rxq.specs.Build.{built_from, build_answer, build_of}
use Rattle.muxer_rxq.specs.Edges.{reading_j, reading_q, reading_slots, builds}
use Rattle.muxer_rxq.specs.Promises.{EdgesHold}

pub edges_hold : EdgesHold
unfolding when when_done is_rxq_limit door_of record_answer all clear_q sound_q has_room push_of pop_list pop_of is_zero last_conn evict_list push_list is_slot_count key_of used_at slots_from slots_of chosen gathered any_below hit distinct sound_table made_of new_of built_from build_answer build_of reading_j reading_q reading_slots builds
edges_hold = record {
  j = (refl, (refl, (refl, (refl, (refl, tt)))));
  q = (refl, (refl, (refl, tt)));
  slots = (refl, (refl, (refl, (refl, tt))));
  builds = (refl, (refl, (refl, (refl, (refl, tt)))));
}
