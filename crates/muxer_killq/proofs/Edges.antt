-- 01's reading i, the order of equal times and the builds at the limit, computed. Assumes nothing.
use mathlib.Core.Path.{refl}
use Rattle.defs.specs.Choice.{when}
use Rattle.defs.specs.Answer.{when_done}
use Rattle.defs.specs.Limits.{is_killq_limit, is_slot_count, is_clock}
use Rattle.defs.specs.Ladder.{door_of, clock_answer}
use Rattle.conn_map.specs.Key.{key_of}
use Rattle.conn_map.specs.Table.{used_at, slots_from, slots_of, chosen, gathered, any_below, hit, distinct, sound_table}
use Rattle.queue.specs.Queue.{all, clear_q, sound_q}
use Rattle.queue.specs.Queued.{made_of}
use Rattle.queue.specs.Pop.{pop_list, pop_of}
use Rattle.muxer_killq.specs.Item.{is_zero}
use Rattle.muxer_killq.specs.Sort.{insert_by_time, sort_into, sort_by_time}
use Rattle.muxer_killq.specs.Build.{built_from, build_answer, build_of}
use Rattle.muxer_killq.specs.Edges.{reading_i, ties, builds}
use Rattle.muxer_killq.specs.Promises.{EdgesHold}

pub edges_hold : EdgesHold
unfolding when when_done is_killq_limit is_clock door_of clock_answer all clear_q sound_q pop_list pop_of is_zero chosen gathered insert_by_time sort_into sort_by_time is_slot_count key_of used_at slots_from slots_of any_below hit distinct sound_table made_of built_from build_answer build_of reading_i ties builds
edges_hold = record { i = (refl, (refl, tt)); ties = (refl, (refl, tt)); builds = (refl, (refl, (refl, (refl, (refl, (refl, tt)))))) }
