-- The edges of specs/Edges, each computed. Assumes nothing.
use mathlib.Core.Path.{refl}
use Rattle.defs.specs.Choice.{when}
use Rattle.defs.specs.Answer.{when_done}
use Rattle.queue.specs.Queue.{all, place_after, clear_q, sound_q}
use Rattle.queue.specs.Queued.{has_room}
use Rattle.queue.specs.Pop.{pop_list, pop_of}
use Rattle.queue.specs.Edges.{sounds, packs, pops, onwards, rooms}
use Rattle.queue.specs.Promises.{EdgesHold}

pub edges_hold : EdgesHold
unfolding when when_done all place_after clear_q sound_q has_room pop_list pop_of sounds packs pops onwards rooms
edges_hold = record {
  sounds = (refl, (refl, (refl, (refl, (refl, (refl, (refl, tt)))))));
  packs = (refl, (refl, tt));
  pops = (refl, (refl, (refl, tt)));
  onwards = (refl, (refl, (refl, tt)));
  rooms = (refl, (refl, (refl, tt)));
}
