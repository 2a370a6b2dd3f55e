-- The edges of specs/Promises, computed. Assumes nothing.
use mathlib.Core.Path.{refl}
use Rattle.text.specs.Hex.{hexed}
use Rattle.text.specs.Promises.{EdgesHold}

pub edges_hold : EdgesHold
unfolding hexed
edges_hold = record { digits = refl; room = refl }
