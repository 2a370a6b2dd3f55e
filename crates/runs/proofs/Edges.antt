-- The edges of specs/Promises, computed. Assumes nothing.
use mathlib.Core.Path.{refl}
use native.Mathlib.Omega.{arith}
use Rattle.defs.specs.Choice.{when}
use Rattle.runs.specs.Runs.{outs, gathered, Each}
use Rattle.runs.specs.Promises.{EdgesHold}

pub edges_hold : EdgesHold
unfolding outs gathered Each when
edges_hold = record { outs = refl; gathered = refl; each = (omega arith, (omega arith, tt)) }
