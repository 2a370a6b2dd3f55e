-- The promise of specs/Promises. Assumes nothing.
use Rattle.text.specs.Promises.{EdgesHold}
use Rattle.text.proofs.Edges as edges

pub edges_hold : EdgesHold
edges_hold = edges.edges_hold
