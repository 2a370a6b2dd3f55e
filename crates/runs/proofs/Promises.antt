-- The promises of specs/Promises, each by its law. Assumes nothing.
use Rattle.runs.specs.Promises.{EveryRunKeeps, EveryRunForwards, CutsDoNotMatter, Drains, EdgesHold}
use Rattle.runs.proofs.Edges as edges
use Rattle.runs.proofs.RunLaws as laws

pub every_run_keeps : EveryRunKeeps
every_run_keeps = laws.every_run_keeps

pub every_run_forwards : EveryRunForwards
every_run_forwards = laws.every_run_forwards

pub cuts_do_not_matter : CutsDoNotMatter
cuts_do_not_matter = laws.cuts_do_not_matter

pub drains : Drains
drains = laws.drains

pub edges_hold : EdgesHold
edges_hold = edges.edges_hold
