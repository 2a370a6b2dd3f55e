use Rattle.std.proofs.Common.{◌≡◌, ◌≤◌, length, take, reverse}
use Rattle.conn_map.specs.Table.{chosen}
use Rattle.conn_map.specs.Distinct.{keys_to, again}
use Rattle.conn_map.proofs.distinct.doubtful.Given as goal

-- what is taken is all of it among the slots so far
abbrev pub invariant-loop-key : goal.invariant-loop-key
invariant-loop-key l =
    (l.n ≤ length l.yielded) × (take l.n l.keys ≡ reverse (chosen (again l.marks) (keys_to l.ports l.used (length l.yielded))))
