use Rattle.std.proofs.Common.{◌≡◌, length}
use Rattle.conn_map.specs.Distinct.{keys_to, marked, repeats}
use Rattle.conn_map.proofs.distinct.mark.Given as goal

abbrev pub invariant-loop-key : goal.invariant-loop-key
invariant-loop-key l =
    (l.marks ≡ marked l.initial.marks (keys_to l.ports l.used (length l.yielded)))
    × (l.found ≡ repeats l.initial.marks (keys_to l.ports l.used (length l.yielded)))
