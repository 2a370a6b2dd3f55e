-- Lists of readings: two lists that hold make one. Assumes nothing.
use Rattle.std.proofs.Common.{List, [], ◌∷◌, ◌++◌}
use Rattle.defs.specs.Reading.{Reading, Hold}

pub hold_append : (rs ss : List Reading) → Hold rs → Hold ss → Hold (rs ++ ss)
hold_append [] ss h k = k
hold_append (r ∷ rs) ss h k = (h.0, hold_append rs ss h.1 k)
