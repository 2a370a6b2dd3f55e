-- Parts of buffers by a number that may be larger than they are. Assumes nothing.
use Rattle.std.specs.Prelude.{ℕ, min, ◌≡◌, List, length}
use Rattle.io.specs.Counts.{IsPrefixLen}

-- THE STATEMENT of `fitting`: so many of the room's bytes, or all that it has; they count bytes of the room, which is what `&mut room[..n]` asks
abbrev pub FittingSays : ℕ → List ℕ → ℕ → Type 0
FittingSays bytes room r = IsPrefixLen r room × (r ≡ min bytes (length room))
