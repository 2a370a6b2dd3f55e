-- What reading to the front of a room comes back with and leaves. Assumes nothing.
use Rattle.std.specs.Prelude.{ℕ, ◌≡◌, ◌<◌, List, length, take, Option, Result, IfOk}
use Rattle.std.specs.Io.KnownBytes.{Consumes, IsAtEnd}
use Rattle.io.specs.Counts.{IsPrefixLen}

-- THE STATEMENT of `fill`: where it ends well, so many bytes of the room are what the reader gave, where that is known, and there are less than the room has only at the reader's end
abbrev pub FillSays : {E : Type 0} → List ℕ → List ℕ → Option (List ℕ) → Option (List ℕ) → Result ℕ E → Type 0
FillSays room filled old new r = IfOk r (λ n. IsPrefixLen n filled × (length filled ≡ length room) × Consumes old new (take n filled) × (n < length filled → IsAtEnd new))
