-- What a copy leaves. Assumes nothing.
use Rattle.std.specs.Prelude.{ℕ, List, ◌++◌, length, take, drop}

-- as many bytes as both hold stand at the front of the destination, the rest of which stays
unfoldable pub copied : List ℕ → List ℕ → List ℕ
copied dst src = take (length dst) src ++ drop (length src) dst
