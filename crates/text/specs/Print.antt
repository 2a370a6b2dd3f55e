-- What a function that prints comes back with, and the words that it writes. Assumes nothing.
use Rattle.std.specs.Prelude.{ℕ, Bool, ◌≡◌, List, ◌∷◌, codes, if◌then◌else◌, Option, Result, IfOk}
use Rattle.std.specs.Io.KnownBytes.{Appends}
use Rattle.std.specs.Fmt.{decimal}

-- THE STATEMENT of a function that prints: nothing comes back
abbrev pub PrintSays : Unit {0} → Type 0
PrintSays r = r ≡ tt

-- THE STATEMENT of a function that prints these bytes on a writer: where it ends well that is so, and what the writer holds, where that is known, has grown by them
abbrev pub WriteSays : {E : Type 0} → List ℕ → Option (List ℕ) → Option (List ℕ) → Result (Unit {0}) E → Type 0
WriteSays bytes old new r = IfOk r (λ u. PrintSays u × Appends old new bytes)

-- a blank and the number's digits
abbrev pub number_text : ℕ → List ℕ
number_text n = 32 ∷ decimal n

-- a blank and a word
abbrev pub yes_text : Bool → List ℕ
yes_text holds = if holds then codes " yes" else codes " no"
