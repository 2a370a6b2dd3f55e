-- What a call that only looks comes back with (01, "What comes back"): its answer, and a fixed value where it is refused. Assumes nothing.
use Rattle.std.specs.Prelude.{◌≡◌, ℕ, Bool, false, Result}
use Rattle.defs.specs.Answer.{Told, Answer, told, when_done, answer_of, given_or}
use Rattle.defs.specs.declared.answer.Refusal.{Refusal}

pub record FlagLeft : Type 0 where
  pub answer : Told
  pub holds : Bool

-- what is seen of a result: no, where there is none
abbrev pub flag_seen : Result Bool Refusal → FlagLeft
flag_seen r = record { answer = told (answer_of r); holds = given_or false r }

-- a yes or no
unfoldable pub flag_of : Answer → Bool → FlagLeft
flag_of a value = record { answer = told a; holds = when_done a value false }

-- THE STATEMENT of a call that tells a yes or no
abbrev pub FlagSays : Answer → Bool → FlagLeft → Type 0
FlagSays a value left = left ≡ flag_of a value

pub record LenLeft : Type 0 where
  pub answer : Told
  pub len : ℕ

-- what is seen of a result: 0, where there is none
abbrev pub len_seen : Result ℕ Refusal → LenLeft
len_seen r = record { answer = told (answer_of r); len = given_or 0 r }

-- a count
unfoldable pub len_of : Answer → ℕ → LenLeft
len_of a value = record { answer = told a; len = when_done a value 0 }

-- THE STATEMENT of a call that tells a count
abbrev pub LenSays : Answer → ℕ → LenLeft → Type 0
LenSays a value left = left ≡ len_of a value
