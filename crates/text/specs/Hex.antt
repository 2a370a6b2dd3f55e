-- Bytes as hexadecimal text. Assumes nothing.
use Rattle.std.specs.Prelude.{ℕ, ◌+◌, ◌/◌, ◌%◌, min, List, [], ◌∷◌, ◌++◌, length, take, drop}
use Rattle.io.specs.Digits.{hex_digit_ascii}

-- two digits a byte, the more significant first
abbrev pub hex_of : List ℕ → List ℕ
hex_of [] = []
hex_of (b ∷ bs) = hex_digit_ascii (b / 16) ∷ hex_digit_ascii (b % 16) ∷ hex_of bs

-- how many bytes there is room for
abbrev pub fitting : List ℕ → List ℕ → ℕ
fitting out bytes = min (length bytes) (length out / 2)

-- the digits of those bytes stand at the front, the rest stays
unfoldable pub hexed : List ℕ → List ℕ → List ℕ
hexed out bytes = hex_of (take (fitting out bytes) bytes) ++ drop (fitting out bytes + fitting out bytes) out
