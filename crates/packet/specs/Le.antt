-- Little-endian numbers, and records of them one after the other by the table of their widths. Assumes nothing.
use Rattle.std.specs.Prelude.{ℕ, zero, suc, ◌+◌, ◌*◌, ◌/◌, ◌%◌, List, [], ◌∷◌, ◌++◌, take, drop}

-- the w low bytes of a number, least first
abbrev pub le : ℕ → ℕ → List ℕ
le zero n = []
le (suc w) n = n % 256 ∷ le w (n / 256)

-- the number that bytes stand for, least first
abbrev pub of_le : List ℕ → ℕ
of_le [] = 0
of_le (b ∷ bs) = b + 256 * of_le bs

-- the number whose w bytes start at a place
abbrev pub num_at : List ℕ → ℕ → ℕ → ℕ
num_at s at w = of_le (take w (drop at s))

-- the bytes of a record of numbers, by their widths
abbrev pub packed : List ℕ → List ℕ → List ℕ
packed [] ns = []
packed (w ∷ ws) [] = []
packed (w ∷ ws) (n ∷ ns) = le w n ++ packed ws ns

-- the numbers of a record, by their widths
abbrev pub unpacked : List ℕ → List ℕ → List ℕ
unpacked [] s = []
unpacked (w ∷ ws) s = of_le (take w s) ∷ unpacked ws (drop w s)

-- where each number starts, and where the last one ends
abbrev pub offsets : ℕ → List ℕ → List ℕ
offsets at [] = at ∷ []
offsets at (w ∷ ws) = at ∷ offsets (at + w) ws
