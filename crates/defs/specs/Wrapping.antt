-- 32-bit wrapping sum and difference, of numbers below 2^32. Assumes nothing.
use Rattle.std.specs.Prelude.{ℕ, ◌+◌, ◌-◌, ◌%◌, ◌^◌}

abbrev pub wadd : ℕ → ℕ → ℕ
wadd a b = (a + b) % 2 ^ 32

abbrev pub wsub : ℕ → ℕ → ℕ
wsub a b = (a + (2 ^ 32 - b)) % 2 ^ 32
