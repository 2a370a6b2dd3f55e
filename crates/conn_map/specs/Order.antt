-- Slots in slot order, said by place: each slot by how many before it pass, apart from the lists that a build gathers. Assumes nothing.
use Rattle.std.specs.Prelude.{ℕ, suc, zero, ◌+◌, ◌≤◌, ◌<◌, ◌≡◌, Bool, true, ◌&&◌, List, ltb, length, get_or}
use Rattle.defs.specs.Choice.{when}

-- how many slots below n pass a test
unfoldable pub count_below : (ℕ → Bool) → ℕ → ℕ
count_below passes zero = 0
count_below passes (suc n) = when (passes n) 1 0 + count_below passes n

-- slot i passes, with fewer than so many such slots before it
abbrev pub among_first : ℕ → (ℕ → Bool) → ℕ → Bool
among_first most passes i = passes i && ltb (count_below passes i) most

-- n is the smaller of two numbers
abbrev pub SmallerOf : ℕ → ℕ → ℕ → Type 0
SmallerOf n a b = (a ≤ b → n ≡ a) × (b ≤ a → n ≡ b)

-- a list is what the slots that pass give, in slot order: each stands behind just those of the slots before it, and there is nothing else
pub record InSlotOrder {A : Type 0} (slots : ℕ) (passes : ℕ → Bool) (give : ℕ → A) (nothing : A) (l : List A) : Type 0 where
  pub each : (i : ℕ) → i < slots → passes i ≡ true → get_or l (count_below passes i) nothing ≡ give i
  pub no_more : length l ≡ count_below passes slots
