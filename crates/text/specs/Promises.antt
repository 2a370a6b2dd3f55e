-- What this crate promises besides its contracts, in statements only; proofs/Promises has a line for each. Assumes nothing.
use Rattle.std.specs.Prelude.{◌≡◌, [], ◌∷◌}
use Rattle.text.specs.Hex.{hex_of, hexed}

-- computed: 1f and a0 as digits, and where there is room for the first alone
pub record EdgesHold : Type 0 where
  pub digits : hex_of (31 ∷ 160 ∷ []) ≡ 49 ∷ 102 ∷ 97 ∷ 48 ∷ []
  pub room : hexed (1 ∷ 2 ∷ 3 ∷ []) (31 ∷ 160 ∷ []) ≡ 49 ∷ 102 ∷ 3 ∷ []
