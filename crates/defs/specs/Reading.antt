-- A reading of 01: what the specifications say, and what 01 reads, of whatever type. Assumes nothing.
use Rattle.std.specs.Prelude.{◌≡◌, List, [], ◌∷◌}

pub record Reading : Type 1 where
  pub of : Type 0
  pub said : of
  pub read : of

infixl 4 ◌reads◌
abbrev pub ◌reads◌ : {A : Type 0} → A → A → Reading
◌reads◌ {A} x y = record { of = A; said = x; read = y }

-- every reading of the list is what the specifications say
abbrev pub Hold : List Reading → Type 0
Hold [] = Unit
Hold (r ∷ rs) = (r.said ≡ r.read) × Hold rs
