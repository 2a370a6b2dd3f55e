-- 01's starred readings at each edge, in one list: each letter's from the crates that decide it, and R's, Q's and the slots' on both
-- sides of their limits; computed from the specifications. Assumes nothing.
use Rattle.std.specs.Prelude.{ℕ, ◌≡◌, List, [], ◌∷◌, ◌++◌, map, length}
use Prim.Native.String.{String}
use Rattle.defs.specs.Reading.{Reading, Hold}
use Rattle.defs.specs.Edges.{reading_e as rule_e, reading_h as formula_h}
use Rattle.packet.specs.Edges.{reading_a as bytes_of_a}
use Rattle.txbuf.specs.Edges.{reading_bcd as ring_bcd, reading_f as ring_f, reading_r as ring_r}
use Rattle.rules.specs.Edges.{reading_a, reading_bcd, reading_e, reading_f, reading_g, reading_h, reading_i, reading_k, reading_l, reading_r}
use Rattle.muxer_killq.specs.Edges.{reading_i as pop_i}
use Rattle.conn_map.specs.Edges.{reading_slots as table_slots}
use Rattle.muxer_rxq.specs.Edges.{reading_j, reading_q, reading_slots}

-- what a crate reads of a letter, of letters that read on, or of a number's limit
pub record Lettered : Type 1 where
  pub letters : String
  pub list : List Reading

infixl 4 ◌is◌
abbrev pub ◌is◌ : String → List Reading → Lettered
◌is◌ letters list = record { letters = letters; list = list }

-- what the header, the ring and the credit formula say by themselves, what a connection says, what the queues say
unfoldable pub lettered : List Lettered
lettered =
    ("a" is bytes_of_a) ∷ ("bcd" is ring_bcd) ∷ ("e" is rule_e) ∷ ("f" is ring_f) ∷ ("h" is formula_h)
    ∷ ("a" is reading_a) ∷ ("bcd" is reading_bcd) ∷ ("e" is reading_e) ∷ ("f" is reading_f) ∷ ("g" is reading_g) ∷ ("h" is reading_h) ∷ ("i" is reading_i)
    ∷ ("k" is reading_k) ∷ ("l" is reading_l) ∷ ("i" is pop_i) ∷ ("j" is reading_j)
    ∷ ("R" is ring_r) ∷ ("R" is reading_r) ∷ ("slots" is table_slots) ∷ ("slots" is reading_slots) ∷ ("Q" is reading_q) ∷ []

abbrev pub joined : List Lettered → List Reading
joined [] = []
joined (l ∷ ls) = l.list ++ joined ls

unfoldable pub readings : List Reading
readings = joined lettered

-- each letter or number, and how many readings it has
abbrev pub counted : List Lettered → List (String × ℕ)
counted [] = []
counted (l ∷ ls) = (l.letters, length l.list) ∷ counted ls

abbrev pub EachLetter : Type 0
EachLetter =
    counted lettered
    ≡ ("a", 2) ∷ ("bcd", 3) ∷ ("e", 3) ∷ ("f", 4) ∷ ("h", 1)
    ∷ ("a", 2) ∷ ("bcd", 7) ∷ ("e", 3) ∷ ("f", 6) ∷ ("g", 2) ∷ ("h", 3) ∷ ("i", 2) ∷ ("k", 6) ∷ ("l", 3)
    ∷ ("i", 2) ∷ ("j", 5) ∷ ("R", 13) ∷ ("R", 6) ∷ ("slots", 4) ∷ ("slots", 4) ∷ ("Q", 3) ∷ []

-- none is left out, and none stands for another: the letters with their numbers, and the readings of each crate in turn
pub record NoneLeftOut : Type 1 where
  pub letters : EachLetter
  pub crates : map (λ (l : Lettered). l.list) lettered
      ≡ bytes_of_a ∷ ring_bcd ∷ rule_e ∷ ring_f ∷ formula_h ∷ reading_a ∷ reading_bcd ∷ reading_e ∷ reading_f ∷ reading_g ∷ reading_h ∷ reading_i ∷ reading_k ∷ reading_l ∷ pop_i ∷ reading_j
      ∷ ring_r ∷ reading_r ∷ table_slots ∷ reading_slots ∷ reading_q ∷ []

-- every starred reading is what the specifications say
abbrev pub ReadingsHold : Type 0
ReadingsHold = Hold readings
