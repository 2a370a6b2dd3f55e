-- The edges of a table's soundness, computed (01, "The numbers of a connection"), and 01's readings of how many slots it has. Assumes nothing.
use Rattle.std.specs.Prelude.{ℕ, ◌+◌, ◌-◌, ◌*◌, ◌^◌, Bool, true, false, List, [], ◌∷◌, ◌++◌, replicate}
use Rattle.defs.specs.Reading.{Reading, ◌reads◌}
use Rattle.conn_map.specs.Table.{sound_table}
use Rattle.conn_map.specs.Distinct.{mark_count}

-- three slots, told by the number of their ports
abbrev three : List ℕ
three = 5 ∷ 7 ∷ 7 ∷ []

-- the last two slots with the same ports: sound only if one of them is not used, or if there is no third
unfoldable pub last_pair : List Reading
last_pair =
    (sound_table three (1 ∷ 1 ∷ 1 ∷ []) 3 reads false)
    ∷ (sound_table three (1 ∷ 1 ∷ 0 ∷ []) 3 reads true)
    ∷ (sound_table three (1 ∷ 0 ∷ 1 ∷ []) 3 reads true)
    ∷ (sound_table (5 ∷ 7 ∷ []) (1 ∷ 1 ∷ []) 2 reads true)
    ∷ []

-- eight slots, of which the first and the last have the same ports
abbrev eight : List ℕ
eight = 9 ∷ 8 ∷ 7 ∷ 6 ∷ 5 ∷ 4 ∷ 3 ∷ 9 ∷ []

-- the same ports with many between them: sound only if one of the two is not used
unfoldable pub far_pair : List Reading
far_pair =
    (sound_table eight (1 ∷ 1 ∷ 1 ∷ 1 ∷ 1 ∷ 1 ∷ 1 ∷ 1 ∷ []) 8 reads false)
    ∷ (sound_table eight (0 ∷ 1 ∷ 1 ∷ 1 ∷ 1 ∷ 1 ∷ 1 ∷ 1 ∷ []) 8 reads true)
    ∷ (sound_table eight (1 ∷ 1 ∷ 1 ∷ 1 ∷ 1 ∷ 1 ∷ 1 ∷ 0 ∷ []) 8 reads true)
    ∷ (sound_table eight (1 ∷ 0 ∷ 0 ∷ 0 ∷ 0 ∷ 0 ∷ 0 ∷ 1 ∷ []) 8 reads false)
    ∷ []

-- the same peer port with other local ports, and other ports with the same mark: sound
unfoldable pub same_mark : List Reading
same_mark =
    (sound_table (5 ∷ (2 ^ 32 + 5) ∷ (2 * 2 ^ 32 + 5) ∷ []) (1 ∷ 1 ∷ 1 ∷ []) 3 reads true)
    ∷ (sound_table (5 ∷ (mark_count + 5) ∷ (2 * mark_count + 5) ∷ []) (1 ∷ 1 ∷ 1 ∷ []) 3 reads true)
    ∷ (sound_table (5 ∷ (mark_count + 5) ∷ 5 ∷ []) (1 ∷ 1 ∷ 1 ∷ []) 3 reads false)
    ∷ []

-- so many slots, all 0 but for the last two
abbrev pub last_two : ℕ → ℕ → ℕ → List ℕ
last_two slots a b = replicate (slots - 2) 0 ++ (a ∷ b ∷ [])

-- a table of so many slots, of which the last two are used, with these ports
abbrev many : ℕ → ℕ → ℕ → Bool
many slots a b = sound_table (last_two slots a b) (last_two slots 1 1) slots

-- the table, as 2026-10 has it: over the 512 slots of before, the most, and one more; the most with the same ports twice
unfoldable pub reading_slots : List Reading
reading_slots =
    (many 513 5 7 reads true)
    ∷ (many 1024 5 7 reads true)
    ∷ (many 1025 5 7 reads false)
    ∷ (many 1024 7 7 reads false)
    ∷ []
