-- The connection table over lent slices (01, "The numbers of a connection"): its slots, and when it is sound. Assumes nothing.
use Rattle.std.specs.Prelude.{ℕ, suc, zero, Bool, false, not, ◌&&◌, ◌||◌, List, [], ◌∷◌, map, length, get_or, eqb}
use Rattle.defs.specs.Choice.{when}
use Rattle.defs.specs.Limits.{is_slot_count}
use Rattle.conn_map.specs.Key.{key_of}
use Rattle.conn_map.specs.declared.key.ConnMapKey.{ConnMapKey}

-- slot i is used
unfoldable pub used_at : List ℕ → ℕ → Bool
used_at used i = not (eqb (get_or used i 0) 0)

-- ---- the slots that the slices mean

-- a slot as a build reads it; the mark is whether RX is pending (0 is no), or the time of its timer (0 is none)
pub record Slot : Type 0 where
  pub used : Bool
  pub key : ConnMapKey
  pub mark : ℕ

-- slot i of the lent slices
abbrev pub slot_at : List ℕ → List ℕ → List ℕ → ℕ → Slot
slot_at ports used marks i = record { used = used_at used i; key = key_of (get_or ports i 0); mark = get_or marks i 0 }

-- n slots from slot i on
unfoldable pub slots_from : List ℕ → List ℕ → List ℕ → ℕ → ℕ → List Slot
slots_from ports used marks i zero = []
slots_from ports used marks i (suc n) = slot_at ports used marks i ∷ slots_from ports used marks (suc i) n

-- THE ABSTRACTION: the slots of a table, in slot order
unfoldable pub slots_of : List ℕ → List ℕ → List ℕ → List Slot
slots_of ports used marks = slots_from ports used marks 0 (length ports)

-- those of a list that pass a test, in its order
unfoldable pub chosen : {A : Type 0} → (A → Bool) → List A → List A
chosen test [] = []
chosen test (x ∷ l) = when (test x) (x ∷ chosen test l) (chosen test l)

-- what the slots that pass a test give, in slot order
unfoldable pub gathered : {A : Type 0} → (Slot → Bool) → (Slot → A) → List Slot → List A
gathered test make slots = map make (chosen test slots)

-- ---- when it is sound

-- some number below n passes
unfoldable pub any_below : (ℕ → Bool) → ℕ → Bool
any_below f zero = false
any_below f (suc n) = f n || any_below f n

-- slot i is used, with these ports
unfoldable pub hit : List ℕ → List ℕ → ℕ → ℕ → Bool
hit ports used key i = used_at used i && eqb (get_or ports i 0) key

-- no two used slots have the same ports (its meaning: `SoundMeans` of Promises)
unfoldable pub distinct : List ℕ → List ℕ → Bool
distinct ports used =
    not (any_below (λ (j : ℕ). used_at used j && any_below (hit ports used (get_or ports j 0)) j) (length ports))

-- the slot count in range, the lent slices equally long, and no two used slots with the same ports
unfoldable pub sound_table : List ℕ → List ℕ → ℕ → Bool
sound_table ports used marks =
    is_slot_count (length ports) && (eqb (length used) (length ports) && (eqb marks (length ports) && distinct ports used))
