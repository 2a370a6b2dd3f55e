-- What this crate promises, in statements only; proofs/Promises has a line for each. Assumes nothing.
use Rattle.std.specs.Prelude.{ℕ, ◌+◌, ◌*◌, ◌/◌, ◌%◌, ◌^◌, ◌≤◌, ◌<◌, ◌≡◌, Bool, true, List, length, get_or}
use Rattle.defs.specs.Promises.{Exactly}
use Rattle.defs.specs.Reading.{Hold}
use Rattle.conn_map.specs.Key.{key_of}
use Rattle.conn_map.specs.Edges.{last_pair, far_pair, same_mark, reading_slots}
use Rattle.conn_map.specs.Table.{Slot, slot_at, slots_of, gathered, sound_table}
use Rattle.conn_map.specs.Order.{InSlotOrder}

-- the ports that two numbers stand for are the same, the local ones and the peer ones
abbrev pub SamePorts : ℕ → ℕ → Type 0
SamePorts a b = (a / 2 ^ 32 ≡ b / 2 ^ 32) × (a % 2 ^ 32 ≡ b % 2 ^ 32)

-- 01: no two used slots have the same ports
abbrev pub NoTwoAlike : List ℕ → List ℕ → Type 0
NoTwoAlike ports used =
    (i j : ℕ) → i < j → j < length ports → 0 < get_or used i 0 → 0 < get_or used j 0 → SamePorts (get_or ports i 0) (get_or ports j 0) → ⊥

-- a table is sound: 1 to 1,024 slots, the slices equally long, no two used slots with the same ports
abbrev pub Sound : List ℕ → List ℕ → ℕ → Type 0
Sound ports used marks = (1 ≤ length ports) × (length ports ≤ 1024) × (length used ≡ length ports) × (marks ≡ length ports) × NoTwoAlike ports used

-- its test says just that
abbrev pub SoundMeans : Type 0
SoundMeans = (ports used : List ℕ) (marks : ℕ) → Exactly (sound_table ports used marks ≡ true) (Sound ports used marks)

-- what the slots that pass a test give is in slot order
abbrev pub GatheredInOrder : Type 1
GatheredInOrder =
    (A : Type 0) (test : Slot → Bool) (make : Slot → A) (nothing : A) (ports used marks : List ℕ)
    → InSlotOrder (length ports) (λ (i : ℕ). test (slot_at ports used marks i)) (λ (i : ℕ). make (slot_at ports used marks i)) nothing
    (gathered test make (slots_of ports used marks))

-- the edges of the test, computed
pub record EdgesHold : Type 0 where
  pub last_pair : Hold last_pair
  pub far_pair : Hold far_pair
  pub same_mark : Hold same_mark
  pub slots : Hold reading_slots

-- one number is both ports: the local one times 2^32, and the peer one
abbrev pub NumberIsPorts : Type 0
NumberIsPorts = (ports : ℕ) → ((key_of ports).local_port * 2 ^ 32 + (key_of ports).peer_port ≡ ports) × ((key_of ports).peer_port < 2 ^ 32)
