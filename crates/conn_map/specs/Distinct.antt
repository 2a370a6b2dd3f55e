-- No two used slots with the same ports, as the code tests it: by marks, and by a sort of those whose mark is left again. No public contract cites this. Assumes nothing.
use Rattle.std.specs.Prelude.{ℕ, suc, zero, ◌%◌, Bool, false, not, ◌||◌, List, [], ◌∷◌, get_or, set, eqb}
use Rattle.defs.specs.Choice.{when}
use Rattle.conn_map.specs.Table.{used_at}

-- the ports of the used slots below n, the last first
unfoldable pub keys_to : List ℕ → List ℕ → ℕ → List ℕ
keys_to ports used zero = []
keys_to ports used (suc n) = when (used_at used n) (get_or ports n 0 ∷ keys_to ports used n) (keys_to ports used n)

-- a key is in a list
unfoldable pub has : ℕ → List ℕ → Bool
has key [] = false
has key (x ∷ l) = eqb x key || has key l

-- two keys of a list are the same
unfoldable pub twice : List ℕ → Bool
twice [] = false
twice (x ∷ l) = has x l || twice l

-- ---- marks

-- the places for marks: MARKS of src/distinct.rt
abbrev pub mark_count : ℕ
mark_count = 8117

-- where a key leaves its mark
unfoldable pub mark_of : ℕ → ℕ
mark_of key = key % mark_count

-- a mark, left once more: 1 is once, 2 is again
unfoldable pub next_mark : ℕ → ℕ
next_mark mark = when (eqb mark 0) 1 2

-- each key of a list leaves its mark
unfoldable pub marked : List ℕ → List ℕ → List ℕ
marked marks [] = marks
marked marks (x ∷ l) = set (marked marks l) (mark_of x) (next_mark (get_or (marked marks l) (mark_of x) 0))

-- a key of a list finds its mark left already
unfoldable pub repeats : List ℕ → List ℕ → Bool
repeats marks [] = false
repeats marks (x ∷ l) = repeats marks l || not (eqb (get_or (marked marks l) (mark_of x) 0) 0)

-- a key's mark was left again
unfoldable pub again : List ℕ → ℕ → Bool
again marks key = eqb (get_or marks (mark_of key) 0) 2
