-- The queue of the code, an array of items and its length, as a queue. Assumes nothing.
use Rattle.std.specs.Prelude.{ℕ, Bool, ◌&&◌, leb}
use Rattle.queue.specs.Queue.{Kind}
use Rattle.queue.specs.declared.queue.Queue.{Queue}

-- the limits of a queue of N places: 1 to N
abbrev pub is_limit : ℕ → ℕ → Bool
is_limit N limit = leb 1 limit && leb limit N

-- its record, its zero item and the test for it, its places and its limits
abbrev pub arrays : {A : Type 0} (N : ℕ) → A → (A → Bool) → Kind (Queue A N) A
arrays N zero_item is_zero = record {
  seen = λ q. record { places = q.q; len = q.len; limit = q.limit; synced = q.synced };
  made = λ q. record { q = q.places; len = q.len; limit = q.limit; synced = q.synced };
  zero_item = zero_item;
  is_zero = is_zero;
  size = N;
  is_limit = is_limit N;
}
