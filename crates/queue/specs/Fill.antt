-- A queue that is filled item by item, as a build fills it. Assumes nothing.
use Rattle.std.specs.Prelude.{ℕ, ◌+◌, ◌≡◌, false, ◌&&◌, List, [], ◌∷◌, leb, ltb, length, take, set}
use Rattle.defs.specs.Choice.{when}
use Rattle.queue.specs.Queue.{Queue, Kind, pack}

module _ {Q A : Type 0} (k : Kind Q A) where
  -- an item taken in stands behind the others, where the limit and the array go that far; else only sync is lost. Soundness isn't tested
  unfoldable pub take_in_of : A → Queue A → Queue A
  take_in_of x q =
      when (ltb q.len q.limit && ltb q.len k.size)
      (record { places = set q.places q.len x; len = q.len + 1; limit = q.limit; synced = q.synced })
      (record { places = q.places; len = q.len; limit = q.limit; synced = false })

  -- the queue that a call leaves that takes in an item
  abbrev pub with_in : A → Q → Q
  with_in x q = k.made (take_in_of x (k.seen q))

  -- THE STATEMENT of `take_in`
  abbrev pub TakeInSays : A → Q → Q → Type 0
  TakeInSays x q next = next ≡ with_in x q

  -- the items of a list taken in, one after another
  unfoldable pub all_in : List A → Q → Q
  all_in [] q = q
  all_in (x ∷ l) q = all_in l (with_in x q)

  -- the first items, as far as the limit goes; unsynced exactly if there are more
  abbrev pub filled : ℕ → List A → Q
  filled limit all = pack k (take limit all) limit (leb (length all) limit)
