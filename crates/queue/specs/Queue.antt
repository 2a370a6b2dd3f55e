-- What a queue is, over any item (01, "The numbers of a connection", "The two queues"): its record, when it is sound, and the list that it means. Assumes nothing.
use Rattle.std.specs.Prelude.{ℕ, ◌+◌, ◌-◌, ◌≤◌, min, ◌≡◌, Bool, true, ◌&&◌, List, [], ◌∷◌, ◌++◌, leb, ltb, length, take, drop, replicate}
use Rattle.defs.specs.Choice.{when}

-- the record of a queue
pub record Queue (A : Type 0) : Type 0 where
  pub places : List A
  pub len : ℕ
  pub limit : ℕ
  pub synced : Bool

-- what a queue has of its own: its record as a `Queue` and back, the zero item and the test for it, how many places there are, which limits it may have
pub record Kind (Q A : Type 0) : Type 0 where
  pub seen : Q → Queue A
  pub made : Queue A → Q
  pub zero_item : A
  pub is_zero : A → Bool
  pub size : ℕ
  pub is_limit : ℕ → Bool

-- what the promises ask of these: one record is as good as the other, the test finds just the zero item, every limit has its places
pub record Lawful {Q A : Type 0} (k : Kind Q A) : Type 0 where
  pub back : (q : Q) → k.made (k.seen q) ≡ q
  pub forth : (q : Queue A) → k.seen (k.made q) ≡ q
  pub zero_passes : k.is_zero k.zero_item ≡ true
  pub zero_alone : (x : A) → k.is_zero x ≡ true → x ≡ k.zero_item
  pub limit_fits : (limit : ℕ) → k.is_limit limit ≡ true → limit ≤ k.size

-- every item passes a test
unfoldable pub all : {A : Type 0} → (A → Bool) → List A → Bool
all test [] = true
all test (x ∷ l) = test x && all test l

-- all N places of a list of items: front at place 0, zero items past them
abbrev pub padded : {A : Type 0} → ℕ → A → List A → List A
padded N zero l = l ++ replicate (N - length l) zero

-- a list turned: what stood at n comes first, what stood before it last
abbrev pub turned : {A : Type 0} → ℕ → List A → List A
turned n l = drop n l ++ take n l

-- the place so many on from the front, back to 0 at the limit
unfoldable pub place_after : ℕ → ℕ → ℕ → ℕ
place_after front n limit = when (ltb n (limit - front)) (front + n) (n - (limit - front))

-- the places in use reach from the front up to this one, the limit at most
unfoldable pub used_past : ℕ → ℕ → ℕ → ℕ
used_past front len limit = min (front + len) limit

-- and, where the items run round the limit, from 0 up to this one
unfoldable pub used_round : ℕ → ℕ → ℕ → ℕ
used_round front len limit = front + len - limit

module _ {Q A : Type 0} (k : Kind Q A) where
  -- places past the length hold the zero item
  unfoldable pub clear_q : Q → Bool
  clear_q q = all k.is_zero (drop (k.seen q).len (k.seen q).places)

  -- a queue is sound: its limit in range, its length within the limit, zero items past the length
  unfoldable pub sound_q : Q → Bool
  sound_q q = (k.is_limit (k.seen q).limit && leb (k.seen q).len (k.seen q).limit) && clear_q q

  -- THE ABSTRACTION: the items of a queue, front first
  abbrev pub items : Q → List A
  items q = take (k.seen q).len (k.seen q).places

  -- and the queue that holds a list of items: the one definition that lays a list into a record
  abbrev pub pack : List A → ℕ → Bool → Q
  pack l limit synced = k.made (record { places = padded k.size k.zero_item l; len = length l; limit = limit; synced = synced })

  -- an empty, synced queue
  abbrev pub empty_of : ℕ → Q
  empty_of limit = pack [] limit true

  -- a queue that a call has given other items, or another sync: its limit stays
  abbrev pub holding : Q → List A → Bool → Q
  holding q l synced = pack l (k.seen q).limit synced

  -- a queue whose front item has gone: sync stays
  abbrev pub front_gone : Q → Q
  front_gone q = holding q (drop 1 (items q)) (k.seen q).synced
