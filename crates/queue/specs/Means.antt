-- What a queue's calls do, said a second time: over its record before and after, by place and in 01's words, apart from the definitions that the code
-- follows, so that a wrong behaviour put into both is refused here. Assumes nothing.
use Rattle.std.specs.Prelude.{ℕ, ◌+◌, ◌≤◌, ◌<◌, ◌≡◌, true, false, length, get_or, set}
use Rattle.defs.specs.Look.{FlagLeft, LenLeft}
use Rattle.defs.specs.Promises.{Exactly}
use Rattle.queue.specs.Queue.{Kind, sound_q, items}
use Rattle.queue.specs.Queued.{QueuedLeft}
use Rattle.queue.specs.Look.{PeekLeft, SyncedSays, EmptySays, FullSays, LengthSays}
use Rattle.queue.specs.Pop.{PopLeft}

module _ {Q A : Type 0} (k : Kind Q A) where
  -- what a place holds; past the last the zero item
  abbrev pub place_of : Q → ℕ → A
  place_of q n = get_or (k.seen q).places n k.zero_item

  -- 01: a queue is sound when its limit is in range and its length is within it; places past its length hold the zero item
  abbrev pub Sound : ℕ → ℕ → Q → Type 0
  Sound least most q =
      (least ≤ (k.seen q).limit) × ((k.seen q).limit ≤ most) × ((k.seen q).len ≤ (k.seen q).limit) × ((n : ℕ) → (k.seen q).len ≤ n → place_of q n ≡ k.zero_item)

  -- its test says just that
  abbrev pub SoundMeans : (Q → Type 0) → Type 0
  SoundMeans Sound = (q : Q) → Exactly (sound_q k q ≡ true) (Sound q)

  -- a sound queue, its array as long as its type says
  abbrev pub Given : Q → Type 0
  Given q = (length (k.seen q).places ≡ k.size) × (sound_q k q ≡ true)

  -- an empty, synced queue of a limit: all its places hold the zero item
  pub record EmptyOf (bound : ℕ) (q : Q) : Type 0 where
    pub places : (length (k.seen q).places ≡ k.size) × ((n : ℕ) → place_of q n ≡ k.zero_item)
    pub len : (k.seen q).len ≡ 0
    pub limit : (k.seen q).limit ≡ bound
    pub synced : (k.seen q).synced ≡ true

  -- ---- a push

  -- synced and not full
  abbrev pub Room : Q → Type 0
  Room q = ((k.seen q).synced ≡ true) × (length (items k q) < (k.seen q).limit)

  -- answer 0: the item stands behind the others, and nothing else moves
  abbrev pub Appends : Q → A → QueuedLeft Q → Type 0
  Appends q x left =
      (left.answer.number ≡ 0)
      × (left.queue ≡ k.made (record { places = set (k.seen q).places (k.seen q).len x; len = (k.seen q).len + 1; limit = (k.seen q).limit; synced = (k.seen q).synced }))

  -- answer 0: the item stands in the place of another, and sync is lost
  abbrev pub Replaces : Q → ℕ → A → QueuedLeft Q → Type 0
  Replaces q n x left =
      (left.answer.number ≡ 0)
      × (left.queue ≡ k.made (record { places = set (k.seen q).places n x; len = (k.seen q).len; limit = (k.seen q).limit; synced = false }))

  -- answer 11: the items stay, and sync is lost
  abbrev pub Unsyncs : Q → QueuedLeft Q → Type 0
  Unsyncs q left =
      (left.answer.number ≡ 11)
      × (left.queue ≡ k.made (record { places = (k.seen q).places; len = (k.seen q).len; limit = (k.seen q).limit; synced = false }))

  -- a push behind the others
  pub record PushBackMeans (x : A) (q : Q) (left : QueuedLeft Q) : Type 0 where
    pub room : Room q → Appends q x left
    pub no_room : (Room q → ⊥) → Unsyncs q left

  -- ---- the looks: sync as it stands, the number of items, and whether that is 0 or the limit

  pub record LooksMean (q : Q) : Type 0 where
    pub synced : (o : FlagLeft) → SyncedSays k q o → o.answer.number ≡ 0 → o.holds ≡ (k.seen q).synced
    pub empty : (o : FlagLeft) → EmptySays k q o → o.answer.number ≡ 0 → Exactly (o.holds ≡ true) ((k.seen q).len ≡ 0)
    pub full : (o : FlagLeft) → FullSays k q o → o.answer.number ≡ 0 → Exactly (o.holds ≡ true) ((k.seen q).len ≡ (k.seen q).limit)
    pub len : (o : LenLeft) → LengthSays k q o → o.answer.number ≡ 0 → o.len ≡ (k.seen q).len

  -- ---- a peek and a pop

  -- the front, where there is one; an empty queue has the zero item there
  pub record PeekMeans (q : Q) (left : PeekLeft A) : Type 0 where
    pub answer : left.answer.number ≡ 0
    pub found : Exactly (left.found ≡ true) (1 ≤ (k.seen q).len)
    pub item : left.item ≡ place_of q 0

  -- only the front is looked at: found exactly if there is one and it is due; then all others move up by a place, and limit and sync stay; else nothing
  -- is given and nothing changes
  pub record PopMeans {G : Type 0} (Due : A → Type 0) (give : A → G) (nothing : G) (q : Q) (left : PopLeft G Q) : Type 0 where
    pub answer : left.answer.number ≡ 0
    pub found : Exactly (left.found ≡ true) ((1 ≤ (k.seen q).len) × Due (place_of q 0))
    pub given : left.found ≡ true → left.given ≡ give (place_of q 0)
    pub moved : left.found ≡ true → (n : ℕ) → place_of left.queue n ≡ place_of q (n + 1)
    pub shorter : left.found ≡ true → (k.seen left.queue).len + 1 ≡ (k.seen q).len
    pub size : left.found ≡ true → length (k.seen left.queue).places ≡ k.size
    pub limit : (k.seen left.queue).limit ≡ (k.seen q).limit
    pub synced : (k.seen left.queue).synced ≡ (k.seen q).synced
    pub idle : left.found ≡ false → (left.queue ≡ q) × (left.given ≡ nothing)
