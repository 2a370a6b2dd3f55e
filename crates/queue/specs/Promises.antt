-- What this crate promises, in statements only; proofs/Promises has a line for each. Assumes nothing.
use Rattle.std.specs.Prelude.{ℕ, ◌+◌, ◌%◌, ◌≤◌, ◌<◌, ◌≡◌, ◌⊎◌, Bool, true, false, List, length}
use Rattle.defs.specs.Answer.{told, Answer, done}
use Rattle.defs.specs.Promises.{Exactly, Refuses}
use Rattle.defs.specs.Reading.{Hold}
use Rattle.queue.specs.Queue.{Kind, Lawful, place_after, used_past, used_round, sound_q, items, pack, empty_of, holding}
use Rattle.queue.specs.Queued.{QueuedLeft, has_room, ListLeft, made_of, new_of, push_of, PushBackSays}
use Rattle.queue.specs.Fill.{all_in, filled}
use Rattle.queue.specs.Look.{PeekLeft, peek_of}
use Rattle.queue.specs.Pop.{PopLeft, pop_of}
use Rattle.queue.specs.Means.{Sound, SoundMeans, Given, EmptyOf, LooksMean, PushBackMeans, PeekMeans, PopMeans}
use Rattle.queue.specs.Answers.{LookAnswers, NewAnswers}
use Rattle.queue.specs.Edges.{sounds, packs, pops, onwards, rooms}

-- the queue means its list: a list within the limit makes a sound queue that holds it, and a sound queue is the one that its items make
pub record QueueIsItsList {Q A : Type 0} (k : Kind Q A) : Type 0 where
  pub packed_sound : (l : List A) (limit : ℕ) (synced : Bool) → k.is_limit limit ≡ true → length l ≤ limit → sound_q k (pack k l limit synced) ≡ true
  pub packed_items : (l : List A) (limit : ℕ) (synced : Bool) → items k (pack k l limit synced) ≡ l
  pub sound_packed : (q : Q) → length (k.seen q).places ≡ k.size → sound_q k q ≡ true → q ≡ pack k (items k q) (k.seen q).limit (k.seen q).synced

-- whatever the items
abbrev pub EveryQueueIsItsList : Type 1
EveryQueueIsItsList = (Q A : Type 0) (k : Kind Q A) → Lawful k → QueueIsItsList k

-- a sound queue stays sound, whatever a call makes of its list, as long as that is within the limit
abbrev pub SoundStaysSound : Type 1
SoundStaysSound =
    (Q A : Type 0) (k : Kind Q A) → Lawful k → (q : Q) (l : List A) (synced : Bool) → sound_q k q ≡ true → length l ≤ (k.seen q).limit
    → sound_q k (holding k q l synced) ≡ true

-- the test of a queue says what 01 says, whatever the range of its limits
abbrev pub EverySoundMeans : Type 1
EverySoundMeans =
    (Q A : Type 0) (k : Kind Q A) → Lawful k → (least most : ℕ) → ((limit : ℕ) → Exactly (k.is_limit limit ≡ true) ((least ≤ limit) × (limit ≤ most)))
    → SoundMeans k (Sound k least most)

-- where the code looks for an item of a queue whose front is below its limit: at the sum modulo the limit
abbrev pub PlaceAfterMeans : Type 0
PlaceAfterMeans = (front n limit : ℕ) → front < limit → n ≤ limit → place_after front n limit ≡ (front + n) % limit

-- where it looks for what is not in use: no item stands at a place exactly if it is one up to the front, past those that run round the limit, or one past
-- those that don't
abbrev pub UsedMeans : Type 0
UsedMeans =
    (front len limit n : ℕ) → front < limit → len ≤ limit
    → Exactly ((i : ℕ) → i < len → (front + i) % limit ≡ n → ⊥) (((used_round front len limit ≤ n) × (n < front)) ⊎ (used_past front len limit ≤ n))

-- a constructor gives an empty, synced queue of its limit; where it is refused, and of a build that is, it is one of limit 0
pub record EveryMadeIsEmpty : Type 1 where
  pub done : (Q A : Type 0) (k : Kind Q A) → Lawful k → (limit : ℕ) (left : QueuedLeft Q) → left ≡ new_of k limit → left.answer.number ≡ 0 → EmptyOf k limit left.queue
  pub refused : (Q A : Type 0) (k : Kind Q A) → Lawful k → (answer : Answer) (made : Q) (left : QueuedLeft Q) → left ≡ made_of k answer made → Refuses left.answer
      → EmptyOf k 0 left.queue

-- answers 1 to 6 change nothing and give nothing
pub record RefusalKeeps {Q A : Type 0} (k : Kind Q A) (q : Q) : Type 1 where
  pub push : (push : List A → ℕ → Bool → ListLeft A) (left : QueuedLeft Q) → left ≡ push_of k push q
      → (Refuses (told (push (items k q) (k.seen q).limit (k.seen q).synced).answer) → ⊥) → Refuses left.answer → left.queue ≡ q
  pub peek : (left : PeekLeft A) → left ≡ peek_of k q → Refuses left.answer → (left.found ≡ false) × (left.item ≡ k.zero_item)
  pub pop : (G : Type 0) (nothing : G) (due : A → Bool) (give : A → G) (answer : Answer) (left : PopLeft G Q) → left ≡ pop_of k nothing due give answer q → Refuses left.answer
      → (left.queue ≡ q) × (left.found ≡ false) × (left.given ≡ nothing)

abbrev pub RefusalsChangeNothing : Type 1
RefusalsChangeNothing = (Q A : Type 0) (k : Kind Q A) (q : Q) → RefusalKeeps k q

-- a look tells what stands in the record
abbrev pub EveryLookMeans : Type 1
EveryLookMeans = (Q A : Type 0) (k : Kind Q A) → Lawful k → (q : Q) → Given k q → LooksMean k q

-- to take in a list, item by item, is to fill an empty queue: it holds the first items, and is unsynced exactly if there are more than its limit
abbrev pub EveryQueueFills : Type 1
EveryQueueFills = (Q A : Type 0) (k : Kind Q A) → Lawful k → (limit : ℕ) → limit ≤ k.size → (l : List A) → all_in k l (empty_of k limit) ≡ filled k limit l

-- room is for one more: synced and not full
abbrev pub RoomMeans : Type 0
RoomMeans = (synced : Bool) (len limit : ℕ) → Exactly (has_room synced len limit ≡ true) ((synced ≡ true) × (len < limit))

-- a push behind the others, where there is room; else it is turned down, and unsyncs
abbrev pub EveryPushBackMeans : Type 1
EveryPushBackMeans =
    (Q A : Type 0) (k : Kind Q A) → Lawful k → (x : A) (q : Q) (left : QueuedLeft Q) → PushBackSays k x q left → Given k q → PushBackMeans k x q left

-- a peek looks at the front
abbrev pub EveryPeekMeans : Type 1
EveryPeekMeans = (Q A : Type 0) (k : Kind Q A) → Lawful k → (q : Q) (left : PeekLeft A) → left ≡ peek_of k q → Given k q → PeekMeans k q left

-- a pop takes the front or nothing, whatever makes it due and whatever is given of it
abbrev pub EveryPopMeans : Type 1
EveryPopMeans =
    (Q A G : Type 0) (k : Kind Q A) → Lawful k → (nothing : G) (due : A → Bool) (give : A → G) (Due : A → Type 0) → ((x : A) → Exactly (due x ≡ true) (Due x))
    → (q : Q) (left : PopLeft G Q) → left ≡ pop_of k nothing due give done q → Given k q → PopMeans k Due give nothing q left

-- whatever a queue's test and its limit's test say, the numbers are 01's
abbrev pub EveryLookAnswers : Type 1
EveryLookAnswers = (Q A : Type 0) (k : Kind Q A) (Sound : Q → Type 0) → SoundMeans k Sound → LookAnswers k Sound

abbrev pub EveryNewAnswers : Type 1
EveryNewAnswers = (Q A : Type 0) (k : Kind Q A) (InRange : ℕ → Type 0) → ((limit : ℕ) → Exactly (k.is_limit limit ≡ true) (InRange limit)) → NewAnswers k InRange

-- edges, computed
pub record EdgesHold : Type 0 where
  pub sounds : Hold sounds
  pub packs : Hold packs
  pub pops : Hold pops
  pub onwards : Hold onwards
  pub rooms : Hold rooms
