-- The calls that give a queue: the constructors and a push (01, "What comes back", "The two queues"). Assumes nothing.
use Rattle.std.specs.Prelude.{◌≡◌, ℕ, Bool, true, false, ◌&&◌, List, [], ◌∷◌, ◌++◌, ltb, length, Err}
use Rattle.defs.specs.Choice.{when}
use Rattle.defs.specs.Answer.{Told, told, when_done, Answer, done}
use Rattle.defs.specs.declared.answer.Refusal.TheVariants.{NotQueued}
use Rattle.defs.specs.Ladder.{record_answer}
use Rattle.queue.specs.Queue.{Kind, sound_q, items, pack, holding}

pub record QueuedLeft (Q : Type 0) : Type 0 where
  pub answer : Told
  pub queue : Q

-- a queue takes one item more where it is synced and not full
unfoldable pub has_room : Bool → ℕ → ℕ → Bool
has_room synced len limit = synced && ltb len limit

-- what a push makes of a list: its answer, the items, the sync
pub record ListLeft (A : Type 0) : Type 0 where
  pub answer : Answer
  pub list : List A
  pub synced : Bool

-- the same in a line
abbrev pub leaves : {A : Type 0} → Answer → List A → Bool → ListLeft A
leaves answer l synced = record { answer = answer; list = l; synced = synced }

-- synced and not full: an item stands behind the others. Otherwise it is turned down, and sync is lost
unfoldable pub push_list : {A : Type 0} → A → List A → ℕ → Bool → ListLeft A
push_list x l limit synced = when (has_room synced (length l) limit) (leaves done (l ++ (x ∷ [])) synced) (leaves (Err NotQueued) l false)

module _ {Q A : Type 0} (k : Kind Q A) where
  -- a queue is made; where that is refused, it is an empty, synced one of limit 0
  unfoldable pub made_of : Answer → Q → QueuedLeft Q
  made_of answer made = record { answer = told answer; queue = when_done answer made (pack k [] 0 true) }

  -- the constructor: an empty, synced queue
  unfoldable pub new_of : ℕ → QueuedLeft Q
  new_of limit = made_of (record_answer (k.is_limit limit)) (pack k [] limit true)

  -- THE STATEMENT of `new`: an empty, synced queue, of limit 0 where it is refused
  abbrev pub NewSays : ℕ → QueuedLeft Q → Type 0
  NewSays limit left = left ≡ new_of limit

  -- what a push leaves of a list, laid into the queue
  abbrev pub laid : Q → ListLeft A → QueuedLeft Q
  laid q left = record { answer = told left.answer; queue = holding k q left.list left.synced }

  -- a push, by what it makes of a sound queue's items, limit and sync; a refusal changes nothing
  unfoldable pub push_of : (List A → ℕ → Bool → ListLeft A) → Q → QueuedLeft Q
  push_of push q =
      when_done (record_answer (sound_q k q))
      (laid q (push (items k q) (k.seen q).limit (k.seen q).synced))
      (record { answer = told (record_answer (sound_q k q)); queue = q })

  -- THE STATEMENT of `push_back`
  abbrev pub PushBackSays : A → Q → QueuedLeft Q → Type 0
  PushBackSays x q left = left ≡ push_of (push_list x) q
