-- The calls that only look at a queue (01, "The two queues"). Assumes nothing.
use Rattle.std.specs.Prelude.{◌≡◌, Option, Some, None, Result, Ok, Err, Bool, true, false, List, [], ◌∷◌, eqb, length}
use Rattle.defs.specs.Answer.{Told, told, when_done, done}
use Rattle.defs.specs.Ladder.{record_answer}
use Rattle.defs.specs.Look.{FlagLeft, FlagSays, LenLeft, LenSays}
use Rattle.defs.specs.declared.answer.Refusal.{Refusal}
use Rattle.queue.specs.Queue.{Kind, sound_q, items}

pub record PeekLeft (A : Type 0) : Type 0 where
  pub answer : Told
  pub found : Bool
  pub item : A

-- what is seen of a result: the front item; the zero item, where there is none
abbrev pub peek_seen : {A : Type 0} → A → Result (Option A) Refusal → PeekLeft A
peek_seen zero (Ok (Some x)) = record { answer = told done; found = true; item = x }
peek_seen zero (Ok None) = record { answer = told done; found = false; item = zero }
peek_seen zero (Err r) = record { answer = told (Err r); found = false; item = zero }

-- the front of a list
abbrev pub front_of : {A : Type 0} → List A → Option A
front_of [] = None
front_of (x ∷ l) = Some x

module _ {Q A : Type 0} (k : Kind Q A) where
  -- the front item, or none: the zero item beside "not found"
  unfoldable pub peek_list : List A → PeekLeft A
  peek_list [] = record { answer = told done; found = false; item = k.zero_item }
  peek_list (x ∷ l) = record { answer = told done; found = true; item = x }

  -- of a sound queue
  unfoldable pub peek_of : Q → PeekLeft A
  peek_of q =
      when_done (record_answer (sound_q k q))
      (peek_list (items k q))
      (record { answer = told (record_answer (sound_q k q)); found = false; item = k.zero_item })

  -- THE STATEMENT of `peek`
  abbrev pub PeekSays : Q → PeekLeft A → Type 0
  PeekSays q left = left ≡ peek_of q

  -- THE STATEMENT of `is_synced`
  abbrev pub SyncedSays : Q → FlagLeft → Type 0
  SyncedSays q left = FlagSays (record_answer (sound_q k q)) (k.seen q).synced left

  -- THE STATEMENT of `is_empty`: no item
  abbrev pub EmptySays : Q → FlagLeft → Type 0
  EmptySays q left = FlagSays (record_answer (sound_q k q)) (eqb (length (items k q)) 0) left

  -- THE STATEMENT of `is_full`: as many items as the limit
  abbrev pub FullSays : Q → FlagLeft → Type 0
  FullSays q left = FlagSays (record_answer (sound_q k q)) (eqb (length (items k q)) (k.seen q).limit) left

  -- THE STATEMENT of `len`
  abbrev pub LengthSays : Q → LenLeft → Type 0
  LengthSays q left = LenSays (record_answer (sound_q k q)) (length (items k q)) left
