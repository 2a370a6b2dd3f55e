-- A pop (01, "The two queues"), whatever makes the front due and whatever is given of it. Assumes nothing.
use Rattle.std.specs.Prelude.{◌≡◌, Option, Some, None, Result, Ok, Err, Bool, true, false, List, [], ◌∷◌}
use Rattle.std.specs.Option.{option_map}
use Rattle.defs.specs.Choice.{when}
use Rattle.defs.specs.Answer.{Told, told, when_done, Answer, done}
use Rattle.defs.specs.declared.answer.Refusal.{Refusal}
use Rattle.defs.specs.Ladder.{record_answer}
use Rattle.queue.specs.Queue.{Kind, sound_q, items, front_gone}

pub record PopLeft (G Q : Type 0) : Type 0 where
  pub answer : Told
  pub found : Bool
  pub given : G
  pub queue : Q

-- what is seen of a result and a queue: what is given; a fixed value, where that is nothing
abbrev pub pop_seen : {G Q : Type 0} → G → Result (Option G) Refusal → Q → PopLeft G Q
pop_seen nothing (Ok (Some x)) q = record { answer = told done; found = true; given = x; queue = q }
pop_seen nothing (Ok None) q = record { answer = told done; found = false; given = nothing; queue = q }
pop_seen nothing (Err r) q = record { answer = told (Err r); found = false; given = nothing; queue = q }

-- a result that gives something of its item, in the item's place
abbrev pub mapped : {A G : Type 0} → (A → G) → Result (Option A) Refusal → Result (Option G) Refusal
mapped give (Ok o) = Ok (option_map give o)
mapped give (Err r) = Err r

-- nothing is given, and the queue is as it was
abbrev none : {G Q : Type 0} → G → Answer → Q → PopLeft G Q
none nothing answer q = record { answer = told answer; found = false; given = nothing; queue = q }

module _ {Q A G : Type 0} (k : Kind Q A) (nothing : G) (due : A → Bool) (give : A → G) where
  -- only the front is looked at: it goes if it is due, and sync stays; with nothing to give nothing changes
  unfoldable pub pop_list : Q → List A → PopLeft G Q
  pop_list q [] = none nothing done q
  pop_list q (x ∷ l) =
      when (due x) (record { answer = told done; found = true; given = give x; queue = front_gone k q }) (none nothing done q)

  -- a refusal changes nothing
  unfoldable pub pop_of : Answer → Q → PopLeft G Q
  pop_of answer q = when_done answer (pop_list q (items k q)) (none nothing answer q)

-- THE STATEMENT of `pop_front`: the front item goes, whatever it is, and is given as it is; the zero item where there is none
abbrev pub PopFrontSays : {Q A : Type 0} → Kind Q A → Q → PopLeft A Q → Type 0
PopFrontSays k q left = left ≡ pop_of k k.zero_item (λ x. true) (λ x. x) (record_answer (sound_q k q)) q
