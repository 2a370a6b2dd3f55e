-- The calls of every queue answer by 01's rows. Assumes nothing.
use Prim.Native.Nat.{ℕ}
use mathlib.Core.Path.{◌≡◌, refl, ap, ◌∙◌}
use mathlib.Core.Bool.{Bool, true, false, not}
use mathlib.Core.List.{List, [], ◌∷◌}
use borrow.Author.Tests.{not-true}
use lib.ListN.{length}
use Rattle.defs.specs.Choice.{when}
use Rattle.defs.specs.Answer.{told, when_done, Answer, done}
use Rattle.defs.specs.Ladder.{door_of, record_answer}
use Rattle.defs.specs.Look.{FlagLeft, flag_of, LenLeft, len_of}
use Rattle.defs.specs.Promises.{Exactly, AnswersInTurn}
use Rattle.defs.proofs.AnswerLaws.{answer_told}
use Rattle.defs.proofs.ChoiceLaws.{when_holds}
use Rattle.defs.proofs.MeansLaws.{as_is, not_means, and_means, below_means}
use Rattle.defs.proofs.LadderLaws.{first_in_turn, by_turn, by_record, row}
use Rattle.queue.specs.Queue.{Kind, sound_q, items}
use Rattle.queue.specs.Queued.{QueuedLeft, ListLeft, has_room, made_of, new_of, push_of}
use Rattle.queue.specs.Look.{PeekLeft, peek_list, peek_of}
use Rattle.queue.specs.Pop.{PopLeft, pop_list, pop_of}
use Rattle.queue.specs.Means.{SoundMeans, Room}
use Rattle.queue.specs.Promises.{RoomMeans}
use Rattle.queue.specs.Answers.{push_rows, LookAnswers, NewAnswers}

-- ---- a push: 1 where the queue isn't sound, 11 where it is turned down

number : {Q : Type 0} (sound down : Bool) (left : QueuedLeft Q) (q : Q) → left.answer.number ≡ when down 11 0
    → (when_done (record_answer sound) left (record { answer = told (record_answer sound); queue = q })).answer.number ≡ first_in_turn ((1, not sound) ∷ (11, down) ∷ [])
unfolding record_answer door_of when_done when
number false down left q e = refl
number true true left q e = e
number true false left q e = e

pub room_means : RoomMeans
unfolding has_room
room_means synced len limit = and_means (as_is synced) (below_means len limit)

module _ {Q A : Type 0} (k : Kind Q A) where
  pub room_of : (q : Q) → Exactly (has_room (k.seen q).synced (length (items k q)) (k.seen q).limit ≡ true) (Room k q)
  room_of q = room_means (k.seen q).synced (length (items k q)) (k.seen q).limit

  pub no_room : (q : Q) → (Room k q → ⊥) → has_room (k.seen q).synced (length (items k q)) (k.seen q).limit ≡ false
  no_room q n = not-true _ ((not_means (room_of q)).1 n)

  pub push_answers : (Sound : Q → Type 0) → SoundMeans k Sound → (push : List A → ℕ → Bool → ListLeft A) (q : Q) (down : Bool) (TurnedDown : Type 0) → Exactly (down ≡ true) TurnedDown
      → (told (push (items k q) (k.seen q).limit (k.seen q).synced).answer).number ≡ when down 11 0
      → (left : QueuedLeft Q) → left ≡ push_of k push q → AnswersInTurn left.answer (push_rows (Sound q) TurnedDown)
  unfolding push_of
  push_answers Sound means push q down TurnedDown says f left e =
      by_turn left.answer (row 1 (not_means (means q)) ∷ row 11 says ∷ []) (ap (λ (o : QueuedLeft Q). o.answer.number) e ∙ number (sound_q k q) down _ q f)

  -- ---- what a call is judged by is what it answers

  pub made_told : (a : Answer) (made : Q) (left : QueuedLeft Q) → left ≡ made_of k a made → left.answer ≡ told a
  unfolding made_of
  made_told a made left e = ap (λ (o : QueuedLeft Q). o.answer) e

  pub pop_told : {G : Type 0} (nothing : G) (due : A → Bool) (give : A → G) (a : Answer) (q : Q) (left : PopLeft G Q) → left ≡ pop_of k nothing due give a q → left.answer ≡ told a
  unfolding pop_of pop_list when
  pop_told {G} nothing due give a q left e = ap (λ (o : PopLeft G Q). o.answer) e ∙ answer_told (λ (o : PopLeft G Q). o.answer) a _ _ (by (items k q)) refl
    where
      by : (l : List A) → (pop_list k nothing due give q l).answer ≡ told done
      by [] = refl
      by (x ∷ l) = when_holds (λ (o : PopLeft G Q). o.answer ≡ told done) (due x) _ _ (λ t. refl) (λ t. refl)

  -- ---- the constructor and the looks

  pub new_answers : (InRange : ℕ → Type 0) → ((limit : ℕ) → Exactly (k.is_limit limit ≡ true) (InRange limit)) → NewAnswers k InRange
  unfolding new_of
  new_answers InRange range limit left e = by_record _ _ _ (made_told _ _ left e) (range limit)

  peek_told : (q : Q) (left : PeekLeft A) → left ≡ peek_of k q → left.answer ≡ told (record_answer (sound_q k q))
  unfolding peek_of peek_list
  peek_told q left e = ap (λ (o : PeekLeft A). o.answer) e ∙ answer_told (λ (o : PeekLeft A). o.answer) (record_answer (sound_q k q)) _ _ (by (items k q)) refl
    where
      by : (l : List A) → (peek_list k l).answer ≡ told done
      by [] = refl
      by (x ∷ l) = refl

  pub look_answers : (Sound : Q → Type 0) → SoundMeans k Sound → LookAnswers k Sound
  unfolding flag_of len_of
  look_answers Sound means = record {
    is_synced = λ q left says. by_record _ _ _ (ap (λ (x : FlagLeft). x.answer) says) (means q);
    is_empty = λ q left says. by_record _ _ _ (ap (λ (x : FlagLeft). x.answer) says) (means q);
    is_full = λ q left says. by_record _ _ _ (ap (λ (x : FlagLeft). x.answer) says) (means q);
    len = λ q left says. by_record _ _ _ (ap (λ (x : LenLeft). x.answer) says) (means q);
    peek = λ q left says. by_record _ _ _ (peek_told q left says) (means q);
  }
