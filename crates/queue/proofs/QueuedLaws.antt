-- Laws of the constructors and of a push: each end of the call. Assumes nothing.
use Prim.Native.Nat.{ℕ, ◌≤◌}
use mathlib.Core.Path.{◌≡◌, refl, sym, ap, ◌∙◌}
use mathlib.Core.Bool.{Bool, true, false}
use mathlib.Core.List.{List, [], ◌∷◌, ◌++◌}
use native.Mathlib.Omega.{arith}
use lib.ListN.{length}
use Rattle.defs.specs.Choice.{when}
use Rattle.defs.specs.Answer.{told, is_done, when_done, Answer, done}
use Rattle.defs.specs.Ladder.{door_of, record_answer}
use Rattle.defs.specs.declared.answer.Refusal.TheVariants.{NotQueued}
use Rattle.defs.proofs.AnswerLaws.{NotDone, not_done, when_done_lem, when_not_done, is_done_lem, number_zero}
use Rattle.defs.proofs.ChoiceLaws.{when_holds}
use Rattle.defs.proofs.LadderLaws.{record_passed}
use Rattle.queue.specs.Queue.{Kind, Lawful, sound_q, items, pack, holding}
use Rattle.queue.specs.Queued.{QueuedLeft, ListLeft, leaves, has_room, made_of, new_of, laid, push_of}
use Rattle.queue.proofs.QueueLaws.{Sound, sound_says, sound_past, synced_anew, queue_is_its_list, sound_stays_sound, room_is}
use Rattle.std.specs.Prelude.{Err}

-- ---- the constructors

module _ {Q A : Type 0} (k : Kind Q A) (a p : Answer) (e : a ≡ p) (x made : Q) where
  pub made_kept : is_done a ≡ false → x ≡ pack k [] 0 true → ◌≡◌ {A = QueuedLeft Q} (record { answer = told a; queue = x }) (made_of k p made)
  unfolding made_of
  made_kept n f = rw (f, ← e, when_not_done a made (pack k [] 0 true) n) refl

  pub made_done : is_done a ≡ true → x ≡ made → ◌≡◌ {A = QueuedLeft Q} (record { answer = told a; queue = x }) (made_of k p made)
  unfolding made_of
  made_done d f = rw (f, ← e, when_done_lem a made (pack k [] 0 true) (is_done_lem a d)) refl

-- ---- a push

module _ {Q A : Type 0} {k : Kind Q A} (w : Lawful k) (push : List A → ℕ → Bool → ListLeft A) (q : Q) (a : Answer) (e : a ≡ record_answer (sound_q k q)) where
  pub push_kept_lem : NotDone a → ◌≡◌ {A = QueuedLeft Q} (record { answer = told a; queue = q }) (push_of k push q)
  unfolding push_of
  push_kept_lem n = rw e (sym (when_not_done _ _ _ (ap is_done (sym e) ∙ not_done a n)))

  module _ (d : a ≡ done) where
    pub push_laid : (left : QueuedLeft Q) → left ≡ laid k q (push (items k q) (k.seen q).limit (k.seen q).synced) → left ≡ push_of k push q
    unfolding push_of
    push_laid left f = f ∙ sym (when_done_lem _ _ _ (sym e ∙ d))

    module _ (n : length (k.seen q).places ≡ k.size) where
      sound : Sound k q
      sound = sound_past k w q a e d n

      pub push_appends : (x : A) (m : Q) → m ≡ holding k q (items k q ++ (x ∷ [])) (k.seen q).synced → has_room (k.seen q).synced (k.seen q).len (k.seen q).limit ≡ true
          → (has_room (k.seen q).synced (length (items k q)) (k.seen q).limit ≡ true
          → push (items k q) (k.seen q).limit (k.seen q).synced ≡ leaves done (items k q ++ (x ∷ [])) (k.seen q).synced)
          → ◌≡◌ {A = QueuedLeft Q} (record { answer = told a; queue = m }) (push_of k push q)
      push_appends x m f t says =
          push_laid _ (rw d (ap (λ (r : Q). record { answer = told done; queue = r }) f ∙ ap (laid k q) (sym (says (room_is q sound _ true t)))))

      pub push_turned : has_room (k.seen q).synced (k.seen q).len (k.seen q).limit ≡ false
          → (has_room (k.seen q).synced (length (items k q)) (k.seen q).limit ≡ false
          → push (items k q) (k.seen q).limit (k.seen q).synced ≡ leaves (Err NotQueued) (items k q) false)
          → ◌≡◌ {A = QueuedLeft Q}
          (record { answer = told (Err NotQueued); queue = k.made (record { places = (k.seen q).places; len = (k.seen q).len; limit = (k.seen q).limit; synced = false }) })
          (push_of k push q)
      push_turned t says =
          push_laid _
          (ap (λ (r : Q). record { answer = told (Err NotQueued); queue = r }) (synced_anew k w q false sound) ∙ ap (laid k q) (sym (says (room_is q sound _ false t))))

-- pushes that are alike on the items of a sound queue
pub push_alike : {Q A : Type 0} (k : Kind Q A) (w : Lawful k) (p r : List A → ℕ → Bool → ListLeft A) (q : Q) → length (k.seen q).places ≡ k.size
    → (Sound k q → p (items k q) (k.seen q).limit (k.seen q).synced ≡ r (items k q) (k.seen q).limit (k.seen q).synced) → push_of k p q ≡ push_of k r q
unfolding push_of record_answer door_of when_done when
push_alike {Q} k w p r q n f = by (sound_q k q) _ _ _ (λ t. ap (laid k q) (f (sound_says k w q n t)))
  where
    by : (b : Bool) (x y z : QueuedLeft Q) → (b ≡ true → x ≡ y) → when_done (record_answer b) x z ≡ when_done (record_answer b) y z
    by true x y z e = e refl
    by false x y z e = refl

-- ---- what they leave is sound

module _ {Q A : Type 0} (k : Kind Q A) (left : QueuedLeft Q) where
  pub made_sound : (p : Answer) (made : Q) → (p ≡ done → sound_q k made ≡ true) → left ≡ made_of k p made → left.answer.number ≡ 0 → sound_q k left.queue ≡ true
  unfolding made_of
  made_sound p made s e d =
      let f : p ≡ done = number_zero p (sym (ap (λ (o : QueuedLeft Q). o.answer.number) e) ∙ d) in
      ap (λ (o : QueuedLeft Q). sound_q k o.queue) e ∙ ap (sound_q k) (when_done_lem p made _ f) ∙ s f

  module _ (w : Lawful k) where
    pub new_sound : (limit : ℕ) → left ≡ new_of k limit → left.answer.number ≡ 0 → sound_q k left.queue ≡ true
    unfolding new_of
    new_sound limit = made_sound _ _ (λ d. (queue_is_its_list k w).packed_sound [] limit true (record_passed _ (k.is_limit limit) refl d) (omega arith))

    pub push_sound : (push : List A → ℕ → Bool → ListLeft A) (q : Q) → left ≡ push_of k push q → sound_q k q ≡ true
        → length (push (items k q) (k.seen q).limit (k.seen q).synced).list ≤ (k.seen q).limit → sound_q k left.queue ≡ true
    unfolding push_of when_done
    push_sound push q e s h =
        let m = push (items k q) (k.seen q).limit (k.seen q).synced in
        ap (λ (o : QueuedLeft Q). sound_q k o.queue) e
        ∙ when_holds (λ (o : QueuedLeft Q). sound_q k o.queue ≡ true) (is_done (record_answer (sound_q k q))) _ _ (λ t. sound_stays_sound k w q m.list m.synced s h) (λ t. s)
