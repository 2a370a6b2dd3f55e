-- Laws of a pop: the places moved up, and each end of the call. Assumes nothing.
use Prim.Native.Nat.{ℕ, zero, suc, ◌-◌, ◌<◌}
use mathlib.Core.Path.{◌≡◌, refl, sym, ap, ◌∙◌}
use mathlib.Core.Bool.{Bool, true, false}
use mathlib.Core.List.{List, [], ◌∷◌, ◌++◌}
use native.Mathlib.Omega.{arith}
use lib.ListN.{take, drop, length-drop}
use Rattle.std.specs.Prelude.{Option, Some, None, Result, Ok, Err, cond}
use Rattle.std.specs.Option.{option_map}
use Rattle.std.specs.Result.{result_and}
use Rattle.defs.specs.Choice.{when}
use Rattle.defs.specs.declared.answer.Refusal.{Refusal}
use Rattle.defs.specs.Answer.{told, is_done, when_done, Answer, done}
use Rattle.defs.proofs.ChoiceLaws.{when_holds}
use Rattle.queue.specs.Queue.{Kind, Lawful, padded, sound_q, items, front_gone}
use Rattle.defs.specs.Ladder.{record_answer}
use Rattle.queue.specs.Look.{PeekSays, peek_seen, front_of}
use Rattle.queue.proofs.LookLaws.{peek_is}
use Rattle.queue.specs.Pop.{PopLeft, PopFrontSays, pop_seen, mapped, pop_list, pop_of}
use Rattle.queue.proofs.PlacesLaws.{places_up}
use Rattle.queue.proofs.QueueLaws.{Sound, packs, items_within, sound_stays_sound}

-- ---- the places

module _ {Q A : Type 0} {k : Kind Q A} (q : Q) (s : Sound k q) (h : 0 < (k.seen q).len) where
  -- the places moved up, the freed one zero
  pub front_dropped : (places : List A) (z : A) → z ≡ k.zero_item
      → places ≡ drop 1 (take (k.seen q).len (k.seen q).places) ++ (z ∷ drop (k.seen q).len (k.seen q).places)
      → k.made (record { places = places; len = (k.seen q).len - 1; limit = (k.seen q).limit; synced = (k.seen q).synced }) ≡ front_gone k q
  front_dropped places z e p =
      packs k places (drop 1 (items k q)) _ (k.seen q).limit (k.seen q).synced
      (omega (arith, s.held, length-drop 1 (items k q)))
      (p
      ∙ ap (λ (y : A). drop 1 (items k q) ++ (y ∷ drop (k.seen q).len (k.seen q).places)) e
      ∙ ap (λ (l : List A). drop 1 (items k q) ++ (k.zero_item ∷ drop (k.seen q).len l)) s.cleared
      ∙ ap (λ (n : ℕ). drop 1 (items k q) ++ (k.zero_item ∷ drop n (padded k.size k.zero_item (items k q)))) (sym s.held)
      ∙ places_up k.size k.zero_item (items k q) (omega (arith, s.held)) (omega (arith, s.held, s.most, s.within)))

-- ---- what is given, and what is left

-- the front of a list, if it is due
abbrev pub due_front : {A : Type 0} → (A → Bool) → List A → Option A
due_front due [] = None
due_front due (x ∷ l) = cond (due x) (Some x) None

-- the queue without the item that is given, where one is
abbrev pub taken : {Q A G : Type 0} → Kind Q A → Q → Result (Option G) Refusal → Q
taken k q (Ok (Some x)) = front_gone k q
taken k q (Ok None) = q
taken k q (Err p) = q

held_some : {A : Type 0} (n : ℕ) (places l : List A) (x : A) → take n places ≡ x ∷ l → 0 < n
held_some zero places l x e = absurd (nil_cons e)
  where
    nil_cons : [] ≡ x ∷ l → ⊥
    nil_cons e = cc
held_some (suc n) places l x e = omega arith

module _ {Q A G : Type 0} (k : Kind Q A) (nothing : G) (due : A → Bool) (give : A → G) (q : Q) (p : Answer) (r : Result (Option G) Refusal)
    (e : r ≡ result_and p (Ok (option_map give (due_front due (items k q))))) where
  pub pop_said : (m : Q) → m ≡ taken k q r → pop_seen nothing r m ≡ pop_of k nothing due give p q
  unfolding pop_of pop_list when_done when
  pop_said m f = rw (f, e) (by p (items k q))
    where
      left : Result (Option G) Refusal → PopLeft G Q
      left r = pop_seen nothing r (taken k q r)

      kept : Answer → PopLeft G Q
      kept p = record { answer = told p; found = false; given = nothing; queue = q }

      due_is : (x : A) (l : List A) (b : Bool) → left (Ok (option_map give (cond b (Some x) None))) ≡ when b (record { answer = told done; found = true; given = give x; queue = front_gone k q }) (kept done)
      due_is x l true = refl
      due_is x l false = refl

      by : (p : Answer) (l : List A) → left (result_and p (Ok (option_map give (due_front due l)))) ≡ when_done p (pop_list k nothing due give q l) (kept p)
      by (Ok u) [] = refl
      by (Ok u) (x ∷ l) = due_is x l (due x)
      by (Err a) l = refl

  -- where an item is given the call is done, and there is one
  pub pop_takes : (y : G) → r ≡ Ok (Some y) → (p ≡ done) × (0 < (k.seen q).len)
  pop_takes y f = by p (items k q) refl (sym e ∙ f)
    where
      by : (p : Answer) (l : List A) → items k q ≡ l → result_and p (Ok (option_map give (due_front due l))) ≡ Ok (Some y) → (p ≡ done) × (0 < (k.seen q).len)
      by (Ok tt) [] h g = absurd cc
      by (Ok tt) (x ∷ l) h g = (refl, held_some (k.seen q).len (k.seen q).places l x h)
      by (Err a) l h g = absurd cc

-- where the front is due, a pop of the front is that of it
module _ {Q A G : Type 0} (k : Kind Q A) (nothing : G) (due : A → Bool) (give : A → G) (q : Q) (x : A) (t : Result (Option A) Refusal) (m : Q) where
  pub pop_due : due_front due (items k q) ≡ Some x → PopFrontSays k q (pop_seen k.zero_item t m) → pop_seen nothing (mapped give t) m ≡ pop_of k nothing due give (record_answer (sound_q k q)) q
  unfolding pop_of pop_list when_done when
  pop_due d says = by (record_answer (sound_q k q)) (items k q) d says
    where
      kept : {B : Type 0} → B → Answer → PopLeft B Q
      kept z p = record { answer = told p; found = false; given = z; queue = q }

      gone : (s : Result (Option A) Refusal) (y : A) → pop_seen k.zero_item s m ≡ record { answer = told done; found = true; given = y; queue = front_gone k q }
          → pop_seen nothing (mapped give s) m ≡ record { answer = told done; found = true; given = give y; queue = front_gone k q }
      gone (Ok (Some z)) y e = λ i. record { answer = told done; found = true; given = give (e i).given; queue = (e i).queue }
      gone (Ok None) y e = let f : false ≡ true = ap (λ (o : PopLeft A Q). o.found) e in absurd cc
      gone (Err a) y e = let f : false ≡ true = ap (λ (o : PopLeft A Q). o.found) e in absurd cc

      refused : (s : Result (Option A) Refusal) (a : Refusal) → pop_seen k.zero_item s m ≡ kept k.zero_item (Err a) → pop_seen nothing (mapped give s) m ≡ kept nothing (Err a)
      refused (Ok (Some z)) a e = let f : true ≡ false = ap (λ (o : PopLeft A Q). o.found) e in absurd cc
      refused (Ok None) a e = λ i. record { answer = (e i).answer; found = false; given = nothing; queue = (e i).queue }
      refused (Err b) a e = λ i. record { answer = (e i).answer; found = false; given = nothing; queue = (e i).queue }

      when_due : (y : A) (b : Bool) → cond b (Some y) None ≡ Some x → pop_seen k.zero_item t m ≡ record { answer = told done; found = true; given = y; queue = front_gone k q }
          → pop_seen nothing (mapped give t) m ≡ when b (record { answer = told done; found = true; given = give y; queue = front_gone k q }) (kept nothing done)
      when_due y true d e = gone t y e
      when_due y false d e = absurd cc

      by : (p : Answer) (l : List A) → due_front due l ≡ Some x → pop_seen k.zero_item t m ≡ when_done p (pop_list k k.zero_item (λ x. true) (λ x. x) q l) (kept k.zero_item p)
          → pop_seen nothing (mapped give t) m ≡ when_done p (pop_list k nothing due give q l) (kept nothing p)
      by (Ok u) [] d e = absurd cc
      by (Ok u) (y ∷ l) d e = when_due y (due y) d e
      by (Err a) l d e = refused t a e

-- a front that is due whatever it is, given as it is, is what a peek gives
pub peek_gives : {Q A : Type 0} (k : Kind Q A) (q : Q) (r : Result (Option A) Refusal) → PeekSays k q (peek_seen k.zero_item r)
    → r ≡ result_and (record_answer (sound_q k q)) (Ok (option_map (λ (x : A). x) (due_front (λ (x : A). true) (items k q))))
peek_gives {A = A} k q r e = peek_is k q r e ∙ ap (λ (o : Option A). result_and (record_answer (sound_q k q)) (Ok o)) (sym (by (items k q)))
  where
    by : (l : List A) → option_map (λ (x : A). x) (due_front (λ (x : A). true) l) ≡ front_of l
    by [] = refl
    by (x ∷ l) = refl

-- so that a pop of the front gives what a peek gives, and leaves the queue without that
module _ {Q A : Type 0} (k : Kind Q A) (q : Q) (r : Result (Option A) Refusal) (e : PeekSays k q (peek_seen k.zero_item r)) where
  pub front_said : (m : Q) → m ≡ taken k q r → PopFrontSays k q (pop_seen k.zero_item r m)
  front_said = pop_said k k.zero_item (λ x. true) (λ x. x) q _ r (peek_gives k q r e)

  pub front_taken : (y : A) → r ≡ Ok (Some y) → (record_answer (sound_q k q) ≡ done) × (0 < (k.seen q).len)
  front_taken = pop_takes k k.zero_item (λ x. true) (λ x. x) q _ r (peek_gives k q r e)

-- ---- what it leaves is sound

module _ {Q A G : Type 0} (k : Kind Q A) (w : Lawful k) (nothing : G) (due : A → Bool) (give : A → G) (q : Q) (s : sound_q k q ≡ true) where
  gone_sound : sound_q k (front_gone k q) ≡ true
  gone_sound = sound_stays_sound k w q (drop 1 (items k q)) (k.seen q).synced s (let h = items_within k q s in omega (arith, length-drop 1 (items k q)))

  list_sound : (l : List A) → sound_q k (pop_list k nothing due give q l).queue ≡ true
  unfolding pop_list
  list_sound [] = s
  list_sound (x ∷ l) = when_holds (λ (o : PopLeft G Q). sound_q k o.queue ≡ true) (due x) _ _ (λ t. gone_sound) (λ t. s)

  pub pop_sound : (p : Answer) (left : PopLeft G Q) → left ≡ pop_of k nothing due give p q → sound_q k left.queue ≡ true
  unfolding pop_of when_done
  pop_sound p left e =
      ap (λ (o : PopLeft G Q). sound_q k o.queue) e
      ∙ when_holds (λ (o : PopLeft G Q). sound_q k o.queue ≡ true) (is_done p) _ _ (λ t. list_sound (items k q)) (λ t. s)
