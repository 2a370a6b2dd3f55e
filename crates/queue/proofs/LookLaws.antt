-- Laws of the calls that only look: what is told of a sound queue, and the front of one. Assumes nothing.
use Prim.Native.Nat.{ℕ}
use mathlib.Core.Path.{◌≡◌, refl, sym, ap, ◌∙◌}
use mathlib.Core.Bool.{Bool, true, false}
use mathlib.Core.List.{List, [], ◌∷◌}
use lib.ListN.{length}
use Rattle.std.specs.Prelude.{Option, Some, None, Result, Ok, Err}
use Rattle.std.specs.Result.{result_and}
use Rattle.defs.specs.Choice.{when}
use Rattle.defs.specs.Answer.{Answer, done, is_done, told, when_done}
use Rattle.defs.specs.Ladder.{record_answer}
use Rattle.defs.specs.Look.{FlagSays, flag_seen, LenSays, len_seen}
use Rattle.defs.specs.declared.answer.Refusal.{Refusal}
use Rattle.defs.proofs.AnswerLaws.{told_tells_apart}
use Rattle.defs.proofs.Basics.{never}
use Rattle.defs.proofs.LadderLaws.{record_passed}
use Rattle.defs.proofs.LookLaws.{flag_said, flag_told, len_said, len_told}
use Rattle.queue.specs.Queue.{Kind, Lawful, sound_q, items}
use Rattle.queue.specs.Look.{PeekLeft, PeekSays, peek_seen, front_of, peek_list, peek_of}
use Rattle.queue.proofs.QueueLaws.{sound_says}

-- what is asked of the length is asked of the list
pub len_held : {Q A B : Type 0} {k : Kind Q A} (w : Lawful k) (q : Q) (f : ℕ → B) → length (k.seen q).places ≡ k.size → sound_q k q ≡ true
    → f (k.seen q).len ≡ f (length (items k q))
len_held {k = k} w q f n e = ap f (sym (sound_says k w q n e).held)

module _ {Q A : Type 0} (k : Kind Q A) (q : Q) (a : Answer) (e : a ≡ record_answer (sound_q k q)) where
  -- what is told is what is known of a sound queue
  pub flag_held : (x y : Bool) (r : Result Bool Refusal) → r ≡ result_and a (Ok x) → (sound_q k q ≡ true → x ≡ y) → FlagSays (record_answer (sound_q k q)) y (flag_seen r)
  flag_held x y r f alike = flag_told _ a _ x y (flag_said a x r f) e (λ d. alike (record_passed _ _ refl d))

  pub count_held : (x y : ℕ) (r : Result ℕ Refusal) → r ≡ result_and a (Ok x) → (sound_q k q ≡ true → x ≡ y) → LenSays (record_answer (sound_q k q)) y (len_seen r)
  count_held x y r f alike = len_told _ a _ x y (len_said a x r f) e (λ d. alike (record_passed _ _ refl d))

  pub peek_said : (r : Result (Option A) Refusal) → r ≡ result_and a (Ok (front_of (items k q))) → PeekSays k q (peek_seen k.zero_item r)
  unfolding peek_of peek_list when_done when
  peek_said r f = rw (f, ← e) (by a (items k q))
    where
      by : (a : Answer) (l : List A) → peek_seen k.zero_item (result_and a (Ok (front_of l))) ≡ when_done a (peek_list k l) (record { answer = told a; found = false; item = k.zero_item })
      by (Ok u) [] = refl
      by (Ok u) (x ∷ l) = refl
      by (Err p) l = refl

-- ---- what is seen of a peek tells one result from another

pub peek_apart : {A : Type 0} (z : A) (r s : Result (Option A) Refusal) → peek_seen z r ≡ peek_seen z s → r ≡ s
peek_apart {A = A} z r s e = by r s e
  where
    lifted : Answer → Result (Option A) Refusal
    lifted (Ok u) = Ok None
    lifted (Err p) = Err p

    clash : (p : Refusal) → told done ≡ told (Err p) → ⊥
    clash p e = never (ap is_done (sym (told_tells_apart done (Err p) e)))

    by : (r s : Result (Option A) Refusal) → peek_seen z r ≡ peek_seen z s → r ≡ s
    by (Ok (Some x)) (Ok (Some y)) e = ap (λ (l : PeekLeft A). Ok (Some l.item)) e
    by (Ok (Some x)) (Ok None) e = absurd (never (ap (λ (l : PeekLeft A). l.found) (sym e)))
    by (Ok (Some x)) (Err p) e = absurd (clash p (ap (λ (l : PeekLeft A). l.answer) e))
    by (Ok None) (Ok (Some y)) e = absurd (never (ap (λ (l : PeekLeft A). l.found) e))
    by (Ok None) (Ok None) e = refl
    by (Ok None) (Err p) e = absurd (clash p (ap (λ (l : PeekLeft A). l.answer) e))
    by (Err p) (Ok (Some y)) e = absurd (clash p (ap (λ (l : PeekLeft A). l.answer) (sym e)))
    by (Err p) (Ok None) e = absurd (clash p (ap (λ (l : PeekLeft A). l.answer) (sym e)))
    by (Err p) (Err q) e = ap lifted (told_tells_apart (Err p) (Err q) (ap (λ (l : PeekLeft A). l.answer) e))

-- so that the statement of a peek says what it gives
pub peek_is : {Q A : Type 0} (k : Kind Q A) (q : Q) (r : Result (Option A) Refusal) → PeekSays k q (peek_seen k.zero_item r) → r ≡ result_and (record_answer (sound_q k q)) (Ok (front_of (items k q)))
peek_is k q r e = peek_apart k.zero_item _ _ (e ∙ sym (peek_said k q _ refl _ refl))
