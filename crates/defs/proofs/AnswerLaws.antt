-- Laws of answers: what is done, what is not, and that `told` tells them apart. Assumes nothing.
use Rattle.std.proofs.Common.{◌≡◌, Bool, true, false, Result, Ok, Err, eqb, sym, refl, ap, ◌∙◌, subst, ⊎_elim, arith}
use Rattle.std.specs.Result.{result_and}
use Rattle.defs.specs.Choice.{when}
use Rattle.defs.specs.Answer.{Told, Answer, told, done, is_done, when_done, answer_of, given_or}
use Rattle.defs.specs.declared.answer.Refusal.{Refusal}
use Rattle.defs.specs.declared.answer.Refusal.TheVariants.{BadRecord, BadHeader, BadClock, BadLength, BadAnswer, NoRoom, NoData, PktBufMissing, TxBufFull, StreamBlocked, StreamFailed, NotQueued}
use Rattle.defs.specs.Promises.{Refuses, DoneIsZero}
use Rattle.defs.proofs.Basics.{never, true_or_false}
use Rattle.defs.proofs.ChoiceLaws.{when_true, when_false, when_holds}

-- what the code knows of an answer that is a refusal
abbrev pub NotDone : Answer → Type 0
NotDone a = a ≡ done → ⊥

pub not_done : (a : Answer) → NotDone a → is_done a ≡ false
not_done (Ok tt) k = absurd (k refl)
not_done (Err r) k = refl

pub refusal_not_done : (a : Answer) (r : Refusal) → a ≡ Err r → NotDone a
refusal_not_done a r e d = never (sym (ap is_done e) ∙ ap is_done d)

pub done_is_done : is_done done ≡ true
done_is_done = refl

pub is_done_lem : (a : Answer) → is_done a ≡ true → a ≡ done
is_done_lem (Ok tt) e = refl
is_done_lem (Err r) e = absurd (never e)

-- done is no refusal
pub done_passes : Refuses (told done) → ⊥
done_passes r = omega (arith, r.0)

-- number 0 is done's alone
pub number_zero : (a : Answer) → (told a).number ≡ 0 → a ≡ done
number_zero (Ok tt) e = refl
number_zero (Err BadRecord) e = absurd (omega arith)
number_zero (Err BadHeader) e = absurd (omega arith)
number_zero (Err BadClock) e = absurd (omega arith)
number_zero (Err BadLength) e = absurd (omega arith)
number_zero (Err BadAnswer) e = absurd (omega arith)
number_zero (Err NoRoom) e = absurd (omega arith)
number_zero (Err NoData) e = absurd (omega arith)
number_zero (Err PktBufMissing) e = absurd (omega arith)
number_zero (Err TxBufFull) e = absurd (omega arith)
number_zero (Err StreamBlocked) e = absurd (omega arith)
number_zero (Err StreamFailed) e = absurd (omega arith)
number_zero (Err NotQueued) e = absurd (omega arith)

pub done_is_zero : DoneIsZero
done_is_zero a = (λ e. ap (λ (b : Answer). (told b).number) (is_done_lem a e), λ e. ap is_done (number_zero a e))

pub when_done_lem {ℓ} : {A : Type ℓ} (a : Answer) (x y : A) → a ≡ done → when_done a x y ≡ x
unfolding when_done
when_done_lem a x y e = when_true x y (is_done a) (ap is_done e ∙ done_is_done)

pub when_not_done {ℓ} : {A : Type ℓ} (a : Answer) (x y : A) → is_done a ≡ false → when_done a x y ≡ y
unfolding when_done
when_not_done a x y e = when_false x y (is_done a) e

-- what isn't done is told by a number over 0
pub when_refused {ℓ} : {A : Type ℓ} (a : Answer) (x y : A) → ((told a).number ≡ 0 → ⊥) → when_done a x y ≡ y
when_refused a x y n =
    ⊎_elim
    (λ (t : is_done a ≡ true). absurd (n (ap (λ (b : Answer). (told b).number) (is_done_lem a t))))
    (λ (t : is_done a ≡ false). when_not_done a x y t)
    (true_or_false (is_done a))

-- what holds of what is left either way holds of what is left
pub when_done_holds {ℓ} : {A : Type ℓ} (P : A → Type 0) (a : Answer) (x y : A) → P x → P y → P (when_done a x y)
unfolding when_done
when_done_holds P a x y p q = when_holds P (is_done a) x y (λ t. p) (λ t. q)

-- two choices by one answer are alike where they are alike if it is done
pub when_done_alike : {A : Type 0} (a : Answer) (x y z : A) → (a ≡ done → x ≡ y) → when_done a x z ≡ when_done a y z
unfolding when_done
when_done_alike a x y z e = by (is_done a) (λ t. e (is_done_lem a t))
  where
    by : (b : Bool) → (b ≡ true → x ≡ y) → when b x z ≡ when b y z
    by b p = when_holds (λ (v : _). v ≡ when b y z) b x z (λ t. p t ∙ sym (when_true y z b t)) (λ t. sym (when_false y z b t))

-- the case that has a number and a value
untold : Told → Answer
untold t =
    when (eqb t.number 1) (Err BadRecord)
    (when (eqb t.number 2) (Err BadHeader)
    (when (eqb t.number 3) (Err BadClock)
    (when (eqb t.number 4) (Err BadLength)
    (when (eqb t.number 5) (Err BadAnswer)
    (when (eqb t.number 6) (Err NoRoom)
    (when (eqb t.number 7) (Err NoData)
    (when (eqb t.number 8) (Err PktBufMissing)
    (when (eqb t.number 9) (Err TxBufFull)
    (when (eqb t.number 10) (when t.failed (Err StreamFailed) (Err StreamBlocked))
    (when (eqb t.number 11) (Err NotQueued) done))))))))))

untold_told : (a : Answer) → untold (told a) ≡ a
unfolding when untold
untold_told (Ok tt) = refl
untold_told (Err BadRecord) = refl
untold_told (Err BadHeader) = refl
untold_told (Err BadClock) = refl
untold_told (Err BadLength) = refl
untold_told (Err BadAnswer) = refl
untold_told (Err NoRoom) = refl
untold_told (Err NoData) = refl
untold_told (Err PktBufMissing) = refl
untold_told (Err TxBufFull) = refl
untold_told (Err StreamBlocked) = refl
untold_told (Err StreamFailed) = refl
untold_told (Err NotQueued) = refl

pub told_tells_apart : (a b : Answer) → told a ≡ told b → a ≡ b
told_tells_apart a b e = sym (untold_told a) ∙ ap untold e ∙ untold_told b

-- ---- an outcome that is made of an answer and one thing more, for a call that leaves where its answer is a refusal

pub outcome_kept : {A Out : Type 0} (make : Told → A → Out) (a p : Answer) (x y : A) (r : Refusal) → a ≡ p → a ≡ Err r
    → make (told (Err r)) y ≡ make (told p) (when_done p x y)
unfolding when_done when
outcome_kept make a p x y r e k = rw (← e, k) refl

pub outcome_done : {A Out : Type 0} (make : Told → A → Out) (a p : Answer) (x y : A) → a ≡ p → a ≡ done → make (told done) x ≡ make (told p) (when_done p x y)
unfolding when_done when
outcome_done make a p x y e d = rw (← e, d) refl

-- whether it was done or not, a call answers what it decided on
pub answer_told : {Out : Type 0} (answer : Out → Told) (a : Answer) (x y : Out) → answer x ≡ told done → answer y ≡ told a → answer (when_done a x y) ≡ told a
unfolding when_done
answer_told answer a x y e f = when_holds (λ (o : _). answer o ≡ told a) (is_done a) x y (λ t. e ∙ ap told (sym (is_done_lem a t))) (λ t. f)

-- a call that is done where its answer passes, and keeps what it was given where not: number 0 is done
pub left_done : {Out : Type 0} (answer : Out → Told) (a : Answer) (x y o : Out) → answer y ≡ told a → o ≡ when_done a x y → (answer o).number ≡ 0 → o ≡ x
left_done answer a x y o f e n =
    ⊎_elim
    (λ (t : is_done a ≡ true). e ∙ when_done_lem a x y (is_done_lem a t))
    (λ (t : is_done a ≡ false).
    let z : o ≡ y = e ∙ when_not_done a x y t in
    e ∙ when_done_lem a x y (number_zero a (ap (λ (w : Told). w.number) (sym f ∙ ap answer (sym z)) ∙ n)))
    (true_or_false (is_done a))

-- and keeps where it is answered in a way that what is done is not
pub left_where : {Out : Type 0} (Way : Told → Type 0) (answer : Out → Told) (a : Answer) (x y o : Out) → (Way (answer x) → ⊥) → o ≡ when_done a x y
    → Way (answer o) → o ≡ y
left_where Way answer a x y o f e r =
    ⊎_elim
    (λ (t : is_done a ≡ true). absurd (f (subst (λ (z : _). Way (answer z)) (e ∙ when_done_lem a x y (is_done_lem a t)) r)))
    (λ (t : is_done a ≡ false). e ∙ when_not_done a x y t)
    (true_or_false (is_done a))

-- as a refusal is
pub left_kept : {Out : Type 0} (answer : Out → Told) (a : Answer) (x y o : Out) → (Refuses (answer x) → ⊥) → o ≡ when_done a x y → Refuses (answer o) → o ≡ y
left_kept = left_where Refuses

-- ---- a call that gives something where it is done

-- its answer, and what it gives or a fixed value, tell two results apart
pub seen_apart : {A : Type 0} (x : A) (r s : Result A Refusal) → told (answer_of r) ≡ told (answer_of s) → given_or x r ≡ given_or x s → r ≡ s
seen_apart {A = A} x r s e f = by r s (told_tells_apart _ _ e) f
  where
    refusal_of : Refusal → Answer → Refusal
    refusal_of other (Ok u) = other
    refusal_of other (Err r) = r

    by : (r s : Result A Refusal) → answer_of r ≡ answer_of s → given_or x r ≡ given_or x s → r ≡ s
    by (Ok a) (Ok b) e f = ap Ok f
    by (Ok a) (Err q) e f = absurd (never (sym (ap is_done e)))
    by (Err p) (Ok b) e f = absurd (never (ap is_done e))
    by (Err p) (Err q) e f = ap (λ (a : Answer). Err (refusal_of p a)) e

-- a result made of an answer and a value, for a call that gives the value where its answer is done
pub result_left : {A Out : Type 0} (make : Told → A → Out) (other value : A) (a p : Answer) (r : Result A Refusal) → r ≡ result_and a (Ok value) → a ≡ p
    → make (told (answer_of r)) (given_or other r) ≡ make (told p) (when_done p value other)
unfolding when_done when
result_left make other value a p r e f = rw (e, f) (by p)
  where
    by : (a : Answer) → make (told (answer_of (result_and a (Ok value)))) (given_or other (result_and a (Ok value))) ≡ make (told a) (when_done a value other)
    by (Ok u) = refl
    by (Err q) = refl

-- what is known of such a result, where it gives something and where it does not
pub result_ok : {A : Type 0} (a : Answer) (value x : A) → Ok x ≡ result_and a (Ok value) → (a ≡ done) × (x ≡ value)
result_ok (Ok tt) value x e = (refl, ap (given_or x) e)
result_ok (Err q) value x e = let z : answer_of (Ok x) ≡ Err q = ap answer_of e in absurd (never (sym (ap is_done z)))

pub result_err : {A : Type 0} (a : Answer) (value : A) (r : Refusal) → Err r ≡ result_and a (Ok value) → a ≡ Err r
result_err (Ok tt) value r e = let z : Err r ≡ done = ap answer_of e in absurd (never (ap is_done z))
result_err (Err q) value r e = sym (ap answer_of e)
