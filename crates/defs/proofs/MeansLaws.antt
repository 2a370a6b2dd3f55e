-- What a test means, made of what its parts mean. Assumes nothing.
use Rattle.std.proofs.Common.{◌≡◌, ℕ, ◌<◌, ◌≤◌, Bool, true, false, not, ◌&&◌, ◌||◌, eqb, ltb, leb, ◌⊎◌, sym, refl, ap, ◌∙◌, inl, inr, ⊎_elim, arith, ltb-true, lt-ltb, eq-eqb, ne_eqb, eqb-true, le-leb, leb-false, leb-true}
use borrow.Author.Tests.{lt-leb, eqb-false, not-true}
use Rattle.defs.specs.Promises.{Exactly}
use Rattle.defs.proofs.Basics.{never, true_or_false, positive, both, both_true, or_left, or_right}

pub as_is : (b : Bool) → Exactly (b ≡ true) (b ≡ true)
as_is b = (λ e. e, λ e. e)

pub not_as_is : (b : Bool) → Exactly (not b ≡ true) (b ≡ false)
not_as_is b = (not-true b, λ e. ap not e)

-- a test that gives the same means the same
pub same_means : {a b : Bool} {P : Type 0} → a ≡ b → Exactly (b ≡ true) P → Exactly (a ≡ true) P
same_means e m = (λ t. m.0 (sym e ∙ t), λ p. e ∙ m.1 p)

-- and so does one whose fact is said in other words
pub in_words : {t P Q : Type 0} → Exactly t P → Exactly P Q → Exactly t Q
in_words m n = (λ x. n.0 (m.0 x), λ q. m.1 (n.1 q))

pub below_means : (a b : ℕ) → Exactly (ltb a b ≡ true) (a < b)
below_means a b = (ltb-true a b, lt-ltb a b)

pub within_means : (a b : ℕ) → Exactly (leb a b ≡ true) (a ≤ b)
within_means a b = (leb-true a b, le-leb a b)

pub over_means : (a b : ℕ) → Exactly (not (leb a b) ≡ true) (b < a)
over_means a b = (λ e. leb-false a b (not-true _ e), λ l. ap not (lt-leb a b l))

-- at least one
pub some_means : (n : ℕ) → Exactly (not (eqb n 0) ≡ true) (0 < n)
some_means n = (λ e. positive n (eqb-false n 0 (not-true _ e)), λ l. ap not (ne_eqb n 0 (λ z. let y : n ≡ 0 = z in omega arith)))

pub equal_means : (a b : ℕ) → Exactly (eqb a b ≡ true) (a ≡ b)
equal_means a b = (eqb-true a b, eq-eqb a b)

-- a test whose fact is not so does not hold
pub not_held : (b : Bool) {P : Type 0} → (b ≡ true → P) → (P → ⊥) → b ≡ false
not_held b f n = ⊎_elim (λ (t : b ≡ true). absurd (n (f t))) (λ (e : b ≡ false). e) (true_or_false b)

pub not_means : {b : Bool} {P : Type 0} → Exactly (b ≡ true) P → Exactly (not b ≡ true) (P → ⊥)
not_means {b} m = (λ e p. never (sym (not-true b e) ∙ m.1 p), λ n. ap not (not_held b m.0 n))

pub and_means : {a b : Bool} {P Q : Type 0} → Exactly (a ≡ true) P → Exactly (b ≡ true) Q → Exactly (a && b ≡ true) (P × Q)
and_means {a} {b} p q = (λ e. let s = both a b e in (p.0 s.0, q.0 s.1), λ r. both_true a b (p.1 r.0) (q.1 r.1))

pub or_means : {a b : Bool} {P Q : Type 0} → Exactly (a ≡ true) P → Exactly (b ≡ true) Q → Exactly (a || b ≡ true) (P ⊎ Q)
or_means {a} {b} {P} {Q} p q = (λ e. to a b e p.0 q.0, λ s. ⊎_elim (λ (x : P). or_left a b (p.1 x)) (λ (y : Q). or_right a b (q.1 y)) s)
  where
    to : (a b : Bool) → a || b ≡ true → (a ≡ true → P) → (b ≡ true → Q) → P ⊎ Q
    to true b e f g = inl (f refl)
    to false b e f g = inr (g e)
