-- The credit formula and the threshold rule, over true counts; and the two sides of credit. Assumes nothing.
use Rattle.std.proofs.Common.{◌≡◌, ℕ, ◌-◌, ◌%◌, ◌^◌, ◌<◌, ◌≤◌, true, ltb, arith, ltb-true, lt-ltb, leb-true}
use Rattle.defs.specs.Wrapping.{wsub}
use Rattle.defs.specs.Credit.{peer_avail_credit, peer_needs_credit_update}
use Rattle.defs.specs.Promises.{Exactly, CreditIsFreeSpace, ThresholdTells}
use Rattle.defs.proofs.ChoiceLaws.{when_holds}

-- the outstanding bytes are the true difference of the counts, though these wrap
outstanding : (sent fwd : ℕ) → fwd ≤ sent → sent - fwd < 2 ^ 32 → wsub (sent % 2 ^ 32) (fwd % 2 ^ 32) ≡ sent - fwd
outstanding sent fwd l h = omega arith

none_left : (alloc gone : ℕ) → alloc ≤ gone → 0 ≡ alloc - gone
none_left alloc gone l = omega arith

pub credit_is_free_space : CreditIsFreeSpace
unfolding peer_avail_credit
credit_is_free_space alloc sent fwd l h =
    let e = outstanding sent fwd l h in
    when_holds (λ (x : ℕ). x ≡ alloc - (sent - fwd)) _ _ _
    (λ t. let k : alloc ≤ wsub (sent % 2 ^ 32) (fwd % 2 ^ 32) = leb-true _ _ t in none_left alloc (sent - fwd) (omega arith))
    (λ t. omega arith)

-- the definition as one difference, which stops at 0
pub stops_at_0 : (alloc sent fwd : ℕ) → alloc - wsub sent fwd ≡ peer_avail_credit alloc sent fwd
unfolding peer_avail_credit
stops_at_0 alloc sent fwd =
    when_holds (λ (x : ℕ). alloc - wsub sent fwd ≡ x) _ _ _ (λ t. let l = leb-true alloc (wsub sent fwd) t in omega arith) (λ t. omega arith)

short_by : (size threshold apart : ℕ) → threshold ≤ size → size < 2 ^ 32 → apart < 2 ^ 32
    → Exactly (ltb (wsub size apart) threshold ≡ true) ((apart ≤ size) × (size - apart < threshold))
short_by size threshold apart t h k = (
  λ e. let l = ltb-true (wsub size apart) threshold e in (omega arith, omega arith),
  λ p. let u : apart ≤ size = p.0 in let v : size - apart < threshold = p.1 in lt-ltb (wsub size apart) threshold (omega arith),
)

pub threshold_tells : ThresholdTells
unfolding peer_needs_credit_update
threshold_tells size threshold fwd told t h l k = rw (outstanding fwd told l k) (short_by size threshold (fwd - told) t h k)
