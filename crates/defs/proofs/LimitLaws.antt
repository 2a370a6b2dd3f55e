-- What the tests of Limits say: a ring's size is a power of two in its range. Assumes nothing.
use Rattle.std.proofs.Common.{◌≡◌, ℕ, zero, suc, ◌+◌, ◌-◌, ◌*◌, ◌/◌, ◌%◌, ◌^◌, ◌<◌, ◌≤◌, true, not, eqb, leb, ◌⊎◌, sym, refl, ap, ◌∙◌, inl, inr, ⊎_elim, add-mul, mul-zero, zero-mul, mul-suc, mul-add, arith, pow-add, eq-eqb, eqb-true, le-leb, leb-true}
use native.Mathlib.Nat.{two-pow-succ, div-add-mod, mul-mod_right, pow-le-pow_right, dvd_of_mod-eq-zero, le_of_dvd}
use Rattle.defs.specs.Limits.{min_ring, max_ring_log, max_ring, is_ring_size, is_threshold, max_timeout, is_timeout, max_rxq, is_rxq_limit, is_killq_limit, max_slots, is_slot_count, max_clock, is_clock, max_packet, is_packet_length, header_size, is_header_length}
use Rattle.defs.specs.Promises.{Exactly, PowerOfTwo, RingSizes, LimitsMean}
use Rattle.defs.proofs.Basics.{both, lt_or_ge}
use Rattle.defs.proofs.MeansLaws.{within_means, over_means, equal_means, and_means}

half : (q : ℕ) → (h : ℕ) × ((q ≡ h + h) ⊎ (q ≡ suc (h + h)))
half zero = (zero, inl refl)
half (suc q) =
    let r = half q in
    ⊎_elim (λ (e : q ≡ r.0 + r.0). (r.0, inr (ap suc e))) (λ (e : q ≡ suc (r.0 + r.0)). (suc r.0, inl (omega arith))) r.1

divides_one : (n q : ℕ) → n * q ≡ 1 → n ≡ 1
divides_one zero q e = absurd (omega (arith, zero-mul q))
divides_one (suc zero) q e = refl
divides_one (suc (suc n)) zero e = absurd (omega (arith, mul-zero (suc (suc n))))
divides_one (suc (suc n)) (suc q) e = absurd (omega (arith, mul-suc (suc (suc n)) q))

-- what divides a power of two is one
divides_power : (j n q : ℕ) → n * q ≡ 2 ^ j → PowerOfTwo n
divides_power zero n q e = (zero, divides_one n q e)
divides_power (suc j) n q e =
    let r = half q in
    let h : ℕ = r.0 in
    let d : n * q ≡ 2 ^ j + 2 ^ j = e ∙ two-pow-succ j in
    ⊎_elim
    (λ (u : q ≡ h + h).
    let m : n * q ≡ n * h + n * h = ap (λ (x : ℕ). n * x) u ∙ mul-add n h h in
    divides_power j n h (omega arith))
    (λ (u : q ≡ suc (h + h)).
    let m : n * q ≡ n * h + n * h + n = ap (λ (x : ℕ). n * x) u ∙ mul-suc n (h + h) ∙ ap (λ (x : ℕ). x + n) (mul-add n h h) in
    let f : ℕ = 2 ^ j - n * h in
    let v : n ≡ f + f = omega arith in
    let w : n * q ≡ f * q + f * q = ap (λ (x : ℕ). x * q) v ∙ add-mul f f q in
    let i = divides_power j f q (omega arith) in
    (suc i.0, v ∙ ap (λ (x : ℕ). x + x) i.1 ∙ sym (two-pow-succ i.0)))
    r.1

-- what the test says
pub record RingSize (size : ℕ) : Type 0 where
  pub least : min_ring ≤ size
  pub most : size ≤ max_ring
  pub divides : max_ring % size ≡ 0

pub ring_size : (size : ℕ) → is_ring_size size ≡ true → RingSize size
unfolding is_ring_size
ring_size size e =
    let u = both (leb min_ring size) (eqb (max_ring % size) 0) e in
    let z : max_ring % size ≡ 0 = eqb-true _ _ u.1 in
    record { least = leb-true _ _ u.0; most = le_of_dvd (omega arith) (dvd_of_mod-eq-zero size z); divides = z }

-- a power of two up to 2 ^ j divides it
power_divides : (j k : ℕ) → 2 ^ k ≤ 2 ^ j → 2 ^ j % 2 ^ k ≡ 0
power_divides j k l =
    ⊎_elim
    (λ (m : j < k). absurd (omega (arith, two-pow-succ j, pow-le-pow_right {n = 2} (omega arith) m, pow_positive j)))
    (λ (m : k ≤ j).
    let s : j ≡ k + (j - k) = omega arith in
    ap (λ (x : ℕ). 2 ^ x % 2 ^ k) s ∙ ap (λ (x : ℕ). x % 2 ^ k) (pow-add 2 k (j - k)) ∙ mul-mod_right (2 ^ k) (2 ^ (j - k)))
    (lt_or_ge j k)
  where
    pow_positive : (i : ℕ) → 0 < 2 ^ i
    pow_positive zero = omega arith
    pow_positive (suc i) = omega (arith, two-pow-succ i, pow_positive i)

pub ring_sizes : RingSizes
unfolding is_ring_size
ring_sizes size = (
  λ e.
      let r = ring_size size e in
      (divides_power max_ring_log size (max_ring / size) (omega (arith, div-add-mod max_ring size)), r.least, r.most),
  λ p.
      let z : max_ring % size ≡ 0 =
      ap (λ (x : ℕ). max_ring % x) p.0.1 ∙ power_divides max_ring_log p.0.0 (omega (arith, p.0.1)) in
      simp (le-leb min_ring size p.1, eq-eqb _ _ z),
)

pub limits_mean : LimitsMean
unfolding is_threshold is_timeout is_rxq_limit is_killq_limit is_slot_count is_clock is_packet_length is_header_length
limits_mean = record {
  threshold = λ t size. and_means (within_means 1 t) (within_means t size);
  timeout = λ ms. and_means (within_means 1 ms) (within_means ms 60000);
  rxq = λ limit. and_means (within_means 1 limit) (within_means limit max_rxq);
  killq = λ limit. and_means (within_means 1 limit) (within_means limit 128);
  slots = λ slots. and_means (within_means 1 slots) (within_means slots max_slots);
  clock = λ ms. within_means ms (2 ^ 62);
  packet = λ bytes. within_means bytes 65536;
  header = λ bytes. equal_means bytes 44;
}

pub header_length : (bytes : ℕ) → Exactly (is_header_length bytes ≡ true) (bytes ≡ header_size)
header_length = limits_mean.header

pub packet_length : (bytes : ℕ) → Exactly (is_packet_length bytes ≡ true) (bytes ≤ max_packet)
packet_length = limits_mean.packet

pub clock_within : (ms : ℕ) → Exactly (is_clock ms ≡ true) (ms ≤ max_clock)
clock_within = limits_mean.clock

-- the same where a number is turned away
pub packet_over : (bytes : ℕ) → Exactly (not (is_packet_length bytes) ≡ true) (65536 < bytes)
unfolding is_packet_length
packet_over bytes = over_means bytes 65536

pub clock_over : (ms : ℕ) → Exactly (not (is_clock ms) ≡ true) (2 ^ 62 < ms)
unfolding is_clock
clock_over ms = over_means ms (2 ^ 62)

pub timeout_most : (ms : ℕ) → is_timeout ms ≡ true → ms ≤ max_timeout
timeout_most ms e = ((limits_mean.timeout ms).0 e).1
