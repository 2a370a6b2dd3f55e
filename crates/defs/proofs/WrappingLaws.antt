-- Laws of 32-bit wrapping sums and differences, modulo 2^32 and modulo a ring's size. Assumes nothing.
use Rattle.std.proofs.Common.{◌≡◌, ℕ, ◌+◌, ◌%◌, ◌^◌, ◌<◌, true, sym, refl, ap, ◌∙◌, arith}
use Prim.Native.Nat.{◌∣◌}
use native.Mathlib.Nat.{dvd_trans, dvd_of_mod-eq-zero, mod-eq-zero_of_dvd, mod-mod_of_dvd}
use Rattle.defs.specs.Limits.{max_ring, is_ring_size}
use Rattle.defs.specs.Wrapping.{wadd, wsub}
use Rattle.defs.specs.Promises.{WrapsAround, KeepsPlace}
use Rattle.defs.proofs.LimitLaws.{ring_size}

wadd_wadd : (a b c : ℕ) → wadd (wadd a b) c ≡ wadd a (b + c)
wadd_wadd a b c = omega arith

wsub_wadd : (a b : ℕ) → a < 2 ^ 32 → b < 2 ^ 32 → wsub (wadd a b) a ≡ b
wsub_wadd a b h k = omega arith

wadd_wsub : (a b : ℕ) → a < 2 ^ 32 → b < 2 ^ 32 → wadd b (wsub a b) ≡ a
wadd_wsub a b h k = omega arith

pub wraps_around : WrapsAround
wraps_around = record { sums = wadd_wadd; back = wsub_wadd; forth = wadd_wsub }

ring_divides : (size : ℕ) → is_ring_size size ≡ true → size ∣ 2 ^ 32
ring_divides size e = dvd_trans size (dvd_of_mod-eq-zero size (ring_size size e).divides) (dvd_of_mod-eq-zero max_ring refl)

-- the difference is the true one but for a multiple of 2^32
wsub_off : (a b : ℕ) → b < 2 ^ 32 → (wsub a b + b) % 2 ^ 32 ≡ a % 2 ^ 32
wsub_off a b h = omega arith

pub keeps_place : KeepsPlace
keeps_place = record {
  divides = λ size e. mod-eq-zero_of_dvd size (ring_divides size e);
  sum = λ size a b e. mod-mod_of_dvd size (a + b) (ring_divides size e);
  difference = λ size a b e h.
      let d = ring_divides size e in
      sym (mod-mod_of_dvd size (wsub a b + b) d) ∙ ap (λ (x : ℕ). x % size) (wsub_off a b h) ∙ mod-mod_of_dvd size a d;
}
