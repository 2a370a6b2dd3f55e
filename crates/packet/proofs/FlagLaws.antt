-- A flag that is set, bit by bit. Assumes nothing.
use Prim.Native.Nat.{ℕ, ◌/◌, ◌%◌, ◌^◌, ◌<◌, max}
use mathlib.Core.Path.{◌≡◌, refl, ap, sym, ◌∙◌}
use mathlib.Core.Logic.{◌⊎◌, inl, inr, ⊎_elim}
use native.Mathlib.Omega.{arith}
use lib.Bits.{bit_or, or_step, or_shr}
use Rattle.defs.specs.Promises.{Exactly}
use Rattle.defs.proofs.Basics.{lt_or_ge}
use Rattle.packet.specs.Header.{flagged}
use Rattle.packet.specs.Promises.{bit, EveryFlagAdds}

lowest : (a b : ℕ) → bit_or a b % 2 ≡ max (a % 2) (b % 2)
lowest a b = ap (λ (n : ℕ). n % 2) (or_step a b) ∙ omega arith

or_bit : (a b k : ℕ) → bit (bit_or a b) k ≡ max (bit a k) (bit b k)
or_bit a b k = ap (λ (n : ℕ). n % 2) (or_shr a b k) ∙ lowest (a / 2 ^ k) (b / 2 ^ k)

either : (x y : ℕ) → x < 2 → y < 2 → Exactly (max x y ≡ 1) ((x ≡ 1) ⊎ (y ≡ 1))
either x y h k = (
  λ e. ⊎_elim (λ (l : x < 1). inr (omega arith)) (λ l. inl (omega arith)) (lt_or_ge x 1),
  ⊎_elim (λ (e : x ≡ 1). omega arith) (λ (e : y ≡ 1). omega arith),
)

pub every_flag_adds : EveryFlagAdds
unfolding flagged
every_flag_adds h flag = record {
  flags = λ k.
      let e = or_bit h.flags flag k in
      let m = either (bit h.flags k) (bit flag k) (omega arith) (omega arith) in
      (λ o. m.0 (sym e ∙ o), λ s. e ∙ m.1 s);
  cids = (refl, refl);
  ports = (refl, refl);
  kind = (refl, refl, refl);
  credit = (refl, refl);
}
