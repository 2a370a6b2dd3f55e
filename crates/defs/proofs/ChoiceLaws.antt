-- Laws of a choice by a test. Assumes nothing.
use Rattle.std.proofs.Common.{◌≡◌, Bool, true, false, refl}
use Rattle.defs.specs.Choice.{when}

pub when_true {ℓ} : {A : Type ℓ} (x y : A) (b : Bool) → b ≡ true → when b x y ≡ x
unfolding when
when_true x y b e = rw e

pub when_false {ℓ} : {A : Type ℓ} (x y : A) (b : Bool) → b ≡ false → when b x y ≡ y
unfolding when
when_false x y b e = rw e

-- what holds of the side that is chosen holds of the choice
pub when_holds {ℓ ℓ'} : {A : Type ℓ} (P : A → Type ℓ') (b : Bool) (x y : A) → (b ≡ true → P x) → (b ≡ false → P y) → P (when b x y)
unfolding when
when_holds P true x y p q = p refl
when_holds P false x y p q = q refl

-- a choice of a thing with itself
pub when_same {ℓ} : {A : Type ℓ} (x : A) (b : Bool) → when b x x ≡ x
unfolding when
when_same x true = refl
when_same x false = refl

-- a function of a choice is the choice of its values
pub ap_when {ℓ ℓ'} : {A : Type ℓ} {B : Type ℓ'} (f : A → B) (b : Bool) (x y : A) → f (when b x y) ≡ when b (f x) (f y)
unfolding when
ap_when f true x y = refl
ap_when f false x y = refl
