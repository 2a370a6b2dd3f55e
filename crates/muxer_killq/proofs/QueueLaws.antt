-- What the test of the kill queue means, and that it is lawful as a queue: its test finds just the zero item, its limits have their places. Assumes nothing.
use Prim.Native.Nat.{ℕ, ◌≤◌}
use mathlib.Core.Path.{◌≡◌, refl, sym, ap, ◌∙◌}
use mathlib.Core.Bool.{Bool, true, false, not}
use borrow.Author.Tests.{le-leb, leb-true, not-false}
use lib.Dec.{leb}
use mathlib.Core.Logic.{◌⊎◌, inl, inr}
use Rattle.std.specs.Prelude.{Option, None, Ok}
use Rattle.std.specs.Result.{result_and}
use Rattle.defs.specs.Choice.{when}
use Rattle.defs.specs.Limits.{min_killq, max_killq, is_killq_limit, is_clock}
use Rattle.defs.specs.Ladder.{door_of, record_answer, clock_answer}
use Rattle.defs.specs.Promises.{Exactly}
use Rattle.defs.proofs.Basics.{both}
use Rattle.defs.proofs.LadderLaws.{door_passed}
use Rattle.queue.specs.Queue.{Lawful}
use Rattle.queue.proofs.ArrayLaws as arrays
use Rattle.queue.proofs.EveryLaws as every
use Rattle.muxer_killq.specs.Item.{zero_item, is_zero, zero_passes, zero_alone}
use Rattle.muxer_killq.specs.Queue.{killq}
use Rattle.muxer_killq.specs.Outcomes.{SoundMeans, FrontAtPlaceZero}
use Rattle.defs.specs.Answer.{Answer, done}

pub front_at_place_zero : FrontAtPlaceZero
front_at_place_zero = record { seen = λ q. refl; held = λ q. refl }

-- K is from 1 to 128
pub in_range : (limit : ℕ) → Exactly (killq.is_limit limit ≡ true) ((1 ≤ limit) × (limit ≤ 128))
in_range limit = (
  λ e. (let p = both (leb min_killq limit) (leb limit max_killq) e in (leb-true _ _ p.0, leb-true _ _ p.1)),
  λ p. rw (le-leb min_killq limit p.0, le-leb limit max_killq p.1),
)

-- that is the test of the limits
pub limit_is : (limit : ℕ) → is_killq_limit limit ≡ killq.is_limit limit
unfolding is_killq_limit
limit_is limit = refl

pub limit_means : (limit : ℕ) → Exactly (is_killq_limit limit ≡ true) ((1 ≤ limit) × (limit ≤ 128))
unfolding is_killq_limit
limit_means = in_range

pub sound_means : SoundMeans
sound_means = every.sound_means killq zero_passes zero_alone 1 128 in_range

-- the answer of a call that tests its clock too, where the clock is in range
pub in_time : (sound : Bool) (clock : ℕ) → is_clock clock ≡ true → record_answer sound ≡ clock_answer sound clock
unfolding record_answer clock_answer
in_time sound clock e = ap (λ (b : Bool). door_of (not sound) false (not b) false) (sym e)

-- a clock that is out of range gives nothing, whatever is due
pub none_given : {G : Type 0} (sound : Bool) (clock : ℕ) (o : Option G) → (o ≡ None) ⊎ (is_clock clock ≡ false)
    → result_and (clock_answer sound clock) (Ok None) ≡ result_and (clock_answer sound clock) (Ok o)
unfolding clock_answer door_of when
none_given {G = G} sound clock o (inl e) = ap (λ (p : Option G). result_and (clock_answer sound clock) (Ok p)) (sym e)
none_given {G = G} sound clock o (inr e) = by sound (is_clock clock) e
  where
    by : (s b : Bool) → b ≡ false → result_and {U = Option G} (door_of (not s) false (not b) false) (Ok None) ≡ result_and (door_of (not s) false (not b) false) (Ok o)
    by true false e = refl
    by false false e = refl
    by s true e = absurd cc

-- past a refusal of a call that tests queue or table, and clock
pub clock_passed : (a : Answer) (sound : Bool) (clock : ℕ) → a ≡ clock_answer sound clock → a ≡ done → sound ≡ true
unfolding clock_answer
clock_passed a sound clock e d = not-false sound (door_passed _ _ _ _ (sym e ∙ d)).record_ok

pub lawful : Lawful killq
lawful = arrays.lawful max_killq zero_item is_zero zero_passes zero_alone
