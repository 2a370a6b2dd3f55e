-- What the test of the RX queue means, and that it is lawful as a queue: its test finds just the zero item, its limits have their places. Assumes nothing.
use Prim.Native.Nat.{ℕ, ◌≤◌}
use mathlib.Core.Path.{◌≡◌, refl}
use mathlib.Core.Bool.{true}
use borrow.Author.Tests.{le-leb, leb-true}
use lib.Dec.{leb}
use Rattle.defs.specs.Limits.{min_rxq, max_rxq, is_rxq_limit}
use Rattle.defs.specs.Promises.{Exactly}
use Rattle.defs.proofs.Basics.{both}
use Rattle.queue.specs.Queue.{Lawful}
use Rattle.queue.proofs.ArrayLaws as arrays
use Rattle.queue.proofs.EveryLaws as every
use Rattle.muxer_rxq.specs.Item.{zero_item, is_zero, zero_passes, zero_alone}
use Rattle.muxer_rxq.specs.Queue.{rxq}
use Rattle.muxer_rxq.specs.Outcomes.{SoundMeans, FrontAtPlaceZero}

pub front_at_place_zero : FrontAtPlaceZero
front_at_place_zero = record { seen = λ q. refl; held = λ q. refl }

-- the test of Q, by its two limits
pub in_range : (limit : ℕ) → Exactly (rxq.is_limit limit ≡ true) ((min_rxq ≤ limit) × (limit ≤ max_rxq))
in_range limit = (
  λ e. (let p = both (leb min_rxq limit) (leb limit max_rxq) e in (leb-true _ _ p.0, leb-true _ _ p.1)),
  λ p. rw (le-leb min_rxq limit p.0, le-leb limit max_rxq p.1),
)

-- it is that of the limits
pub limit_is : (limit : ℕ) → is_rxq_limit limit ≡ rxq.is_limit limit
unfolding is_rxq_limit
limit_is limit = refl

pub limit_means : (limit : ℕ) → Exactly (is_rxq_limit limit ≡ true) ((min_rxq ≤ limit) × (limit ≤ max_rxq))
unfolding is_rxq_limit
limit_means = in_range

pub sound_means : SoundMeans
sound_means = every.sound_means rxq zero_passes zero_alone min_rxq max_rxq in_range

pub lawful : Lawful rxq
lawful = arrays.lawful max_rxq zero_item is_zero zero_passes zero_alone
