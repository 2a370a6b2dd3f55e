-- The queue of the code: its kind is lawful where its items are. Assumes nothing.
use Prim.Native.Nat.{ℕ, ◌≤◌}
use mathlib.Core.Path.{◌≡◌, refl}
use mathlib.Core.Bool.{Bool, true}
use borrow.Author.Tests.{leb-true}
use lib.Dec.{leb}
use Rattle.defs.proofs.Basics.{both}
use Rattle.queue.specs.Queue.{Lawful, sound_q}
use Rattle.queue.specs.declared.queue.Queue.{Queue}
use Rattle.queue.proofs.QueueLaws.{parts}
use Rattle.queue.specs.Arrays.{arrays}

pub lawful : {A : Type 0} (N : ℕ) (z : A) (test : A → Bool) → test z ≡ true → ((x : A) → test x ≡ true → x ≡ z) → Lawful (arrays N z test)
lawful N z test passes alone = record {
  back = λ q. refl;
  forth = λ q. refl;
  zero_passes = passes;
  zero_alone = alone;
  limit_fits = λ limit e. leb-true limit N (both (leb 1 limit) (leb limit N) e).1;
}

-- what soundness says of such a queue
module _ {A : Type 0} (N : ℕ) (z : A) (test : A → Bool) (passes : test z ≡ true) (alone : (x : A) → test x ≡ true → x ≡ z)
    (q : Queue A N) (e : sound_q (arrays N z test) q ≡ true) where
  pub most : q.limit ≤ N
  most = (lawful N z test passes alone).limit_fits q.limit (parts (arrays N z test) q e).0
