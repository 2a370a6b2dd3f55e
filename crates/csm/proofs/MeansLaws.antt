-- What states and timers mean: case by case. Assumes nothing.
use Prim.Native.Nat.{ℕ}
use mathlib.Core.Path.{◌≡◌, refl, sym, ap, ◌∙◌}
use mathlib.Core.Logic.{⊎_elim}
use mathlib.Core.Bool.{true, false, not, ◌&&◌}
use native.Mathlib.Omega.{arith}
use borrow.Author.Tests.{ltb-true, leb-true, lt-ltb, le-leb, not-true}
use Rattle.std.specs.Prelude.{Some, None}
use Rattle.defs.proofs.Basics.{never, both, both_true, true_or_false}
use Rattle.csm.specs.State.{both_off}
use Rattle.csm.specs.Timer.{Timer, is_set, shut_arms}
use Rattle.csm.specs.Means.{shut_both, EveryStateMeans, EveryTimerMeans, EveryShutdownMeans}
use Rattle.csm.specs.declared.state.ConnState.{ConnState}
use Rattle.csm.specs.declared.state.ConnState.TheVariants.{LocalInit, PeerInit, Established, LocalClosed, PeerClosed, Killed}

pub every_state_means : EveryStateMeans
every_state_means LocalInit = record { takes = refl; gives = refl; polls = refl; asks = refl; both = refl }
every_state_means PeerInit = record { takes = refl; gives = refl; polls = refl; asks = refl; both = refl }
every_state_means Established = record { takes = refl; gives = refl; polls = refl; asks = refl; both = refl }
every_state_means LocalClosed = record { takes = refl; gives = refl; polls = refl; asks = refl; both = refl }
every_state_means (PeerClosed true true) = record { takes = refl; gives = refl; polls = refl; asks = refl; both = refl }
every_state_means (PeerClosed true false) = record { takes = refl; gives = refl; polls = refl; asks = refl; both = refl }
every_state_means (PeerClosed false true) = record { takes = refl; gives = refl; polls = refl; asks = refl; both = refl }
every_state_means (PeerClosed false false) = record { takes = refl; gives = refl; polls = refl; asks = refl; both = refl }
every_state_means Killed = record { takes = refl; gives = refl; polls = refl; asks = refl; both = refl }

pub unset : (time : ℕ) → None ≡ Some time → ⊥
unset time e = never (ap is_set e)

pub every_timer_means : EveryTimerMeans
every_timer_means None clock = record {
  after = (λ e. absurd (never e), λ p. absurd (unset p.0 p.1));
  due = (λ e. absurd (never e), λ p. absurd (unset p.0 p.1));
  runs = (λ e. absurd (never e), λ p. absurd (unset p.0 p.1));
}
every_timer_means (Some time) clock = record {
  after = (λ e. (time, refl, ltb-true _ _ e), λ p. let e : time ≡ p.0 = cc in lt-ltb clock time (omega arith));
  due = (λ e. (time, refl, leb-true _ _ e), λ p. let e : time ≡ p.0 = cc in le-leb time clock (omega arith));
  runs = (λ e. (time, refl), λ p. refl);
}

pub both_shut : (s : ConnState) → shut_both s ≡ true → s ≡ PeerClosed true true
both_shut LocalInit e = absurd (never e)
both_shut PeerInit e = absurd (never e)
both_shut Established e = absurd (never e)
both_shut LocalClosed e = absurd (never e)
both_shut (PeerClosed true true) e = refl
both_shut (PeerClosed true false) e = absurd (never e)
both_shut (PeerClosed false q) e = absurd (never e)
both_shut Killed e = absurd (never e)

pub open_yet : (s : ConnState) → (s ≡ PeerClosed true true → ⊥) → not (shut_both s) ≡ true
open_yet s f = ⊎_elim (λ (x : shut_both s ≡ true). absurd (f (both_shut s x))) (λ (x : shut_both s ≡ false). ap not x) (true_or_false (shut_both s))

not_set : (t : Timer) → is_set t ≡ false → t ≡ None
not_set None e = refl
not_set (Some time) e = absurd (never (sym e))

pub every_shutdown_means : EveryShutdownMeans
every_shutdown_means before after empty t = (forth, back)
  where
    off : (s : ConnState) → both_off s ≡ true → s ≡ PeerClosed true true
    off s e = both_shut s (sym (every_state_means s).both ∙ e)

    forth : shut_arms before after empty t ≡ true → (after ≡ PeerClosed true true) × (before ≡ PeerClosed true true → ⊥) × (empty ≡ false) × (t ≡ None)
    forth e =
        let a = both (both_off after && not (both_off before) && not empty) (not (is_set t)) e in
        let b = both (both_off after && not (both_off before)) (not empty) a.0 in
        let c = both (both_off after) (not (both_off before)) b.0 in
        (off after c.0, λ z. never (sym (not-true _ c.1) ∙ ap both_off z), not-true _ b.1, not_set t (not-true _ a.1))

    back : (after ≡ PeerClosed true true) × (before ≡ PeerClosed true true → ⊥) × (empty ≡ false) × (t ≡ None)
        → shut_arms before after empty t ≡ true
    back p =
        both_true _ _ (both_true _ _ (both_true _ _ (ap both_off p.0) (ap not (every_state_means before).both ∙ open_yet before p.1)) (ap not p.2)) (ap (λ (x : Timer). not (is_set x)) p.3)
