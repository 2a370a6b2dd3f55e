-- What states and timers mean, said a second time: lists of states in 01's words, and times as numbers, apart from the tables that the code follows.
-- Assumes nothing.
use Rattle.std.specs.Prelude.{ℕ, ◌≤◌, ◌<◌, ◌≡◌, Bool, true, false, Some, None}
use Rattle.defs.specs.Promises.{Exactly}
use Rattle.csm.specs.State.{polls, gives, takes, asks, both_off}
use Rattle.csm.specs.Timer.{Timer, is_after, is_due, is_set, shut_arms}
use Rattle.csm.specs.declared.state.ConnState.{ConnState}
use Rattle.csm.specs.declared.state.ConnState.TheVariants.{LocalInit, PeerInit, Established, LocalClosed, PeerClosed, Killed}

-- the states that take data: Established and PeerClosed(any, no send-off)
abbrev pub takes_data : ConnState → Bool
takes_data LocalInit = false
takes_data PeerInit = false
takes_data Established = true
takes_data LocalClosed = false
takes_data (PeerClosed recv_off true) = false
takes_data (PeerClosed recv_off false) = true
takes_data Killed = false

-- Rw is served in Established and in PeerClosed(no receive-off, any)
abbrev pub serves_data : ConnState → Bool
serves_data LocalInit = false
serves_data PeerInit = false
serves_data Established = true
serves_data LocalClosed = false
serves_data (PeerClosed true send_off) = false
serves_data (PeerClosed false send_off) = true
serves_data Killed = false

-- the states in which data for the guest is waited for: all but LocalClosed, Killed and PeerClosed that receives no more
abbrev pub waits_for_data : ConnState → Bool
waits_for_data LocalInit = true
waits_for_data PeerInit = true
waits_for_data Established = true
waits_for_data LocalClosed = false
waits_for_data (PeerClosed true send_off) = false
waits_for_data (PeerClosed false send_off) = true
waits_for_data Killed = false

-- CREDIT_REQUEST is answered in Established, PeerInit and PeerClosed(any, no send-off)
abbrev pub answers_request : ConnState → Bool
answers_request LocalInit = false
answers_request PeerInit = true
answers_request Established = true
answers_request LocalClosed = false
answers_request (PeerClosed recv_off true) = false
answers_request (PeerClosed recv_off false) = true
answers_request Killed = false

-- a guest that shut down both ways
abbrev pub shut_both : ConnState → Bool
shut_both LocalInit = false
shut_both PeerInit = false
shut_both Established = false
shut_both LocalClosed = false
shut_both (PeerClosed true true) = true
shut_both (PeerClosed true false) = false
shut_both (PeerClosed false send_off) = false
shut_both Killed = false

pub record StatesMean (s : ConnState) : Type 0 where
  pub takes : takes s ≡ takes_data s
  pub gives : gives s ≡ serves_data s
  pub polls : polls s ≡ waits_for_data s
  pub asks : asks s ≡ answers_request s
  pub both : both_off s ≡ shut_both s

abbrev pub EveryStateMeans : Type 0
EveryStateMeans = (s : ConnState) → StatesMean s

-- 01: `will_expire` is time > now, `has_expired` time <= now, of a timer that is set; 2026-08: one that is set runs, at any clock
pub record TimersMean (t : Timer) (clock : ℕ) : Type 0 where
  pub after : Exactly (is_after t clock ≡ true) ((time : ℕ) × (t ≡ Some time) × (clock < time))
  pub due : Exactly (is_due t clock ≡ true) ((time : ℕ) × (t ≡ Some time) × (time ≤ clock))
  pub runs : Exactly (is_set t ≡ true) ((time : ℕ) × (t ≡ Some time))

abbrev pub EveryTimerMeans : Type 0
EveryTimerMeans = (t : Timer) (clock : ℕ) → TimersMean t clock

-- 2026-08: a SHUTDOWN from one state to another arms the timer exactly where both flags become set that were not both set before, the ring isn't empty
-- and no timer runs
abbrev pub EveryShutdownMeans : Type 0
EveryShutdownMeans =
    (before after : ConnState) (empty : Bool) (t : Timer)
    → Exactly (shut_arms before after empty t ≡ true) ((after ≡ PeerClosed true true) × (before ≡ PeerClosed true true → ⊥) × (empty ≡ false) × (t ≡ None))
