-- The timer of a connection (01, timers; 2026-08). Assumes nothing.
use Rattle.std.specs.Prelude.{ℕ, ◌+◌, Bool, true, false, not, ◌&&◌, ltb, leb, Option, Some, None}
use Rattle.csm.specs.State.{both_off}
use Rattle.csm.specs.declared.state.ConnState.{ConnState}

-- when the connection is to be ended, in milliseconds, if at all
abbrev pub Timer : Type 0
Timer = Option ℕ

-- time > now
abbrev pub is_after : Timer → ℕ → Bool
is_after None clock = false
is_after (Some time) clock = ltb clock time

-- time <= now
abbrev pub is_due : Timer → ℕ → Bool
is_due None clock = false
is_due (Some time) clock = leb time clock

-- a timer runs: one is set, be its time to come or past
abbrev pub is_set : Timer → Bool
is_set None = false
is_set (Some time) = true

-- a SHUTDOWN from one state to another arms it (2026-08): both flags become set, the ring isn't empty and no timer runs
abbrev pub shut_arms : ConnState → ConnState → Bool → Timer → Bool
shut_arms before after empty t = both_off after && not (both_off before) && not empty && not (is_set t)

-- set to so many milliseconds from now
abbrev pub later : ℕ → ℕ → Timer
later clock wait = Some (clock + wait)
