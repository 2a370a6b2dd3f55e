-- The calls that look at a connection (01, timers; as the Rust), and `kill` (2026-07). Each answers 1 for a record that is not sound, those with a
-- clock 3 for one over 2^62, and then gives a fixed value. Assumes nothing.
use Rattle.std.specs.Prelude.{ℕ, ◌≡◌, Bool, false, not, ◌&&◌, None}
use Rattle.defs.specs.Ladder.{record_answer, clock_answer}
use Rattle.defs.specs.Answer.{Told, told, when_done, Answer}
use Rattle.defs.specs.Look.{FlagLeft, flag_of}
use Rattle.csm.specs.State.{polls}
use Rattle.csm.specs.Pending.{is_pending}
use Rattle.csm.specs.Timer.{is_after, is_due, Timer}
use Rattle.csm.specs.declared.state.ConnState.{ConnState}
use Rattle.csm.specs.declared.state.ConnState.TheVariants.{LocalInit}
use Rattle.rules.specs.Record.{sound_conn, quiet, killed_of, no_credit}
use Rattle.rules.specs.Open.{ConnLeft}
use Rattle.rules.specs.declared.record.VsockConnection.{VsockConnection}

-- the answer of a call that tests its record alone
abbrev pub look_answer : VsockConnection → Answer
look_answer c = record_answer (sound_conn c)

-- `has_pending_rx`
abbrev pub pending_of : VsockConnection → FlagLeft
pending_of c = flag_of (look_answer c) (is_pending c.pending_rx)

abbrev pub PendingSays : VsockConnection → FlagLeft → Type 0
PendingSays c left = left ≡ pending_of c

-- ---- timers

pub record Timed : Type 0 where
  pub conn : VsockConnection
  pub clock : ℕ

-- the answer of a call that tests its record and its clock
abbrev pub timed_answer : Timed → Answer
timed_answer i = clock_answer (sound_conn i.conn) i.clock

-- `will_expire`: time > now
abbrev pub will_expire_of : Timed → FlagLeft
will_expire_of i = flag_of (timed_answer i) (is_after i.conn.expiry i.clock)

abbrev pub WillExpireSays : Timed → FlagLeft → Type 0
WillExpireSays i left = left ≡ will_expire_of i

-- `has_expired`: time <= now
abbrev pub has_expired_of : Timed → FlagLeft
has_expired_of i = flag_of (timed_answer i) (is_due i.conn.expiry i.clock)

abbrev pub HasExpiredSays : Timed → FlagLeft → Type 0
HasExpiredSays i left = left ≡ has_expired_of i

pub record ExpiryLeft : Type 0 where
  pub answer : Told
  pub expiry : Timer

-- `expiry`: the timer as it stands
unfoldable pub expiry_of : VsockConnection → ExpiryLeft
expiry_of c = record { answer = told (look_answer c); expiry = when_done (look_answer c) c.expiry None }

abbrev pub ExpirySays : VsockConnection → ExpiryLeft → Type 0
ExpirySays c left = left ≡ expiry_of c

-- ---- the state, the polled events, and the end

pub record StateLeft : Type 0 where
  pub answer : Told
  pub state : ConnState

-- `state`: the state as it stands
unfoldable pub state_of : VsockConnection → StateLeft
state_of c = record { answer = told (look_answer c); state = when_done (look_answer c) c.state LocalInit }

abbrev pub StateSays : VsockConnection → StateLeft → Type 0
StateSays c left = left ≡ state_of c

pub record EvSetLeft : Type 0 where
  pub answer : Told
  pub readable : Bool
  pub writable : Bool

-- out iff the ring isn't empty; in unless the state forbids data to the guest, or its credit is 0
unfoldable pub ev_set_of : VsockConnection → Bool → EvSetLeft
ev_set_of c empty = record {
  answer = told (look_answer c);
  readable = when_done (look_answer c) (polls c.state && not (no_credit c)) false;
  writable = when_done (look_answer c) (not empty) false;
}

abbrev pub EvSetSays : VsockConnection → EvSetLeft → Type 0
EvSetSays c left = left ≡ ev_set_of c (quiet c.tx_buf)

-- `kill`
unfoldable pub kill_of : VsockConnection → ConnLeft
kill_of c = record { answer = told (look_answer c); conn = when_done (look_answer c) (killed_of c) c }

abbrev pub KillSays : VsockConnection → ConnLeft → Type 0
KillSays c left = left ≡ kill_of c
