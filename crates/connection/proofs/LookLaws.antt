-- Laws of the calls that look at a connection. Assumes nothing.
use mathlib.Core.Path.{◌≡◌}
use mathlib.Core.Bool.{Bool, false, not, ◌&&◌}
use lib.Dec.{eqb}
use Rattle.defs.specs.Answer.{told, done}
use Rattle.defs.specs.Answer.{done, when_done}
use Rattle.defs.specs.Choice.{when}
use Rattle.defs.specs.declared.answer.Refusal.{Refusal}
use Rattle.std.specs.Prelude.{Err}
use mathlib.Core.Path.{refl}
use Rattle.csm.specs.State.{polls}
use Rattle.rules.specs.Record.{credit_of}
use Rattle.rules.specs.Look.{look_answer, EvSetLeft, ev_set_of}
use Rattle.rules.specs.declared.record.VsockConnection.{VsockConnection}

pub evset_kept : (c : VsockConnection) (empty : Bool) (r : Refusal) → Err r ≡ look_answer c
    → ◌≡◌ {A = EvSetLeft} (record { answer = told (Err r); readable = false; writable = false }) (ev_set_of c empty)
unfolding ev_set_of when_done when
evset_kept c empty r e = rw (← e) refl

pub evset_done : (c : VsockConnection) (empty : Bool) → done ≡ look_answer c
    → ◌≡◌ {A = EvSetLeft} (record { answer = told done; readable = polls c.state && not (eqb (credit_of c) 0); writable = not empty }) (ev_set_of c empty)
unfolding ev_set_of when_done when
evset_done c empty e = rw (← e) refl
