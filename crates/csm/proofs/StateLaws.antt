-- Laws of the states. Assumes nothing.
use mathlib.Core.Bool.{◌||◌}
use Rattle.defs.proofs.Basics.{or_left}
use Rattle.csm.specs.State.{grown}
use Rattle.csm.specs.Promises.{ShutOnlyGrows}

pub shut_only_grows : ShutOnlyGrows
shut_only_grows r s recv_off send_off = grown (r || recv_off) (s || send_off) (or_left r recv_off) (or_left s send_off)
