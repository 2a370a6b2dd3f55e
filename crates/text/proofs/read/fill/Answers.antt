use Rattle.std.proofs.Common.{rules, length, ◌-◌}
use Rattle.text.proofs.Written.{consumes_more, taken_more}
use Rattle.text.proofs.read.fill.Goals as goal

pub loop-done-preserved : goal.loop-done-preserved
loop-done-preserved g c =
    let k = length c.loop-done.room - c.loop-done.done in
    let t = taken_more c.loop-done.done k c.loop-done.room c.read.new.buf c.in_ok-n.n c.loop-done.invariant.0 c.in_ok-n.ensures.bound.0 in
    (search rules, search rules, rw t (consumes_more _ _ _ _ _ c.loop-done.invariant.2 c.in_ok-n.ensures.bytes.0))
