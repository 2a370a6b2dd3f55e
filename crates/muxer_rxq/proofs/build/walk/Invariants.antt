use Rattle.std.proofs.Common.{◌≡◌}
use Rattle.queue.specs.Fill.{filled}
use Rattle.muxer_rxq.specs.Queue.{rxq}
use Rattle.muxer_rxq.proofs.build.walk.Given as goal

abbrev pub invariant-loop-item : goal.invariant-loop-item
invariant-loop-item l = l.queue ≡ filled rxq l.limit l.yielded
