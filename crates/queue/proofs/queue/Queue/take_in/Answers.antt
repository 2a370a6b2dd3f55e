use Rattle.std.proofs.Common.{arith, ◌<◌}
use Rattle.queue.specs.Arrays.{arrays}
use Rattle.queue.proofs.FillLaws.{taken_in, left_out}
use Rattle.queue.proofs.queue.Queue.take_in.Goals as goal
use Rattle.queue.proofs.queue.Queue.take_in.Goals.{else-self-via-then-self+else-self-2, else-self-via-else-self}

pub returns-then-self-2 : goal.returns-then-self-2
returns-then-self-2 g c = taken_in (arrays g.row.N g.T.Item.zero_item g.T.Item.is_zero) c.args.item c.args.self.now (omega arith) (omega arith)

pub returns-else-self : goal.returns-else-self
returns-else-self g c =
    elim c.else-self.branch [
      | else-self-via-then-self+else-self-2 w ↦ left_out (arrays g.row.N g.T.Item.zero_item g.T.Item.is_zero) c.args.item c.args.self.now (λ (a : c.args.self.now.len < c.args.self.now.limit) (b : c.args.self.now.len < g.row.N). omega arith)
      | else-self-via-else-self w ↦ left_out (arrays g.row.N g.T.Item.zero_item g.T.Item.is_zero) c.args.item c.args.self.now (λ (a : c.args.self.now.len < c.args.self.now.limit) (b : c.args.self.now.len < g.row.N). omega arith)
    ]
