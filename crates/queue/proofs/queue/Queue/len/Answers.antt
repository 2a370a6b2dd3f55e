use Rattle.std.proofs.Common.{rules, ℕ, ◌≡◌, length}
use Rattle.queue.proofs.ArrayLaws.{lawful}
use Rattle.queue.proofs.LookLaws.{len_held, count_held}
use Rattle.queue.proofs.queue.Queue.len.Goals as goal

pub returns : goal.returns
returns g c =
    let n : length c.args.self.q ≡ g.row.N = search rules in
    count_held _ c.args.self _ c.answer.ensures _ _ _ c.and.ensures (len_held (lawful _ _ _ g.met.T.Item.zero_passes g.met.T.Item.zero_alone) c.args.self (λ (k : ℕ). k) n)
