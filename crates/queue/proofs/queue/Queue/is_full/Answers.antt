use Rattle.std.proofs.Common.{rules, ℕ, ◌≡◌, eqb, length}
use Rattle.queue.proofs.ArrayLaws.{lawful}
use Rattle.queue.proofs.LookLaws.{len_held, flag_held}
use Rattle.queue.proofs.queue.Queue.is_full.Goals as goal

pub returns : goal.returns
returns g c =
    let n : length c.args.self.q ≡ g.row.N = search rules in
    flag_held _ c.args.self _ c.answer.ensures _ _ _ c.and.ensures (len_held (lawful _ _ _ g.met.T.Item.zero_passes g.met.T.Item.zero_alone) c.args.self (λ (k : ℕ). eqb k c.args.self.limit) n)
