use Rattle.std.proofs.Common.{◌-◌, ◌++◌, List, ap, ◌∙◌, take, drop, slice_set}
use Rattle.std.proofs.Math.Seq.{length-take-le}
use Rattle.queue.proofs.PlacesLaws.{turned_set}
use Rattle.queue.proofs.queue.move_up.Goals as goal

pub returns : goal.returns
returns g c =
    ap (λ (l : List g.row.T.Denot). slice_set (l ++ drop c.args.n c.args.places.now) (c.args.n - 1) c.args.last) c.rotate_left.ensures.after
    ∙ turned_set (take c.args.n c.args.places.now) _ _ c.args.n (length-take-le c.args.n c.args.places.now c.requires.1) c.requires.0
