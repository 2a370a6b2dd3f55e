use Rattle.std.proofs.Common.{rules, true, arith, ◌≡◌, ap, sym, ◌∙◌, refl, length, Ok, Some, None}
use Rattle.defs.proofs.LadderLaws.{record_passed}
use Rattle.queue.specs.Queue.{sound_q}
use Rattle.queue.specs.Arrays.{arrays}
use Rattle.queue.proofs.ArrayLaws.{lawful}
use Rattle.queue.proofs.QueueLaws.{Sound, sound_says}
use Rattle.queue.proofs.PopLaws.{taken, front_dropped, front_said, front_taken}
use Rattle.queue.proofs.queue.Queue.pop_front.Goals as goal
use Rattle.queue.proofs.queue.Queue.pop_front.Goals.{After-peek-given, in-Ok-Some, in-Ok-None, in-Err}

sound : (g : _) (c : After-peek-given g) → sound_q (arrays g.row.N g.T.Item.zero_item g.T.Item.is_zero) c.args.self ≡ true → Sound (arrays g.row.N g.T.Item.zero_item g.T.Item.is_zero) c.args.self
sound g c e =
    let n : length c.args.self.q ≡ g.row.N = search rules in
    sound_says _ (lawful _ _ _ g.met.T.Item.zero_passes g.met.T.Item.zero_alone) c.args.self n e

pub move_up-requires : goal.move_up-requires
move_up-requires g c =
    let n : length c.args.self.q ≡ g.row.N = search rules in
    let t = front_taken _ c.args.self _ c.peek-given.ensures c.in-Ok-Some.field-0-0 (search rules) in
    let s = sound g (goal.at.move_up-requires g c).After-peek-given (record_passed _ _ refl t.0) in
    (t.1, omega (arith, s.most, s.within))

pub returns : goal.returns
returns g c =
    let k = arrays g.row.N g.T.Item.zero_item g.T.Item.is_zero in
    let q = c.args.self in
    front_said k q _ c.peek-given.ensures _
    (elim c.match-given.branch [
      | in-Ok-Some w ↦
          let f : c.peek-given.result ≡ Ok (Some w.in-Ok-Some.field-0-0) = search rules in
          let t = front_taken k q _ c.peek-given.ensures w.in-Ok-Some.field-0-0 f in
          let s = sound g (goal.at.returns g c).After-peek-given (record_passed _ _ refl t.0) in
          w.self-is ∙ front_dropped q s t.1 _ _ (g.met.T.Item.default_is_zero _ w.default.ensures) w.move_up.ensures ∙ sym (ap (taken k q) f)
      | in-Ok-None w ↦
          let f : c.peek-given.result ≡ Ok None = search rules in
          w.self-is ∙ sym (ap (taken k q) f)
      | in-Err w ↦
          w.self-is ∙ sym (ap (taken k q) w.in-Err.is)
    ])
