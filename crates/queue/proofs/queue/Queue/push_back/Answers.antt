use Rattle.std.proofs.Common.{rules, arith, ◌≡◌, ◌<◌, sym, ◌∙◌, length}
use Rattle.defs.proofs.ChoiceLaws.{when_true, when_false}
use Rattle.defs.proofs.LadderLaws.{record_passed}
use Rattle.queue.specs.Queued.{push_list}
use Rattle.queue.proofs.ArrayLaws.{lawful, most}
use Rattle.queue.proofs.QueueLaws.{sound_past, appended, room_under}
use Rattle.queue.proofs.QueuedLaws.{push_kept_lem, push_appends, push_turned}
use Rattle.queue.proofs.queue.Queue.push_back.Goals as goal
use Rattle.queue.proofs.queue.Queue.push_back.Goals.{Then-has_room}

at_place : (g : _) (c : Then-has_room g) → c.args.self.len < g.row.N
at_place g c =
    omega (
      arith,
      room_under c.args.self.synced c.args.self.len c.args.self.limit (sym c.has_room.ensures ∙ c.if-has_room.true),
      most _ _ _ g.met.T.Item.zero_passes g.met.T.Item.zero_alone c.args.self (record_passed _ _ c.answer-answer.ensures c.in-Ok.is),
    )

pub offset_bounds-self-self : goal.offset_bounds-self-self
offset_bounds-self-self g c = omega (arith, at_place g c)

pub listed : goal.listed
listed g c = let n : length c.args.self.q ≡ g.row.N = search rules in omega (arith, at_place g (goal.at.listed g c).Then-has_room)

pub bounds-self-self : goal.bounds-self-self
bounds-self-self g c = at_place g (goal.at.bounds-self-self g c).Then-has_room

pub overflow_add-self : goal.overflow_add-self
overflow_add-self g c = omega (arith, at_place g (goal.at.overflow_add-self g c).Then-has_room, g.N.fits)

pub returns-in_default : goal.returns-in_default
returns-in_default g c =
    push_kept_lem (lawful _ _ _ g.met.T.Item.zero_passes g.met.T.Item.zero_alone) _ _ _ c.answer-answer.ensures (c.in_default.not-Ok tt)

pub returns-then-has_room : goal.returns-then-has_room
unfolding push_list
returns-then-has_room g c =
    let q = c.args.self in
    let n : length q.q ≡ g.row.N = search rules in
    let w = lawful g.row.N _ _ g.met.T.Item.zero_passes g.met.T.Item.zero_alone in
    let a = c.answer-answer.ensures in
    let s = sound_past _ w q _ a c.in-Ok.is n in
    push_appends w (push_list c.args.item) q _ a c.in-Ok.is n _ _ (appended q s c.args.item q.synced (at_place g (goal.at.returns-then-has_room g c).Then-has_room))
    (sym c.has_room.ensures ∙ c.if-has_room.true) (λ t. when_true _ _ _ t)

pub returns : goal.returns
unfolding push_list
returns g c =
    let n : length c.args.self.q ≡ g.row.N = search rules in
    push_turned (lawful _ _ _ g.met.T.Item.zero_passes g.met.T.Item.zero_alone) (push_list c.args.item) c.args.self _ c.answer-answer.ensures c.in-Ok.is n
    (sym c.has_room.ensures ∙ c.if-has_room.false) (λ t. when_false _ _ _ t)
