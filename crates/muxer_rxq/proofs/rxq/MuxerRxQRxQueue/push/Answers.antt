use Rattle.std.proofs.Common.{rules, ◌≡◌, sym, ◌∙◌, length}
use Rattle.defs.specs.Limits.{max_rxq}
use Rattle.queue.proofs.QueueLaws.{room_is}
use Rattle.queue.proofs.QueuedLaws.{push_alike}
use Rattle.muxer_rxq.specs.Queue.{rxq}
use Rattle.muxer_rxq.proofs.QueueLaws.{lawful}
use Rattle.muxer_rxq.proofs.PushLaws.{evicts, alike_room, alike_connection}
use Rattle.muxer_rxq.proofs.rxq.MuxerRxQRxQueue.push.Goals as goal
use Rattle.muxer_rxq.proofs.rxq.MuxerRxQRxQueue.push.Goals.{else-rx-via-then-rx+else-not-has_room, else-rx-via-else-rx}

pub returns-then-not-has_room : goal.returns-then-not-has_room
returns-then-not-has_room c =
    let q = c.args.self in
    let n : length q.q ≡ max_rxq = search rules in
    c.evict.ensures ∙ push_alike rxq lawful _ _ q n (λ s. sym (evicts _ _ _ _ c.if-rx.true (room_is q s _ _ (sym c.has_room.ensures ∙ search rules))))

pub returns : goal.returns
returns c =
    let q = c.args.self in
    let n : length q.q ≡ max_rxq = search rules in
    c.push_back.ensures
    ∙ push_alike rxq lawful _ _ q n
    (λ s.
    sym
    (elim c.else-rx.branch [
      | else-rx-via-then-rx+else-not-has_room w ↦ alike_room _ _ _ _ (room_is q s _ _ (sym w.has_room.ensures ∙ search rules))
      | else-rx-via-else-rx w ↦ alike_connection _ _ _ _ w.if-rx.false
    ]))
