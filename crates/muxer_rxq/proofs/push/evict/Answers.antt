use Rattle.std.proofs.Common.{rules, arith, ◌≡◌, length}
use Rattle.defs.specs.Limits.{max_rxq}
use Rattle.queue.proofs.QueueLaws.{Sound, sound_past}
use Rattle.queue.proofs.QueuedLaws.{push_kept_lem, push_laid}
use Rattle.muxer_rxq.specs.Queue.{rxq}
use Rattle.muxer_rxq.specs.Push.{evict_list}
use Rattle.muxer_rxq.proofs.QueueLaws.{lawful}
use Rattle.muxer_rxq.proofs.PushLaws.{evict_none, evict_some}
use Rattle.muxer_rxq.proofs.push.evict.Goals as goal
use Rattle.muxer_rxq.proofs.push.evict.Goals.{In-Ok}

sound : (c : In-Ok) → Sound rxq c.args.queue
sound c = let n : length c.args.queue.q ≡ max_rxq = search rules in sound_past rxq lawful c.args.queue _ c.answer-answer.ensures c.in-Ok.is n

pub returns-in_default : goal.returns-in_default
returns-in_default c = push_kept_lem lawful _ _ _ c.answer-answer.ensures (c.in_default.not-Ok tt)

pub shared_ref_as_front-rearmost : goal.shared_ref_as_front-rearmost
shared_ref_as_front-rearmost c = let s = sound (goal.at.shared_ref_as_front-rearmost c).In-Ok in omega (arith, s.most, s.within)

pub returns-in_default-rearmost : goal.returns-in_default-rearmost
returns-in_default-rearmost c =
    push_laid lawful (λ l limit synced. evict_list c.args.rst l synced) _ _ c.answer-answer.ensures c.in-Ok.is _
    (evict_none c.args.queue c.args.rst (sound (goal.at.returns-in_default-rearmost c).In-Ok) c.in_default-rearmost.ensures)

pub returns : goal.returns
returns c =
    push_laid lawful (λ l limit synced. evict_list c.args.rst l synced) _ _ c.answer-answer.ensures c.in-Ok.is _
    (rw c.in-Ok.is (evict_some c.args.queue c.args.rst (sound (goal.at.returns c).In-Ok) c.in-Some.at c.in-Some.ensures))
