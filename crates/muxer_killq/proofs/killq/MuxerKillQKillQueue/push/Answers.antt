use Rattle.std.proofs.Common.{ap, ◌∙◌}
use Rattle.queue.specs.Queued as queued
use Rattle.muxer_killq.specs.Queue.{killq}
use Rattle.muxer_killq.specs.Push.{push_list}
use Rattle.muxer_killq.specs.declared.item.MuxerKillQItem.{MuxerKillQItem}
use Rattle.muxer_killq.proofs.killq.MuxerKillQKillQueue.push.Goals as goal

pub returns : goal.returns
unfolding push_list queued.push_list
returns c = c.push_back.ensures ∙ ap (λ (it : MuxerKillQItem). queued.push_of killq (queued.push_list it) c.args.self) c.at.ensures
