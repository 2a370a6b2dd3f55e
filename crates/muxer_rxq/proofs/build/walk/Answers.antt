use Rattle.std.proofs.Common.{rules, ◌∙◌, ◌+◌, ap, take, ℕ}
use borrow.Author.Tests.{tests}
use Rattle.std.proofs.lemmas.Iterator.{YieldsList-from_slice, YieldsList-from_zip, YieldsList-from_map, YieldsList-from_take}
use Rattle.std.proofs.lemmas.Iterator.Consumers.{YieldsList-at, YieldsList-from_filter}
use Rattle.conn_map.proofs.TableLaws.{slot_in}
use Rattle.queue.specs.Fill.{with_in, filled}
use Rattle.queue.proofs.FillLaws.{filled_none, filled_more, filled_first, took_all}
use Rattle.muxer_rxq.specs.Queue.{rxq, MuxerRxQ}
use Rattle.muxer_rxq.specs.Build.{is_pending, item_of, built_from}
use Rattle.muxer_rxq.proofs.BuildLaws.{gathers}
use Rattle.muxer_rxq.proofs.QueueLaws.{lawful}
use Rattle.muxer_rxq.proofs.build.walk.Goals as goal

pub loop-item-init : goal.loop-item-init
loop-item-init c = c.empty-queue.ensures ∙ filled_none rxq lawful c.args.limit c.requires.0

pub loop-item-preserved : goal.loop-item-preserved
loop-item-preserved c =
    c.take_in.ensures
    ∙ ap (λ (q : MuxerRxQ). with_in rxq c.in-Some.item q) c.loop-item.invariant
    ∙ filled_more rxq lawful c.args.limit c.requires.0 c.loop-item.yielded c.in-Some.item

pub returns : goal.returns
unfolding built_from
returns c =
    c.loop-item.invariant
    ∙ ap (filled rxq c.args.limit)
    (took_all c.loop-item.item-iterator c.next.new.self c.loop-item.yielded_by c.in-None.is c.next.ensures.steps
    (YieldsList-at c.into_iter-item-iterator.ensures.into_iter_gives
    (YieldsList-from_take (c.args.limit + 1)
    (YieldsList-at c.take-item-items.ensures.source
    (YieldsList-from_map _ (λ (s : (ℕ × ℕ) × ℕ). item_of (slot_in s))
    (YieldsList-at c.map.ensures.source
    (YieldsList-from_filter _ (λ (s : (ℕ × ℕ) × ℕ). is_pending (slot_in s))
    (YieldsList-at c.filter.ensures.source
    (YieldsList-from_zip
    (YieldsList-at c.zip-2.ensures.first
    (YieldsList-from_zip (YieldsList-at c.zip.ensures.first (YieldsList-from_slice c.args.ports.now c.iter.ensures.rest)) (YieldsList-from_slice {s = c.zip.result.b} c.args.used.now c.zip.ensures.second.0)))
    (YieldsList-from_slice {s = c.zip-2.result.b} c.args.pending.now c.zip-2.ensures.second.0)))
    c.filter.ensures.closure (λ x b q k. search (rules, tests))))
    c.map.ensures.closure (λ x r q k. search (rules, tests))))
    c.take-item-items.ensures.count))
    ∙ ap (take (c.args.limit + 1)) (gathers _ _ _ c.requires.1 c.requires.2))
    ∙ filled_first rxq lawful c.args.limit c.requires.0 _
