use Rattle.std.proofs.Common.{rules, ◌∙◌}
use Rattle.std.proofs.lemmas.Iterator.{YieldsList-from_slice}
use Rattle.std.proofs.lemmas.Iterator.Adapters.{YieldsList-from_skip}
use Rattle.std.proofs.lemmas.Iterator.Consumers.{YieldsList-at}
use Rattle.std.proofs.lemmas.Iterator.Search.{all_from_yields_List}
use borrow.Author.Tests.{tests}
use Rattle.queue.specs.Queue.{clear_q}
use Rattle.queue.proofs.PlacesLaws.{listed_all}
use Rattle.queue.proofs.queue.Queue.is_clear.Goals as goal

pub returns : goal.returns
unfolding clear_q
returns g c =
    all_from_yields_List g.T.Item.is_zero _ _ _ c.all.ensures.ran
    (YieldsList-from_skip c.args.self.now.len (YieldsList-at c.skip.ensures.source (YieldsList-from_slice c.args.self.now.q c.iter.ensures.rest)) c.skip.ensures.count)
    (λ x b q k. search (rules, tests))
    ∙ listed_all _ _
