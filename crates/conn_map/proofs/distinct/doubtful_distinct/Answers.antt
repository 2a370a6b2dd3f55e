use Rattle.std.proofs.Common.{rules, ap, not, ltb, sym, ◌∙◌}
use borrow.Author.Tests.{tests}
use Rattle.std.proofs.lemmas.Fn.{always_returns_same}
use Rattle.conn_map.specs.Distinct.{twice}
use Rattle.conn_map.proofs.SortLaws.{twice_reversed, compared, is_lt_is}
use Rattle.conn_map.proofs.distinct.doubtful_distinct.Goals as goal

pub returns : goal.returns
returns c =
    compared _ _ _ c.sort_unstable.ensures.permutation (λ k d l h. sym (is_lt_is _ _) ∙ c.sort_unstable.ensures.sorted k d l h) (c.is_sorted_by.ensures.cases ltb (always_returns_same _ _ _ (λ a r f k. search (rules, tests))))
    ∙ ap not (ap twice c.doubtful-n.ensures.1 ∙ twice_reversed _)
