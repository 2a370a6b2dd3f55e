use Rattle.std.proofs.Common.{rules, ℕ, List, not, ap, sym, ◌∙◌, length}
use Rattle.conn_map.specs.Table.{chosen}
use Rattle.conn_map.specs.Distinct.{keys_to, twice, again}
use Rattle.conn_map.proofs.DistinctLaws.{doubtful_decide, none_doubtful}
use Rattle.conn_map.proofs.distinct.are_distinct.Goals as goal

pub returns-then-not-mark : goal.returns-then-not-mark
returns-then-not-mark c = ap not c.if-not-mark.true ∙ sym (none_doubtful _ _ _ (search rules) (sym c.mark.ensures.repeats ∙ c.if-not-mark.true))

pub returns-else-not-mark : goal.returns-else-not-mark
returns-else-not-mark c =
    let keys = keys_to c.args.ports.now c.args.used.now (length c.args.ports.now) in
    c.doubtful_distinct.ensures
    ∙ ap (λ (l : List ℕ). not (twice (chosen (again l) keys))) c.mark.ensures.marks
    ∙ doubtful_decide c.args.ports.now c.args.used.now _ (search rules)
