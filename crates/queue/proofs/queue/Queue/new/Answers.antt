use Rattle.std.proofs.Common.{sym, ap, true, [], ◌∙◌}
use Rattle.defs.specs.Ladder.{record_answer}
use Rattle.queue.specs.Queue.{pack}
use Rattle.queue.specs.Queued.{new_of}
use Rattle.queue.specs.Arrays.{arrays}
use Rattle.queue.proofs.QueuedLaws.{made_kept, made_done}
use Rattle.queue.proofs.queue.Queue.new.Goals as goal
use Rattle.queue.proofs.queue.Queue.new.Goals.{then-is_ok, else-is_ok}

pub returns : goal.returns
unfolding new_of
returns g c =
    let k = arrays g.row.N g.T.Item.zero_item g.T.Item.is_zero in
    let a = c.record_answer-answer.ensures ∙ ap record_answer c.is_limit.ensures in
    elim c.if-is_ok.branch [
      | then-is_ok w ↦ made_done k _ _ a _ _ (sym c.is_ok.ensures.value ∙ w.if-is_ok.true) (c.empty.ensures ∙ ap (λ n. pack k [] n true) w.limit-is)
      | else-is_ok w ↦ made_kept k _ _ a _ _ (sym c.is_ok.ensures.value ∙ w.if-is_ok.false) (c.empty.ensures ∙ ap (λ n. pack k [] n true) w.limit-is)
    ]
