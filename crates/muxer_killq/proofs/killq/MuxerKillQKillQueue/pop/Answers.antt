use Rattle.std.proofs.Common.{rules, ◌≡◌, ap, refl, sym, ◌∙◌, Ok, Err, Some, None, Option, true, false, Bool, ℕ}
use mathlib.Core.Bool.{not}
use mathlib.Core.Logic.{◌⊎◌, inl, inr}
use Rattle.std.specs.Option.{option_map, is_some}
use Rattle.std.specs.Result.{result_and}
use Rattle.defs.specs.Answer.{Answer}
use Rattle.defs.specs.Limits.{is_clock}
use Rattle.defs.specs.Ladder.{clock_answer}
use Rattle.queue.specs.Pop as pops
use Rattle.queue.specs.Pop.{pop_seen}
use Rattle.queue.proofs.PopLaws.{pop_said, pop_due, due_front, taken}
use Rattle.conn_map.specs.declared.key.ConnMapKey.{ConnMapKey}
use Rattle.muxer_killq.specs.Pop.{no_key, has_passed, key_in, pop_of}
use Rattle.muxer_killq.specs.Queue.{killq, items, sound_q, MuxerKillQ}
use Rattle.muxer_killq.proofs.QueueLaws.{in_time, none_given}
use Rattle.muxer_killq.proofs.killq.MuxerKillQKillQueue.pop.Goals as goal
use Rattle.muxer_killq.proofs.killq.MuxerKillQKillQueue.pop.Goals.{After-filter-due, then-is_none-via-then-is_none, then-is_none-via-else-is_none+then-not-is_clock}

due : (c : After-filter-due) → c.filter-due.result ≡ due_front (has_passed c.args.clock) (items c.args.self)
due c = let h = rw c.front.ensures at c.filter-due.ensures in search rules

no_front : {A : Type 0} (o : Option A) (b : Bool) → is_some o ≡ not b → b ≡ true → o ≡ None
no_front None b e f = refl
no_front (Some x) b e f = let g : true ≡ false = e ∙ ap not f in absurd cc

a_front : {A : Type 0} (o : Option A) (b : Bool) → is_some o ≡ not b → b ≡ false → (x : A) × (o ≡ Some x)
a_front None b e f = let g : false ≡ true = e ∙ ap not f in absurd cc
a_front (Some x) b e f = (x, refl)

-- nothing goes: no front is due, or the clock is out of range
stays : (q : MuxerKillQ) (clock : ℕ) → (due_front (has_passed clock) (items q) ≡ None) ⊎ (is_clock clock ≡ false)
    → pop_seen no_key (result_and (clock_answer (sound_q q) clock) (Ok None)) q ≡ pop_of (record { queue = q; clock = clock })
stays q clock side =
    pop_said killq no_key (has_passed clock) key_in q (clock_answer (sound_q q) clock) _ (none_given _ _ _ (on_keys side)) q (sym (untouched (clock_answer (sound_q q) clock)))
  where
    on_keys : (due_front (has_passed clock) (items q) ≡ None) ⊎ (is_clock clock ≡ false) → (option_map key_in (due_front (has_passed clock) (items q)) ≡ None) ⊎ (is_clock clock ≡ false)
    on_keys (inl e) = inl (ap (option_map key_in) e)
    on_keys (inr e) = inr e

    untouched : (p : Answer) → taken {G = ConnMapKey} killq q (result_and p (Ok None)) ≡ q
    untouched (Ok u) = refl
    untouched (Err a) = refl

pub returns-then-is_none : goal.returns-then-is_none
returns-then-is_none c =
    let d = due (goal.at.returns-then-is_none c).After-filter-due in
    let side : (due_front (has_passed c.args.clock) (items c.args.self) ≡ None) ⊎ (is_clock c.args.clock ≡ false) =
    elim c.then-is_none.branch [
      | then-is_none-via-then-is_none w ↦ inl (sym d ∙ no_front _ _ c.is_none.ensures w.if-is_none.true)
      | then-is_none-via-else-is_none+then-not-is_clock w ↦ inr (sym w.is_clock.ensures ∙ w.if-not-is_clock.true)
    ] in
    rw (c.and.ensures, c.clock_answer.ensures, c.is_sound.ensures) (stays c.args.self c.args.clock side)

pub returns : goal.returns
returns c =
    let d = due (goal.at.returns c).After-filter-due in
    let f = a_front _ _ c.is_none.ensures c.if-is_none.false in
    rw c.keys.ensures (pop_due killq no_key (has_passed c.args.clock) key_in c.args.self f.0 c.pop_front-popped.result.given c.pop_front-popped.result.queue (sym d ∙ f.1) c.pop_front-popped.ensures)
    ∙ ap (λ (p : Answer). pops.pop_of killq no_key (has_passed c.args.clock) key_in p c.args.self) (in_time _ _ (sym c.is_clock.ensures ∙ c.if-not-is_clock.false))
