-- What a turn answers, and when it tells our count, as facts about what is first. Assumes nothing.
use mathlib.Core.Path.{◌≡◌, refl, sym, ◌∙◌}
use mathlib.Core.Bool.{Bool, true, false, not, ◌&&◌, ◌||◌}
use mathlib.Core.List.{[], ◌∷◌}
use lib.Dec.{eqb}
use Rattle.defs.specs.Choice.{when}
use Rattle.defs.specs.Promises.{Exactly}
use Rattle.defs.specs.Stream.{blocks}
use Rattle.defs.specs.declared.stream.StreamAnswer.{StreamAnswer}
use Rattle.defs.specs.declared.stream.StreamAnswer.TheVariants.{Count, WouldBlock, Failed}
use Rattle.defs.proofs.Basics.{never}
use Rattle.defs.proofs.MeansLaws.{as_is, not_as_is, not_means, and_means, or_means}
use Rattle.defs.proofs.LadderLaws.{by_turn, row}
use Rattle.csm.specs.State.{gives}
use Rattle.csm.specs.Turn.{read_step, data_step, update_step, data_first, turn_step, turn_reads}
use Rattle.csm.specs.Row.{row_of}
use Rattle.csm.specs.Said.{Turn, answer_of, DataFirst, Reads, UpdateNext, NothingToSay, BufferMissing}
use Rattle.csm.specs.Promises.{TurnAnswers, LastToldMoves}
use Rattle.csm.specs.declared.turn.RxStep.TheVariants.{Rst, Response, Request, Data, Close}
use Rattle.csm.specs.declared.pending.PendingRxSet.{PendingRxSet}
use Rattle.csm.specs.declared.state.ConnState.{ConnState}
use Rattle.csm.proofs.MeansLaws.{every_state_means}
use Rattle.csm.proofs.TurnLaws.{has_nothing, lacks_buffer, turn_number}

-- a test that means pairs of facts means them in one row
flat : {X A B C : Type 0} → Exactly X ((A × B) × C) → Exactly X (A × B × C)
flat m = (λ x. let p = m.0 x in (p.0.0, p.0.1, p.1), λ q. m.1 ((q.0, q.1), q.2))

blocks_means : (a : StreamAnswer) → Exactly (blocks a ≡ true) (a ≡ WouldBlock)
blocks_means (Count n) = (λ e. absurd (never e), λ e. cc)
blocks_means WouldBlock = (λ e. refl, λ e. refl)
blocks_means Failed = (λ e. absurd (never e), λ e. cc)

module _ (t : Turn) where
  -- Rst, Response, Request
  earlier_means : Exactly (not t.pending.rst && not t.pending.response && not t.pending.request ≡ true)
      ((t.pending.rst ≡ false) × (t.pending.response ≡ false) × (t.pending.request ≡ false))
  earlier_means = flat (and_means (and_means (not_as_is t.pending.rst) (not_as_is t.pending.response)) (not_as_is t.pending.request))

  data_means : Exactly (data_first t.pending && gives t.state ≡ true) (DataFirst t)
  data_means =
      let m = and_means (and_means earlier_means (as_is t.pending.rw)) (as_is (gives t.state)) in
      let g = (every_state_means t.state).gives in (
        λ e. let p = m.0 e in (p.0.0.0, p.0.0.1, p.0.0.2, p.0.1, sym g ∙ p.1),
        λ q. m.1 (((q.0, q.1, q.2), q.3), g ∙ q.4),
      )

  pub reads_means : Exactly (turn_reads t.pending t.state t.no_credit t.present ≡ true) (Reads t)
  unfolding turn_reads
  reads_means = flat (and_means (and_means data_means (not_as_is t.no_credit)) (as_is t.present))

  pub buffer_means : Exactly (lacks_buffer t.pending t.state t.no_credit t.present ≡ true) (BufferMissing t)
  unfolding lacks_buffer
  buffer_means = flat (and_means (and_means data_means (not_as_is t.no_credit)) (not_as_is t.present))

  -- whether nothing comes before CreditUpdate
  abbrev update_next : Bool
  update_next =
      not t.pending.rst && not t.pending.response && not t.pending.request
      && (not t.pending.rw || turn_reads t.pending t.state t.no_credit t.present && blocks t.answer)

  update_means : Exactly (update_next ≡ true) (UpdateNext t)
  update_means =
      let m = and_means earlier_means (or_means (not_as_is t.pending.rw) (and_means reads_means (blocks_means t.answer))) in
      (λ e. let p = m.0 e in (p.0.0, p.0.1, p.0.2, p.1), λ q. m.1 ((q.0, q.1, q.2), q.3))

  pub nothing_means : Exactly (has_nothing t.pending t.state t.no_credit t.present t.answer ≡ true) (NothingToSay t)
  unfolding has_nothing
  nothing_means = and_means update_means (not_as_is t.pending.credit_update)

pub turn_answers : TurnAnswers
turn_answers t =
    by_turn (answer_of t) (row 7 (nothing_means t) ∷ row 8 (buffer_means t) ∷ []) (turn_number t.pending t.state t.no_credit t.present t.answer)

-- ---- our count is told

by_tells : (r s q w up no_credit present u : Bool) (a : StreamAnswer)
    → (row_of (when r Rst (when s Response (when q Request (when w (data_step up no_credit present (read_step a (update_step u))) (update_step u)))))).tells
    ≡ not r && not s && not q && w && up && no_credit
    || (not r && not s && not q && w && up && not no_credit && present && not (blocks a)
    || not r && not s && not q && (not w || not r && not s && not q && w && up && not no_credit && present && blocks a) && u)
unfolding when
by_tells true s q w up no_credit present u a = refl
by_tells false true q w up no_credit present u a = refl
by_tells false false true w up no_credit present u a = refl
by_tells false false false false up no_credit present true a = refl
by_tells false false false false up no_credit present false a = refl
by_tells false false false true false no_credit present u a = refl
by_tells false false false true true true present u a = refl
by_tells false false false true true false false u a = refl
by_tells false false false true true false true u (Count n) = by_count (eqb n 0)
  where
    by_count : (end : Bool) → (row_of (when end Close (Data n))).tells ≡ true
    by_count true = refl
    by_count false = refl
by_tells false false false true true false true true WouldBlock = refl
by_tells false false false true true false true false WouldBlock = refl
by_tells false false false true true false true u Failed = refl

pub last_told_moves : LastToldMoves
unfolding turn_step turn_reads
last_told_moves t =
    let m =
    or_means (and_means (data_means t) (as_is t.no_credit))
    (or_means (and_means (reads_means t) (not_means (blocks_means t.answer))) (and_means (update_means t) (as_is t.pending.credit_update))) in
    let e = by_tells t.pending.rst t.pending.response t.pending.request t.pending.rw (gives t.state) t.no_credit t.present t.pending.credit_update t.answer in
    (λ p. m.0 (sym e ∙ p), λ q. e ∙ m.1 q)

-- ---- a turn that does not read

unread : (r s q w up no_credit present u : Bool) (a b : StreamAnswer) → not r && not s && not q && w && up && not no_credit && present ≡ false
    → when r Rst (when s Response (when q Request (when w (data_step up no_credit present (read_step a (update_step u))) (update_step u))))
    ≡ when r Rst (when s Response (when q Request (when w (data_step up no_credit present (read_step b (update_step u))) (update_step u))))
unfolding when
unread true s q w up no_credit present u a b e = refl
unread false true q w up no_credit present u a b e = refl
unread false false true w up no_credit present u a b e = refl
unread false false false false up no_credit present u a b e = refl
unread false false false true false no_credit present u a b e = refl
unread false false false true true true present u a b e = refl
unread false false false true true false false u a b e = refl
unread false false false true true false true u a b e = absurd (never (sym e))

-- says the same whatever the stream answers
pub step_unread : (p : PendingRxSet) (s : ConnState) (no_credit present : Bool) (a b : StreamAnswer) → turn_reads p s no_credit present ≡ false
    → turn_step p s no_credit present a ≡ turn_step p s no_credit present b
unfolding turn_step turn_reads
step_unread p s no_credit present a b e = unread p.rst p.response p.request p.rw (gives s) no_credit present p.credit_update a b e
