-- What a turn says, said a second time: case by case. Assumes nothing.
use Prim.Native.Nat.{ℕ}
use mathlib.Core.Path.{◌≡◌, refl, sym, ◌∙◌}
use native.Mathlib.Omega.{arith}
use mathlib.Core.Logic.{⊎_elim}
use mathlib.Core.Bool.{Bool, true, false, not, ◌&&◌}
use mathlib.Core.List.{[], ◌∷◌}
use borrow.Author.Tests.{not-true}
use lib.Dec.{eqb}
use Rattle.defs.specs.Answer.{told}
use Rattle.defs.specs.Choice.{when}
use Rattle.defs.specs.declared.stream.StreamAnswer.{StreamAnswer}
use Rattle.defs.specs.declared.stream.StreamAnswer.TheVariants.{Count, WouldBlock, Failed}
use Rattle.defs.proofs.Basics.{true_or_false, both, and_true, and_false}
use Rattle.defs.proofs.LadderLaws.{first_in_turn}
use Rattle.csm.specs.Pending.{none, left_of}
use Rattle.csm.specs.State.{gives}
use Rattle.csm.specs.Means.{serves_data}
use Rattle.csm.specs.Turn.{turn_step, data_first}
use Rattle.csm.specs.Row.{row_of}
use Rattle.csm.specs.Said.{Turn, said_now, said_by, rw_gone, SevenAndEightAlwaysLeave, SaysFirstPending, ResetIsSaidAlone}
use Rattle.csm.specs.declared.pending.PendingRxSet.{PendingRxSet}
use Rattle.csm.specs.declared.turn.RxStep.{RxStep}
use Rattle.csm.specs.declared.turn.RxStep.TheVariants.{Rst, Response, Request, OutOfState, AskCredit, NoBuffer, Data, Close, Fail, Update, Nothing}
use Rattle.csm.specs.declared.state.ConnState.{ConnState}
use Rattle.csm.specs.Timer.{Timer}
use Rattle.csm.proofs.MeansLaws.{every_state_means}
use Rattle.csm.proofs.TurnLaws.{has_nothing, lacks_buffer, turn_number}

-- ---- 7 and 8

-- a step that is not done says nothing, and without a buffer a pending update stays
blank : (s : RxStep) → ((told (row_of s).answer).number ≡ 0 → ⊥) → ((row_of s).op ≡ 0) × ((row_of s).count ≡ 0) × ((row_of s).flags ≡ 0)
blank Rst n = absurd (n refl)
blank Response n = absurd (n refl)
blank Request n = absurd (n refl)
blank OutOfState n = absurd (n refl)
blank AskCredit n = absurd (n refl)
blank NoBuffer n = (refl, refl, refl)
blank (Data k) n = absurd (n refl)
blank Close n = absurd (n refl)
blank Fail n = absurd (n refl)
blank Update n = absurd (n refl)
blank Nothing n = (refl, refl, refl)

keeps_update : (s : RxStep) → (told (row_of s).answer).number ≡ 8 → (row_of s).ends ≡ false
keeps_update Rst e = refl
keeps_update Response e = refl
keeps_update Request e = refl
keeps_update OutOfState e = refl
keeps_update AskCredit e = refl
keeps_update NoBuffer e = refl
keeps_update (Data k) e = refl
keeps_update Close e = refl
keeps_update Fail e = refl
keeps_update Update e = let z : ◌≡◌ {A = ℕ} 0 8 = e in absurd (omega arith)
keeps_update Nothing e = let z : ◌≡◌ {A = ℕ} 7 8 = e in absurd (omega arith)

-- which of the two tests holds, by the number
by_seven : (x y : Bool) → first_in_turn ((7, x) ∷ (8, y) ∷ []) ≡ 7 → x ≡ true
unfolding when
by_seven true y e = refl
by_seven false true e = let z : ◌≡◌ {A = ℕ} 8 7 = e in absurd (omega arith)
by_seven false false e = let z : ◌≡◌ {A = ℕ} 0 7 = e in absurd (omega arith)

by_eight : (x y : Bool) → first_in_turn ((7, x) ∷ (8, y) ∷ []) ≡ 8 → y ≡ true
unfolding when
by_eight true y e = let z : ◌≡◌ {A = ℕ} 7 8 = e in absurd (omega arith)
by_eight false true e = refl
by_eight false false e = let z : ◌≡◌ {A = ℕ} 0 8 = e in absurd (omega arith)

-- what is left where the three that come first are not pending
after_nothing : (p : PendingRxSet) (ends : Bool) → p.rst ≡ false → p.response ≡ false → p.request ≡ false → p.credit_update ≡ false → left_of p ends ≡ none
after_nothing p ends r s q u = rw (q, s, r, u, and_false p.rw)

after_no_buffer : (p : PendingRxSet) (ends : Bool) → p.rst ≡ false → p.response ≡ false → p.request ≡ false → ends ≡ false → left_of p ends ≡ rw_gone p
after_no_buffer p ends r s q e = rw (q, s, r, e, and_false p.rw, and_true p.credit_update)

pub seven_and_eight : SevenAndEightAlwaysLeave
unfolding has_nothing lacks_buffer
seven_and_eight t =
    let p = t.pending in
    let n = turn_number p t.state t.no_credit t.present t.answer in
    let step : RxStep = turn_step p t.state t.no_credit t.present t.answer in
    record {
      seven = λ e.
          let h = by_seven _ _ (sym n ∙ e) in
          let u = both _ (not p.credit_update) h in
          let d = both (not p.rst && not p.response && not p.request) _ u.0 in
          let q = both (not p.rst && not p.response) (not p.request) d.0 in
          let s = both (not p.rst) (not p.response) q.0 in
          after_nothing p (row_of step).ends (not-true _ s.0) (not-true _ s.1) (not-true _ q.1) (not-true _ u.1);
      eight = λ e.
          let h = by_eight _ _ (sym n ∙ e) in
          let f = (both (data_first p) (gives t.state) (both _ (not t.no_credit) (both _ (not t.present) h).0).0).0 in
          let d = both (not p.rst && not p.response && not p.request) p.rw f in
          let q = both (not p.rst && not p.response) (not p.request) d.0 in
          let s = both (not p.rst) (not p.response) q.0 in
          after_no_buffer p (row_of step).ends (not-true _ s.0) (not-true _ s.1) (not-true _ q.1) (keeps_update step e);
      blank = blank step;
    }

-- ---- 01's order

-- a turn of these indications: Rst, Response, Request, Rw, CreditUpdate
abbrev turn : Bool → Bool → Bool → Bool → Bool → ConnState → Bool → Bool → StreamAnswer → Timer → Timer → Timer → Turn
turn r s q w u state no_credit present a expiry wait linger = record {
  pending = record { request = q; response = s; rst = r; rw = w; credit_update = u };
  state = state;
  no_credit = no_credit;
  present = present;
  answer = a;
  expiry = expiry;
  wait = wait;
  linger = linger;
}

module _ (expiry wait linger : Timer) where
  abbrev Says : Bool → Bool → Bool → Bool → Bool → ConnState → Bool → Bool → StreamAnswer → Type 0
  Says r s q w u state no_credit present a = let t : Turn = turn r s q w u state no_credit present a expiry wait linger in said_by t ≡ said_now t

  -- Rw in a state that serves data
  served : (state : ConnState) → gives state ≡ true → serves_data state ≡ true → (u no_credit present : Bool) (a : StreamAnswer) → Says false false false true u state no_credit present a
  unfolding turn_step when
  served state g h u true present a = simp (g, h)
  served state g h u false false a = simp (g, h)
  served state g h u false true (Count n) = simp (g, h) (⊎_elim (λ (e : eqb n 0 ≡ true). rw e) (λ (e : eqb n 0 ≡ false). rw e) (true_or_false (eqb n 0)))
  served state g h true false true WouldBlock = simp (g, h)
  served state g h false false true WouldBlock = simp (g, h)
  served state g h u false true Failed = simp (g, h)

  -- and in one that does not
  unserved : (state : ConnState) → gives state ≡ false → serves_data state ≡ false → (u no_credit present : Bool) (a : StreamAnswer) → Says false false false true u state no_credit present a
  unfolding turn_step when
  unserved state g h u no_credit present a = simp (g, h)

  says : (r s q w u : Bool) (state : ConnState) (no_credit present : Bool) (a : StreamAnswer) → Says r s q w u state no_credit present a
  unfolding turn_step when
  says true s q w u state no_credit present a = refl
  says false true q w u state no_credit present a = refl
  says false false true w u state no_credit present a = refl
  says false false false true u state no_credit present a =
      ⊎_elim
      (λ (g : gives state ≡ true). served state g (sym (every_state_means state).gives ∙ g) u no_credit present a)
      (λ (g : gives state ≡ false). unserved state g (sym (every_state_means state).gives ∙ g) u no_credit present a)
      (true_or_false (gives state))
  says false false false false true state no_credit present a = refl
  says false false false false false state no_credit present a = refl

pub says_first_pending : SaysFirstPending
says_first_pending t =
    let p = t.pending in
    says t.expiry t.wait t.linger p.rst p.response p.request p.rw p.credit_update t.state t.no_credit t.present t.answer

pub reset_is_said_alone : ResetIsSaidAlone
unfolding turn_step when
reset_is_said_alone t e = rw e
