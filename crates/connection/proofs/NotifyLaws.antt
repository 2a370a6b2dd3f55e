-- Laws of `notify`: what follows a flush, and the ends of the call. Assumes nothing.
use Rattle.defs.specs.declared.answer.Refusal.{Refusal}
use mathlib.Core.Logic.{◌⊎◌}
use Rattle.defs.specs.declared.answer.Refusal.TheVariants.{BadRecord, BadHeader, BadClock, BadLength, BadAnswer, NoRoom, NoData, PktBufMissing, TxBufFull, StreamBlocked, StreamFailed, NotQueued}
use Rattle.std.specs.Prelude.{Err}
use Prim.Native.Nat.{ℕ, ◌≤◌}
use mathlib.Core.Path.{◌≡◌, refl, sym, ap, ◌∙◌}
use mathlib.Core.Logic.{⊎_elim}
use mathlib.Core.Bool.{Bool, true, false}
use mathlib.Core.List.{List}
use lib.ListN.{length}
use native.Mathlib.Omega.{arith}
use borrow.Author.Tests.{not-false}
use Rattle.defs.specs.Choice.{when}
use Rattle.defs.specs.Stream.{failed}
use Rattle.std.specs.Prelude.{Ok}
use Rattle.defs.specs.Answer.{told, is_done, Answer, done, when_done}
use Rattle.defs.specs.Limits.{max_ring}
use Rattle.defs.specs.Ladder.{record_answer}
use Rattle.defs.proofs.ChoiceLaws.{when_true, when_false}
use Rattle.defs.proofs.AnswerLaws.{refusal_not_done, when_done_lem}
use Rattle.defs.proofs.LadderLaws.{lowest_kept, lowest_on, door_passed}
use Rattle.txbuf.specs.declared.flush.Flushed.{Flushed}
use Rattle.txbuf.specs.Flush.{FlushLeft, FlushSays, flush_answer}
use Rattle.txbuf.proofs.FlushLaws.{flush_answer_lem, flush_kept_lem, count_small}
use Rattle.rules.specs.Record.{quiet}
use Rattle.rules.specs.Notify.{seen_of, absorbed, drained_of, notify_door, NotifyIn, NotifyLeft, due, flush_in, notify_answer, notify_done, notify_kept, notify_of}
use Rattle.rules.specs.declared.record.VsockConnection.{VsockConnection}
use Rattle.rules.proofs.RecordLaws.{sound_over_says}

-- ---- the call's answer

-- the door, as the call finds it
abbrev pub Door : NotifyIn → Answer → Type 0
Door i a = a ≡ notify_door i.conn (length i.store)

past_door : (i : NotifyIn) (a : Answer) → Door i a → a ≡ done → notify_answer i ≡ when (due i) (absorbed (flush_answer (flush_in i))) done
unfolding notify_answer
past_door i a d e = lowest_on a _ _ d e

-- ---- the ends of the call

kept : (i : NotifyIn) (r : Refusal) → Err r ≡ notify_answer i → ◌≡◌ {A = NotifyLeft} (record { answer = told (Err r); conn = i.conn; out = i.out }) (notify_of i)
unfolding notify_of notify_kept when_done when
kept i r e = rw (← e) refl

pub notify_refused : (i : NotifyIn) (r : Refusal) → Door i (Err r) → ◌≡◌ {A = NotifyLeft} (record { answer = told (Err r); conn = i.conn; out = i.out }) (notify_of i)
unfolding notify_answer
notify_refused i r d = kept i r (lowest_kept (Err r) _ _ d (refusal_not_done _ _ refl))

pub notify_seen : (i : NotifyIn) (c : VsockConnection) → Door i done → due i ≡ false → c ≡ seen_of i.conn i.readable
    → ◌≡◌ {A = NotifyLeft} (record { answer = told done; conn = c; out = i.out }) (notify_of i)
unfolding notify_of notify_done when
notify_seen i c d n f = rw (f, when_done_lem (notify_answer i) (notify_done i) (notify_kept i) (past_door i done d refl ∙ when_false _ _ _ n), n)

-- a flush was due, and was absorbed as it answered
pub record Flushing (i : NotifyIn) (b : Answer) (left : FlushLeft) : Type 0 where
  pub passed : Door i done
  pub is_due : due i ≡ true
  pub says : FlushSays (flush_in i) left
  pub absorbs : b ≡ notify_answer i

pub flushing : (i : NotifyIn) (b f : Answer) (left : FlushLeft) → Door i done → due i ≡ true → FlushSays (flush_in i) left → told f ≡ left.answer → b ≡ absorbed f
    → Flushing i b left
flushing i b f left d n says t g = record {
  passed = d;
  is_due = n;
  says = says;
  absorbs = g ∙ ap absorbed (flush_answer_lem (flush_in i) left f says t) ∙ sym (past_door i done d refl ∙ when_true _ _ _ n);
}

-- it takes no more than a ring holds
pub flush_within : (i : NotifyIn) (b : Answer) (left : FlushLeft) → Flushing i b left → left.count ≤ max_ring
unfolding notify_door record_answer
flush_within i b left f =
    let d = door_passed _ _ _ _ (sym f.passed) in
    let s = (sound_over_says i.conn (length i.store) (not-false _ d.record_ok)).0 in
    let c = count_small (flush_in i) left f.says in
    omega arith

-- what blocks or fails is absorbed, and nothing else
pub absorbed_stop : (r : Refusal) → (r ≡ StreamBlocked) ⊎ (r ≡ StreamFailed) → done ≡ absorbed (Err r)
unfolding absorbed when
absorbed_stop r s = ⊎_elim (λ e. rw e refl) (λ e. rw e refl) s

pub not_absorbed : (r : Refusal) → (r ≡ StreamBlocked → ⊥) → (r ≡ StreamFailed → ⊥) → Err r ≡ absorbed (Err r)
unfolding absorbed when
not_absorbed BadRecord k h = refl
not_absorbed BadHeader k h = refl
not_absorbed BadClock k h = refl
not_absorbed BadLength k h = refl
not_absorbed BadAnswer k h = refl
not_absorbed NoRoom k h = refl
not_absorbed NoData k h = refl
not_absorbed PktBufMissing k h = refl
not_absorbed TxBufFull k h = refl
not_absorbed StreamBlocked k h = absurd (k refl)
not_absorbed StreamFailed k h = absurd (h refl)
not_absorbed NotQueued k h = refl

pub done_absorbed : done ≡ absorbed done
unfolding absorbed when
done_absorbed = refl

absorbed_done : (a : Answer) → is_done (absorbed a) ≡ false → is_done a ≡ false
unfolding absorbed when
absorbed_done (Ok tt) e = e
absorbed_done (Err r) e = refl

pub notify_kept_lem : (i : NotifyIn) (r : Refusal) (left : FlushLeft) → Flushing i (Err r) left
    → ◌≡◌ {A = NotifyLeft} (record { answer = told (Err r); conn = i.conn; out = left.out }) (notify_of i)
notify_kept_lem i r left f =
    let n : is_done (absorbed (flush_answer (flush_in i))) ≡ false =
    ap is_done (sym (f.absorbs ∙ past_door i done f.passed refl ∙ when_true _ _ _ f.is_due)) in
    ap (λ (x : List ℕ). record { answer = told (Err r); conn = i.conn; out = x }) (flush_kept_lem (flush_in i) left f.says (absorbed_done _ n)) ∙ kept i r f.absorbs

pub notify_done_lem : (i : NotifyIn) (left : FlushLeft) (flushed : Flushed) (seen c : VsockConnection) (fails : Bool) → Flushing i done left
    → flushed ≡ record { count = left.count; ring = left.ring } → seen ≡ seen_of i.conn i.readable → fails ≡ failed i.answers.first
    → c ≡ drained_of seen flushed.ring flushed.count (quiet flushed.ring) fails → ◌≡◌ {A = NotifyLeft} (record { answer = told done; conn = c; out = left.out }) (notify_of i)
unfolding notify_of notify_done when
notify_done_lem i left flushed seen c fails f x g h j =
    rw (j, x, g, h, f.says, when_done_lem (notify_answer i) (notify_done i) (notify_kept i) (sym f.absorbs), f.is_due)
