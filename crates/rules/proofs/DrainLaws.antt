-- A ring of n bytes is empty after n out-events. Assumes nothing.
use Prim.Native.Nat.{ℕ, zero, suc, ◌+◌, ◌-◌, ◌≤◌, ◌<◌}
use mathlib.Core.Path.{◌≡◌, refl, sym, ap, ◌∙◌}
use mathlib.Core.Logic.{⊎_elim}
use mathlib.Core.Bool.{Bool, true, false, not, ◌&&◌}
use mathlib.Core.List.{List, [], append-nil}
use native.Mathlib.Omega.{arith}
use native.Mathlib.Nat.{le_refl, not-suc-le-zero}
use lib.Dec.{ltb, leb, eqb}
use lib.ListN.{length, length-append}
use borrow.Author.Tests.{eqb-true, eqb-false, leb-true, not-true, not-false}
use Rattle.defs.specs.Choice.{when}
use Rattle.defs.specs.Answer.{told, is_done, when_done, Answer, done}
use Rattle.defs.specs.Stream.{counted, failed}
use Rattle.defs.specs.Ladder.{door_of, late_of, lowest_of, record_answer}
use Rattle.defs.specs.declared.stream.StreamAnswer.{StreamAnswer}
use Rattle.defs.specs.declared.stream.StreamAnswer.TheVariants.{Count, WouldBlock, Failed}
use Rattle.defs.proofs.Basics.{never, both, true_or_false, positive}
use Rattle.defs.proofs.ChoiceLaws.{when_true, when_false, when_same}
use Rattle.defs.proofs.AnswerLaws.{is_done_lem, when_done_lem, when_not_done, number_zero}
use Rattle.defs.proofs.LadderLaws.{lowest_passed, lowest_end}
use Rattle.runs.proofs.Promises as any
use Rattle.txbuf.specs.Record.{used_of, sound_of, held}
use Rattle.txbuf.specs.Push.{push_done}
use Rattle.txbuf.specs.Flush.{FlushIn, ends_by, flush_count, flush_over, flush_answer}
use Rattle.txbuf.specs.declared.record.TxBuf.{TxBuf}
use Rattle.txbuf.proofs.RecordLaws.{held_length}
use Rattle.txbuf.proofs.FlushLaws.{flush_progresses, flushed_told}
use Rattle.rules.specs.Record.{quiet}
use Rattle.rules.specs.Moves.{Account, account, Numbers, Moved}
use Rattle.rules.specs.Send.{carried, SendIn, SendLeft, pkt_of, send_plan, send_answer, send_kills, send_carried, send_done, send_kept, send_of}
use Rattle.rules.specs.Notify.{absorbed, NotifyIn, NotifyLeft, due, flush_in, flushed, notify_answer, notify_done, notify_kept, notify_of}
use Rattle.rules.specs.Runs.{Event, sends, receives, notifies, kills, looks, after, Made, connections, is_out, HeadStays, Drains}
use Rattle.rules.specs.declared.record.VsockConnection.{VsockConnection}
use Rattle.rules.proofs.MovesLaws.{goes_is_rw, rule_counts, rule_keeps, drain_counts, receive_keeps, kill_keeps}
use Rattle.rules.proofs.RunLaws.{event_moves, numbers_kept}

-- how many bytes a connection holds
abbrev held_by : VsockConnection → ℕ
held_by c = used_of c.tx_buf

-- ---- a call that pushes nothing leaves no more than there was

carried_tail : (keeps : Bool) (ring : TxBuf) (store rest : List ℕ) → (carried keeps ring store rest).ring.tail ≡ ring.tail
unfolding carried push_done when
carried_tail true ring store rest = refl
carried_tail false ring store rest = refl

done_tail : (i : SendIn) → (send_done i).conn.tx_buf.tail ≡ i.conn.tx_buf.tail
unfolding account send_done
done_tail i =
    let c = i.conn in
    ⊎_elim
    (λ (g : (send_plan i).goes ≡ true).
    ap (λ (a : Account). a.ring.tail) (rule_counts c (quiet c.tx_buf) (pkt_of i) (send_plan i) (send_kills i) (send_carried i).ring i.clock g (goes_is_rw i g))
    ∙ carried_tail _ c.tx_buf i.store _)
    (λ (g : (send_plan i).goes ≡ false). ap (λ (a : Account). a.ring.tail) (rule_keeps c (quiet c.tx_buf) (pkt_of i) (send_plan i) (send_kills i) (send_carried i).ring i.clock g))
    (true_or_false (send_plan i).goes)

-- a packet leaves the tail
send_tail : (i : SendIn) → (send_of i).conn.tx_buf.tail ≡ i.conn.tx_buf.tail
unfolding account send_of send_kept
send_tail i =
    ⊎_elim
    (λ (t : is_done (send_answer i) ≡ true).
    ap (λ (o : SendLeft). o.conn.tx_buf.tail) (when_done_lem (send_answer i) (send_done i) (send_kept i) (is_done_lem _ t))
    ∙ done_tail i)
    (λ (t : is_done (send_answer i) ≡ false). ap (λ (o : SendLeft). o.conn.tx_buf.tail) (when_not_done (send_answer i) (send_done i) (send_kept i) t))
    (true_or_false (is_done (send_answer i)))

-- an event accepts nothing, so what was held is what it took and what is held
notify_lengths : (c d : VsockConnection) (x y : List ℕ) (taken : List ℕ) → Moved c d (held c.tx_buf x) (held d.tx_buf y) taken [] → length taken + held_by d ≡ held_by c
notify_lengths c d x y taken m =
    let e = ap length (m.bytes ∙ append-nil (held c.tx_buf x)) in
    omega (arith, e, length-append taken (held d.tx_buf y), held_length d.tx_buf y, held_length c.tx_buf x)

least : (d : VsockConnection) (s : List ℕ) (e : Event) → Numbers d → Made d s e → HeadStays e → held_by (after e) ≤ held_by d
unfolding account
least d s (sends i o) n m h =
    let t : o.conn.tx_buf.tail ≡ i.conn.tx_buf.tail = ap (λ (x : SendLeft). x.conn.tx_buf.tail) m.2 ∙ send_tail i in
    rw (h, t, m.0) (le_refl _)
least d s (receives i o) n m h =
    let r : o.conn.tx_buf ≡ i.conn.tx_buf = ap (λ (a : Account). a.ring) (receive_keeps i o m.1) in
    rw (r, m.0) (le_refl _)
least d s (notifies i o) n m h = let l = notify_lengths d o.conn s s _ (event_moves d s (notifies i o) n m) in omega arith
least d s (kills c o) n m h =
    let r : o.conn.tx_buf ≡ c.tx_buf = ap (λ (a : Account). a.ring) (kill_keeps c o m.1) in
    rw (r, m.0) (le_refl _)
least d s (looks l) n m h = rw m.0 (le_refl _)

-- ---- an out-event that takes a byte leaves fewer

-- a refusal 1, 5 or 6 is no 10
not_ten : (s a n : Bool) → eqb (told (lowest_of (record_answer s) (late_of a n))).number 10 ≡ false
unfolding lowest_of record_answer door_of late_of when when_done
not_ten false a n = refl
not_ten true true n = refl
not_ten true false true = refl
not_ten true false false = refl

ends_done : (n k : ℕ) (a : StreamAnswer) → a ≡ Count (suc k) → ends_by n a ≡ done
unfolding ends_by
ends_done n k a e = rw e (when_same done (eqb n 0))

-- the flush within is done, where its first write takes a byte
flush_done_lem : (i : FlushIn) (k : ℕ) → i.answers.first ≡ Count (suc k) → absorbed (flush_answer i) ≡ done → flush_answer i ≡ done
unfolding flush_answer absorbed
flush_done_lem i k f e =
    let early : Answer = lowest_of (record_answer (sound_of i.ring (length i.store))) (late_of (flush_over i) (ltb (length i.out) (flush_count i))) in
    let z : flush_answer i ≡ early = ap (lowest_of early) (ends_done _ k _ f) ∙ lowest_end early in
    sym (when_false done (flush_answer i) _ (ap (λ (a : Answer). eqb (told a).number 10) z ∙ not_ten _ _ _)) ∙ e

-- an answer that counts at least one byte
record Takes (a : StreamAnswer) : Type 0 where
  more : ℕ
  is : a ≡ Count (suc more)

takes : (a : StreamAnswer) → leb 1 (counted a) ≡ true → Takes a
takes (Count n) e = of n (leb-true 1 n e)
  where
    of : (n : ℕ) → 1 ≤ n → Takes (Count n)
    of (suc k) l = record { more = k; is = refl }
    of zero l = absurd (not-suc-le-zero l)
takes WouldBlock e = absurd (never e)
takes Failed e = absurd (never e)

-- what is left in the ring is what the flush left
drained_ring : (i : NotifyIn) → notify_answer i ≡ done → due i ≡ true → (notify_of i).conn.tx_buf ≡ (flushed i).ring
unfolding account notify_of notify_done
drained_ring i d u =
    ap (λ (o : NotifyLeft). o.conn.tx_buf) (when_done_lem (notify_answer i) (notify_done i) (notify_kept i) d)
    ∙ ap (λ (c : VsockConnection). c.tx_buf) (when_true _ _ _ u)
    ∙ ap (λ (a : Account). a.ring) (drain_counts i.conn i.readable (flushed i).ring (flushed i).count (quiet (flushed i).ring) (failed i.answers.first))

falls : (i : NotifyIn) (k : ℕ) → Numbers i.conn → notify_answer i ≡ done → due i ≡ true → i.answers.first ≡ Count (suc k) → 0 < held_by i.conn
    → held_by (notify_of i).conn < held_by i.conn
unfolding notify_answer
falls i k n d u f l =
    let a : absorbed (flush_answer (flush_in i)) ≡ done = sym (when_true _ _ _ u) ∙ (lowest_passed _ _ d).1 in
    let x : flush_answer (flush_in i) ≡ done = flush_done_lem (flush_in i) k f a in
    rw (drained_ring i d u) (flush_progresses (flush_in i) (flushed i) k n.ring refl (flushed_told (flush_in i) x) f l)

-- the answer of an event, by its number
answered : (i : NotifyIn) → (notify_of i).answer.number ≡ 0 → notify_answer i ≡ done
unfolding notify_of notify_kept
answered i e =
    ⊎_elim
    (λ (t : is_done (notify_answer i) ≡ true). is_done_lem _ t)
    (λ (t : is_done (notify_answer i) ≡ false). number_zero _ (ap (λ (o : NotifyLeft). o.answer.number) (sym (when_not_done (notify_answer i) (notify_done i) (notify_kept i) t)) ∙ e))
    (true_or_false (is_done (notify_answer i)))

-- an out-event of a ring that isn't empty flushes
flushes : (i : NotifyIn) → i.writable ≡ true → due i ≡ false → held_by i.conn ≡ 0
unfolding quiet
flushes i w u = eqb-true (held_by i.conn) 0 (not-false _ (sym (ap (λ (b : Bool). b && not (eqb (held_by i.conn) 0)) w) ∙ u))

some_held : (i : NotifyIn) → due i ≡ true → 0 < held_by i.conn
unfolding quiet
some_held i u = let e = eqb-false (held_by i.conn) 0 (not-true _ (both i.writable _ u).1) in positive (held_by i.conn) e

out_falls : (d : VsockConnection) (s : List ℕ) (e : Event) → Numbers d → Made d s e → is_out e ≡ true → held_by (after e) ≤ held_by d - 1
out_falls d s (sends i o) w m x = absurd (never x)
out_falls d s (receives i o) w m x = absurd (never x)
out_falls d s (notifies i o) w m x =
    let p = both (i.writable && eqb o.answer.number 0) _ x in
    let q = both i.writable (eqb o.answer.number 0) p.0 in
    let a : notify_answer i ≡ done = answered i (ap (λ (y : NotifyLeft). y.answer.number) (sym m.2) ∙ eqb-true _ _ q.1) in
    let l = notify_lengths d o.conn s s _ (event_moves d s (notifies i o) w m) in
    let c : held_by i.conn ≡ held_by d = ap held_by m.0 in
    ⊎_elim
    (λ (u : due i ≡ true).
    let k = takes i.answers.first (rw u at p.1) in
    let f = falls i k.more (rw m.0 w) a u k.is (some_held i u) in
    let g : held_by o.conn ≡ held_by (notify_of i).conn = ap (λ (y : NotifyLeft). held_by y.conn) m.2 in
    omega arith)
    (λ (u : due i ≡ false). let z = flushes i q.0 u in omega arith)
    (true_or_false (due i))
out_falls d s (kills c o) w m x = absurd (never x)
out_falls d s (looks l) w m x = absurd (never x)

-- ---- over the calls

pub drains : Drains
drains u c d x y w v p b =
    any.drains connections Numbers held_by HeadStays is_out numbers_kept (record { stays = least; falls = out_falls }) c d x y u w v p b
