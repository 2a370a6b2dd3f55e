-- Laws of what a call would offer or ask. Assumes nothing.
use Prim.Native.Nat.{ℕ, ◌≤◌, zero-le}
use mathlib.Core.Path.{◌≡◌, refl, sym, ap, ◌∙◌}
use mathlib.Core.Logic.{⊎_elim}
use mathlib.Core.Bool.{true, false, ◌&&◌}
use mathlib.Core.List.{List, []}
use native.Mathlib.Omega.{arith}
use lib.ListN.{length, take, drop}
use lib.Seq.{take_at, length-take-le}
use borrow.Author.Tests.{not-false}
use Rattle.defs.specs.Answer.{is_done, done}
use Rattle.defs.specs.Ladder.{record_answer}
use Rattle.defs.proofs.Basics.{true_or_false, both}
use Rattle.defs.proofs.ChoiceLaws.{when_true, when_false}
use Rattle.defs.proofs.AnswerLaws.{is_done_lem, done_is_done, when_done_lem, when_not_done}
use Rattle.defs.proofs.LadderLaws.{lowest_passed, door_passed}
use Rattle.txbuf.specs.Record.{used_of, held}
use Rattle.txbuf.specs.Flush.{first_piece, second_piece}
use Rattle.txbuf.proofs.RecordLaws.{held_length}
use Rattle.txbuf.proofs.FlushLaws.{count_small, flush_takes_oldest, pieces_are_held}
use Rattle.rules.specs.Send.{writes_of, plan_of, send_door_in, SendIn, pkt_of, send_plan, send_answer, payload, send_done, send_kept, send_of}
use Rattle.rules.specs.Receive.{recv_door, recv_refusal, refusal_of, said_by}
use Rattle.rules.specs.Notify.{notify_door, NotifyIn, due, flush_in, flushed, notify_answer, notify_done, notify_kept, notify_of}
use Rattle.rules.specs.Offer.{send_writes, send_offered, send_offers, recv_reads, recv_asked, recv_taken, notify_flushes, notify_offered, notify_offers, notify_first, notify_second}
use Rattle.rules.specs.Moves.{Numbers, send_taken, notify_taken}
use Rattle.rules.specs.Promises.{SendCountedOff, NotifyCountedOff, NotifyOffersPieces, ReadWithinAsked}
use Rattle.rules.proofs.RecordLaws.{sound_over_ring}
use Rattle.rules.proofs.ReceiveLaws.{asked_at_most}
use Rattle.rules.proofs.SendLaws.{passed}

-- ---- `send_pkt`

-- what it counts as written is the front of what it offers
written_off : (i : SendIn) → send_answer i ≡ done → take (send_plan i).written (payload i) ≡ take (send_plan i).written (send_offers i)
unfolding send_answer send_offered send_writes plan_of
written_off i d =
    ⊎_elim
    (λ (t : writes_of i.conn (pkt_of i).op i.present ≡ true).
    let p : is_done (send_door_in i) ≡ true = ap is_done (lowest_passed _ _ d).0 ∙ done_is_done in
    let w : is_done (send_door_in i) && writes_of i.conn (pkt_of i).op i.present ≡ true = rw (p, t) in
    let l : (send_plan i).len ≡ (pkt_of i).len = when_true _ _ _ (both _ _ t).0 in
    ap (take (send_plan i).written) (ap (λ (n : ℕ). take n i.buf) l ∙ sym (when_true (take (pkt_of i).len i.buf) [] _ w)))
    (λ (t : writes_of i.conn (pkt_of i).op i.present ≡ false).
    let z : (send_plan i).written ≡ 0 = when_false _ _ _ t in
    rw z)
    (true_or_false (writes_of i.conn (pkt_of i).op i.present))

off_done : (i : SendIn) → send_answer i ≡ done → take (send_plan i).written (send_done i).out ≡ take (send_plan i).written (send_offers i)
unfolding send_done
off_done i d =
    let s = passed i d in
    let l : length (payload i) ≡ (send_plan i).len = length-take-le _ i.buf s.part in
    let k = s.killable in
    let m : length (take (send_plan i).written (payload i)) ≡ (send_plan i).written = length-take-le _ (payload i) (omega arith) in
    take_at _ (drop (send_plan i).written i.out) _ m ∙ written_off i d

pub send_counted_off : SendCountedOff
unfolding send_taken send_of
send_counted_off i left says =
    ⊎_elim
    (λ (t : is_done (send_answer i) ≡ true).
    let d = is_done_lem _ t in
    let n : send_taken i ≡ (send_plan i).written = when_done_lem _ _ _ d in
    let e : left ≡ send_done i = says ∙ when_done_lem (send_answer i) (send_done i) (send_kept i) d in
    rw (n, e) (off_done i d))
    (λ (t : is_done (send_answer i) ≡ false). let n : send_taken i ≡ 0 = when_not_done _ _ _ t in rw n)
    (true_or_false (is_done (send_answer i)))

-- ---- `recv_pkt`

pub read_within_asked : ReadWithinAsked
unfolding recv_taken recv_asked recv_reads recv_refusal
read_within_asked i =
    ⊎_elim
    (λ (t : is_done (refusal_of i) ≡ true).
    let d = is_done_lem _ t in
    let p : is_done (recv_door i.conn (length i.hdr) i.present (length i.buf) i.clock) ≡ true = ap is_done (lowest_passed _ _ d).0 ∙ done_is_done in
    rw (when_done_lem (refusal_of i) (said_by i).count 0 d, p) (asked_at_most i d))
    (λ (t : is_done (refusal_of i) ≡ false). rw (when_not_done (refusal_of i) (said_by i).count 0 t) zero-le)
    (true_or_false (is_done (refusal_of i)))

-- ---- `notify`

pub notify_offers_pieces : NotifyOffersPieces
unfolding notify_first notify_second notify_offered notify_flushes notify_door record_answer
notify_offers_pieces c writable store n =
    ⊎_elim
    (λ (t : notify_flushes c writable (length store) ≡ true).
    let d = door_passed _ _ _ _ (is_done_lem _ (both _ _ t).0) in
    let s = sound_over_ring c (length store) (not-false _ d.record_ok) in
    rw (when_true (first_piece c.tx_buf store) [] _ t, when_true (second_piece c.tx_buf store) [] _ t, when_true (held c.tx_buf store) [] _ t)
    (pieces_are_held c.tx_buf store n.ring s))
    (λ (t : notify_flushes c writable (length store) ≡ false).
    rw (when_false (first_piece c.tx_buf store) [] _ t, when_false (second_piece c.tx_buf store) [] _ t, when_false (held c.tx_buf store) [] _ t))
    (true_or_false (notify_flushes c writable (length store)))

flushed_off : (i : NotifyIn) → Numbers i.conn → notify_answer i ≡ done → due i ≡ true → take (flushed i).count (notify_done i).out ≡ take (flushed i).count (notify_offers i)
unfolding notify_done notify_answer notify_offered notify_flushes
flushed_off i n d u =
    let h : List ℕ = held i.conn.tx_buf i.store in
    let p : is_done (notify_door i.conn (length i.store)) ≡ true = ap is_done (lowest_passed _ _ d).0 ∙ done_is_done in
    let w : is_done (notify_door i.conn (length i.store)) && due i ≡ true = rw (p, u) in
    let l : length h ≡ used_of i.conn.tx_buf = held_length i.conn.tx_buf i.store in
    let k : (flushed i).count ≤ used_of i.conn.tx_buf = count_small (flush_in i) (flushed i) refl in
    let m : length (take (flushed i).count h) ≡ (flushed i).count = length-take-le _ h (omega arith) in
    ap (take (flushed i).count) (when_true _ _ _ u ∙ (flush_takes_oldest (flush_in i) (flushed i) n.ring refl).front)
    ∙ take_at _ (drop (flushed i).count i.out) _ m
    ∙ ap (take (flushed i).count) (sym (when_true h [] _ w))

pub notify_counted_off : NotifyCountedOff
unfolding notify_taken notify_of
notify_counted_off i left n says =
    ⊎_elim
    (λ (t : is_done (notify_answer i) ≡ true).
    let d = is_done_lem _ t in
    let e : left ≡ notify_done i = says ∙ when_done_lem (notify_answer i) (notify_done i) (notify_kept i) d in
    ⊎_elim
    (λ (u : due i ≡ true).
    let k : notify_taken i ≡ (flushed i).count = when_done_lem _ _ _ d ∙ when_true _ _ _ u in
    rw (k, e) (flushed_off i n d u))
    (λ (u : due i ≡ false). let k : notify_taken i ≡ 0 = when_done_lem _ _ _ d ∙ when_false _ _ _ u in rw k)
    (true_or_false (due i)))
    (λ (t : is_done (notify_answer i) ≡ false). let k : notify_taken i ≡ 0 = when_not_done _ _ _ t in rw k)
    (true_or_false (is_done (notify_answer i)))
