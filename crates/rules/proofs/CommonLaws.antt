-- What calls have in common: the promises of specs/Common but timers and last-told, which ChangeLaws and TimerLaws have. Assumes nothing.
use Prim.Native.Nat.{ℕ, ◌+◌, ◌-◌, ◌≤◌}
use mathlib.Core.Path.{◌≡◌, refl, sym, ap, subst, ◌∙◌}
use mathlib.Core.Logic.{⊎_elim}
use mathlib.Core.Bool.{Bool, true, false, not, ◌&&◌}
use mathlib.Core.List.{List, [], ◌∷◌}
use native.Mathlib.Omega.{arith}
use lib.Dec.{leb, eqb}
use lib.ListN.{length, take}
use borrow.Author.Tests.{ltb-false, eqb-true, eqb-false, eq-eqb, not-true}
use Rattle.defs.specs.Answer.{Told, told, is_done, when_done, Answer, done}
use Rattle.defs.specs.Choice.{when}
use Rattle.defs.specs.Stream.{failed, counted}
use Rattle.defs.specs.Wrapping.{wadd, wsub}
use Rattle.defs.specs.declared.stream.StreamAnswer.{StreamAnswer}
use Rattle.defs.specs.declared.stream.StreamAnswers.{StreamAnswers}
use Rattle.defs.proofs.Basics.{never, true_or_false, both, neither, and_false}
use Rattle.defs.proofs.AnswerLaws.{number_zero, is_done_lem, when_not_done, when_done_alike, done_is_zero}
use Rattle.defs.proofs.LadderLaws.{record_passed, lowest_refused, behind_two, left_alike}
use Rattle.defs.specs.Promises.{Exactly}
use Rattle.defs.proofs.MeansLaws.{not_held, same_means, and_means}
use Rattle.defs.proofs.ChoiceLaws.{when_true, when_false, when_holds}
use Rattle.defs.proofs.Promises.{told_tells_apart, credit_is_free_space}
use Rattle.packet.specs.Header.{decoded}
use Rattle.packet.specs.Uapi.{op_request, op_response, op_rst, op_shutdown, op_rw, op_credit_update, op_credit_request}
use Rattle.packet.specs.declared.hdr.VsockPacketHdr.{VsockPacketHdr}
use Rattle.txbuf.specs.Flush.{FlushLeft, flush_answer, first_piece, second_piece}
use Rattle.txbuf.specs.Record.{used_of}
use Rattle.txbuf.specs.Means.{bytes_held, uses_second, counted_now}
use Rattle.txbuf.specs.declared.record.TxBuf.{TxBuf}
use Rattle.txbuf.proofs.RecordLaws.{used_after, used_advanced}
use Rattle.txbuf.proofs.RingLaws.{written_length}
use Rattle.txbuf.proofs.Promises.{unreached_is_ignored as ring_ignores}
use Rattle.txbuf.proofs.AnswerLaws.{flush_told}
use Rattle.csm.specs.Means.{serves_data, waits_for_data}
use Rattle.csm.specs.Row.{row_of}
use Rattle.csm.specs.Said.{Turn, Said, first_due, op_due, said_now, brings, ends, fails, DataFirst}
use Rattle.csm.specs.declared.turn.RxStep.{RxStep}
use Rattle.csm.specs.declared.pending.PendingRxSet.{PendingRxSet}
use Rattle.csm.specs.declared.state.ConnState.{ConnState}
use Rattle.csm.proofs.Promises.{says_what_was_read, says_first_pending}
use Rattle.csm.proofs.FirstLaws.{reads_means, step_unread}
use Rattle.rules.specs.Record.{quiet, credit_of}
use Rattle.rules.specs.Raw.{raw_door, raw_answer, raw_done, raw_kept, raw_of}
use Rattle.rules.specs.Receive.{RecvIn, next_step, reads_of, asked_of, recv_door, recv_refusal, said_by, recv_done, recv_kept, recv_of}
use Rattle.rules.specs.Send.{SendIn, SendLeft, plan_of, writes_of, pkt_of, send_door_in, send_answer, send_done, send_kept, send_of, accepted}
use Rattle.rules.specs.Notify.{NotifyIn, NotifyLeft, notify_door, flush_due, due, flush_in, flushed, notify_answer, notify_done, notify_kept, notify_of}
use Rattle.rules.specs.Outcomes.{meets_data, writes_now, taken_now, turn_of}
use Rattle.rules.specs.Answers.{InRange, Sound, SoundOver, asked_now}
use Rattle.rules.specs.Moves.{Account, account, Numbers, send_taken, notify_taken}
use Rattle.rules.specs.Leaves.{send_took, notify_took, send_accepted, data_stays, flushes_now, SendLeaves, NotifyLeaves}
use Rattle.rules.specs.Offer.{AskedLeft, send_writes, send_offered, recv_reads, recv_asked, notify_flushes, notify_first, notify_second, raw_offered}
use Rattle.rules.specs.Common.{as_sent, as_read, OffersMean, SoundStaysSound, sent_with, read_with, notified_with, raw_with, with_second, UnreachedIsIgnored, TrueCounts, DataFitsPeer, NoRoomAsks}
use Rattle.rules.specs.Open.{Opening, ConnLeft, fresh_of, open_answer, peer_init_of, local_init_of}
use Rattle.rules.specs.declared.record.Settings.{Settings}
use Rattle.rules.specs.declared.record.VsockConnection.{VsockConnection}
use Rattle.rules.proofs.AnswerLaws.{writes_means, due_means, notify_told}
use Rattle.rules.proofs.CallLaws.{some, not_refused, header_tells, every_turn_leaves, every_poll_polls, refused_tells_nothing, send_number, plan_written, stays_out, met}
use Rattle.rules.proofs.ChangeLaws.{made_done, due_now, left, within, every_send_leaves, every_notify_leaves}
use Rattle.rules.proofs.MovesLaws.{receive_keeps, kill_keeps}
use Rattle.rules.proofs.RecordLaws.{settings_mean}
use Rattle.rules.proofs.ReceiveLaws.{asked_at_most, passed}

-- ---- a packet: without a write its plan is the same whatever the stream answers

plan_alike : (c : VsockConnection) (pkt : VsockPacketHdr) (present : Bool) (a b : StreamAnswer) → writes_of c pkt.op present ≡ false
    → plan_of c pkt present a ≡ plan_of c pkt present b
unfolding plan_of when
plan_alike c pkt present a b e = rw e

send_alike : (i : SendIn) (a : StreamAnswers) → writes_of i.conn (pkt_of i).op i.present ≡ false → send_of i ≡ send_of (sent_with i a)
unfolding send_of send_done send_kept send_answer
send_alike i a e = rw (plan_alike i.conn (pkt_of i) i.present i.answers.first a.first e)

-- ---- an event

notify_alike : (i : NotifyIn) (a : StreamAnswers) → due i ≡ false → notify_of i ≡ notify_of (notified_with i a)
unfolding notify_of notify_done notify_kept notify_answer when
notify_alike i a e = rw e

-- the second answer, where the flush does not use it
second_alike : (i : NotifyIn) (y : StreamAnswer) → uses_second i.conn.tx_buf i.answers ≡ false → notify_of i ≡ notify_of (notified_with i (with_second i.answers y))
unfolding notify_of notify_done notify_kept notify_answer
second_alike i y u =
    let j = notified_with i (with_second i.answers y) in
    let f : flushed i ≡ flushed j = ring_ignores.second (flush_in i) y (flushed i) (flushed j) refl refl u in
    let a : flush_answer (flush_in i) ≡ flush_answer (flush_in j) =
    told_tells_apart _ _ (sym (flush_told (flush_in i)) ∙ ap (λ (o : FlushLeft). o.answer) f ∙ flush_told (flush_in j)) in
    rw (a, f)

-- ---- a turn

-- a turn that does not read says no data
says_none : (i : RecvIn) → reads_of i.conn i.present ≡ false → (said_by i).count ≡ 0
says_none i e =
    let l = says_what_was_read i.conn.pending_rx i.conn.state (eqb (credit_of i.conn) 0) i.present i.answer in
    let z : when (reads_of i.conn i.present) (counted i.answer) 0 ≡ 0 = when_false _ _ _ e in
    omega arith

read_alike : (i : RecvIn) (a : StreamAnswer) (bytes : List ℕ) → reads_of i.conn i.present ≡ false → recv_of i ≡ recv_of (read_with i a bytes)
unfolding recv_of recv_done recv_kept recv_refusal
read_alike i a bytes e =
    let c = i.conn in
    let n : next_step c i.present i.answer ≡ next_step c i.present a =
    step_unread c.pending_rx c.state (eqb (credit_of c) 0) i.present i.answer a e in
    let z : (row_of (next_step c i.present a)).count ≡ 0 = ap (λ (s : RxStep). (row_of s).count) (sym n) ∙ says_none i e in
    rw (e, n, z)

-- ---- behind a door that refuses

-- a door is passed where its number is 0
open_means : (a : Answer) (t : Told) → t ≡ told a → Exactly (is_done a ≡ true) (t.number ≡ 0)
open_means a t e = rw e (done_is_zero a)

open_is : (a : Answer) (t : Told) → t ≡ told a → is_done a ≡ eqb t.number 0
open_is a t e =
    ⊎_elim
    (λ (d : is_done a ≡ true). d ∙ sym (eq-eqb t.number 0 ((open_means a t e).0 d)))
    (λ (d : is_done a ≡ false). d ∙ sym (not_held (eqb t.number 0) (λ z. (open_means a t e).1 (eqb-true _ 0 z)) (λ x. never (sym d ∙ x))))
    (true_or_false (is_done a))

shut : (a : Answer) (t : Told) → t ≡ told a → (t.number ≡ 0 → ⊥) → is_done a ≡ false
shut a t e n = not_held (is_done a) (open_means a t e).0 n

pub unreached_is_ignored : UnreachedIsIgnored
unfolding send_of send_answer send_done send_kept recv_of recv_kept recv_refusal notify_of notify_kept notify_answer raw_of raw_answer raw_done raw_kept credit_of
unreached_is_ignored = record {
  send_door = λ i a t o other says said door n.
      let d = shut (send_door_in i) t door n in
      says
      ∙ left_alike (send_door_in i) _ _ (send_done i) (send_done (sent_with i a)) (λ (x : Answer). record { answer = told x; conn = i.conn; store = i.store; out = i.out }) d
      (lowest_refused _ _ d) (lowest_refused _ _ d)
      ∙ sym said;
  recv_door = λ i a bytes t o other says said door n.
      let d = shut (recv_door i.conn (length i.hdr) i.present (length i.buf) i.clock) t door n in
      says
      ∙ left_alike _ _ _ (recv_done i) (recv_done (read_with i a bytes)) (λ (x : Answer). record { answer = told x; conn = i.conn; hdr = i.hdr; buf = i.buf }) d
      (lowest_refused _ _ d) (lowest_refused _ _ d)
      ∙ sym said;
  notify_door = λ i a t o other says said door n.
      let d = shut (notify_door i.conn (length i.store)) t door n in
      says
      ∙ left_alike _ _ _ (notify_done i) (notify_done (notified_with i a)) (λ (x : Answer). record { answer = told x; conn = i.conn; out = i.out }) d
      (lowest_refused _ _ d) (lowest_refused _ _ d)
      ∙ sym said;
  raw_door = λ i a t o other says said door n.
      let d = shut (raw_door i.conn (length i.buf)) t door n in
      says
      ∙ left_alike _ _ _ (raw_done i) (raw_done (raw_with i a)) (λ (x : Answer). record { answer = told x; count = 0; out = i.out }) d
      (behind_two _ _ _ d) (behind_two _ _ _ d)
      ∙ sym said;
  send = λ i a o other says said w. says ∙ send_alike i a (not_held _ (writes_means i).0 w) ∙ sym said;
  send_second = λ i y o other says said. says ∙ sym said;
  recv = λ i a bytes o other says said r. says ∙ read_alike i a bytes (not_held _ (reads_means (turn_of i)).0 r) ∙ sym said;
  notify = λ i a o other says said w. says ∙ notify_alike i a (not_held _ (due_means i).0 w) ∙ sym said;
  notify_second = λ i y o other says said u. says ∙ second_alike i y u ∙ sym said;
  raw_second = λ i y o other says said. says ∙ sym said;
}

-- ---- the sender's duty

-- credit is the free space by true counts
credit_free : (c : VsockConnection) (sent fwd : ℕ) → TrueCounts c sent fwd → credit_of c ≡ c.peer_buf_alloc - (sent - fwd)
unfolding credit_of
credit_free c sent fwd t = rw (t.count, t.heard) (credit_is_free_space c.peer_buf_alloc sent fwd t.forwarded t.outstanding)

pub data_fits_peer : DataFitsPeer
unfolding credit_of
data_fits_peer i o sent fwd says k t =
    let d = not_refused i o says k in
    let p = passed i d in
    let s : (said_now (turn_of i)).len ≡ (said_by i).count = ap (λ (s : Said). s.len) (sym (says_first_pending (turn_of i))) in
    let a = asked_at_most i d in
    let credit = credit_free i.conn sent fwd t in
    let w : when (reads_of i.conn i.present) (asked_of i.conn (length i.buf)) 0 ≤ credit_of i.conn =
    when_holds (λ (x : ℕ). x ≤ credit_of i.conn) (reads_of i.conn i.present) _ _ (λ t. omega arith) (λ t. omega arith) in
    record {
      free = omega arith;
      supplied = omega (arith, p.supplied);
      fits = omega (arith, p.in_buffer);
      filled = (every_turn_leaves i o says k).buf;
      told = λ v. ap (λ (x : VsockPacketHdr). x.len) (header_tells.said i o says k v);
    }

-- without room credit is 0
no_room : (c : VsockConnection) (sent fwd : ℕ) → TrueCounts c sent fwd → c.peer_buf_alloc ≤ sent - fwd → credit_of c ≡ 0
no_room c sent fwd t l = let e = credit_free c sent fwd t in omega arith

-- the rows of data stand behind the credit request
silent_by : (r s q w serves none absent bytes end fail update : Bool) → none ≡ true
    → first_due ((r, op_rst) ∷ (s, op_response) ∷ (q, op_request) ∷ (w && not serves, op_rst) ∷ (w && none, op_credit_request) ∷ (w && absent, 0) ∷ (w && bytes, op_rw)
    ∷ (w && end, op_shutdown) ∷ (w && fail, op_rst) ∷ (update, op_credit_update) ∷ []) ≡ op_rw → ⊥
unfolding when
silent_by true s q w serves none absent bytes end fail update n e = let z : ◌≡◌ {A = ℕ} 3 5 = e in omega arith
silent_by false true q w serves none absent bytes end fail update n e = let z : ◌≡◌ {A = ℕ} 2 5 = e in omega arith
silent_by false false true w serves none absent bytes end fail update n e = let z : ◌≡◌ {A = ℕ} 1 5 = e in omega arith
silent_by false false false true false none absent bytes end fail update n e = let z : ◌≡◌ {A = ℕ} 3 5 = e in omega arith
silent_by false false false true true true absent bytes end fail update n e = let z : ◌≡◌ {A = ℕ} 7 5 = e in omega arith
silent_by false false false true true false absent bytes end fail update n e = never n
silent_by false false false false serves none absent bytes end fail true n e = let z : ◌≡◌ {A = ℕ} 6 5 = e in omega arith
silent_by false false false false serves none absent bytes end fail false n e = let z : ◌≡◌ {A = ℕ} 0 5 = e in omega arith

-- without credit no turn says data
says_no_data : (t : Turn) → t.no_credit ≡ true → op_due t ≡ op_rw → ⊥
says_no_data t =
    let p = t.pending in
    silent_by p.rst p.response p.request p.rw (serves_data t.state) t.no_credit (not t.present) (brings t.answer) (ends t.answer)
    (fails t.answer) p.credit_update

-- data that is due becomes a request for credit
says_request : (t : Turn) → t.no_credit ≡ true → DataFirst t → op_due t ≡ op_credit_request
unfolding when
says_request t n d = rw (d.0, d.1, d.2, d.3, d.4, n)

pub no_room_asks : NoRoomAsks
unfolding credit_of
no_room_asks = record {
  recv = λ i o sent fwd says k v t l.
      let n = eq-eqb _ 0 (no_room i.conn sent fwd t l) in
      let h : (decoded o.hdr).op ≡ op_due (turn_of i) = ap (λ (x : VsockPacketHdr). x.op) (header_tells.said i o says k v) in
      record { silent = λ e. says_no_data (turn_of i) n (sym h ∙ e); asks = λ d. h ∙ says_request (turn_of i) n d };
  polled = λ c o sent fwd says t l.
      ⊎_elim
      (λ (e : eqb o.answer.number 0 ≡ true).
      (every_poll_polls c o says (eqb-true _ 0 e)).readable ∙ rw (no_room c sent fwd t l) (and_false (waits_for_data c.state)))
      (λ (e : eqb o.answer.number 0 ≡ false). (refused_tells_nothing.polled c o says (eqb-false _ 0 e)).0)
      (true_or_false (eqb o.answer.number 0));
}

-- ---- soundness

-- a record with the same settings and a ring of the same size that holds no more than it
sound_again : (c d : VsockConnection) → d.settings ≡ c.settings → d.tx_buf.size ≡ c.tx_buf.size → bytes_held d.tx_buf ≤ c.tx_buf.size → Sound c → Sound d
sound_again c d e f l s = record { settings = rw (e, f) s.settings; held = rw f l }

-- one with the same account
sound_kept : (c d : VsockConnection) → account d ≡ account c → Sound c → Sound d
unfolding account
sound_kept c d e s =
    let r : d.tx_buf ≡ c.tx_buf = ap (λ (a : Account). a.ring) e in
    sound_again c d (ap (λ (a : Account). a.settings) e) (ap (λ (b : TxBuf). b.size) r) (rw r s.held) s

sound_opened : (size : ℕ) (g : Settings) → open_answer size g ≡ done → InRange size g
unfolding open_answer
sound_opened size g d = (settings_mean size g).0 (record_passed _ _ refl d)

-- a ring that holds no more than its size, of the same size
abbrev Within : TxBuf → TxBuf → Type 0
Within b r = (r.size ≡ b.size) × (bytes_held r ≤ b.size)

sound_sent : (i : SendIn) (o : SendLeft) → Numbers i.conn → SendLeaves i o → SoundOver i.conn (length i.store) → SoundOver o.conn (length o.store)
sound_sent i o w v s =
    let b : TxBuf = i.conn.tx_buf in
    let k : ℕ = (decoded i.hdr).len - taken_now i in
    let r : Within b o.conn.tx_buf =
    subst (Within b) (sym v.ring)
    (when_holds (Within b) (data_stays i) _ _
    (λ t.
    let f : used_of b + k ≤ b.size = ltb-false b.size _ (neither (writes_now i && failed i.answers.first) _ (not-true _ (both (meets_data i) _ t).1)).1 in
    let m = s.0.settings.most in
    let u : wsub (wadd b.head k) b.tail ≡ wsub b.head b.tail + k = used_after b.head b.tail k w.ring.head w.ring.tail (omega arith) in
    (refl, omega arith))
    (λ t. (refl, s.0.held))) in
    let l : length o.store ≡ length i.store =
    subst (λ (x : List ℕ). length x ≡ length i.store) (sym v.store)
    (when_holds (λ (x : List ℕ). length x ≡ length i.store) (data_stays i) _ _ (λ t. written_length b.size _ i.store b.head) (λ t. refl)) in
    (sound_again i.conn o.conn v.self.settings r.0 r.1 s.0, l ∙ s.1 ∙ sym r.0)

sound_notified : (i : NotifyIn) (o : NotifyLeft) → Numbers i.conn → notify_answer i ≡ done → NotifyLeaves i o → SoundOver i.conn (length i.store) → SoundOver o.conn (length i.store)
sound_notified i o w d v s =
    let b : TxBuf = i.conn.tx_buf in
    let n : ℕ = counted_now b i.answers in
    let r : Within b o.conn.tx_buf =
    subst (Within b) (sym v.ring)
    (when_holds (Within b) (flushes_now i) _ _
    (λ t.
    let l = within i d t in
    let h = s.0.held in
    let u : wsub b.head (wadd b.tail n) ≡ wsub b.head b.tail - n = used_advanced b.head b.tail n w.ring.head w.ring.tail l in
    (refl, omega arith))
    (λ t. (refl, s.0.held))) in
    (sound_again i.conn o.conn v.self.settings r.0 r.1 s.0, s.1 ∙ sym r.0)

fresh_sound : (o : Opening) (state : ConnState) (pending : PendingRxSet) → open_answer o.size o.settings ≡ done → Sound (fresh_of o state pending)
unfolding fresh_of
fresh_sound o state pending d = record { settings = sound_opened o.size o.settings d; held = omega arith }

made_sound : (a : Answer) (x y : VsockConnection) (left : ConnLeft) → left ≡ record { answer = told a; conn = when_done a x y } → left.answer.number ≡ 0
    → (a ≡ done → Sound x) → Sound left.conn
made_sound a x y left says n f =
    subst Sound (sym (made_done a x y left says n)) (f (number_zero a (ap (λ (x : ConnLeft). x.answer.number) (sym says) ∙ n)))

pub sound_stays_sound : SoundStaysSound
unfolding peer_init_of local_init_of send_of send_kept notify_of notify_kept
sound_stays_sound = record {
  peer = λ o left says n. made_sound (open_answer o.size o.settings) _ _ left says n (fresh_sound _ _ _);
  local = λ o left says n. made_sound (open_answer o.size o.settings) _ _ left says n (fresh_sound _ _ _);
  send = λ i o w says s.
      ⊎_elim
      (λ (t : is_done (send_answer i) ≡ true).
      let n : o.answer.number ≡ 0 = ap (λ (x : Told). x.number) (send_number i o says) ∙ ap (λ (a : Answer). (told a).number) (is_done_lem _ t) in
      sound_sent i o w (every_send_leaves i o says n) s)
      (λ (t : is_done (send_answer i) ≡ false). subst (λ (x : SendLeft). SoundOver x.conn (length x.store)) (sym (says ∙ when_not_done (send_answer i) _ _ t)) s)
      (true_or_false (is_done (send_answer i)));
  recv = λ i o says s. sound_kept i.conn o.conn (receive_keeps i o says) s;
  notify = λ i o w says s.
      ⊎_elim
      (λ (t : is_done (notify_answer i) ≡ true).
      let d = is_done_lem _ t in
      let n : o.answer.number ≡ 0 = ap (λ (x : NotifyLeft). x.answer.number) says ∙ ap (λ (x : Told). x.number) (notify_told i) ∙ ap (λ (a : Answer). (told a).number) d in
      sound_notified i o w d (every_notify_leaves i o w says n) s)
      (λ (t : is_done (notify_answer i) ≡ false). subst (λ (x : NotifyLeft). SoundOver x.conn (length i.store)) (sym (says ∙ when_not_done (notify_answer i) _ _ t)) s)
      (true_or_false (is_done (notify_answer i)));
  kill = λ c o says s. sound_kept c o.conn (kill_keeps c o says) s;
}

-- ---- what a call took and accepted, in 01's words

-- by the answer or by its number, where what it left is told
by_number : {A : Type 0} (a : Answer) (t : Told) (x y z : A) → t ≡ told a → (a ≡ done → x ≡ y) → when (eqb t.number 0) x z ≡ when_done a y z
unfolding when_done
by_number a t x y z e f = rw (← open_is a t e) (when_done_alike a x y z f)

pub took_sent : (i : SendIn) (o : SendLeft) → o ≡ send_of i → send_took i o ≡ send_taken i
unfolding send_taken plan_of
took_sent i o says =
    by_number (send_answer i) o.answer _ _ 0 (send_number i o says)
    (λ d.
    ⊎_elim
    (λ (m : meets_data i ≡ true). when_true _ _ _ m ∙ sym (plan_written i m))
    (λ (m : meets_data i ≡ false). when_false _ _ _ m ∙ sym (when_false _ _ _ (ap (λ (b : Bool). b && quiet i.conn.tx_buf) (stays_out i m))))
    (true_or_false (meets_data i)))

pub accepted_sent : (i : SendIn) (o : SendLeft) → o ≡ send_of i → send_accepted i o ≡ accepted i
unfolding accepted
accepted_sent i o says = by_number (send_answer i) o.answer _ _ [] (send_number i o says) (λ d. sym (met i))

pub took_notified : (i : NotifyIn) (o : NotifyLeft) → o ≡ notify_of i → notify_took i o ≡ notify_taken i
unfolding notify_taken
took_notified i o says =
    by_number (notify_answer i) o.answer _ _ 0 (ap (λ (x : NotifyLeft). x.answer) says ∙ notify_told i)
    (λ d.
    ⊎_elim
    (λ (f : flushes_now i ≡ true). when_true _ _ _ f ∙ sym (left i d f).count ∙ sym (when_true _ _ _ (due_now i ∙ f)))
    (λ (f : flushes_now i ≡ false). when_false _ _ _ f ∙ sym (when_false _ _ _ (due_now i ∙ f)))
    (true_or_false (flushes_now i)))

-- ---- what a call would offer or ask for

due_is : (c : VsockConnection) (writable : Bool) → flush_due c writable ≡ writable && leb 1 (used_of c.tx_buf)
unfolding quiet
due_is c writable = ap (λ (b : Bool). writable && b) (some (used_of c.tx_buf))

flushes_is : (c : VsockConnection) (writable : Bool) (storage : ℕ) (t : Told) → t ≡ told (notify_door c storage)
    → notify_flushes c writable storage ≡ eqb t.number 0 && (writable && leb 1 (used_of c.tx_buf))
unfolding notify_flushes
flushes_is c writable storage t door =
    ap (λ (b : Bool). b && flush_due c writable) (open_is _ t door) ∙ ap (λ (b : Bool). eqb t.number 0 && b) (due_is c writable)

pub offers_mean : OffersMean
unfolding send_writes send_offered recv_asked recv_reads notify_first notify_second raw_offered credit_of
offers_mean = record {
  writes = λ g t r door says. same_means says (and_means (open_means _ t door) (writes_means (as_sent g)));
  offers = λ g w r writes says. says ∙ ap (λ (b : Bool). when b (take (decoded g.hdr).len g.buf) []) (sym writes);
  asks = λ g o says.
      same_means (ap (λ (x : AskedLeft). x.reads) says) (and_means (open_means _ o.answer (ap (λ (x : AskedLeft). x.answer) says)) (reads_means (turn_of (as_read g))));
  asked = λ g o says. ap (λ (x : AskedLeft). x.count) says ∙ ap (λ (b : Bool). when b (asked_now (as_read g)) 0) (sym (ap (λ (x : AskedLeft). x.reads) says));
  first = λ c writable store t r door says. says ∙ ap (λ (b : Bool). when b (first_piece c.tx_buf store) []) (flushes_is c writable (length store) t door);
  second = λ c writable store t r door says. says ∙ ap (λ (b : Bool). when b (second_piece c.tx_buf store) []) (flushes_is c writable (length store) t door);
  raw = λ c buf t r door says. says ∙ ap (λ (b : Bool). when b buf []) (open_is _ t door);
}
