-- Each call of a connection answers by 01's rows. Assumes nothing.
use Prim.Native.Nat.{ℕ, ◌<◌}
use mathlib.Core.Path.{◌≡◌, refl, sym, ap, ◌∙◌}
use mathlib.Core.Logic.{◌⊎◌}
use mathlib.Core.Bool.{Bool, true, false, not, ◌&&◌, ◌||◌}
use mathlib.Core.List.{List, [], ◌∷◌}
use native.Mathlib.Omega.{arith}
use lib.Dec.{ltb, eqb}
use lib.ListN.{length}
use borrow.Author.Tests.{le-ltb}
use Rattle.defs.specs.Choice.{when}
use Rattle.defs.specs.Answer.{Told, told, is_done, when_done, Answer, done}
use Rattle.defs.specs.Ladder.{door_of, late_of, lowest_of, record_answer}
use Rattle.defs.specs.Look.{FlagLeft, flag_of}
use Rattle.defs.specs.Limits.{is_header_length, is_clock, is_packet_length}
use Rattle.defs.specs.Promises.{Exactly, AnswersInTurn}
use Rattle.defs.specs.Stream.{counted, stopped_by, stops}
use Rattle.defs.specs.declared.stream.StreamAnswer.{StreamAnswer}
use Rattle.defs.specs.declared.stream.StreamAnswer.TheVariants.{Count, WouldBlock, Failed}
use Rattle.defs.proofs.AnswerLaws.{answer_told}
use Rattle.defs.proofs.ChoiceLaws.{ap_when}
use Rattle.defs.proofs.LimitLaws.{limits_mean, packet_over, clock_over}
use Rattle.defs.proofs.MeansLaws.{as_is, some_means, same_means, in_words, not_means, and_means, or_means, below_means, equal_means}
use Rattle.defs.proofs.LadderLaws.{first_in_turn, by_turn, by_record, by_clock, row, ladder_then, lowest_end, stop_number}
use Rattle.packet.specs.Header.{decoded}
use Rattle.packet.specs.Uapi.{op_rw}
use Rattle.txbuf.specs.Record.{used_of}
use Rattle.txbuf.specs.Flush.{ends_by, flush_answer, flush_count, flush_over}
use Rattle.txbuf.specs.Means.{counted_now}
use Rattle.txbuf.proofs.AnswerLaws.{count_is, over_is, too_much, too_much_means}
use Rattle.csm.specs.Said.{Reads}
use Rattle.csm.proofs.Promises.{every_state_means}
use Rattle.csm.proofs.FirstLaws.{reads_means, nothing_means, buffer_means}
use Rattle.csm.proofs.TurnLaws.{has_nothing, lacks_buffer, turn_number}
use Rattle.rules.specs.Record.{sound_conn, sound_over, quiet, credit_of}
use Rattle.rules.specs.Open.{ConnLeft, open_answer, peer_init_of, local_init_of}
use Rattle.rules.specs.Look.{ExpiryLeft, StateLeft, EvSetLeft, expiry_of, state_of, ev_set_of, kill_of}
use Rattle.rules.specs.Send.{SendIn, SendLeft, goes_of, writes_of, plan_of, pkt_of, send_plan, too_long, send_door_of, send_door, send_late, send_answer, send_done, send_kept, send_of}
use Rattle.rules.specs.Receive.{RecvIn, RecvLeft, reads_of, asked_of, recv_door, recv_refusal, refusal_of, said_by, recv_done, recv_kept, recv_of}
use Rattle.rules.specs.Notify.{NotifyIn, NotifyLeft, due, flush_in, absorbed, notify_door, notify_answer, notify_done, notify_kept, notify_of}
use Rattle.rules.specs.Raw.{RawIn, RawLeft, raw_count, raw_door, raw_answer, raw_done, raw_kept, raw_of}
use Rattle.rules.specs.Outcomes.{turn_of}
use Rattle.rules.specs.Offer.{RecvGiven, RecvDoorSays, AskedLeft, recv_asked}
use Rattle.rules.specs.Answers.{OpenAnswers, LookAnswers, PacketTooLong, Writes, SendAnswers, asked_now, RecvAnswers, Flushes, NotifyAnswers, RawAnswers, recv_door_rows, DoorAnswers}
use Rattle.rules.proofs.RecordLaws.{settings_mean, sound_means, sound_over_ring}

-- ---- a packet

send_told : (i : SendIn) → (send_of i).answer ≡ told (send_answer i)
unfolding send_of send_done send_kept
send_told i = answer_told (λ (o : SendLeft). o.answer) (send_answer i) (send_done i) (send_kept i) refl refl

too_long_means : (present : Bool) (buf : ℕ) (hdr : List ℕ) → Exactly (present && too_long (decoded hdr) buf ≡ true) (PacketTooLong present buf hdr)
too_long_means present buf hdr =
    and_means (as_is present) (or_means (packet_over buf) (and_means (equal_means (decoded hdr).op op_rw) (below_means buf (decoded hdr).len)))

pub writes_means : (i : SendIn) → Exactly (writes_of i.conn (pkt_of i).op i.present ≡ true) (Writes i)
unfolding goes_of quiet
writes_means i =
    in_words
    (and_means (and_means (and_means (same_means (every_state_means i.conn.state).takes (as_is _)) (as_is i.present)) (equal_means (pkt_of i).op op_rw)) (equal_means (used_of i.conn.tx_buf) 0))
    (λ p. (p.0.0.0, p.0.0.1, p.0.1, p.1), λ q. (((q.0, q.1), q.2), q.3))

-- a count that is over something, of a write that is made
over_written : (writes : Bool) (limit n : ℕ) → ltb limit (when writes n 0) ≡ writes && ltb limit n
unfolding when
over_written true limit n = refl
over_written false limit n = le-ltb limit 0 (omega arith)

over_offered : (goes empty : Bool) (len n : ℕ) → ltb (when goes len 0) (when (goes && empty) n 0) ≡ goes && empty && ltb len n
unfolding when
over_offered true empty len n = over_written empty len n
over_offered false empty len n = le-ltb 0 0 (omega arith)

offered_means : (i : SendIn) → Exactly (ltb (send_plan i).len (send_plan i).written ≡ true) (Writes i × ((decoded i.hdr).len < counted i.answers.first))
unfolding plan_of
offered_means i =
    same_means (over_offered (goes_of i.conn (pkt_of i).op i.present) (quiet i.conn.tx_buf) (pkt_of i).len (counted i.answers.first))
    (and_means (writes_means i) (below_means (pkt_of i).len (counted i.answers.first)))

room_means : (i : SendIn) → Exactly (ltb (length i.out) (send_plan i).written ≡ true) (Writes i × (length i.out < counted i.answers.first))
unfolding plan_of
room_means i =
    same_means (over_written (writes_of i.conn (pkt_of i).op i.present) (length i.out) (counted i.answers.first))
    (and_means (writes_means i) (below_means (length i.out) (counted i.answers.first)))

pub send_answers : SendAnswers
unfolding send_answer send_door send_door_of send_late
send_answers i left says =
    by_turn left.answer
    (row 1 (not_means (sound_means.over i.conn (length i.store))) ∷ row 2 (not_means (limits_mean.header (length i.hdr))) ∷ row 3 (clock_over i.clock)
    ∷ row 4 (too_long_means i.present (length i.buf) i.hdr) ∷ row 5 (offered_means i) ∷ row 6 (room_means i) ∷ [])
    (ap (λ (o : SendLeft). o.answer.number) says ∙ ap (λ (t : Told). t.number) (send_told i) ∙ ap (λ (a : Answer). (told a).number) (sym (lowest_end _))
    ∙ ladder_then (not (sound_over i.conn (length i.store))) (not (is_header_length (length i.hdr))) (not (is_clock i.clock))
    (i.present && too_long (pkt_of i) (length i.buf)) (ltb (send_plan i).len (send_plan i).written) (ltb (length i.out) (send_plan i).written) done [] refl)

-- ---- a turn to speak

-- the refusal, or else the row's answer
recv_told : (i : RecvIn) → (recv_of i).answer ≡ told (lowest_of (refusal_of i) (said_by i).answer)
unfolding recv_of recv_done recv_kept lowest_of when_done
recv_told i =
    ap_when (λ (o : RecvLeft). o.answer) (is_done (refusal_of i)) (recv_done i) (recv_kept i) ∙ sym (ap_when told (is_done (refusal_of i)) (said_by i).answer (refusal_of i))

read_means : (i : RecvIn)
    → Exactly (reads_of i.conn i.present && (ltb (asked_of i.conn (length i.buf)) (counted i.answer) || ltb (length i.read) (counted i.answer)) ≡ true)
    (Reads (turn_of i) × ((asked_now i < counted i.answer) ⊎ (length i.read < counted i.answer)))
unfolding credit_of
read_means i = and_means (reads_means (turn_of i)) (or_means (below_means (asked_of i.conn (length i.buf)) (counted i.answer)) (below_means (length i.read) (counted i.answer)))

pub recv_answers : RecvAnswers
unfolding recv_refusal recv_door credit_of when
recv_answers i left says =
    by_turn left.answer
    (row 1 (not_means (sound_means.alone i.conn)) ∷ row 2 (not_means (limits_mean.header (length i.hdr))) ∷ row 3 (clock_over i.clock)
    ∷ row 4 (and_means (as_is i.present) (packet_over (length i.buf))) ∷ row 5 (read_means i) ∷ row 7 (nothing_means (turn_of i)) ∷ row 8 (buffer_means (turn_of i)) ∷ [])
    (ap (λ (o : RecvLeft). o.answer.number) says ∙ ap (λ (t : Told). t.number) (recv_told i)
    ∙ ladder_then (not (sound_conn i.conn)) (not (is_header_length (length i.hdr))) (not (is_clock i.clock)) (i.present && not (is_packet_length (length i.buf)))
    (reads_of i.conn i.present && (ltb (asked_of i.conn (length i.buf)) (counted i.answer) || ltb (length i.read) (counted i.answer))) false
    (said_by i).answer
    ((7, has_nothing i.conn.pending_rx i.conn.state (eqb (credit_of i.conn) 0) i.present i.answer)
    ∷ (8, lacks_buffer i.conn.pending_rx i.conn.state (eqb (credit_of i.conn) 0) i.present) ∷ [])
    (turn_number i.conn.pending_rx i.conn.state (eqb (credit_of i.conn) 0) i.present i.answer))

-- ---- an event

-- of a flush of a sound ring only 5 and 6 are left
absorbed_late : (a m none : Bool) (s : StreamAnswer) → absorbed (lowest_of (lowest_of (record_answer true) (late_of a m)) (when none done (stopped_by s))) ≡ late_of a m
unfolding absorbed lowest_of record_answer door_of late_of when_done when
absorbed_late true m none s = refl
absorbed_late false true none s = refl
absorbed_late false false true s = refl
absorbed_late false false false (Count n) = refl
absorbed_late false false false WouldBlock = refl
absorbed_late false false false Failed = refl

flush_late : (i : NotifyIn) → sound_over i.conn (length i.store) ≡ true
    → absorbed (flush_answer (flush_in i)) ≡ late_of (flush_over (flush_in i)) (ltb (length i.out) (flush_count (flush_in i)))
unfolding flush_answer ends_by
flush_late i e = rw (sound_over_ring i.conn (length i.store) e) (absorbed_late (flush_over (flush_in i)) (ltb (length i.out) (flush_count (flush_in i))) _ i.answers.first)

event_number : (sound due over room : Bool) (f : Answer) → (sound ≡ true → f ≡ late_of over room)
    → (told (lowest_of (record_answer sound) (when due f done))).number ≡ first_in_turn ((1, not sound) ∷ (5, due && over) ∷ (6, due && room) ∷ [])
unfolding lowest_of record_answer door_of late_of when_done when
event_number false due over room f e = refl
event_number true false over room f e = refl
event_number true true over room f e = ap (λ (a : Answer). (told a).number) (e refl) ∙ late_number over room
  where
    late_number : (a m : Bool) → (told (late_of a m)).number ≡ first_in_turn ((5, a) ∷ (6, m) ∷ [])
    late_number true m = refl
    late_number false true = refl
    late_number false false = refl

pub notify_told : (i : NotifyIn) → (notify_of i).answer ≡ told (notify_answer i)
unfolding notify_of notify_done notify_kept
notify_told i = answer_told (λ (o : NotifyLeft). o.answer) (notify_answer i) (notify_done i) (notify_kept i) refl refl

pub due_means : (i : NotifyIn) → Exactly (due i ≡ true) (Flushes i)
unfolding quiet
due_means i = and_means (as_is i.writable) (some_means (used_of i.conn.tx_buf))

-- what a flush is judged by, in the ring's words: of a sound ring
flush_late_words : (i : NotifyIn) → sound_over i.conn (length i.store) ≡ true
    → absorbed (flush_answer (flush_in i)) ≡ late_of (too_much i.conn.tx_buf i.answers) (ltb (length i.out) (counted_now i.conn.tx_buf i.answers))
flush_late_words i s =
    flush_late i s ∙ ap (λ (b : Bool). late_of b (ltb (length i.out) (flush_count (flush_in i)))) (over_is (flush_in i) (sound_over_ring i.conn (length i.store) s))
    ∙ ap (λ (n : ℕ). late_of (too_much i.conn.tx_buf i.answers) (ltb (length i.out) n)) (count_is (flush_in i))

pub notify_answers : NotifyAnswers
unfolding notify_answer notify_door
notify_answers i left says =
    let b = i.conn.tx_buf in
    by_turn left.answer
    (row 1 (not_means (sound_means.over i.conn (length i.store))) ∷ row 5 (and_means (due_means i) (too_much_means b i.answers))
    ∷ row 6 (and_means (due_means i) (below_means (length i.out) (counted_now b i.answers))) ∷ [])
    (ap (λ (o : NotifyLeft). o.answer.number) says ∙ ap (λ (t : Told). t.number) (notify_told i)
    ∙ event_number (sound_over i.conn (length i.store)) (due i) (too_much b i.answers) (ltb (length i.out) (counted_now b i.answers)) _ (flush_late_words i))

-- ---- the raw send

raw_told : (i : RawIn) → (raw_of i).answer ≡ told (raw_answer i)
unfolding raw_of raw_done raw_kept
raw_told i = answer_told (λ (o : RawLeft). o.answer) (raw_answer i) (raw_done i) (raw_kept i) refl refl

pub raw_answers : RawAnswers
unfolding raw_answer raw_door when
raw_answers i left says =
    by_turn left.answer
    (row 1 (not_means (sound_means.alone i.conn)) ∷ row 4 (packet_over (length i.buf)) ∷ row 5 (below_means (length i.buf) (raw_count i))
    ∷ row 6 (below_means (length i.out) (raw_count i)) ∷ row 10 (as_is (stops i.answers.first)) ∷ [])
    (ap (λ (o : RawLeft). o.answer.number) says ∙ ap (λ (t : Told). t.number) (raw_told i)
    ∙ ladder_then (not (sound_conn i.conn)) false false (not (is_packet_length (length i.buf))) (ltb (length i.buf) (raw_count i)) (ltb (length i.out) (raw_count i))
    (stopped_by i.answers.first) ((10, stops i.answers.first) ∷ []) (stop_number i.answers.first))

-- ---- openings, looks and doors

pub open_answers : OpenAnswers
unfolding peer_init_of local_init_of open_answer
open_answers = record {
  peer = λ o left says. by_record _ _ _ (ap (λ (x : ConnLeft). x.answer) says) (settings_mean o.size o.settings);
  local = λ o left says. by_record _ _ _ (ap (λ (x : ConnLeft). x.answer) says) (settings_mean o.size o.settings);
}

pub look_answers : LookAnswers
unfolding flag_of expiry_of state_of ev_set_of kill_of
look_answers = record {
  pending = λ c left says. by_record _ _ _ (ap (λ (x : FlagLeft). x.answer) says) (sound_means.alone c);
  will_expire = λ i left says. by_clock _ _ i.clock _ (ap (λ (x : FlagLeft). x.answer) says) (sound_means.alone i.conn);
  has_expired = λ i left says. by_clock _ _ i.clock _ (ap (λ (x : FlagLeft). x.answer) says) (sound_means.alone i.conn);
  expiry = λ c left says. by_record _ _ _ (ap (λ (x : ExpiryLeft). x.answer) says) (sound_means.alone c);
  state = λ c left says. by_record _ _ _ (ap (λ (x : StateLeft). x.answer) says) (sound_means.alone c);
  polled = λ c left says. by_record _ _ _ (ap (λ (x : EvSetLeft). x.answer) says) (sound_means.alone c);
  kill = λ c left says. by_record _ _ _ (ap (λ (x : ConnLeft). x.answer) says) (sound_means.alone c);
}

-- a door is a ladder that no late rung follows
door_number : (r h c l : Bool) → (told (door_of r h c l)).number ≡ first_in_turn ((1, r) ∷ (2, h) ∷ (3, c) ∷ (4, l) ∷ [])
unfolding door_of when
door_number true h c l = refl
door_number false true c l = refl
door_number false false true l = refl
door_number false false false true = refl
door_number false false false false = refl

recv_door_answers : (g : RecvGiven) (t : Told) → RecvDoorSays g t → AnswersInTurn t (recv_door_rows g)
unfolding recv_door
recv_door_answers g t says =
    by_turn t
    (row 1 (not_means (sound_means.alone g.conn)) ∷ row 2 (not_means (limits_mean.header (length g.hdr))) ∷ row 3 (clock_over g.clock)
    ∷ row 4 (and_means (as_is g.present) (packet_over (length g.buf))) ∷ [])
    (ap (λ (x : Told). x.number) says ∙ door_number _ _ _ _)

pub door_answers : DoorAnswers
unfolding send_door send_door_of notify_door raw_door recv_asked when
door_answers = record {
  send = λ g t says.
      by_turn t
      (row 1 (not_means (sound_means.over g.conn (length g.store))) ∷ row 2 (not_means (limits_mean.header (length g.hdr))) ∷ row 3 (clock_over g.clock)
      ∷ row 4 (too_long_means g.present (length g.buf) g.hdr) ∷ [])
      (ap (λ (x : Told). x.number) says ∙ door_number _ _ _ _);
  recv = recv_door_answers;
  asked = λ g o says. recv_door_answers g o.answer (ap (λ (x : AskedLeft). x.answer) says);
  notify = λ c store t says. by_record _ _ _ says (sound_means.over c (length store));
  raw = λ c buf t says.
      by_turn t (row 1 (not_means (sound_means.alone c)) ∷ row 4 (packet_over (length buf)) ∷ []) (ap (λ (x : Told). x.number) says ∙ door_number _ false false _);
}
