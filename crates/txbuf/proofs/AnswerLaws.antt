-- Each call on a ring answers by 01's rows, and changes nothing where it is not done. Assumes nothing.
use Rattle.std.specs.Prelude.{Err}
use Prim.Native.Nat.{ℕ, ◌+◌, ◌-◌, ◌<◌, ◌≤◌}
use mathlib.Core.Path.{◌≡◌, refl, sym, ap, ◌∙◌}
use mathlib.Core.Logic.{⊎_elim}
use mathlib.Core.Bool.{Bool, true, false, not, ◌&&◌, ◌||◌}
use mathlib.Core.List.{[], ◌∷◌}
use native.Mathlib.Omega.{arith}
use native.Mathlib.Nat.{add-zero}
use lib.Dec.{ltb, eqb}
use lib.ListN.{length}
use borrow.Author.Tests.{lt-ltb, le-ltb, ltb-false, eq-eqb, ne_eqb, not-false}
use Rattle.defs.specs.Choice.{when}
use Rattle.defs.specs.Answer.{Told, Answer, told, done, is_done, when_done}
use Rattle.defs.specs.Ladder.{door_of, late_of, lowest_of, record_answer}
use Rattle.defs.specs.Limits.{max_packet, is_ring_size, is_packet_length}
use Rattle.defs.specs.Look.{LenLeft, len_of, FlagLeft, flag_of}
use Rattle.defs.specs.Promises.{Exactly, AnswersInTurn, Refuses}
use Rattle.defs.specs.Stream.{counted, failed, stopped_by, stops}
use Rattle.defs.specs.declared.answer.Refusal.TheVariants.{TxBufFull}
use Rattle.defs.specs.declared.stream.StreamAnswer.{StreamAnswer}
use Rattle.defs.specs.declared.stream.StreamAnswer.TheVariants.{Count, WouldBlock, Failed}
use Rattle.defs.specs.declared.stream.StreamAnswers.{StreamAnswers}
use Rattle.defs.proofs.Basics.{lt_or_ge, true_or_false, and_false}
use Rattle.defs.proofs.ChoiceLaws.{when_same}
use Rattle.defs.proofs.AnswerLaws.{is_done_lem, when_not_done, answer_told, left_where}
use Rattle.defs.proofs.LimitLaws.{ring_sizes, packet_length, packet_over}
use Rattle.defs.proofs.MeansLaws.{as_is, not_means, and_means, or_means, below_means}
use Rattle.defs.proofs.LadderLaws.{first_in_turn, by_turn, row, exchange, ladder_then, lowest_end, stop_number, record_number, lowest_passed, door_passed, late_passed}
use Rattle.txbuf.specs.Record.{used_of, sound_record, sound_of, NewLeft, new_of, look_answer}
use Rattle.txbuf.specs.Push.{PushIn, PushLeft, push_answer, push_answer_of, push_done, push_kept, push_of, NumberedLeft, numbered}
use Rattle.txbuf.specs.Flush.{piece_len, taken_by, over_by, FlushIn, FlushLeft, ends_by, flush_answer, flush_count, flush_over, flush_done, flush_kept, flush_of}
use Rattle.txbuf.specs.Means.{Sound, first_length, second_length, uses_first, uses_second, counted_now, CountsTooMuch}
use Rattle.txbuf.specs.Answers.{push_rows, PushAnswers, NumberedAnswers, FlushAnswers, NewAnswers, LookAnswers}
use Rattle.txbuf.specs.Outcomes.{RefusalsChangeNothing, NineAndTenChangeNothing, NumberedIsPush}
use Rattle.txbuf.specs.declared.record.TxBuf.{TxBuf}
use Rattle.txbuf.proofs.RecordLaws.{sound_means, Fit, sound_says, next_length}

-- ---- push

full_number : (full : Bool) → (told (when full (Err TxBufFull) done)).number ≡ first_in_turn ((9, full) ∷ [])
unfolding when
full_number true = refl
full_number false = refl

push_ladder : (r l full : Bool) → (told (lowest_of (door_of r false false l) (when full (Err TxBufFull) done))).number
    ≡ first_in_turn ((1, r) ∷ (4, l) ∷ (9, full) ∷ [])
unfolding late_of when
push_ladder r l full =
    ap (λ (x : Answer). (told (lowest_of x (when full (Err TxBufFull) done))).number) (sym (lowest_end (door_of r false false l)))
    ∙ ladder_then r false false l false false (when full (Err TxBufFull) done) ((9, full) ∷ []) (full_number full)

pub push_told : (i : PushIn) → (push_of i).answer ≡ told (push_answer_of i)
unfolding push_of push_done push_kept
push_told i = answer_told (λ (o : PushLeft). o.answer) (push_answer_of i) (push_done i) (push_kept i) refl refl

-- for a sound ring the storage's length is R
full_is : (i : PushIn) → not (sound_of i.ring (length i.store)) ≡ false
    → ltb (length i.store) (used_of i.ring + length i.src) ≡ ltb i.ring.size (used_of i.ring + length i.src)
full_is i s = ap (λ (n : ℕ). ltb n (used_of i.ring + length i.src)) ((sound_means.over i.ring (length i.store)).0 (not-false _ s)).1

push_number : (i : PushIn) → (told (push_answer_of i)).number
    ≡ first_in_turn
    ((1, not (sound_of i.ring (length i.store)))
    ∷ (4, not (is_packet_length (length i.src)))
    ∷ (9, ltb i.ring.size (used_of i.ring + length i.src))
    ∷ [])
unfolding push_answer
push_number i =
    let sound = sound_of i.ring (length i.store) in
    let short = is_packet_length (length i.src) in
    push_ladder (not sound) (not short) _
    ∙ exchange 1 (not sound) _ _ (λ s. ap (λ (full : Bool). first_in_turn ((4, not short) ∷ (9, full) ∷ [])) (full_is i s))

by_push_rows : (i : PushIn) (t : Told) → t.number ≡ (told (push_answer_of i)).number → AnswersInTurn t (push_rows i)
by_push_rows i t e =
    by_turn t
    (row 1 (not_means (sound_means.over i.ring (length i.store))) ∷ row 4 (packet_over (length i.src))
    ∷ row 9 (below_means i.ring.size (used_of i.ring + length i.src)) ∷ [])
    (e ∙ push_number i)

pub push_answers : PushAnswers
push_answers i left says = by_push_rows i left.answer (ap (λ (o : PushLeft). o.answer.number) says ∙ ap (λ (t : Told). t.number) (push_told i))

pub numbered_answers : NumberedAnswers
numbered_answers i left says = by_push_rows i _ (ap (λ (o : NumberedLeft). o.number) says ∙ ap (λ (t : Told). t.number) (push_told i))

-- what a push that is done says of its record
pub record Ready (b : TxBuf) (storage bytes : ℕ) : Type 0 where
  pub sound : Fit b storage
  pub short : bytes ≤ max_packet
  pub room : used_of b + bytes ≤ storage

full_not : (t : Bool) → when t (Err TxBufFull) done ≡ done → t ≡ false
unfolding when
full_not true e = let z : ◌≡◌ {A = ℕ} 9 0 = ap (λ (a : Answer). (told a).number) e in absurd (omega arith)
full_not false e = refl

pub ready : (b : TxBuf) (storage bytes : ℕ) → push_answer b storage bytes ≡ done → Ready b storage bytes
unfolding push_answer
ready b storage bytes e =
    let u = lowest_passed _ _ e in
    let d = door_passed _ _ _ _ u.0 in
    record {
      sound = sound_says b storage (not-false _ d.record_ok);
      short = (packet_length bytes).0 (not-false _ d.length_ok);
      room = ltb-false _ _ (full_not _ u.1);
    }

-- ---- flush: the used answers in numbers

none_is : (n : ℕ) → eqb n 0 ≡ not (ltb 0 n)
none_is n =
    ⊎_elim
    (λ (l : 0 < n). ne_eqb n 0 (λ (e : n ≡ 0). omega arith) ∙ ap not (sym (lt-ltb 0 n l)))
    (λ (l : n ≤ 0). eq-eqb n 0 (omega arith) ∙ ap not (sym (le-ltb 0 n l)))
    (lt_or_ge 0 n)

-- nothing is left of nothing
left_none : (n p : ℕ) → ltb 0 n ≡ false → ltb 0 (n - p) ≡ false
left_none n p e = let l = ltb-false 0 n e in le-ltb 0 (n - p) (omega arith)

-- an answer that is used counts too much, as a test
abbrev pub too_much : TxBuf → StreamAnswers → Bool
too_much b a = uses_first b && ltb (first_length b) (counted a.first) || uses_second b a && ltb (second_length b) (counted a.second)

pub too_much_means : (b : TxBuf) (a : StreamAnswers) → Exactly (too_much b a ≡ true) (CountsTooMuch b a)
too_much_means b a =
    or_means (and_means (as_is (uses_first b)) (below_means (first_length b) (counted a.first)))
    (and_means (as_is (uses_second b a)) (below_means (second_length b) (counted a.second)))

count_by : (some whole left last : Bool) (k l : ℕ) → (some ≡ false → left ≡ false)
    → when (not some) 0 (k + when whole (when (not left) 0 (l + when last 0 0)) 0) ≡ when some k 0 + when (whole && left) l 0
unfolding when
count_by true true true last k l h = ap (λ (x : ℕ). k + (l + x)) (when_same 0 last) ∙ ap (λ (x : ℕ). k + x) (add-zero l)
count_by true true false last k l h = refl
count_by true false left last k l h = refl
count_by false whole left last k l h = rw (h refl, and_false whole)

pub count_is : (i : FlushIn) → flush_count i ≡ counted_now i.ring i.answers
unfolding flush_count taken_by
count_is i =
    let n = used_of i.ring in
    let p = first_length i.ring in
    rw (none_is n, none_is (n - p)) (count_by (ltb 0 n) _ (ltb 0 (n - p)) _ _ _ (left_none n p))

over_by_lem : (some more whole left further last : Bool) → (some ≡ false → left ≡ false)
    → not (not some) && (more || whole && (not (not left) && (further || last && false))) ≡ some && more || whole && left && further
over_by_lem true true whole left further last h = refl
over_by_lem true false false left further last h = refl
over_by_lem true false true false further last h = refl
over_by_lem true false true true true last h = refl
over_by_lem true false true true false last h = and_false last
over_by_lem false more whole left further last h = rw (h refl, and_false whole)

pub over_is : (i : FlushIn) → sound_of i.ring (length i.store) ≡ true → flush_over i ≡ too_much i.ring i.answers
unfolding flush_over over_by
over_is i s =
    let b = i.ring in
    let n = used_of b in
    let p = first_length b in
    let r = sound_says b (length i.store) s in
    let q : piece_len b.size (b.tail + p) (n - p) ≡ n - p = next_length b.size b.tail (b.tail + p) n (omega (arith, r.least)) r.within refl in
    let k = counted i.answers.first in
    let l = counted i.answers.second in
    ap (λ (x : ℕ). not (eqb n 0) && (ltb p k || eqb k p && (not (eqb (n - p) 0) && (ltb x l || eqb l x && false)))) q
    ∙ rw (none_is n, none_is (n - p)) (over_by_lem (ltb 0 n) (ltb p k) (eqb k p) (ltb 0 (n - p)) (ltb (n - p) l) (eqb l (n - p)) (left_none n p))

end_by : (some : Bool) (a : StreamAnswer) → (told (when (not some) done (stopped_by a))).number ≡ first_in_turn ((10, some && stops a) ∷ [])
unfolding when
end_by true a = stop_number a
end_by false a = refl

end_number : (n : ℕ) (a : StreamAnswer) → (told (when (eqb n 0) done (stopped_by a))).number ≡ first_in_turn ((10, ltb 0 n && stops a) ∷ [])
end_number n a = rw (none_is n) (end_by (ltb 0 n) a)

pub flush_told : (i : FlushIn) → (flush_of i).answer ≡ told (flush_answer i)
unfolding flush_of flush_done flush_kept
flush_told i = answer_told (λ (o : FlushLeft). o.answer) (flush_answer i) (flush_done i) (flush_kept i) refl refl

pub flush_answers : FlushAnswers
unfolding flush_answer record_answer ends_by when
flush_answers i left says =
    let b = i.ring in
    let sound = sound_of b (length i.store) in
    let blocked = ltb 0 (used_of b) && stops i.answers.first in
    by_turn left.answer
    (row 1 (not_means (sound_means.over b (length i.store))) ∷ row 5 (too_much_means b i.answers)
    ∷ row 6 (below_means (length i.out) (counted_now b i.answers))
    ∷ row 10 (and_means (below_means 0 (used_of b)) (as_is (stops i.answers.first))) ∷ [])
    (ap (λ (o : FlushLeft). o.answer.number) says ∙ ap (λ (t : Told). t.number) (flush_told i)
    ∙ ladder_then (not sound) false false false (flush_over i) (ltb (length i.out) (flush_count i))
    (when (eqb (used_of b) 0) done (stopped_by i.answers.first))
    ((10, blocked) ∷ [])
    (end_number (used_of b) i.answers.first)
    ∙ exchange 1 (not sound) _ _ (λ s.
    ap (λ (over : Bool). first_in_turn ((5, over) ∷ (6, ltb (length i.out) (flush_count i)) ∷ (10, blocked) ∷ [])) (over_is i (not-false _ s))
    ∙ ap (λ (n : ℕ). first_in_turn ((5, too_much b i.answers) ∷ (6, ltb (length i.out) n) ∷ (10, blocked) ∷ [])) (count_is i)))

-- what an answer that is Done says
pub sound_done : (i : FlushIn) → flush_answer i ≡ done → Fit i.ring (length i.store)
unfolding flush_answer record_answer
sound_done i d =
    let r = (lowest_passed _ _ (lowest_passed _ _ d).0).0 in
    sound_says _ _ (not-false _ (door_passed _ _ _ _ r).record_ok)

pub not_over : (i : FlushIn) → flush_answer i ≡ done → flush_over i ≡ false
unfolding flush_answer
not_over i d = (late_passed _ _ (lowest_passed _ _ (lowest_passed _ _ d).0).1).answer_ok

pub room_left : (i : FlushIn) → flush_answer i ≡ done → flush_count i ≤ length i.out
unfolding flush_answer
room_left i d = ltb-false _ _ (late_passed _ _ (lowest_passed _ _ (lowest_passed _ _ d).0).1).room_ok

-- ---- new, len and is_empty

pub new_answers : NewAnswers
unfolding new_of
new_answers size left says =
    by_turn left.answer (row 1 (not_means (ring_sizes size)) ∷ []) (ap (λ (o : NewLeft). o.answer.number) says ∙ record_number (is_ring_size size))

pub look_answers : LookAnswers
unfolding len_of flag_of
look_answers = record {
  len = λ b left says. by_look b left.answer (ap (λ (o : LenLeft). o.answer.number) says);
  is_empty = λ b left says. by_look b left.answer (ap (λ (o : FlagLeft). o.answer.number) says);
}
  where
    by_look : (b : TxBuf) (t : Told) → t.number ≡ (told (look_answer b)).number → AnswersInTurn t ((1, Sound b → ⊥) ∷ [])
    by_look b t e = by_turn t (row 1 (not_means (sound_means.alone b)) ∷ []) (e ∙ record_number (sound_record b))

-- ---- what is not done changes nothing

push_keeps : (i : PushIn) (o : PushLeft) → o ≡ push_of i → (o.answer.number ≡ 0 → ⊥) → (o.ring ≡ i.ring) × (o.store ≡ i.store)
unfolding push_of push_done push_kept
push_keeps i o says n =
    let e = left_where (λ (t : Told). t.number ≡ 0 → ⊥) (λ (x : PushLeft). x.answer) (push_answer_of i) (push_done i) (push_kept i) o (λ z. z refl) says n in
    (ap (λ (x : PushLeft). x.ring) e, ap (λ (x : PushLeft). x.store) e)

flush_keeps : (i : FlushIn) (o : FlushLeft) → o ≡ flush_of i → (o.answer.number ≡ 0 → ⊥) → (o.ring ≡ i.ring) × (o.out ≡ i.out) × (o.count ≡ 0)
unfolding flush_of flush_done flush_kept
flush_keeps i o says n =
    let e = left_where (λ (t : Told). t.number ≡ 0 → ⊥) (λ (x : FlushLeft). x.answer) (flush_answer i) (flush_done i) (flush_kept i) o (λ z. z refl) says n in
    (ap (λ (x : FlushLeft). x.ring) e, ap (λ (x : FlushLeft). x.out) e, ap (λ (x : FlushLeft). x.count) e)

new_keeps : (size : ℕ) (o : NewLeft) → o ≡ new_of size → (o.answer.number ≡ 0 → ⊥) → o.ring ≡ record { size = 0; head = 0; tail = 0 }
unfolding new_of
new_keeps size o says n =
    let a = record_answer (is_ring_size size) in
    ⊎_elim
    (λ (t : is_done a ≡ true). absurd (n (ap (λ (x : NewLeft). x.answer.number) says ∙ ap (λ (x : Answer). (told x).number) (is_done_lem a t))))
    (λ (t : is_done a ≡ false). ap (λ (x : NewLeft). x.ring) says ∙ when_not_done a _ _ t)
    (true_or_false (is_done a))

refused : (t : Told) → Refuses t → t.number ≡ 0 → ⊥
refused t r e = omega (arith, r.0)

pub refusals_change_nothing : RefusalsChangeNothing
refusals_change_nothing = record {
  push = λ i o says r. push_keeps i o says (refused o.answer r);
  flush = λ i o says r. flush_keeps i o says (refused o.answer r);
  new = λ size o says r. new_keeps size o says (refused o.answer r);
}

-- number 10 comes of the first write's answer alone
ten_tells : (sound over small none : Bool) (a : StreamAnswer)
    → (told (lowest_of (lowest_of (record_answer sound) (late_of over small)) (when none done (stopped_by a)))).number ≡ 10
    → (told (lowest_of (lowest_of (record_answer sound) (late_of over small)) (when none done (stopped_by a)))).failed ≡ failed a
unfolding lowest_of record_answer door_of late_of when_done when
ten_tells false over small none a e = let z : ◌≡◌ {A = ℕ} 1 10 = e in absurd (omega arith)
ten_tells true true small none a e = let z : ◌≡◌ {A = ℕ} 5 10 = e in absurd (omega arith)
ten_tells true false true none a e = let z : ◌≡◌ {A = ℕ} 6 10 = e in absurd (omega arith)
ten_tells true false false true a e = let z : ◌≡◌ {A = ℕ} 0 10 = e in absurd (omega arith)
ten_tells true false false false (Count n) e = refl
ten_tells true false false false WouldBlock e = refl
ten_tells true false false false Failed e = refl

flush_tells : (i : FlushIn) (o : FlushLeft) → o ≡ flush_of i → o.answer.number ≡ 10 → o.answer.failed ≡ failed i.answers.first
unfolding flush_answer ends_by
flush_tells i o says n =
    let e = ap (λ (x : FlushLeft). x.answer) says ∙ flush_told i in
    ap (λ (t : Told). t.failed) e ∙ ten_tells _ _ _ _ i.answers.first (sym (ap (λ (t : Told). t.number) e) ∙ n)

pub numbered_is_push : NumberedIsPush
numbered_is_push i o p says said =
    let e = says ∙ ap numbered (sym said) in
    (ap (λ (x : NumberedLeft). x.number) e, ap (λ (x : NumberedLeft). x.store) e)

pub nine_and_ten_change_nothing : NineAndTenChangeNothing
nine_and_ten_change_nothing = record {
  push = λ i o says n. push_keeps i o says (λ z. omega arith);
  numbered = λ i o says n. let k = numbered_is_push i o (push_of i) says refl in k.1 ∙ (push_keeps i (push_of i) refl (λ z. n (k.0 ∙ z))).1;
  flush = λ i o says n. let k = flush_keeps i o says (λ z. omega arith) in (k.0, k.1, k.2, flush_tells i o says n);
}
