-- What a call on a ring that is done leaves, by 01's words over what it was given. Assumes nothing.
use Prim.Native.Nat.{ℕ, ◌+◌, ◌%◌, ◌<◌, ◌≤◌, zero-le}
use mathlib.Core.Path.{◌≡◌, refl, sym, ap, subst, ◌∙◌}
use mathlib.Core.Bool.{Bool, true, false, ◌&&◌}
use mathlib.Core.List.{List, ◌++◌}
use native.Mathlib.Omega.{arith}
use lib.Dec.{ltb, eqb}
use lib.ListN.{length, get_or, take, drop, length-append, length-drop, get_or-append}
use lib.Seq.{get_or-take, drop_at, length-take-le}
use borrow.Author.Tests.{ltb-false, le-ltb}
use Rattle.defs.specs.Choice.{when}
use Rattle.defs.specs.Answer.{Told, Answer, told, done, when_done}
use Rattle.defs.specs.Ladder.{door_of, late_of, lowest_of, record_answer}
use Rattle.defs.specs.Limits.{is_ring_size}
use Rattle.defs.specs.Stream.{counted}
use Rattle.defs.specs.declared.stream.StreamAnswers.{StreamAnswers}
use Rattle.defs.proofs.LookLaws.{flag_done, len_done}
use Rattle.defs.proofs.Basics.{neither, and_false}
use Rattle.defs.proofs.AnswerLaws.{number_zero, when_done_lem}
use Rattle.defs.proofs.LadderLaws.{record_passed, record_refused, behind_two, left_alike}
use Rattle.defs.proofs.LimitLaws.{ring_sizes}
use Rattle.defs.proofs.MeansLaws.{not_held, equal_means}
use Rattle.txbuf.specs.Record.{is_empty, Wide, used_of, sound_of, held, NewLeft, new_of, look_answer}
use Rattle.txbuf.specs.Push.{written, PushIn, PushLeft, push_answer_of, push_done, push_of}
use Rattle.txbuf.specs.Flush.{FlushIn, FlushLeft, ends_by, flush_answer, flush_count, flush_over, flush_done, flush_kept, flush_of}
use Rattle.txbuf.specs.Means.{bytes_held, Sound, SoundOver, first_length, second_length, uses_first, uses_second, counted_now}
use Rattle.txbuf.specs.Outcomes.{SoundStaysSound, NewIsEmpty, EveryPushMeans, FlushMeans, EveryFlushMeans, with_answers, UnreachedIsIgnored, LooksMean}
use Rattle.txbuf.specs.declared.record.TxBuf.{TxBuf}
use Rattle.txbuf.proofs.RecordLaws.{sound_means, is_sound_lem, held_length, used_after, used_advanced}
use Rattle.txbuf.proofs.AnswerLaws.{push_told, Ready, ready, too_much, count_is, over_is, flush_told, sound_done, not_over, room_left}
use Rattle.txbuf.proofs.RingLaws.{runs_written, written_length, written_other, written_at, held_at}

-- ---- push

module _ (i : PushIn) (o : PushLeft) (wide : Wide i.ring) (says : o ≡ push_of i) (n : o.answer.number ≡ 0) where
  abbrev ring : TxBuf
  ring = i.ring

  pushed : push_answer_of i ≡ done
  pushed = number_zero _ (ap (λ (t : Told). t.number) (sym (push_told i)) ∙ ap (λ (x : PushLeft). x.answer.number) (sym says) ∙ n)

  left : o ≡ push_done i
  unfolding push_of
  left = says ∙ when_done_lem (push_answer_of i) _ _ pushed

  fit : Ready ring (length i.store) (length i.src)
  fit = ready _ _ _ pushed

  sound : SoundOver ring (length i.store)
  sound = (sound_means.over ring _).0 (is_sound_lem ring _ fit.sound)

  held_is : bytes_held o.ring ≡ bytes_held ring + length i.src
  unfolding push_done
  held_is =
      let s = fit.sound in
      ap (λ (x : PushLeft). bytes_held x.ring) left ∙ used_after ring.head ring.tail (length i.src) wide.head wide.tail (omega (arith, s.most, s.whole, fit.room))

  store_is : o.store ≡ written i.store ring.size ring.head i.src
  unfolding push_done
  store_is =
      ap (λ (x : PushLeft). x.store) left
      ∙ runs_written i.store i.src ring.head ring.size sound.1 (omega (arith, sound.0.least)) (omega (arith, sound.1, fit.room))

  size_is : o.ring.size ≡ ring.size
  unfolding push_done
  size_is = ap (λ (x : PushLeft). x.ring.size) left

  tail_is : o.ring.tail ≡ ring.tail
  unfolding push_done
  tail_is = ap (λ (x : PushLeft). x.ring.tail) left

pub every_push_means : EveryPushMeans
every_push_means i o wide says n = record {
  size = size_is i o wide says n;
  tail = tail_is i o wide says n;
  held = held_is i o wide says n;
  bytes = λ k l.
      let r = fit i o wide says n in
      let s = sound i o wide says n in
      ap (λ (x : List ℕ). get_or x ((i.ring.head + k) % i.ring.size) 0) (store_is i o wide says n)
      ∙ written_at i.ring.size i.src i.store i.ring.head k s.1 (omega (arith, s.1, r.room)) l;
  others = λ place f. ap (λ (x : List ℕ). get_or x place 0) (store_is i o wide says n) ∙ written_other i.ring.size i.src i.store i.ring.head place f;
}

-- ---- flush

taken_within : (used : Bool) (k p : ℕ) → used && ltb p k ≡ false → when used k 0 ≤ p
unfolding when
taken_within true k p e = ltb-false p k e
taken_within false k p e = zero-le

-- no more is counted than is held, where no used answer counts too much
counted_within : (b : TxBuf) (a : StreamAnswers) → too_much b a ≡ false → counted_now b a ≤ bytes_held b
counted_within b a e =
    let f = neither (uses_first b && ltb (first_length b) (counted a.first)) (uses_second b a && ltb (second_length b) (counted a.second)) e in
    let k = taken_within (uses_first b) (counted a.first) (first_length b) f.0 in
    let l = taken_within (uses_second b a) (counted a.second) (second_length b) f.1 in
    omega arith

module _ (i : FlushIn) (o : FlushLeft) (wide : Wide i.ring) (says : o ≡ flush_of i) (n : o.answer.number ≡ 0) where
  flushed : flush_answer i ≡ done
  flushed = number_zero _ (ap (λ (t : Told). t.number) (sym (flush_told i)) ∙ ap (λ (x : FlushLeft). x.answer.number) (sym says) ∙ n)

  rest : o ≡ flush_done i
  unfolding flush_of
  rest = says ∙ when_done_lem (flush_answer i) _ _ flushed

  was_sound : sound_of i.ring (length i.store) ≡ true
  was_sound = is_sound_lem i.ring (length i.store) (sound_done i flushed)

  count_now : flush_count i ≤ bytes_held i.ring
  count_now = rw (count_is i) (counted_within i.ring i.answers (sym (over_is i was_sound) ∙ not_over i flushed))

  -- the oldest bytes, as many as are taken
  abbrev taken : List ℕ
  taken = take (flush_count i) (held i.ring i.store)

  taken_length : length taken ≡ flush_count i
  taken_length = length-take-le (flush_count i) (held i.ring i.store) (rw (held_length i.ring i.store) count_now)

  taken_at : (k : ℕ) → k < flush_count i → get_or (taken ++ drop (flush_count i) i.out) k 0 ≡ get_or i.store ((i.ring.tail + k) % i.ring.size) 0
  unfolding held
  taken_at k l =
      let m = count_now in
      get_or-append taken (drop (flush_count i) i.out) 0 k (rw taken_length l) ∙ get_or-take (flush_count i) (held i.ring i.store) k 0 l
      ∙ held_at i.ring.size (used_of i.ring) i.store i.ring.tail k (omega arith)

  pub flush_means : FlushMeans i o
  unfolding flush_done
  flush_means =
      subst (FlushMeans i) (sym rest)
      (record {
        size = refl;
        head = refl;
        count = count_is i;
        held = let l = count_now in let u = used_advanced i.ring.head i.ring.tail (flush_count i) wide.head wide.tail l in omega arith;
        bytes = taken_at;
        length =
            length-append taken (drop (flush_count i) i.out)
            ∙ (let t = taken_length in let d = length-drop (flush_count i) i.out in let r = room_left i flushed in omega arith);
        others = drop_at taken (drop (flush_count i) i.out) (flush_count i) taken_length;
      })

pub every_flush_means : EveryFlushMeans
every_flush_means = flush_means

-- ---- soundness

-- a ring of the same size that holds no more than it
sound_again : (b c : TxBuf) (n : ℕ) → c.size ≡ b.size → bytes_held c ≤ b.size → SoundOver b n → SoundOver c n
sound_again b c n e l s = (
  record { power = (s.0.power.0, e ∙ s.0.power.1); least = omega (arith, s.0.least); most = omega (arith, s.0.most); within = omega arith },
  s.1 ∙ sym e,
)

-- a new ring where it is done
new_is : (size : ℕ) (o : NewLeft) → o ≡ new_of size → o.answer.number ≡ 0 → (is_ring_size size ≡ true) × (o.ring ≡ record { size = size; head = 0; tail = 0 })
unfolding new_of
new_is size o says n =
    let d = number_zero (record_answer (is_ring_size size)) (ap (λ (x : NewLeft). x.answer.number) (sym says) ∙ n) in
    (record_passed _ (is_ring_size size) refl d, ap (λ (x : NewLeft). x.ring) says ∙ when_done_lem _ _ _ d)

pub new_is_empty : NewIsEmpty
new_is_empty size o says n = let e = (new_is size o says n).1 in (ap (λ (b : TxBuf). b.size) e, ap (λ (b : TxBuf). b.head) e, ap (λ (b : TxBuf). b.tail) e)

pub sound_stays_sound : SoundStaysSound
sound_stays_sound = record {
  push = λ i o wide says n.
      let m = every_push_means i o wide says n in
      let r = fit i o wide says n in
      let s = sound i o wide says n in
      let l = ap length (store_is i o wide says n) ∙ written_length i.ring.size i.src i.store i.ring.head in
      subst (SoundOver o.ring) (sym l) (sound_again i.ring o.ring (length i.store) m.size (omega (arith, m.held, r.room, s.1)) s);
  flush = λ i o wide says n.
      let m = every_flush_means i o wide says n in
      let s = (sound_means.over i.ring (length i.store)).0 (was_sound i o wide says n) in
      sound_again i.ring o.ring (length i.store) m.size (omega (arith, m.held, s.0.within)) s;
  new = λ size o says n.
      let m = new_is size o says n in
      let p = (ring_sizes size).0 m.0 in
      subst Sound (sym m.1) (record { power = p.0; least = p.1; most = p.2; within = zero-le });
}

-- ---- an answer that isn't reached

same_left : (i : FlushIn) (a : StreamAnswers) → flush_answer i ≡ flush_answer (with_answers i a) → flush_count i ≡ flush_count (with_answers i a)
    → flush_of i ≡ flush_of (with_answers i a)
unfolding flush_of flush_done flush_kept
same_left i a e f = rw (e, f)

answer_by : (sound : Bool) (late other end ending : Answer) → (sound ≡ true → (late ≡ other) × (end ≡ ending))
    → lowest_of (lowest_of (record_answer sound) late) end ≡ lowest_of (lowest_of (record_answer sound) other) ending
unfolding lowest_of record_answer door_of when_done when
answer_by true late other end ending e = rw ((e refl).0, (e refl).1)
answer_by false late other end ending e = refl

-- two flushes that count the same, are judged alike and end alike leave the same
alike : (i : FlushIn) (a : StreamAnswers) → counted_now i.ring i.answers ≡ counted_now i.ring a → too_much i.ring i.answers ≡ too_much i.ring a
    → ends_by (used_of i.ring) i.answers.first ≡ ends_by (used_of i.ring) a.first → flush_of i ≡ flush_of (with_answers i a)
unfolding flush_answer
alike i a c t e =
    let j = with_answers i a in
    let count : flush_count i ≡ flush_count j = count_is i ∙ c ∙ sym (count_is j) in
    let answer : flush_answer i ≡ flush_answer j =
    answer_by (sound_of i.ring (length i.store)) _ _ _ _
    (λ s. (ap (λ (b : Bool). late_of b (ltb (length i.out) (flush_count i))) (over_is i s ∙ t ∙ sym (over_is j s)) ∙ ap (λ (m : ℕ). late_of (flush_over j) (ltb (length i.out) m)) count, e)) in
    same_left i a answer count

-- nothing is held: no answer is used
second_unused : (b : TxBuf) (a : StreamAnswers) → bytes_held b ≡ 0 → uses_second b a ≡ false
second_unused b a e = rw (le-ltb 0 (second_length b) (omega arith)) (and_false (eqb (counted a.first) (first_length b)))

pub unreached_is_ignored : UnreachedIsIgnored
unfolding flush_of flush_kept flush_answer ends_by when
unreached_is_ignored = record {
  second = λ i y o other says said u.
      let a : StreamAnswers = record { first = i.answers.first; second = y } in
      says ∙ alike i a (rw u) (rw u) refl ∙ sym said;
  both = λ i a o other says said e.
      let f = le-ltb 0 (bytes_held i.ring) (omega arith) in
      let p = second_unused i.ring i.answers e in
      let q = second_unused i.ring a e in
      says ∙ alike i a (rw (f, p, q)) (rw (f, p, q)) (rw e) ∙ sym said;
  unsound = λ i a o other says said n.
      let d = record_refused _ (not_held _ (sound_means.over i.ring (length i.store)).0 n) in
      says
      ∙ left_alike _ _ _ (flush_done i) (flush_done (with_answers i a)) (λ (x : Answer). record { answer = told x; count = 0; ring = i.ring; out = i.out }) d
      (behind_two _ _ _ d) (behind_two _ _ _ d)
      ∙ sym said;
}

-- ---- len and is_empty

pub looks_mean : LooksMean
looks_mean = record {
  used = λ b. refl;
  len = λ b o says n. len_done (look_answer b) (used_of b) o says n;
  is_empty = λ b o says n. rw (flag_done (look_answer b) (is_empty b) o says n) (equal_means (used_of b) 0);
}
