-- Laws of `flush_to`: the first piece, what the stream takes, and each end of a call. Assumes nothing.
use Rattle.std.specs.Prelude.{Result, Ok, Err}
use Rattle.std.specs.Result.{result_and}
use Prim.Native.Nat.{ℕ, suc, ◌+◌, ◌-◌, ◌%◌, ◌^◌, ◌<◌, ◌≤◌, min, zero-le}
use mathlib.Core.Path.{◌≡◌, refl, sym, ap, ◌∙◌}
use mathlib.Core.Logic.{◌⊎◌, ⊎_elim}
use mathlib.Core.Bool.{Bool, true, false, not, ◌&&◌, ◌||◌}
use mathlib.Core.List.{List, [], ◌∷◌, ◌++◌, append_assoc, append-nil}
use native.Mathlib.Omega.{arith}
use native.Mathlib.Nat.{mod-lt, mod-eq_of_lt, mod-add-mod, add-zero}
use lib.Dec.{ltb, eqb}
use lib.ListN.{length, take, drop, length-take, length-drop, length-append, take-append-drop, drop_of_length-le}
use lib.Seq.{take_all, take-take, take-add, drop-drop, drop_at, length-take-le}
use borrow.Author.Tests.{lt-ltb, le-ltb, ltb-false, eq-eqb, ne_eqb}
use Rattle.defs.specs.Choice.{when}
use Rattle.defs.specs.Answer.{Answer, told, done, is_done, when_done, answer_of}
use Rattle.defs.specs.Limits.{max_ring}
use Rattle.defs.specs.Stream.{counted, stopped_by}
use Rattle.defs.specs.Ladder.{door_of, late_of, lowest_of, record_answer}
use Rattle.defs.specs.Wrapping.{wadd}
use Rattle.defs.specs.Copying.{copied}
use Rattle.defs.specs.declared.answer.Refusal.{Refusal}
use Rattle.defs.specs.declared.answer.Refusal.TheVariants.{BadRecord, BadHeader, BadClock, BadLength, BadAnswer, NoRoom, NoData, PktBufMissing, TxBufFull, StreamBlocked, StreamFailed, NotQueued}
use Rattle.defs.specs.declared.stream.StreamAnswer.{StreamAnswer}
use Rattle.defs.specs.declared.stream.StreamAnswer.TheVariants.{Count, WouldBlock, Failed}
use Rattle.defs.proofs.StreamLaws.{NotCount, takes_none, not_count_stops, stopped_takes_none}
use Rattle.defs.proofs.Basics.{never, lt_or_ge, true_or_false, neither, and_false}
use Rattle.defs.proofs.ChoiceLaws.{when_true, when_false, when_same}
use Rattle.defs.proofs.AnswerLaws.{is_done_lem, done_is_done, when_done_lem, when_not_done, told_tells_apart}
use Rattle.defs.proofs.LadderLaws.{late_passed, lowest_done, lowest_refused, lowest_end}
use Rattle.defs.proofs.CopyLaws.{copied_fits}
use Rattle.defs.proofs.WrappingLaws.{keeps_place}
use Rattle.txbuf.specs.Record.{Wide, used_of, sound_of, held_from, held}
use Rattle.txbuf.specs.Means.{SoundOver}
use Rattle.txbuf.specs.Flush.{piece_len, first_piece, taken_by, over_by, ends_by, FlushIn, FlushLeft, in_turn, flush_count, flush_over, flush_answer, flushed_or, flush_seen, advanced, second_piece, flush_done, flush_kept, flush_of, FlushSays, finish_answer, finish_of}
use Rattle.txbuf.specs.Promises.{TakesOldest, FlushTakesOldest, FlushProgresses, FirstPieceIsOldest, UnsoundHasNoPiece, PiecesAreHeld}
use Rattle.txbuf.specs.declared.record.TxBuf.{TxBuf}
use Rattle.txbuf.specs.declared.flush.Flushed.{Flushed}
use Rattle.txbuf.proofs.RecordLaws.{sound_means, Fit, sound_says, is_sound_lem, held_length, used_advanced, next_length}
use Rattle.txbuf.proofs.AnswerLaws.{flush_told, sound_done, not_over}
use Rattle.txbuf.proofs.RingLaws.{held_cong, held_run, held_take, held_drop}

-- ---- a ring with bytes taken from its tail

pub advanced_none : (b : TxBuf) → Wide b → advanced b 0 ≡ b
advanced_none b w = ap (λ (i : ℕ). record { size = b.size; head = b.head; tail = i }) (ap (λ (i : ℕ). i % 2 ^ 32) (add-zero b.tail) ∙ mod-eq_of_lt w.tail)

pub no_piece : (b : TxBuf) (st : List ℕ) → sound_of b (length st) ≡ false → [] ≡ first_piece b st
unfolding first_piece
no_piece b st s = sym (when_false _ [] _ s)

-- the first piece of a sound ring
sound_piece : (b : TxBuf) (st : List ℕ) → sound_of b (length st) ≡ true
    → first_piece b st ≡ take (piece_len b.size b.tail (used_of b)) (drop (b.tail % b.size) st)
unfolding first_piece
sound_piece b st s = when_true _ [] _ s

module _ (b : TxBuf) (st : List ℕ) (s : Fit b (length st)) (w : Wide b) where
  pub advanced_used : (k : ℕ) → k ≤ used_of b → used_of (advanced b k) ≡ used_of b - k
  advanced_used k l = used_advanced b.head b.tail k w.head w.tail l

  pub advanced_held : (k : ℕ) → k ≤ used_of b → held (advanced b k) st ≡ drop k (held b st)
  unfolding held
  advanced_held k l =
      ap (λ (n : ℕ). held_from st b.size (wadd b.tail k) n) (advanced_used k l)
      ∙ held_cong b.size (used_of b - k) st _ _ (keeps_place.sum b.size b.tail k s.sized)
      ∙ sym (held_drop b.size (used_of b) k st b.tail l)

  pub advanced_sound : (k : ℕ) → k ≤ used_of b → Fit (advanced b k) (length st)
  advanced_sound k l =
      let u = advanced_used k l in
      record { sized = s.sized; least = s.least; most = s.most; within = omega arith; whole = s.whole }

  -- ---- the first piece

  offset : b.tail % b.size < b.size
  offset = mod-lt b.tail (omega arith)

  pub piece_length : length (first_piece b st) ≡ piece_len b.size b.tail (used_of b)
  piece_length =
      let o = offset in
      let e = s.whole in
      rw (sound_piece b st (is_sound_lem b (length st) s)) (simp (length-take, length-drop) (omega arith))

  -- it is the front of what is held
  pub piece_held : first_piece b st ≡ take (piece_len b.size b.tail (used_of b)) (held b st)
  unfolding held
  piece_held =
      let o = offset in
      let e = s.whole in
      let p : ℕ = piece_len b.size b.tail (used_of b) in
      let l : b.tail % b.size + p ≤ b.size = omega arith in
      rw (sound_piece b st (is_sound_lem b (length st) s))
      (sym (held_run b.size p st b.tail _ refl l e) ∙ sym (held_take b.size (used_of b) p st b.tail (omega arith)))

  -- there is one where anything is held
  pub piece_some : 0 < used_of b → 0 < piece_len b.size b.tail (used_of b)
  piece_some l = let o = offset in omega arith

-- the part that the code hands back
pub piece_is : (b : TxBuf) (st : List ℕ) (u n : ℕ) → sound_of b (length st) ≡ true → u ≡ used_of b → n ≡ min (length st - b.tail % b.size) u
    → take (b.tail % b.size + n - b.tail % b.size) (drop (b.tail % b.size) st) ≡ first_piece b st
piece_is b st u n s f g =
    let w = (sound_says b (length st) s).whole in
    let k : b.tail % b.size + n - b.tail % b.size ≡ piece_len b.size b.tail (used_of b) = omega arith in
    rw (sound_piece b st s, k)

-- ---- what is taken goes by the offset alone, and a would-block takes nothing

mod_cong : (R h k p : ℕ) → h % R ≡ k % R → (h + p) % R ≡ (k + p) % R
mod_cong R h k p e = sym (mod-add-mod h R p) ∙ ap (λ (i : ℕ). (i + p) % R) e ∙ mod-add-mod k R p

taken_cong : (R : ℕ) (l : List StreamAnswer) (n h k : ℕ) → h % R ≡ k % R → taken_by R h n l ≡ taken_by R k n l
unfolding taken_by
taken_cong R [] n h k e = refl
taken_cong R (a ∷ l) n h k e =
    let p : piece_len R h n ≡ piece_len R k n = ap (λ (i : ℕ). min (R - i) n) e in
    ap (λ (m : ℕ). when (eqb n 0) 0 (counted a + when (eqb (counted a) (piece_len R h n)) m 0)) (taken_cong R l (n - piece_len R h n) _ _ (mod_cong R h k (piece_len R h n) e))
    ∙ ap (λ (q : ℕ). when (eqb n 0) 0 (counted a + when (eqb (counted a) q) (taken_by R (k + q) (n - q) l) 0)) p

over_cong : (R : ℕ) (l : List StreamAnswer) (n h k : ℕ) → h % R ≡ k % R → over_by R h n l ≡ over_by R k n l
unfolding over_by
over_cong R [] n h k e = refl
over_cong R (a ∷ l) n h k e =
    let p : piece_len R h n ≡ piece_len R k n = ap (λ (i : ℕ). min (R - i) n) e in
    ap (λ (m : Bool). not (eqb n 0) && (ltb (piece_len R h n) (counted a) || eqb (counted a) (piece_len R h n) && m)) (over_cong R l (n - piece_len R h n) _ _ (mod_cong R h k (piece_len R h n) e))
    ∙ ap (λ (q : ℕ). not (eqb n 0) && (ltb q (counted a) || eqb (counted a) q && over_by R (k + q) (n - q) l)) p

blocked_takes_none : (R t n : ℕ) → taken_by R t n (WouldBlock ∷ []) ≡ 0
unfolding taken_by
blocked_takes_none R t n = ap (λ (m : ℕ). when (eqb n 0) 0 (0 + m)) (when_same 0 (eqb 0 (piece_len R t n))) ∙ when_same 0 (eqb n 0)

blocked_not_over : (R t n : ℕ) → over_by R t n (WouldBlock ∷ []) ≡ false
unfolding over_by
blocked_not_over R t n = simp (le-ltb (piece_len R t n) 0 (omega arith), and_false (eqb 0 (piece_len R t n)), and_false (not (eqb n 0)))

taken_last : (R t n : ℕ) (y : StreamAnswer) → taken_by R t n (y ∷ WouldBlock ∷ []) ≡ taken_by R t n (y ∷ [])
unfolding taken_by
taken_last R t n y = ap (λ (m : ℕ). when (eqb n 0) 0 (counted y + when (eqb (counted y) (piece_len R t n)) m 0)) (blocked_takes_none R (t + piece_len R t n) (n - piece_len R t n))

over_last : (R t n : ℕ) (y : StreamAnswer) → over_by R t n (y ∷ WouldBlock ∷ []) ≡ over_by R t n (y ∷ [])
unfolding over_by
over_last R t n y = ap (λ (m : Bool). not (eqb n 0) && (ltb (piece_len R t n) (counted y) || eqb (counted y) (piece_len R t n) && m)) (blocked_not_over R (t + piece_len R t n) (n - piece_len R t n))

-- no more is taken than is held, where no answer counts too much
pub taken_le : (R : ℕ) (l : List StreamAnswer) (t n : ℕ) → over_by R t n l ≡ false → taken_by R t n l ≤ n
unfolding taken_by over_by
taken_le R [] t n e = omega arith
taken_le R (a ∷ l) t n e =
    let p : ℕ = piece_len R t n in
    let k : ℕ = counted a in
    ⊎_elim
    (λ (z : eqb n 0 ≡ true). rw (when_true _ _ _ z) (omega arith))
    (λ (z : eqb n 0 ≡ false).
    let f = neither (ltb p k) (eqb k p && over_by R (t + p) (n - p) l) (simp z at e) in
    let m : k ≤ p = ltb-false p k f.0 in
    rw (when_false _ _ _ z)
    (⊎_elim
    (λ (y : eqb k p ≡ true). let r = taken_le R l (t + p) (n - p) (simp y at f.1) in rw (when_true _ _ _ y) (omega arith))
    (λ (y : eqb k p ≡ false). rw (when_false _ _ _ y) (omega arith))
    (true_or_false (eqb k p))))
    (true_or_false (eqb n 0))

-- ---- the ends of a call

pub flush_refused : (i : FlushIn) (a : Answer) → flush_answer i ≡ a → is_done a ≡ false
    → ◌≡◌ {A = FlushLeft} (record { answer = told a; count = 0; ring = i.ring; out = i.out }) (flush_of i)
unfolding flush_of flush_kept
flush_refused i a e n =
    ap (λ (x : Answer). record { answer = told x; count = 0; ring = i.ring; out = i.out }) (sym e)
    ∙ sym (when_not_done (flush_answer i) _ _ (ap is_done e ∙ n))

pub flush_is_done : (i : FlushIn) → flush_answer i ≡ done → flush_of i ≡ flush_done i
unfolding flush_of
flush_is_done i d = when_done_lem (flush_answer i) _ _ d

-- answer 1
pub flush_unsound : (i : FlushIn) → sound_of i.ring (length i.store) ≡ false
    → ◌≡◌ {A = FlushLeft} (record { answer = told (Err BadRecord); count = 0; ring = i.ring; out = i.out }) (flush_of i)
unfolding flush_answer record_answer door_of when
flush_unsound i e =
    flush_refused i (Err BadRecord)
    (rw e (ap (λ (a : Answer). lowest_of a (ends_by (used_of i.ring) i.answers.first)) (lowest_refused (Err BadRecord) _ refl) ∙ lowest_refused (Err BadRecord) _ refl))
    refl

-- a sound ring: 5, 6, then how it ends
pub sound_answer : (i : FlushIn) → sound_of i.ring (length i.store) ≡ true
    → flush_answer i ≡ lowest_of (late_of (flush_over i) (ltb (length i.out) (flush_count i))) (ends_by (used_of i.ring) i.answers.first)
unfolding flush_answer record_answer door_of when
sound_answer i e = rw e (ap (λ (a : Answer). lowest_of a (ends_by (used_of i.ring) i.answers.first)) (lowest_done _))

late_none : late_of false false ≡ done
unfolding late_of when
late_none = refl

late_over : (n : Bool) → late_of true n ≡ Err BadAnswer
unfolding late_of when
late_over n = refl

late_room : late_of false true ≡ Err NoRoom
unfolding late_of when
late_room = refl

ends_none : (n : ℕ) (a : StreamAnswer) → n ≡ 0 → ends_by n a ≡ done
unfolding ends_by
ends_none n a e = when_true _ _ _ (eq-eqb n 0 e)

not_none : (n : ℕ) → 0 < n → eqb n 0 ≡ false
not_none n l = ne_eqb n 0 (λ (e : n ≡ 0). omega arith)

ends_some : (n : ℕ) (a : StreamAnswer) → 0 < n → ends_by n a ≡ stopped_by a
unfolding ends_by
ends_some n a l = when_false _ _ _ (not_none n l)

-- what a flush that is done leaves, at the count c
abbrev done_at : FlushIn → ℕ → FlushLeft
done_at i c = record {
  answer = told done;
  count = c;
  ring = advanced i.ring c;
  out = take c (held i.ring i.store) ++ drop c i.out;
}

done_at_lem : (i : FlushIn) (c : ℕ) → flush_count i ≡ c → flush_done i ≡ done_at i c
unfolding flush_done
done_at_lem i c e = ap (done_at i) e

-- a flush that is finished behind a piece: by its answer
finish_is : (i : FlushIn) (piece : List ℕ) (number count : ℕ) (O : List ℕ) → finish_answer number (length piece) (length O) ≡ flush_answer i
    → (flush_answer i ≡ done → (length piece + count ≡ flush_count i) × (copied O piece ≡ take (flush_count i) (held i.ring i.store) ++ drop (flush_count i) i.out))
    → (is_done (flush_answer i) ≡ false → O ≡ i.out)
    → finish_of i.ring piece number count O ≡ flush_of i
unfolding finish_of
finish_is i piece number count O e ends kept =
    ⊎_elim
    (λ (t : is_done (flush_answer i) ≡ true).
    let d = is_done_lem (flush_answer i) t in
    let f = ends d in
    when_done_lem _ _ _ (e ∙ d)
    ∙ ap (λ (c : ℕ). record { answer = told done; count = c; ring = advanced i.ring c; out = copied O piece }) f.0
    ∙ ap (λ (x : List ℕ). record { answer = told done; count = flush_count i; ring = advanced i.ring (flush_count i); out = x }) f.1
    ∙ sym (done_at_lem i (flush_count i) refl)
    ∙ sym (flush_is_done i d))
    (λ (t : is_done (flush_answer i) ≡ false).
    when_not_done _ _ _ (ap is_done e ∙ t)
    ∙ ap (λ (a : Answer). record { answer = told a; count = 0; ring = i.ring; out = O }) e
    ∙ ap (λ (x : List ℕ). record { answer = told (flush_answer i); count = 0; ring = i.ring; out = x }) (kept t)
    ∙ flush_refused i (flush_answer i) refl t)
    (true_or_false (is_done (flush_answer i)))

at_most : (p k m u n size : ℕ) → p ≡ k → u ≡ n - k → k ≤ n → m ≤ u → n ≤ size → size ≤ max_ring → p + m ≤ max_ring
at_most p k m u n size e f l j x y = omega arith

-- what a flush that 5 and 6 do not refuse leaves: its count, and the bytes at the front
pub record RestLeft (i : FlushIn) (r : FlushLeft) : Type 0 where
  pub not_bad : eqb r.answer.number 5 ≡ false
  pub not_room : eqb r.answer.number 6 ≡ false
  pub count : r.count ≡ flush_count i
  pub out : r.out ≡ take (flush_count i) (held i.ring i.store) ++ drop (flush_count i) i.out

stopped_number : (b : Bool) (y : StreamAnswer)
    → (eqb (told (when b done (stopped_by y))).number 5 ≡ false) × (eqb (told (when b done (stopped_by y))).number 6 ≡ false)
unfolding when
stopped_number true y = (refl, refl)
stopped_number false (Count n) = (refl, refl)
stopped_number false WouldBlock = (refl, refl)
stopped_number false Failed = (refl, refl)

ends_number : (m : ℕ) (y : StreamAnswer) → (eqb (told (ends_by m y)).number 5 ≡ false) × (eqb (told (ends_by m y)).number 6 ≡ false)
unfolding ends_by
ends_number m y = stopped_number (eqb m 0) y

-- a call that ends as 10 takes nothing
ends_stopped : (m : ℕ) (y : StreamAnswer) → is_done (ends_by m y) ≡ false → counted y ≡ 0
unfolding ends_by when
ends_stopped m y e = go (eqb m 0) e
  where
    go : (b : Bool) → is_done (when b done (stopped_by y)) ≡ false → counted y ≡ 0
    go true f = absurd (never (sym f ∙ done_is_done))
    go false f = stopped_takes_none y f

nothing_taken : (R t m : ℕ) (y : StreamAnswer) → counted y ≡ 0 → taken_by R t m (y ∷ []) ≡ 0
unfolding taken_by
nothing_taken R t m y e =
    ap (λ (x : ℕ). when (eqb m 0) 0 (x + when (eqb x (piece_len R t m)) 0 0)) e
    ∙ ap (λ (x : ℕ). when (eqb m 0) 0 (0 + x)) (when_same 0 (eqb 0 (piece_len R t m)))
    ∙ when_same 0 (eqb m 0)

no_room : (room n : ℕ) → is_done (late_of false (ltb room n)) ≡ false → room < n
no_room room n e =
    ⊎_elim
    (λ (l : room < n). l)
    (λ (l : n ≤ room). absurd (never (sym e ∙ ap (λ (b : Bool). is_done (late_of false b)) (le-ltb room n l) ∙ ap is_done late_none ∙ done_is_done)))
    (lt_or_ge room n)

-- ---- `finish`, as the code has it: by the rest's answer, then by the room

-- a rest that does not refuse the whole flush, and how many bytes it took
pub record Passed (rest : Result Flushed Refusal) (more : ℕ) : Type 0 where
  pub not_bad : rest ≡ Err BadAnswer → ⊥
  pub not_room : rest ≡ Err NoRoom → ⊥
  pub count : (b : TxBuf) → more ≡ (flushed_or b rest).count

pub passed_done : (rest : Result Flushed Refusal) (f : Flushed) (more : ℕ) → rest ≡ Ok f → more ≡ f.count → Passed rest more
passed_done rest f more e c = record { not_bad = λ k. cc; not_room = λ k. cc; count = λ b. c ∙ rw e refl }

pub passed_stopped : (rest : Result Flushed Refusal) (r : Refusal) (more : ℕ) → rest ≡ Err r → (r ≡ BadAnswer → ⊥) → (r ≡ NoRoom → ⊥) → more ≡ 0 → Passed rest more
passed_stopped rest r more e k l c = record { not_bad = λ u. k cc; not_room = λ u. l cc; count = λ b. c ∙ rw e refl }

module _ (b : TxBuf) (piece out : List ℕ) (rest : Result Flushed Refusal) where
  abbrev finished : FlushLeft
  finished = finish_of b piece (told (answer_of rest)).number (flushed_or b rest).count out

  finish_refused : (r : Refusal) → finish_answer (told (answer_of rest)).number (length piece) (length out) ≡ Err r → flush_seen b (Err r) out ≡ finished
  unfolding finish_of when_done when
  finish_refused r e = rw e refl

  pub finish_forbidden : (r : Refusal) → rest ≡ Err r → (r ≡ BadAnswer) ⊎ (r ≡ NoRoom) → flush_seen b (Err r) out ≡ finished
  unfolding finish_answer
  finish_forbidden r d =
      ⊎_elim (λ (e : r ≡ BadAnswer). finish_refused r (rw (d, e) (late_over _))) (λ (e : r ≡ NoRoom). finish_refused r (rw (d, e) late_room))

  module _ (more : ℕ) (p : Passed rest more) where
    by_room : finish_answer (told (answer_of rest)).number (length piece) (length out) ≡ late_of false (ltb (length out) (length piece))
    unfolding finish_answer
    by_room = by rest p.not_bad p.not_room
      where
        by : (x : Result Flushed Refusal) → (x ≡ Err BadAnswer → ⊥) → (x ≡ Err NoRoom → ⊥)
            → finish_answer (told (answer_of x)).number (length piece) (length out) ≡ late_of false (ltb (length out) (length piece))
        by (Ok f) k l = refl
        by (Err BadRecord) k l = refl
        by (Err BadHeader) k l = refl
        by (Err BadClock) k l = refl
        by (Err BadLength) k l = refl
        by (Err BadAnswer) k l = absurd (k refl)
        by (Err NoRoom) k l = absurd (l refl)
        by (Err NoData) k l = refl
        by (Err PktBufMissing) k l = refl
        by (Err TxBufFull) k l = refl
        by (Err StreamBlocked) k l = refl
        by (Err StreamFailed) k l = refl
        by (Err NotQueued) k l = refl

    pub finish_none : length out < length piece → flush_seen b (Err NoRoom) out ≡ finished
    finish_none m = finish_refused NoRoom (by_room ∙ rw (lt-ltb _ _ m) late_room)

    pub finish_done : (r : TxBuf) (x : List ℕ) → length piece ≤ length out → r ≡ advanced b (length piece + more) → x ≡ copied out piece
        → flush_seen b (Ok (record { count = length piece + more; ring = r })) x ≡ finished
    unfolding finish_of
    finish_done r x m d h = rw (d, h, p.count b) (sym (when_done_lem _ _ _ (by_room ∙ rw (le-ltb _ _ m) late_none)))

-- what a result counts doesn't go by the ring that stays where it is refused
count_alike : (b c : TxBuf) (r : Result Flushed Refusal) → (flushed_or b r).count ≡ (flushed_or c r).count
count_alike b c (Ok f) = refl
count_alike b c (Err r) = refl

module _ (i : FlushIn) (s : Fit i.ring (length i.store)) (w : Wide i.ring) where
  abbrev held_now : ℕ
  held_now = used_of i.ring

  abbrev offered : ℕ
  offered = piece_len i.ring.size i.ring.tail (used_of i.ring)

  abbrev first_count : ℕ
  first_count = counted i.answers.first

  abbrev rest_taken : ℕ
  rest_taken = taken_by i.ring.size (i.ring.tail + offered) (held_now - offered) (i.answers.second ∷ [])

  abbrev rest_over : Bool
  rest_over = over_by i.ring.size (i.ring.tail + offered) (held_now - offered) (i.answers.second ∷ [])

  count_is : flush_count i ≡ when (eqb held_now 0) 0 (first_count + when (eqb first_count offered) rest_taken 0)
  unfolding flush_count taken_by
  count_is = refl

  over_is : flush_over i ≡ not (eqb held_now 0) && (ltb offered first_count || eqb first_count offered && rest_over)
  unfolding flush_over over_by
  over_is = refl

  count_some : 0 < held_now → flush_count i ≡ first_count + when (eqb first_count offered) rest_taken 0
  count_some l = count_is ∙ when_false _ _ _ (not_none held_now l)

  over_some : 0 < held_now → flush_over i ≡ ltb offered first_count || eqb first_count offered && rest_over
  over_some l = over_is ∙ rw (not_none held_now l)

  answer_is : flush_answer i ≡ lowest_of (late_of (flush_over i) (ltb (length i.out) (flush_count i))) (ends_by held_now i.answers.first)
  answer_is = sound_answer i (is_sound_lem i.ring (length i.store) s)

  -- nothing is taken, and no answer counts too much
  none_taken : flush_over i ≡ false → flush_count i ≡ 0 → flush_answer i ≡ ends_by held_now i.answers.first
  none_taken o c = answer_is ∙ rw (o, c, le-ltb (length i.out) 0 (omega arith), late_none) (lowest_done _)

  -- nothing is held
  pub flush_empty : held_now ≡ 0 → ◌≡◌ {A = FlushLeft} (record { answer = told done; count = 0; ring = i.ring; out = i.out }) (flush_of i)
  flush_empty e =
      let c : flush_count i ≡ 0 = count_is ∙ when_true _ _ _ (eq-eqb held_now 0 e) in
      let o : flush_over i ≡ false = over_is ∙ rw (eq-eqb held_now 0 e) in
      let d : flush_answer i ≡ done = none_taken o c ∙ ends_none held_now i.answers.first e in
      ap (λ (r : TxBuf). record { answer = told done; count = 0; ring = r; out = i.out }) (sym (advanced_none i.ring w))
      ∙ sym (done_at_lem i 0 c) ∙ sym (flush_is_done i d)

  module _ (l : 0 < held_now) where
    -- the first write blocks or fails
    pub flush_stops : NotCount i.answers.first
        → ◌≡◌ {A = FlushLeft} (record { answer = told (stopped_by i.answers.first); count = 0; ring = i.ring; out = i.out }) (flush_of i)
    flush_stops k =
        let z : first_count ≡ 0 = takes_none i.answers.first k in
        let p = piece_some i.ring i.store s w l in
        let n : eqb first_count offered ≡ false = ne_eqb first_count offered (λ (u : first_count ≡ offered). omega arith) in
        let c : flush_count i ≡ 0 = count_some l ∙ rw (when_false _ _ _ n) (omega arith) in
        let o : flush_over i ≡ false = over_some l ∙ rw (le-ltb offered first_count (omega arith), n) in
        flush_refused i (stopped_by i.answers.first) (none_taken o c ∙ ends_some held_now i.answers.first l) (not_count_stops i.answers.first k)

    -- it counts more than was offered
    pub flush_bad : offered < first_count → ◌≡◌ {A = FlushLeft} (record { answer = told (Err BadAnswer); count = 0; ring = i.ring; out = i.out }) (flush_of i)
    flush_bad m =
        let o : flush_over i ≡ true = over_some l ∙ rw (lt-ltb offered first_count m) in
        flush_refused i (Err BadAnswer) (answer_is ∙ rw (o, late_over (ltb (length i.out) (flush_count i))) (lowest_refused (Err BadAnswer) _ refl)) refl

    -- the first write takes bytes: only 5 and 6 can refuse
    taking : (k : ℕ) → i.answers.first ≡ Count k → flush_answer i ≡ late_of (flush_over i) (ltb (length i.out) (flush_count i))
    taking k e = answer_is ∙ rw (ends_some held_now i.answers.first l, e) (lowest_end _)

    -- it takes a part of the piece
    pub flush_short : (k : ℕ) (piece : List ℕ) → i.answers.first ≡ Count k → k < offered → piece ≡ take k (first_piece i.ring i.store)
        → finish_of i.ring piece 0 0 i.out ≡ flush_of i
    unfolding finish_answer
    flush_short k piece e m f =
        let x : first_count ≡ k = ap counted e in
        let n : eqb first_count offered ≡ false = ne_eqb first_count offered (λ (u : first_count ≡ offered). omega arith) in
        let c : flush_count i ≡ k = count_some l ∙ rw (when_false _ _ _ n) (omega arith) in
        let o : flush_over i ≡ false = over_some l ∙ rw (le-ltb offered first_count (omega arith), n) in
        let h : piece ≡ take k (held i.ring i.store) = f ∙ ap (take k) (piece_held i.ring i.store s w) ∙ take-take k offered _ (omega arith) in
        let g : length piece ≡ k = ap length f ∙ length-take-le k _ (rw (piece_length i.ring i.store s w) (omega arith)) in
        let a : flush_answer i ≡ late_of false (ltb (length i.out) k) = taking k e ∙ rw (o, c) in
        finish_is i piece 0 0 i.out (rw g (sym a))
        (λ (d : flush_answer i ≡ done).
        let fits : k ≤ length i.out = ltb-false _ _ (late_passed _ _ (sym a ∙ d)).room_ok in
        (rw c (omega arith), rw c (copied_fits i.out piece (omega arith) ∙ rw (g, h))))
        (λ t. refl)

    -- ---- it takes the whole piece: the rule applied again to what is left

    module _ (k : ℕ) (e : i.answers.first ≡ Count k) (whole : k ≡ offered) where
      -- what the call on the rest is given
      abbrev rest_in : FlushIn
      rest_in = record {
        ring = advanced i.ring k;
        store = i.store;
        answers = record { first = i.answers.second; second = WouldBlock };
        out = drop (min k (length i.out)) i.out;
      }

      below_held : k ≤ held_now
      below_held = omega arith

      rest_offset : wadd i.ring.tail k % i.ring.size ≡ (i.ring.tail + offered) % i.ring.size
      rest_offset = keeps_place.sum i.ring.size i.ring.tail k s.sized ∙ ap (λ (x : ℕ). (i.ring.tail + x) % i.ring.size) whole

      rest_held : used_of (advanced i.ring k) ≡ held_now - offered
      rest_held = advanced_used i.ring i.store s w k below_held ∙ ap (λ (x : ℕ). held_now - x) whole

      rest_count : flush_count rest_in ≡ rest_taken
      unfolding flush_count
      rest_count =
          taken_last i.ring.size (wadd i.ring.tail k) (used_of (advanced i.ring k)) i.answers.second
          ∙ ap (λ (n : ℕ). taken_by i.ring.size (wadd i.ring.tail k) n (i.answers.second ∷ [])) rest_held
          ∙ taken_cong i.ring.size (i.answers.second ∷ []) (held_now - offered) _ _ rest_offset

      rest_counts_over : flush_over rest_in ≡ rest_over
      unfolding flush_over
      rest_counts_over =
          over_last i.ring.size (wadd i.ring.tail k) (used_of (advanced i.ring k)) i.answers.second
          ∙ ap (λ (n : ℕ). over_by i.ring.size (wadd i.ring.tail k) n (i.answers.second ∷ [])) rest_held
          ∙ over_cong i.ring.size (i.answers.second ∷ []) (held_now - offered) _ _ rest_offset

      first_whole : eqb first_count offered ≡ true
      first_whole = eq-eqb first_count offered (ap counted e ∙ whole)

      whole_count : flush_count i ≡ k + flush_count rest_in
      whole_count = count_some l ∙ rw (when_true _ _ _ first_whole, rest_count) (ap (λ (x : ℕ). x + rest_taken) (ap counted e))

      whole_over : flush_over i ≡ flush_over rest_in
      whole_over = over_some l ∙ rw (le-ltb offered first_count (let c = ap counted e in omega arith), first_whole, rest_counts_over)

      rest_sound : Fit (advanced i.ring k) (length i.store)
      rest_sound = advanced_sound i.ring i.store s w k below_held

      rest_room : length (drop (min k (length i.out)) i.out) ≡ length i.out - min k (length i.out)
      rest_room = length-drop (min k (length i.out)) i.out

      whole_answer : flush_answer i ≡ late_of (flush_over rest_in) (ltb (length i.out) (k + flush_count rest_in))
      whole_answer = taking k e ∙ rw (whole_over, whole_count)

      rest_answer : flush_answer rest_in ≡ lowest_of (late_of (flush_over rest_in) (ltb (length rest_in.out) (flush_count rest_in))) (ends_by (used_of (advanced i.ring k)) i.answers.second)
      rest_answer = sound_answer rest_in (is_sound_lem (advanced i.ring k) (length i.store) rest_sound)

      -- the call on the rest is refused by 5 or 6: it leaves the buffer, and its number decides
      refused_rest : (piece O : List ℕ) (r : FlushLeft) (a : Answer) → r ≡ flush_of rest_in → flush_answer rest_in ≡ a → is_done a ≡ false
          → O ≡ take (min k (length i.out)) i.out ++ r.out → finish_answer (told a).number (length piece) (length O) ≡ flush_answer i → is_done (flush_answer i) ≡ false
          → finish_of i.ring piece r.answer.number r.count O ≡ flush_of i
      refused_rest piece O r a f g n h j m =
          let x : r ≡ record { answer = told a; count = 0; ring = advanced i.ring k; out = rest_in.out } = f ∙ sym (flush_refused rest_in a g n) in
          let y : O ≡ i.out = h ∙ ap (λ (z : FlushLeft). take (min k (length i.out)) i.out ++ z.out) x ∙ take-append-drop (min k (length i.out)) i.out in
          rw (ap (λ (z : FlushLeft). z.answer.number) x)
          (finish_is i piece (told a).number r.count O j (λ (d : flush_answer i ≡ done). absurd (never (sym m ∙ ap is_done d ∙ done_is_done))) (λ t. y))

      over_answer : flush_over rest_in ≡ true → flush_answer i ≡ Err BadAnswer
      over_answer o = whole_answer ∙ rw o (late_over _)

      -- otherwise it counts what it took, behind the place of the piece
      rest_left : (r : FlushLeft) → r ≡ flush_of rest_in → flush_over rest_in ≡ false → flush_count rest_in ≤ length rest_in.out → RestLeft rest_in r
      rest_left r g o u =
          let a : flush_answer rest_in ≡ ends_by (used_of rest_in.ring) rest_in.answers.first =
          rest_answer ∙ rw (o, le-ltb (length rest_in.out) (flush_count rest_in) u, late_none) (lowest_done _) in
          ⊎_elim
          (λ (t : is_done (ends_by (used_of rest_in.ring) rest_in.answers.first) ≡ true).
          let x : r ≡ done_at rest_in (flush_count rest_in) = g ∙ flush_is_done rest_in (a ∙ is_done_lem _ t) ∙ done_at_lem rest_in (flush_count rest_in) refl in
          record {
            not_bad = ap (λ (z : FlushLeft). eqb z.answer.number 5) x;
            not_room = ap (λ (z : FlushLeft). eqb z.answer.number 6) x;
            count = ap (λ (z : FlushLeft). z.count) x;
            out = ap (λ (z : FlushLeft). z.out) x;
          })
          (λ (t : is_done (ends_by (used_of rest_in.ring) rest_in.answers.first) ≡ false).
          let x : r ≡ record { answer = told (ends_by (used_of rest_in.ring) rest_in.answers.first); count = 0; ring = rest_in.ring; out = rest_in.out } =
          g ∙ sym (flush_refused rest_in _ a t) in
          let z : flush_count rest_in ≡ 0 = rest_count ∙ nothing_taken _ _ _ _ (ends_stopped _ i.answers.second t) in
          let m = ends_number (used_of rest_in.ring) rest_in.answers.first in
          record {
            not_bad = ap (λ (y : FlushLeft). eqb y.answer.number 5) x ∙ m.0;
            not_room = ap (λ (y : FlushLeft). eqb y.answer.number 6) x ∙ m.1;
            count = ap (λ (y : FlushLeft). y.count) x ∙ sym z;
            out = ap (λ (y : FlushLeft). y.out) x ∙ rw z;
          })
          (true_or_false (is_done (ends_by (used_of rest_in.ring) rest_in.answers.first)))

      rest_le : flush_over rest_in ≡ false → flush_count rest_in ≤ used_of rest_in.ring
      unfolding flush_count flush_over
      rest_le o = taken_le rest_in.ring.size (in_turn rest_in) rest_in.ring.tail (used_of rest_in.ring) o

      passed_rest : (piece O : List ℕ) (r : FlushLeft) → piece ≡ first_piece i.ring i.store → flush_over rest_in ≡ false
          → flush_count rest_in ≤ length rest_in.out → RestLeft rest_in r → O ≡ take (min k (length i.out)) i.out ++ r.out
          → finish_of i.ring piece r.answer.number r.count O ≡ flush_of i
      unfolding finish_answer
      passed_rest piece O r f o u rest h =
          let room : ℕ = length i.out in
          let q : ℕ = min k room in
          let n : ℕ = flush_count rest_in in
          let hd : List ℕ = held i.ring i.store in
          let v : length rest_in.out ≡ room - q = rest_room in
          let g : length piece ≡ k = ap length f ∙ piece_length i.ring i.store s w ∙ sym whole in
          let le : n ≤ length (held rest_in.ring i.store) = rw (held_length rest_in.ring i.store) (rest_le o) in
          let lr : length r.out ≡ room - q =
          rw (rest.out, length-append, length-take-le n (held rest_in.ring i.store) le, length-drop n rest_in.out) (omega arith) in
          let lo : length O ≡ room = rw (h, length-append, length-take-le q i.out (omega arith)) (omega arith) in
          let same : ltb room k ≡ ltb room (k + n) =
          ⊎_elim
          (λ (x : room < k). lt-ltb room k x ∙ sym (lt-ltb room (k + n) (omega arith)))
          (λ (x : k ≤ room). le-ltb room k x ∙ sym (le-ltb room (k + n) (omega arith)))
          (lt_or_ge room k) in
          let a : flush_answer i ≡ late_of false (ltb room (k + n)) = whole_answer ∙ rw o in
          finish_is i piece r.answer.number r.count O (rw (rest.not_bad, rest.not_room, lo, g, same) (sym a))
          (λ (d : flush_answer i ≡ done).
          let fits : k + n ≤ room = ltb-false _ _ (late_passed _ _ (sym a ∙ d)).room_ok in
          let qk : q ≡ k = omega arith in
          let lt : length (take q i.out) ≡ k = length-take-le q i.out (omega arith) ∙ qk in
          let tail : drop k O ≡ take n (drop k hd) ++ drop n (drop k i.out) =
          ap (drop k) h ∙ drop_at (take q i.out) r.out k lt ∙ rest.out
          ∙ ap (λ (x : List ℕ). take n x ++ drop n rest_in.out) (advanced_held i.ring i.store s w k below_held)
          ∙ ap (λ (x : ℕ). take n (drop k hd) ++ drop n (drop x i.out)) qk in
          let front : piece ≡ take k hd = f ∙ piece_held i.ring i.store s w ∙ ap (λ (x : ℕ). take x hd) (sym whole) in (
            rw (g, rest.count) (sym whole_count),
            copied_fits O piece (omega arith)
                ∙ ap (λ (x : ℕ). piece ++ drop x O) g
                ∙ ap (λ (x : List ℕ). piece ++ x) tail
                ∙ ap (λ (x : List ℕ). x ++ (take n (drop k hd) ++ drop n (drop k i.out))) front
                ∙ sym (append_assoc (take k hd) (take n (drop k hd)) (drop n (drop k i.out)))
                ∙ ap (λ (x : List ℕ). x ++ drop n (drop k i.out)) (sym (take-add k n hd))
                ∙ ap (λ (x : List ℕ). take (k + n) hd ++ x) (drop-drop n k i.out)
                ∙ ap (λ (x : ℕ). take x hd ++ drop x i.out) (sym whole_count),
          ))
          (λ (t : is_done (flush_answer i) ≡ false).
          let over : room < k + n = no_room room (k + n) (ap is_done (sym a) ∙ t) in
          let z : n ≡ 0 = omega arith in
          h ∙ ap (λ (x : List ℕ). take q i.out ++ x) (rest.out ∙ rw z) ∙ take-append-drop q i.out)

      pub flush_whole : (piece O : List ℕ) (r : FlushLeft) → piece ≡ first_piece i.ring i.store → r ≡ flush_of rest_in
          → O ≡ take (min k (length i.out)) i.out ++ r.out
          → finish_of i.ring piece r.answer.number r.count O ≡ flush_of i
      unfolding finish_answer
      flush_whole piece O r f g h =
          let room : ℕ = length i.out in
          let q : ℕ = min k room in
          let n : ℕ = flush_count rest_in in
          ⊎_elim
          (λ (o : flush_over rest_in ≡ true).
          refused_rest piece O r (Err BadAnswer) g (rest_answer ∙ rw (o, late_over (ltb (length rest_in.out) n)) (lowest_refused (Err BadAnswer) _ refl)) refl h
          (late_over _ ∙ sym (over_answer o)) (ap is_done (over_answer o)))
          (λ (o : flush_over rest_in ≡ false).
          ⊎_elim
          (λ (u : length rest_in.out < n).
          let v = rest_room in
          let no : flush_answer i ≡ Err NoRoom = whole_answer ∙ rw (o, lt-ltb room (k + n) (omega arith)) late_room in
          refused_rest piece O r (Err NoRoom) g (rest_answer ∙ rw (o, lt-ltb (length rest_in.out) n u, late_room) (lowest_refused (Err NoRoom) _ refl)) refl h (late_room ∙ sym no) (ap is_done no))
          (λ (u : n ≤ length rest_in.out). passed_rest piece O r f o u (rest_left r g o u) h)
          (lt_or_ge (length rest_in.out) n))
          (true_or_false (flush_over rest_in))

      -- the same, of what the code has in hand: the part of the buffer that was lent, and how it came back
      pub whole_left : (piece X : List ℕ) (q : ℕ) (b : TxBuf) (rest : Result Flushed Refusal) → piece ≡ first_piece i.ring i.store → q ≡ min k (length i.out) → b ≡ advanced i.ring k
          → flush_seen b rest X
          ≡ flush_of (record { ring = b; store = i.store; answers = record { first = i.answers.second; second = WouldBlock }; out = take (length i.out - q) (drop q i.out) })
          → finish_of i.ring piece (told (answer_of rest)).number (flushed_or i.ring rest).count (take q i.out ++ (X ++ drop (length i.out - q) (drop q i.out))) ≡ flush_of i
      whole_left piece X q b rest f m d g =
          let v : length (drop q i.out) ≡ length i.out - q = length-drop q i.out in
          let lent : take (length i.out - q) (drop q i.out) ≡ drop (min k (length i.out)) i.out =
          take_all (length i.out - q) (drop q i.out) (omega arith) ∙ ap (λ (x : ℕ). drop x i.out) m in
          let back : X ++ drop (length i.out - q) (drop q i.out) ≡ X =
          ap (λ (x : List ℕ). X ++ x) (drop_of_length-le (drop q i.out) {i = length i.out - q} (omega arith)) ∙ append-nil X in
          ap (λ (n : ℕ). finish_of i.ring piece (told (answer_of rest)).number n (take q i.out ++ (X ++ drop (length i.out - q) (drop q i.out)))) (count_alike i.ring b rest)
          ∙ flush_whole piece (take q i.out ++ (X ++ drop (length i.out - q) (drop q i.out))) (flush_seen b rest X) f
          (g ∙ ap (λ (x : TxBuf). flush_of (record { ring = x; store = i.store; answers = record { first = i.answers.second; second = WouldBlock }; out = take (length i.out - q) (drop q i.out) })) d
          ∙ ap (λ (x : List ℕ). flush_of (record { ring = advanced i.ring k; store = i.store; answers = record { first = i.answers.second; second = WouldBlock }; out = x })) lent)
          (ap (λ (x : List ℕ). take q i.out ++ x) back ∙ ap (λ (x : ℕ). take x i.out ++ X) m)

      -- the piece and what the rest counts are no more than a ring
      pub rest_small : (piece : List ℕ) (b : TxBuf) (rest : Result Flushed Refusal) → piece ≡ first_piece i.ring i.store → b ≡ advanced i.ring k
          → (flushed_or b rest).count ≤ used_of b → length piece + (flushed_or i.ring rest).count ≤ max_ring
      rest_small piece b rest f d le =
          let g : length piece ≡ k = ap length f ∙ piece_length i.ring i.store s w ∙ sym whole in
          let u : used_of b ≡ held_now - k = ap used_of d ∙ advanced_used i.ring i.store s w k below_held in
          rw (count_alike i.ring b rest) (at_most (length piece) k (flushed_or b rest).count (used_of b) held_now i.ring.size g u below_held le s.within s.most)

      -- the held length falls
      pub held_falls : used_of (advanced i.ring k) < held_now
      held_falls =
          let p = piece_some i.ring i.store s w l in
          let u = advanced_used i.ring i.store s w k below_held in
          omega arith

-- ---- for the code

-- a first write that blocks or fails: what the code gives
pub stopped_left : (i : FlushIn) (a : Answer) (r : Result Flushed Refusal) → r ≡ result_and a (Ok (record { count = 0; ring = i.ring }))
    → ◌≡◌ {A = FlushLeft} (record { answer = told a; count = 0; ring = i.ring; out = i.out }) (flush_of i) → flush_seen i.ring r i.out ≡ flush_of i
stopped_left i (Ok u) r e f = rw e f
stopped_left i (Err q) r e f = rw e f

-- by the length of the first piece: something is held, or nothing
pub nothing_held : (b : TxBuf) (st : List ℕ) → Fit b (length st) → Wide b → length (first_piece b st) ≡ 0 → used_of b ≡ 0
nothing_held b st s w e =
    ⊎_elim
    (λ (l : 0 < used_of b). let p = piece_some b st s w l in let m = piece_length b st s w in absurd (omega arith))
    (λ (l : used_of b ≤ 0). omega arith)
    (lt_or_ge 0 (used_of b))

pub something_held : (b : TxBuf) (st : List ℕ) → Fit b (length st) → Wide b → (length (first_piece b st) ≡ 0 → ⊥) → 0 < used_of b
something_held b st s w n =
    ⊎_elim (λ (l : 0 < used_of b). l) (λ (l : used_of b ≤ 0). let m = piece_length b st s w in absurd (n (omega arith))) (lt_or_ge 0 (used_of b))

count_le : (i : FlushIn) → flush_answer i ≡ done → flush_count i ≤ used_of i.ring
unfolding flush_count flush_over
count_le i d = taken_le i.ring.size (in_turn i) i.ring.tail (used_of i.ring) (not_over i d)

-- no more is counted than is held
count_within : (i : FlushIn) → (flush_of i).count ≤ used_of i.ring
count_within i =
    ⊎_elim
    (λ (t : is_done (flush_answer i) ≡ true).
    let d = is_done_lem (flush_answer i) t in
    rw (flush_is_done i d, done_at_lem i (flush_count i) refl) (count_le i d))
    (λ (t : is_done (flush_answer i) ≡ false). rw (← flush_refused i (flush_answer i) refl t) (omega arith))
    (true_or_false (is_done (flush_answer i)))

pub count_small : (i : FlushIn) (left : FlushLeft) → FlushSays i left → left.count ≤ used_of i.ring
count_small i left e = rw (ap (λ (o : FlushLeft). o.count) e) (count_within i)

-- ---- the promises

-- for callers: the answer behind what is told
pub flush_answer_lem : (i : FlushIn) (left : FlushLeft) (a : Answer) → FlushSays i left → told a ≡ left.answer → a ≡ flush_answer i
flush_answer_lem i left a says e = told_tells_apart a (flush_answer i) (e ∙ ap (λ (o : FlushLeft). o.answer) says ∙ flush_told i)

-- a flush that is not done leaves everything
pub flush_kept_lem : (i : FlushIn) (left : FlushLeft) → FlushSays i left → is_done (flush_answer i) ≡ false → left.out ≡ i.out
flush_kept_lem i left says n = ap (λ (o : FlushLeft). o.out) (says ∙ sym (flush_refused i (flush_answer i) refl n))

oldest : (i : FlushIn) → Wide i.ring → TakesOldest i (flush_of i)
unfolding flush_done
oldest i w =
    ⊎_elim
    (λ (t : is_done (flush_answer i) ≡ true).
    let d = is_done_lem (flush_answer i) t in
    let hd : List ℕ = held i.ring i.store in
    rw (flush_is_done i d)
    (record {
      front = refl;
      rest =
          ap (λ (x : List ℕ). take (flush_count i) hd ++ x) (advanced_held i.ring i.store (sound_done i d) w (flush_count i) (count_le i d))
          ∙ take-append-drop (flush_count i) hd;
    }))
    (λ (t : is_done (flush_answer i) ≡ false). rw (← flush_refused i (flush_answer i) refl t) (record { front = refl; rest = refl }))
    (true_or_false (is_done (flush_answer i)))

pub flush_takes_oldest : FlushTakesOldest
flush_takes_oldest i left w says = rw says (oldest i w)

taken_some : (i : FlushIn) (n : ℕ) → i.answers.first ≡ Count (suc n) → 0 < used_of i.ring → 0 < flush_count i
unfolding flush_count taken_by
taken_some i n e l = rw (when_false _ _ _ (not_none (used_of i.ring) l)) (let c = ap counted e in omega arith)

fewer : (u n c : ℕ) → u ≡ n - c → 0 < c → 0 < n → u < n
fewer u n c e p q = omega arith

pub flush_progresses : FlushProgresses
flush_progresses i left n w says told_done e l =
    let d : flush_answer i ≡ done = told_tells_apart _ _ (sym (flush_told i) ∙ ap (λ (o : FlushLeft). o.answer) (sym says) ∙ told_done) in
    let u : used_of left.ring ≡ used_of i.ring - flush_count i =
    ap (λ (o : FlushLeft). used_of o.ring) (says ∙ flush_is_done i d ∙ done_at_lem i (flush_count i) refl)
    ∙ advanced_used i.ring i.store (sound_done i d) w (flush_count i) (count_le i d) in
    let p = taken_some i n e l in
    let q = count_le i d in
    fewer (used_of left.ring) (used_of i.ring) (flush_count i) u p l

pub first_piece_is_oldest : FirstPieceIsOldest
first_piece_is_oldest b store w s = piece_held b store (sound_says b (length store) ((sound_means.over b (length store)).1 s)) w

unsound_first : (b : TxBuf) (store : List ℕ) → (SoundOver b (length store) → ⊥) → first_piece b store ≡ []
unsound_first b store n =
    ⊎_elim
    (λ (t : sound_of b (length store) ≡ true). absurd (n ((sound_means.over b (length store)).0 t)))
    (λ (t : sound_of b (length store) ≡ false). sym (no_piece b store t))
    (true_or_false (sound_of b (length store)))

pub unsound_has_no_piece : UnsoundHasNoPiece
unfolding second_piece
unsound_has_no_piece = record {
  first = unsound_first;
  second = λ b store w n.
      let e = unsound_first b store n in
      ap (λ (p : List ℕ). first_piece (advanced b (length p)) store) e ∙ ap (λ (r : TxBuf). first_piece r store) (advanced_none b w) ∙ e;
}

-- what a flush that is done answers
pub flushed_told : (i : FlushIn) → flush_answer i ≡ done → (flush_of i).answer ≡ told done
flushed_told i d = flush_told i ∙ ap told d

-- a flush leaves 32-bit counters
pub flush_wide : (i : FlushIn) (left : FlushLeft) → Wide i.ring → FlushSays i left → Wide left.ring
unfolding flush_of flush_done flush_kept
flush_wide i left w says =
    rw says
    (⊎_elim
    (λ (t : is_done (flush_answer i) ≡ true).
    rw (when_done_lem (flush_answer i) (flush_done i) (flush_kept i) (is_done_lem _ t)) (record { head = w.head; tail = mod-lt (i.ring.tail + flush_count i) (omega arith) }))
    (λ (t : is_done (flush_answer i) ≡ false). rw (when_not_done (flush_answer i) (flush_done i) (flush_kept i) t) w)
    (true_or_false (is_done (flush_answer i))))

-- ---- both pieces

-- a piece is no longer than a ring
pub piece_small : (b : TxBuf) (st : List ℕ) → length (first_piece b st) ≤ max_ring
unfolding first_piece when
piece_small b st =
    ⊎_elim
    (λ (t : sound_of b (length st) ≡ true).
    let s = sound_says b (length st) t in
    rw t (simp length-take (omega arith)))
    (λ (t : sound_of b (length st) ≡ false). rw t zero-le)
    (true_or_false (sound_of b (length st)))

pub pieces_are_held : PiecesAreHeld
unfolding second_piece
pieces_are_held b store w t =
    let s = sound_says b (length store) t in
    let k : ℕ = piece_len b.size b.tail (used_of b) in
    let l : k ≤ used_of b = omega arith in
    let c : TxBuf = advanced b k in
    let wc : Wide c = record { head = w.head; tail = mod-lt (b.tail + k) (omega arith) } in
    let u = advanced_used b store s w k l in
    let m : length (drop k (held b store)) ≡ used_of b - k = length-drop k (held b store) ∙ ap (λ (x : ℕ). x - k) (held_length b store) in
    let p = s.least in
    let q : piece_len c.size c.tail (used_of c) ≡ used_of b - k =
    ap (piece_len c.size c.tail) u ∙ next_length b.size b.tail c.tail (used_of b) (omega arith) s.within (keeps_place.sum b.size b.tail k s.sized) in
    let r : first_piece c store ≡ drop k (held b store) =
    piece_held c store (advanced_sound b store s w k l) wc ∙ ap (take (piece_len c.size c.tail (used_of c))) (advanced_held b store s w k l)
    ∙ take_all (piece_len c.size c.tail (used_of c)) (drop k (held b store)) (omega arith) in
    rw (piece_length b store s w, r, piece_held b store s w) (take-append-drop k (held b store))
