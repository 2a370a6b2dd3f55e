-- Laws of `push`: the two runs that the code makes, what each answer says of the record, and that a push appends. Assumes nothing.
use Rattle.std.specs.Prelude.{Ok, Err}
use Prim.Native.Nat.{ℕ, ◌+◌, ◌-◌, ◌%◌, ◌^◌, ◌<◌, ◌≤◌, min}
use mathlib.Core.Path.{◌≡◌, refl, sym, ap, ◌∙◌}
use mathlib.Core.Logic.{⊎_elim}
use mathlib.Core.List.{List, [], ◌++◌, append-nil}
use native.Mathlib.Omega.{arith}
use lib.ListN.{length, take, drop, length-drop, drop_of_length-le}
use lib.Seq.{take_all}
use borrow.Author.Tests.{le-ltb}
use Rattle.defs.specs.Choice.{when}
use Rattle.defs.specs.Answer.{done, when_done}
use Rattle.defs.specs.declared.answer.Refusal.{Refusal}
use Rattle.defs.specs.Ladder.{door_of, lowest_of}
use Rattle.defs.specs.Wrapping.{wadd, wsub}
use Rattle.defs.specs.Copying.{copied}
use Rattle.defs.proofs.Basics.{lt_or_ge}
use Rattle.defs.proofs.AnswerLaws.{when_done_lem, told_tells_apart}
use Rattle.defs.proofs.LimitLaws.{packet_length}
use Rattle.defs.proofs.WrappingLaws.{keeps_place}
use Rattle.txbuf.specs.Record.{Wide, used_of, held_from, held}
use Rattle.txbuf.specs.Push.{runs, written, PushIn, PushLeft, push_seen, push_answer, push_answer_of, push_done, push_kept, push_of}
use Rattle.txbuf.specs.Promises.{PushAppends}
use Rattle.txbuf.specs.declared.record.TxBuf.{TxBuf}
use Rattle.txbuf.proofs.RecordLaws.{Fit, is_sound_lem, used_after}
use Rattle.txbuf.proofs.AnswerLaws.{push_told, Ready, ready}
use Rattle.txbuf.proofs.RingLaws.{write_cong, held_write, runs_written}

-- ---- the code's two copies

-- y is what the part from `at` on is left as, z the whole storage after the second copy
pub runs_are : (st src y z : List ℕ) (at n : ℕ) → n ≡ min (length src) (length st - at)
    → y ≡ copied (take (length st - at) (drop at st)) src
    → z ≡ copied (take at st ++ (y ++ drop (length st - at) (drop at st))) (take (length src - n) (drop n src))
    → z ≡ runs st at src
unfolding runs
runs_are st src y z at n e f g =
    let k : ℕ = length st - at in
    let d : length (drop at st) ≡ k = length-drop at st in
    let l : length (drop n src) ≡ length src - n = length-drop n src in
    let tail : drop k (drop at st) ≡ [] = drop_of_length-le (drop at st) {i = k} (omega arith) in
    let left : drop n src ≡ drop k src =
    ⊎_elim
    (λ (u : k < length src). ap (λ (j : ℕ). drop j src) (let s : n ≡ k = omega arith in s))
    (λ (u : length src ≤ k). drop_of_length-le src {i = n} (omega arith) ∙ sym (drop_of_length-le src {i = k} u))
    (lt_or_ge k (length src)) in
    g
    ∙ ap (λ (x : List ℕ). copied (take at st ++ x) (take (length src - n) (drop n src))) (ap (λ (x : List ℕ). y ++ x) tail ∙ append-nil y ∙ f)
    ∙ ap (λ (x : List ℕ). copied (take at st ++ copied x src) (take (length src - n) (drop n src))) (take_all k (drop at st) (omega arith))
    ∙ ap (copied (take at st ++ copied (drop at st) src)) (take_all (length src - n) (drop n src) (omega arith) ∙ left)

-- ---- what a push needs to be done

pub is_ready : (b : TxBuf) (storage bytes : ℕ) → Ready b storage bytes → push_answer b storage bytes ≡ done
unfolding push_answer lowest_of door_of when_done when
is_ready b storage bytes r = simp (is_sound_lem b storage r.sound, (packet_length bytes).1 r.short, le-ltb _ _ r.room)

-- ---- the two ends of a call

pub push_refused : (i : PushIn) (r : Refusal) → push_answer_of i ≡ Err r → push_seen i.ring (Err r) i.store ≡ push_of i
unfolding push_of push_kept when_done when
push_refused i r e = rw e refl

pub push_is_done : (i : PushIn) → push_answer_of i ≡ done → push_of i ≡ push_done i
unfolding push_of
push_is_done i d = when_done_lem (push_answer_of i) _ _ d

pub push_left : (i : PushIn) (h : ℕ) (x : List ℕ) → push_answer_of i ≡ done → h ≡ wadd i.ring.head (length i.src) → x ≡ runs i.store (i.ring.head % i.ring.size) i.src
    → push_seen i.ring (Ok (record { size = i.ring.size; head = h; tail = i.ring.tail })) x ≡ push_of i
unfolding push_done
push_left i h x d f g = rw (push_is_done i d, f, g)

-- ---- a push appends

-- the head lies as many bytes past the tail as are held
pub head_at : (b : TxBuf) (n : ℕ) → Fit b n → b.tail < 2 ^ 32 → b.head % b.size ≡ (b.tail + used_of b) % b.size
head_at b n s t = sym (keeps_place.difference b.size b.head b.tail s.sized t) ∙ ap (λ (k : ℕ). k % b.size) (let e : used_of b + b.tail ≡ b.tail + used_of b = omega arith in e)

push_done_appends : (i : PushIn) → Wide i.ring → push_answer_of i ≡ done → held (push_of i).ring (push_of i).store ≡ held i.ring i.store ++ i.src
unfolding held push_done
push_done_appends i wide d =
    let b = i.ring in
    let st : List ℕ = i.store in
    let src : List ℕ = i.src in
    let r = ready b (length st) (length src) d in
    let w : length st ≡ b.size = r.sound.whole in
    let u : wsub (wadd b.head (length src)) b.tail ≡ used_of b + length src = used_after b.head b.tail (length src) wide.head wide.tail (let s = r.sound in omega arith) in
    let x : runs st (b.head % b.size) src ≡ written st b.size (b.tail + used_of b) src =
    runs_written st src b.head b.size w (let s = r.sound in omega arith) (omega arith)
    ∙ write_cong b.size src st _ _ (head_at b (length st) r.sound wide.tail) in
    rw (push_is_done i d)
    (ap (λ (n : ℕ). held_from (runs st (b.head % b.size) src) b.size b.tail n) u
    ∙ ap (λ (y : List ℕ). held_from y b.size b.tail (used_of b + length src)) x
    ∙ held_write b.size src st b.tail (used_of b) (omega arith) w)

pub push_appends : PushAppends
push_appends i left wide says e =
    let d : push_answer_of i ≡ done = told_tells_apart _ _ (sym (push_told i) ∙ ap (λ (o : PushLeft). o.answer) (sym says) ∙ e) in
    rw says (push_done_appends i wide d)
