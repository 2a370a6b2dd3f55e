-- `recv_pkt`, put together as the code does. Assumes nothing.
use Prim.Native.Nat.{ℕ, min, ◌<◌, ◌≤◌}
use Rattle.std.proofs.Common.{refl, ⊎_elim, lt-ltb}
use Rattle.std.specs.Prelude.{Err}
use Rattle.std.specs.Result.{result_and}
use Rattle.defs.specs.Stream.{counted}
use Rattle.defs.specs.declared.answer.Refusal.{Refusal}
use mathlib.Core.Path.{◌≡◌, sym, ap, ◌∙◌}
use mathlib.Core.Bool.{Bool, true, false, ◌&&◌, ◌||◌}
use mathlib.Core.List.{List, ◌++◌}
use native.Mathlib.Omega.{arith}
use lib.Dec.{ltb}
use lib.ListN.{length, take, drop}
use lib.Seq.{length-take-le}
use borrow.Author.Tests.{le-ltb}
use Rattle.defs.specs.Choice.{when}
use Rattle.defs.specs.Answer.{told, is_done, Answer, done}
use Rattle.defs.specs.Ladder.{late_of}
use Rattle.defs.specs.Copying.{copied}
use Rattle.defs.specs.declared.stream.StreamAnswer.{StreamAnswer}
use Rattle.defs.specs.declared.stream.StreamAnswer.TheVariants.{Count}
use Rattle.defs.proofs.Basics.{and_false, lt_or_ge}
use Rattle.defs.proofs.AnswerLaws.{told_tells_apart, when_done_lem, when_not_done}
use Rattle.defs.proofs.LadderLaws.{lowest_refused, lowest_done}
use Rattle.defs.proofs.StreamLaws.{NotCount, takes_none}
use Rattle.defs.proofs.CopyLaws.{copied_fits}
use Rattle.packet.specs.Header.{EncodeLeft, EncodeSays, encoded}
use Rattle.packet.specs.declared.hdr.VsockPacketHdr.{VsockPacketHdr}
use Rattle.packet.proofs.HeaderLaws.{encode_done}
use Rattle.csm.specs.declared.row.Row.{Row}
use Rattle.rules.specs.Receive.{received_of, header_of, RecvIn, RecvLeft, recv_door, reads_of, asked_of, recv_refusal, refusal_of, said_by, recv_done, recv_kept, recv_of}
use Rattle.rules.specs.declared.record.VsockConnection.{VsockConnection}
use Rattle.rules.proofs.ReceiveLaws.{passed}

-- ---- the refusal, put together as the code does

module _ (c : VsockConnection) (hdr : ℕ) (present : Bool) (buf clock : ℕ) (a : StreamAnswer) (read : ℕ) where
  pub refused_door : (r : Refusal) → Err r ≡ recv_door c hdr present buf clock → Err r ≡ recv_refusal c hdr present buf clock a read
  unfolding recv_refusal
  refused_door r e = rw (← e) (sym (lowest_refused (Err r) _ refl))

  -- past the door
  passes : (l : Answer) → done ≡ recv_door c hdr present buf clock → l ≡ late_of (reads_of c present && (ltb (asked_of c buf) (counted a) || ltb read (counted a))) false
      → l ≡ recv_refusal c hdr present buf clock a read
  unfolding recv_refusal
  passes l e f = rw (← e) (f ∙ sym (lowest_done _))

  pub not_read : done ≡ recv_door c hdr present buf clock → reads_of c present ≡ false → done ≡ recv_refusal c hdr present buf clock a read
  unfolding late_of when
  not_read e f = passes done e (rw f refl)

  pub not_counted : done ≡ recv_door c hdr present buf clock → NotCount a → done ≡ recv_refusal c hdr present buf clock a read
  unfolding late_of when
  not_counted e k = passes done e (rw (takes_none a k, le-ltb (asked_of c buf) 0 (omega arith), le-ltb read 0 (omega arith), and_false (reads_of c present)) refl)

  pub counts : (l : Answer) (n m : ℕ) → done ≡ recv_door c hdr present buf clock → reads_of c present ≡ true → a ≡ Count n → m ≡ asked_of c buf
      → l ≡ late_of (ltb (min m read) n) false → l ≡ recv_refusal c hdr present buf clock a read
  counts l n m e f g h k = passes l e (k ∙ rw (f, g, ← h) (ap (λ (t : Bool). late_of t false) (below_either m read n)))
    where
      below_either : (x y z : ℕ) → ltb (min x y) z ≡ ltb x z || ltb y z
      below_either x y z =
          ⊎_elim
          (λ (l : x < z). rw (lt-ltb x z l) (lt-ltb (min x y) z (omega arith)))
          (λ (l : z ≤ x).
          ⊎_elim
          (λ (u : y < z). rw (le-ltb x z l, lt-ltb y z u) (lt-ltb (min x y) z (omega arith)))
          (λ (u : z ≤ y). rw (le-ltb x z l, le-ltb y z u) (le-ltb (min x y) z (omega arith)))
          (lt_or_ge y z))
          (lt_or_ge x z)

-- ---- the two ends of the call

pub recv_kept_lem : (i : RecvIn) (a : Answer) → a ≡ refusal_of i → is_done a ≡ false
    → ◌≡◌ {A = RecvLeft} (record { answer = told a; conn = i.conn; hdr = i.hdr; buf = i.buf }) (recv_of i)
unfolding recv_of recv_kept
recv_kept_lem i a e n =
    ap (λ (x : Answer). record { answer = told x; conn = i.conn; hdr = i.hdr; buf = i.buf }) e
    ∙ sym (when_not_done (refusal_of i) _ _ (ap is_done (sym e) ∙ n))

pub recv_left : (i : RecvIn) (r e : Answer) (row : Row) (h : VsockPacketHdr) (H B : List ℕ) (c : VsockConnection) (said : Answer) → r ≡ refusal_of i → r ≡ done → row ≡ said_by i
    → h ≡ header_of i.conn row → EncodeSays (record { hdr = h; out = i.hdr }) (record { answer = told e; out = H })
    → B ≡ copied i.buf (take row.count i.read) → c ≡ received_of i.conn row i.clock → said ≡ result_and e row.answer
    → ◌≡◌ {A = RecvLeft} (record { answer = told said; conn = c; hdr = H; buf = B }) (recv_of i)
unfolding recv_of recv_done
recv_left i r e row h H B c said f d g j k m n t =
    let s = passed i (sym f ∙ d) in
    let x : H ≡ encoded (header_of i.conn (said_by i)) =
    ap (λ (o : EncodeLeft). o.out) (k ∙ encode_done h i.hdr s.header) ∙ ap encoded (j ∙ ap (header_of i.conn) g) in
    let l : length (take (said_by i).count i.read) ≡ (said_by i).count = length-take-le _ i.read s.supplied in
    let y : B ≡ take (said_by i).count i.read ++ drop (said_by i).count i.buf =
    m ∙ ap (λ (z : Row). copied i.buf (take z.count i.read)) g ∙ copied_fits i.buf _ (let b = s.in_buffer in omega arith)
    ∙ ap (λ (z : ℕ). take (said_by i).count i.read ++ drop z i.buf) l in
    let z : e ≡ done = told_tells_apart e done (ap (λ (o : EncodeLeft). o.answer) (k ∙ encode_done h i.hdr s.header)) in
    let u : said ≡ row.answer = t ∙ ap (λ (q : Answer). result_and q row.answer) z in
    rw (u, x, y, n, g) (sym (when_done_lem (refusal_of i) _ _ (sym f ∙ d)))
