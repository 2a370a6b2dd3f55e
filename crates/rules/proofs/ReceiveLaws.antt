-- What is known of a turn that is not refused. Assumes nothing.
use Prim.Native.Nat.{ℕ, ◌≤◌}
use mathlib.Core.Path.{◌≡◌}
use mathlib.Core.Logic.{⊎_elim}
use mathlib.Core.Bool.{Bool, true, false, not, ◌&&◌, ◌||◌}
use native.Mathlib.Omega.{arith}
use lib.Dec.{ltb, eqb}
use lib.ListN.{length}
use borrow.Author.Tests.{ltb-false, not-false}
use Rattle.defs.specs.Choice.{when}
use Rattle.defs.specs.Limits.{max_packet, header_size, is_packet_length}
use Rattle.defs.specs.Stream.{counted}
use Rattle.defs.specs.Answer.{done}
use Rattle.defs.proofs.Basics.{neither, true_or_false}
use Rattle.defs.proofs.LadderLaws.{lowest_passed, door_passed, late_passed}
use Rattle.defs.proofs.LimitLaws.{header_length, clock_within, packet_length}
use Rattle.csm.proofs.Promises.{says_what_was_read}
use Rattle.csm.proofs.TurnLaws.{absent_reads_not}
use Rattle.rules.specs.Record.{credit_of}
use Rattle.rules.specs.Receive.{Receivable, RecvIn, recv_door, reads_of, asked_of, recv_refusal, refusal_of, said_by}
use Rattle.rules.proofs.RecordLaws.{timeouts}

count_at_most : (i : RecvIn) → (said_by i).count ≤ when (reads_of i.conn i.present) (counted i.answer) 0
count_at_most i = says_what_was_read i.conn.pending_rx i.conn.state (eqb (credit_of i.conn) 0) i.present i.answer

-- ---- what a refusal that passed says

within : (reads : Bool) (asked n read k : ℕ) → reads && (ltb asked n || ltb read n) ≡ false → k ≤ when reads n 0 → (k ≤ asked) × (k ≤ read)
unfolding when
within true asked n read k e l =
    let f = neither _ _ e in
    let x = ltb-false asked n f.0 in
    let y = ltb-false read n f.1 in
    (omega arith, omega arith)
within false asked n read k e l = (omega arith, omega arith)

-- what is read lies within what was asked
pub asked_at_most : (i : RecvIn) → refusal_of i ≡ done → (said_by i).count ≤ when (reads_of i.conn i.present) (asked_of i.conn (length i.buf)) 0
unfolding recv_refusal when
asked_at_most i d = by (reads_of i.conn i.present) (late_passed _ _ (lowest_passed _ _ d).1).answer_ok (count_at_most i)
  where
    by : (reads : Bool) → reads && (ltb (asked_of i.conn (length i.buf)) (counted i.answer) || ltb (length i.read) (counted i.answer)) ≡ false
        → (said_by i).count ≤ when reads (counted i.answer) 0 → (said_by i).count ≤ when reads (asked_of i.conn (length i.buf)) 0
    by true e l = (within true _ _ _ _ e l).0
    by false e l = l

pub record Passed (i : RecvIn) : Type 0 where
  pub header : length i.hdr ≡ header_size
  pub in_buffer : (said_by i).count ≤ length i.buf
  pub supplied : (said_by i).count ≤ length i.read
  pub receivable : Receivable i.conn (said_by i) i.clock

small : (i : RecvIn) → i.present && not (is_packet_length (length i.buf)) ≡ false → (said_by i).count ≤ length i.buf → (said_by i).count ≤ max_packet
unfolding when
small i e l =
    ⊎_elim
    (λ (t : i.present ≡ true). let m = (packet_length (length i.buf)).0 (not-false _ (simp t at e)) in omega arith)
    (λ (t : i.present ≡ false).
    let z : reads_of i.conn i.present ≡ false = absent_reads_not _ _ _ _ t in
    let n : (said_by i).count ≤ 0 = rw z at (count_at_most i) in
    omega arith)
    (true_or_false i.present)

pub passed : (i : RecvIn) → refusal_of i ≡ done → Passed i
unfolding recv_refusal recv_door
passed i d =
    let u = lowest_passed _ _ d in
    let p = door_passed _ _ _ _ u.0 in
    let o = (late_passed _ _ u.1).answer_ok in
    let f = within (reads_of i.conn i.present) (asked_of i.conn (length i.buf)) (counted i.answer) (length i.read) (said_by i).count o (count_at_most i) in
    let b : (said_by i).count ≤ length i.buf = let x = f.0 in omega arith in
    let t = timeouts i.conn (not-false _ p.record_ok) in
    record {
      header = (header_length _).0 (not-false _ p.header_ok);
      in_buffer = b;
      supplied = f.1;
      receivable = record { clocked = (clock_within _).0 (not-false _ p.clock_ok); wait = t.0; linger = t.1; count = small i p.length_ok b };
    }
