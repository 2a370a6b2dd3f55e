-- What is known of a packet that is not refused. Assumes nothing.
use Prim.Native.Nat.{ℕ, ◌+◌, ◌-◌, ◌≤◌, zero-le}
use mathlib.Core.Path.{◌≡◌}
use mathlib.Core.Bool.{Bool, true, false, not, ◌&&◌, ◌||◌}
use native.Mathlib.Omega.{arith}
use lib.Dec.{ltb, eqb}
use lib.ListN.{length}
use lib.Seq.{length-take-le}
use borrow.Author.Tests.{ltb-false, not-true, not-false}
use Rattle.defs.specs.Choice.{when}
use Rattle.defs.specs.Limits.{max_packet, is_packet_length}
use Rattle.defs.specs.Answer.{done}
use Rattle.defs.proofs.Basics.{never, neither}
use Rattle.defs.proofs.LadderLaws.{lowest_passed, door_passed, late_passed}
use Rattle.defs.proofs.LimitLaws.{clock_within, packet_length}
use Rattle.packet.specs.Uapi.{op_rw}
use Rattle.txbuf.specs.Record.{used_of}
use Rattle.txbuf.proofs.RecordLaws.{Fit}
use Rattle.txbuf.proofs.PushLaws.{is_ready}
use Rattle.csm.specs.State.{takes}
use Rattle.rules.specs.Send.{goes_of, plan_of, kills_of, send_door_of, send_late, send_door, Killable, Lingers, Carries, SendIn, pkt_of, send_plan, send_answer, payload, send_kills}
use Rattle.rules.proofs.RecordLaws.{sound_over_says}

-- ---- what a refusal that passed says

-- data that goes lies in the buffer
in_buffer : (t present is_rw : Bool) (buf len : ℕ) → present && (not (is_packet_length buf) || is_rw && ltb buf len) ≡ false
    → (when (t && present && is_rw) len 0 ≤ buf) × (when (t && present && is_rw) len 0 ≤ max_packet)
unfolding when
in_buffer true true true buf len e =
    let n = neither (not (is_packet_length buf)) (ltb buf len) e in
    let l = ltb-false buf len n.1 in
    let m = (packet_length buf).0 (not-false _ n.0) in
    (omega arith, omega arith)
in_buffer true true false buf len e = (zero-le, zero-le)
in_buffer true false is_rw buf len e = (zero-le, zero-le)
in_buffer false present is_rw buf len e = (zero-le, zero-le)

pub record Passed (i : SendIn) : Type 0 where
  pub sound : Fit i.conn.tx_buf (length i.store)
  pub killable : Killable (send_plan i)
  pub lingers : Lingers i.conn i.clock
  pub part : (send_plan i).len ≤ length i.buf
  pub room : (send_plan i).written ≤ length i.out

pub passed : (i : SendIn) → send_answer i ≡ done → Passed i
unfolding send_answer send_door send_door_of send_late plan_of goes_of
passed i d =
    let u = lowest_passed _ _ d in
    let p = door_passed _ _ _ _ u.0 in
    let l = late_passed _ _ u.1 in
    let s = sound_over_says i.conn (length i.store) (not-false _ p.record_ok) in
    let b = in_buffer (takes i.conn.state) i.present (eqb (pkt_of i).op op_rw) (length i.buf) (pkt_of i).len p.length_ok in
    record {
      sound = s.0;
      killable = (ltb-false _ _ l.answer_ok, b.1);
      lingers = ((clock_within _).0 (not-false _ p.clock_ok), s.1.1);
      part = b.0;
      room = ltb-false _ _ l.room_ok;
    }

-- what is kept has room in the ring
room_left : (goes broken full : Bool) → goes && not (goes && (broken || full)) ≡ true → full ≡ false
room_left true broken full e = (neither broken full (not-true (broken || full) e)).1
room_left false broken full e = absurd (never e)

pub carries : (i : SendIn) → Passed i → Carries i.conn.tx_buf i.store (payload i) (send_plan i).written ((send_plan i).goes && not (send_kills i)) i.out
unfolding kills_of
carries i s =
    let l : length (payload i) ≡ (send_plan i).len = length-take-le _ i.buf s.part in
    let k = s.killable in
    record {
      part = omega arith;
      room = s.room;
      pushes = λ e.
          let f : used_of i.conn.tx_buf + ((send_plan i).len - (send_plan i).written) ≤ i.conn.tx_buf.size =
          ltb-false _ _ (room_left (send_plan i).goes (send_plan i).broken _ e) in
          let w = s.sound.whole in
          is_ready _ _ _ (record { sound = s.sound; short = omega arith; room = omega arith });
    }
