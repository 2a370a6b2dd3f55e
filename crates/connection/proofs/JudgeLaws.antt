-- What a packet's header is judged by: the record, then the header's length, then clock and buffer. Assumes nothing.
use Rattle.std.proofs.Common.{◌≡◌, ℕ, ◌&&◌, Bool, true, false, not, List, length, refl, sym, ap}
use Rattle.std.specs.Prelude.{Ok, Err}
use Rattle.std.specs.Result.{result_and}
use Rattle.defs.specs.Choice.{when}
use Rattle.defs.specs.Answer.{Answer, done, is_done}
use Rattle.defs.specs.Ladder.{door_of, record_answer}
use Rattle.defs.specs.Limits.{is_header_length, is_clock}
use Rattle.defs.specs.declared.answer.Refusal.{Refusal}
use Rattle.defs.specs.declared.answer.Refusal.TheVariants.{BadHeader}
use Rattle.defs.proofs.Basics.{never}
use Rattle.packet.specs.Header.{decoded}
use Rattle.packet.specs.declared.hdr.VsockPacketHdr.{VsockPacketHdr}
use Rattle.rules.specs.Record.{sound_over}
use Rattle.rules.specs.Send.{too_long, send_door_of, send_door}
use Rattle.rules.specs.declared.record.VsockConnection.{VsockConnection}

-- ---- over the tests alone

unsound : (s h k l : Bool) (r : Refusal) → Err r ≡ record_answer s → Err r ≡ door_of (not s) (not h) k l
unfolding record_answer door_of when
unsound true h k l r e = absurd (never (ap is_done e))
unsound false h k l r e = e

sound : (s : Bool) → done ≡ record_answer s → s ≡ true
unfolding record_answer door_of when
sound true e = refl
sound false e = absurd (never (sym (ap is_done e)))

headless : (k l : Bool) → Err BadHeader ≡ door_of (not true) (not false) k l
unfolding door_of when
headless k l = refl

headed : (k l : Bool) → door_of false false k l ≡ door_of (not true) (not true) k l
headed k l = refl

-- ---- over what the call is given

-- the door's refusal is what is given, or the header where there is none
pub refused_by : {A : Type 0} (d : Answer) (x : A) (r : Refusal) → Err r ≡ d → Err r ≡ result_and d (Ok x)
refused_by d x r e = rw (← e) refl

pub given_by : {A : Type 0} (d : Answer) (x y : A) → done ≡ d → x ≡ y → Ok x ≡ result_and d (Ok y)
given_by d x y e f = rw (← e, f) refl

module _ (c : VsockConnection) (storage : ℕ) (hdr : List ℕ) (present : Bool) (buf clock : ℕ) where
  pub judged_record : (r : Refusal) (s : Bool) → Err r ≡ record_answer s → s ≡ sound_over c storage → Err r ≡ send_door c storage hdr present buf clock
  unfolding send_door send_door_of
  judged_record r s e f = rw (← f) (unsound s _ _ _ r e)

  pub judged_header : (r : Refusal) (s : Bool) → done ≡ record_answer s → s ≡ sound_over c storage → (is_header_length (length hdr) ≡ false) × (r ≡ BadHeader)
      → Err r ≡ send_door c storage hdr present buf clock
  unfolding send_door send_door_of
  judged_header r s e f h = rw (← f, h.0, h.1, sound s e) (headless _ _)

  pub judged_door : (a : Answer) (s k long : Bool) (pkt : VsockPacketHdr) → done ≡ record_answer s → s ≡ sound_over c storage
      → (is_header_length (length hdr) ≡ true) × (pkt ≡ decoded hdr) → long ≡ (present && too_long pkt buf) → k ≡ is_clock clock → a ≡ door_of false false (not k) long
      → a ≡ send_door c storage hdr present buf clock
  unfolding send_door send_door_of
  judged_door a s k long pkt e f h l m n = rw (n, ← f, h.0, sound s e, ← h.1, ← l, ← m) (headed _ _)
