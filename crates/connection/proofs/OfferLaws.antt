-- Laws of what a call would offer or ask. Assumes nothing.
use Rattle.std.proofs.Common.{◌≡◌, ℕ, ◌<◌, ◌≤◌, min, Bool, true, false, List, [], length, take, refl, sym, ap, ◌∙◌, ⊎_elim, arith, take_all}
use Rattle.std.specs.Prelude.{Option, Err, is_some, unwrap_or}
use Rattle.std.specs.Bool.{then_some}
use Rattle.defs.specs.Choice.{when}
use Rattle.defs.specs.Answer.{told, done}
use Rattle.defs.specs.declared.answer.Refusal.{Refusal}
use Rattle.defs.proofs.Basics.{lt_or_ge}
use Rattle.defs.proofs.ChoiceLaws.{when_true, when_false}
use Rattle.defs.proofs.LadderLaws.{record_is_done}
use Rattle.packet.specs.Header.{decoded}
use Rattle.packet.specs.declared.hdr.VsockPacketHdr.{VsockPacketHdr}
use Rattle.rules.specs.Record.{sound_over}
use Rattle.rules.specs.Send.{writes_of, send_door}
use Rattle.rules.specs.Receive.{recv_door, reads_of, asked_of}
use Rattle.rules.specs.Notify.{flush_due, notify_door}
use Rattle.rules.specs.Offer.{send_writes, send_offered, AskedLeft, recv_reads, recv_asked, notify_flushes}
use Rattle.rules.specs.declared.record.VsockConnection.{VsockConnection}

-- no more of a list than there is
short : (n : ℕ) (l : List ℕ) → take (min (length l) n) l ≡ take n l
short n l =
    ⊎_elim
    (λ (t : n < length l). let e : min (length l) n ≡ n = omega arith in ap (λ (k : ℕ). take k l) e)
    (λ (t : length l ≤ n). take_all (min (length l) n) l (omega arith) ∙ sym (take_all n l t))
    (lt_or_ge n (length l))

-- ---- `send_pkt`

module _ (c : VsockConnection) (storage : ℕ) (hdr : List ℕ) (present : Bool) (clock : ℕ) where
  pub writes_in : (buf : ℕ) (pkt : VsockPacketHdr) → (send_door c storage hdr present buf clock ≡ done) × (pkt ≡ decoded hdr)
      → writes_of c pkt.op present ≡ send_writes c storage hdr present buf clock
  unfolding send_writes
  writes_in buf pkt k = rw (k.0, k.1) refl

  pub no_write : (buf : ℕ) (r : Refusal) → send_door c storage hdr present buf clock ≡ Err r → false ≡ send_writes c storage hdr present buf clock
  unfolding send_writes
  no_write buf r e = rw e refl

  pub nothing_offered : (buf : List ℕ) → false ≡ send_writes c storage hdr present (length buf) clock → [] ≡ send_offered c storage hdr present buf clock
  unfolding send_offered
  nothing_offered buf e = sym (when_false _ [] _ (sym e))

  pub front_offered : (buf : List ℕ) (n : ℕ) (pkt : VsockPacketHdr) → true ≡ send_writes c storage hdr present (length buf) clock → pkt ≡ decoded hdr → n ≡ min (length buf) pkt.len
      → take n buf ≡ send_offered c storage hdr present buf clock
  unfolding send_offered
  front_offered buf n pkt e f g =
      ap (λ (k : ℕ). take k buf) g ∙ short pkt.len buf ∙ ap (λ (p : VsockPacketHdr). take p.len buf) f
      ∙ sym (when_true (take (decoded hdr).len buf) [] _ (sym e))

-- ---- `recv_pkt`

pub asks : (c : VsockConnection) (hdr : ℕ) (present : Bool) (buf clock : ℕ) (reads : Bool) (n : ℕ) (t : Option ℕ) → done ≡ recv_door c hdr present buf clock
    → reads ≡ reads_of c present → n ≡ asked_of c buf → t ≡ then_some reads n
    → ◌≡◌ {A = AskedLeft} (record { answer = told done; reads = is_some t; count = unwrap_or t 0 }) (recv_asked c hdr present buf clock)
unfolding recv_asked recv_reads when
asks c hdr present buf clock reads n t e f g h = rw (h, ← e, ← f, ← g) (by reads)
  where
    by : (b : Bool) → ◌≡◌ {A = AskedLeft} (record { answer = told done; reads = is_some (then_some b n); count = unwrap_or (then_some b n) 0 }) (record { answer = told done; reads = b; count = when b n 0 })
    by true = refl
    by false = refl

pub asks_not : (c : VsockConnection) (hdr : ℕ) (present : Bool) (buf clock : ℕ) (r : Refusal) → Err r ≡ recv_door c hdr present buf clock
    → ◌≡◌ {A = AskedLeft} (record { answer = told (Err r); reads = false; count = 0 }) (recv_asked c hdr present buf clock)
unfolding recv_asked recv_reads when
asks_not c hdr present buf clock r e = rw (← e) refl

-- ---- `notify`

pub flushes_by : (c : VsockConnection) (writable : Bool) (storage : ℕ) → sound_over c storage ≡ true → flush_due c writable ≡ notify_flushes c writable storage
unfolding notify_flushes notify_door
flushes_by c writable storage e = rw (record_is_done (sound_over c storage), e) refl

pub no_flush : (c : VsockConnection) (writable : Bool) (storage : ℕ) → sound_over c storage ≡ false → false ≡ notify_flushes c writable storage
unfolding notify_flushes notify_door
no_flush c writable storage e = rw (record_is_done (sound_over c storage), e) refl
