-- Every public call is pinned by its own contract, which only proofs/ can name (`Learnt`: what a caller learns of it). Assumes nothing.
use Rattle.defs.specs.Answer.{told}
use Rattle.defs.specs.Pinned.{Pinned}
use Rattle.packet.specs.Header.{told_decoded, DecodeLeft, EncodeLeft}
use Rattle.packet.specs.declared.hdr.VsockPacketHdr.{VsockPacketHdr}
use Rattle.defs.proofs.Pins.{by_equation}
use Rattle.packet.proofs.hdr.decode.Reads as decode
use Rattle.packet.proofs.hdr.encode.Reads as encode
use Rattle.packet.proofs.hdr.VsockPacketHdr.set_flag.Reads as set_flag

-- any two outcomes that meet a call's contract are identical: what it gives back, its answer by `told`, and what it leaves behind each `&mut`; the first parameter's end is `e.0`, the second's `e.1.0`
pub record EachCallPinned : Type 0 where
  pub decode : Pinned decode.Learnt DecodeLeft (λ l r e. told_decoded r)
  pub encode : Pinned encode.Learnt EncodeLeft (λ l r e. record { answer = told r; out = e.1.0.now })
  pub set_flag : Pinned set_flag.Learnt VsockPacketHdr (λ l r e. r)

pub each_call_pinned : EachCallPinned
each_call_pinned = record {
  decode = by_equation _ _ _;
  encode = by_equation _ _ _;
  set_flag = by_equation _ _ _;
}
