-- What this crate promises, in statements only; proofs/Promises has a line for each. Assumes nothing.
use Rattle.std.specs.Prelude.{ℕ, ◌/◌, ◌%◌, ◌^◌, ◌<◌, ◌≡◌, ◌⊎◌, List, [], ◌∷◌, length, get_or, replicate, Result}
use Rattle.defs.specs.Answer.{told, done}
use Rattle.defs.specs.Limits.{header_size}
use Rattle.defs.specs.Promises.{Exactly, AnswersInTurn, Refuses}
use Rattle.defs.specs.Reading.{Hold}
use Rattle.defs.specs.declared.answer.Refusal.{Refusal}
use Rattle.packet.specs.Le.{offsets, num_at}
use Rattle.packet.specs.Uapi.{op_request, op_response, op_rst, op_shutdown, op_rw, op_credit_update, op_credit_request, type_stream, flag_shutdown_rcv, flag_shutdown_send}
use Rattle.packet.specs.Header.{layout, fields, flagged, told_decoded, DecodeLeft, decode_of, DecodeSays, EncodeIn, EncodeLeft, encode_of, EncodeSays}
use Rattle.packet.specs.Edges.{reading_a, wrong_lengths}
use Rattle.packet.specs.declared.hdr.VsockPacketHdr.{VsockPacketHdr}

-- every element is a byte
abbrev pub Bytes : List ℕ → Type 0
Bytes s = (k : ℕ) → get_or s k 0 < 256

-- each number fits its width
abbrev pub Fit : List ℕ → List ℕ → Type 0
Fit [] [] = Unit
Fit [] (n ∷ ns) = ⊥
Fit (w ∷ ws) [] = ⊥
Fit (w ∷ ws) (n ∷ ns) = (n < 256 ^ w) × Fit ws ns

-- the widths put each field where 01 and the standard have it, and end at the header's length
abbrev pub FieldsStandAt : Type 0
FieldsStandAt = offsets 0 layout ≡ 0 ∷ 8 ∷ 16 ∷ 20 ∷ 24 ∷ 28 ∷ 30 ∷ 32 ∷ 36 ∷ 40 ∷ header_size ∷ []

-- and of 44 bytes decode gives the little-endian number that stands at each field's place
abbrev pub DecodeReads : Type 0
DecodeReads =
    (bytes : List ℕ) (left : DecodeLeft) → DecodeSays bytes left → left.answer.number ≡ 0
    → left.hdr ≡ record {
      src_cid = num_at bytes 0 8;
      dst_cid = num_at bytes 8 8;
      src_port = num_at bytes 16 4;
      dst_port = num_at bytes 20 4;
      len = num_at bytes 24 4;
      type_ = num_at bytes 28 2;
      op = num_at bytes 30 2;
      flags = num_at bytes 32 4;
      buf_alloc = num_at bytes 36 4;
      fwd_cnt = num_at bytes 40 4;
    }

-- 01 and the standard: the numbers of the ops, of a stream's type and of a SHUTDOWN's flags
pub record NumbersAre : Type 0 where
  pub request : op_request ≡ 1
  pub response : op_response ≡ 2
  pub rst : op_rst ≡ 3
  pub shutdown : op_shutdown ≡ 4
  pub rw : op_rw ≡ 5
  pub credit_update : op_credit_update ≡ 6
  pub credit_request : op_credit_request ≡ 7
  pub stream : type_stream ≡ 1
  pub receive_off : flag_shutdown_rcv ≡ 1
  pub send_off : flag_shutdown_send ≡ 2

-- bit k of a number
abbrev pub bit : ℕ → ℕ → ℕ
bit n k = n / 2 ^ k % 2

-- `set_flag`: a bit of the flags is set exactly where it was or the flag has it, and all else stays
pub record FlagAdds (h : VsockPacketHdr) (flag : ℕ) (o : VsockPacketHdr) : Type 0 where
  pub flags : (k : ℕ) → Exactly (bit o.flags k ≡ 1) ((bit h.flags k ≡ 1) ⊎ (bit flag k ≡ 1))
  pub cids : (o.src_cid ≡ h.src_cid) × (o.dst_cid ≡ h.dst_cid)
  pub ports : (o.src_port ≡ h.src_port) × (o.dst_port ≡ h.dst_port)
  pub kind : (o.len ≡ h.len) × (o.type_ ≡ h.type_) × (o.op ≡ h.op)
  pub credit : (o.buf_alloc ≡ h.buf_alloc) × (o.fwd_cnt ≡ h.fwd_cnt)

abbrev pub EveryFlagAdds : Type 0
EveryFlagAdds = (h : VsockPacketHdr) (flag : ℕ) → FlagAdds h flag (flagged h flag)

-- what was encoded is decoded: for fields that fit, whatever stood in the buffer
abbrev pub DecodeAfterEncode : Type 0
DecodeAfterEncode =
    (h : VsockPacketHdr) (out : List ℕ) → Fit layout (fields h) → length out ≡ header_size
    → decode_of (encode_of (record { hdr = h; out = out })).out ≡ record { answer = told done; hdr = h }

-- what was decoded is encoded: for 44 bytes below 256, whatever stood in the buffer
abbrev pub EncodeAfterDecode : Type 0
EncodeAfterDecode =
    (bytes out : List ℕ) → Bytes bytes → length bytes ≡ header_size → length out ≡ header_size
    → encode_of (record { hdr = (decode_of bytes).hdr; out = out }) ≡ record { answer = told done; out = bytes }

-- 01's table: 2 exactly when the header buffer is not 44 bytes
abbrev pub DecodeAnswers : Type 0
DecodeAnswers = (bytes : List ℕ) (left : DecodeLeft) → DecodeSays bytes left → AnswersInTurn left.answer ((2, length bytes ≡ 44 → ⊥) ∷ [])

abbrev pub EncodeAnswers : Type 0
EncodeAnswers = (i : EncodeIn) (left : EncodeLeft) → EncodeSays i left → AnswersInTurn left.answer ((2, length i.out ≡ 44 → ⊥) ∷ [])

-- a refused encode leaves the buffer; a refused decode gives a header whose numbers are all 0
pub record RefusalsChangeNothing : Type 0 where
  pub decode : (bytes : List ℕ) (left : DecodeLeft) → DecodeSays bytes left → Refuses left.answer → fields left.hdr ≡ replicate 10 0
  pub encode : (i : EncodeIn) (left : EncodeLeft) → EncodeSays i left → Refuses left.answer → left.out ≡ i.out

-- 01, "When an answer is an enum": number and values tell decode's results apart
abbrev pub ToldTellsApart : Type 0
ToldTellsApart = (a b : Result VsockPacketHdr Refusal) → told_decoded a ≡ told_decoded b → a ≡ b

-- 01's readings at the edges of this crate
pub record EdgesHold : Type 0 where
  pub a : Hold reading_a
  pub lengths : Hold wrong_lengths
