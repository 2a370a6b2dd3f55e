-- The packet header of virtio 1.2, section 5.10.6: ten little-endian numbers, packed; and what decode and encode leave. Assumes nothing.
use Rattle.std.specs.Prelude.{ℕ, ◌≡◌, List, [], ◌∷◌, length, get_or, Result, Err}
use Rattle.std.specs.Int.Bits.{bit_or}
use Rattle.defs.specs.Choice.{when}
use Rattle.defs.specs.Answer.{Told, told, done, answer_of, given_or}
use Rattle.defs.specs.Limits.{is_header_length}
use Rattle.defs.specs.declared.answer.Refusal.{Refusal}
use Rattle.defs.specs.declared.answer.Refusal.TheVariants.{BadHeader}
use Rattle.packet.specs.Le.{packed, unpacked}
use Rattle.packet.specs.declared.hdr.VsockPacketHdr.{VsockPacketHdr}

-- the standard's table: the width of each field in bytes, in the order of the struct
abbrev pub layout : List ℕ
layout = 8 ∷ 8 ∷ 4 ∷ 4 ∷ 4 ∷ 2 ∷ 2 ∷ 4 ∷ 4 ∷ 4 ∷ []

-- a header's numbers in that order
abbrev pub fields : VsockPacketHdr → List ℕ
fields h =
    h.src_cid ∷ h.dst_cid ∷ h.src_port ∷ h.dst_port ∷ h.len ∷ h.type_ ∷ h.op ∷ h.flags ∷ h.buf_alloc ∷ h.fwd_cnt ∷ []

-- the header that has these numbers
abbrev pub of_fields : List ℕ → VsockPacketHdr
of_fields ns = record {
  src_cid = get_or ns 0 0;
  dst_cid = get_or ns 1 0;
  src_port = get_or ns 2 0;
  dst_port = get_or ns 3 0;
  len = get_or ns 4 0;
  type_ = get_or ns 5 0;
  op = get_or ns 6 0;
  flags = get_or ns 7 0;
  buf_alloc = get_or ns 8 0;
  fwd_cnt = get_or ns 9 0;
}

-- the bytes of a header, and the header of bytes
unfoldable pub encoded : VsockPacketHdr → List ℕ
encoded h = packed layout (fields h)

unfoldable pub decoded : List ℕ → VsockPacketHdr
decoded bytes = of_fields (unpacked layout bytes)

-- ---- set_flag, as in the Rust

-- the header with the flag ORed in, all else the same
unfoldable pub flagged : VsockPacketHdr → ℕ → VsockPacketHdr
flagged h flag = record {
  src_cid = h.src_cid;
  dst_cid = h.dst_cid;
  src_port = h.src_port;
  dst_port = h.dst_port;
  len = h.len;
  type_ = h.type_;
  op = h.op;
  flags = bit_or h.flags flag;
  buf_alloc = h.buf_alloc;
  fwd_cnt = h.fwd_cnt;
}

-- ---- decode

pub record DecodeLeft : Type 0 where
  pub answer : Told
  pub hdr : VsockPacketHdr

-- 01's number and values of what decode gives: a refusal carries the zero header
abbrev pub told_decoded : Result VsockPacketHdr Refusal → DecodeLeft
told_decoded r = record { answer = told (answer_of r); hdr = given_or (of_fields []) r }

-- 01, answer 2: exactly when the buffer is not 44 bytes
unfoldable pub decode_of : List ℕ → DecodeLeft
decode_of bytes =
    when (is_header_length (length bytes)) (record { answer = told done; hdr = decoded bytes })
    (record { answer = told (Err BadHeader); hdr = of_fields [] })

abbrev pub DecodeSays : List ℕ → DecodeLeft → Type 0
DecodeSays bytes left = left ≡ decode_of bytes

-- ---- encode

pub record EncodeIn : Type 0 where
  pub hdr : VsockPacketHdr
  pub out : List ℕ

pub record EncodeLeft : Type 0 where
  pub answer : Told
  pub out : List ℕ

unfoldable pub encode_of : EncodeIn → EncodeLeft
encode_of given =
    when (is_header_length (length given.out)) (record { answer = told done; out = encoded given.hdr })
    (record { answer = told (Err BadHeader); out = given.out })

abbrev pub EncodeSays : EncodeIn → EncodeLeft → Type 0
EncodeSays given left = left ≡ encode_of given
