-- The readings of 01 that this crate decides: the bytes of reading a, both ways, and headers of other lengths. Assumes nothing.
use Rattle.std.specs.Prelude.{ℕ, List, [], ◌∷◌, replicate, Err}
use Rattle.defs.specs.Answer.{told, done}
use Rattle.defs.specs.Reading.{Reading, ◌reads◌}
use Rattle.defs.specs.declared.answer.Refusal.TheVariants.{BadHeader}
use Rattle.packet.specs.Uapi.{op_response, type_stream}
use Rattle.packet.specs.Header.{of_fields, decode_of, encode_of}
use Rattle.packet.specs.declared.hdr.VsockPacketHdr.{VsockPacketHdr}

-- reading a: CIDs 2 and 3, ports 1024 and 5000, a RESPONSE that tells R = 16 and nothing forwarded
abbrev pub header_a : VsockPacketHdr
header_a = record {
  src_cid = 2;
  dst_cid = 3;
  src_port = 1024;
  dst_port = 5000;
  len = 0;
  type_ = type_stream;
  op = op_response;
  flags = 0;
  buf_alloc = 16;
  fwd_cnt = 0;
}

abbrev pub bytes_a : List ℕ
bytes_a =
    0x02 ∷ 0x00 ∷ 0x00 ∷ 0x00 ∷ 0x00 ∷ 0x00 ∷ 0x00 ∷ 0x00 ∷ 0x03 ∷ 0x00 ∷ 0x00 ∷ 0x00 ∷ 0x00 ∷ 0x00 ∷ 0x00 ∷ 0x00
    ∷ 0x00 ∷ 0x04 ∷ 0x00 ∷ 0x00 ∷ 0x88 ∷ 0x13 ∷ 0x00 ∷ 0x00 ∷ 0x00 ∷ 0x00 ∷ 0x00 ∷ 0x00
    ∷ 0x01 ∷ 0x00 ∷ 0x02 ∷ 0x00
    ∷ 0x00 ∷ 0x00 ∷ 0x00 ∷ 0x00 ∷ 0x10 ∷ 0x00 ∷ 0x00 ∷ 0x00 ∷ 0x00 ∷ 0x00 ∷ 0x00 ∷ 0x00 ∷ []

-- a: the header's bytes, whole, and back
unfoldable pub reading_a : List Reading
reading_a =
    (encode_of (record { hdr = header_a; out = replicate 44 9 }) reads record { answer = told done; out = bytes_a })
    ∷ (decode_of bytes_a reads record { answer = told done; hdr = header_a })
    ∷ []

-- answer 2: one byte more, one byte less
unfoldable pub wrong_lengths : List Reading
wrong_lengths =
    (encode_of (record { hdr = header_a; out = replicate 45 9 }) reads record { answer = told (Err BadHeader); out = replicate 45 9 })
    ∷ (decode_of (replicate 43 9) reads record { answer = told (Err BadHeader); hdr = of_fields [] })
    ∷ []
