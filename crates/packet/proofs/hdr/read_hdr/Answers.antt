-- `read_hdr`: each field is the number at its offset.
use Rattle.packet.proofs.HeaderLaws.{decode_fields}
use Rattle.packet.proofs.LeLaws.{read_at}
use Rattle.packet.proofs.hdr.read_hdr.Goals as goal

pub returns : goal.returns
returns c =
    let s = c.args.bytes.now in
    decode_fields s _
    (rw (
      read_at 3 s _ 40 _ c.bytes_at-10.ensures c.from_le_bytes-10.ensures,
      read_at 3 s _ 36 _ c.bytes_at-9.ensures c.from_le_bytes-9.ensures,
      read_at 3 s _ 32 _ c.bytes_at-8.ensures c.from_le_bytes-8.ensures,
      read_at 1 s _ 30 _ c.bytes_at-7.ensures c.from_le_bytes-7.ensures,
      read_at 1 s _ 28 _ c.bytes_at-6.ensures c.from_le_bytes-6.ensures,
      read_at 3 s _ 24 _ c.bytes_at-5.ensures c.from_le_bytes-5.ensures,
      read_at 3 s _ 20 _ c.bytes_at-4.ensures c.from_le_bytes-4.ensures,
      read_at 3 s _ 16 _ c.bytes_at-3.ensures c.from_le_bytes-3.ensures,
      read_at 7 s _ 8 _ c.bytes_at-2.ensures c.from_le_bytes-2.ensures,
      read_at 7 s _ 0 _ c.bytes_at.ensures c.from_le_bytes.ensures,
    ))
