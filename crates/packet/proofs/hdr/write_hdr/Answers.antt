-- `write_hdr`: the ten stores are one store of the ten numbers.
use mathlib.Core.Path.{◌∙◌}
use Rattle.packet.proofs.HeaderLaws.{encode_stores}
use Rattle.packet.proofs.LeLaws.{stored}
use Rattle.packet.proofs.hdr.write_hdr.Goals as goal

pub returns : goal.returns
returns c =
    rw (
      c.put_at-10.ensures,
      c.to_le_bytes-10.ensures ∙ stored 4 _,
      c.put_at-9.ensures,
      c.to_le_bytes-9.ensures ∙ stored 4 _,
      c.put_at-8.ensures,
      c.to_le_bytes-8.ensures ∙ stored 4 _,
      c.put_at-7.ensures,
      c.to_le_bytes-7.ensures ∙ stored 2 _,
      c.put_at-6.ensures,
      c.to_le_bytes-6.ensures ∙ stored 2 _,
      c.put_at-5.ensures,
      c.to_le_bytes-5.ensures ∙ stored 4 _,
      c.put_at-4.ensures,
      c.to_le_bytes-4.ensures ∙ stored 4 _,
      c.put_at-3.ensures,
      c.to_le_bytes-3.ensures ∙ stored 4 _,
      c.put_at-2.ensures,
      c.to_le_bytes-2.ensures ∙ stored 8 _,
      c.put_at.ensures,
      c.to_le_bytes.ensures ∙ stored 8 _,
    )
    (encode_stores c.args.hdr c.args.out.now c.requires)
