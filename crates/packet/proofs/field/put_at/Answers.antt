-- `put_at`: the bytes stand between the part before and the part behind.
use Rattle.std.proofs.Common.{◌≡◌, ◌+◌, ◌-◌, length, append_assoc, arith}
use Rattle.std.proofs.lemmas.List.{drop-drop}
use Rattle.std.proofs.lemmas.List.Edits.{sets-eq}
use Rattle.packet.proofs.field.put_at.Goals as goal

pub returns : goal.returns
returns c =
    let a = c.args in
    let n = length a.field.now in
    let k : a.at + n - a.at ≡ n = omega arith in
    rw (c.copy_from_slice.ensures.after, sets-eq a.field.now a.out.now a.at c.requires, append_assoc, k, drop-drop n a.at a.out.now)
