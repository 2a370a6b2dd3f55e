use Rattle.std.proofs.Common.{arith, length-take}
use Rattle.defs.proofs.CopyLaws.{copied_least}
use Rattle.defs.proofs.copying.copy.Goals as goal

pub slice_bounds-copy_whole-end-2 : goal.slice_bounds-copy_whole-end-2
slice_bounds-copy_whole-end-2 c = simp length-take (omega arith)

pub slice_bounds-copy_whole-end-3 : goal.slice_bounds-copy_whole-end-3
slice_bounds-copy_whole-end-3 c = simp length-take (omega arith)

pub copy_whole-requires : goal.copy_whole-requires
copy_whole-requires c = simp length-take (omega arith)

pub returns : goal.returns
returns c =
    let s = c in
    let a = s.args in
    rw c.copy_whole.ensures (copied_least a.dst.now a.src.now s.min-n.result s.min-n.ensures)
