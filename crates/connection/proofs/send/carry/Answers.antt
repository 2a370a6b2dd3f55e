use Rattle.std.proofs.Common.{arith}
use Rattle.std.proofs.Common.{length-take}
use Rattle.connection.proofs.SendLaws.{pushes, pushed_is, not_pushed, out_is}
use Rattle.connection.proofs.send.carry.Goals as goal

pub slice_bounds-copy-end : goal.slice_bounds-copy-end
slice_bounds-copy-end c =
    let p = c.requires.part in
    simp length-take (omega arith)

pub unwrap-requires : goal.unwrap-requires
unwrap-requires c = pushes _ _ _ _ _ _ (c.requires.pushes c.if-keeps.true) c.push.ensures

pub returns-then-keeps : goal.returns-then-keeps
returns-then-keeps c =
    let a = c.args in
    record {
      storage_after = pushed_is a.ring _ _ a.payload.now _ a.written a.keeps _ c.if-keeps.true (c.requires.pushes c.if-keeps.true) c.push.ensures c.unwrap.ensures;
      out_after = out_is _ _ _ _ c.requires.part c.requires.room c.copy.ensures;
    }

pub returns-else-keeps : goal.returns-else-keeps
returns-else-keeps c = record { storage_after = not_pushed _ _ _ _ c.if-keeps.false; out_after = out_is _ _ _ _ c.requires.part c.requires.room c.copy.ensures }
