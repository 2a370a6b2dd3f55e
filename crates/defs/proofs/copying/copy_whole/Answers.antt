use Rattle.std.proofs.Common.{◌+◌, refl, ◌∙◌, arith, length-drop, length-take}
use Rattle.defs.proofs.CopyLaws.{one_run, all_of_it}
use Rattle.defs.proofs.copying.copy_whole.Goals as goal

pub loop-at-init : goal.loop-at-init
loop-at-init c = (omega arith, refl, refl)

pub copy_run-requires : goal.copy_run-requires
copy_run-requires c = simp (length-take, length-drop) (omega arith)

pub loop-at-preserved : goal.loop-at-preserved
loop-at-preserved c =
    let r = c in
    let s = r in
    let l = s.loop-at in
    let start = s in
    let run = one_run l.dst start.args.src.now r.copy_run.new.dst l.at (l.at + s.min.result) (omega arith) (omega arith) (omega arith) r.copy_run.ensures l.invariant.2 in
    (omega arith, run.0 ∙ l.invariant.1, run.1)

pub returns : goal.returns
returns c =
    let l = c.loop-at in
    all_of_it l.dst c.args.src.now l.at (omega arith) (omega arith) l.invariant.2
