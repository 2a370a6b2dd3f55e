use Rattle.std.proofs.Common.{◌≡◌, arith, take, length, ◌∙◌}
use Rattle.std.proofs.lemmas.List.{length-take-le, take_all}
use Rattle.text.specs.Hex.{hexed}
use Rattle.text.proofs.HexLaws.{one_byte}
use Rattle.text.proofs.hex.Goals as goal

pub loop-i-preserved : goal.loop-i-preserved
loop-i-preserved c =
    let items = take c.min-n.result c.args.bytes.now in
    let n : length items ≡ c.min-n.result = length-take-le c.min-n.result c.args.bytes.now (omega arith) in
    rw c.loop-i.invariant (one_byte items c.args.out.now c.loop-i.i c.digit.result c.digit-in-loop-i.result (omega arith) (omega arith) c.digit.ensures c.digit-in-loop-i.ensures)

pub returns : goal.returns
unfolding hexed
returns c =
    let items = take c.min-n.result c.args.bytes.now in
    let n : length items ≡ c.min-n.result = length-take-le c.min-n.result c.args.bytes.now (omega arith) in
    let i : c.loop-i.i ≡ c.min-n.result = omega arith in
    c.loop-i.invariant ∙ rw (i, take_all c.min-n.result items (omega arith), c.min-n.ensures)
