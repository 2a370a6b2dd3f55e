use Rattle.std.proofs.Common.{◌≡◌, refl, take, ◌+◌, ◌++◌, ◌∷◌, [], slice_index}
use native.Mathlib.Numerals.{add-one}
use lib.Seq.{take-suc}
use Rattle.text.specs.Hex.{hex_of}
use Rattle.text.proofs.HexLaws.{hex_of_append}
use Rattle.text.proofs.Written.{appends_more}
use Rattle.text.proofs.print.bytes.Goals as goal

pub loop-one-preserved : goal.loop-one-preserved
loop-one-preserved g c =
    let i = c.loop-one.one-index in
    let all = c.args.shown.now in
    let x : hex_of (take (i + 1) all) ≡ hex_of (take i all) ++ hex_of (slice_index all i ∷ []) = rw (add-one, take-suc all i 0 c.loop-one-test.true, hex_of_append) refl in
    rw x (appends_more _ _ _ _ _ c.loop-one.invariant c.in_ok-byte.ensures.1)
