use Rattle.std.proofs.Common.{rules, arith, ◌≡◌, ◌+◌, ◌<◌, ◌++◌, ◌∷◌, [], ap, sym, ◌∙◌, length, length-append, get_or}
use Rattle.std.proofs.lemmas.Slice.Zip.{zip_turn}
use Rattle.conn_map.specs.Distinct.{mark_of}
use Rattle.conn_map.proofs.DistinctLaws.{none_gathered, takes_one, leaves_one, skips_one}
use Rattle.conn_map.proofs.distinct.doubtful.Goals as goal
use Rattle.conn_map.proofs.distinct.doubtful.Goals.{In-Some, else-is_used-ne0-via-then-is_used-ne0+else-marks-mark_of-eq-AGAIN, else-is_used-ne0-via-else-is_used-ne0}

-- the ports and the use of the slot, which is one of the table's
turn : (c : In-Some)
    → (c.in-Some.key.now ≡ get_or c.args.ports.now (length c.loop-key.yielded) 0) × (c.in-Some.is_used.now ≡ get_or c.args.used.now (length c.loop-key.yielded) 0) × (length c.loop-key.yielded < length c.args.ports.now)
turn c =
    let z =
    zip_turn c.args.ports.now c.args.used.now c.loop-key.yielded c.into_iter-key-iterator.result c.loop-key.key-iterator c.next.new.self c.next.result (search rules) (search rules) c.loop-key.yielded_by
    (c.in-Some.key, c.in-Some.is_used) c.in-Some.is c.next.ensures.steps in
    (z.2 0, z.3 0, z.0)

pub loop-key-init : goal.loop-key-init
loop-key-init c = (omega arith, none_gathered c.args.ports.now c.args.used.now c.args.marks.now c.args.keys.now)

pub loop-key-preserved-then-marks-mark_of-eq-AGAIN : goal.loop-key-preserved-then-marks-mark_of-eq-AGAIN
loop-key-preserved-then-marks-mark_of-eq-AGAIN c =
    let l = c.loop-key in
    let of = c.mark_of in
    let t = turn (goal.at.loop-key-preserved-then-marks-mark_of-eq-AGAIN c).In-Some in
    let n : length (l.yielded ++ ((c.in-Some.key, c.in-Some.is_used) ∷ [])) ≡ length l.yielded + 1 = length-append _ _ in
    let u : get_or c.args.used.now (length l.yielded) 0 ≡ 0 → ⊥ = λ z. c.if-is_used-ne0.true (t.1 ∙ z) in
    let m : l.n < length l.keys = omega (arith, t.2) in
    rw n (
      omega arith,
      rw t.0
          (takes_one _ _ c.args.marks.now (length l.yielded) l.keys l.n l.invariant.1 u of.result (of.ensures.0 ∙ ap mark_of t.0) m c.if-marks-mark_of-eq-AGAIN.true),
    )

pub loop-key-preserved : goal.loop-key-preserved
loop-key-preserved c =
    let l = c.loop-key in
    let t = turn (goal.at.loop-key-preserved c).In-Some in
    let n : length (l.yielded ++ ((c.in-Some.key, c.in-Some.is_used) ∷ [])) ≡ length l.yielded + 1 = length-append _ _ in
    rw n (
      omega arith,
      elim c.else-is_used-ne0.branch [
        | else-is_used-ne0-via-then-is_used-ne0+else-marks-mark_of-eq-AGAIN w ↦
            leaves_one _ _ c.args.marks.now (length l.yielded) l.keys l.n l.invariant.1 (λ z. w.if-is_used-ne0.true (t.1 ∙ z)) w.mark_of.result (w.mark_of.ensures.0 ∙ ap mark_of t.0) w.if-marks-mark_of-eq-AGAIN.false
        | else-is_used-ne0-via-else-is_used-ne0 w ↦ skips_one _ _ c.args.marks.now (length l.yielded) l.keys l.n l.invariant.1 (sym t.1 ∙ w.if-is_used-ne0.false)
      ],
    )
