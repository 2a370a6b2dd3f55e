use Rattle.std.proofs.Common.{rules, ◌≡◌, ◌+◌, ◌++◌, ◌∷◌, [], ap, sym, ◌∙◌, length, length-append, get_or, slice_set}
use Rattle.std.proofs.lemmas.Slice.Zip.{zip_turn}
use Rattle.conn_map.specs.Distinct.{mark_of}
use Rattle.conn_map.proofs.DistinctLaws.{marks_start, finds_start, marks_one, finds_one, marks_none, finds_none}
use Rattle.conn_map.proofs.distinct.mark.Goals as goal
use Rattle.conn_map.proofs.distinct.mark.Goals.{In-Some}

-- the ports and the use of the slot
turn : (c : In-Some)
    → (c.in-Some.key.now ≡ get_or c.args.ports.now (length c.loop-key.yielded) 0) × (c.in-Some.used.now ≡ get_or c.args.used.now (length c.loop-key.yielded) 0)
turn c =
    let z =
    zip_turn c.args.ports.now c.args.used.now c.loop-key.yielded c.into_iter-key-iterator.result c.loop-key.key-iterator c.next.new.self c.next.result (search rules) (search rules) c.loop-key.yielded_by
    (c.in-Some.key, c.in-Some.used) c.in-Some.is c.next.ensures.steps in
    (z.2 0, z.3 0)

pub loop-key-init : goal.loop-key-init
loop-key-init c = (marks_start _ _ _, finds_start _ _ _)

pub loop-key-preserved-then-used-ne0 : goal.loop-key-preserved-then-used-ne0
loop-key-preserved-then-used-ne0 c =
    let l = c.loop-key in
    let of = c.mark_of-at in
    let t = turn (goal.at.loop-key-preserved-then-used-ne0 c).In-Some in
    let n : length (l.yielded ++ ((c.in-Some.key, c.in-Some.used) ∷ [])) ≡ length l.yielded + 1 = length-append _ _ in
    let u : get_or c.args.used.now (length l.yielded) 0 ≡ 0 → ⊥ = λ z. c.if-used-ne0.true (t.1 ∙ z) in
    let e = of.ensures.0 ∙ ap mark_of t.0 in
    rw n (
      ap (slice_set l.marks of.result) c.next_mark.ensures ∙ marks_one _ _ _ _ (length l.yielded) l.invariant.0 u of.result e,
      finds_one _ _ _ _ (length l.yielded) l.invariant.0 u of.result e l.found l.invariant.1,
    )

pub loop-key-preserved : goal.loop-key-preserved
loop-key-preserved c =
    let l = c.loop-key in
    let t = turn (goal.at.loop-key-preserved c).In-Some in
    let n : length (l.yielded ++ ((c.in-Some.key, c.in-Some.used) ∷ [])) ≡ length l.yielded + 1 = length-append _ _ in
    let u : get_or c.args.used.now (length l.yielded) 0 ≡ 0 = sym t.1 ∙ c.if-used-ne0.false in
    rw n (marks_none _ _ _ _ (length l.yielded) l.invariant.0 u, finds_none _ _ _ (length l.yielded) l.found u l.invariant.1)
