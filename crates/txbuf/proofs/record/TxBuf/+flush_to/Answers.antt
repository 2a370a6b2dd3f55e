use Rattle.std.proofs.Common.{eqb, eq-eqb, eqb-true, false, ◌≡◌, ◌<◌, ◌≤◌, ℕ, length, take, sym, ap, ◌∙◌, arith}
use lib.ListN.{length-take}
use Rattle.defs.specs.Stream.{counted}
use Rattle.defs.proofs.Basics.{never}
use Rattle.txbuf.specs.Record.{Wide, used_of}
use Rattle.txbuf.specs.Flush.{piece_len, FlushIn}
use Rattle.txbuf.proofs.RecordLaws.{Fit, sound_says}
use Rattle.txbuf.proofs.FlushLaws.{piece_length, nothing_held, something_held, stopped_left, flush_unsound, flush_empty, flush_stops, flush_bad, flush_short, whole_left, held_falls, rest_small, count_small}
use Rattle.txbuf.proofs.record.TxBuf.+flush_to.Goals as goal
use Rattle.txbuf.proofs.record.TxBuf.+flush_to.Goals.{After-first_piece-piece}

-- what is known where the ring is sound
abbrev given : (t : ℕ) → After-first_piece-piece t → FlushIn
given t f = record { ring = f.args.self; store = f.args.storage.now; answers = f.args.answers; out = f.args.out.now }

fit : (t : ℕ) (f : After-first_piece-piece t) → Fit (given t f).ring (length (given t f).store)
fit t f = sound_says _ _ (sym f.if-not-is_sound_over.ensures)

wide : (t : ℕ) (f : After-first_piece-piece t) → Wide (given t f).ring
wide t f = record { head = omega (arith, f); tail = omega (arith, f) }

some : (t : ℕ) (f : After-first_piece-piece t) → false ≡ eqb (length f.first_piece-piece.result.now) 0 → 0 < used_of (given t f).ring
some t f n = something_held _ _ (fit t f) (wide t f) (λ e. never (n ∙ eq-eqb _ 0 (ap length f.first_piece-piece.ensures ∙ e)))

piece_len_lem : (t : ℕ) (f : After-first_piece-piece t) → length f.first_piece-piece.result.now ≡ piece_len (given t f).ring.size (given t f).ring.tail (used_of (given t f).ring)
piece_len_lem t f = ap length f.first_piece-piece.ensures ∙ piece_length _ _ (fit t f) (wide t f)

pub returns-then-not-is_sound_over : goal.returns-then-not-is_sound_over
returns-then-not-is_sound_over t c =
    let a = c.args in
    flush_unsound (record { ring = a.self; store = a.storage.now; answers = a.answers; out = a.out.now }) (sym c.if-not-is_sound_over.ensures)

pub returns-then-is_empty : goal.returns-then-is_empty
returns-then-is_empty t c =
    let f = (goal.at.returns-then-is_empty t c).After-first_piece-piece in
    let e = nothing_held _ _ (fit t f) (wide t f) (sym (ap length f.first_piece-piece.ensures) ∙ eqb-true _ 0 (sym c.if-is_empty.ensures)) in
    flush_empty (given t f) (fit t f) (wide t f) e

pub returns-in_default : goal.returns-in_default
returns-in_default t c =
    let f = (goal.at.returns-in_default t c).After-first_piece-piece in
    stopped_left (given t f) _ _ (c.and.ensures ∙ rw c.stopped_by.ensures) (flush_stops (given t f) (fit t f) (wide t f) (some t f c.if-is_empty.ensures) c.in_default.not-Count)

pub returns-then-piece-count : goal.returns-then-piece-count
returns-then-piece-count t c =
    let f = (goal.at.returns-then-piece-count t c).After-first_piece-piece in
    let l : piece_len (given t f).ring.size (given t f).ring.tail (used_of (given t f).ring) < counted (given t f).answers.first =
    let e = ap counted c.in-Count.is in let p = piece_len_lem t f in let m = c.if-piece-count.true in omega arith in
    flush_bad (given t f) (fit t f) (wide t f) (some t f c.if-is_empty.ensures) l

pub finish-requires : goal.finish-requires
finish-requires t c =
    let f = (goal.at.finish-requires t c).After-first_piece-piece in
    let p = piece_len_lem t f in
    let s = fit t f in
    simp length-take (omega arith)

pub returns-then-count-piece : goal.returns-then-count-piece
returns-then-count-piece t c =
    let f = (goal.at.returns-then-count-piece t c).After-first_piece-piece in
    let i = given t f in
    let k = c.in-Count.count in
    c.finish.ensures
    ∙ flush_short i (fit t f) (wide t f) (some t f c.if-is_empty.ensures) k _ c.in-Count.is (let p = piece_len_lem t f in let m = c.if-count-piece.true in omega arith)
    (ap (take k) f.first_piece-piece.ensures)

-- past both tests the piece was taken whole
whole : {p n len : ℕ} → len ≡ p → n ≤ len → len ≤ n → n ≡ p
whole e a b = omega arith

pub advanced-requires : goal.advanced-requires
advanced-requires t c =
    let f = (goal.at.advanced-requires t c).After-first_piece-piece in
    let p = piece_len_lem t f in
    let s = fit t f in
    omega arith

pub flush_to-rest-requires : goal.flush_to-rest-requires
flush_to-rest-requires t c =
    let f = (goal.at.flush_to-rest-requires t c).After-first_piece-piece in
    let e = whole (piece_len_lem t f) c.if-piece-count.false c.if-count-piece.false in
    let h = held_falls (given t f) (fit t f) (wide t f) (some t f c.if-is_empty.ensures) _ c.in-Count.is e in
    let m : used_of (given t f).ring ≡ t = c.decreases in
    (rw c.advanced.ensures (omega arith), tt)

pub finish-requires-2 : goal.finish-requires-2
finish-requires-2 t c =
    let f = (goal.at.finish-requires-2 t c).After-first_piece-piece in
    let e = whole (piece_len_lem t f) c.if-piece-count.false c.if-count-piece.false in
    rest_small (given t f) (fit t f) (wide t f) (some t f c.if-is_empty.ensures) c.in-Count.count c.in-Count.is e
    _ _ c.flush_to-rest.result f.first_piece-piece.ensures c.advanced.ensures (count_small _ _ c.flush_to-rest.ensures)

pub returns : goal.returns
returns t c =
    let f = (goal.at.returns t c).After-first_piece-piece in
    let e = whole (piece_len_lem t f) c.if-piece-count.false c.if-count-piece.false in
    c.finish-2.ensures
    ∙ whole_left (given t f) (fit t f) (wide t f) (some t f c.if-is_empty.ensures) c.in-Count.count c.in-Count.is e
    _ _ _ _ c.flush_to-rest.result f.first_piece-piece.ensures c.min-behind.ensures c.advanced.ensures c.flush_to-rest.ensures
