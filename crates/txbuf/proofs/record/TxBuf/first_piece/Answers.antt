-- `first_piece` meets its contract.
use Rattle.std.proofs.Common.{ℕ, ◌<◌, ◌≤◌, length, sym, arith}
use Rattle.txbuf.proofs.RecordLaws.{sound_says, offset_in, part_within}
use Rattle.txbuf.proofs.FlushLaws.{piece_is, no_piece}
use Rattle.txbuf.proofs.record.TxBuf.first_piece.Goals as goal

lt_le : {a b : ℕ} → a < b → a ≤ b
lt_le l = omega arith

pub returns-then-not-is_sound_over : goal.returns-then-not-is_sound_over
returns-then-not-is_sound_over c = no_piece _ _ (sym c.if-not-is_sound_over.ensures)

pub nonzero_rem-at : goal.nonzero_rem-at
nonzero_rem-at c = let s = sound_says c.args.self (length c.args.storage.now) (sym c.if-not-is_sound_over.ensures) in omega arith

pub overflow_sub-storage : goal.overflow_sub-storage
overflow_sub-storage c =
    let s = sound_says c.args.self (length c.args.storage.now) (sym c.if-not-is_sound_over.ensures) in lt_le (offset_in _ _ _ (omega arith) s.whole)

pub slice_bounds-result-end-2 : goal.slice_bounds-result-end-2
slice_bounds-result-end-2 c =
    let s = sound_says c.args.self (length c.args.storage.now) (sym c.if-not-is_sound_over.ensures) in
    part_within _ _ _ _ c.min.ensures (offset_in _ _ _ (omega arith) s.whole)

pub returns : goal.returns
returns c = piece_is _ _ _ _ (sym c.if-not-is_sound_over.ensures) c.used.ensures c.min.ensures
