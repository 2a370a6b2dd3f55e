-- `second_piece` meets its contract: the first piece of the ring that is left.
use Rattle.txbuf.specs.Flush.{second_piece}
use Rattle.txbuf.proofs.FlushLaws.{piece_small}
use Rattle.txbuf.proofs.record.TxBuf.second_piece.Goals as goal

pub advanced-requires : goal.advanced-requires
advanced-requires c = rw c.first_piece-first.ensures (piece_small _ _)

pub returns : goal.returns
unfolding second_piece
returns c = rw (c.first_piece.ensures, c.advanced.ensures, c.first_piece-first.ensures)
