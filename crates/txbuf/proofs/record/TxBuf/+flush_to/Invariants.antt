use Rattle.txbuf.specs.Record.{used_of}
use Rattle.txbuf.proofs.record.TxBuf.+flush_to.Given as goal

-- a flush of what is left has less to flush
abbrev pub decreases-flush_to : goal.decreases-flush_to
decreases-flush_to l = used_of l.self
