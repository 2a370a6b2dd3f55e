use Rattle.txbuf.proofs.PushLaws.{runs_are}
use Rattle.txbuf.proofs.push.write_runs.Goals as goal

pub returns : goal.returns
returns c =
    let a = c.args in
    runs_are a.storage.now a.src.now c.copy.new.dst c.copy-2.new.dst a.at c.min-first.result c.min-first.ensures c.copy.ensures c.copy-2.ensures
