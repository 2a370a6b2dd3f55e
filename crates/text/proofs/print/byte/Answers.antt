use Rattle.std.proofs.Common.{rules}
use Rattle.text.proofs.Written.{hexed_one}
use Rattle.text.proofs.print.byte.Goals as goal

pub returns : goal.returns
returns g c = search (hexed_one, rules)
