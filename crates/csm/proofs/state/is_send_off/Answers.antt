-- The bit of weight 2 is that bit's number times 2.
use Rattle.std.proofs.Common.{arith}
use Rattle.std.proofs.lemmas.Nat.Bits.{and_pow}
use Rattle.csm.proofs.state.is_send_off.Goals as goal

pub returns : goal.returns
returns c = grind (arith, and_pow c.args.flags 1)
