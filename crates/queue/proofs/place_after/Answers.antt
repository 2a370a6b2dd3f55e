use mathlib.Core.Path.{sym, ap, ◌∙◌}
use Prim.Native.Nat.{ℕ, ◌-◌}
use native.Mathlib.Omega.{arith}
use Rattle.queue.proofs.TurnLaws.{place_ahead, place_round}
use Rattle.queue.proofs.place_after.Goals as goal

pub returns-then-n-ahead : goal.returns-then-n-ahead
returns-then-n-ahead c = sym (place_ahead c.args.front c.args.n c.args.limit (omega arith))

pub returns : goal.returns
returns c = ap (λ (x : ℕ). c.args.n - x) c.ahead_of-ahead.ensures ∙ sym (place_round c.args.front c.args.n c.args.limit (omega arith))
