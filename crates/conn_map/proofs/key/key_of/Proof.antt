use mathlib.Core.Path.{refl}
use borrow.Author.Rules.{rules}
use Rattle.conn_map.specs.Key.{key_of}
use Rattle.conn_map.proofs.key.key_of.Statement.{statement}
use Rattle.conn_map.proofs.key.key_of.Tie as tie

returns : tie.Need-returns
unfolding key_of
returns c = refl

pub key_of_spec : {M : Type 1} → statement M
key_of_spec = tie.close (tie.spec (λ c. search rules) (λ c. search rules) returns)
