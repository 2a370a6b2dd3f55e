use Rattle.std.proofs.Common.{rules}
use Rattle.defs.specs.Choice.{when}
use Rattle.defs.specs.Ladder.{late_of}
use Rattle.defs.proofs.ladder.late.Goals as goal

pub returns-then-bad_answer : goal.returns-then-bad_answer
unfolding late_of when
returns-then-bad_answer c = search rules

pub returns-then-no_room : goal.returns-then-no_room
unfolding late_of when
returns-then-no_room c = search rules

pub returns : goal.returns
unfolding late_of when
returns c = search rules
