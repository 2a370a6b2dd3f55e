use Rattle.std.proofs.Common.{rules}
use Rattle.defs.specs.Choice.{when}
use Rattle.defs.specs.Ladder.{door_of}
use Rattle.defs.proofs.ladder.door.Goals as goal

pub returns-then-bad_record : goal.returns-then-bad_record
unfolding door_of when
returns-then-bad_record c = search rules

pub returns-then-bad_header : goal.returns-then-bad_header
unfolding door_of when
returns-then-bad_header c = search rules

pub returns-then-bad_clock : goal.returns-then-bad_clock
unfolding door_of when
returns-then-bad_clock c = search rules

pub returns-then-bad_length : goal.returns-then-bad_length
unfolding door_of when
returns-then-bad_length c = search rules

pub returns : goal.returns
unfolding door_of when
returns c = search rules
