-- The events of a stream as the code holds them. Assumes nothing.
use Rattle.std.specs.Prelude.{false}
use Rattle.connection.specs.declared.look.EvSet.{EvSet}

-- none, the fixed value of a look that is refused
abbrev pub no_events : EvSet
no_events = record { readable = false; writable = false }
