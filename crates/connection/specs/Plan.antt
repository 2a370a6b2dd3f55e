-- A packet's plan as the code holds it. Assumes nothing.
use Rattle.rules.specs.Send as rules
use Rattle.connection.specs.declared.send.SendPlan.{SendPlan}

-- and as the rules name it
abbrev pub planned : SendPlan → rules.SendPlan
planned p = record { goes = p.goes; len = p.len; written = p.written; broken = p.broken }
