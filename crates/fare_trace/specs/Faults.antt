-- What the faults of a run say of its text.
use Rattle.std.specs.Prelude.{ℕ, List}
use Rattle.fare_store.specs.declared.fault.Fault.{Fault}
use Rattle.fare_store.specs.declared.fault.Fault.TheVariants as fault
use Rattle.fare_lines.specs.declared.line.Line.{Line}
use Rattle.fare_lines.specs.declared.text.ParseFault.{ParseFault}
use Rattle.fare_lines.specs.declared.text.ParseFault.TheVariants.{BadLine, Memory}
use Rattle.fare_lines.specs.Faults.{Refuses}
use Rattle.fare_trace.specs.declared.running.RunFault.{RunFault}
use Rattle.fare_trace.specs.declared.running.RunFault.TheVariants.{Text, Store}
use Rattle.fare_lines.specs.Lines.{FirstBadLine, Spells}

-- the fault of a run in which a call of a store failed
abbrev pub run_fault : Fault → RunFault
run_fault fault.Memory = Text Memory
run_fault fault.Store = Store

-- the same of a run; a store fails only where no line is bad
abbrev pub RefusesRun : List ℕ → RunFault → Type 0
RefusesRun text (Text f) = Refuses text f
RefusesRun text Store = (lines : List Line) × Spells lines text
