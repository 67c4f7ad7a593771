-- What a replay reads and writes.
use Rattle.std.specs.Prelude.{ℕ, ◌≤◌, List, Option, Some, Result, Ok, Err, IfSome, ◌≡◌, ◌⊎◌, length, Vec}
use Rattle.std.specs.Global.{Global}
use Rattle.std.specs.Io.KnownBytes.{Appends, Keeps}
use Rattle.fare_lines.specs.declared.line.Line.{Line}
use Rattle.fare_replay.specs.declared.stream.ReplayFault.{ReplayFault}
use Rattle.fare_replay.specs.declared.stream.ReplayFault.TheVariants.{Read, BadLine, Memory, Store, Write}
use Rattle.fare_lines.specs.declared.text.ParseFault.{ParseFault}
use Rattle.fare_lines.specs.declared.text.ParseFault.TheVariants as parse
use Rattle.fare_trace.specs.declared.running.RunFault.{RunFault}
use Rattle.fare_trace.specs.declared.running.RunFault.TheVariants as run
use Rattle.fare_lines.specs.Lines.{Spells, FirstBadLine}
use Rattle.fare_trace.specs.Answers.{IsOutput}

-- an input is at most 16,777,216 bytes
abbrev pub IsShort : List ℕ → Type 0
IsShort input = length input ≤ 16777216

-- all bytes of the reader, or a fault of the reader or of memory
abbrev pub ReadsAll : Result (Vec ℕ Global) ReplayFault → Option (List ℕ) → Type 0
ReadsAll (Ok bytes) known = IsShort bytes.items × IfSome known (λ input. bytes.items ≡ input)
ReadsAll (Err fault) known = (fault ≡ Read) ⊎ (fault ≡ Memory)

-- the input spells lines, and what was written is the replies to them and nothing else
pub record Replays (old new : Option (List ℕ)) (input : List ℕ) : Type 0 where
  pub short : IsShort input
  pub lines : List Line
  pub spelled : Spells lines input
  pub text : List ℕ
  pub output : IsOutput lines text
  pub written : Appends old new text

-- the fault of an input that is no trace
abbrev pub fault_of_parse : ParseFault → ReplayFault
fault_of_parse (parse.BadLine line) = BadLine line
fault_of_parse parse.Memory = Memory

-- the fault of a replay whose run was not answered
abbrev pub fault_of_run : RunFault → ReplayFault
fault_of_run (run.Text fault) = fault_of_parse fault
fault_of_run run.Store = Store

-- the input spells these lines
abbrev pub ReadsLines : List Line → List ℕ → Type 0
ReadsLines lines input = IsShort input × Spells lines input

-- why the lines of an input were not read
abbrev pub FailsToRead : Option (List ℕ) → ReplayFault → Type 0
FailsToRead known Read = Unit {0}
FailsToRead known (BadLine number) = IfSome known (λ input. IsShort input × FirstBadLine input number)
FailsToRead known Memory = Unit {0}
FailsToRead known Store = ⊥
FailsToRead known Write = ⊥

-- these bytes are what was read: as lines, or as an input that is none
abbrev pub IsReadOf : List ℕ → Result (Vec Line Global) ReplayFault → Type 0
IsReadOf input (Ok lines) = ReadsLines lines.items input
IsReadOf input (Err fault) = FailsToRead (Some input) fault

-- what each fault says: a store fails and a writer does only where all lines are good; only after Write may something have been written
abbrev pub ReplayFails : Option (List ℕ) → Option (List ℕ) → Option (List ℕ) → ReplayFault → Type 0
ReplayFails known old new Read = Keeps old new
ReplayFails known old new (BadLine number) = Keeps old new × IfSome known (λ input. IsShort input × FirstBadLine input number)
ReplayFails known old new Memory = Keeps old new
ReplayFails known old new Store = Keeps old new × IfSome known (λ input. IsShort input × ((lines : List Line) × Spells lines input))
ReplayFails known old new Write = IfSome known (λ input. IsShort input × ((lines : List Line) × Spells lines input))
