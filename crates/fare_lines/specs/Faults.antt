-- What the faults of a reading say of its text.
use Rattle.std.specs.Prelude.{ℕ, List}
use Rattle.fare_lines.specs.declared.text.ParseFault.{ParseFault}
use Rattle.fare_lines.specs.declared.text.ParseFault.TheVariants.{BadLine, Memory}
use Rattle.fare_lines.specs.Lines.{FirstBadLine}

-- a bad line is the first one; want of memory says nothing
abbrev pub Refuses : List ℕ → ParseFault → Type 0
Refuses text (BadLine number) = FirstBadLine text number
Refuses text Memory = Unit {0}
