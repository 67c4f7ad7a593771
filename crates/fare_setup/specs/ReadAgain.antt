-- What is printed of a scheme, and how it is read.
use Rattle.std.specs.Prelude.{◌≡◌, ◌⊎◌, ℕ, List, Result, Ok, Err, MatchResult, map}
use Rattle.fare_scheme.specs.Values.{SchemeValue}
use Rattle.fare_lines.specs.declared.line.Line.{Line}
use Rattle.fare_lines.specs.declared.line.Line.TheVariants.{Setup}
use Rattle.fare_lines.specs.declared.text.ParseFault.{ParseFault}
use Rattle.fare_lines.specs.declared.text.ParseFault.TheVariants.{Memory}
use Rattle.fare_lines.specs.Lines.{Spells, printed}
use Rattle.fare_lines.specs.Faults.{Refuses}
use Rattle.fare_setup.specs.SchemeLines.{setup_lines_of}

-- the text of a scheme whose clock goes by this rule
abbrev pub setup_text_of : SchemeValue → List ℕ → List ℕ
setup_text_of scheme zone = printed (map Setup (setup_lines_of scheme zone))

-- the text is these lines, and a reading that answers as `parse` does gives them, or lacks memory
pub record ReadsAs (text : List ℕ) (lines : List Line) : Type 0 where
  pub spelled : Spells lines text
  pub only : (answer : Result (List Line) ParseFault) → MatchResult answer (λ read. Spells read text) (Refuses text) → (answer ≡ Ok lines) ⊎ (answer ≡ Err Memory)
