-- How far a text was read.
use Rattle.std.specs.Prelude.{◌≡◌, ◌≤◌, ◌+◌, ℕ, List, [], ◌∷◌, ◌++◌, Option, None, Some, length, map}
use Rattle.std.specs.List.{AllByRecursion}
use Rattle.fare_lines.specs.declared.line.Line.{Line}
use Rattle.fare_lines.specs.declared.text.ParseFault.{ParseFault}
use Rattle.fare_lines.specs.declared.text.ParseFault.TheVariants.{BadLine, Memory}
use Rattle.fare_lines.specs.Grammar.{Fits, line_text}
use Rattle.fare_lines.specs.Lines.{FirstBadLine, lines_of}

-- what is still to be read, and the number of its first line
pub record Unread : Type 0 where
  pub rest : List ℕ
  pub number : ℕ

abbrev pub whole : List ℕ → Unread
whole text = record { rest = text; number = 1 }

-- the next line, or the end
abbrev pub IsNext : Unread → Unread → Option Line → Type 0
IsNext old new None = (new ≡ old) × (lines_of old.rest ≡ [])
IsNext old new (Some line) = Fits line × (lines_of old.rest ≡ line_text line ∷ lines_of new.rest) × (new.number ≡ old.number + 1) × (length new.rest + 1 ≤ length old.rest)

-- a bad line is the first one of what is still to be read, by its number in the whole text; want of memory says nothing
abbrev pub StopsIn : Unread → ParseFault → Type 0
StopsIn unread (BadLine number) = (place : ℕ) × FirstBadLine unread.rest place × (number + 1 ≡ unread.number + place)
StopsIn unread Memory = Unit {0}

-- these lines were read off the front
pub record ReadsOff (old new : Unread) (lines : List Line) : Type 0 where
  pub fits : AllByRecursion Fits lines
  pub is : lines_of old.rest ≡ map line_text lines ++ lines_of new.rest
  pub number : new.number ≡ old.number + length lines
