-- The text of a trace: lines, each ended by a line feed, which the last one may lack.
use Rattle.std.specs.Prelude.{ℕ, ◌+◌, ◌==◌, List, [], ◌∷◌, ◌++◌, ◌≡◌, cond, map, length}
use Rattle.std.specs.List.{slice_split, AllByRecursion, flat_map}
use Rattle.fare_lines.specs.declared.line.Line.{Line}
use Rattle.fare_lines.specs.Grammar.{Fits, line_text}

-- the texts, but for a last one that is empty
abbrev pub without_empty_last : List (List ℕ) → List (List ℕ)
without_empty_last [] = []
without_empty_last (t ∷ []) = cond (length t == 0) [] (t ∷ [])
without_empty_last (t ∷ u ∷ more) = t ∷ without_empty_last (u ∷ more)

-- what stands between the line feeds of a text, and after the last one
abbrev pub lines_of : List ℕ → List (List ℕ)
lines_of text = without_empty_last (slice_split (λ b. b == 10) text)

-- the text is these lines, each in its one spelling
pub record Spells (lines : List Line) (text : List ℕ) : Type 0 where
  pub fits : AllByRecursion Fits lines
  pub is : lines_of text ≡ map line_text lines

-- the line of this number, counted from 1, is the first of the text that spells no line
pub record FirstBadLine (text : List ℕ) (number : ℕ) : Type 0 where
  pub before : List Line
  pub bad : List ℕ
  pub after : List (List ℕ)
  pub fits : AllByRecursion Fits before
  pub is : lines_of text ≡ map line_text before ++ (bad ∷ after)
  pub at : number ≡ length before + 1
  pub none : (l : Line) → Fits l → bad ≡ line_text l → ⊥

-- the lines in their spelling, each ended by a line feed
abbrev pub printed : List Line → List ℕ
printed lines = flat_map (λ l. line_text l ++ (10 ∷ [])) lines
