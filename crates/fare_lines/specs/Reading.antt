-- What the parts of the reader answer.
use Rattle.std.specs.Prelude.{ℕ, ◌<◌, ◌==◌, ◌||◌, not, List, [], ◌∷◌, ◌++◌, ◌≡◌, Bool, true, false, Option, Some, None, length, slice_index_or}
use Rattle.std.specs.Char.{is_ascii_digit}
use Rattle.std.specs.List.{AllByRecursion}
use Rattle.fare_lines.specs.declared.keyword.Keyword.{Keyword}
use Rattle.fare_lines.specs.declared.keyword.Keyword.TheVariants.{OfEvent}
use Rattle.fare_lines.specs.declared.keyword.EventKeyword.TheVariants.{Draw}
use Rattle.fare_lines.specs.declared.line.Line.{Line}
use Rattle.fare_lines.specs.Grammar.{AreOf, Fits, Numbered, keyword_kinds, keyword_text, line_parts, line_text, numbers_text}

-- a text that is empty or begins with a byte that passes
abbrev pub BeginsWith : (ℕ → Bool) → List ℕ → Type 0
BeginsWith p [] = Unit {0}
BeginsWith p (b ∷ bs) = p b ≡ true

-- a text cut at its first byte that passes
pub record CutsAt (p : ℕ → Bool) (text front rest : List ℕ) : Type 0 where
  pub is : text ≡ front ++ rest
  pub lacks : AllByRecursion (λ b. p b ≡ false) front
  pub begins : BeginsWith p rest

-- a line feed
abbrev pub is_feed : ℕ → Bool
is_feed b = b == 10

-- what is no digit
abbrev pub is_no_digit : ℕ → Bool
is_no_digit b = not (is_ascii_digit b)

-- what may stand behind a keyword's text, in the line or at its end
abbrev pub may_follow : ℕ → Bool
may_follow b = is_feed b || is_ascii_digit b

-- what stands behind a line feed, or nothing at the end of the text
abbrev pub behind_feed : List ℕ → List ℕ
behind_feed [] = []
behind_feed (b ∷ bs) = bs

-- so is the first line of a text
abbrev pub OfFirstLine : (List ℕ → Type 0) → List ℕ → Type 0
OfFirstLine P text = (line rest : List ℕ) → CutsAt is_feed text line rest → P line

-- the first line of a text spells these numbers below 2^64, and this is the rest, from its line feed on
abbrev pub BeginsWithNumbers : List ℕ → List ℕ → List ℕ → Type 0
BeginsWithNumbers text ns rest = AllByRecursion (λ n. n < 18446744073709551616) ns × CutsAt is_feed text (numbers_text ns) rest

-- it spells this line
abbrev pub BeginsWithLine : List ℕ → Line → List ℕ → Type 0
BeginsWithLine text l rest = Fits l × CutsAt is_feed text (line_text l) rest

-- a text that spells no numbers below 2^64; none by a keyword and numbers; no line
abbrev pub SpellsNoNumbers : List ℕ → Type 0
SpellsNoNumbers text = (ns : List ℕ) → AllByRecursion (λ n. n < 18446744073709551616) ns → text ≡ numbers_text ns → ⊥

abbrev pub SpellsNoNumbered : List ℕ → Type 0
SpellsNoNumbered text = (k : Keyword) (ns : List ℕ) → AreOf (keyword_kinds k) ns → text ≡ keyword_text k ++ numbers_text ns → ⊥

abbrev pub SpellsNoLine : List ℕ → Type 0
SpellsNoLine text = (l : Line) → Fits l → text ≡ line_text l → ⊥

-- the line of a keyword and numbers
abbrev pub IsBuilt : Keyword → List ℕ → Line → Type 0
IsBuilt k ns l = (line_parts l ≡ Numbered k ns) × Fits l

-- some keyword
abbrev pub any_keyword : Keyword
any_keyword = OfEvent Draw

-- the list has the keyword
abbrev pub HasKeyword : List Keyword → Keyword → Type 0
HasKeyword ks k = (i : ℕ) × (i < length ks) × (slice_index_or ks i any_keyword ≡ k)

-- the line of a keyword and numbers, if there is one
abbrev pub Builds : Keyword → List ℕ → Option Line → Type 0
Builds k ns None = AreOf (keyword_kinds k) ns → ⊥
Builds k ns (Some l) = IsBuilt k ns l
