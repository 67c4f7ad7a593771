use Rattle.std.proofs.Common.{◌≡◌, ◌<◌, ◌++◌, ℕ, List, get_or}
use Rattle.fare_lines.specs.Grammar.{keyword_text}
use Rattle.fare_lines.specs.Reading.{BeginsWith, any_keyword, may_follow}
use Rattle.fare_lines.proofs.keyword.find_keyword.Given as goal

abbrev pub invariant-loop-keyword : goal.invariant-loop-keyword
invariant-loop-keyword l = (i : ℕ) (rest : List ℕ) → i < l.keyword-index → BeginsWith may_follow rest → l.text ≡ keyword_text (get_or l.keywords i any_keyword) ++ rest → ⊥
