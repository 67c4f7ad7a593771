-- The lines of a text, read one after the other from its front.
use Rattle.std.proofs.Common.{◌≡◌, ◌≤◌, ◌<◌, ◌+◌, ◌-◌, ◌==◌, ℕ, List, [], ◌∷◌, length, Bool, true, false, cond, ap, sym, refl, arith, ◌∙◌, length-append, take, drop}
use Rattle.std.specs.List.{slice_split, onto_first}
use Rattle.std.proofs.lemmas.Bool.{ne_eqb}
use Rattle.std.proofs.lemmas.Grind.{common_steps}
use Rattle.fare_lines.specs.Lines.{lines_of, without_empty_last}
use Rattle.fare_lines.specs.Reading.{CutsAt, behind_feed, is_feed}
use Rattle.fare_lines.proofs.Cuts.{after_first, split_next, split_last}

-- a split has a first part
split_some : (p : ℕ → Bool) (text : List ℕ) → (first : List ℕ) × (rest : List (List ℕ)) × (slice_split p text ≡ first ∷ rest)
split_some p [] = ([], [], refl)
split_some p (b ∷ bs) =
    let later = split_some p bs in
    elim (p b) as (λ v. (first : List ℕ) × (rest : List (List ℕ)) × (cond v ([] ∷ slice_split p bs) (onto_first b (slice_split p bs)) ≡ first ∷ rest)) [
      | true ↦ ([], slice_split p bs, refl)
      | false ↦ (b ∷ later.0, later.1, ap (onto_first b) later.2)
    ]

pub lines_next : (text front rest : List ℕ) → CutsAt is_feed text front rest → 1 ≤ length rest → lines_of text ≡ front ∷ lines_of (take (length rest - 1) (drop 1 rest))
lines_next text front rest cut some =
    let later = split_some is_feed (take (length rest - 1) (drop 1 rest)) in
    ap without_empty_last (split_next is_feed text front rest cut some ∙ ap (λ t. front ∷ t) later.2) ∙ ap (λ t. front ∷ without_empty_last t) (sym later.2)

pub one_line : (line : List ℕ) → 0 < length line → without_empty_last (line ∷ []) ≡ line ∷ []
one_line [] some = absurd (omega arith)
one_line (b ∷ bs) some =
    let test : (length (b ∷ bs) == 0) ≡ false = ne_eqb (length (b ∷ bs)) 0 (λ e. omega arith) in
    ap (λ v. cond v [] ((b ∷ bs) ∷ [])) test

pub lines_last : (text front rest : List ℕ) → CutsAt is_feed text front rest → length rest < 1 → 0 < length text → lines_of text ≡ front ∷ []
lines_last text front rest cut none some =
    let long : 0 < length front = omega (arith, ap length cut.is, length-append front rest) in
    ap without_empty_last (split_last is_feed text front rest cut none) ∙ one_line front long

-- the rest of a text is shorter than it
pub rest_is_shorter : (text front rest : List ℕ) → CutsAt is_feed text front rest → 1 ≤ length rest → length (take (length rest - 1) (drop 1 rest)) + 1 ≤ length text
rest_is_shorter text front [] cut some = absurd (omega arith)
rest_is_shorter text front (b ∷ bs) cut some =
    let tail : length (take (length (b ∷ bs) - 1) (drop 1 (b ∷ bs))) ≤ length bs = grind (arith, common_steps) in
    omega (arith, ap length cut.is, length-append front (b ∷ bs))

pub no_lines : (text : List ℕ) → length text < 1 → lines_of text ≡ []
no_lines [] none = refl
no_lines (b ∷ bs) none = absurd (omega arith)

-- the first line, and those of what stands behind its line feed
pub first_of_lines : (text line rest : List ℕ) → CutsAt is_feed text line rest → 0 < length text → (lines_of text ≡ line ∷ lines_of (behind_feed rest)) × (length (behind_feed rest) + 1 ≤ length text)
first_of_lines text line [] cut some = (lines_last text line [] cut (omega arith) some, omega (arith, some))
first_of_lines text line (b ∷ bs) cut some =
    let same = after_first b bs in (
      lines_next text line (b ∷ bs) cut (omega arith) ∙ ap (λ t. line ∷ lines_of t) same,
      omega (arith, rest_is_shorter text line (b ∷ bs) cut (omega arith), ap length same),
    )
