-- The members of an object and the items of an array, one after the other.
use Rattle.std.proofs.Common.{◌≡◌, ℕ, zero, suc, ◌+◌, ◌<◌, List, [], ◌∷◌, ◌++◌, length, get_or, drop, map, refl, sym, ap, ◌∙◌, arith, Bor, append_assoc, add-one}
use Rattle.std.specs.Prelude.{None}
use Rattle.std.specs.List.{slice_get}
use Rattle.json.specs.Json.{Items, Json, item}
use Rattle.json.specs.Token.{Token}
use Rattle.json.specs.Tree.{items_tokens, json_tokens}
use Rattle.fare_json.specs.Lines.{items_of, members_of, with_member}
use Rattle.fare_json.specs.declared.part.Part.{Part}

without_words : (parts : List Part) (i : ℕ) (d : Part) → i < length parts → members_of (drop i parts) [] ≡ with_member (get_or parts i d) None (members_of (drop (suc i) parts) [])
without_words [] i d inside = absurd (omega (arith, inside))
without_words (p ∷ parts) zero d inside = refl
without_words (p ∷ parts) (suc i) d inside = without_words parts i d (omega (arith, inside))

step : (parts : List Part) (words : List (List ℕ)) (i : ℕ) (d : Part) → i < length parts → members_of (drop i parts) (drop i words) ≡ with_member (get_or parts i d) (slice_get words i) (members_of (drop (suc i) parts) (drop (suc i) words))
step [] words i d inside = absurd (omega (arith, inside))
step (p ∷ parts) words zero d inside = refl
step (p ∷ parts) [] (suc i) d inside = without_words parts i d (omega (arith, inside))
step (p ∷ parts) (w ∷ words) (suc i) d inside = step parts words i d (omega (arith, inside))

-- the member at a place stands before those behind it
pub member_there : (parts : List Part) (words : List (List ℕ)) (i : ℕ) (d : Part) → i < length parts → members_of (drop i parts) (drop i words) ≡ with_member (get_or parts i d) (slice_get words i) (members_of (drop (i + 1) parts) (drop (i + 1) words))
member_there parts words i d inside = rw (add-one i) (step parts words i d inside)

line_step : (f : List ℕ → Json) (lines : List (Bor (List ℕ))) (i : ℕ) (d : Bor (List ℕ)) → i < length lines → items_of (map f (drop i (map (λ w. w.now) lines))) ≡ item (f (get_or lines i d).now) (items_of (map f (drop (suc i) (map (λ w. w.now) lines))))
line_step f [] i d inside = absurd (omega (arith, inside))
line_step f (l ∷ lines) zero d inside = refl
line_step f (l ∷ lines) (suc i) d inside = line_step f lines i d (omega (arith, inside))

-- the item of a line stands before those behind it
pub line_there : (f : List ℕ → Json) (lines : List (Bor (List ℕ))) (i : ℕ) (d : Bor (List ℕ)) → i < length lines → items_of (map f (drop i (map (λ w. w.now) lines))) ≡ item (f (get_or lines i d).now) (items_of (map f (drop (i + 1) (map (λ w. w.now) lines))))
line_there f lines i d inside = rw (add-one i) (line_step f lines i d inside)

-- what is written grows by the item of a line
pub line_written : (f : List ℕ → Json) (lines : List (Bor (List ℕ))) (i : ℕ) (d : Bor (List ℕ)) (before after whole : List Token) → i < length lines → after ≡ before ++ json_tokens (f (get_or lines i d).now) → before ++ items_tokens (items_of (map f (drop i (map (λ w. w.now) lines)))) ≡ whole
    → after ++ items_tokens (items_of (map f (drop (i + 1) (map (λ w. w.now) lines)))) ≡ whole
line_written f lines i d before after whole inside written so_far =
    let rest = items_tokens (items_of (map f (drop (i + 1) (map (λ w. w.now) lines)))) in
    ap (λ (t : List Token). t ++ rest) written ∙ (append_assoc before (json_tokens (f (get_or lines i d).now)) rest ∙ (sym (ap (λ (js : Items). before ++ items_tokens js) (line_there f lines i d inside)) ∙ so_far))
