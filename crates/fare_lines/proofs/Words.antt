-- Words in a row, appended one after the other.
use Rattle.std.proofs.Common.{◌≡◌, ◌≤◌, ℕ, List, [], ◌∷◌, ◌++◌, length, take, ap, sym, arith, ◌∙◌, map, append_assoc}
use Rattle.std.specs.List.{flat_map, join_with_byte}
use Rattle.std.proofs.lemmas.Grind.{common_steps}
use Rattle.fare_lines.specs.Replies.{words_line}
use Rattle.fare_lines.proofs.Cuts.{append_nil}

join_is_flat : {A : Type 0} (f : A → List ℕ) (word : List ℕ) (words : List A) → join_with_byte 32 (word ∷ map f words) ≡ word ++ flat_map (λ w. 32 ∷ f w) words
join_is_flat f word [] = sym (append_nil word)
join_is_flat f word (w ∷ ws) = ap (λ t. word ++ (32 ∷ t)) (join_is_flat f (f w) ws)

pub take_whole : {A : Type 0} (k : ℕ) (xs : List A) → length xs ≤ k → take k xs ≡ xs
take_whole k xs whole = grind (arith, common_steps)

pub line_appended : {A : Type 0} (f : A → List ℕ) (old words new first : List ℕ) (rest : List A) (k : ℕ) → length rest ≤ k → words ≡ old ++ first ++ flat_map (λ w. 32 ∷ f w) (take k rest) → new ≡ words ++ (10 ∷ []) → new ≡ old ++ words_line (first ∷ map f rest)
line_appended f old words new first rest k whole so_far ended =
    ended
    ∙ ap (λ t. t ++ (10 ∷ [])) (so_far
    ∙ ap (λ ws. old ++ first ++ flat_map (λ w. 32 ∷ f w) ws) (take_whole k rest whole)
    ∙ append_assoc old first (flat_map (λ w. 32 ∷ f w) rest)
    ∙ ap (λ t. old ++ t) (sym (join_is_flat f first rest)))
    ∙ append_assoc old (join_with_byte 32 (first ∷ map f rest)) (10 ∷ [])
