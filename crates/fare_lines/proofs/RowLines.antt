-- Rows, appended one after the other.
use Rattle.std.proofs.Common.{◌≡◌, ◌+◌, ◌<◌, ◌≤◌, ℕ, List, [], ◌∷◌, ◌++◌, length, take, drop, get_or, ap, sym, ◌∙◌, append_assoc}
use Rattle.std.specs.List.{flat_map}
use Rattle.std.specs.Prelude.{Result, Ok, Err, OnErr}
use Rattle.std.proofs.lemmas.List.{take_more, take-append-drop}
use Rattle.std.proofs.Math.Seq.{take-append_seam}
use Rattle.fare_lines.proofs.Cuts.{append_nil}
use Rattle.fare_lines.proofs.Words.{take_whole}

module _ {X : Type 0} (text : X → List ℕ) where
  flat_push : (xs : List X) (x : X) → flat_map text (xs ++ x ∷ []) ≡ flat_map text xs ++ text x
  flat_push [] x = append_nil (text x)
  flat_push (y ∷ xs) x = ap (λ t. text y ++ t) (flat_push xs x) ∙ sym (append_assoc (text y) (flat_map text xs) (text x))

  pub none_yet : (old : List ℕ) (rows : List X) → old ≡ old ++ flat_map text (take 0 rows)
  none_yet old rows = sym (append_nil old)

  pub one_row : (old out new : List ℕ) (rows : List X) (k : ℕ) (x : X) → k < length rows → x ≡ get_or rows k x → out ≡ old ++ flat_map text (take k rows) → new ≡ out ++ text x → new ≡ old ++ flat_map text (take (k + 1) rows)
  one_row old out new rows k x lt is so_far more =
      more ∙ ap (λ t. t ++ text x) so_far ∙ append_assoc old (flat_map text (take k rows)) (text x)
      ∙ ap (λ t. old ++ t) (sym (flat_push (take k rows) x) ∙ ap (λ y. flat_map text (take k rows ++ y ∷ [])) is ∙ ap (flat_map text) (sym (take_more rows k x lt)))

  pub all_rows : (old out : List ℕ) (rows : List X) (k : ℕ) → length rows ≤ k → out ≡ old ++ flat_map text (take k rows) → out ≡ old ++ flat_map text rows
  all_rows old out rows k whole so_far = so_far ∙ ap (λ l. old ++ flat_map text l) (take_whole k rows whole)

pub front_stays : (old rest out : List ℕ) → out ≡ old ++ rest → take (length old) out ≡ old
front_stays old rest out is = ap (take (length old)) is ∙ take-append_seam old rest

-- what was appended behind a line is cut off, and the line too
pub cut_back : (old line mid out new : List ℕ) (n : ℕ) → n ≡ length old → mid ≡ old ++ line → take (length mid) out ≡ mid → new ≡ take n out → new ≡ old
cut_back old line mid out new n at ended front cut =
    let behind = drop (length mid) out in
    cut ∙ (λ i. take (at i) (whole i))
    ∙ ap (λ l. take (length old) (l ++ behind)) ended
    ∙ ap (take (length old)) (append_assoc old line behind)
    ∙ take-append_seam old (line ++ behind)
  where
    whole : out ≡ mid ++ drop (length mid) out
    whole = sym (take-append-drop (length mid) out) ∙ ap (λ l. l ++ drop (length mid) out) front

pub where_failed : {E : Type 0} {P : Type 0} (r : Result (Unit {0}) E) → P → OnErr r P
where_failed (Ok u) p = tt
where_failed (Err e) p = p

-- what stood in front of them does so where the list before the last row does
pub front_behind : (old rows before new : List ℕ) → before ≡ old ++ rows → take (length before) new ≡ before → take (length old) new ≡ old
front_behind old rows before new is front =
    let behind = drop (length before) new in
    front_stays old (rows ++ behind) new
    (sym (take-append-drop (length before) new) ∙ ap (λ (l : List ℕ). l ++ behind) (front ∙ is) ∙ append_assoc old rows behind)
