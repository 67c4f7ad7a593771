-- Prefixes of lists, and an owner's part of a front.
use Rattle.std.proofs.Common.{◌≡◌, ℕ, ◌≤◌, List, [], ◌∷◌, ◌++◌, length, take, drop, Some, None, refl, sym, ap, ◌∙◌, arith, append_assoc, length-append}
use Rattle.std.specs.Prelude.{slice_get, ◌==◌}
use Rattle.std.proofs.lemmas.List.{append-nil, take-append-drop}
use Rattle.std.proofs.lemmas.List.Elements.{filter-append}
use Rattle.fare_record.specs.Values.{RecordValue}
use Rattle.fare_record.specs.Lanes.{part, day_count}
use Rattle.fare_world.specs.Headline.{IsPrefixOf}
use Rattle.fare_world.proofs.Lanes.{day_count-append}
use Rattle.fare_world.proofs.Places.{slice_get-front}

pub prefix_self : (xs : List RecordValue) → IsPrefixOf xs xs
prefix_self xs = ([], append-nil xs)

pub prefix_trans : (xs ys zs : List RecordValue) → IsPrefixOf xs ys → IsPrefixOf ys zs → IsPrefixOf xs zs
prefix_trans xs ys zs p q = (p.0 ++ q.0, sym (append_assoc xs p.0 q.0) ∙ ap (λ l. l ++ q.0) p.1 ∙ q.1)

pub prefix_more : (xs ys : List RecordValue) → IsPrefixOf xs (xs ++ ys)
prefix_more xs ys = (ys, refl)

-- the record that comes next joins the prefix
pub prefix_push : (xs ys : List RecordValue) (r : RecordValue) → IsPrefixOf xs ys → slice_get ys (length xs) ≡ Some r → IsPrefixOf (xs ++ r ∷ []) ys
prefix_push xs ys r p at = by p.0 p.1
  where
    past : (zs : List RecordValue) → slice_get (zs ++ []) (length zs) ≡ None
    past [] = refl
    past (z ∷ zs) = past zs

    here : (zs : List RecordValue) (q : RecordValue) (rest : List RecordValue) → slice_get (zs ++ q ∷ rest) (length zs) ≡ Some q
    here [] q rest = refl
    here (z ∷ zs) q rest = here zs q rest

    by : (rest : List RecordValue) → xs ++ rest ≡ ys → IsPrefixOf (xs ++ r ∷ []) ys
    by [] e =
        let none : None ≡ Some r = sym (past xs) ∙ ap (λ l. slice_get l (length xs)) e ∙ at in
        absurd (cc)
    by (q ∷ rest) e =
        let found : Some q ≡ Some r = sym (here xs q rest) ∙ ap (λ l. slice_get l (length xs)) e ∙ at in
        let same : q ≡ r = cc in
        (rest, append_assoc xs (r ∷ []) rest ∙ ap (λ z. xs ++ z ∷ rest) (sym same) ∙ e)

pub prefix_length : (xs ys : List RecordValue) → IsPrefixOf xs ys → length xs ≤ length ys
prefix_length xs ys p = omega (arith, length-append xs p.0, ap length p.1)

-- what stands in a prefix stands there in the list
pub prefix_at : (xs ys : List RecordValue) (k : ℕ) (r : RecordValue) → IsPrefixOf xs ys → slice_get xs k ≡ Some r → slice_get ys k ≡ Some r
prefix_at xs ys k r p at = ap (λ l. slice_get l k) (sym p.1) ∙ slice_get-front xs p.0 k r at

pub prefix_count : (xs ys : List RecordValue) (day : ℕ) → IsPrefixOf xs ys → day_count xs day ≤ day_count ys day
prefix_count xs ys day p = omega (arith, day_count-append xs p.0 day, ap (λ l. day_count l day) p.1)

-- an owner's part of a front is a prefix of the owner's part
pub part_front : (owner n : ℕ) (taps : List RecordValue) → IsPrefixOf (part owner (take n taps)) (part owner taps)
part_front owner n taps =
    (part owner (drop n taps), sym (filter-append (λ (r : RecordValue). r.owner == owner) (take n taps) (drop n taps)) ∙ ap (part owner) (take-append-drop n taps))
