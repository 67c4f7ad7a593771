-- The lines of entries, pushed one after the other.
use Rattle.std.proofs.Common.{◌≡◌, ◌+◌, ◌<◌, ℕ, List, [], ◌∷◌, ◌++◌, length, take, map, Option, Some, None, refl, ap, ap₂, sym, ◌∙◌, append_assoc, arith}
use Rattle.std.specs.Prelude.{slice_get, option_map}
use Rattle.std.specs.List.{flat_map}
use Prim.Native.Nat.{zero, suc}
use Rattle.std.proofs.lemmas.List.{take_more, map-append, append-nil}
use Rattle.std.proofs.lemmas.Grind.{flat_map-append}
use Rattle.std.proofs.lemmas.Option.{slice_get_within, get_or_from_slice_get}

taken : {X : Type 0} (xs : List X) (k : ℕ) (x : X) → Some x ≡ slice_get xs k → take (k + 1) xs ≡ take k xs ++ x ∷ []
taken xs k x here =
    take_more xs k x (slice_get_within xs k x (sym here)) ∙ ap (λ y. take k xs ++ y ∷ []) (get_or_from_slice_get xs k x x (sym here))

pub none_past : {X : Type 0} (xs : List X) (k : ℕ) → None ≡ slice_get xs k → k < length xs → ⊥
none_past [] k none within = omega arith
none_past (x ∷ xs) zero none within = cc
none_past (x ∷ xs) (suc k) none within = none_past xs k none (omega arith)

pub no_line_past : {X Y : Type 0} (f : X → Y) (xs : List X) (k : ℕ) → None ≡ option_map f (slice_get xs k) → k < length xs → ⊥
no_line_past {X} f xs k none within = by (slice_get xs k) refl none
  where
    by : (o : Option X) → o ≡ slice_get xs k → None ≡ option_map f o → ⊥
    by None is e = none_past xs k is within
    by (Some x) is e = cc

pub one_line : {X Y : Type 0} (f : X → Y) (old out new : List Y) (xs : List X) (k : ℕ) (y : Y) → Some y ≡ option_map f (slice_get xs k) → out ≡ old ++ map f (take k xs) → new ≡ out ++ y ∷ [] → new ≡ old ++ map f (take (k + 1) xs)
one_line {X} f old out new xs k y here so_far more = by (slice_get xs k) refl here
  where
    by : (o : Option X) → o ≡ slice_get xs k → Some y ≡ option_map f o → new ≡ old ++ map f (take (k + 1) xs)
    by None is e = absurd (cc)
    by (Some x) is e =
        let same : y ≡ f x = cc in
        more
        ∙ ap₂ (λ t z. t ++ z ∷ []) so_far same
        ∙ append_assoc old (map f (take k xs)) (f x ∷ [])
        ∙ ap (λ t. old ++ t) (sym (map-append f (take k xs) (x ∷ [])) ∙ ap (map f) (sym (taken xs k x is)))

pub some_lines : {X Y : Type 0} (f : X → List Y) (old out new : List Y) (xs : List X) (k : ℕ) (x : X) → Some x ≡ slice_get xs k → out ≡ old ++ flat_map f (take k xs) → new ≡ out ++ f x → new ≡ old ++ flat_map f (take (k + 1) xs)
some_lines f old out new xs k x here so_far more =
    more
    ∙ ap (λ t. t ++ f x) so_far
    ∙ append_assoc old (flat_map f (take k xs)) (f x)
    ∙ ap (λ t. old ++ t) (ap (λ t. flat_map f (take k xs) ++ t) (sym (append-nil (f x))) ∙ sym (flat_map-append f (take k xs) (x ∷ [])) ∙ ap (flat_map f) (sym (taken xs k x here)))
