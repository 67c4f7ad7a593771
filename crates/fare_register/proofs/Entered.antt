-- The rows of entries, one more at a time.
use Rattle.std.proofs.Common.{◌≡◌, ◌+◌, ◌++◌, ◌∷◌, ℕ, List, [], map, take, Option, Some, None, refl, sym, ap, ◌∙◌}
use Rattle.std.specs.Global.{Global}
use Rattle.std.specs.Prelude.{Vec, slice_get, option_map}
use Rattle.std.proofs.lemmas.List.{take_more, map-append}
use Rattle.std.proofs.lemmas.Option.{slice_get_within, get_or_from_slice_get}
use Rattle.fare_lines.specs.declared.line.SchemeLine.{SchemeLine}
use Rattle.fare_register.specs.Registers.{told_list}

taken : {X : Type 0} (xs : List X) (k : ℕ) (x : X) → Some x ≡ slice_get xs k → take (k + 1) xs ≡ take k xs ++ x ∷ []
taken xs k x here = take_more xs k x (slice_get_within xs k x (sym here)) ∙ ap (λ y. take k xs ++ y ∷ []) (get_or_from_slice_get xs k x x (sym here))

told_behind : (rows : List (Vec ℕ Global)) (r : Vec ℕ Global) → told_list (rows ++ r ∷ []) ≡ told_list rows ++ r.items ∷ []
told_behind [] r = refl
told_behind (v ∷ rows) r = ap (λ t. v.items ∷ t) (told_behind rows r)

pub more_rows : {X : Type 0} (f : X → List ℕ) (xs : List X) (k : ℕ) (x : X) (rows new : List (Vec ℕ Global)) (r : Vec ℕ Global) → take (k + 1) xs ≡ take k xs ++ x ∷ [] → told_list rows ≡ map f (take k xs) → new ≡ rows ++ r ∷ [] → r.items ≡ f x → told_list new ≡ map f (take (k + 1) xs)
more_rows f xs k x rows new r more so_far pushed is =
    ap told_list pushed ∙ told_behind rows r ∙ ap (λ t. t ++ r.items ∷ []) so_far ∙ ap (λ n. map f (take k xs) ++ n ∷ []) is ∙ sym (map-append f (take k xs) (x ∷ [])) ∙ ap (map f) (sym more)

pub one_row : {X : Type 0} (f : X → List ℕ) (xs : List X) (k : ℕ) (x : X) (rows new : List (Vec ℕ Global)) (r : Vec ℕ Global) → Some x ≡ slice_get xs k → told_list rows ≡ map f (take k xs) → new ≡ rows ++ r ∷ [] → r.items ≡ f x → told_list new ≡ map f (take (k + 1) xs)
one_row f xs k x rows new r here = more_rows f xs k x rows new r (taken xs k x here)

-- the entry's line is at hand
pub line_row : {X : Type 0} (line : X → SchemeLine) (f : X → List ℕ) (xs : List X) (k : ℕ) (y : SchemeLine) (rows new : List (Vec ℕ Global)) (r : Vec ℕ Global) → Some y ≡ option_map line (slice_get xs k) → ((x : X) → y ≡ line x → r.items ≡ f x) → told_list rows ≡ map f (take k xs) → new ≡ rows ++ r ∷ [] → told_list new ≡ map f (take (k + 1) xs)
line_row {X} line f xs k y rows new r here is so_far pushed = by (slice_get xs k) refl here
  where
    by : (o : Option X) → o ≡ slice_get xs k → Some y ≡ option_map line o → told_list new ≡ map f (take (k + 1) xs)
    by None there e = absurd cc
    by (Some x) there e =
        let same : y ≡ line x = cc in
        one_row f xs k x rows new r there so_far pushed (is x same)
