-- A row of texts: those of the values that were read so far, and then the rest.
use Rattle.std.proofs.Common.{◌≡◌, ℕ, List, [], ◌∷◌, ◌++◌, ap, refl, ◌∙◌, map}
use Rattle.std.specs.List.{AllByRecursion}
use Rattle.fare_lines.proofs.Cuts.{append_nil}

pub all_push : {X : Type 0} (P : X → Type 0) (xs : List X) (x : X) → AllByRecursion P xs → P x → AllByRecursion P (xs ++ x ∷ [])
all_push P [] x all p = (p, tt)
all_push P (y ∷ ys) x all p = (all.0, all_push P ys x all.1 p)

pub map_push : {X : Type 0} (f : X → List ℕ) (xs : List X) (x : X) → map f (xs ++ x ∷ []) ≡ map f xs ++ (f x ∷ [])
map_push f [] x = refl
map_push f (y ∷ ys) x = ap (λ t. f y ∷ t) (map_push f ys x)

row_push : {X : Type 0} (f : X → List ℕ) (xs : List X) (x : X) (rest : List (List ℕ)) → map f xs ++ (f x ∷ rest) ≡ map f (xs ++ x ∷ []) ++ rest
row_push f [] x rest = refl
row_push f (y ∷ ys) x rest = ap (λ t. f y ∷ t) (row_push f ys x rest)

-- one more value is read off the rest
pub row_next : {X : Type 0} (f : X → List ℕ) (xs : List X) (x : X) (text : List ℕ) (row rest more : List (List ℕ)) → row ≡ map f xs ++ more → more ≡ text ∷ rest → text ≡ f x → row ≡ map f (xs ++ x ∷ []) ++ rest
row_next f xs x text row rest more is next spelled =
    is ∙ ap (λ t. map f xs ++ t) (next ∙ ap (λ t. t ∷ rest) spelled) ∙ row_push f xs x rest

-- the last one
pub row_last : {X : Type 0} (f : X → List ℕ) (xs : List X) (x : X) (text : List ℕ) (row more : List (List ℕ)) → row ≡ map f xs ++ more → more ≡ text ∷ [] → text ≡ f x → row ≡ map f (xs ++ x ∷ [])
row_last f xs x text row more is next spelled = row_next f xs x text row [] more is next spelled ∙ append_nil (map f (xs ++ x ∷ []))

-- where the texts of a row go on with a text, it is the text of one of its values
pub one_of_row : {X : Type 0} (f : X → List ℕ) (P : X → Type 0) (xs ys : List X) (text : List ℕ) (rest : List (List ℕ)) → AllByRecursion P xs → map f xs ≡ map f ys ++ (text ∷ rest) → (x : X) × P x × (text ≡ f x)
one_of_row f P [] [] text rest all e = absurd (cc)
one_of_row f P [] (y ∷ ys) text rest all e = absurd (cc)
one_of_row f P (x ∷ xs) [] text rest all e = (x, all.0, cc)
one_of_row f P (x ∷ xs) (y ∷ ys) text rest all e = one_of_row f P xs ys text rest all.1 (cc)
