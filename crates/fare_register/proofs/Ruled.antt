-- The rule of a zone, byte by byte.
use Rattle.std.proofs.Common.{◌≡◌, ◌≤◌, ℕ, suc, List, [], ◌∷◌, map, Option, Some, None, Result, Ok, Err, refl, sym, ap, subst, ◌∙◌, arith}
use Rattle.std.specs.Prelude.{IfOk, IfSome, IfNone, MatchOption}
use Rattle.std.specs.List.{All, AllByRecursion}
use Rattle.fare_lines.specs.ZoneWord.{IsZoneText}
use Rattle.fare_register.specs.Registers.{one_number, IsByte, AreNone}

pub matched_some : {X : Type 0} (o : Option X) (x : X) (N : Type 0) (P : X → Type 0) → o ≡ Some x → MatchOption o N P → P x
matched_some o x N P is it = subst (λ y. MatchOption y N P) is it

pub matched_none : {X : Type 0} (o : Option X) (N : Type 0) (P : X → Type 0) → o ≡ None → MatchOption o N P → N
matched_none o N P is it = subst (λ y. MatchOption y N P) is it

-- the bytes of a text are bytes
all_bytes : (text : List ℕ) → All (λ b. (33 ≤ b) × (b ≤ 126)) text → AllByRecursion IsByte text
all_bytes [] all = tt
all_bytes (b ∷ text) all = ((let e = all 0 0 (omega arith) in omega (arith, e.1)), all_bytes text (λ k d low. all (suc k) d (omega (arith, low))))

pub no_rule : (rows : List (List ℕ)) → AreNone ℕ IsByte one_number rows → (zone : List ℕ) → IsZoneText zone → rows ≡ map one_number zone → ⊥
no_rule rows none zone word is = none zone (all_bytes zone word.printable) is

-- rows are of one text
pub one_text : (one other : List ℕ) → map one_number one ≡ map one_number other → one ≡ other
one_text [] [] is = refl
one_text [] (b ∷ other) is = absurd cc
one_text (a ∷ one) [] is = absurd cc
one_text (a ∷ one) (b ∷ other) is =
    let first : a ≡ b = cc in
    let rest : map one_number one ≡ map one_number other = cc in
    λ i. first i ∷ one_text one other rest i

pub ruled : {E : Type 0} (result : Result (Option (List ℕ)) E) (rows : List (List ℕ)) (bytes : List ℕ) → rows ≡ map one_number bytes → IfOk result (λ found. IfSome found (λ text. text ≡ bytes)) → IfOk result (λ found. IfSome found IsZoneText) → IfOk result (λ found. IfNone found (IsZoneText bytes → ⊥))
    → IfOk result (λ found. MatchOption found ((zone : List ℕ) → IsZoneText zone → rows ≡ map one_number zone → ⊥) (λ rule. IsZoneText rule × (rows ≡ map one_number rule)))
ruled (Err e) rows bytes are found fits none = tt
ruled (Ok None) rows bytes are found fits none = λ zone word is. none (subst IsZoneText (one_text zone bytes (sym is ∙ are)) word)
ruled (Ok (Some text)) rows bytes are found fits none = (fits, are ∙ ap (map one_number) (sym found))
