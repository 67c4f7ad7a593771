-- Lists that are as wide as their tables.
use Rattle.std.proofs.Common.{◌≡◌, ◌<◌, ◌+◌, ◌++◌, ◌∷◌, ℕ, zero, suc, List, [], length, take, get_or, refl, sym, ap, subst, ◌∙◌, arith}
use Rattle.std.specs.Global.{Global}
use Rattle.std.specs.Prelude.{Vec}
use Rattle.fare_lists.specs.Lists.{told_list, AreWide}

-- one row more
wide_more : (columns : ℕ) (list : List (List ℕ)) (numbers : List ℕ) → AreWide columns list → length numbers ≡ columns → AreWide columns (list ++ numbers ∷ [])
wide_more columns [] numbers wide long = (long, tt)
wide_more columns (first ∷ list) numbers wide long = (wide.0, wide_more columns list numbers wide.1 long)

told_to : (list : List (Vec ℕ Global)) (k : ℕ) (r : Vec ℕ Global) → take (k + 1) list ≡ take k list ++ r ∷ [] → told_list (take (k + 1) list) ≡ told_list (take k list) ++ r.items ∷ []
told_to list k r more = ap told_list more ∙ told_append (take k list) r
  where
    told_append : (xs : List (Vec ℕ Global)) (r : Vec ℕ Global) → told_list (xs ++ r ∷ []) ≡ told_list xs ++ r.items ∷ []
    told_append [] r = refl
    told_append (x ∷ xs) r = ap (λ ys. x.items ∷ ys) (told_append xs r)

pub one_wider : (columns : ℕ) (list : List (Vec ℕ Global)) (k : ℕ) (r : Vec ℕ Global) → take (k + 1) list ≡ take k list ++ r ∷ [] → length r.items ≡ columns → AreWide columns (told_list (take k list)) → AreWide columns (told_list (take (k + 1) list))
one_wider columns list k r more long wide = subst (AreWide columns) (sym (told_to list k r more)) (wide_more columns (told_list (take k list)) r.items wide long)

-- a row of another width
pub other_width : (columns : ℕ) (list : List (Vec ℕ Global)) (k : ℕ) (r d : Vec ℕ Global) → k < length list → r ≡ get_or list k d → ¬ (length r.items ≡ columns) → ¬ AreWide columns (told_list list)
other_width columns [] k r d low is other wide = omega (arith, low)
other_width columns (x ∷ list) zero r d low is other wide = other (ap (λ (v : Vec ℕ Global). length v.items) is ∙ wide.0)
other_width columns (x ∷ list) (suc k) r d low is other wide = other_width columns list k r d (omega (arith, low)) is other wide.1
