-- The count of a day that waits.
use Rattle.std.proofs.Common.{◌≡◌, ◌<◌, ◌≤◌, ◌+◌, ℕ, Bool, true, false, List, [], ◌∷◌, cond, length, drop, get_or, nat_eq, is_some, None, Some, refl, sym, ap, ◌∙◌, arith}
use Rattle.std.proofs.lemmas.List.{drop_all, drop_more}
use Rattle.std.proofs.lemmas.Map.Entries.{lookup_head}
use Rattle.std.proofs.lemmas.Bool.Decides.{nat_tests}
use Rattle.std.specs.Prelude.{◌==◌, ◌||◌, Option, IfSome, slice_get}
use Rattle.std.specs.Map.{lookup}
use Rattle.fare_device.specs.DeviceWords.{AreWithin}
use Rattle.fare_device.specs.Turning.{is_waiting}

turned : (a b : ℕ) → nat_eq a b ≡ (b == a)
turned a b = grind (arith, nat_tests)

-- the day stands at this place, and at none before
found_at : (days : List (ℕ × List ℕ)) (day index : ℕ) (d : ℕ × List ℕ) → index < length days → d ≡ get_or days index d → lookup (nat_eq day) (drop index days) ≡ lookup (nat_eq day) days → nat_eq day d.0 ≡ true
    → lookup (nat_eq day) days ≡ Some d.1
found_at days day index d within here before is =
    let rest : drop index days ≡ d ∷ drop (index + 1) days = drop_more days index d within ∙ ap (λ e. e ∷ drop (index + 1) days) (sym here) in
    sym before ∙ ap (lookup (nat_eq day)) rest ∙ lookup_head (nat_eq day) d (drop (index + 1) days) is

pub found_item : (days now : List (ℕ × List ℕ)) (day index is_day : ℕ) (d : ℕ × List ℕ) → days ≡ now → index < length days → d ≡ get_or days index d → lookup (nat_eq day) (drop index days) ≡ lookup (nat_eq day) days → is_day ≡ d.0 → (is_day == day) ≡ true
    → lookup (nat_eq day) now ≡ Some d.1
found_item days now day index is_day d same within here before read is =
    let there : nat_eq day d.0 ≡ true = turned day d.0 ∙ ap (λ k. k == day) (sym read) ∙ is in
    ap (lookup (nat_eq day)) (sym same) ∙ found_at days day index d within here before there

pub within_at : (most : ℕ) (ns : List ℕ) (place : ℕ) (o : Option ℕ) → o ≡ slice_get ns place → AreWithin most ns → IfSome o (λ n. n ≤ most)
within_at most ns place None e within = tt
within_at most ns place (Some n) e within = within place n (sym e)

either : (b : Bool) (X : Type 0) (x : X) (o : Option X) (w : Bool) → is_some o ≡ w → is_some (cond b (Some x) o) ≡ (b || w)
either true X x o w e = refl
either false X x o w e = e

-- a day waits exactly where it has counts
pub found_where_waiting : (days : List (ℕ × List ℕ)) (day : ℕ) → is_some (lookup (nat_eq day) days) ≡ is_waiting days day
found_where_waiting [] day = refl
found_where_waiting (d ∷ ds) day = either (nat_eq day d.0) (List ℕ) d.1 (lookup (nat_eq day) ds) (is_waiting ds day) (found_where_waiting ds day) ∙ ap (λ b. b || is_waiting ds day) (turned day d.0)

-- and at none at all
pub ended : (days : List (ℕ × List ℕ)) (day index : ℕ) → length days ≤ index → lookup (nat_eq day) (drop index days) ≡ lookup (nat_eq day) days → is_waiting days day ≡ false
ended days day index all before = sym (found_where_waiting days day) ∙ ap is_some (sym before ∙ ap (lookup (nat_eq day)) (drop_all index days all))
