-- Lists that are empty, that are the same, and that tell a scheme.
use Rattle.std.proofs.Common.{◌≡◌, ◌&&◌, ℕ, Bool, true, false, List, [], ◌∷◌, length, map, refl, sym, ap, ◌∙◌}
use Rattle.std.specs.Prelude.{nat_eq, Vec}
use Rattle.std.specs.Global.{Global}
use Rattle.std.specs.Cmp.Lexicographic.{pointwise, same_text}
use Rattle.std.specs.List.{AllZip}
use Rattle.sqlite.specs.Tree.{Trees}
use Rattle.sqlite_value.specs.Order.{Row}
use Rattle.fare_layout.specs.declared.place.TableNumber.{TableNumber}
use Rattle.fare_opening.specs.declared.site.Site.{Site}
use Rattle.fare_opening.specs.Sites.{rows_at}
use Rattle.fare_lists.specs.Lists.{told, told_list, cells, behind_ids, AreWide}
use Rattle.fare_register.specs.Registers.{RegisterValue, register_lists, one_number, pair_numbers, product_numbers, device_numbers}
use Rattle.fare_keeping.specs.Keeping.{kept_columns, AreEmpty, AreWideLists, HoldLists, no_lists}

-- ---- the same lists

both : (a b : Bool) → a && b ≡ true → (a ≡ true) × (b ≡ true)
both true b e = (refl, e)
both false b e = absurd (let x = e in cc)

same_rows : (one other : List (Vec ℕ Global)) → pointwise (λ r q. pointwise nat_eq r.items q.items) one other ≡ true → told_list one ≡ told_list other
same_rows [] [] e = refl
same_rows [] (q ∷ other) e = absurd (let x = e in cc)
same_rows (r ∷ one) [] e = absurd (let x = e in cc)
same_rows (r ∷ one) (q ∷ other) e =
    let it = both (pointwise nat_eq r.items q.items) (pointwise (λ r q. pointwise nat_eq r.items q.items) one other) e in
    λ i. same_text r.items q.items (sym it.0) i ∷ same_rows one other it.1 i

pub same_lists : (one other : List (Vec (Vec ℕ Global) Global)) → pointwise (λ a b. pointwise (λ r q. pointwise nat_eq r.items q.items) a.items b.items) one other ≡ true → told one ≡ told other
same_lists [] [] e = refl
same_lists [] (q ∷ other) e = absurd (let x = e in cc)
same_lists (r ∷ one) [] e = absurd (let x = e in cc)
same_lists (r ∷ one) (q ∷ other) e =
    let it = both (pointwise (λ r q. pointwise nat_eq r.items q.items) r.items q.items) (pointwise (λ a b. pointwise (λ r q. pointwise nat_eq r.items q.items) a.items b.items) one other) e in
    λ i. same_rows r.items q.items it.0 i ∷ same_lists one other it.1 i

-- ---- no entries

-- a table that holds an empty list has no row
pub no_rows : (rows : List Row) → behind_ids rows ≡ [] → rows ≡ []
no_rows [] is = refl
no_rows (row ∷ rows) is = absurd (let x = is in cc)

empty_rows : (w : Site) (trees : Trees) (columns : List (TableNumber × ℕ)) (lists other : List (List (List ℕ))) → AreEmpty lists → AreEmpty other → AllZip (λ (t : TableNumber × ℕ) (list : List (List ℕ)). behind_ids (rows_at w t.0 trees) ≡ map cells list) columns lists → length other ≡ length columns → AllZip (λ (t : TableNumber × ℕ) (list : List (List ℕ)). behind_ids (rows_at w t.0 trees) ≡ map cells list) columns other
empty_rows w trees [] [] [] empty none hold many = tt
empty_rows w trees [] [] (o ∷ other) empty none hold many = absurd (let x = many in cc)
empty_rows w trees [] (l ∷ lists) other empty none hold many = absurd hold
empty_rows w trees (c ∷ columns) [] other empty none hold many = absurd hold
empty_rows w trees (c ∷ columns) (l ∷ lists) [] empty none hold many = absurd (let x = many in cc)
empty_rows w trees (c ∷ columns) (l ∷ lists) (o ∷ other) empty none hold many = (hold.0 ∙ ap (map cells) (empty.0 ∙ sym none.0), empty_rows w trees columns lists other empty.1 none.1 hold.1 (let x = many in cc))

-- tables that hold empty lists hold the seven of them
pub hold_none : (w : Site) (trees : Trees) (lists : List (List (List ℕ))) → AreEmpty lists → HoldLists w trees lists → HoldLists w trees no_lists
unfolding kept_columns
hold_none w trees lists empty hold = empty_rows w trees kept_columns lists no_lists empty (refl, (refl, (refl, (refl, (refl, (refl, (refl, tt))))))) hold refl

-- ---- the widths of what is registered

each_wide : {X : Type 0} (columns : ℕ) (f : X → List ℕ) (xs : List X) → ((x : X) → length (f x) ≡ columns) → AreWide columns (map f xs)
each_wide columns f [] wide = tt
each_wide columns f (x ∷ xs) wide = (wide x, each_wide columns f xs wide)

pub register_wide : (r : RegisterValue) → AreWideLists (register_lists r)
unfolding kept_columns
register_wide r = (
  (refl, tt),
  (
    each_wide 1 one_number r.zone (λ x. refl),
    (
      each_wide 2 pair_numbers r.owners (λ x. refl),
      (
        each_wide 1 one_number r.operators (λ x. refl),
        (
          each_wide 2 pair_numbers r.stations (λ x. refl),
          (
            each_wide 6 product_numbers r.products (λ x. refl),
            (each_wide 3 device_numbers r.devices (λ x. refl), tt),
          ),
        ),
      ),
    ),
  ),
)

pub some_registered : (r : RegisterValue) → ¬ AreEmpty (register_lists r)
some_registered r empty = absurd (let x = empty.0 in cc)
