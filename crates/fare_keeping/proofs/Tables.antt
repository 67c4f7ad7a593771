-- The kept tables, as lists of tables and as their numbers with their columns.
use Rattle.std.proofs.Common.{◌≡◌, ◌≢◌, ◌<◌, ◌^◌, ℕ, List, [], ◌∷◌, map, sym, subst}
use Rattle.std.specs.List.{AllByRecursion, AllZip}
use Rattle.sqlite.specs.Effect.{Database}
use Rattle.sqlite.specs.Table.{Table}
use Rattle.sqlite.specs.Tree.{Trees}
use Rattle.sqlite_value.specs.Order.{Row}
use Rattle.fare_layout.specs.declared.place.TableNumber.{TableNumber}
use Rattle.fare_opening.specs.declared.site.Site.{Site}
use Rattle.fare_opening.specs.Moving.{AreNumbered}
use Rattle.fare_opening.specs.Sites.{tree_at, rows_at}
use Rattle.fare_lists.specs.declared.table.ListTable.{ListTable}
use Rattle.fare_lists.specs.Lists.{cells, behind_ids, HasNumbers, AreWide, AreAllWide, AreLawful, CanTell, HoldAll, IsOfNone, AreReplaced}
use Rattle.fare_lists.proofs.Written.{one_each}
use Rattle.fare_kept.specs.Statements.{Setting, Zone, Owner, Operator, Station, Product, Device}
use Rattle.fare_keeping.specs.Keeping.{kept_columns, AreLawfulRows, AreSmall, AreWideLists, HoldLists}
use Rattle.fare_keeping.specs.Leaving.{IsOfNoneKept, LeavesOthers}

-- ---- what holds of members, and of what stands for them

all_mapped : {X Y : Type 0} (f : X → Y) (P : Y → Type 0) (xs : List X) → AllByRecursion (λ x. P (f x)) xs → AllByRecursion P (map f xs)
all_mapped f P [] all = tt
all_mapped f P (x ∷ xs) all = (all.0, all_mapped f P xs all.1)

all_back : {X Y : Type 0} (f : X → Y) (P : Y → Type 0) (xs : List X) → AllByRecursion P (map f xs) → AllByRecursion (λ x. P (f x)) xs
all_back f P [] all = tt
all_back f P (x ∷ xs) all = (all.0, all_back f P xs all.1)

zip_mapped : {X Y Z : Type 0} (f : X → Y) (P : Y → Z → Type 0) (xs : List X) (zs : List Z) → AllZip (λ x z. P (f x) z) xs zs → AllZip P (map f xs) zs
zip_mapped f P [] [] zip = tt
zip_mapped f P [] (z ∷ zs) zip = absurd zip
zip_mapped f P (x ∷ xs) [] zip = absurd zip
zip_mapped f P (x ∷ xs) (z ∷ zs) zip = (zip.0, zip_mapped f P xs zs zip.1)

zip_back : {X Y Z : Type 0} (f : X → Y) (P : Y → Z → Type 0) (xs : List X) (zs : List Z) → AllZip P (map f xs) zs → AllZip (λ x z. P (f x) z) xs zs
zip_back f P [] [] zip = tt
zip_back f P [] (z ∷ zs) zip = absurd zip
zip_back f P (x ∷ xs) [] zip = absurd zip
zip_back f P (x ∷ xs) (z ∷ zs) zip = (zip.0, zip_back f P xs zs zip.1)

-- ---- rows of numbers below 2^32

rows_told : (rows : List Row) (list : List (List ℕ)) → behind_ids rows ≡ map cells list → AllByRecursion (λ (row : List ℕ). AllByRecursion (λ n. n < 2 ^ 32) row) list → AllByRecursion HasNumbers rows
rows_told [] list is small = tt
rows_told (row ∷ rows) [] is small = absurd (let x = is in cc)
rows_told (row ∷ rows) (numbers ∷ list) is small = (record { numbers = numbers; are = (let x = is in cc); small = small.0 }, rows_told rows list (let x = is in cc) small.1)

-- ---- the tables that are told so

abbrev pub column_of : ListTable → TableNumber × ℕ
column_of t = (t.number, t.columns)

abbrev pub AreTold : List ListTable → Type 0
AreTold tables = map {B = TableNumber × ℕ} column_of tables ≡ kept_columns

pub are_told : (tables : List ListTable) → map {B = TableNumber × ℕ} column_of tables ≡ (Setting, 2) ∷ (Zone, 1) ∷ (Owner, 2) ∷ (Operator, 1) ∷ (Station, 2) ∷ (Product, 6) ∷ (Device, 3) ∷ [] → AreTold tables
unfolding kept_columns
are_told tables is = is

module _ (w : Site) (tables : List ListTable) (told : AreTold tables) where
  pub hold_lists : (trees : Trees) (lists : List (List (List ℕ))) → HoldAll w trees tables lists → HoldLists w trees lists
  hold_lists trees lists all =
      let P = λ (c : TableNumber × ℕ) (list : List (List ℕ)). behind_ids (rows_at w c.0 trees) ≡ map cells list in
      subst (λ cs. AllZip P cs lists) told (zip_mapped column_of P tables lists all)

  pub hold_all : (trees : Trees) (lists : List (List (List ℕ))) → HoldLists w trees lists → HoldAll w trees tables lists
  hold_all trees lists hold =
      let P = λ (c : TableNumber × ℕ) (list : List (List ℕ)). behind_ids (rows_at w c.0 trees) ≡ map cells list in
      zip_back column_of P tables lists (subst (λ cs. AllZip P cs lists) (sym told) hold)

  pub lawful : (trees : Trees) → AreLawfulRows w trees → AreLawful w trees tables
  lawful trees all =
      let P = λ (c : TableNumber × ℕ). AreNumbered c.1 (rows_at w c.0 trees) in
      all_back column_of P tables (subst (AllByRecursion P) (sym told) all)

  pub lawful_rows : (trees : Trees) → AreLawful w trees tables → AreLawfulRows w trees
  lawful_rows trees all =
      let P = λ (c : TableNumber × ℕ). AreNumbered c.1 (rows_at w c.0 trees) in
      subst (AllByRecursion P) told (all_mapped column_of P tables all)

  -- tables that hold lists of numbers below 2^32 can be told
  pub can_tell : (trees : Trees) (lists : List (List (List ℕ))) → HoldLists w trees lists → AreSmall lists → CanTell w trees tables
  can_tell trees lists hold small = each_told tables lists (hold_all trees lists hold) small
    where
      each_told : (ts : List ListTable) (ls : List (List (List ℕ))) → HoldAll w trees ts ls → AreSmall ls → CanTell w trees ts
      each_told [] [] all few = tt
      each_told [] (l ∷ ls) all few = absurd all
      each_told (t ∷ ts) [] all few = absurd all
      each_told (t ∷ ts) (l ∷ ls) all few = (rows_told (rows_at w t.number trees) l all.0 few.0, each_told ts ls all.1 few.1)

  -- they hold one list each
  pub one_lists : (trees : Trees) (one other : List (List (List ℕ))) → HoldLists w trees one → HoldLists w trees other → one ≡ other
  one_lists trees one other a b = one_each w trees tables one other (hold_all trees one a) (hold_all trees other b)

  of_none : (tree : ℕ) → IsOfNoneKept w tree → IsOfNone w tables tree
  of_none tree none =
      let P = λ (c : TableNumber × ℕ). tree ≢ tree_at w c.0 in
      all_back column_of P tables (subst (AllByRecursion P) (sym told) none)

  -- where they are replaced, the others are left
  pub leaves_others : (lists : List (List (List ℕ))) (old new : Database) → AreReplaced w tables lists old new → LeavesOthers w old new
  leaves_others lists old new it = record {
    schema = it.schema;
    others = others w.schema.tables it.others;
    database = it.database;
  }
    where
      others : (ts : List Table) → AllByRecursion (λ (t : Table). IsOfNone w tables t.tree → new.trees t.tree ≡ old.trees t.tree) ts → AllByRecursion (λ (t : Table). IsOfNoneKept w t.tree → new.trees t.tree ≡ old.trees t.tree) ts
      others [] all = tt
      others (t ∷ ts) all = ((λ none. all.0 (of_none t.tree none)), others ts all.1)

pub all_wide : (tables : List ListTable) (lists : List (List (List ℕ))) → AreTold tables → AreWideLists lists → AreAllWide tables lists
all_wide tables lists told wide =
    let P = λ (c : TableNumber × ℕ) (list : List (List ℕ)). AreWide c.1 list in
    zip_back column_of P tables lists (subst (λ cs. AllZip P cs lists) (sym told) wide)
