-- The kept tables have no name of an outbox's table, so names that were free stay so where they are made.
use Rattle.std.proofs.Common.{◌≡◌, ◌+◌, ◌++◌, ◌||◌, ℕ, Bool, true, false, cond, List, [], ◌∷◌, Some, None, Ok, codes, refl, sym, ap, subst, ◌∙◌}
use Rattle.std.specs.Prelude.{is_some}
use Rattle.std.specs.List.{AllByRecursion, position_from}
use Rattle.sqlite.specs.Change.{created, next_tree}
use Rattle.sqlite.specs.Compile.{table_defined_by}
use Rattle.sqlite.specs.Listing.{understood}
use Rattle.sqlite.specs.Schema.{Schema}
use Rattle.sqlite.specs.Table.{Table}
use Rattle.sqlite_catalog.specs.Change.{is_used, automatics}
use Rattle.sqlite_schema.specs.Names.{same_name, table_named, index_named, view_named}
use Rattle.sqlite_schema.specs.declared.schema.Index.{Index}
use Rattle.sqlite_tied.specs.Compute.{everything}
use Rattle.fare_layout.specs.Growing.{GrowsBy, HasNone}
use Rattle.fare_layout.proofs.Again.{same_ok}
use Rattle.fare_opening.specs.Parts.{meta_named}
use Rattle.fare_kept.specs.Statements.{kept_parts, tables}
use Rattle.fare_kept.specs.Tables.{scheme_table, zone_table, owner_table, operator_table, station_table, product_table, device_table}
use Rattle.fare_outbox_rows.specs.Statements.{later_tables}

-- ---- a name behind a list

not_behind : {X : Type 0} (p : X → Bool) (at : ℕ) (xs : List X) (x : X) → is_some (position_from p at xs) ≡ false → p x ≡ false → is_some (position_from p at (xs ++ x ∷ [])) ≡ false
not_behind p at [] x none other = ap (λ b. is_some (cond b (Some at) None)) other
not_behind p at (y ∷ xs) x none other = go (p y) none (λ rest. not_behind p (at + 1) xs x rest other)
  where
    go : (b : Bool) → is_some (cond b (Some at) (position_from p (at + 1) xs)) ≡ false → (is_some (position_from p (at + 1) xs) ≡ false → is_some (position_from p (at + 1) (xs ++ x ∷ [])) ≡ false) → is_some (cond b (Some at) (position_from p (at + 1) (xs ++ x ∷ []))) ≡ false
    go true none rest = absurd (let e = none in cc)
    go false none rest = rest none

none_more : {X : Type 0} (xs : List X) → xs ++ [] ≡ xs
none_more [] = refl
none_more (x ∷ xs) = ap (λ ys. x ∷ ys) (none_more xs)

three : (a b c : Bool) → a || b || c ≡ false → (a ≡ false) × (b ≡ false) × (c ≡ false)
three true b c e = absurd (let x = e in cc)
three false true c e = absurd (let x = e in cc)
three false false true e = absurd (let x = e in cc)
three false false false e = (refl, refl, refl)

no_three : (a b c : Bool) → a ≡ false → b ≡ false → c ≡ false → a || b || c ≡ false
no_three a b c one two last = rw (one, two, last) refl

-- ---- one table of another name, with no key, is made

still_free : (s : Schema) (table : Table) (name : List ℕ) → same_name table.name name ≡ false → table.uniques ≡ [] → is_used s name ≡ false → is_used (created s table) name ≡ false
still_free s table name other plain free =
    let was = three (is_some (table_named s name)) (is_some (index_named s name)) (is_some (view_named s name)) free in
    let new : Table = record table { tree = next_tree s } in
    let indexes : s.indexes ++ automatics new 0 (new.tree + 1) new.uniques ≡ s.indexes = ap (λ keys. s.indexes ++ automatics new 0 (new.tree + 1) keys) plain ∙ none_more s.indexes in
    no_three (is_some (table_named (created s table) name)) (is_some (index_named (created s table) name)) (is_some (view_named (created s table) name))
    (not_behind (λ (t : Table). same_name t.name name) 0 s.tables new was.0 other)
    (ap (λ (is : List Index). is_some (position_from (λ (i : Index). same_name i.name name) 0 is)) indexes ∙ was.1)
    was.2

-- a text makes a table of another name, with no key
pub record MakesOther (name sql : List ℕ) : Type 0 where
  pub table : Table
  pub defined : table_defined_by sql ≡ Ok table
  pub other : same_name table.name name ≡ false
  pub plain : table.uniques ≡ []

free_after : (texts : List (List ℕ × List ℕ)) (s t : Schema) (name : List ℕ) → AllByRecursion (λ (x : List ℕ × List ℕ). MakesOther name x.1) texts → GrowsBy s texts t → is_used s name ≡ false → is_used t name ≡ false
free_after [] s t name others same free = subst (λ x. is_used x name ≡ false) same free
free_after (text ∷ texts) s t name others grows free =
    let one = grows.1 in
    let same : others.0.table ≡ one.table = same_ok (sym others.0.defined ∙ one.defines.defined) in
    let next : is_used grows.0 name ≡ false = subst (λ x. is_used x name ≡ false) (sym one.next_is) (still_free s one.table name (subst (λ (x : Table). same_name x.name name ≡ false) same others.0.other) (subst (λ (x : Table). x.uniques ≡ []) same others.0.plain) free) in
    free_after texts grows.0 t name others.1 grows.2 next

-- ---- the table that the first format of an outbox lacks

abbrev later_name : List ℕ
later_name = codes "tap2"

others : AllByRecursion (λ (x : List ℕ × List ℕ). MakesOther later_name x.1) tables
unfolding understood everything same_name
others = (
  record { table = meta_named (codes "kept") 0; defined = refl; other = refl; plain = refl },
  (
    record { table = scheme_table 0; defined = refl; other = refl; plain = refl },
    (
      record { table = zone_table 0; defined = refl; other = refl; plain = refl },
      (
        record { table = owner_table 0; defined = refl; other = refl; plain = refl },
        (
          record { table = operator_table 0; defined = refl; other = refl; plain = refl },
          (
            record { table = station_table 0; defined = refl; other = refl; plain = refl },
            (
              record { table = product_table 0; defined = refl; other = refl; plain = refl },
              (record { table = device_table 0; defined = refl; other = refl; plain = refl }, tt),
            ),
          ),
        ),
      ),
    ),
  ),
)

pub later_free : (s t : Schema) → GrowsBy s kept_parts.tables t → HasNone later_tables s → HasNone later_tables t
later_free s t grows free = (free_after tables s t later_name others grows free.0, tt)
