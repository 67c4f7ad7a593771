-- What holds where a schema fits: no foreign key acts on a store's tables, and no index has a rowid for its key.
use Rattle.std.proofs.Common.{◌≡◌, ◌≢◌, ◌==◌, ◌&&◌, ◌⊎◌, inl, inr, ◌++◌, ℕ, [], ◌∷◌, List, Bool, true, false, Some, None, Option, IfSome, refl, sym, ap, ◌∙◌, arith}
use Rattle.std.specs.Prelude.{bytes_eq, find}
use Rattle.std.specs.List.{AllByRecursion, list_any, flat_map, filter_map}
use Rattle.std.proofs.lemmas.Bool.Decides.{nat_tests}
use Rattle.std.proofs.lemmas.Slice.Eq.{bytes_eq-Decides}
use Rattle.sqlite_value.specs.Order.{Row}
use Rattle.sqlite.specs.Schema.{Schema}
use Rattle.sqlite.specs.Table.{Table}
use Rattle.sqlite_schema.specs.declared.schema.Index.{Index}
use Rattle.sqlite_schema.specs.declared.schema.Keys.{Keys}
use Rattle.sqlite_schema.specs.declared.schema.Reference.{Reference}
use Rattle.sqlite_schema.specs.Names.{same_name}
use Rattle.sqlite_schema.specs.Rules.{parent_key, key_in, key_places, declared_order, agree}
use Rattle.sqlite_value.specs.declared.keys.Order.{Order}
use Rattle.std.specs.Prelude.{length, option_map, option_and_then}
use Rattle.std.specs.List.{cons_option}
use Rattle.std.proofs.lemmas.Bool.{ne_eqb}
use Rattle.sqlite_rules.specs.Action.{work_for, work_by, works, pairs, deed_for}
use Rattle.sqlite_rules.specs.declared.action.Deed.{Deed}
use Rattle.sqlite_rules.specs.Keys.{shares}
use Rattle.fare_layout.specs.Layouts.{RefersElsewhere, IsFree}

-- ---- no foreign key acts

module _ (schema : Schema) (keys : Keys) (depth tree : ℕ) (olds news : List Row) where
  -- a reference to a table of another tree sets nothing off there
  no_work : (child : Table) (ref : Reference) → RefersElsewhere schema tree ref → work_for schema keys depth tree olds news child ref ≡ None
  no_work child ref elsewhere = by_deed (deed_for keys (length news == 0) ref)
    where
      by_order : (deed : Deed) (t : Table) (places : List ℕ) (o : Option Order) → t.tree ≢ tree → work_by depth tree (pairs olds news) child ref (Some deed) (option_map (λ o. (t.tree, places, o)) o) ≡ None
      by_order deed t places None other = refl
      by_order deed t places (Some o) other = rw (ne_eqb t.tree tree other) refl

      by_places : (deed : Deed) (t : Table) (places : Option (List ℕ)) → t.tree ≢ tree → work_by depth tree (pairs olds news) child ref (Some deed) (option_and_then (key_in t) places) ≡ None
      by_places deed t None other = refl
      by_places deed t (Some places) other = by_order deed t places (declared_order t places) other

      by_parent : (deed : Deed) (found : Option Table) → IfSome found (λ t. t.tree ≢ tree) → work_by depth tree (pairs olds news) child ref (Some deed) (option_and_then (λ t. option_and_then (key_in t) (key_places t ref.parent_columns)) found) ≡ None
      by_parent deed None other = refl
      by_parent deed (Some t) other = by_places deed t (key_places t ref.parent_columns) other

      by_deed : (deed : Option Deed) → work_by depth tree (pairs olds news) child ref deed (parent_key schema.tables ref) ≡ None
      by_deed None = refl
      by_deed (Some deed) = by_parent deed (find (λ (t : Table). same_name t.name ref.parent) schema.tables) elsewhere

  no_work_by : (child : Table) (refs : List Reference) → AllByRecursion (RefersElsewhere schema tree) refs → filter_map (work_for schema keys depth tree olds news child) refs ≡ []
  no_work_by child [] elsewhere = refl
  no_work_by child (r ∷ refs) elsewhere = ap (λ w. cons_option w (filter_map (work_for schema keys depth tree olds news child) refs)) (no_work child r elsewhere.0) ∙ no_work_by child refs elsewhere.1

  no_work_of : (tables : List Table) → AllByRecursion (λ (t : Table). AllByRecursion (RefersElsewhere schema tree) t.references) tables → flat_map (λ child. filter_map (work_for schema keys depth tree olds news child) child.references) tables ≡ []
  no_work_of [] elsewhere = refl
  no_work_of (t ∷ tables) elsewhere = ap (λ ws. ws ++ flat_map (λ child. filter_map (work_for schema keys depth tree olds news child) child.references) tables) (no_work_by t t.references elsewhere.0) ∙ no_work_of tables elsewhere.1

  pub no_works : IsFree schema tree → works schema keys depth tree olds news ≡ []
  no_works free = no_work_of schema.tables free

-- ---- no index has the rowid for its key

false_of : (u t b a : Bool) → (t ≡ false) ⊎ (b ≡ false) → (u && t) && b && a ≡ false
false_of false t b a h = refl
false_of true false b a h = refl
false_of true true false a h = refl
false_of true true true a (inl e) = absurd cc
false_of true true true a (inr e) = absurd cc

module _ (table : Table) (new row : Row) where
  shares_not : (i : Index) → (i.table ≡ table.tree → i.columns ≢ 0 ∷ []) → shares (Some (0 ∷ [])) table new row i ≡ false
  shares_not i other = false_of i.is_unique (i.table == table.tree) (bytes_eq (0 ∷ []) i.columns) (agree i.order i.columns row i.columns new) (one (i.table == table.tree) refl)
    where
      one : (b : Bool) → (i.table == table.tree) ≡ b → ((i.table == table.tree) ≡ false) ⊎ (bytes_eq (0 ∷ []) i.columns ≡ false)
      one false is = inl is
      one true is = inr (not_same (bytes_eq (0 ∷ []) i.columns) refl)
        where
          same : i.table ≡ table.tree
          same = let e = is in grind (arith, nat_tests)

          not_same : (b : Bool) → bytes_eq (0 ∷ []) i.columns ≡ b → bytes_eq (0 ∷ []) i.columns ≡ false
          not_same false is = is
          not_same true is = absurd (other same (sym ((bytes_eq-Decides (0 ∷ []) i.columns).0 is)))

  pub no_shares : (indexes : List Index) → AllByRecursion (λ (i : Index). i.table ≡ table.tree → i.columns ≢ 0 ∷ []) indexes → list_any (shares (Some (0 ∷ [])) table new row) indexes ≡ false
  no_shares [] all = refl
  no_shares (i ∷ indexes) all = rw (shares_not i all.0) (no_shares indexes all.1)
