-- A store is left alone where tables beside it are made and written.
use Rattle.std.proofs.Common.{inl, inr, ◌≡◌, ◌≢◌, ◌<◌, ℕ, zero, suc, List, [], ◌∷◌, length, refl, sym, ap, subst, ◌∙◌, arith}
use Rattle.std.specs.Prelude.{slice_get}
use Rattle.std.specs.List.{AllByRecursion}
use Rattle.sqlite.specs.Change.{KeepsRows}
use Rattle.sqlite.specs.Effect.{Database, IsDatabase}
use Rattle.sqlite.specs.Schema.{Schema}
use Rattle.sqlite.specs.Table.{Table}
use Rattle.fare_layout.specs.declared.place.Place.{Place}
use Rattle.fare_layout.specs.declared.place.TableNumber.{TableNumber}
use Rattle.fare_layout.specs.Growing.{GrowsBy, HasNone}
use Rattle.fare_layout.specs.Places.{all_of, or_nowhere, IsApartFrom}
use Rattle.fare_opening.specs.declared.site.Site.{Site}
use Rattle.fare_opening.specs.Beside.{AreAllApart, AreBeside, IsBeside}
use Rattle.fare_opening.specs.Making.{KeepsOthers}
use Rattle.fare_opening.specs.Parts.{Parts, OlderParts, parts_of}
use Rattle.fare_opening.specs.Sites.{IsSite, tree_at, rows_at}
use Rattle.fare_opening.proofs.Standing.{each_tree, is_not_meta, place_count}
use Rattle.fare_opening.specs.Numbers.{Meta}
use Rattle.fare_kept.specs.Statements.{Setting, Zone, Owner, Operator, Station, Product, Device, kept_parts}
use Rattle.fare_kept.specs.Tables.{kept_schema}
use Rattle.fare_keeping.specs.Keeping.{kept_columns}
use Rattle.fare_keeping.specs.Leaving.{IsOfNoneKept, LeavesOthers, LeavesSite, LeavesStore}

-- ---- of several formats

all_sites : {P : OlderParts → Type 0} (Q : Parts → Type 0) (olders : List OlderParts) → ((o : OlderParts) → P o → Q (parts_of o)) → AllByRecursion P olders → AllByRecursion (λ (o : OlderParts). Q (parts_of o)) olders
all_sites Q [] f all = tt
all_sites Q (o ∷ olders) f all = (f o all.0, all_sites Q olders f all.1)

each_site : (Q : Parts → Type 0) (olders : List OlderParts) → ((p : Parts) → Q p) → AllByRecursion (λ (o : OlderParts). Q (parts_of o)) olders
each_site Q [] f = tt
each_site Q (o ∷ olders) f = (f (parts_of o), each_site Q olders f)

both_sites : (P Q R : Parts → Type 0) (olders : List OlderParts) → ((p : Parts) → P p → Q p → R p) → AllByRecursion (λ (o : OlderParts). P (parts_of o)) olders → AllByRecursion (λ (o : OlderParts). Q (parts_of o)) olders → AllByRecursion (λ (o : OlderParts). R (parts_of o)) olders
both_sites P Q R [] f ps qs = tt
both_sites P Q R (o ∷ olders) f ps qs = (f (parts_of o) ps.0 qs.0, both_sites P Q R olders f ps.1 qs.1)

-- ---- where nothing happens

site_left : (a b : Database) (p : Parts) → b ≡ a → LeavesSite p a b
site_left a b p same = record {
  there = λ w site at. subst (λ s. IsSite p (record w { schema = s })) (sym at ∙ ap (λ (db : Database). db.schema) (sym same)) site;
  rows = λ w site at k low. ap (λ (db : Database). rows_at w k db.trees) same;
  free = subst (HasNone p.tables) (ap (λ (db : Database). db.schema) (sym same));
}

pub same_left : (d : Parts) (a b : Database) → b ≡ a → LeavesStore d a b
same_left d a b same = record {
  newest = site_left a b d same;
  olders = each_site (λ p. LeavesSite p a b) d.older (λ p. site_left a b p same);
  database = subst IsDatabase (sym same);
  schema = inl (ap (λ (db : Database). db.schema) same);
}

-- ---- one after the other

site_then : (p : Parts) (a b c : Database) → LeavesSite p a b → LeavesSite p b c → LeavesSite p a c
site_then p a b c first second = record {
  there = λ w site at. second.there (record w { schema = b.schema }) (first.there w site at) refl;
  rows = λ w site at k low. second.rows (record w { schema = b.schema }) (first.there w site at) refl k low ∙ first.rows w site at k low;
  free = λ none. second.free (first.free none);
}

pub left_then : (d : Parts) (a b c : Database) → LeavesStore d a b → LeavesStore d b c → c.schema ≡ b.schema → LeavesStore d a c
left_then d a b c first second same = record {
  newest = site_then d a b c first.newest second.newest;
  olders = both_sites (λ p. LeavesSite p a b) (λ p. LeavesSite p b c) (λ p. LeavesSite p a c) d.older (λ p one other. site_then p a b c one other) first.olders second.olders;
  database = λ sound. second.database (first.database sound);
  schema = elim first.schema [ inl is ↦ inl (same ∙ is) | inr grows ↦ inr (subst (GrowsBy a.schema kept_parts.tables) (sym same) grows) ];
}

-- ---- where the tables are made

site_made : (p : Parts) (w : Site) (a b : Database) → AreBeside p a.schema w → KeepsOthers a b → b.schema ≡ w.schema → LeavesSite p a b
site_made p w a b beside others at = record {
  there = λ v site stood. subst (λ s. IsSite p (record v { schema = s })) (sym at) (beside.stand.keep v site stood);
  rows = λ v site stood k low. each_tree (λ n. b.trees n ≡ a.trees n) p v site (subst (λ (s : Schema). KeepsRows s.tables a.trees b.trees) stood others) k low;
  free = λ none. subst (HasNone p.tables) (sym at) (beside.free none);
}

pub made_left : (d : Parts) (w : Site) (a b : Database) → IsBeside d a.schema w → GrowsBy a.schema kept_parts.tables w.schema → KeepsOthers a b → b.schema ≡ w.schema → IsDatabase b → LeavesStore d a b
made_left d w a b beside grows others at sound = record {
  newest = site_made d w a b beside.newest others at;
  olders = all_sites (λ p. LeavesSite p a b) d.older (λ o one. site_made (parts_of o) w a b one others at) beside.olders;
  database = λ was. sound;
  schema = inr (subst (GrowsBy a.schema kept_parts.tables) (sym at) grows);
}

-- ---- where the tables are written

nth_apart : (tree : ℕ) (places : List Place) → IsApartFrom tree places → (k : ℕ) → k < length places → tree ≢ (or_nowhere (slice_get places k)).tree
nth_apart tree [] apart k low = absurd (omega (arith, low))
nth_apart tree (p ∷ places) apart zero low = apart.0
nth_apart tree (p ∷ places) apart (suc k) low = nth_apart tree places apart.1 k (omega (arith, low))

each_apart : (these others : List Place) → AreAllApart these others → (k : ℕ) → k < length these → IsApartFrom (or_nowhere (slice_get these k)).tree others
each_apart [] others apart k low = absurd (omega (arith, low))
each_apart (p ∷ these) others apart zero low = apart.0
each_apart (p ∷ these) others apart (suc k) low = each_apart these others apart.1 k (omega (arith, low))

pub eight : length kept_parts.own.tables ≡ 8
unfolding kept_schema
eight = refl

kept_apart : (w : Site) (tree : ℕ) → IsSite kept_parts w → IsApartFrom tree (all_of w.places) → IsOfNoneKept w tree
unfolding kept_columns
kept_apart w tree site apart =
    let at = nth_apart tree (all_of w.places) apart in
    let many : length (all_of w.places) ≡ 8 = sym (place_count w.schema kept_parts.own.tables (all_of w.places) site.stands) ∙ eight in
    (at 1 (omega (arith, many)), (at 2 (omega (arith, many)), (at 3 (omega (arith, many)), (at 4 (omega (arith, many)), (at 5 (omega (arith, many)), (at 6 (omega (arith, many)), (at 7 (omega (arith, many)), tt)))))))

site_written : (p : Parts) (s : Schema) (w : Site) (a b : Database) → IsSite kept_parts w → AreBeside p s w → LeavesOthers w a b → a.schema ≡ w.schema → LeavesSite p a b
site_written p s w a b kept beside left at = record {
  there = λ v site stood. subst (λ t. IsSite p (record v { schema = t })) (sym stood ∙ at ∙ sym left.schema) site;
  rows = λ v site stood k low.
      let there : v.schema ≡ w.schema = sym stood ∙ at in
      let apart = each_apart (all_of v.places) (all_of w.places) (beside.stand.apart v site there) k.number low in
      let others = subst (λ (t : Schema). AllByRecursion (λ (x : Table). IsOfNoneKept w x.tree → b.trees x.tree ≡ a.trees x.tree) t.tables) (sym there) left.others in
      each_tree (λ n. IsOfNoneKept w n → b.trees n ≡ a.trees n) p v site others k low (kept_apart w (tree_at v k) kept apart);
  free = subst (HasNone p.tables) (at ∙ sym left.schema);
}

pub written_left : (d : Parts) (s : Schema) (w : Site) (a b : Database) → IsSite kept_parts w → IsBeside d s w → LeavesOthers w a b → a.schema ≡ w.schema → LeavesStore d a b
written_left d s w a b kept beside left at = record {
  newest = site_written d s w a b kept beside.newest left at;
  olders = all_sites (λ p. LeavesSite p a b) d.older (λ o one. site_written (parts_of o) s w a b kept one left at) beside.olders;
  database = left.database;
  schema = inl (left.schema ∙ sym at);
}

-- ---- the tables themselves, where they hold entries

-- the first of them is none of those that hold entries
meta_none : (w : Site) → IsSite kept_parts w → IsOfNoneKept w (tree_at w Meta)
unfolding kept_columns
meta_none w site =
    let many : length (all_of w.places) ≡ 8 = sym (place_count w.schema kept_parts.own.tables (all_of w.places) site.stands) ∙ eight in
    let other = λ (k : TableNumber) (past : 0 < k.number) (below : k.number < length (all_of w.places)) (same : tree_at w Meta ≡ tree_at w k). is_not_meta kept_parts w site k past below (sym same) in
    (other Setting (omega arith) (omega (arith, many)), (other Zone (omega arith) (omega (arith, many)), (other Owner (omega arith) (omega (arith, many)), (other Operator (omega arith) (omega (arith, many)), (other Station (omega arith) (omega (arith, many)), (other Product (omega arith) (omega (arith, many)), (other Device (omega arith) (omega (arith, many)), tt)))))))

pub meta_left : (w : Site) (a b : Database) → IsSite kept_parts w → LeavesOthers w a b → rows_at w Meta b.trees ≡ rows_at w Meta a.trees
meta_left w a b site left =
    let many : length (all_of w.places) ≡ 8 = sym (place_count w.schema kept_parts.own.tables (all_of w.places) site.stands) ∙ eight in
    each_tree (λ n. IsOfNoneKept w n → b.trees n ≡ a.trees n) kept_parts w site left.others Meta (omega (arith, many)) (meta_none w site)

pub nothing_left : (w : Site) (a : Database) → a.schema ≡ w.schema → LeavesOthers w a a
nothing_left w a at = record { schema = at; others = all w.schema.tables; database = λ sound. sound }
  where
    all : (tables : List Table) → AllByRecursion (λ (t : Table). IsOfNoneKept w t.tree → a.trees t.tree ≡ a.trees t.tree) tables
    all [] = tt
    all (t ∷ tables) = ((λ none. refl), all tables)
