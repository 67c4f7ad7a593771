-- Where the tables stand that are made in an order.
use Rattle.std.proofs.Common.{◌≡◌, ◌≢◌, ◌+◌, ◌*◌, ◌^◌, ◌==◌, ◌||◌, ◌++◌, ◌<◌, ◌≤◌, ◌⊎◌, inl, inr, ℕ, zero, suc, nat_le, Bool, true, false, length, List, [], ◌∷◌, Some, refl, sym, ap, subst, ◌∙◌, arith}
use Rattle.std.specs.Prelude.{find, slice_get}
use Rattle.std.specs.List.{AllByRecursion, AllZip, position_from}
use Rattle.std.specs.Prelude.{IsPermutation}
use Rattle.std.proofs.lemmas.List.Sorted.{IsPermutation-sym}
use Rattle.sqlite_trees.proofs.ListLemmas.{all-permutation}
use Rattle.std.proofs.lemmas.Bool.{cases_Bool}
use Rattle.std.proofs.lemmas.Bool.Decides.{nat_tests}
use Rattle.sqlite.specs.Table.{Table}
use Rattle.sqlite_catalog.specs.Change.{automatics}
use Rattle.sqlite_schema.specs.declared.schema.Index.{Index}
use Rattle.sqlite_schema.specs.Names.{same_name, table_named}
use Rattle.fare_layout.specs.declared.place.Place.{Place}
use Rattle.fare_layout.specs.Places.{IsApartFrom, AreApart}
use Rattle.fare_layout.specs.Layouts.{Stands, IsFree, HasNoRowidIndex, KeepsMeanings, Fits}
use Rattle.fare_opening.specs.Parts.{Parts}
use Rattle.fare_opening.specs.Orders.{Tables, width, tables_from, indexes_from, made_of}
use Rattle.fare_opening.proofs.Orders.{refer_to_none, rowid_first, is_rowid_first, place_from, places_from, places_of, each_place, free_all, no_rowid}
use Rattle.fare_opening.proofs.Among.{Has}

-- what holds of each number below one more than another
pub below : {n : ℕ} (P : ℕ → Type 0) → P 0 → ((k : ℕ) → k < n → P (suc k)) → (k : ℕ) → k < suc n → P k
below P none more zero low = none
below P none more (suc k) low = more k (omega (arith, low))

pub no_more : (P : ℕ → Type 0) → (k : ℕ) → k < 0 → P k
no_more P k low = absurd (omega (arith, low))

-- tables by their numbers, each of a name of its own, with at most one index
pub record AreNamed (table_of : Tables) (name_of : ℕ → List ℕ) (n : ℕ) : Type 0 where
  pub apart : (k : ℕ) → k < n → (j : ℕ) → j < n → (tree : ℕ) → same_name (table_of j tree).name (name_of k) ≡ (j == k)
  pub tree_is : (k : ℕ) → k < n → (tree : ℕ) → (table_of k tree).tree ≡ tree
  pub narrow : (k : ℕ) → k < n → width table_of k ≤ 2
  pub plain : (k : ℕ) → k < n → (tree : ℕ) → (table_of k tree).references ≡ []
  pub keyed : (k : ℕ) → k < n → (tree : ℕ) → rowid_first (automatics (table_of k tree) 0 (tree + 1) (table_of k tree).uniques) ≡ false

-- an order has a number
abbrev pub In : List ℕ → ℕ → Type 0
In [] k = ⊥
In (j ∷ ks) k = (j ≡ k) ⊎ In ks k

abbrev pub AreBelow : ℕ → List ℕ → Type 0
AreBelow n ks = AllByRecursion (λ k. k < n) ks

second_of : (a b : Bool) → (a || b) ≡ false → b ≡ false
second_of true b is = absurd cc
second_of false b is = is

both_or : (a b c : Bool) → (a || b) ≡ false → c ≡ false → (a || c) ≡ false
both_or true b c is off = absurd cc
both_or false b c is off = off

in_rest : (j k : ℕ) (ks : List ℕ) → (j == k) ≡ false → In (j ∷ ks) k → In ks k
in_rest j k ks other (inl is) = absurd (grind (arith, nat_tests))
in_rest j k ks other (inr has) = has

module _ (table_of : Tables) (name_of : ℕ → List ℕ) (n : ℕ) (are : AreNamed table_of name_of n) where
  -- where the order is begun
  at_head : (at tree j k : ℕ) (ks : List ℕ) → (j == k) ≡ true → place_from table_of at tree (j ∷ ks) k ≡ record { at = at; tree = tree }
  at_head at tree j k ks is = rw is refl

  at_rest : (at tree j k : ℕ) (ks : List ℕ) → (j == k) ≡ false → place_from table_of at tree (j ∷ ks) k ≡ place_from table_of (at + 1) (tree + width table_of j) ks k
  at_rest at tree j k ks is = rw is refl

  pub named : (k : ℕ) → k < n → (at tree : ℕ) (ks : List ℕ) → AreBelow n ks → In ks k → position_from (λ (t : Table). same_name t.name (name_of k)) at (tables_from table_of tree ks) ≡ Some (place_from table_of at tree ks k).at
  named k low at tree [] all has = absurd has
  named k low at tree (j ∷ ks) all has = elim (cases_Bool (j == k)) [
    | inl is ↦ (let yes = are.apart k low j all.0 tree ∙ is in rw (yes, is) refl)
    | inr other ↦ (let no = are.apart k low j all.0 tree ∙ other in let more = named k low (at + 1) (tree + width table_of j) ks all.1 (in_rest j k ks other has) in rw (no, other) more)
  ]

  -- it stands so far behind
  pub record Stood (k at tree : ℕ) (ks : List ℕ) : Type 0 where
    pub past : ℕ
    pub at_is : (place_from table_of at tree ks k).at ≡ at + past
    pub there : slice_get (tables_from table_of tree ks) past ≡ Some (table_of k (place_from table_of at tree ks k).tree)
    pub low : past < length ks
    pub least : tree + past ≤ (place_from table_of at tree ks k).tree
    pub most : (place_from table_of at tree ks k).tree ≤ tree + 2 * past
    pub found : find (λ (t : Table). t.tree == (place_from table_of at tree ks k).tree) (tables_from table_of tree ks) ≡ Some (table_of k (place_from table_of at tree ks k).tree)

  pub stood : (k at tree : ℕ) (ks : List ℕ) → AreBelow n ks → In ks k → Stood k at tree ks
  stood k at tree [] all has = absurd has
  stood k at tree (j ∷ ks) all has = elim (cases_Bool (j == k)) [
    | inl is ↦ (
        let here = at_head at tree j k ks is in
        let tree_is : (place_from table_of at tree (j ∷ ks) k).tree ≡ tree = ap (λ (p : Place). p.tree) here in
        let same : j ≡ k = grind (arith, nat_tests) in
        let own : (table_of j tree).tree ≡ tree = are.tree_is j all.0 tree in
        let yes : ((table_of j tree).tree == tree) ≡ true = grind (arith, nat_tests) in
        record {
          past = 0;
          at_is = ap (λ (p : Place). p.at) here ∙ omega arith;
          there = ap Some (ap (λ i. table_of i tree) same ∙ ap (table_of k) (sym tree_is));
          low = omega arith;
          least = omega (arith, tree_is);
          most = omega (arith, tree_is);
          found = subst (λ x. find (λ (t : Table). t.tree == x) (tables_from table_of tree (j ∷ ks)) ≡ Some (table_of k x)) (sym tree_is) (rw yes (ap (λ i. Some (table_of i tree)) same));
        })
    | inr other ↦ (
        let next = at_rest at tree j k ks other in
        let it = stood k (at + 1) (tree + width table_of j) ks all.1 (in_rest j k ks other has) in
        let narrow = are.narrow j all.0 in
        let at_is = it.at_is in
        let low = it.low in
        let least = it.least in
        let most = it.most in
        let own : (table_of j tree).tree ≡ tree = are.tree_is j all.0 tree in
        let no : ((table_of j tree).tree == (place_from table_of (at + 1) (tree + width table_of j) ks k).tree) ≡ false = grind (arith, nat_tests) in
        record {
          past = suc it.past;
          at_is = ap (λ (p : Place). p.at) next ∙ omega (arith, at_is);
          there = it.there ∙ ap (λ (p : Place). Some (table_of k p.tree)) (sym next);
          low = omega (arith, low);
          least = subst (λ (p : Place). tree + suc it.past ≤ p.tree) (sym next) (omega (arith, least));
          most = subst (λ (p : Place). p.tree ≤ tree + 2 * suc it.past) (sym next) (omega (arith, most, narrow));
          found = subst (λ (p : Place). find (λ (t : Table). t.tree == p.tree) (tables_from table_of tree (j ∷ ks)) ≡ Some (table_of k p.tree)) (sym next) (rw no it.found);
        })
  ]

  -- two tables stand at two trees
  pub two_trees : (k l at tree : ℕ) (ks : List ℕ) → k ≢ l → AreBelow n ks → In ks k → In ks l → (place_from table_of at tree ks k).tree ≢ (place_from table_of at tree ks l).tree
  two_trees k l at tree [] other all has too same = absurd has
  two_trees k l at tree (j ∷ ks) other all has too same = elim (cases_Bool (j == k)) [
    | inl is ↦ elim (cases_Bool (j == l)) [
      | inl it ↦ (
          let one : j ≡ k = grind (arith, nat_tests) in
          let two : j ≡ l = grind (arith, nat_tests) in
          other (sym one ∙ two))
      | inr off ↦ (
          let here = ap (λ (p : Place). p.tree) (at_head at tree j k ks is) in
          let there = ap (λ (p : Place). p.tree) (at_rest at tree j l ks off) in
          let least = (stood l (at + 1) (tree + width table_of j) ks all.1 (in_rest j l ks off too)).least in
          absurd (omega (arith, here, there, least, same)))
    ]
    | inr off ↦ elim (cases_Bool (j == l)) [
      | inl it ↦ (
          let here = ap (λ (p : Place). p.tree) (at_head at tree j l ks it) in
          let there = ap (λ (p : Place). p.tree) (at_rest at tree j k ks off) in
          let least = (stood k (at + 1) (tree + width table_of j) ks all.1 (in_rest j k ks off has)).least in
          absurd (omega (arith, here, there, least, same)))
      | inr away ↦ (
          let here = ap (λ (p : Place). p.tree) (at_rest at tree j k ks off) in
          let there = ap (λ (p : Place). p.tree) (at_rest at tree j l ks away) in
          two_trees k l (at + 1) (tree + width table_of j) ks other all.1 (in_rest j k ks off has) (in_rest j l ks away too) (sym here ∙ same ∙ there))
    ]
  ]

  -- ---- in an order of all of them

  module _ (ks : List ℕ) (all : AreBelow n ks) (each : (k : ℕ) → k < n → In ks k) (few : length ks ≤ 1000) where
    abbrev pub place : ℕ → Place
    place k = place_from table_of 0 0 ks k

    at_is : (k : ℕ) (low : k < n) → (stood k 0 0 ks all (each k low)).past ≡ (place k).at
    at_is k low = let is = (stood k 0 0 ks all (each k low)).at_is in omega (arith, is)

    pub at_low : (k : ℕ) → k < n → (place k).at < length ks
    at_low k low = subst (λ x. x < length ks) (at_is k low) (stood k 0 0 ks all (each k low)).low

    pub tree_least : (k : ℕ) → k < n → (place k).at ≤ (place k).tree
    tree_least k low = let is = at_is k low in let least = (stood k 0 0 ks all (each k low)).least in omega (arith, is, least)

    pub tree_most : (k : ℕ) → k < n → (place k).tree ≤ 2 * (place k).at
    tree_most k low = let is = at_is k low in let most = (stood k 0 0 ks all (each k low)).most in omega (arith, is, most)

    low_tree : (k : ℕ) → k < n → nat_le (2 ^ 31) (place k).tree ≡ false
    low_tree k low = let most = tree_most k low in let at = at_low k low in grind (arith, nat_tests)

    pub has_table : (k : ℕ) → k < n → Has (made_of table_of ks) (name_of k) (table_of k) (place k)
    has_table k low = record {
      named = named k low 0 0 ks all (each k low);
      there = subst (λ x. slice_get (tables_from table_of 0 ks) x ≡ Some (table_of k (place k).tree)) (at_is k low) (stood k 0 0 ks all (each k low)).there;
      read = record { low = low_tree k low; found = (stood k 0 0 ks all (each k low)).found };
    }

    -- a store's tables are these, from a number on
    abbrev pub AreOwn : ℕ → List Table → Type 0
    AreOwn k [] = Unit {0}
    AreOwn k (t ∷ ts) = (t.name ≡ name_of k) × ((tree : ℕ) → ◌≡◌ {A = Table} (record t { tree = tree }) (table_of k tree)) × AreOwn (k + 1) ts

    stand : (k : ℕ) (ts : List Table) → AreOwn k ts → k + length ts ≤ n → AllZip (Stands (made_of table_of ks)) ts (places_from table_of ks k ts)
    stand k [] own within = tt
    stand k (t ∷ ts) own within =
        let has = has_table k (omega (arith, within)) in
        (record { named = subst (λ name. table_named (made_of table_of ks) name ≡ Some (place k).at) (sym own.0) has.named; there = has.there ∙ ap Some (sym (own.1 (place k).tree)); low = has.read.low }, stand (k + 1) ts own.2 (omega (arith, within)))

    apart_from : (k l : ℕ) (ts : List Table) → k < l → l + length ts ≤ n → IsApartFrom (place k).tree (places_from table_of ks l ts)
    apart_from k l [] less within = tt
    apart_from k l (t ∷ ts) less within = (
      two_trees k l 0 0 ks (λ same. omega (arith, less, same)) all (each k (omega (arith, less, within))) (each l (omega (arith, within))),
      apart_from k (l + 1) ts (omega (arith, less)) (omega (arith, within)),
    )

    are_apart : (k : ℕ) (ts : List Table) → k + length ts ≤ n → AreApart (places_from table_of ks k ts)
    are_apart k [] within = tt
    are_apart k (t ∷ ts) within = (apart_from k (k + 1) ts (omega arith) (omega (arith, within)), are_apart (k + 1) ts (omega (arith, within)))

    none_refer : (tree : ℕ) (js : List ℕ) → AreBelow n js → refer_to_none (tables_from table_of tree js)
    none_refer tree [] low = tt
    none_refer tree (j ∷ js) low = (are.plain j low.0 tree, none_refer (tree + width table_of j) js low.1)

    both_keyed : (xs ys : List Index) → rowid_first xs ≡ false → rowid_first ys ≡ false → rowid_first (xs ++ ys) ≡ false
    both_keyed [] ys one two = two
    both_keyed (x ∷ xs) ys one two = both_or (is_rowid_first x.columns) (rowid_first xs) (rowid_first (xs ++ ys)) one (both_keyed xs ys (second_of (is_rowid_first x.columns) (rowid_first xs) one) two)

    all_keyed : (tree : ℕ) (js : List ℕ) → AreBelow n js → rowid_first (indexes_from table_of tree js) ≡ false
    all_keyed tree [] low = refl
    all_keyed tree (j ∷ js) low = both_keyed (automatics (table_of j tree) 0 (tree + 1) (table_of j tree).uniques) (indexes_from table_of (tree + width table_of j) js) (are.keyed j low.0 tree) (all_keyed (tree + width table_of j) js low.1)

    pub fit : (d : Parts) → AreOwn 0 d.own.tables → length d.own.tables ≤ n → KeepsMeanings d.own (made_of table_of ks) (places_of d table_of ks) d.texts → Fits d.own d.texts (made_of table_of ks) (places_of d table_of ks)
    fit d own within keeps =
        let s = made_of table_of ks in record {
          stands = stand 0 d.own.tables own (omega (arith, within));
          untouched = record {
            apart = are_apart 0 d.own.tables (omega (arith, within));
            free = each_place (λ (q : Place). IsFree s q.tree) (λ q. free_all s q.tree s.tables (none_refer 0 ks all)) (places_from table_of ks 0 d.own.tables);
            by_rowid = each_place (λ (q : Place). HasNoRowidIndex s q.tree) (λ q. no_rowid q.tree s.indexes (all_keyed 0 ks all)) (places_from table_of ks 0 d.own.tables);
          };
          keeps = keeps;
        }

-- ---- orders of the first numbers

all_weaker : (P Q : ℕ → Type 0) → ((k : ℕ) → P k → Q k) → (ks : List ℕ) → AllByRecursion P ks → AllByRecursion Q ks
all_weaker P Q so [] each = tt
all_weaker P Q so (k ∷ ks) each = (so k each.0, all_weaker P Q so ks each.1)

in_itself : (ks : List ℕ) → AllByRecursion (In ks) ks
in_itself [] = tt
in_itself (k ∷ ks) = (inl refl, all_weaker (In ks) (In (k ∷ ks)) (λ j has. inr has) ks (in_itself ks))

-- it has each that these have
pub has_each : (firsts ks : List ℕ) → IsPermutation firsts ks → AllByRecursion (In ks) firsts
has_each firsts ks same = all-permutation (In ks) ks firsts (IsPermutation-sym firsts ks same) (in_itself ks)

pub all_below : (n : ℕ) (firsts ks : List ℕ) → IsPermutation firsts ks → AreBelow n firsts → AreBelow n ks
all_below n firsts ks same low = all-permutation (λ k. k < n) firsts ks same low
