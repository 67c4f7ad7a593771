-- An outbox of the first format, and what raising it makes of its rows.
use Rattle.std.proofs.Common.{◌≡◌, ◌≢◌, ◌<◌, ◌==◌, inl, inr, ℕ, zero, suc, [], ◌∷◌, ◌++◌, List, codes, length, map, true, false, Some, if◌then◌else◌, refl, sym, ap, subst, ◌∙◌, arith}
use Rattle.std.specs.Prelude.{slice_get}
use Rattle.std.specs.List.{AllByRecursion}
use Rattle.std.proofs.lemmas.Bool.Decides.{nat_tests}
use Rattle.sqlite_value.specs.Order.{Row}
use Rattle.sqlite.specs.Effect.{Database}
use Rattle.sqlite.specs.Schema.{Schema}
use Rattle.sqlite.specs.State.{State}
use Rattle.sqlite.specs.Table.{Table}
use Rattle.sqlite.specs.Tree.{Trees}
use Rattle.sqlite_catalog.specs.Change.{is_used}
use Rattle.sqlite_rules.specs.Lists.{Has}
use Rattle.sqlite_schema.specs.Names.{table_named}
use Rattle.fare_tables.specs.Cells.{nat_in, int, id_of, AreAbove, AreRows, held}
use Rattle.fare_tables.specs.Tabled.{IsFit, left_of}
use Rattle.fare_tables.proofs.Rows as listed
use Rattle.fare_layout.specs.declared.place.Place.{Place}
use Rattle.fare_layout.specs.declared.place.TableNumber.{TableNumber}
use Rattle.fare_layout.specs.Growing.{HasNone}
use Rattle.fare_layout.specs.Places.{place_of, all_of, or_nowhere}
use Rattle.fare_opening.specs.declared.site.Site.{Site}
use Rattle.fare_opening.specs.Moving.{columns_of, IsNumbered, AreNumbered, copies}
use Rattle.fare_opening.specs.Numbers.{Meta, Device, Tap, Stated}
use Rattle.fare_opening.specs.Parts.{OlderParts, parts_of}
use Rattle.fare_opening.specs.Raising as raising
use Rattle.fare_opening.specs.Sites.{IsSite, tree_at, rows_at}
use Rattle.fare_opening.proofs.Risen.{nth_goes}
use Rattle.fare_opening.proofs.Standing as standing
use Rattle.fare_opening.proofs.Vacant as vacant
use Rattle.fare_outbox_rows.specs.declared.layout.Layout.{Layout}
use Rattle.fare_outbox.specs.First.{firsts, value_first, IsLawfulFirst}
use Rattle.fare_outbox_rows.specs.Held.{Held, AreReadable, IsDevice, IsTap, IsStated, upto_of, tap_of, stated_of, held_of}
use Rattle.fare_outbox_rows.specs.Layouts.{schema_in, table_at, ours}
use Rattle.fare_outbox_rows.specs.Making.{site_of}
use Rattle.fare_outbox.specs.Opening.{Rises, IsFirstOutbox, IsLeftRaised, KeepsAllButTwo}
use Rattle.fare_outbox_rows.specs.Statements.{Routed, first_format, later_tables, tables, outbox_parts}
use Rattle.fare_outbox_rows.specs.Tables.{first_schema}
use Rattle.fare_outbox.specs.Words.{FitInFormat, FitTogether, IsLawful, value_at, value_in}
use Rattle.fare_outbox.proofs.Own.{first_design}
use Rattle.fare_outbox_rows.proofs.Placed.{within, apart, routed_stands}

-- ---- names

-- where the tables stand, that of the taps with their routes is one of them
pub not_first : (w : Layout) (s : Schema) → HasNone later_tables s → s ≡ schema_in w → ⊥
not_first w s none is =
    let named : table_named (schema_in w) (codes "tap2") ≡ Some (place_of w.places Routed).at = (routed_stands w).named in
    let free : is_used (schema_in w) (codes "tap2") ≡ false = subst (λ x. is_used x (codes "tap2") ≡ false) is none.0 in
    let used : is_used (schema_in w) (codes "tap2") ≡ true = rw named refl in
    absurd (let e = sym used ∙ free in cc)

-- where those of the first format stand, their names are taken
pub first_taken : (v : Site) (s : Schema) → IsSite (parts_of first_format) v → s ≡ v.schema → HasNone tables s → ⊥
first_taken v s site is none = vacant.not_vacant (parts_of first_format) v s first_design site (none.0, (none.1.0, (none.1.1.0, (none.1.1.1.0, tt)))) is

-- ---- where its tables stand

first_within : (v : Site) → IsSite (parts_of first_format) v → (k : TableNumber) → k.number < 4 → k.number < length (all_of v.places)
unfolding first_schema
first_within v site k low =
    let four : 4 ≡ length (all_of v.places) = standing.place_count v.schema first_schema.tables (all_of v.places) site.stands in
    omega (arith, four, low)

same_firsts : (u v : Site) (trees : Trees) → IsSite (parts_of first_format) u → IsSite (parts_of first_format) v → u.schema ≡ v.schema → firsts u trees ≡ firsts v trees
unfolding firsts
same_firsts u v trees one two same =
    ap (λ (ps : List Place). λ tree. if tree == 7 then copies (trees (or_nowhere (slice_get ps 2)).tree) else (if tree == 2 then [] else trees (or_nowhere (slice_get ps (table_at tree).number)).tree)) (standing.same_at (parts_of first_format) u v one two same)

-- a schema has them at one place
pub moved_first : (u v : Site) (trees : Trees) → IsSite (parts_of first_format) u → u.schema ≡ v.schema → IsLawfulFirst v trees → IsLawfulFirst u trees
moved_first u v trees site same law =
    let back : firsts v trees ≡ firsts u trees = sym (same_firsts u v trees site law.site same) in
    record {
      site = site;
      free = subst (HasNone later_tables) (sym same) law.free;
      readable = subst AreReadable back law.readable;
      together = subst (λ t. FitInFormat 1 (held_of t)) back law.together;
    }

pub moved_value : (u v : Site) (trees : Trees) → IsSite (parts_of first_format) u → u.schema ≡ v.schema → IsLawfulFirst v trees → value_first u trees ≡ value_first v trees
moved_value u v trees site same law = ap (λ t. value_in (held_of t)) (same_firsts u v trees site law.site same)

-- those of the first format are the first of all
pub same_tree : (v w : Site) (schema : Schema) (k : TableNumber) → Rises schema v w → k.number < 4 → tree_at v k ≡ tree_at w k
same_tree v w schema k rises low = ap (λ (p : Place). p.tree) (nth_goes schema (all_of v.places) (all_of w.places) rises.places k.number (first_within v rises.from k low))

-- ---- the rows of taps

same_head : {X : Type 0} {x y : X} {xs ys : List X} → x ∷ xs ≡ y ∷ ys → x ≡ y
same_head e = cc

same_tail : {X : Type 0} {x y : X} {xs ys : List X} → x ∷ xs ≡ y ∷ ys → xs ≡ ys
same_tail e = cc

-- what stands before the 0 is as many numbers
front : (r : Row) (n : ℕ) (ns : List ℕ) → r ++ int 0 ∷ [] ≡ map int (n ∷ ns) → IsNumbered (length ns) r
front [] n [] is = tt
front [] n (m ∷ ns) is = absurd (let e = is in cc)
front (v ∷ []) n [] is = absurd (let e = is in cc)
front (v ∷ x ∷ r) n [] is = absurd (let e = is in cc)
front (v ∷ r) n (m ∷ ns) is =
    let here : v ≡ int n = same_head is in
    (here ∙ ap int (sym (ap nat_in here)), front r m ns (same_tail is))

numbered_row : (r : Row) → IsTap (r ++ int 0 ∷ []) → IsNumbered 9 r
numbered_row r is =
    let t = tap_of (r ++ int 0 ∷ []) in
    front r (id_of (r ++ int 0 ∷ [])) (t.owner ∷ t.device ∷ t.lane ∷ t.link ∷ t.tap.product ∷ t.tap.token ∷ t.tap.moment ∷ t.tap.day ∷ t.tap.route ∷ []) is

same_id : (r : Row) → IsTap (r ++ int 0 ∷ []) → id_of (r ++ int 0 ∷ []) ≡ id_of r
same_id [] is = absurd (let e = is in cc)
same_id (x ∷ r) is = refl

numbered_above : (n : ℕ) (rows : List Row) → AllByRecursion (λ r. IsTap r) (copies rows) → AreAbove n (copies rows) → AreAbove n rows
numbered_above n [] are above = tt
numbered_above n (r ∷ rows) are above = (subst (λ k. n < k) (same_id r are.0) above.0, numbered_above n rows are.1 above.1)

numbered : (rows : List Row) → AreRows IsTap (copies rows) → AreNumbered 8 rows
numbered [] are = tt
numbered (r ∷ rows) are = (numbered_row r are.0, numbered_above (id_of r) rows (listed.all_of IsTap (copies rows) are.2) (subst (λ k. AreAbove k (copies rows)) (same_id r are.0) are.1), numbered rows are.2)

-- the taps of the first format have eight columns
eight : columns_of first_schema Tap ≡ 8
unfolding first_schema
eight = refl

-- ---- the rows

module _ (w : Layout) (v : Site) (old new : Database) (can : raising.CanRise outbox_parts first_format 0 old v (site_of w)) (is : raising.IsRaised outbox_parts first_format 0 (site_of w) old new) where
  -- each table but meta and tap keeps its rows
  others : AllByRecursion (λ (t : Table). t.tree ≢ tree_at (site_of w) Meta → t.tree ≢ tree_at (site_of w) Tap → new.trees t.tree ≡ old.trees t.tree) v.schema.tables
  others = subst (λ (s : Schema). AllByRecursion (λ (t : Table). t.tree ≢ tree_at (site_of w) Meta → t.tree ≢ tree_at (site_of w) Tap → new.trees t.tree ≡ old.trees t.tree) s.tables) can.rises.has is.others

  there : (k : TableNumber) → k.number < 4 → tree_at v k ≡ tree_at (site_of w) k
  there k low = same_tree v (site_of w) old.schema k can.rises low

  keeps : (k : TableNumber) → (k.number == 0) ≡ false → (k.number == 2) ≡ false → k.number < 4 → rows_at (site_of w) k new.trees ≡ rows_at v k old.trees
  keeps k not_meta not_tap low =
      let kept = standing.each_tree (λ n. n ≢ tree_at (site_of w) Meta → n ≢ tree_at (site_of w) Tap → new.trees n ≡ old.trees n) (parts_of first_format) v can.rises.from others k (first_within v can.rises.from k low) in
      ap new.trees (sym (there k low)) ∙ kept (subst (λ n. n ≢ tree_at (site_of w) Meta) (sym (there k low)) (apart w k Meta not_meta (grind (arith, nat_tests)) refl)) (subst (λ n. n ≢ tree_at (site_of w) Tap) (sym (there k low)) (apart w k Tap not_tap (grind (arith, nat_tests)) refl))

  devices : ours w new.trees 1 ≡ firsts v old.trees 1
  unfolding ours firsts
  devices = keeps Device refl refl (omega arith)

  statements : ours w new.trees 5 ≡ firsts v old.trees 5
  unfolding ours firsts
  statements = keeps Stated refl refl (omega arith)

  tap_rows : rows_at v Tap old.trees ≡ rows_at (site_of w) Tap old.trees
  tap_rows = ap old.trees (there Tap (omega arith))

  are_numbered : AreReadable (firsts v old.trees) → AreNumbered (columns_of first_schema Tap) (rows_at (site_of w) Tap old.trees)
  unfolding firsts
  are_numbered readable = subst (λ n. AreNumbered n (rows_at (site_of w) Tap old.trees)) (sym eight) (subst (AreNumbered 8) tap_rows (numbered (rows_at v Tap old.trees) readable.taps))

  taps : AreReadable (firsts v old.trees) → ours w new.trees 7 ≡ firsts v old.trees 7
  unfolding ours firsts
  taps readable = is.moved.copied (are_numbered readable) ∙ ap copies (sym tap_rows)

  unused : AreReadable (firsts v old.trees) → ours w new.trees 2 ≡ firsts v old.trees 2
  unfolding ours firsts
  unused readable = is.moved.emptied (are_numbered readable)

  meta : FitInFormat 1 (held_of (firsts v old.trees)) → FitTogether (record (held_of (firsts v old.trees)) { meta = ours w new.trees 0 })
  unfolding ours
  meta fit = record { apart = fit.apart; known = fit.known; single = fit.single; meta = is.meta; unused = fit.unused }

  -- it holds the same
  but_meta : AreReadable (firsts v old.trees) → ◌≡◌ {A = Held} (record (held_of (firsts v old.trees)) { meta = ours w new.trees 0 }) (held_of (ours w new.trees))
  but_meta readable = λ i. record {
    upto = λ d. upto_of (held (sym devices i) d);
    taps = map tap_of (sym (taps readable) i);
    statements = map stated_of (sym statements i);
    meta = ours w new.trees 0;
    unused = sym (unused readable) i;
  }

  pub raised_rows : IsLawfulFirst v old.trees → IsLawful w new.trees
  raised_rows law = record {
    readable = record {
      devices = subst (AreRows IsDevice) (sym devices) law.readable.devices;
      taps = subst (AreRows IsTap) (sym (taps law.readable)) law.readable.taps;
      statements = subst (AreRows IsStated) (sym statements) law.readable.statements;
    };
    together = subst FitTogether (but_meta law.readable) (meta law.together);
  }

  pub raised_value : IsLawfulFirst v old.trees → value_at w new.trees ≡ value_first v old.trees
  raised_value law = ap value_in (sym (but_meta law.readable))

  pub keeps_all_but : KeepsAllButTwo v old new
  keeps_all_but = subst (λ m. AllByRecursion (λ (t : Table). t.tree ≢ m → t.tree ≢ tree_at v Tap → new.trees t.tree ≡ old.trees t.tree) v.schema.tables) (sym (there Meta (omega arith)))
      (subst (λ m. AllByRecursion (λ (t : Table). t.tree ≢ tree_at (site_of w) Meta → t.tree ≢ m → new.trees t.tree ≡ old.trees t.tree) v.schema.tables) (sym (there Tap (omega arith))) others)

-- ---- what an open finds, and what a stop leaves of it

-- there is one older format
pub is_first : (o : OlderParts) → Has outbox_parts.older o → o ≡ first_format
is_first o (inl is) = is
is_first o (inr none) = absurd none

pub is_older : (s : State) → IsFirstOutbox s → raising.IsOlderStore outbox_parts 0 s
is_older s it = (first_format, inl refl, it.0, it.1, it.2)

-- a lawful outbox of the first format is one that an open finds, where it can be raised
pub lawful_is_first : (v w : Site) (s : State) → Rises s.now.schema v w → IsFit v.schema (IsLawfulFirst v) s → IsFirstOutbox s
unfolding firsts
lawful_is_first v w s rises fit = (v, w, record { rises = rises; meta = fit.fits.together.meta; unused = tt })

pub left_raised : (old : State) (trees : Trees) → raising.MayRaise outbox_parts 0 old trees → IsLeftRaised old trees
left_raised old trees it =
    let site = it.2.0 in
    let db = it.2.1 in
    let raises = subst (λ o. raising.Raises outbox_parts o 0 old.now db site) (is_first it.0 it.1) it.2.2 in
    let u = raises.0 in
    let can = raises.1 in
    let is = raises.2 in
    let same : trees ≡ db.trees = it.2.3 in
    let w : Layout = record { schema = site.schema; places = site.places; fits = can.rises.site } in
    record {
      raised = it;
      same = λ v has law.
          let here : u.schema ≡ v.schema = sym can.rises.has ∙ has in
          let first = moved_first u v old.now.trees can.rises.from here law in (
            w,
            left_of (schema_in w) (IsLawful w) db trees is.schema is.database (raised_rows w u old.now db can is first) same,
            ap (value_at w) same ∙ raised_value w u old.now db can is first ∙ moved_value u v old.now.trees can.rises.from here law,
          );
    }
