-- What raising a ledger of an older format makes of its rows.
use Rattle.std.proofs.Common.{◌≡◌, ◌≢◌, ◌<◌, ◌==◌, inl, inr, ℕ, Bool, true, false, List, [], ◌∷◌, ◌++◌, length, map, nat_lt, Some, if◌then◌else◌, refl, sym, ap, subst, ◌∙◌, arith}
use Rattle.std.specs.Prelude.{is_some, IfSome, Option, None, ◌⊎◌}
use Rattle.std.specs.List.{AllByRecursion}
use Rattle.std.proofs.lemmas.Bool.Decides.{nat_tests}
use Rattle.sqlite_value.specs.Order.{Row}
use Rattle.sqlite.specs.Effect.{Database}
use Rattle.sqlite.specs.Schema.{Schema}
use Rattle.sqlite.specs.State.{State}
use Rattle.sqlite.specs.Table.{Table}
use Rattle.sqlite.specs.Tree.{Trees}
use Rattle.sqlite_rules.specs.Lists.{Has}
use Rattle.fare_tables.specs.Cells.{nat_in, int, id_of, AreAbove, AreRows, held}
use Rattle.fare_tables.specs.Tabled.{IsFit, left_of}
use Rattle.fare_tables.proofs.Rows.{all_of}
use Rattle.fare_layout.specs.declared.place.TableNumber.{TableNumber}
use Rattle.fare_layout.specs.Growing.{HasNone}
use Rattle.fare_opening.specs.declared.site.Site.{Site}
use Rattle.fare_opening.specs.MetaRow.{IsMeta}
use Rattle.fare_opening.specs.Numbers.{Meta, Device, Tap, Stated}
use Rattle.fare_opening.specs.Parts.{OlderParts, parts_of}
use Rattle.fare_opening.specs.Raising as raising
use Rattle.fare_opening.specs.Moving.{MovingParts, columns_of, IsNumbered, AreNumbered, copies}
use Rattle.fare_opening.specs.Sites.{IsEmptied, tree_at, rows_at}
use Rattle.fare_opening.proofs.Standing as standing
use Rattle.fare_ledger.specs.declared.layout.Layout.{Layout}
use Rattle.fare_ledger.specs.Held.{Held, AreReadable, IsLane, IsTap, IsStated, IsRetired, IsSince, lane_of, tap_of, stated_of, since_of, held_of}
use Rattle.fare_ledger.specs.Layouts.{schema_in, ours}
use Rattle.fare_ledger.specs.Making.{site_of}
use Rattle.fare_ledger.specs.Older.{rows_in, taps_in, unmoved_in, olders, value_older, IsLawfulOlder}
use Rattle.fare_ledger.specs.Opening.{Rises, IsOlderLedger, IsLeftRaised, KeepsAllButTwo}
use Rattle.fare_ledger.specs.Statements.{Retired, Routed, Since, moving_taps, ledger_parts}
use Rattle.fare_ledger.specs.Tables.{first_schema, second_schema, third_schema}
use Rattle.fare_ledger.specs.Words.{FitInFormat, FitTogether, IsLawful, value_at, value_in}
use Rattle.fare_ledger.proofs.Olders.{has_four, up_to_six, one_older, older_within, moved_older, moved_value, same_tree}
use Rattle.fare_ledger.proofs.Placed.{within, apart}

-- each of the first two moves the taps, and the third has them where the newest has
abbrev IsMover : OlderParts → Type 0
IsMover o = (o.moving ≡ Some moving_taps) ⊎ ((o.moving ≡ None) × (5 < length o.tables))

moves : (o : OlderParts) → Has ledger_parts.older o → IsMover o
moves o (inl is) = inl (ap (λ (x : OlderParts). x.moving) is)
moves o (inr (inl is)) = inl (ap (λ (x : OlderParts). x.moving) is)
moves o (inr (inr (inl is))) = inr (ap (λ (x : OlderParts). x.moving) is, subst (λ (x : OlderParts). 5 < length x.tables) (sym is) (omega arith))
moves o (inr (inr (inr past))) = absurd past

-- what each table of a list has
each_of : (P Q : Table → Type 0) → ((t : Table) → P t → Q t) → (ts : List Table) → AllByRecursion P ts → AllByRecursion Q ts
each_of P Q so [] all = tt
each_of P Q so (t ∷ ts) all = (so t all.0, each_of P Q so ts all.1)

same_head : {X : Type 0} {x y : X} {xs ys : List X} → x ∷ xs ≡ y ∷ ys → x ≡ y
same_head e = cc

same_tail : {X : Type 0} {x y : X} {xs ys : List X} → x ∷ xs ≡ y ∷ ys → xs ≡ ys
same_tail e = cc

-- ---- the rows of taps

-- what stands before the 0 is as many numbers
front : (r : Row) (n : ℕ) (ns : List ℕ) → r ++ int 0 ∷ [] ≡ map int (n ∷ ns) → IsNumbered (length ns) r
front [] n [] is = tt
front [] n (m ∷ ns) is = absurd (let e = is in cc)
front (v ∷ []) n [] is = absurd (let e = is in cc)
front (v ∷ x ∷ r) n [] is = absurd (let e = is in cc)
front (v ∷ r) n (m ∷ ns) is =
    let here : v ≡ int n = same_head is in
    (here ∙ ap int (sym (ap nat_in here)), front r m ns (same_tail is))

numbered_row : (r : Row) → IsTap (r ++ int 0 ∷ []) → IsNumbered 8 r
numbered_row r is =
    let t = tap_of (r ++ int 0 ∷ []) in
    front r (id_of (r ++ int 0 ∷ [])) (t.device ∷ t.lane ∷ t.link ∷ t.tap.product ∷ t.tap.token ∷ t.tap.moment ∷ t.tap.day ∷ t.tap.route ∷ []) is

same_id : (r : Row) → IsTap (r ++ int 0 ∷ []) → id_of (r ++ int 0 ∷ []) ≡ id_of r
same_id [] is = absurd (let e = is in cc)
same_id (x ∷ r) is = refl

numbered_above : (n : ℕ) (rows : List Row) → AllByRecursion (λ r. IsTap r) (copies rows) → AreAbove n (copies rows) → AreAbove n rows
numbered_above n [] are above = tt
numbered_above n (r ∷ rows) are above = (subst (λ k. n < k) (same_id r are.0) above.0, numbered_above n rows are.1 above.1)

numbered : (rows : List Row) → AreRows IsTap (copies rows) → AreNumbered 7 rows
numbered [] are = tt
numbered (r ∷ rows) are = (numbered_row r are.0, numbered_above (id_of r) rows (all_of IsTap (copies rows) are.2) (subst (λ k. AreAbove k (copies rows)) (same_id r are.0) are.1), numbered rows are.2)

-- the taps of an older format have seven columns
seven : (o : OlderParts) → Has ledger_parts.older o → columns_of o.own Tap ≡ 7
unfolding first_schema second_schema third_schema
seven o (inl is) = ap (λ (x : OlderParts). columns_of x.own Tap) is
seven o (inr (inl is)) = ap (λ (x : OlderParts). columns_of x.own Tap) is
seven o (inr (inr (inl is))) = ap (λ (x : OlderParts). columns_of x.own Tap) is
seven o (inr (inr (inr past))) = absurd past

-- ---- the rows

module _ (o : OlderParts) (w : Layout) (v : Site) (owner start : ℕ) (old new : Database) (older : Has ledger_parts.older o) (can : raising.CanRise ledger_parts o owner old v (site_of w)) (is : raising.IsRaised ledger_parts o owner (site_of w) old new) where
  -- each table but meta keeps its rows, unless they move
  others : AllByRecursion (λ (t : Table). t.tree ≢ tree_at (site_of w) Meta → raising.IsKept o.moving (site_of w) t.tree → new.trees t.tree ≡ old.trees t.tree) v.schema.tables
  others = subst (λ (s : Schema). AllByRecursion (λ (t : Table). t.tree ≢ tree_at (site_of w) Meta → raising.IsKept o.moving (site_of w) t.tree → new.trees t.tree ≡ old.trees t.tree) s.tables) can.rises.has is.others

  stays : (tree : ℕ) → tree ≢ tree_at (site_of w) Tap → raising.IsKept o.moving (site_of w) tree
  stays tree other = elim (moves o older) [
    | inl some ↦ subst (λ m. raising.IsKept m (site_of w) tree) (sym some) other
    | inr none ↦ subst (λ m. raising.IsKept m (site_of w) tree) (sym none.0) tt
  ]

  -- those that were there
  there : (k : TableNumber) → k.number < length o.tables → tree_at v k ≡ tree_at (site_of w) k
  there k low = same_tree o v (site_of w) old.schema k older can.rises low

  all_low : (k : TableNumber) → k.number < length o.tables → nat_lt k.number 7 ≡ true
  all_low k low = let six = up_to_six o older in grind (arith, nat_tests)

  keeps_at : (k : TableNumber) → (k.number == 0) ≡ false → k.number < length o.tables → raising.IsKept o.moving (site_of w) (tree_at v k) → rows_at (site_of w) k new.trees ≡ rows_at v k old.trees
  keeps_at k not_meta low kept =
      let all = standing.each_tree (λ n. n ≢ tree_at (site_of w) Meta → raising.IsKept o.moving (site_of w) n → new.trees n ≡ old.trees n) (parts_of o) v can.rises.from others k (older_within o v older can.rises.from k low) in
      ap new.trees (sym (there k low)) ∙ all (subst (λ n. n ≢ tree_at (site_of w) Meta) (sym (there k low)) (apart w k Meta not_meta (all_low k low) refl)) kept

  keeps : (k : TableNumber) → (k.number == 0) ≡ false → (k.number == 2) ≡ false → k.number < length o.tables → rows_at (site_of w) k new.trees ≡ rows_at v k old.trees
  keeps k not_meta not_tap low = keeps_at k not_meta low (stays (tree_at v k) (subst (λ n. n ≢ tree_at (site_of w) Tap) (sym (there k low)) (apart w k Tap not_tap (all_low k low) refl)))

  -- the rows of one that it has
  has_rows : (k : TableNumber) → k.number < length o.tables → rows_at v k old.trees ≡ rows_in o v k old.trees
  has_rows k low = let yes : nat_lt k.number (length o.tables) ≡ true = grind (arith, nat_tests) in sym (ap (λ b. if b then rows_at v k old.trees else []) yes)

  within_four : (k : TableNumber) → k.number < 4 → k.number < length o.tables
  within_four k low = let four = has_four o older in omega (arith, four, low)

  kept_in : (k : TableNumber) → (k.number == 0) ≡ false → (k.number == 2) ≡ false → k.number < 4 → rows_at (site_of w) k new.trees ≡ rows_in o v k old.trees
  kept_in k not_meta not_tap low = keeps k not_meta not_tap (within_four k low) ∙ has_rows k (within_four k low)

  lanes : ours w new.trees 1 ≡ olders o v old.trees 1
  unfolding ours olders
  lanes = kept_in Device refl refl (omega arith)

  statements : ours w new.trees 4 ≡ olders o v old.trees 4
  unfolding ours olders
  statements = kept_in Stated refl refl (omega arith)

  not_filled : (k : TableNumber) → k.number ≢ 5 → raising.IsNotFilled o.moving k
  not_filled k other = elim (moves o older) [
    | inl some ↦ subst (λ m. raising.IsNotFilled m k) (sym some) other
    | inr none ↦ subst (λ m. raising.IsNotFilled m k) (sym none.0) tt
  ]

  retired_rows : (b : Bool) → nat_lt 4 (length o.tables) ≡ b → rows_at (site_of w) Retired new.trees ≡ (if b then rows_at v Retired old.trees else [])
  retired_rows true in_it = keeps Retired refl refl (grind (arith, nat_tests))
  retired_rows false out = is.empty Retired (grind (arith, nat_tests)) (within w Retired refl) (not_filled Retired (λ e. omega (arith, e)))

  retired : ours w new.trees 6 ≡ olders o v old.trees 6
  unfolding ours olders
  retired = retired_rows (nat_lt 4 (length o.tables)) refl

  since : ours w new.trees 9 ≡ olders o v old.trees 9
  unfolding ours olders
  since =
      let six = up_to_six o older in
      let out : nat_lt 6 (length o.tables) ≡ false = grind (arith, nat_tests) in
      is.empty Since six (within w Since refl) (not_filled Since (λ e. omega (arith, e))) ∙ sym (ap (λ b. if b then rows_at v Since old.trees else []) out)

  -- where the taps move
  moved : o.moving ≡ Some moving_taps → raising.HasMoved o (site_of w) old new moving_taps
  moved some = subst (λ m. IfSome m (raising.HasMoved o (site_of w) old new)) some is.moved

  tap_rows : rows_at v Tap old.trees ≡ rows_at (site_of w) Tap old.trees
  tap_rows = ap old.trees (there Tap (within_four Tap (omega arith)))

  copied_taps : o.moving ≡ Some moving_taps → taps_in o v old.trees ≡ copies (rows_at v Tap old.trees)
  copied_taps some = ap (λ (m : Option MovingParts). if is_some m then copies (rows_at v Tap old.trees) else rows_in o v Routed old.trees) some

  are_numbered : o.moving ≡ Some moving_taps → AreReadable (olders o v old.trees) → AreNumbered (columns_of o.own Tap) (rows_at (site_of w) Tap old.trees)
  unfolding olders
  are_numbered some readable = subst (λ n. AreNumbered n (rows_at (site_of w) Tap old.trees)) (sym (seven o older)) (subst (AreNumbered 7) tap_rows (numbered (rows_at v Tap old.trees) (subst (AreRows IsTap) (copied_taps some) readable.taps)))

  taps : AreReadable (olders o v old.trees) → ours w new.trees 7 ≡ olders o v old.trees 7
  unfolding ours olders
  taps readable = elim (moves o older) [
    | inl some ↦ (moved some).copied (are_numbered some readable) ∙ ap copies (sym tap_rows) ∙ sym (copied_taps some)
    | inr none ↦ keeps Routed refl refl none.1 ∙ has_rows Routed none.1 ∙ sym (ap (λ (m : Option MovingParts). if is_some m then copies (rows_at v Tap old.trees) else rows_in o v Routed old.trees) none.0)
  ]

  unused : AreReadable (olders o v old.trees) → ours w new.trees 2 ≡ olders o v old.trees 2
  unfolding ours olders
  unused readable = elim (moves o older) [
    | inl some ↦ (moved some).emptied (are_numbered some readable) ∙ sym (ap (λ (m : Option MovingParts). if is_some m then [] else rows_in o v Tap old.trees) some)
    | inr none ↦ (
        let here = within_four Tap (omega arith) in
        keeps_at Tap refl here (subst (λ m. raising.IsKept m (site_of w) (tree_at v Tap)) (sym none.0) tt) ∙ has_rows Tap here ∙ sym (ap (λ (m : Option MovingParts). if is_some m then [] else rows_in o v Tap old.trees) none.0))
  ]

  meta : FitInFormat o.format owner start (held_of (olders o v old.trees)) → FitTogether owner start (record (held_of (olders o v old.trees)) { meta = ours w new.trees 0 })
  unfolding ours
  meta fit = record { counted = fit.counted; numbered = fit.numbered; single = fit.single; days = fit.days; meta = is.meta; unused = fit.unused }

  -- the lists are the same
  but_meta : AreReadable (olders o v old.trees) → ◌≡◌ {A = Held} (record (held_of (olders o v old.trees)) { meta = ours w new.trees 0 }) (held_of (ours w new.trees))
  but_meta readable = λ i. record {
    lanes = λ d. lane_of (held (sym lanes i) d);
    taps = map tap_of (sym (taps readable) i);
    statements = map stated_of (sym statements i);
    retired = λ d. is_some (held (sym retired i) d);
    since = λ d. since_of (held (sym since i) d);
    meta = ours w new.trees 0;
    unused = sym (unused readable) i;
  }

  pub raised_rows : IsLawfulOlder o v owner start old.trees → IsLawful w owner start new.trees
  raised_rows law = record {
    readable = record {
      lanes = subst (AreRows IsLane) (sym lanes) law.readable.lanes;
      taps = subst (AreRows IsTap) (sym (taps law.readable)) law.readable.taps;
      statements = subst (AreRows IsStated) (sym statements) law.readable.statements;
      retired = subst (AreRows IsRetired) (sym retired) law.readable.retired;
      since = subst (AreRows IsSince) (sym since) law.readable.since;
    };
    together = subst (FitTogether owner start) (but_meta law.readable) (meta law.together);
  }

  pub raised_value : IsLawfulOlder o v owner start old.trees → (known : ℕ → Bool) → value_at w owner start known new.trees ≡ value_older o v owner start known old.trees
  raised_value law known = ap (value_in owner start known) (sym (but_meta law.readable))

  pub keeps_all_but : KeepsAllButTwo v old new
  keeps_all_but = each_of (λ (t : Table). t.tree ≢ tree_at (site_of w) Meta → raising.IsKept o.moving (site_of w) t.tree → new.trees t.tree ≡ old.trees t.tree) (λ (t : Table). t.tree ≢ tree_at v Meta → t.tree ≢ tree_at v Tap → new.trees t.tree ≡ old.trees t.tree)
      (λ t kept not_meta not_tap. kept (subst (λ n. t.tree ≢ n) (there Meta (within_four Meta (omega arith))) not_meta) (stays t.tree (subst (λ n. t.tree ≢ n) (there Tap (within_four Tap (omega arith))) not_tap))) v.schema.tables others

-- ---- what an open finds, and what a stop leaves of it

-- the table that an older format doesn't use has no row
none_unused : (o : OlderParts) (v : Site) (trees : Trees) → Has ledger_parts.older o → olders o v trees 2 ≡ [] → IsEmptied (parts_of o) v trees
unfolding olders
none_unused o v trees (inl is) none = subst (λ (x : OlderParts). IsEmptied (parts_of x) v trees) (sym is) tt
none_unused o v trees (inr (inl is)) none = subst (λ (x : OlderParts). IsEmptied (parts_of x) v trees) (sym is) tt
none_unused o v trees (inr (inr (inl is))) none = subst (λ (x : OlderParts). IsEmptied (parts_of x) v trees) (sym is) (ap (λ (x : OlderParts). unmoved_in x v trees) (sym is) ∙ none)
none_unused o v trees (inr (inr (inr past))) none = absurd past

-- a lawful ledger of an older format is one that an open finds, where it can be raised
pub lawful_is_older : (o : OlderParts) (v w : Site) (owner start : ℕ) (s : State) → Has ledger_parts.older o → Rises o s.now.schema v w → IsFit v.schema (IsLawfulOlder o v owner start) s → IsOlderLedger owner s
unfolding olders
lawful_is_older o v w owner start s older rises fit =
    let some : nat_lt 0 (length o.tables) ≡ true = let four = has_four o older in grind (arith, nat_tests) in
    let meta = subst (λ b. IsMeta o.format owner (if b then rows_at v Meta s.now.trees else [])) some fit.fits.together.meta in
    (o, older, v, w, record { rises = rises; meta = meta; unused = none_unused o v s.now.trees older fit.fits.together.unused })

pub left_raised : (owner start : ℕ) (known : ℕ → Bool) (old : State) (trees : Trees) → raising.MayRaise ledger_parts owner old trees → IsLeftRaised owner start known old trees
left_raised owner start known old trees it =
    let p = it.0 in
    let site = it.2.0 in
    let db = it.2.1 in
    let raises = it.2.2 in
    let same : trees ≡ db.trees = it.2.3 in
    record {
      raised = it;
      same = λ o older v has law.
          let free : HasNone o.missing old.now.schema = subst (HasNone o.missing) (sym has) law.free in
          let one : p ≡ o = one_older p o raises.0 v old.now.schema it.1 older raises.1.rises.from law.site raises.1.rises.has has raises.1.rises.free free in
          let all = subst (λ (q : OlderParts). raising.Raises ledger_parts q owner old.now db site) one raises in
          let u = all.0 in
          let can = all.1 in
          let is = all.2 in
          let w : Layout = record { schema = site.schema; places = site.places; fits = can.rises.site } in
          let here : u.schema ≡ v.schema = sym can.rises.has ∙ has in
          let first = moved_older o u v owner start old.now.trees can.rises.from here law in (
            w,
            left_of (schema_in w) (IsLawful w owner start) db trees is.schema is.database (raised_rows o w u owner start old.now db older can is first) same,
            ap (value_at w owner start known) same ∙ raised_value o w u owner start old.now db older can is first known ∙ moved_value o u v owner start known old.now.trees can.rises.from here law,
          );
    }
