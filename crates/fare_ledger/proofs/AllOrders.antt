-- The tables of a ledger fit in whatever order they were made.
use Rattle.std.proofs.Common.{◌≡◌, ◌+◌, ◌*◌, ◌==◌, ◌<◌, ◌≤◌, ℕ, suc, false, length, [], ◌∷◌, List, refl, ap, ◌∙◌, arith}
use Rattle.std.proofs.lemmas.List.Sorted.{length_permutation}
use Rattle.sqlite_catalog.specs.Change.{automatics}
use Rattle.sqlite_schema.specs.Names.{same_name}
use Rattle.fare_layout.specs.declared.place.Place.{Place}
use Rattle.fare_layout.specs.Layouts.{Fits}
use Rattle.fare_layout.specs.Places.{place_of}
use Rattle.fare_opening.specs.Numbers.{Meta, Device, Tap, Stated}
use Rattle.fare_opening.specs.Orders.{made_of, width, tables_from}
use Rattle.fare_opening.specs.Parts.{parts_of}
use Rattle.fare_opening.proofs.InOrder as order
use Rattle.fare_opening.proofs.InOrder.{AreNamed, AreBelow, In, below, no_more, has_each, all_below}
use Rattle.fare_opening.proofs.Among.{Has}
use Rattle.fare_opening.proofs.Orders.{rowid_first, place_from, places_of, keeps_as}
use Rattle.fare_ledger.specs.Orders.{table_of, FitInAnyOrder}
use Rattle.fare_ledger.specs.Statements.{Retired, Routed, Since, third_format, ledger_parts}
use Rattle.fare_ledger.specs.Tables.{third_schema, ledger_schema}
use Rattle.fare_ledger.proofs.Anywhere.{lane_anywhere, stated_anywhere, day_anywhere, between_anywhere, begun_anywhere, later_anywhere, statements_anywhere, meta_anywhere, put_meta_anywhere, set_meta_anywhere, put_lane_anywhere, put_tap_anywhere, put_stated_anywhere, retired_anywhere, put_retired_anywhere, all_retired_anywhere, unused_anywhere, put_older_anywhere, clear_older_anywhere, since_anywhere, put_since_anywhere, kept_anywhere, cut_anywhere, told_anywhere}
use Rattle.fare_ledger.proofs.OlderTexts.{meta_third, put_meta_third, set_meta_third, unused_third}
use Rattle.fare_ledger.proofs.Texts.{own_places, lane_text, lane_at, lane_own, stated_text, stated_at, stated_own, day_text, day_at, day_own, between_text, between_at, between_own, begun_text, begun_at, begun_own, later_text, later_at, later_own, statements_text, statements_at, statements_own, meta_text, meta_at, meta_own, put_meta_text, put_meta_at, put_meta_own, set_meta_text, set_meta_at, set_meta_own, put_lane_text, put_lane_at, put_lane_own, put_tap_text, put_tap_at, put_tap_own, put_stated_text, put_stated_at, put_stated_own, retired_text, retired_at, retired_own, put_retired_text, put_retired_at, put_retired_own, all_retired_text, all_retired_at, all_retired_own, unused_text, unused_at, unused_own, put_older_text, put_older_at, put_older_own, clear_older_text, clear_older_at, clear_older_own, since_text, since_at, since_own, put_since_text, put_since_at, put_since_own, kept_text, kept_at, kept_own, cut_text, cut_at, cut_own, told_text, told_at, told_own}

abbrev name_of : ℕ → List ℕ
name_of k = (table_of k 0).name

-- ---- the seven, and the first six of them

seven_named : AreNamed table_of name_of 7
unfolding same_name
seven_named = record {
  apart = below (λ k. (j : ℕ) → j < 7 → (tree : ℕ) → same_name (table_of j tree).name (name_of k) ≡ (j == k)) (below (λ k. (tree : ℕ) → same_name (table_of k tree).name (name_of 0) ≡ (k == 0)) (λ tree. refl) (below (λ k. (tree : ℕ) → same_name (table_of (suc k) tree).name (name_of 0) ≡ ((suc k) == 0)) (λ tree. refl) (below (λ k. (tree : ℕ) → same_name (table_of (suc (suc k)) tree).name (name_of 0) ≡ ((suc (suc k)) == 0)) (λ tree. refl) (below (λ k. (tree : ℕ) → same_name (table_of (suc (suc (suc k))) tree).name (name_of 0) ≡ ((suc (suc (suc k))) == 0)) (λ tree. refl) (below (λ k. (tree : ℕ) → same_name (table_of (suc (suc (suc (suc k)))) tree).name (name_of 0) ≡ ((suc (suc (suc (suc k)))) == 0)) (λ tree. refl) (below (λ k. (tree : ℕ) → same_name (table_of (suc (suc (suc (suc (suc k))))) tree).name (name_of 0) ≡ ((suc (suc (suc (suc (suc k))))) == 0)) (λ tree. refl) (below (λ k. (tree : ℕ) → same_name (table_of (suc (suc (suc (suc (suc (suc k)))))) tree).name (name_of 0) ≡ ((suc (suc (suc (suc (suc (suc k)))))) == 0)) (λ tree. refl) (no_more (λ k. (tree : ℕ) → same_name (table_of (suc (suc (suc (suc (suc (suc (suc k))))))) tree).name (name_of 0) ≡ ((suc (suc (suc (suc (suc (suc (suc k))))))) == 0)))))))))) (below (λ k. (j : ℕ) → j < 7 → (tree : ℕ) → same_name (table_of j tree).name (name_of (suc k)) ≡ (j == (suc k))) (below (λ k. (tree : ℕ) → same_name (table_of k tree).name (name_of 1) ≡ (k == 1)) (λ tree. refl) (below (λ k. (tree : ℕ) → same_name (table_of (suc k) tree).name (name_of 1) ≡ ((suc k) == 1)) (λ tree. refl) (below (λ k. (tree : ℕ) → same_name (table_of (suc (suc k)) tree).name (name_of 1) ≡ ((suc (suc k)) == 1)) (λ tree. refl) (below (λ k. (tree : ℕ) → same_name (table_of (suc (suc (suc k))) tree).name (name_of 1) ≡ ((suc (suc (suc k))) == 1)) (λ tree. refl) (below (λ k. (tree : ℕ) → same_name (table_of (suc (suc (suc (suc k)))) tree).name (name_of 1) ≡ ((suc (suc (suc (suc k)))) == 1)) (λ tree. refl) (below (λ k. (tree : ℕ) → same_name (table_of (suc (suc (suc (suc (suc k))))) tree).name (name_of 1) ≡ ((suc (suc (suc (suc (suc k))))) == 1)) (λ tree. refl) (below (λ k. (tree : ℕ) → same_name (table_of (suc (suc (suc (suc (suc (suc k)))))) tree).name (name_of 1) ≡ ((suc (suc (suc (suc (suc (suc k)))))) == 1)) (λ tree. refl) (no_more (λ k. (tree : ℕ) → same_name (table_of (suc (suc (suc (suc (suc (suc (suc k))))))) tree).name (name_of 1) ≡ ((suc (suc (suc (suc (suc (suc (suc k))))))) == 1)))))))))) (below (λ k. (j : ℕ) → j < 7 → (tree : ℕ) → same_name (table_of j tree).name (name_of (suc (suc k))) ≡ (j == (suc (suc k)))) (below (λ k. (tree : ℕ) → same_name (table_of k tree).name (name_of 2) ≡ (k == 2)) (λ tree. refl) (below (λ k. (tree : ℕ) → same_name (table_of (suc k) tree).name (name_of 2) ≡ ((suc k) == 2)) (λ tree. refl) (below (λ k. (tree : ℕ) → same_name (table_of (suc (suc k)) tree).name (name_of 2) ≡ ((suc (suc k)) == 2)) (λ tree. refl) (below (λ k. (tree : ℕ) → same_name (table_of (suc (suc (suc k))) tree).name (name_of 2) ≡ ((suc (suc (suc k))) == 2)) (λ tree. refl) (below (λ k. (tree : ℕ) → same_name (table_of (suc (suc (suc (suc k)))) tree).name (name_of 2) ≡ ((suc (suc (suc (suc k)))) == 2)) (λ tree. refl) (below (λ k. (tree : ℕ) → same_name (table_of (suc (suc (suc (suc (suc k))))) tree).name (name_of 2) ≡ ((suc (suc (suc (suc (suc k))))) == 2)) (λ tree. refl) (below (λ k. (tree : ℕ) → same_name (table_of (suc (suc (suc (suc (suc (suc k)))))) tree).name (name_of 2) ≡ ((suc (suc (suc (suc (suc (suc k)))))) == 2)) (λ tree. refl) (no_more (λ k. (tree : ℕ) → same_name (table_of (suc (suc (suc (suc (suc (suc (suc k))))))) tree).name (name_of 2) ≡ ((suc (suc (suc (suc (suc (suc (suc k))))))) == 2)))))))))) (below (λ k. (j : ℕ) → j < 7 → (tree : ℕ) → same_name (table_of j tree).name (name_of (suc (suc (suc k)))) ≡ (j == (suc (suc (suc k))))) (below (λ k. (tree : ℕ) → same_name (table_of k tree).name (name_of 3) ≡ (k == 3)) (λ tree. refl) (below (λ k. (tree : ℕ) → same_name (table_of (suc k) tree).name (name_of 3) ≡ ((suc k) == 3)) (λ tree. refl) (below (λ k. (tree : ℕ) → same_name (table_of (suc (suc k)) tree).name (name_of 3) ≡ ((suc (suc k)) == 3)) (λ tree. refl) (below (λ k. (tree : ℕ) → same_name (table_of (suc (suc (suc k))) tree).name (name_of 3) ≡ ((suc (suc (suc k))) == 3)) (λ tree. refl) (below (λ k. (tree : ℕ) → same_name (table_of (suc (suc (suc (suc k)))) tree).name (name_of 3) ≡ ((suc (suc (suc (suc k)))) == 3)) (λ tree. refl) (below (λ k. (tree : ℕ) → same_name (table_of (suc (suc (suc (suc (suc k))))) tree).name (name_of 3) ≡ ((suc (suc (suc (suc (suc k))))) == 3)) (λ tree. refl) (below (λ k. (tree : ℕ) → same_name (table_of (suc (suc (suc (suc (suc (suc k)))))) tree).name (name_of 3) ≡ ((suc (suc (suc (suc (suc (suc k)))))) == 3)) (λ tree. refl) (no_more (λ k. (tree : ℕ) → same_name (table_of (suc (suc (suc (suc (suc (suc (suc k))))))) tree).name (name_of 3) ≡ ((suc (suc (suc (suc (suc (suc (suc k))))))) == 3)))))))))) (below (λ k. (j : ℕ) → j < 7 → (tree : ℕ) → same_name (table_of j tree).name (name_of (suc (suc (suc (suc k))))) ≡ (j == (suc (suc (suc (suc k)))))) (below (λ k. (tree : ℕ) → same_name (table_of k tree).name (name_of 4) ≡ (k == 4)) (λ tree. refl) (below (λ k. (tree : ℕ) → same_name (table_of (suc k) tree).name (name_of 4) ≡ ((suc k) == 4)) (λ tree. refl) (below (λ k. (tree : ℕ) → same_name (table_of (suc (suc k)) tree).name (name_of 4) ≡ ((suc (suc k)) == 4)) (λ tree. refl) (below (λ k. (tree : ℕ) → same_name (table_of (suc (suc (suc k))) tree).name (name_of 4) ≡ ((suc (suc (suc k))) == 4)) (λ tree. refl) (below (λ k. (tree : ℕ) → same_name (table_of (suc (suc (suc (suc k)))) tree).name (name_of 4) ≡ ((suc (suc (suc (suc k)))) == 4)) (λ tree. refl) (below (λ k. (tree : ℕ) → same_name (table_of (suc (suc (suc (suc (suc k))))) tree).name (name_of 4) ≡ ((suc (suc (suc (suc (suc k))))) == 4)) (λ tree. refl) (below (λ k. (tree : ℕ) → same_name (table_of (suc (suc (suc (suc (suc (suc k)))))) tree).name (name_of 4) ≡ ((suc (suc (suc (suc (suc (suc k)))))) == 4)) (λ tree. refl) (no_more (λ k. (tree : ℕ) → same_name (table_of (suc (suc (suc (suc (suc (suc (suc k))))))) tree).name (name_of 4) ≡ ((suc (suc (suc (suc (suc (suc (suc k))))))) == 4)))))))))) (below (λ k. (j : ℕ) → j < 7 → (tree : ℕ) → same_name (table_of j tree).name (name_of (suc (suc (suc (suc (suc k)))))) ≡ (j == (suc (suc (suc (suc (suc k))))))) (below (λ k. (tree : ℕ) → same_name (table_of k tree).name (name_of 5) ≡ (k == 5)) (λ tree. refl) (below (λ k. (tree : ℕ) → same_name (table_of (suc k) tree).name (name_of 5) ≡ ((suc k) == 5)) (λ tree. refl) (below (λ k. (tree : ℕ) → same_name (table_of (suc (suc k)) tree).name (name_of 5) ≡ ((suc (suc k)) == 5)) (λ tree. refl) (below (λ k. (tree : ℕ) → same_name (table_of (suc (suc (suc k))) tree).name (name_of 5) ≡ ((suc (suc (suc k))) == 5)) (λ tree. refl) (below (λ k. (tree : ℕ) → same_name (table_of (suc (suc (suc (suc k)))) tree).name (name_of 5) ≡ ((suc (suc (suc (suc k)))) == 5)) (λ tree. refl) (below (λ k. (tree : ℕ) → same_name (table_of (suc (suc (suc (suc (suc k))))) tree).name (name_of 5) ≡ ((suc (suc (suc (suc (suc k))))) == 5)) (λ tree. refl) (below (λ k. (tree : ℕ) → same_name (table_of (suc (suc (suc (suc (suc (suc k)))))) tree).name (name_of 5) ≡ ((suc (suc (suc (suc (suc (suc k)))))) == 5)) (λ tree. refl) (no_more (λ k. (tree : ℕ) → same_name (table_of (suc (suc (suc (suc (suc (suc (suc k))))))) tree).name (name_of 5) ≡ ((suc (suc (suc (suc (suc (suc (suc k))))))) == 5)))))))))) (below (λ k. (j : ℕ) → j < 7 → (tree : ℕ) → same_name (table_of j tree).name (name_of (suc (suc (suc (suc (suc (suc k))))))) ≡ (j == (suc (suc (suc (suc (suc (suc k)))))))) (below (λ k. (tree : ℕ) → same_name (table_of k tree).name (name_of 6) ≡ (k == 6)) (λ tree. refl) (below (λ k. (tree : ℕ) → same_name (table_of (suc k) tree).name (name_of 6) ≡ ((suc k) == 6)) (λ tree. refl) (below (λ k. (tree : ℕ) → same_name (table_of (suc (suc k)) tree).name (name_of 6) ≡ ((suc (suc k)) == 6)) (λ tree. refl) (below (λ k. (tree : ℕ) → same_name (table_of (suc (suc (suc k))) tree).name (name_of 6) ≡ ((suc (suc (suc k))) == 6)) (λ tree. refl) (below (λ k. (tree : ℕ) → same_name (table_of (suc (suc (suc (suc k)))) tree).name (name_of 6) ≡ ((suc (suc (suc (suc k)))) == 6)) (λ tree. refl) (below (λ k. (tree : ℕ) → same_name (table_of (suc (suc (suc (suc (suc k))))) tree).name (name_of 6) ≡ ((suc (suc (suc (suc (suc k))))) == 6)) (λ tree. refl) (below (λ k. (tree : ℕ) → same_name (table_of (suc (suc (suc (suc (suc (suc k)))))) tree).name (name_of 6) ≡ ((suc (suc (suc (suc (suc (suc k)))))) == 6)) (λ tree. refl) (no_more (λ k. (tree : ℕ) → same_name (table_of (suc (suc (suc (suc (suc (suc (suc k))))))) tree).name (name_of 6) ≡ ((suc (suc (suc (suc (suc (suc (suc k))))))) == 6)))))))))) (no_more (λ k. (j : ℕ) → j < 7 → (tree : ℕ) → same_name (table_of j tree).name (name_of (suc (suc (suc (suc (suc (suc (suc k)))))))) ≡ (j == (suc (suc (suc (suc (suc (suc (suc k))))))))))))))));
  tree_is = below (λ k. (tree : ℕ) → (table_of k tree).tree ≡ tree) (λ tree. refl) (below (λ k. (tree : ℕ) → (table_of (suc k) tree).tree ≡ tree) (λ tree. refl) (below (λ k. (tree : ℕ) → (table_of (suc (suc k)) tree).tree ≡ tree) (λ tree. refl) (below (λ k. (tree : ℕ) → (table_of (suc (suc (suc k))) tree).tree ≡ tree) (λ tree. refl) (below (λ k. (tree : ℕ) → (table_of (suc (suc (suc (suc k)))) tree).tree ≡ tree) (λ tree. refl) (below (λ k. (tree : ℕ) → (table_of (suc (suc (suc (suc (suc k))))) tree).tree ≡ tree) (λ tree. refl) (below (λ k. (tree : ℕ) → (table_of (suc (suc (suc (suc (suc (suc k)))))) tree).tree ≡ tree) (λ tree. refl) (no_more (λ k. (tree : ℕ) → (table_of (suc (suc (suc (suc (suc (suc (suc k))))))) tree).tree ≡ tree))))))));
  narrow = below (λ k. width table_of k ≤ 2) (omega arith) (below (λ k. width table_of (suc k) ≤ 2) (omega arith) (below (λ k. width table_of (suc (suc k)) ≤ 2) (omega arith) (below (λ k. width table_of (suc (suc (suc k))) ≤ 2) (omega arith) (below (λ k. width table_of (suc (suc (suc (suc k)))) ≤ 2) (omega arith) (below (λ k. width table_of (suc (suc (suc (suc (suc k))))) ≤ 2) (omega arith) (below (λ k. width table_of (suc (suc (suc (suc (suc (suc k)))))) ≤ 2) (omega arith) (no_more (λ k. width table_of (suc (suc (suc (suc (suc (suc (suc k))))))) ≤ 2))))))));
  plain = below (λ k. (tree : ℕ) → (table_of k tree).references ≡ []) (λ tree. refl) (below (λ k. (tree : ℕ) → (table_of (suc k) tree).references ≡ []) (λ tree. refl) (below (λ k. (tree : ℕ) → (table_of (suc (suc k)) tree).references ≡ []) (λ tree. refl) (below (λ k. (tree : ℕ) → (table_of (suc (suc (suc k))) tree).references ≡ []) (λ tree. refl) (below (λ k. (tree : ℕ) → (table_of (suc (suc (suc (suc k)))) tree).references ≡ []) (λ tree. refl) (below (λ k. (tree : ℕ) → (table_of (suc (suc (suc (suc (suc k))))) tree).references ≡ []) (λ tree. refl) (below (λ k. (tree : ℕ) → (table_of (suc (suc (suc (suc (suc (suc k)))))) tree).references ≡ []) (λ tree. refl) (no_more (λ k. (tree : ℕ) → (table_of (suc (suc (suc (suc (suc (suc (suc k))))))) tree).references ≡ []))))))));
  keyed = below (λ k. (tree : ℕ) → rowid_first (automatics (table_of k tree) 0 (tree + 1) (table_of k tree).uniques) ≡ false) (λ tree. refl) (below (λ k. (tree : ℕ) → rowid_first (automatics (table_of (suc k) tree) 0 (tree + 1) (table_of (suc k) tree).uniques) ≡ false) (λ tree. refl) (below (λ k. (tree : ℕ) → rowid_first (automatics (table_of (suc (suc k)) tree) 0 (tree + 1) (table_of (suc (suc k)) tree).uniques) ≡ false) (λ tree. refl) (below (λ k. (tree : ℕ) → rowid_first (automatics (table_of (suc (suc (suc k))) tree) 0 (tree + 1) (table_of (suc (suc (suc k))) tree).uniques) ≡ false) (λ tree. refl) (below (λ k. (tree : ℕ) → rowid_first (automatics (table_of (suc (suc (suc (suc k)))) tree) 0 (tree + 1) (table_of (suc (suc (suc (suc k)))) tree).uniques) ≡ false) (λ tree. refl) (below (λ k. (tree : ℕ) → rowid_first (automatics (table_of (suc (suc (suc (suc (suc k))))) tree) 0 (tree + 1) (table_of (suc (suc (suc (suc (suc k))))) tree).uniques) ≡ false) (λ tree. refl) (below (λ k. (tree : ℕ) → rowid_first (automatics (table_of (suc (suc (suc (suc (suc (suc k)))))) tree) 0 (tree + 1) (table_of (suc (suc (suc (suc (suc (suc k)))))) tree).uniques) ≡ false) (λ tree. refl) (no_more (λ k. (tree : ℕ) → rowid_first (automatics (table_of (suc (suc (suc (suc (suc (suc (suc k))))))) tree) 0 (tree + 1) (table_of (suc (suc (suc (suc (suc (suc (suc k))))))) tree).uniques) ≡ false))))))));
}

six_named : AreNamed table_of name_of 6
six_named = record {
  apart = λ k low j less. seven_named.apart k (omega (arith, low)) j (omega (arith, less));
  tree_is = λ k low. seven_named.tree_is k (omega (arith, low));
  narrow = λ k low. seven_named.narrow k (omega (arith, low));
  plain = λ k low. seven_named.plain k (omega (arith, low));
  keyed = λ k low. seven_named.keyed k (omega (arith, low));
}

-- as many tables as there are numbers
count : (tree : ℕ) (ks : List ℕ) → length (tables_from table_of tree ks) ≡ length ks
count tree [] = refl
count tree (k ∷ ks) = ap suc (count (tree + width table_of k) ks)

-- ---- all seven fit

module _ (ks : List ℕ) (all : AreBelow 7 ks) (each : (k : ℕ) → k < 7 → In ks k) (many : length ks ≡ 7) where
  few : length ks ≤ 1000
  few = omega (arith, many)

  pub fits_seven : Fits ledger_schema ledger_parts.texts (made_of table_of ks) (places_of ledger_parts table_of ks)
  unfolding ledger_schema
  fits_seven =
      let s = made_of table_of ks in
      let place : ℕ → Place = λ k. place_from table_of 0 0 ks k in
      let has : (k : ℕ) → k < 7 → Has s (name_of k) (table_of k) (place k) = order.has_table table_of name_of 7 seven_named ks all each few in
      let less : (k : ℕ) → k < 7 → (place k).at < 7 = λ k low. (let at = order.at_low table_of name_of 7 seven_named ks all each few k low in omega (arith, at, many)) in
      let least : (k : ℕ) → k < 7 → (place k).at ≤ (place k).tree = order.tree_least table_of name_of 7 seven_named ks all each few in
      let most : (k : ℕ) → k < 7 → (place k).tree ≤ 2 * (place k).at = order.tree_most table_of name_of 7 seven_named ks all each few in
      let seven : length s.tables ≡ 7 = count 0 ks ∙ many in
      order.fit table_of name_of 7 seven_named ks all each few ledger_parts (refl, (λ tree. refl), (refl, (λ tree. refl), (refl, (λ tree. refl), (refl, (λ tree. refl), (refl, (λ tree. refl), (refl, (λ tree. refl), (refl, (λ tree. refl), tt))))))) (omega arith) (
        keeps_as ledger_schema s lane_text (place 1) (lane_at (place_of own_places Device)) lane_own (lane_anywhere s (place 1) (has 1 (omega arith)) (less 1 (omega arith))),
        (
          keeps_as ledger_schema s stated_text (place 3) (stated_at (place_of own_places Stated)) stated_own (stated_anywhere s (place 3) (has 3 (omega arith)) (less 3 (omega arith))),
          (
            keeps_as ledger_schema s day_text (place 5) (day_at (place_of own_places Routed)) day_own (day_anywhere s (place 5) (has 5 (omega arith)) (less 5 (omega arith))),
            (
              keeps_as ledger_schema s between_text (place 5) (between_at (place_of own_places Routed)) between_own (between_anywhere s (place 5) (has 5 (omega arith)) (less 5 (omega arith))),
              (
                keeps_as ledger_schema s begun_text (place 1) (begun_at (place_of own_places Device)) begun_own (begun_anywhere s (place 1) (has 1 (omega arith)) (less 1 (omega arith))),
                (
                  keeps_as ledger_schema s later_text (place 6) (later_at (place_of own_places Since)) later_own (later_anywhere s (place 6) (has 6 (omega arith)) (less 6 (omega arith))),
                  (
                    keeps_as ledger_schema s statements_text (place 3) (statements_at (place_of own_places Stated)) statements_own (statements_anywhere s (place 3) (has 3 (omega arith)) (less 3 (omega arith))),
                    (
                      keeps_as ledger_schema s meta_text (place 0) (meta_at (place_of own_places Meta)) meta_own (meta_anywhere s (place 0) (has 0 (omega arith)) (less 0 (omega arith)) (least 0 (omega arith)) (most 0 (omega arith))),
                      (
                        keeps_as ledger_schema s put_meta_text (place 0) (put_meta_at (place_of own_places Meta)) put_meta_own (put_meta_anywhere s (place 0) (has 0 (omega arith)) (less 0 (omega arith))),
                        (
                          keeps_as ledger_schema s set_meta_text (place 0) (set_meta_at (place_of own_places Meta)) set_meta_own (set_meta_anywhere s (place 0) (has 0 (omega arith)) (less 0 (omega arith))),
                          (
                            keeps_as ledger_schema s put_lane_text (place 1) (put_lane_at (place_of own_places Device)) put_lane_own (put_lane_anywhere s (place 1) (has 1 (omega arith)) seven (less 1 (omega arith))),
                            (
                              keeps_as ledger_schema s put_tap_text (place 5) (put_tap_at (place_of own_places Routed)) put_tap_own (put_tap_anywhere s (place 5) (has 5 (omega arith)) (less 5 (omega arith))),
                              (
                                keeps_as ledger_schema s put_stated_text (place 3) (put_stated_at (place_of own_places Stated)) put_stated_own (put_stated_anywhere s (place 3) (has 3 (omega arith)) (less 3 (omega arith))),
                                (
                                  keeps_as ledger_schema s retired_text (place 4) (retired_at (place_of own_places Retired)) retired_own (retired_anywhere s (place 4) (has 4 (omega arith)) (less 4 (omega arith))),
                                  (
                                    keeps_as ledger_schema s put_retired_text (place 4) (put_retired_at (place_of own_places Retired)) put_retired_own (put_retired_anywhere s (place 4) (has 4 (omega arith)) (less 4 (omega arith))),
                                    (
                                      keeps_as ledger_schema s all_retired_text (place 4) (all_retired_at (place_of own_places Retired)) all_retired_own (all_retired_anywhere s (place 4) (has 4 (omega arith)) (less 4 (omega arith))),
                                      (
                                        keeps_as ledger_schema s unused_text (place 2) (unused_at (place_of own_places Tap)) unused_own (unused_anywhere s (place 2) (has 2 (omega arith)) (less 2 (omega arith))),
                                        (
                                          keeps_as ledger_schema s put_older_text (place 5) (put_older_at (place_of own_places Routed)) put_older_own (put_older_anywhere s (place 5) (has 5 (omega arith)) (less 5 (omega arith))),
                                          (
                                            keeps_as ledger_schema s clear_older_text (place 2) (clear_older_at (place_of own_places Tap)) clear_older_own (clear_older_anywhere s (place 2) (has 2 (omega arith)) (less 2 (omega arith))),
                                            (
                                              keeps_as ledger_schema s since_text (place 6) (since_at (place_of own_places Since)) since_own (since_anywhere s (place 6) (has 6 (omega arith)) (less 6 (omega arith))),
                                              (
                                                keeps_as ledger_schema s put_since_text (place 6) (put_since_at (place_of own_places Since)) put_since_own (put_since_anywhere s (place 6) (has 6 (omega arith)) seven (less 6 (omega arith))),
                                                (
                                                  keeps_as ledger_schema s kept_text (place 5) (kept_at (place_of own_places Routed)) kept_own (kept_anywhere s (place 5) (has 5 (omega arith)) (less 5 (omega arith))),
                                                  (
                                                    keeps_as ledger_schema s cut_text (place 5) (cut_at (place_of own_places Routed)) cut_own (cut_anywhere s (place 5) (has 5 (omega arith)) (less 5 (omega arith))),
                                                    (
                                                      keeps_as ledger_schema s told_text (place 3) (told_at (place_of own_places Stated)) told_own (told_anywhere s (place 3) (has 3 (omega arith)) (less 3 (omega arith))),
                                                      tt,
                                                    ),
                                                  ),
                                                ),
                                              ),
                                            ),
                                          ),
                                        ),
                                      ),
                                    ),
                                  ),
                                ),
                              ),
                            ),
                          ),
                        ),
                      ),
                    ),
                  ),
                ),
              ),
            ),
          ),
        ),
      )

-- ---- and the first six

module _ (ks : List ℕ) (all : AreBelow 6 ks) (each : (k : ℕ) → k < 6 → In ks k) (many : length ks ≡ 6) where
  few_six : length ks ≤ 1000
  few_six = omega (arith, many)

  pub fits_six : Fits third_schema (parts_of third_format).texts (made_of table_of ks) (places_of (parts_of third_format) table_of ks)
  unfolding third_schema
  fits_six =
      let s = made_of table_of ks in
      let place : ℕ → Place = λ k. place_from table_of 0 0 ks k in
      let has : (k : ℕ) → k < 6 → Has s (name_of k) (table_of k) (place k) = order.has_table table_of name_of 6 six_named ks all each few_six in
      let less : (k : ℕ) → k < 6 → (place k).at < 7 = λ k low. (let at = order.at_low table_of name_of 6 six_named ks all each few_six k low in omega (arith, at, many)) in
      let least : (k : ℕ) → k < 6 → (place k).at ≤ (place k).tree = order.tree_least table_of name_of 6 six_named ks all each few_six in
      let most : (k : ℕ) → k < 6 → (place k).tree ≤ 2 * (place k).at = order.tree_most table_of name_of 6 six_named ks all each few_six in
      order.fit table_of name_of 6 six_named ks all each few_six (parts_of third_format) (refl, (λ tree. refl), (refl, (λ tree. refl), (refl, (λ tree. refl), (refl, (λ tree. refl), (refl, (λ tree. refl), (refl, (λ tree. refl), tt)))))) (omega arith) (
        keeps_as third_schema s meta_text (place 0) (meta_at (place_of own_places Meta)) meta_third (meta_anywhere s (place 0) (has 0 (omega arith)) (less 0 (omega arith)) (least 0 (omega arith)) (most 0 (omega arith))),
        (
          keeps_as third_schema s put_meta_text (place 0) (put_meta_at (place_of own_places Meta)) put_meta_third (put_meta_anywhere s (place 0) (has 0 (omega arith)) (less 0 (omega arith))),
          (
            keeps_as third_schema s set_meta_text (place 0) (set_meta_at (place_of own_places Meta)) set_meta_third (set_meta_anywhere s (place 0) (has 0 (omega arith)) (less 0 (omega arith))),
            (
              keeps_as third_schema s unused_text (place 2) (unused_at (place_of own_places Tap)) unused_third (unused_anywhere s (place 2) (has 2 (omega arith)) (less 2 (omega arith))),
              tt,
            ),
          ),
        ),
      )

-- ---- in whatever order

pub any_order : FitInAnyOrder
any_order ks same =
    let all = has_each (0 ∷ 1 ∷ 2 ∷ 3 ∷ 4 ∷ 5 ∷ 6 ∷ []) ks same in
    let low = all_below 7 (0 ∷ 1 ∷ 2 ∷ 3 ∷ 4 ∷ 5 ∷ 6 ∷ []) ks same (omega arith, (omega arith, (omega arith, (omega arith, (omega arith, (omega arith, (omega arith, tt))))))) in
    let each : (k : ℕ) → k < 7 → In ks k = below (λ k. In ks k) (all.0) (below (λ k. In ks (suc k)) (all.1.0) (below (λ k. In ks (suc (suc k))) (all.1.1.0) (below (λ k. In ks (suc (suc (suc k)))) (all.1.1.1.0) (below (λ k. In ks (suc (suc (suc (suc k))))) (all.1.1.1.1.0) (below (λ k. In ks (suc (suc (suc (suc (suc k)))))) (all.1.1.1.1.1.0) (below (λ k. In ks (suc (suc (suc (suc (suc (suc k))))))) (all.1.1.1.1.1.1.0) (no_more (λ k. In ks (suc (suc (suc (suc (suc (suc (suc k))))))))))))))) in
    (places_of ledger_parts table_of ks, fits_seven ks low each (length_permutation (0 ∷ 1 ∷ 2 ∷ 3 ∷ 4 ∷ 5 ∷ 6 ∷ []) ks same))
