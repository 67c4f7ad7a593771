-- The entries of all kinds: which of them are among those of a scheme, kind by kind.
use Rattle.std.proofs.Common.{◌≡◌, ℕ, Bool, ◌||◌, true, List, ◌++◌, refl, sym, ◌∙◌, ap}
use Rattle.std.specs.List.{AllByRecursion, list_any}
use Rattle.std.proofs.lemmas.List.Folds.{list_any-append}
use Rattle.fare_scheme.specs.declared.entry.Tariff.{Tariff}
use Rattle.fare_scheme.specs.declared.entry.Product.{Product as Sold}
use Rattle.fare_scheme.specs.Values.{SchemeValue}
use Rattle.fare_growth.specs.declared.entry.Entry.{Entry}
use Rattle.fare_growth.specs.declared.registered.Registered.{Registered}
use Rattle.fare_growth.specs.Entries.{owner_ids, device_stations, owner_entry, operator_entry, station_entry, product_entry, device_entry, entries_of, entries, same}
use Rattle.fare_growth.specs.Growth.{has_entry, AddsAtEnd}
use Rattle.fare_growth.proofs.Lists.{all-append, all-front, all-back}
use Rattle.fare_growth.proofs.Parts.{IsExact, never_has, or_false, adds_from_all, all_from_adds, all_made}

-- EACH KIND IS EXACT
position_is : (a b : Entry × Registered) → a ≡ b → a.1.position ≡ b.1.position
position_is a b e = ap (λ (x : Entry × Registered). x.1.position) e

owner_exact : IsExact owner_entry
owner_exact = record {
  position = λ a b e. position_is (owner_entry a) (owner_entry b) e;
  part = λ a b e. (let name = ap (λ (x : Entry × Registered). x.0) e in cc);
}

operator_exact : IsExact operator_entry
operator_exact = record {
  position = λ a b e. position_is (operator_entry a) (operator_entry b) e;
  part = λ a b e. (let name = ap (λ (x : Entry × Registered). x.0) e in cc);
}

pair_by : {X Y : Type 0} (a b : X × Y) → a.0 ≡ b.0 → a.1 ≡ b.1 → a ≡ b
pair_by {X} {Y} a b first second =
    let f : X → X × Y = λ x. (x, a.1) in
    let g : Y → X × Y = λ y. (b.0, y) in
    ap f first ∙ ap g second

station_exact : IsExact station_entry
station_exact = record {
  position = λ a b e. position_is (station_entry a) (station_entry b) e;
  part = λ a b e.
      (let name = ap (λ (x : Entry × Registered). x.0) e in
      let parent = ap (λ (x : Entry × Registered). x.1.parent) e in
      let id : a.1.0 ≡ b.1.0 = cc in
      let operator : a.1.1 ≡ b.1.1 = cc in
      pair_by a.1 b.1 id operator);
}

product_exact : IsExact product_entry
product_exact = record {
  position = λ a b e. position_is (product_entry a) (product_entry b) e;
  part = λ a b e.
      (let name = ap (λ (x : Entry × Registered). x.0) e in
      let parent = ap (λ (x : Entry × Registered). x.1.parent) e in
      let costs = ap (λ (x : Entry × Registered). x.1.tariff) e in
      let id : a.1.0 ≡ b.1.0 = cc in
      let owner : a.1.1.owner ≡ b.1.1.owner = cc in
      let tariff : a.1.1.tariff ≡ b.1.1.tariff = cc in
      let f : ℕ → Sold = λ n. record { owner = n; tariff = a.1.1.tariff } in
      let g : Tariff → Sold = λ t. record { owner = b.1.1.owner; tariff = t } in
      pair_by a.1 b.1 id (ap f owner ∙ ap g tariff));
}

device_exact : IsExact device_entry
device_exact = record {
  position = λ a b e. position_is (device_entry a) (device_entry b) e;
  part = λ a b e.
      (let name = ap (λ (x : Entry × Registered). x.0) e in
      let parent = ap (λ (x : Entry × Registered). x.1.parent) e in
      let id : a.1.0 ≡ b.1.0 = cc in
      let station : a.1.1 ≡ b.1.1 = cc in
      pair_by a.1 b.1 id station);
}

-- AMONG ALL
-- a test of all entries, kind by kind
by_kinds : (p : Entry × Registered → Bool) (s : SchemeValue) → list_any p (entries s)
    ≡ (list_any p (entries_of owner_entry (owner_ids s)) || (list_any p (entries_of operator_entry s.operators) || (list_any p (entries_of station_entry s.stations)
    || (list_any p (entries_of product_entry s.products) || list_any p (entries_of device_entry (device_stations s))))))
unfolding entries
by_kinds p s = simp list_any-append

module _ (s : SchemeValue) where
  abbrev of_owners : Entry × Registered → Bool
  of_owners e = has_entry (entries_of owner_entry (owner_ids s)) e

  abbrev of_operators : Entry × Registered → Bool
  of_operators e = has_entry (entries_of operator_entry s.operators) e

  abbrev of_stations : Entry × Registered → Bool
  of_stations e = has_entry (entries_of station_entry s.stations) e

  abbrev of_products : Entry × Registered → Bool
  of_products e = has_entry (entries_of product_entry s.products) e

  abbrev of_devices : Entry × Registered → Bool
  of_devices e = has_entry (entries_of device_entry (device_stations s)) e

  -- an entry of a kind is among all where it is among those of its kind
  owner_among : (a : ℕ × ℕ) → has_entry (entries s) (owner_entry a) ≡ of_owners (owner_entry a)
  owner_among a =
      let e = owner_entry a in
      by_kinds (same e) s ∙ rw (
        never_has operator_entry e (λ b. refl) 0 s.operators,
        never_has station_entry e (λ b. refl) 0 s.stations,
        never_has product_entry e (λ b. refl) 0 s.products,
        never_has device_entry e (λ b. refl) 0 (device_stations s),
      )
      (or_false (of_owners e))

  operator_among : (a : ℕ × ℕ) → has_entry (entries s) (operator_entry a) ≡ of_operators (operator_entry a)
  operator_among a =
      let e = operator_entry a in
      by_kinds (same e) s ∙ rw (
        never_has owner_entry e (λ b. refl) 0 (owner_ids s),
        never_has station_entry e (λ b. refl) 0 s.stations,
        never_has product_entry e (λ b. refl) 0 s.products,
        never_has device_entry e (λ b. refl) 0 (device_stations s),
      )
      (or_false (of_operators e))

  station_among : (a : ℕ × (ℕ × ℕ)) → has_entry (entries s) (station_entry a) ≡ of_stations (station_entry a)
  station_among a =
      let e = station_entry a in
      by_kinds (same e) s ∙ rw (
        never_has owner_entry e (λ b. refl) 0 (owner_ids s),
        never_has operator_entry e (λ b. refl) 0 s.operators,
        never_has product_entry e (λ b. refl) 0 s.products,
        never_has device_entry e (λ b. refl) 0 (device_stations s),
      )
      (or_false (of_stations e))

  product_among : (a : ℕ × (ℕ × Sold)) → has_entry (entries s) (product_entry a) ≡ of_products (product_entry a)
  product_among a =
      let e = product_entry a in
      by_kinds (same e) s ∙ rw (
        never_has owner_entry e (λ b. refl) 0 (owner_ids s),
        never_has operator_entry e (λ b. refl) 0 s.operators,
        never_has station_entry e (λ b. refl) 0 s.stations,
        never_has device_entry e (λ b. refl) 0 (device_stations s),
      )
      (or_false (of_products e))

  device_among : (a : ℕ × (ℕ × ℕ)) → has_entry (entries s) (device_entry a) ≡ of_devices (device_entry a)
  device_among a =
      let e = device_entry a in
      by_kinds (same e) s ∙ rw (
        never_has owner_entry e (λ b. refl) 0 (owner_ids s),
        never_has operator_entry e (λ b. refl) 0 s.operators,
        never_has station_entry e (λ b. refl) 0 s.stations,
        never_has product_entry e (λ b. refl) 0 s.products,
      )
      refl

-- ALL ENTRIES OF THE KEPT SCHEME ARE AMONG THOSE OF THE LATER ONE
module _ {X : Type 0} (make : ℕ × X → Entry × Registered) (exact : IsExact make) (all : List (Entry × Registered)) (later : List X)
    (among : (a : ℕ × X) → has_entry all (make a) ≡ has_entry (entries_of make later) (make a)) where
  kind_adds : (kept : List X) → AllByRecursion (λ e. has_entry all e ≡ true) (entries_of make kept) → AddsAtEnd kept later
  kind_adds kept has =
      adds_from_all make exact kept later
      (all_made make (λ e. has_entry all e ≡ true) (λ e. has_entry (entries_of make later) e ≡ true) (λ a h. sym (among a) ∙ h) 0 kept has)

  kind_has : (kept : List X) → AddsAtEnd kept later → AllByRecursion (λ e. has_entry all e ≡ true) (entries_of make kept)
  kind_has kept adds =
      all_made make (λ e. has_entry (entries_of make later) e ≡ true) (λ e. has_entry all e ≡ true) (λ a h. among a ∙ h) 0 kept
      (all_from_adds make exact kept later adds)

-- each kind of the later scheme is that of the kept one with more at the end
pub record AddEntries (kept later : SchemeValue) : Type 0 where
  pub owners : AddsAtEnd (owner_ids kept) (owner_ids later)
  pub operators : AddsAtEnd kept.operators later.operators
  pub stations : AddsAtEnd kept.stations later.stations
  pub products : AddsAtEnd kept.products later.products
  pub devices : AddsAtEnd (device_stations kept) (device_stations later)

pub add_from_has : (kept later : SchemeValue) → AllByRecursion (λ e. has_entry (entries later) e ≡ true) (entries kept) → AddEntries kept later
unfolding entries
add_from_has kept later all =
    let P : Entry × Registered → Type 0 = λ e. has_entry (entries later) e ≡ true in
    let owners = entries_of owner_entry (owner_ids kept) in
    let operators = entries_of operator_entry kept.operators in
    let stations = entries_of station_entry kept.stations in
    let products = entries_of product_entry kept.products in
    let devices = entries_of device_entry (device_stations kept) in
    let from_operators = all-back P owners (operators ++ (stations ++ (products ++ devices))) all in
    let from_stations = all-back P operators (stations ++ (products ++ devices)) from_operators in
    let from_products = all-back P stations (products ++ devices) from_stations in
    record {
      owners = kind_adds owner_entry owner_exact (entries later) (owner_ids later) (owner_among later) (owner_ids kept) (all-front P owners (operators ++ (stations ++ (products ++ devices))) all);
      operators = kind_adds operator_entry operator_exact (entries later) later.operators (operator_among later) kept.operators (all-front P operators (stations ++ (products ++ devices)) from_operators);
      stations = kind_adds station_entry station_exact (entries later) later.stations (station_among later) kept.stations (all-front P stations (products ++ devices) from_stations);
      products = kind_adds product_entry product_exact (entries later) later.products (product_among later) kept.products (all-front P products devices from_products);
      devices = kind_adds device_entry device_exact (entries later) (device_stations later) (device_among later) (device_stations kept) (all-back P products devices from_products);
    }

pub has_from_add : (kept later : SchemeValue) → AddEntries kept later → AllByRecursion (λ e. has_entry (entries later) e ≡ true) (entries kept)
unfolding entries
has_from_add kept later adds =
    let P : Entry × Registered → Type 0 = λ e. has_entry (entries later) e ≡ true in
    let owners = entries_of owner_entry (owner_ids kept) in
    let operators = entries_of operator_entry kept.operators in
    let stations = entries_of station_entry kept.stations in
    let products = entries_of product_entry kept.products in
    let devices = entries_of device_entry (device_stations kept) in
    all-append P owners (operators ++ (stations ++ (products ++ devices)))
    (kind_has owner_entry owner_exact (entries later) (owner_ids later) (owner_among later) (owner_ids kept) adds.owners)
    (all-append P operators (stations ++ (products ++ devices))
    (kind_has operator_entry operator_exact (entries later) later.operators (operator_among later) kept.operators adds.operators)
    (all-append P stations (products ++ devices)
    (kind_has station_entry station_exact (entries later) later.stations (station_among later) kept.stations adds.stations)
    (all-append P products devices
    (kind_has product_entry product_exact (entries later) later.products (product_among later) kept.products adds.products)
    (kind_has device_entry device_exact (entries later) (device_stations later) (device_among later) (device_stations kept) adds.devices))))
