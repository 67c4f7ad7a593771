-- The names of a scheme's entries: how many they are, which stands where, and that they differ.
use Rattle.std.proofs.Common.{◌≡◌, ℕ, ◌+◌, ◌-◌, ◌<◌, ◌≤◌, false, List, [], ◌∷◌, ◌++◌, length, map, nat_eq, refl, sym, ◌∙◌, ap, subst, arith}
use Rattle.std.specs.Prelude.{slice_get, option_map}
use Rattle.std.specs.List.{AllByRecursion, IsDistinct, enumerate_from}
use Rattle.std.specs.Map.{keys_of}
use Rattle.std.proofs.lemmas.List.{map-append, length-append, length-map}
use Rattle.std.proofs.lemmas.Option.{slice_get-map}
use Rattle.std.proofs.lemmas.Map.Made.{keys_of-map_values}
use Rattle.fare_scheme.specs.declared.entry.Placement.{Placement}
use Rattle.fare_scheme.specs.declared.entry.Product.{Product as Sold}
use Rattle.fare_scheme.specs.Values.{SchemeValue}
use Rattle.fare_scheme.specs.Words.{id_at}
use Rattle.fare_scheme.specs.Facts.{IsScheme}
use Rattle.fare_growth.specs.declared.entry.Entry.{Entry}
use Rattle.fare_growth.specs.declared.entry.Entry.TheVariants.{Owner, Operator, Station, Product, Device}
use Rattle.fare_growth.specs.declared.registered.Registered.{Registered}
use Rattle.fare_growth.specs.Entries.{owner_ids, device_stations, owner_entry, operator_entry, station_entry, product_entry, device_entry, entries_of, entries, names, same_entry}
use Rattle.fare_growth.proofs.Lists.{all-append, all-mapped, all-weaker, get-within, get-behind}

-- BY IDS
-- the names of all kinds, by the ids of each
abbrev pub names_by : List ℕ → List ℕ → List ℕ → List ℕ → List ℕ → List Entry
names_by owners operators stations products devices =
    map Owner owners ++ (map Operator operators ++ (map Station stations ++ (map Product products ++ map Device devices)))

names_of_ids : (make : ℕ × ℕ → Entry × Registered) (kind : ℕ → Entry) → ((e : ℕ × ℕ) → (make e).0 ≡ kind e.1)
    → (n : ℕ) (xs : List ℕ) → keys_of (map make (enumerate_from n xs)) ≡ map kind xs
names_of_ids make kind named n [] = refl
names_of_ids make kind named n (x ∷ xs) =
    ap (λ name. name ∷ keys_of (map make (enumerate_from (n + 1) xs))) (named (n, x)) ∙ ap (λ names. kind x ∷ names) (names_of_ids make kind named (n + 1) xs)

names_of_pairs : {X : Type 0} (make : ℕ × (ℕ × X) → Entry × Registered) (kind : ℕ → Entry) → ((e : ℕ × (ℕ × X)) → (make e).0 ≡ kind e.1.0)
    → (n : ℕ) (xs : List (ℕ × X)) → keys_of (map make (enumerate_from n xs)) ≡ map kind (keys_of xs)
names_of_pairs make kind named n [] = refl
names_of_pairs make kind named n (x ∷ xs) =
    ap (λ name. name ∷ keys_of (map make (enumerate_from (n + 1) xs))) (named (n, x)) ∙ ap (λ names. kind x.0 ∷ names) (names_of_pairs make kind named (n + 1) xs)

keys-append : {X : Type 0} (xs ys : List (Entry × X)) → keys_of (xs ++ ys) ≡ keys_of xs ++ keys_of ys
keys-append {X} xs ys = map-append (λ (e : Entry × X). e.0) xs ys

pub names_are : (s : SchemeValue) → names s ≡ names_by (owner_ids s) s.operators (keys_of s.stations) (keys_of s.products) (keys_of s.devices)
unfolding entries
names_are s =
    let owners = entries_of owner_entry (owner_ids s) in
    let operators = entries_of operator_entry s.operators in
    let stations = entries_of station_entry s.stations in
    let products = entries_of product_entry s.products in
    let devices = entries_of device_entry (device_stations s) in
    let device_names : keys_of devices ≡ map Device (keys_of s.devices) =
    names_of_pairs device_entry Device (λ e. refl) 0 (device_stations s) ∙ ap (map Device) (keys_of-map_values (λ (d : Placement). d.station) s.devices) in
    let product_names : keys_of products ≡ map Product (keys_of s.products) = names_of_pairs product_entry Product (λ e. refl) 0 s.products in
    let station_names : keys_of stations ≡ map Station (keys_of s.stations) = names_of_pairs station_entry Station (λ e. refl) 0 s.stations in
    let operator_names : keys_of operators ≡ map Operator s.operators = names_of_ids operator_entry Operator (λ e. refl) 0 s.operators in
    let owner_names : keys_of owners ≡ map Owner (owner_ids s) = names_of_ids owner_entry Owner (λ e. refl) 0 (owner_ids s) in
    keys-append owners (operators ++ (stations ++ (products ++ devices)))
    ∙ ap (λ (ns : List Entry). keys_of owners ++ ns) (keys-append operators (stations ++ (products ++ devices)))
    ∙ ap (λ (ns : List Entry). keys_of owners ++ (keys_of operators ++ ns)) (keys-append stations (products ++ devices))
    ∙ ap (λ (ns : List Entry). keys_of owners ++ (keys_of operators ++ (keys_of stations ++ ns))) (keys-append products devices)
    ∙ ap (λ (ns : List Entry). ns ++ (keys_of operators ++ (keys_of stations ++ (keys_of products ++ keys_of devices)))) owner_names
    ∙ ap (λ (ns : List Entry). map Owner (owner_ids s) ++ (ns ++ (keys_of stations ++ (keys_of products ++ keys_of devices)))) operator_names
    ∙ ap (λ (ns : List Entry). map Owner (owner_ids s) ++ (map Operator s.operators ++ (ns ++ (keys_of products ++ keys_of devices)))) station_names
    ∙ ap (λ (ns : List Entry). map Owner (owner_ids s) ++ (map Operator s.operators ++ (map Station (keys_of s.stations) ++ (ns ++ keys_of devices)))) product_names
    ∙ ap (λ (ns : List Entry). map Owner (owner_ids s) ++ (map Operator s.operators ++ (map Station (keys_of s.stations) ++ (map Product (keys_of s.products) ++ ns)))) device_names

-- HOW MANY THEY ARE
pub count_is : (s : SchemeValue) → length (names s) ≡ length s.owners + length s.operators + length s.stations + length s.products + length s.devices
count_is s =
    ap length (names_are s)
    ∙ simp (length-append, length-map) (omega arith)

-- WHICH STANDS WHERE
at_kind : (kind : ℕ → Entry) (ids : List ℕ) (rest : List Entry) (k : ℕ) → k < length ids → slice_get (map kind ids ++ rest) k ≡ option_map kind (slice_get ids k)
at_kind kind ids rest k within =
    let inside : k < length (map kind ids) = rw length-map within in
    get-within (map kind ids) rest k inside ∙ slice_get-map kind ids k

behind_kind : (kind : ℕ → Entry) (ids : List ℕ) (rest : List Entry) (k : ℕ) → length ids ≤ k → slice_get (map kind ids ++ rest) k ≡ slice_get rest (k - length ids)
behind_kind kind ids rest k behind =
    let outside : length (map kind ids) ≤ k = rw length-map behind in
    let same : k - length (map kind ids) ≡ k - length ids = rw length-map refl in
    get-behind (map kind ids) rest k outside ∙ ap (slice_get rest) same

module _ (s : SchemeValue) (k : ℕ) where
  pub owner_at : k < length s.owners → slice_get (names s) k ≡ option_map Owner (id_at s.owners k)
  owner_at within =
      let here : k < length (owner_ids s) = rw length-map within in
      ap (λ (ns : List Entry). slice_get ns k) (names_are s)
      ∙ at_kind Owner (owner_ids s) (map Operator s.operators ++ (map Station (keys_of s.stations) ++ (map Product (keys_of s.products) ++ map Device (keys_of s.devices)))) k here
      ∙ ap (option_map Owner) (slice_get-map (λ (e : ℕ × ℕ). e.0) s.owners k)

  behind_owners : length s.owners ≤ k → slice_get (names s) k
      ≡ slice_get (map Operator s.operators ++ (map Station (keys_of s.stations) ++ (map Product (keys_of s.products) ++ map Device (keys_of s.devices)))) (k - length s.owners)
  behind_owners behind =
      let rest = map Operator s.operators ++ (map Station (keys_of s.stations) ++ (map Product (keys_of s.products) ++ map Device (keys_of s.devices))) in
      let here : length (owner_ids s) ≤ k = rw length-map behind in
      let same : k - length (owner_ids s) ≡ k - length s.owners = rw length-map refl in
      ap (λ (ns : List Entry). slice_get ns k) (names_are s) ∙ behind_kind Owner (owner_ids s) rest k here ∙ ap (slice_get rest) same

  pub operator_at : length s.owners ≤ k → k < length s.owners + length s.operators → slice_get (names s) k ≡ option_map Operator (slice_get s.operators (k - length s.owners))
  operator_at behind within =
      behind_owners behind
      ∙ at_kind Operator s.operators (map Station (keys_of s.stations) ++ (map Product (keys_of s.products) ++ map Device (keys_of s.devices))) (k - length s.owners) (omega arith)

  behind_operators : length s.owners + length s.operators ≤ k → slice_get (names s) k
      ≡ slice_get (map Station (keys_of s.stations) ++ (map Product (keys_of s.products) ++ map Device (keys_of s.devices))) (k - (length s.owners + length s.operators))
  behind_operators behind =
      let rest = map Station (keys_of s.stations) ++ (map Product (keys_of s.products) ++ map Device (keys_of s.devices)) in
      let same : (k - length s.owners) - length s.operators ≡ k - (length s.owners + length s.operators) = omega arith in
      behind_owners (omega arith) ∙ behind_kind Operator s.operators rest (k - length s.owners) (omega arith) ∙ ap (slice_get rest) same

  pub station_at : length s.owners + length s.operators ≤ k → k < length s.owners + length s.operators + length s.stations
      → slice_get (names s) k ≡ option_map Station (id_at s.stations (k - (length s.owners + length s.operators)))
  station_at behind within =
      let j : ℕ = k - (length s.owners + length s.operators) in
      let here : j < length (keys_of s.stations) = rw length-map (omega arith) in
      behind_operators behind
      ∙ at_kind Station (keys_of s.stations) (map Product (keys_of s.products) ++ map Device (keys_of s.devices)) j here
      ∙ ap (option_map Station) (slice_get-map (λ (e : ℕ × ℕ). e.0) s.stations j)

  behind_stations : length s.owners + length s.operators + length s.stations ≤ k → slice_get (names s) k
      ≡ slice_get (map Product (keys_of s.products) ++ map Device (keys_of s.devices)) (k - (length s.owners + length s.operators + length s.stations))
  behind_stations behind =
      let rest = map Product (keys_of s.products) ++ map Device (keys_of s.devices) in
      let j : ℕ = k - (length s.owners + length s.operators) in
      let here : length (keys_of s.stations) ≤ j = rw length-map (omega arith) in
      let same : j - length (keys_of s.stations) ≡ k - (length s.owners + length s.operators + length s.stations) = rw length-map (omega arith) in
      behind_operators (omega arith) ∙ behind_kind Station (keys_of s.stations) rest j here ∙ ap (slice_get rest) same

  pub product_at : length s.owners + length s.operators + length s.stations ≤ k → k < length s.owners + length s.operators + length s.stations + length s.products
      → slice_get (names s) k ≡ option_map Product (id_at s.products (k - (length s.owners + length s.operators + length s.stations)))
  product_at behind within =
      let j : ℕ = k - (length s.owners + length s.operators + length s.stations) in
      let here : j < length (keys_of s.products) = rw length-map (omega arith) in
      behind_stations behind
      ∙ at_kind Product (keys_of s.products) (map Device (keys_of s.devices)) j here
      ∙ ap (option_map Product) (slice_get-map (λ (e : ℕ × Sold). e.0) s.products j)

  pub device_at : length s.owners + length s.operators + length s.stations + length s.products ≤ k
      → slice_get (names s) k ≡ option_map Device (id_at s.devices (k - (length s.owners + length s.operators + length s.stations + length s.products)))
  device_at behind =
      let rest = map Device (keys_of s.devices) in
      let j : ℕ = k - (length s.owners + length s.operators + length s.stations) in
      let i : ℕ = k - (length s.owners + length s.operators + length s.stations + length s.products) in
      let here : length (keys_of s.products) ≤ j = rw length-map (omega arith) in
      let same : j - length (keys_of s.products) ≡ i = rw length-map (omega arith) in
      behind_stations (omega arith) ∙ behind_kind Product (keys_of s.products) rest j here ∙ ap (slice_get rest) same
      ∙ slice_get-map Device (keys_of s.devices) i ∙ ap (option_map Device) (slice_get-map (λ (e : ℕ × Placement). e.0) s.devices i)

-- THEY DIFFER
mapped_distinct : (kind : ℕ → Entry) → ((a b : ℕ) → same_entry (kind a) (kind b) ≡ nat_eq a b) → (ids : List ℕ) → IsDistinct nat_eq ids → IsDistinct same_entry (map kind ids)
unfolding IsDistinct
mapped_distinct kind alike [] distinct = tt
mapped_distinct kind alike (id ∷ ids) distinct = (
  all-mapped kind (λ (e : Entry). same_entry (kind id) e ≡ false) ids (all-weaker (λ k. nat_eq id k ≡ false) (λ k. same_entry (kind id) (kind k) ≡ false) (λ k apart. alike id k ∙ apart) ids distinct.0),
  mapped_distinct kind alike ids distinct.1,
)

-- a name of one kind is none of these
abbrev IsApart : (ℕ → Entry) → List Entry → Type 0
IsApart kind names = (id : ℕ) → AllByRecursion (λ name. same_entry (kind id) name ≡ false) names

apart_kind : (kind other : ℕ → Entry) → ((a b : ℕ) → same_entry (kind a) (other b) ≡ false) → (ids : List ℕ) → IsApart kind (map other ids)
apart_kind kind other apart [] id = tt
apart_kind kind other apart (k ∷ ks) id = (apart id k, apart_kind kind other apart ks id)

append_distinct : (kind : ℕ → Entry) (ids : List ℕ) (names : List Entry) → IsDistinct same_entry (map kind ids) → IsDistinct same_entry names → IsApart kind names
    → IsDistinct same_entry (map kind ids ++ names)
unfolding IsDistinct
append_distinct kind [] names distinct rest apart = rest
append_distinct kind (id ∷ ids) names distinct rest apart = (
  all-append (λ (e : Entry). same_entry (kind id) e ≡ false) (map kind ids) names distinct.0 (apart id),
  append_distinct kind ids names distinct.1 rest apart,
)

pub names_differ : (s : SchemeValue) → IsScheme s → IsDistinct same_entry (names s)
names_differ s is =
    let devices = map Device (keys_of s.devices) in
    let products = map Product (keys_of s.products) in
    let stations = map Station (keys_of s.stations) in
    let operators = map Operator s.operators in
    let from_products = append_distinct Product (keys_of s.products) devices
    (mapped_distinct Product (λ a b. refl) (keys_of s.products) is.products.distinct)
    (mapped_distinct Device (λ a b. refl) (keys_of s.devices) is.devices.distinct)
    (apart_kind Product Device (λ a b. refl) (keys_of s.devices)) in
    let from_stations = append_distinct Station (keys_of s.stations) (products ++ devices)
    (mapped_distinct Station (λ a b. refl) (keys_of s.stations) is.stations.distinct) from_products
    (λ id. all-append (λ (e : Entry). same_entry (Station id) e ≡ false) products devices
    (apart_kind Station Product (λ a b. refl) (keys_of s.products) id) (apart_kind Station Device (λ a b. refl) (keys_of s.devices) id)) in
    let from_operators = append_distinct Operator s.operators (stations ++ (products ++ devices))
    (mapped_distinct Operator (λ a b. refl) s.operators is.operators.distinct) from_stations
    (λ id. all-append (λ (e : Entry). same_entry (Operator id) e ≡ false) stations (products ++ devices)
    (apart_kind Operator Station (λ a b. refl) (keys_of s.stations) id)
    (all-append (λ (e : Entry). same_entry (Operator id) e ≡ false) products devices
    (apart_kind Operator Product (λ a b. refl) (keys_of s.products) id) (apart_kind Operator Device (λ a b. refl) (keys_of s.devices) id))) in
    let from_owners = append_distinct Owner (owner_ids s) (operators ++ (stations ++ (products ++ devices)))
    (mapped_distinct Owner (λ a b. refl) (owner_ids s) is.owners.distinct) from_operators
    (λ id. all-append (λ (e : Entry). same_entry (Owner id) e ≡ false) operators (stations ++ (products ++ devices))
    (apart_kind Owner Operator (λ a b. refl) s.operators id)
    (all-append (λ (e : Entry). same_entry (Owner id) e ≡ false) stations (products ++ devices)
    (apart_kind Owner Station (λ a b. refl) (keys_of s.stations) id)
    (all-append (λ (e : Entry). same_entry (Owner id) e ≡ false) products devices
    (apart_kind Owner Product (λ a b. refl) (keys_of s.products) id) (apart_kind Owner Device (λ a b. refl) (keys_of s.devices) id)))) in
    subst (IsDistinct same_entry) (sym (names_are s)) from_owners
