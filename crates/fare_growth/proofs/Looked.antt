-- What is registered of an entry, found by its name.
use Rattle.std.proofs.Common.{◌≡◌, ℕ, ◌+◌, Bool, ◌&&◌, ◌||◌, true, false, cond, eqb-true, List, [], ◌∷◌, map, nat_eq, Option, Some, None, is_some, refl, sym, ◌∙◌, ap, subst}
use Rattle.std.specs.Prelude.{position, option_map}
use Rattle.std.specs.Option.{option_or, option_eq}
use Rattle.std.specs.List.{AllByRecursion, IsDistinct, enumerate_from, position_from}
use Rattle.std.specs.Map.{lookup, keys_of}
use Rattle.std.proofs.lemmas.Iterator.Adapters.{position_from-zero}
use Rattle.std.proofs.lemmas.Map.Made.{is_some-lookup, lookup-map_values, keys_of-map_values}
use Rattle.fare_scheme.specs.declared.entry.Placement.{Placement}
use Rattle.fare_scheme.specs.Values.{SchemeValue}
use Rattle.fare_scheme.specs.Facts.{IsScheme}
use Rattle.fare_scheme.specs.Words.{operator_of_station, station_of, position_of_owner, position_of_operator, position_of_station, position_of_product, position_of_device}
use Rattle.fare_growth.specs.declared.entry.Entry.{Entry}
use Rattle.fare_growth.specs.declared.entry.Entry.TheVariants.{Owner, Operator, Station, Product, Device}
use Rattle.fare_growth.specs.declared.registered.Registered.{Registered}
use Rattle.fare_growth.specs.Entries.{owner_ids, device_stations, owner_entry, operator_entry, station_entry, product_entry, device_entry, entries_of, entries, names, same_entry, same_registered, registered_of}
use Rattle.fare_growth.specs.Growth.{has_name, has_entry}
use Rattle.fare_growth.proofs.Lists.{lookup-append}
use Rattle.fare_growth.proofs.Same.{same_entry-exact}
use Rattle.fare_growth.proofs.Parts.{or_false}
use Rattle.fare_growth.proofs.Named.{names_differ}

-- BY NAME
-- a name is there exactly where something is registered of it
pub some_registered : (s : SchemeValue) (e : Entry) → is_some (registered_of s e) ≡ has_name (names s) e
some_registered s e = is_some-lookup (same_entry e) (entries s)

-- among entries of other names
other_names : (name : Entry) (r : Registered) (es : List (Entry × Registered)) → AllByRecursion (λ other. same_entry name other ≡ false) (keys_of es) → has_entry es (name, r) ≡ false
other_names name r [] others = refl
other_names name r (x ∷ xs) others = rw others.0 (other_names name r xs others.1)

-- an entry is among others whose names differ exactly where it is what is found by its name
has_by_name : (name : Entry) (r : Registered) (es : List (Entry × Registered)) → IsDistinct same_entry (keys_of es)
    → has_entry es (name, r) ≡ option_eq same_registered (Some r) (lookup (same_entry name) es)
unfolding IsDistinct
has_by_name name r [] distinct = refl
has_by_name name r (x ∷ xs) distinct = by (same_entry name x.0) refl (has_by_name name r xs distinct.1)
  where
    by : (b : Bool) → same_entry name x.0 ≡ b → has_entry xs (name, r) ≡ option_eq same_registered (Some r) (lookup (same_entry name) xs)
        → ((b && same_registered r x.1) || has_entry xs (name, r)) ≡ option_eq same_registered (Some r) (cond b (Some x.1) (lookup (same_entry name) xs))
    by true is _ =
        let equal = same_entry-exact name x.0 is in
        let others : AllByRecursion (λ other. same_entry name other ≡ false) (keys_of xs) = subst (λ (e : Entry). AllByRecursion (λ other. same_entry e other ≡ false) (keys_of xs)) (sym equal) distinct.0 in
        rw (other_names name r xs others) (or_false (same_registered r x.1))
    by false _ rest = rest

pub has_registered : (s : SchemeValue) → IsScheme s → (name : Entry) (r : Registered) → has_entry (entries s) (name, r) ≡ option_eq same_registered (Some r) (registered_of s name)
has_registered s is name r = has_by_name name r (entries s) (names_differ s is)

-- BY KIND
never_found : {X : Type 0} (make : ℕ × X → Entry × Registered) (name : Entry) → ((a : ℕ × X) → same_entry name (make a).0 ≡ false)
    → (n : ℕ) (xs : List X) → lookup (same_entry name) (map make (enumerate_from n xs)) ≡ None
never_found make name apart n [] = refl
never_found make name apart n (x ∷ xs) = rw (apart (n, x)) (never_found make name apart (n + 1) xs)

-- among ids
found_id : (make : ℕ × ℕ → Entry × Registered) (name : Entry) (id : ℕ) → ((a : ℕ × ℕ) → same_entry name (make a).0 ≡ nat_eq id a.1)
    → (n : ℕ) (xs : List ℕ) → lookup (same_entry name) (map make (enumerate_from n xs)) ≡ option_map (λ k. (make (k, id)).1) (position_from (nat_eq id) n xs)
found_id make name id named n [] = refl
found_id make name id named n (x ∷ xs) =
    rw (named (n, x)) (by (nat_eq id x) refl (found_id make name id named (n + 1) xs))
  where
    by : (b : Bool) → nat_eq id x ≡ b
        → lookup (same_entry name) (map make (enumerate_from (n + 1) xs)) ≡ option_map (λ k. (make (k, id)).1) (position_from (nat_eq id) (n + 1) xs)
        → cond b (Some (make (n, x)).1) (lookup (same_entry name) (map make (enumerate_from (n + 1) xs)))
        ≡ option_map (λ k. (make (k, id)).1) (cond b (Some n) (position_from (nat_eq id) (n + 1) xs))
    by true is _ = ap (λ z. Some (make (n, z)).1) (sym (eqb-true id x is))
    by false _ rest = rest

-- a value from a place and a part
abbrev pub from_both : {X Y : Type 0} → (ℕ → X → Y) → Option ℕ → Option X → Option Y
from_both f (Some k) (Some x) = Some (f k x)
from_both f (Some k) None = None
from_both f None o = None

-- among pairs of an id and a part
found_pair : {X : Type 0} (make : ℕ × (ℕ × X) → Entry × Registered) (name : Entry) (id : ℕ) → ((a : ℕ × (ℕ × X)) → same_entry name (make a).0 ≡ nat_eq id a.1.0)
    → (n : ℕ) (xs : List (ℕ × X)) → lookup (same_entry name) (map make (enumerate_from n xs))
    ≡ from_both (λ k x. (make (k, (id, x))).1) (position_from (nat_eq id) n (keys_of xs)) (lookup (nat_eq id) xs)
found_pair make name id named n [] = refl
found_pair {X} make name id named n (x ∷ xs) =
    rw (named (n, x)) (by (nat_eq id x.0) refl (found_pair make name id named (n + 1) xs))
  where
    by : (b : Bool) → nat_eq id x.0 ≡ b
        → lookup (same_entry name) (map make (enumerate_from (n + 1) xs)) ≡ from_both (λ k x. (make (k, (id, x))).1) (position_from (nat_eq id) (n + 1) (keys_of xs)) (lookup (nat_eq id) xs)
        → cond b (Some (make (n, x)).1) (lookup (same_entry name) (map make (enumerate_from (n + 1) xs)))
        ≡ from_both (λ k x. (make (k, (id, x))).1) (cond b (Some n) (position_from (nat_eq id) (n + 1) (keys_of xs))) (cond b (Some x.1) (lookup (nat_eq id) xs))
    by true is _ = ap (λ z. Some (make (n, (z, x.1))).1) (sym (eqb-true id x.0 is))
    by false _ rest = rest

-- AMONG ALL
or_none : {X : Type 0} (o : Option X) → option_or o None ≡ o
or_none None = refl
or_none (Some x) = refl

module _ (s : SchemeValue) where
  -- a look-up among all, kind by kind
  by_kinds : (t : Entry → Bool) → lookup t (entries s)
      ≡ option_or (lookup t (entries_of owner_entry (owner_ids s))) (option_or (lookup t (entries_of operator_entry s.operators)) (option_or (lookup t (entries_of station_entry s.stations))
      (option_or (lookup t (entries_of product_entry s.products)) (lookup t (entries_of device_entry (device_stations s))))))
  unfolding entries
  by_kinds t = simp lookup-append

  pub registered_owner : (id : ℕ) → registered_of s (Owner id) ≡ option_map (λ k. (owner_entry (k, id)).1) (position_of_owner s id)
  registered_owner id =
      let name : Entry = Owner id in
      by_kinds (same_entry name)
      ∙ rw (
        never_found operator_entry name (λ a. refl) 0 s.operators,
        never_found station_entry name (λ a. refl) 0 s.stations,
        never_found product_entry name (λ a. refl) 0 s.products,
        never_found device_entry name (λ a. refl) 0 (device_stations s),
      )
      (or_none (lookup (same_entry name) (entries_of owner_entry (owner_ids s))))
      ∙ found_id owner_entry name id (λ a. refl) 0 (owner_ids s)
      ∙ ap (option_map (λ k. (owner_entry (k, id)).1)) (sym (position_from-zero (nat_eq id) (owner_ids s)))

  pub registered_operator : (id : ℕ) → registered_of s (Operator id) ≡ option_map (λ k. (operator_entry (k, id)).1) (position_of_operator s id)
  registered_operator id =
      let name : Entry = Operator id in
      by_kinds (same_entry name)
      ∙ rw (
        never_found owner_entry name (λ a. refl) 0 (owner_ids s),
        never_found station_entry name (λ a. refl) 0 s.stations,
        never_found product_entry name (λ a. refl) 0 s.products,
        never_found device_entry name (λ a. refl) 0 (device_stations s),
      )
      (or_none (lookup (same_entry name) (entries_of operator_entry s.operators)))
      ∙ found_id operator_entry name id (λ a. refl) 0 s.operators
      ∙ ap (option_map (λ k. (operator_entry (k, id)).1)) (sym (position_from-zero (nat_eq id) s.operators))

  pub registered_station : (id : ℕ) → registered_of s (Station id) ≡ from_both (λ k operator. (station_entry (k, (id, operator))).1) (position_of_station s id) (operator_of_station s id)
  registered_station id =
      let name : Entry = Station id in
      by_kinds (same_entry name)
      ∙ rw (
        never_found owner_entry name (λ a. refl) 0 (owner_ids s),
        never_found operator_entry name (λ a. refl) 0 s.operators,
        never_found product_entry name (λ a. refl) 0 s.products,
        never_found device_entry name (λ a. refl) 0 (device_stations s),
      )
      (or_none (lookup (same_entry name) (entries_of station_entry s.stations)))
      ∙ found_pair station_entry name id (λ a. refl) 0 s.stations
      ∙ ap (λ o. from_both (λ k operator. (station_entry (k, (id, operator))).1) o (operator_of_station s id)) (sym (position_from-zero (nat_eq id) (keys_of s.stations)))

  pub registered_product : (id : ℕ) → registered_of s (Product id) ≡ from_both (λ k product. (product_entry (k, (id, product))).1) (position_of_product s id) (lookup (nat_eq id) s.products)
  registered_product id =
      let name : Entry = Product id in
      by_kinds (same_entry name)
      ∙ rw (
        never_found owner_entry name (λ a. refl) 0 (owner_ids s),
        never_found operator_entry name (λ a. refl) 0 s.operators,
        never_found station_entry name (λ a. refl) 0 s.stations,
        never_found device_entry name (λ a. refl) 0 (device_stations s),
      )
      (or_none (lookup (same_entry name) (entries_of product_entry s.products)))
      ∙ found_pair product_entry name id (λ a. refl) 0 s.products
      ∙ ap (λ o. from_both (λ k product. (product_entry (k, (id, product))).1) o (lookup (nat_eq id) s.products)) (sym (position_from-zero (nat_eq id) (keys_of s.products)))

  pub registered_device : (id : ℕ) → registered_of s (Device id) ≡ from_both (λ k station. (device_entry (k, (id, station))).1) (position_of_device s id) (station_of s id)
  registered_device id =
      let name : Entry = Device id in
      let make : Option ℕ → Option ℕ → Option Registered = from_both (λ k station. (device_entry (k, (id, station))).1) in
      by_kinds (same_entry name)
      ∙ rw (
        never_found owner_entry name (λ a. refl) 0 (owner_ids s),
        never_found operator_entry name (λ a. refl) 0 s.operators,
        never_found station_entry name (λ a. refl) 0 s.stations,
        never_found product_entry name (λ a. refl) 0 s.products,
      )
      refl
      ∙ found_pair device_entry name id (λ a. refl) 0 (device_stations s)
      ∙ ap (λ o. make o (lookup (nat_eq id) (device_stations s))) (sym (position_from-zero (nat_eq id) (keys_of (device_stations s))))
      ∙ ap (λ (ids : List ℕ). make (position (nat_eq id) ids) (lookup (nat_eq id) (device_stations s))) (keys_of-map_values (λ (d : Placement). d.station) s.devices)
      ∙ ap (make (position_of_device s id)) (lookup-map_values (λ (d : Placement). d.station) (nat_eq id) s.devices)
