-- What is registered of an entry, from the look-ups of its kind.
use Rattle.std.proofs.Common.{◌≡◌, ℕ, nat_eq, Option, Some, None, refl, sym, ◌∙◌, ap}
use Rattle.std.specs.Prelude.{option_map}
use Rattle.std.specs.Map.{lookup}
use Rattle.fare_scheme.specs.declared.entry.Product.{Product as Sold}
use Rattle.fare_scheme.specs.declared.entry.Tariff.{Tariff}
use Rattle.fare_scheme.specs.Values.{SchemeValue}
use Rattle.fare_scheme.specs.Words.{owner_of, tariff_of, operator_of_station, station_of, position_of_owner, position_of_operator, position_of_station, position_of_product, position_of_device}
use Rattle.fare_growth.specs.declared.entry.Entry.{Entry}
use Rattle.fare_growth.specs.declared.entry.Entry.TheVariants.{Owner, Operator, Station, Product, Device}
use Rattle.fare_growth.specs.declared.registered.Registered.{Registered}
use Rattle.fare_growth.specs.Entries.{owner_entry, operator_entry, station_entry, product_entry, device_entry, registered_of}
use Rattle.fare_growth.proofs.Looked.{from_both, registered_owner, registered_operator, registered_station, registered_product, registered_device}

no_second : {X Y : Type 0} (f : ℕ → X → Y) (o : Option ℕ) (p : Option X) → None ≡ p → from_both f o p ≡ None
no_second f None p none = refl
no_second f (Some k) p none = ap (from_both f (Some k)) (sym none)

module _ (s : SchemeValue) (e : Entry) (id : ℕ) where
  -- NOTHING
  module _ (result : Option Registered) (is : result ≡ None) where
    by_name : (name : Entry) → e ≡ name → registered_of s name ≡ None → result ≡ registered_of s e
    by_name name named none = is ∙ sym none ∙ ap (registered_of s) (sym named)

    pub no_owner : e ≡ Owner id → None ≡ position_of_owner s id → result ≡ registered_of s e
    no_owner named none = by_name (Owner id) named (registered_owner s id ∙ ap (option_map (λ k. (owner_entry (k, id)).1)) (sym none))

    pub no_operator : e ≡ Operator id → None ≡ position_of_operator s id → result ≡ registered_of s e
    no_operator named none = by_name (Operator id) named (registered_operator s id ∙ ap (option_map (λ k. (operator_entry (k, id)).1)) (sym none))

    pub no_station : e ≡ Station id → None ≡ operator_of_station s id → result ≡ registered_of s e
    no_station named none =
        by_name (Station id) named (registered_station s id ∙ no_second (λ k operator. (station_entry (k, (id, operator))).1) (position_of_station s id) (operator_of_station s id) none)

    pub no_product : e ≡ Product id → None ≡ owner_of s id → result ≡ registered_of s e
    no_product named none =
        by_name (Product id) named
        (registered_product s id ∙ no_second (λ k product. (product_entry (k, (id, product))).1) (position_of_product s id) (lookup (nat_eq id) s.products) (unmapped (lookup (nat_eq id) s.products) none))
      where
        unmapped : (o : Option Sold) → None ≡ option_map (λ p. p.owner) o → None ≡ o
        unmapped None h = refl
        unmapped (Some p) h = absurd (let g = h in cc)

    pub no_device : e ≡ Device id → None ≡ station_of s id → result ≡ registered_of s e
    no_device named none =
        by_name (Device id) named (registered_device s id ∙ no_second (λ k station. (device_entry (k, (id, station))).1) (position_of_device s id) (station_of s id) none)

  -- SOMETHING
  module _ (p : ℕ × Option Entry × Option Tariff) (k : ℕ) where
    abbrev made : ℕ × Option Entry × Option Tariff → Registered
    made q = record { position = q.0; parent = q.1; tariff = q.2 }

    of_name : (name : Entry) (q : ℕ × Option Entry × Option Tariff) → e ≡ name → p ≡ q → registered_of s name ≡ Some (made q) → Some (made p) ≡ registered_of s e
    of_name name q named is found = ap (λ r. Some (made r)) is ∙ sym found ∙ ap (registered_of s) (sym named)

    pub an_owner : e ≡ Owner id → Some k ≡ position_of_owner s id → p ≡ (k, None, None) → Some (made p) ≡ registered_of s e
    an_owner named at is = of_name (Owner id) (k, None, None) named is (registered_owner s id ∙ ap (option_map (λ k. (owner_entry (k, id)).1)) (sym at))

    pub an_operator : e ≡ Operator id → Some k ≡ position_of_operator s id → p ≡ (k, None, None) → Some (made p) ≡ registered_of s e
    an_operator named at is = of_name (Operator id) (k, None, None) named is (registered_operator s id ∙ ap (option_map (λ k. (operator_entry (k, id)).1)) (sym at))

    pub a_station : (operator : ℕ) → e ≡ Station id → Some k ≡ position_of_station s id → Some operator ≡ operator_of_station s id
        → p ≡ (k, Some (Operator operator), None) → Some (made p) ≡ registered_of s e
    a_station operator named at parent is =
        let make : Option ℕ → Option ℕ → Option Registered = from_both (λ k operator. (station_entry (k, (id, operator))).1) in
        of_name (Station id) (k, Some (Operator operator), None) named is
        (registered_station s id ∙ ap (λ o. make o (operator_of_station s id)) (sym at) ∙ ap (make (Some k)) (sym parent))

    pub a_product : (owner : ℕ) (tariff : Tariff) → e ≡ Product id → Some k ≡ position_of_product s id → Some owner ≡ owner_of s id → Some tariff ≡ tariff_of s id
        → p ≡ (k, Some (Owner owner), Some tariff) → Some (made p) ≡ registered_of s e
    a_product owner tariff named at parent costs is =
        let make : Option ℕ → Option Sold → Option Registered = from_both (λ k product. (product_entry (k, (id, product))).1) in
        of_name (Product id) (k, Some (Owner owner), Some tariff) named is
        (registered_product s id ∙ ap (λ o. make o (lookup (nat_eq id) s.products)) (sym at) ∙ both (lookup (nat_eq id) s.products) parent costs)
      where
        both : (o : Option Sold) → Some owner ≡ option_map (λ q. q.owner) o → Some tariff ≡ option_map (λ q. q.tariff) o
            → from_both (λ k product. (product_entry (k, (id, product))).1) (Some k) o ≡ Some (made (k, Some (Owner owner), Some tariff))
        both None h g = absurd (let f = h in cc)
        both (Some q) h g =
            let f : ℕ → Option Registered = λ n. Some (record { position = k; parent = Some (Owner n); tariff = Some q.tariff }) in
            let t : Tariff → Option Registered = λ n. Some (record { position = k; parent = Some (Owner owner); tariff = Some n }) in
            let owners : q.owner ≡ owner = (let w = h in cc) in
            let tariffs : q.tariff ≡ tariff = (let w = g in cc) in
            ap f owners ∙ ap t tariffs

    pub a_device : (station : ℕ) → e ≡ Device id → Some k ≡ position_of_device s id → Some station ≡ station_of s id
        → p ≡ (k, Some (Station station), None) → Some (made p) ≡ registered_of s e
    a_device station named at parent is =
        let make : Option ℕ → Option ℕ → Option Registered = from_both (λ k station. (device_entry (k, (id, station))).1) in
        of_name (Device id) (k, Some (Station station), None) named is
        (registered_device s id ∙ ap (λ o. make o (station_of s id)) (sym at) ∙ ap (make (Some k)) (sym parent))
