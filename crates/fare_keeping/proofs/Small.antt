-- The numbers of what is registered of a scheme are below 2^32.
use Rattle.std.proofs.Common.{◌<◌, ◌^◌, ℕ, List, [], ◌∷◌, get_or, map, eqb-true, arith}
use Prim.Native.Nat.{suc}
use Rattle.std.specs.List.{All, AllByRecursion}
use Rattle.std.specs.Map.{keys_of}
use Rattle.std.proofs.lemmas.List.Elements.{All-contains, All-map}
use Rattle.std.proofs.lemmas.Map.Views.{Contains-keys_from_lookup}
use Rattle.fare_record.specs.Limits.{IsOwnerId, IsOperatorId, IsStationId}
use Rattle.fare_scheme.specs.declared.entry.Product.{Product}
use Rattle.fare_scheme.specs.declared.entry.Placement.{Placement}
use Rattle.fare_scheme.specs.Values.{SchemeValue}
use Rattle.fare_scheme.specs.Facts.{IsRegistered, IsScheme, AreOwners, AreOperators, AreStations, AreProducts, AreDevices}
use Rattle.fare_lines.specs.ZoneWord.{IsZoneText}
use Rattle.fare_register.specs.Registers.{registered, register_lists, one_number, pair_numbers, product_numbers, device_numbers}
use Rattle.fare_keeping.specs.Keeping.{AreSmall}

abbrev IsSmallRow : List ℕ → Type 0
IsSmallRow row = AllByRecursion (λ n. n < 2 ^ 32) row

each_small : {X : Type 0} (f : X → List ℕ) (xs : List X) → All (λ x. IsSmallRow (f x)) xs → AllByRecursion IsSmallRow (map f xs)
each_small f [] all = tt
each_small f (x ∷ xs) all = (all 0 x (omega arith), each_small f xs (λ k d below. all (suc k) d (omega arith)))

-- what holds of all ids holds of a registered one
registered_id : {X : Type 0} (P : ℕ → Type 0) (entries : List (ℕ × X)) (id : ℕ) → All (λ e. P e.0) entries → IsRegistered entries id → P id
registered_id P entries id all registered =
    All-contains P (keys_of entries) id (All-map P (λ e. e.0) entries all) (Contains-keys_from_lookup eqb-true id entries registered)

owners_small : (owners : List (ℕ × ℕ)) → AreOwners owners → AllByRecursion IsSmallRow (map pair_numbers owners)
owners_small owners are = each_small pair_numbers owners (λ k d below.
    let id = are.ids k d below in
    let lane = are.capacities k d below in
    (omega arith, (omega arith, tt)))

operators_small : (operators : List ℕ) → AreOperators operators → AllByRecursion IsSmallRow (map one_number operators)
operators_small operators are = each_small one_number operators (λ k d below.
    let id = are.ids k d below in
    (omega arith, tt))

stations_small : (operators : List ℕ) (stations : List (ℕ × ℕ)) → AreOperators operators → AreStations operators stations → AllByRecursion IsSmallRow (map pair_numbers stations)
stations_small operators stations have are = each_small pair_numbers stations (λ k d below.
    let id = are.ids k d below in
    let parent : IsOperatorId (get_or stations k d).1 = All-contains IsOperatorId operators (get_or stations k d).1 have.ids (are.parents k d below) in
    (omega arith, (omega arith, tt)))

products_small : (owners : List (ℕ × ℕ)) (products : List (ℕ × Product)) → AreOwners owners → AreProducts owners products → AllByRecursion IsSmallRow (map product_numbers products)
products_small owners products have are = each_small product_numbers products (λ k d below.
    let id = are.ids k d below in
    let parent : IsOwnerId (get_or products k d).1.owner = registered_id IsOwnerId owners (get_or products k d).1.owner have.ids (are.parents k d below) in
    let tariff = are.tariffs k d below in
    (omega arith, (omega arith, (omega arith, (omega arith, (omega arith, (omega arith, tt)))))))

devices_small : (stations : List (ℕ × ℕ)) (devices : List (ℕ × Placement)) (operators : List ℕ) → AreStations operators stations → AreDevices stations devices → AllByRecursion IsSmallRow (map device_numbers devices)
devices_small stations devices operators have are = each_small device_numbers devices (λ k d below.
    let id = are.ids k d below in
    let parent : IsStationId (get_or devices k d).1.station = registered_id IsStationId stations (get_or devices k d).1.station have.ids (are.parents k d below) in
    let buffer = are.buffers k d below in
    (omega arith, (omega arith, (omega arith, tt))))

zone_small : (zone : List ℕ) → IsZoneText zone → AllByRecursion IsSmallRow (map one_number zone)
zone_small zone fits = each_small one_number zone (λ k d below.
    let byte = fits.printable k d below in
    (omega arith, tt))

pub register_small : (scheme : SchemeValue) (zone : List ℕ) → IsScheme scheme → IsZoneText zone → AreSmall (register_lists (registered scheme zone))
register_small scheme zone is fits =
    let capacity = is.inbox_capacity in
    let start = is.start in (
      ((omega arith, (omega arith, tt)), tt),
      (
        zone_small zone fits,
        (
          owners_small scheme.owners is.owners,
          (
            operators_small scheme.operators is.operators,
            (
              stations_small scheme.operators scheme.stations is.operators is.stations,
              (
                products_small scheme.owners scheme.products is.owners is.products,
                (devices_small scheme.stations scheme.devices scheme.operators is.stations is.devices, tt),
              ),
            ),
          ),
        ),
      ),
    )
