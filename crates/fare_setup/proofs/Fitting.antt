-- Each line of a scheme can be spelled.
use Rattle.std.proofs.Common.{ℕ, List, [], ◌∷◌, ◌++◌, get_or, map, eqb-true, arith, subst, sym}
use Prim.Native.Nat.{suc}
use Rattle.std.specs.List.{All, AllByRecursion, flat_map}
use Rattle.std.specs.Map.{keys_of}
use Rattle.std.proofs.lemmas.List.{map-append}
use Rattle.std.proofs.lemmas.List.Elements.{All-contains, All-map}
use Rattle.std.proofs.lemmas.Map.Views.{Contains-keys_from_lookup}
use Rattle.fare_record.specs.Limits.{IsOwnerId, IsOperatorId, IsStationId}
use Rattle.fare_scheme.specs.declared.entry.Product.{Product}
use Rattle.fare_scheme.specs.declared.entry.Placement.{Placement}
use Rattle.fare_scheme.specs.Values.{SchemeValue}
use Rattle.fare_scheme.specs.Facts.{IsRegistered, IsScheme, AreOwners, AreOperators, AreStations, AreProducts, AreDevices}
use Rattle.fare_lines.specs.declared.line.Line.TheVariants.{Setup}
use Rattle.fare_lines.specs.declared.line.SchemeLine.{SchemeLine}
use Rattle.fare_lines.specs.declared.line.SchemeLine.TheVariants as line
use Rattle.fare_lines.specs.ZoneWord.{IsZoneText}
use Rattle.fare_lines.specs.Grammar.{Fits}
use Rattle.fare_lines.proofs.Unread.{all_both}
use Rattle.fare_setup.specs.SchemeLines.{closing_lines, device_line, owner_line, product_lines, setup_lines_of, station_line}

abbrev AllFit : List SchemeLine → Type 0
AllFit lines = AllByRecursion Fits (map Setup lines)

both_fit : (lines more : List SchemeLine) → AllFit lines → AllFit more → AllFit (lines ++ more)
both_fit lines more one other = subst (AllByRecursion Fits) (sym (map-append Setup lines more)) (all_both Fits (map Setup lines) (map Setup more) one other)

each_fits : {X : Type 0} (f : X → SchemeLine) (xs : List X) → All (λ x. Fits (Setup (f x))) xs → AllFit (map f xs)
each_fits f [] all = tt
each_fits f (x ∷ xs) all = (all 0 x (omega arith), each_fits f xs (λ k d below. all (suc k) d (omega arith)))

all_fit : {X : Type 0} (f : X → List SchemeLine) (xs : List X) → All (λ x. AllFit (f x)) xs → AllFit (flat_map f xs)
all_fit f [] all = tt
all_fit f (x ∷ xs) all = both_fit (f x) (flat_map f xs) (all 0 x (omega arith)) (all_fit f xs (λ k d below. all (suc k) d (omega arith)))

-- what holds of all ids holds of a registered one
registered_id : {X : Type 0} (P : ℕ → Type 0) (entries : List (ℕ × X)) (id : ℕ) → All (λ e. P e.0) entries → IsRegistered entries id → P id
registered_id P entries id all registered =
    All-contains P (keys_of entries) id (All-map P (λ e. e.0) entries all) (Contains-keys_from_lookup eqb-true id entries registered)

owners_fit : (owners : List (ℕ × ℕ)) → AreOwners owners → AllFit (map owner_line owners)
owners_fit owners are = each_fits owner_line owners (λ k d below.
    let id = are.ids k d below in
    let lane = are.capacities k d below in
    (omega arith, (omega arith, tt)))

operators_fit : (operators : List ℕ) → AreOperators operators → AllFit (map (λ operator. line.Operator operator) operators)
operators_fit operators are = each_fits (λ operator. line.Operator operator) operators (λ k d below.
    let id = are.ids k d below in
    (omega arith, tt))

stations_fit : (operators : List ℕ) (stations : List (ℕ × ℕ)) → AreOperators operators → AreStations operators stations → AllFit (map station_line stations)
stations_fit operators stations have are = each_fits station_line stations (λ k d below.
    let id = are.ids k d below in
    let parent : IsOperatorId (get_or stations k d).1 = All-contains IsOperatorId operators (get_or stations k d).1 have.ids (are.parents k d below) in
    (omega arith, (omega arith, tt)))

products_fit : (owners : List (ℕ × ℕ)) (products : List (ℕ × Product)) → AreOwners owners → AreProducts owners products → AllFit (flat_map product_lines products)
products_fit owners products have are = all_fit product_lines products (λ k d below.
    let id = are.ids k d below in
    let parent : IsOwnerId (get_or products k d).1.owner = registered_id IsOwnerId owners (get_or products k d).1.owner have.ids (are.parents k d below) in
    let tariff = are.tariffs k d below in
    ((omega arith, (omega arith, (omega arith, tt))), ((omega arith, (omega arith, (omega arith, tt))), ((omega arith, (omega arith, tt)), tt))))

devices_fit : (stations : List (ℕ × ℕ)) (devices : List (ℕ × Placement)) (operators : List ℕ) → AreStations operators stations → AreDevices stations devices → AllFit (map device_line devices)
devices_fit stations devices operators have are = each_fits device_line devices (λ k d below.
    let id = are.ids k d below in
    let parent : IsStationId (get_or devices k d).1.station = registered_id IsStationId stations (get_or devices k d).1.station have.ids (are.parents k d below) in
    let buffer = are.buffers k d below in
    (omega arith, (omega arith, (omega arith, tt))))

closing_fits : (scheme : SchemeValue) (zone : List ℕ) → IsScheme scheme → IsZoneText zone → AllFit (closing_lines scheme zone)
closing_fits scheme zone is fits =
    let capacity = is.inbox_capacity in
    let start = is.start in
    ((omega arith, tt), (fits, ((omega arith, tt), (tt, tt))))

pub setup_fits : (scheme : SchemeValue) (zone : List ℕ) → IsScheme scheme → IsZoneText zone → AllByRecursion Fits (map Setup (setup_lines_of scheme zone))
setup_fits scheme zone is fits =
    let owners = owners_fit scheme.owners is.owners in
    let operators = operators_fit scheme.operators is.operators in
    let stations = stations_fit scheme.operators scheme.stations is.operators is.stations in
    let products = products_fit scheme.owners scheme.products is.owners is.products in
    let devices = devices_fit scheme.stations scheme.devices scheme.operators is.stations is.devices in
    both_fit _ (closing_lines scheme zone)
    (both_fit _ (map device_line scheme.devices)
    (both_fit _ (flat_map product_lines scheme.products)
    (both_fit _ (map station_line scheme.stations)
    (both_fit (map owner_line scheme.owners) (map (λ operator. line.Operator operator) scheme.operators) owners operators)
    stations) products) devices)
    (closing_fits scheme zone is fits)
