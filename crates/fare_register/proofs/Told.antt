-- A register is told by its lists.
use Rattle.std.proofs.Common.{◌≡◌, ℕ, suc, List, [], ◌∷◌, map, get_or, refl, sym, ap, ◌∙◌, eqb-true, arith}
use Rattle.std.specs.List.{All, AllByRecursion}
use Rattle.std.specs.Map.{keys_of}
use Rattle.std.proofs.lemmas.List.Elements.{All-contains, All-map}
use Rattle.std.proofs.lemmas.Map.Views.{Contains-keys_from_lookup}
use Rattle.fare_record.specs.Limits.{IsOwnerId, IsOperatorId, IsStationId}
use Rattle.fare_scheme.specs.declared.entry.Product.{Product}
use Rattle.fare_scheme.specs.declared.entry.Placement.{Placement}
use Rattle.fare_scheme.specs.Values.{SchemeValue}
use Rattle.fare_scheme.specs.Facts.{IsRegistered, IsScheme}
use Rattle.fare_lines.specs.declared.line.SchemeLine.{SchemeLine}
use Rattle.fare_lines.specs.ZoneWord.{IsZoneText}
use Rattle.fare_setup.specs.SchemeLines.{setup_lines_of}
use Rattle.fare_register.specs.Registers.{RegisterValue, HaveRoom, AreOf, registered, register_lists, register_lines, pair_numbers, one_number, product_numbers, device_numbers, FirstFits, IdFits, BothFit, OwnerFits, StationFits}

-- LISTS
-- numbers tell what they are of
tells : {X : Type 0} (f : X → List ℕ) → ((x y : X) → f x ≡ f y → x ≡ y) → (xs ys : List X) → map f xs ≡ map f ys → xs ≡ ys
tells f one [] [] is = refl
tells f one [] (y ∷ ys) is = absurd cc
tells f one (x ∷ xs) [] is = absurd cc
tells f one (x ∷ xs) (y ∷ ys) is =
    let first : f x ≡ f y = cc in
    let rest : map f xs ≡ map f ys = cc in
    λ i. one x y first i ∷ tells f one xs ys rest i

pairs : (x y : ℕ × ℕ) → pair_numbers x ≡ pair_numbers y → x ≡ y
pairs x y is =
    let a : x.0 ≡ y.0 = cc in
    let b : x.1 ≡ y.1 = cc in
    λ i. (a i, b i)

ones : (x y : ℕ) → one_number x ≡ one_number y → x ≡ y
ones x y is = cc

devices : (x y : ℕ × Placement) → device_numbers x ≡ device_numbers y → x ≡ y
devices x y is =
    let a : x.0 ≡ y.0 = cc in
    let b : x.1.station ≡ y.1.station = cc in
    let c : x.1.buffer ≡ y.1.buffer = cc in
    λ i. (a i, record { station = b i; buffer = c i })

products : (x y : ℕ × Product) → product_numbers x ≡ product_numbers y → x ≡ y
products x y is =
    let a : x.0 ≡ y.0 = cc in
    let b : x.1.owner ≡ y.1.owner = cc in
    let c : x.1.tariff.fare ≡ y.1.tariff.fare = cc in
    let d : x.1.tariff.daily ≡ y.1.tariff.daily = cc in
    let e : x.1.tariff.weekly ≡ y.1.tariff.weekly = cc in
    let f : x.1.tariff.hop ≡ y.1.tariff.hop = cc in
    λ i. (a i, record { owner = b i; tariff = record { fare = c i; daily = d i; weekly = e i; hop = f i } })

pub one_register : (one other : RegisterValue) → register_lists one ≡ register_lists other → one ≡ other
one_register x y is =
    let start : x.start ≡ y.start = cc in
    let inbox : x.inbox ≡ y.inbox = cc in
    let zone_is : map one_number x.zone ≡ map one_number y.zone = cc in
    let owners_are : map pair_numbers x.owners ≡ map pair_numbers y.owners = cc in
    let operators_are : map one_number x.operators ≡ map one_number y.operators = cc in
    let stations_are : map pair_numbers x.stations ≡ map pair_numbers y.stations = cc in
    let products_are : map product_numbers x.products ≡ map product_numbers y.products = cc in
    let devices_are : map device_numbers x.devices ≡ map device_numbers y.devices = cc in
    let z = tells one_number ones x.zone y.zone zone_is in
    let o = tells pair_numbers pairs x.owners y.owners owners_are in
    let p = tells one_number ones x.operators y.operators operators_are in
    let s = tells pair_numbers pairs x.stations y.stations stations_are in
    let t = tells product_numbers products x.products y.products products_are in
    let v = tells device_numbers devices x.devices y.devices devices_are in
    λ i. record { owners = o i; operators = p i; stations = s i; products = t i; devices = v i; inbox = inbox i; zone = z i; start = start i }

pub lines_read : (scheme : SchemeValue) (zone : List ℕ) (lines : List SchemeLine) → AreOf (register_lists (registered scheme zone)) lines → lines ≡ setup_lines_of scheme zone
lines_read scheme zone lines of = of.lines_are ∙ ap register_lines (sym (one_register (registered scheme zone) of.register of.lists_are))

-- ROOM
each : {X : Type 0} (P : X → Type 0) (xs : List X) → All P xs → AllByRecursion P xs
each P [] all = tt
each P (x ∷ xs) all = (all 0 x (omega arith), each P xs (λ k d low. all (suc k) d (omega arith)))

registered_id : {X : Type 0} (P : ℕ → Type 0) (entries : List (ℕ × X)) (id : ℕ) → All (λ e. P e.0) entries → IsRegistered entries id → P id
registered_id P entries id all known = All-contains P (keys_of entries) id (All-map P (λ e. e.0) entries all) (Contains-keys_from_lookup eqb-true id entries known)

pub scheme_has_room : (scheme : SchemeValue) (zone : List ℕ) → IsScheme scheme → IsZoneText zone → HaveRoom (registered scheme zone)
scheme_has_room scheme zone is word = record {
  owners = each FirstFits scheme.owners (λ k d low. (let id = is.owners.ids k d low in omega arith));
  operators = each IdFits scheme.operators (λ k d low. (let id = is.operators.ids k d low in omega arith));
  stations = each BothFit scheme.stations (λ k d low. (
      let id = is.stations.ids k d low in
      let parent : IsOperatorId (get_or scheme.stations k d).1 = All-contains IsOperatorId scheme.operators (get_or scheme.stations k d).1 is.operators.ids (is.stations.parents k d low) in
      (omega arith, omega arith)));
  products = each OwnerFits scheme.products (λ k d low. (
      let parent : IsOwnerId (get_or scheme.products k d).1.owner = registered_id IsOwnerId scheme.owners (get_or scheme.products k d).1.owner is.owners.ids (is.products.parents k d low) in
      omega arith));
  devices = each StationFits scheme.devices (λ k d low. (
      let parent : IsStationId (get_or scheme.devices k d).1.station = registered_id IsStationId scheme.stations (get_or scheme.devices k d).1.station is.stations.ids (is.devices.parents k d low) in
      omega arith));
  zone = word;
}
