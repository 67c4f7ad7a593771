-- In a scheme positions and ids undo each other, and what an entry belongs to is registered.
use Rattle.std.proofs.Common.{◌≡◌, ℕ, ◌+◌, ◌<◌, ◌≤◌, Bor, Bool, ◌||◌, true, false, cond, eqb-true, List, [], ◌∷◌, length, nat_eq, get_or, Option, Some, None, is_some, Contains, refl, sym, ◌∙◌, ap, arith}
use Rattle.std.specs.Prelude.{◌↔◌, slice_get, position, option_map, option_and_then, IfSome, IsSome}
use Rattle.std.specs.List.{IsDistinct, HoldsAt, list_any, position_from}
use Rattle.std.specs.Map.{lookup, keys_of}
use Rattle.std.specs.Option.{MatchOption, option_copied}
use Rattle.std.proofs.lemmas.Bool.Decides.{Decides-eqb}
use Rattle.std.proofs.lemmas.Bool.{lt-ltb}
use Rattle.std.proofs.lemmas.List.Quantifiers.{position-Some}
use Rattle.std.proofs.lemmas.List.Sums.{position_or_len_is}
use Rattle.std.proofs.lemmas.Cmp.{nat_eq_equiv}
use Rattle.std.proofs.lemmas.Map.Entries.{All-lookup}
use Rattle.std.proofs.lemmas.Map.Views.{list_any-from_Contains}
use Rattle.std.proofs.lemmas.Map.Made.{is_some-lookup, AllPairs-from_IsDistinct}
use Rattle.std.proofs.lemmas.Option.{slice_get_past, slice_get_read, slice_get_within, slice_get-get_or, get_or_from_slice_get, slice_get-map}
use Rattle.std.proofs.lemmas.Iterator.Adapters.{position_from-zero}
use Rattle.fare_scheme.specs.declared.entry.Product.{Product}
use Rattle.fare_scheme.specs.declared.entry.Placement.{Placement}
use Rattle.fare_scheme.specs.Values.{SchemeValue}
use Rattle.fare_scheme.specs.Ranges.{IsCapacity, IsBuffer}
use Rattle.fare_scheme.specs.Facts.{IsScheme, IsRegistered, IsTariff}
use Rattle.fare_scheme.specs.Positions.{ArePositions, AreParentsKnown}
use Rattle.fare_scheme.specs.Words.{owner_of, tariff_of, station_of, operator_of_station, operator_of, buffer_of, lane_capacity_of, id_at, place_of, position_of_owner, position_of_operator, position_of_station, position_of_device}

-- IDS IN A LIST
pub id_at_position : (ids : List ℕ) (id k : ℕ) → position (nat_eq id) ids ≡ Some k → slice_get ids k ≡ Some id
id_at_position ids id k found =
    let first = position-Some (nat_eq id) ids k 0 found in
    slice_get-get_or ids k 0 first.0 ∙ ap Some (sym (eqb-true id (get_or ids k 0) first.1))

differ : (a b : ℕ) → (a ≡ b → ⊥) → nat_eq a b ≡ false
differ a b apart = by (nat_eq a b) refl
  where
    by : (t : Bool) → nat_eq a b ≡ t → t ≡ false
    by true same = absurd (apart (eqb-true a b same))
    by false _ = refl

pub position_of_id : (ids : List ℕ) (id k : ℕ) → IsDistinct nat_eq ids → slice_get ids k ≡ Some id → position (nat_eq id) ids ≡ Some k
position_of_id ids id k distinct here =
    let within : k < length ids = slice_get_within ids k id here in
    let is : get_or ids k 0 ≡ id = get_or_from_slice_get ids k id 0 here in
    let earlier : (j : ℕ) → j < k → nat_eq id (get_or ids j 0) ≡ false =
    λ j below. differ id (get_or ids j 0) (λ same. AllPairs-from_IsDistinct Decides-eqb ids distinct j k 0 below within (sym same ∙ sym is)) in
    let place = position_or_len_is (nat_eq id) ids k 0 (omega arith) earlier (λ _. ap (nat_eq id) is ∙ (Decides-eqb id id).1 refl) in
    rw place (ap (λ b. cond b (Some k) None) (lt-ltb k (length ids) within))

some_position_from : (p : ℕ → Bool) (n : ℕ) (ids : List ℕ) → is_some (position_from p n ids) ≡ list_any p ids
some_position_from p n [] = refl
some_position_from p n (id ∷ ids) = by (p id) (some_position_from p (n + 1) ids)
  where
    by : (b : Bool) → is_some (position_from p (n + 1) ids) ≡ list_any p ids → is_some (cond b (Some n) (position_from p (n + 1) ids)) ≡ (b || list_any p ids)
    by true _ = refl
    by false rest = rest

pub some_position : (p : ℕ → Bool) (ids : List ℕ) → is_some (position p ids) ≡ list_any p ids
some_position p ids = ap is_some (position_from-zero p ids) ∙ some_position_from p 0 ids

-- the id at an answered position, and the position of an answered id
pub at_answered : (ids : List ℕ) (id : ℕ) (r : Option ℕ) → r ≡ position (nat_eq id) ids → IfSome r (λ k. slice_get ids k ≡ Some id)
at_answered ids id None is = tt
at_answered ids id (Some k) is = id_at_position ids id k (sym is)

-- what a look into a list of ids answers
pub read_at : (ids : List ℕ) (k : ℕ) (r : Option (Bor ℕ)) → MatchOption r (length ids ≤ k) (λ x. (k < length ids) × HoldsAt (λ y. x.now ≡ y) ids k) → IfSome r (λ x. x.now ≡ get_or ids k x.now) → option_copied r ≡ slice_get ids k
read_at ids k None past same = sym (slice_get_past ids k past)
read_at ids k (Some x) within same = sym (slice_get_read ids (length ids) k x.now refl within.0 same)

pub placed_answered : (ids : List ℕ) (k : ℕ) (r : Option ℕ) → IsDistinct nat_eq ids → r ≡ slice_get ids k → IfSome r (λ id. position (nat_eq id) ids ≡ Some k)
placed_answered ids k None distinct is = tt
placed_answered ids k (Some id) distinct is = position_of_id ids id k distinct (sym is)

-- ENTRIES OF IDS
pub id_at_keys : {X : Type 0} (entries : List (ℕ × X)) (k : ℕ) → slice_get (keys_of entries) k ≡ id_at entries k
id_at_keys {X} entries k = slice_get-map (λ (e : ℕ × X). e.0) entries k

pub id_at_place : {X : Type 0} (entries : List (ℕ × X)) (id k : ℕ) → place_of entries id ≡ Some k → id_at entries k ≡ Some id
id_at_place entries id k found = sym (id_at_keys entries k) ∙ id_at_position (keys_of entries) id k found

pub place_of_id : {X : Type 0} (entries : List (ℕ × X)) (id k : ℕ) → IsDistinct nat_eq (keys_of entries) → id_at entries k ≡ Some id → place_of entries id ≡ Some k
place_of_id entries id k distinct here = position_of_id (keys_of entries) id k distinct (id_at_keys entries k ∙ here)

pub at_answered_place : {X : Type 0} (entries : List (ℕ × X)) (id : ℕ) (r : Option ℕ) → r ≡ place_of entries id → IfSome r (λ k. id_at entries k ≡ Some id)
at_answered_place entries id None is = tt
at_answered_place entries id (Some k) is = id_at_place entries id k (sym is)

pub placed_answered_id : {X : Type 0} (entries : List (ℕ × X)) (k : ℕ) (r : Option ℕ) → IsDistinct nat_eq (keys_of entries) → r ≡ id_at entries k → IfSome r (λ id. place_of entries id ≡ Some k)
placed_answered_id entries k None distinct is = tt
placed_answered_id entries k (Some id) distinct is = place_of_id entries id k distinct (sym is)

-- an id has a place exactly where it has an entry
pub some_place : {X : Type 0} (entries : List (ℕ × X)) (id : ℕ) → is_some (place_of entries id) ≡ is_some (lookup (nat_eq id) entries)
some_place entries id = some_position (nat_eq id) (keys_of entries) ∙ sym (is_some-lookup (nat_eq id) entries)

is_some-map : {X Y : Type 0} (f : X → Y) (o : Option X) → is_some (option_map f o) ≡ is_some o
is_some-map f None = refl
is_some-map f (Some x) = refl

IfSome-map : {X Y : Type 0} (f : X → Y) (P : X → Type 0) (Q : Y → Type 0) → ((x : X) → P x → Q (f x)) → (o : Option X) → IfSome o P → IfSome (option_map f o) Q
IfSome-map f P Q go None h = tt
IfSome-map f P Q go (Some x) h = go x h

IfSome-then : {X Y : Type 0} (f : X → Option Y) (Q : Y → Type 0) → ((x : X) → IfSome (f x) Q) → (o : Option X) → IfSome (option_and_then f o) Q
IfSome-then f Q each None = tt
IfSome-then f Q each (Some x) = each x

-- an entry's part is there exactly where the id has a place
pub part_found : {X Y : Type 0} (f : X → Y) (entries : List (ℕ × X)) (id : ℕ) → IsSome (option_map f (lookup (nat_eq id) entries)) ↔ IsSome (place_of entries id)
part_found f entries id =
    let same = is_some-map f (lookup (nat_eq id) entries) ∙ sym (some_place entries id) in
    (λ there. sym same ∙ there, λ there. same ∙ there)

pub entry_found : {X : Type 0} (entries : List (ℕ × X)) (id : ℕ) → IsSome (lookup (nat_eq id) entries) ↔ IsSome (place_of entries id)
entry_found entries id =
    let same = sym (some_place entries id) in
    (λ there. sym same ∙ there, λ there. same ∙ there)

-- THE PARTS OF A SCHEME
pub owner_is_known : (sc : SchemeValue) → IsScheme sc → (product : ℕ) → IfSome (owner_of sc product) (λ owner. IsSome (position_of_owner sc owner))
owner_is_known sc is product =
    let parents = All-lookup (λ (p : Product). IsRegistered sc.owners p.owner) (nat_eq product) sc.products is.products.parents in
    IfSome-map (λ (p : Product). p.owner) (λ (p : Product). IsRegistered sc.owners p.owner) (λ owner. IsSome (position_of_owner sc owner))
    (λ p there. some_place sc.owners p.owner ∙ there) (lookup (nat_eq product) sc.products) parents

pub station_is_known : (sc : SchemeValue) → IsScheme sc → (device : ℕ) → IfSome (station_of sc device) (λ station. IsSome (position_of_station sc station))
station_is_known sc is device =
    let parents = All-lookup (λ (d : Placement). IsRegistered sc.stations d.station) (nat_eq device) sc.devices is.devices.parents in
    IfSome-map (λ (d : Placement). d.station) (λ (d : Placement). IsRegistered sc.stations d.station) (λ station. IsSome (position_of_station sc station))
    (λ d there. some_place sc.stations d.station ∙ there) (lookup (nat_eq device) sc.devices) parents

pub station_operator_is_known : (sc : SchemeValue) → IsScheme sc → (station : ℕ) → IfSome (operator_of_station sc station) (λ operator. IsSome (position_of_operator sc operator))
station_operator_is_known sc is station = within (lookup (nat_eq station) sc.stations) (All-lookup (Contains sc.operators) (nat_eq station) sc.stations is.stations.parents)
  where
    within : (o : Option ℕ) → IfSome o (Contains sc.operators) → IfSome o (λ operator. IsSome (position_of_operator sc operator))
    within None h = tt
    within (Some operator) h = some_position (nat_eq operator) sc.operators ∙ list_any-from_Contains nat_eq_equiv operator sc.operators h

pub operator_is_known : (sc : SchemeValue) → IsScheme sc → (device : ℕ) → IfSome (operator_of sc device) (λ operator. IsSome (position_of_operator sc operator))
operator_is_known sc is device =
    IfSome-then (λ station. lookup (nat_eq station) sc.stations) (λ operator. IsSome (position_of_operator sc operator)) (station_operator_is_known sc is) (station_of sc device)

-- a device has an operator exactly where it is registered
pub operator_found : (sc : SchemeValue) → IsScheme sc → (device : ℕ) → IsSome (operator_of sc device) ↔ IsSome (position_of_device sc device)
operator_found sc is device =
    let same = by (lookup (nat_eq device) sc.devices) (All-lookup (λ (d : Placement). IsRegistered sc.stations d.station) (nat_eq device) sc.devices is.devices.parents) ∙ sym (some_place sc.devices device) in
    (λ there. sym same ∙ there, λ there. same ∙ there)
  where
    by : (o : Option Placement) → IfSome o (λ (d : Placement). IsRegistered sc.stations d.station)
        → is_some (option_and_then (λ station. lookup (nat_eq station) sc.stations) (option_map (λ (d : Placement). d.station) o)) ≡ is_some o
    by None h = refl
    by (Some d) h = h

pub tariff_is_valid : (sc : SchemeValue) → IsScheme sc → (product : ℕ) → IfSome (tariff_of sc product) IsTariff
tariff_is_valid sc is product =
    IfSome-map (λ (p : Product). p.tariff) (λ (p : Product). IsTariff p.tariff) IsTariff (λ p valid. valid) (lookup (nat_eq product) sc.products)
    (All-lookup (λ (p : Product). IsTariff p.tariff) (nat_eq product) sc.products is.products.tariffs)

pub buffer_is_valid : (sc : SchemeValue) → IsScheme sc → (device : ℕ) → IfSome (buffer_of sc device) IsBuffer
buffer_is_valid sc is device =
    IfSome-map (λ (d : Placement). d.buffer) (λ (d : Placement). IsBuffer d.buffer) IsBuffer (λ d valid. valid) (lookup (nat_eq device) sc.devices)
    (All-lookup (λ (d : Placement). IsBuffer d.buffer) (nat_eq device) sc.devices is.devices.buffers)

pub lane_is_valid : (sc : SchemeValue) → IsScheme sc → (owner : ℕ) → IfSome (lane_capacity_of sc owner) IsCapacity
lane_is_valid sc is owner = All-lookup IsCapacity (nat_eq owner) sc.owners is.owners.capacities

pub positions : (sc : SchemeValue) → IsScheme sc → ArePositions sc
positions sc is = record {
  owners = λ id k. (id_at_place sc.owners id k, place_of_id sc.owners id k is.owners.distinct);
  operators = λ id k. (id_at_position sc.operators id k, position_of_id sc.operators id k is.operators.distinct);
  stations = λ id k. (id_at_place sc.stations id k, place_of_id sc.stations id k is.stations.distinct);
  products = λ id k. (id_at_place sc.products id k, place_of_id sc.products id k is.products.distinct);
  devices = λ id k. (id_at_place sc.devices id k, place_of_id sc.devices id k is.devices.distinct);
}

pub parents_are_known : (sc : SchemeValue) → IsScheme sc → AreParentsKnown sc
parents_are_known sc is = record {
  owner = owner_is_known sc is;
  station = station_is_known sc is;
  operator = operator_is_known sc is;
}
