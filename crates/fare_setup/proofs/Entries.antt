-- An entry stands at the place of its id, with what is looked up by the id.
use Rattle.std.proofs.Common.{◌≡◌, ◌<◌, ℕ, Bool, true, false, List, [], ◌∷◌, length, nat_eq, get_or, Option, Some, None, refl, ap, ap₂, ◌∙◌, arith}
use Rattle.std.specs.Prelude.{slice_get, option_map}
use Prim.Native.Nat.{zero, suc}
use Rattle.std.specs.Map.{lookup, keys_of}
use Rattle.std.proofs.lemmas.List.Quantifiers.{position-Some}
use Rattle.fare_scheme.specs.declared.entry.Tariff.{Tariff}
use Rattle.fare_scheme.specs.declared.entry.Product.{Product}
use Rattle.fare_scheme.specs.declared.entry.Placement.{Placement}
use Rattle.fare_scheme.specs.Words.{id_at, place_of}
use Rattle.fare_lines.specs.declared.line.SchemeLine.TheVariants as line
use Rattle.fare_setup.specs.SchemeLines.{device_line, owner_line, station_line}

lookup_first : {X : Type 0} (test : ℕ → Bool) (entries : List (ℕ × X)) (k : ℕ) → k < length (keys_of entries) → test (get_or (keys_of entries) k 0) ≡ true → ((j : ℕ) → j < k → test (get_or (keys_of entries) j 0) ≡ false)
    → lookup test entries ≡ option_map (λ e. e.1) (slice_get entries k)
lookup_first test [] k within passes earlier = absurd (omega arith)
lookup_first test (e ∷ es) zero within passes earlier = rw passes refl
lookup_first test (e ∷ es) (suc k) within passes earlier =
    rw (earlier 0 (omega arith)) (lookup_first test es k (omega arith) passes (λ j below. earlier (suc j) (omega arith)))

-- what is looked up by an id stands at its place
value_at_place : {X : Type 0} (entries : List (ℕ × X)) (id place : ℕ) → place_of entries id ≡ Some place → lookup (nat_eq id) entries ≡ option_map (λ e. e.1) (slice_get entries place)
value_at_place entries id place found =
    let first = position-Some (nat_eq id) (keys_of entries) place 0 found in
    lookup_first (nat_eq id) entries place first.0 first.1 first.2

entry_at : {X : Type 0} (entries : List (ℕ × X)) (id place : ℕ) (value : X) → Some id ≡ id_at entries place → place_of entries id ≡ Some place → Some value ≡ lookup (nat_eq id) entries
    → Some (id, value) ≡ slice_get entries place
entry_at {X} entries id place value here found is = by (slice_get entries place) here (is ∙ value_at_place entries id place found)
  where
    by : (o : Option (ℕ × X)) → Some id ≡ option_map (λ e. e.0) o → Some value ≡ option_map (λ e. e.1) o → Some (id, value) ≡ o
    by None a b = absurd (cc)
    by (Some e) a b =
        let key : id ≡ e.0 = cc in
        let part : value ≡ e.1 = cc in
        ap₂ (λ (i : ℕ) (v : X). Some (i, v)) key part

-- the same of a value of two parts
parts_at : {X Y Z : Type 0} (f : X → Y) (g : X → Z) (make : Y → Z → X) → ((x : X) → make (f x) (g x) ≡ x) → (entries : List (ℕ × X)) (id place : ℕ) (y : Y) (z : Z) → Some id ≡ id_at entries place → place_of entries id ≡ Some place
    → Some y ≡ option_map f (lookup (nat_eq id) entries) → Some z ≡ option_map g (lookup (nat_eq id) entries) → Some (id, make y z) ≡ slice_get entries place
parts_at {X} {Y} {Z} f g make whole entries id place y z here found is_y is_z =
    entry_at entries id place (make y z) here found (by (lookup (nat_eq id) entries) is_y is_z)
  where
    by : (o : Option X) → Some y ≡ option_map f o → Some z ≡ option_map g o → Some (make y z) ≡ o
    by None a b = absurd (cc)
    by (Some x) a b =
        let one : y ≡ f x = cc in
        let other : z ≡ g x = cc in
        ap₂ (λ (v : Y) (w : Z). Some (make v w)) one other ∙ ap Some (whole x)

-- LINES
-- in these the numbers of the line are those of the ids
pub owner_at : (entries : List (ℕ × ℕ)) (id place value number : ℕ) → Some id ≡ id_at entries place → place_of entries id ≡ Some place → Some value ≡ lookup (nat_eq id) entries → number ≡ id
    → Some (line.Owner number value) ≡ option_map owner_line (slice_get entries place)
owner_at entries id place value number here found is same =
    ap (λ n. Some (line.Owner n value)) same ∙ ap (option_map owner_line) (entry_at entries id place value here found is)

pub station_at : (entries : List (ℕ × ℕ)) (id place value number parent : ℕ) → Some id ≡ id_at entries place → place_of entries id ≡ Some place → Some value ≡ lookup (nat_eq id) entries → number ≡ id → parent ≡ value
    → Some (line.Station number parent) ≡ option_map station_line (slice_get entries place)
station_at entries id place value number parent here found is same up =
    ap₂ (λ n m. Some (line.Station n m)) same up ∙ ap (option_map station_line) (entry_at entries id place value here found is)

pub device_at : (entries : List (ℕ × Placement)) (id place station buffer number parent : ℕ) → Some id ≡ id_at entries place → place_of entries id ≡ Some place
    → Some station ≡ option_map (λ d. d.station) (lookup (nat_eq id) entries) → Some buffer ≡ option_map (λ d. d.buffer) (lookup (nat_eq id) entries) → number ≡ id → parent ≡ station
    → Some (line.Device number parent buffer) ≡ option_map device_line (slice_get entries place)
device_at entries id place station buffer number parent here found is_station is_buffer same up =
    ap₂ (λ n m. Some (line.Device n m buffer)) same up
    ∙ ap (option_map device_line) (parts_at (λ (d : Placement). d.station) (λ (d : Placement). d.buffer) (λ (s b : ℕ). record { station = s; buffer = b }) (λ d. refl) entries id place station buffer here found is_station is_buffer)

pub product_at : (entries : List (ℕ × Product)) (id place owner : ℕ) (tariff : Tariff) → Some id ≡ id_at entries place → place_of entries id ≡ Some place
    → Some owner ≡ option_map (λ p. p.owner) (lookup (nat_eq id) entries) → Some tariff ≡ option_map (λ p. p.tariff) (lookup (nat_eq id) entries)
    → Some (id, record { owner = owner; tariff = tariff }) ≡ slice_get entries place
product_at = parts_at (λ (p : Product). p.owner) (λ (p : Product). p.tariff) (λ (o : ℕ) (t : Tariff). record { owner = o; tariff = t }) (λ p. refl)
