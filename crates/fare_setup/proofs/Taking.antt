-- An empty draft takes the lines of a scheme.
use Rattle.std.proofs.Common.{◌≡◌, ◌≤◌, ◌==◌, ℕ, Bool, true, false, not, nat_eq, nat_le, List, [], ◌∷◌, ◌++◌, length, map, Some, None, Contains, append_assoc, refl, sym, ap, subst, ◌∙◌, arith, length-append}
use Rattle.std.specs.List.{IsDistinct, flat_map, list_any}
use Rattle.std.specs.Map.{keys_of}
use Rattle.std.proofs.lemmas.Bool.{le-leb, lt-leb, ne_eqb}
use Rattle.std.proofs.lemmas.Cmp.{nat_eq_equiv}
use Rattle.std.proofs.lemmas.List.{append-nil}
use Rattle.std.proofs.lemmas.List.Concat.{flat_map_single}
use Rattle.std.proofs.lemmas.Map.Views.{list_any-from_Contains}
use Rattle.fare_record.specs.Limits.{IsOwnerId, IsOperatorId, IsStationId, IsProductId, IsDeviceId}
use Rattle.fare_day.specs.Clock.{HasRule}
use Rattle.fare_scheme.specs.declared.entry.Product.{Product}
use Rattle.fare_scheme.specs.declared.entry.Placement.{Placement}
use Rattle.fare_scheme.specs.Values.{DraftValue, SchemeValue}
use Rattle.fare_scheme.specs.Ranges.{IsCapacity, IsBuffer}
use Rattle.fare_scheme.specs.Facts.{AreDevices, AreOperators, AreOwners, AreProducts, AreStations, IsRegistered, IsScheme, IsTariff}
use Rattle.fare_scheme.specs.Registering.{capped, caps_refusal, device_refusal, empty_draft, hop_refusal, is_registered, is_within, operator_refusal, owner_refusal, product_refusal, station_refusal, uncapped, windowed}
use Rattle.fare_scheme.specs.Sealing.{lacks_a_kind, seal_refusal}
use Rattle.fare_lines.specs.declared.line.SchemeLine.{SchemeLine}
use Rattle.fare_lines.specs.declared.line.SchemeLine.TheVariants as line
use Rattle.fare_setup.specs.SchemeLines.{device_line, owner_line, product_lines, setup_lines_of, station_line}
use Rattle.fare_setup.specs.Making.{Make, TakesAll}
use Rattle.fare_setup.proofs.Fresh.{changed, fresh, holds_here, last_registered, unregistered}

-- LINE BY LINE
then_all : (start middle last : DraftValue) (lines more : List SchemeLine) → TakesAll start lines middle → TakesAll middle more last → TakesAll start (lines ++ more) last
then_all start middle last [] more same rest = subst (λ d. TakesAll d more last) (sym same) rest
then_all start middle last (first ∷ lines) more taken rest = (taken.0, taken.1, then_all taken.0 middle last lines more taken.2 rest)

-- the lines of each entry lead from a draft with those before it to one with it too
abbrev Adds : {X : Type 0} → (X → List SchemeLine) → (List X → DraftValue) → List X → Type 0
Adds {X} lines put all = (before after : List X) (x : X) → before ++ x ∷ after ≡ all → TakesAll (put before) (lines x) (put (before ++ x ∷ []))

takes_from : {X : Type 0} (lines : X → List SchemeLine) (put : List X → DraftValue) (all : List X) → Adds lines put all → (before after : List X) → before ++ after ≡ all → TakesAll (put before) (flat_map lines after) (put all)
takes_from lines put all adds before [] is = ap put (sym (append-nil before) ∙ is)
takes_from lines put all adds before (x ∷ after) is =
    then_all (put before) (put (before ++ x ∷ [])) (put all) (lines x) (flat_map lines after)
    (adds before after x is)
    (takes_from lines put all adds (before ++ x ∷ []) after (append_assoc before (x ∷ []) after ∙ is))

takes_each : {X : Type 0} (f : X → SchemeLine) (put : List X → DraftValue) (all : List X) → Adds (λ x. f x ∷ []) put all → TakesAll (put []) (map f all) (put all)
takes_each f put all adds =
    subst (λ lines. TakesAll (put []) lines (put all)) (flat_map_single f all) (takes_from (λ x. f x ∷ []) put all adds [] all refl)

-- WHAT IS NOT REFUSED
not_zero : (n : ℕ) → 1 ≤ n → (n == 0) ≡ false
not_zero n some = ne_eqb n 0 (λ e. omega arith)

within : (low high n : ℕ) → low ≤ n → n ≤ high → not (is_within low high n) ≡ false
within low high n least most = rw (le-leb low n least, le-leb n high most) refl

at_most : (high n : ℕ) → n ≤ high → not (nat_le n high) ≡ false
at_most high n most = rw (le-leb n high most) refl

room : {X : Type 0} (before after : List X) (x : X) (most : ℕ) → length (before ++ x ∷ after) ≤ most → nat_le most (length before) ≡ false
room before after x most few = lt-leb most (length before) (omega (arith, length-append before (x ∷ after)))

is_not_refused : (b : Bool) → b ≡ true → not b ≡ false
is_not_refused b holds = rw holds refl

-- THE KINDS
adds_owners : (d : DraftValue) (all : List (ℕ × ℕ)) → AreOwners all → Adds (λ o. owner_line o ∷ []) (λ owners. record d { owners = owners }) all
adds_owners d all are before after o is =
    let have : AreOwners (before ++ o ∷ after) = subst AreOwners (sym is) are in
    let id : IsOwnerId o.0 = holds_here (λ o. IsOwnerId o.0) before after o have.ids in
    let lane : IsCapacity o.1 = holds_here (λ o. IsCapacity o.1) before after o have.capacities in
    let some : (o.0 == 0) ≡ false = not_zero o.0 (omega arith) in
    let new : is_registered before o.0 ≡ false = unregistered before after o have.distinct in
    let range : not (is_within 1 1024 o.1) ≡ false = within 1 1024 o.1 lane.0 lane.1 in
    let few : nat_le 16 (length before) ≡ false = room before after o 16 have.few in
    let allowed : owner_refusal (record d { owners = before }) o.0 o.1 ≡ None = rw (some, new, range, few) refl in
    (record d { owners = before ++ o ∷ [] }, (allowed, refl), refl)

adds_operators : (d : DraftValue) (all : List ℕ) → AreOperators all → Adds (λ o. line.Operator o ∷ []) (λ operators. record d { operators = operators }) all
adds_operators d all are before after o is =
    let have : AreOperators (before ++ o ∷ after) = subst AreOperators (sym is) are in
    let id : IsOperatorId o = holds_here IsOperatorId before after o have.ids in
    let some : (o == 0) ≡ false = not_zero o (omega arith) in
    let new : list_any (nat_eq o) before ≡ false = fresh before after o have.distinct in
    let few : nat_le 16 (length before) ≡ false = room before after o 16 have.few in
    let allowed : operator_refusal (record d { operators = before }) o ≡ None = rw (some, new, few) refl in
    (record d { operators = before ++ o ∷ [] }, (allowed, refl), refl)

adds_stations : (d : DraftValue) (all : List (ℕ × ℕ)) → AreStations d.operators all → Adds (λ s. station_line s ∷ []) (λ stations. record d { stations = stations }) all
adds_stations d all are before after s is =
    let have : AreStations d.operators (before ++ s ∷ after) = subst (AreStations d.operators) (sym is) are in
    let id : IsStationId s.0 = holds_here (λ s. IsStationId s.0) before after s have.ids in
    let parent : Contains d.operators s.1 = holds_here (λ s. Contains d.operators s.1) before after s have.parents in
    let some : (s.0 == 0) ≡ false = not_zero s.0 (omega arith) in
    let new : is_registered before s.0 ≡ false = unregistered before after s have.distinct in
    let known : not (list_any (nat_eq s.1) d.operators) ≡ false = is_not_refused (list_any (nat_eq s.1) d.operators) (list_any-from_Contains nat_eq_equiv s.1 d.operators parent) in
    let few : nat_le 16 (length before) ≡ false = room before after s 16 have.few in
    let allowed : station_refusal (record d { stations = before }) s.0 s.1 ≡ None = rw (some, new, known, few) refl in
    (record d { stations = before ++ s ∷ [] }, (allowed, refl), refl)

adds_devices : (d : DraftValue) (all : List (ℕ × Placement)) → AreDevices d.stations all → Adds (λ e. device_line e ∷ []) (λ devices. record d { devices = devices }) all
adds_devices d all are before after e is =
    let have : AreDevices d.stations (before ++ e ∷ after) = subst (AreDevices d.stations) (sym is) are in
    let id : IsDeviceId e.0 = holds_here (λ e. IsDeviceId e.0) before after e have.ids in
    let parent : is_registered d.stations e.1.station ≡ true = holds_here (λ e. IsRegistered d.stations e.1.station) before after e have.parents in
    let buffer : IsBuffer e.1.buffer = holds_here (λ e. IsBuffer e.1.buffer) before after e have.buffers in
    let some : (e.0 == 0) ≡ false = not_zero e.0 (omega arith) in
    let new : is_registered before e.0 ≡ false = unregistered before after e have.distinct in
    let known : not (is_registered d.stations e.1.station) ≡ false = is_not_refused (is_registered d.stations e.1.station) parent in
    let range : not (is_within 1 4096 e.1.buffer) ≡ false = within 1 4096 e.1.buffer buffer.0 buffer.1 in
    let few : nat_le 256 (length before) ≡ false = room before after e 256 have.few in
    let allowed : device_refusal (record d { devices = before }) e.0 e.1.station e.1.buffer ≡ None = rw (some, new, known, range, few) refl in
    (record d { devices = before ++ e ∷ [] }, (allowed, refl), refl)

-- a product is registered with the greatest caps and no window, and then gets its own
adds_products : (d : DraftValue) (all : List (ℕ × Product)) → AreProducts d.owners all → Adds product_lines (λ products. record d { products = products }) all
adds_products d all are before after p is =
    let have : AreProducts d.owners (before ++ p ∷ after) = subst (AreProducts d.owners) (sym is) are in
    let id : IsProductId p.0 = holds_here (λ p. IsProductId p.0) before after p have.ids in
    let parent : is_registered d.owners p.1.owner ≡ true = holds_here (λ p. IsRegistered d.owners p.1.owner) before after p have.parents in
    let tariff : IsTariff p.1.tariff = holds_here (λ p. IsTariff p.1.tariff) before after p have.tariffs in
    let first : Product = uncapped p.1.owner p.1.tariff.fare in
    let second : Product = capped p.1.tariff.daily p.1.tariff.weekly first in (
      record d { products = before ++ (p.0, first) ∷ [] },
      (registers d before after p id parent tariff have.distinct have.few, refl),
      (
        record d { products = before ++ (p.0, second) ∷ [] },
        (caps d before p first tariff, ap (λ products. record d { products = products }) (changed (capped p.1.tariff.daily p.1.tariff.weekly) before after p first have.distinct)),
        (
          record d { products = before ++ p ∷ [] },
          (hop d before p second tariff, ap (λ products. record d { products = products }) (changed (windowed p.1.tariff.hop) before after p second have.distinct)),
          refl,
        ),
      ),
    )
  where
    registers : (d : DraftValue) (before after : List (ℕ × Product)) (p : ℕ × Product) → IsProductId p.0 → is_registered d.owners p.1.owner ≡ true → IsTariff p.1.tariff → IsDistinct nat_eq (keys_of (before ++ p ∷ after)) → length (before ++ p ∷ after) ≤ 256
        → product_refusal (record d { products = before }) p.0 p.1.owner p.1.tariff.fare ≡ None
    registers d before after p id parent tariff distinct most =
        let some : (p.0 == 0) ≡ false = not_zero p.0 (omega arith) in
        let new : is_registered before p.0 ≡ false = unregistered before after p distinct in
        let known : not (is_registered d.owners p.1.owner) ≡ false = is_not_refused (is_registered d.owners p.1.owner) parent in
        let range : not (nat_le p.1.tariff.fare 100000) ≡ false = at_most 100000 p.1.tariff.fare tariff.fare in
        let few : nat_le 256 (length before) ≡ false = room before after p 256 most in
        rw (some, new, known, range, few) refl

    caps : (d : DraftValue) (before : List (ℕ × Product)) (p : ℕ × Product) (first : Product) → IsTariff p.1.tariff → caps_refusal (record d { products = before ++ (p.0, first) ∷ [] }) p.0 p.1.tariff.daily p.1.tariff.weekly ≡ None
    caps d before p first tariff =
        let known : is_registered (before ++ (p.0, first) ∷ []) p.0 ≡ true = last_registered before p.0 first in
        let daily : nat_le p.1.tariff.daily 1000000 ≡ true = le-leb p.1.tariff.daily 1000000 tariff.daily in
        let weekly : nat_le p.1.tariff.weekly 10000000 ≡ true = le-leb p.1.tariff.weekly 10000000 tariff.weekly in
        rw (known, daily, weekly) refl

    hop : (d : DraftValue) (before : List (ℕ × Product)) (p : ℕ × Product) (second : Product) → IsTariff p.1.tariff → hop_refusal (record d { products = before ++ (p.0, second) ∷ [] }) p.0 p.1.tariff.hop ≡ None
    hop d before p second tariff =
        let known : is_registered (before ++ (p.0, second) ∷ []) p.0 ≡ true = last_registered before p.0 second in
        let range : nat_le p.1.tariff.hop 7200 ≡ true = le-leb p.1.tariff.hop 7200 tariff.hop in
        rw (known, range) refl

-- THE SCHEME
some_of_each : (d : DraftValue) → 1 ≤ length d.owners → 1 ≤ length d.operators → 1 ≤ length d.stations → 1 ≤ length d.products → 1 ≤ length d.devices → lacks_a_kind d ≡ false
some_of_each d owners operators stations products devices =
    let one = not_zero (length d.owners) owners in
    let two = not_zero (length d.operators) operators in
    let three = not_zero (length d.stations) stations in
    let four = not_zero (length d.products) products in
    let five = not_zero (length d.devices) devices in
    rw (one, two, three, four, five) refl

-- the drafts in between
abbrev with_owners : SchemeValue → DraftValue
with_owners scheme = record empty_draft { owners = scheme.owners }

abbrev with_operators : SchemeValue → DraftValue
with_operators scheme = record (with_owners scheme) { operators = scheme.operators }

abbrev with_stations : SchemeValue → DraftValue
with_stations scheme = record (with_operators scheme) { stations = scheme.stations }

abbrev with_products : SchemeValue → DraftValue
with_products scheme = record (with_stations scheme) { products = scheme.products }

abbrev with_devices : SchemeValue → DraftValue
with_devices scheme = record (with_products scheme) { devices = scheme.devices }

abbrev with_settings : SchemeValue → DraftValue
with_settings scheme = record (with_devices scheme) { inbox_capacity = scheme.inbox_capacity; start = Some scheme.start; zone = Some scheme.zone }

-- the lines in front of the seal
abbrev entry_lines : SchemeValue → List SchemeLine
entry_lines scheme =
    map owner_line scheme.owners
    ++ map (λ operator. line.Operator operator) scheme.operators
    ++ map station_line scheme.stations
    ++ flat_map product_lines scheme.products
    ++ map device_line scheme.devices

abbrev setting_lines : SchemeValue → List ℕ → List SchemeLine
setting_lines scheme zone = line.Inbox scheme.inbox_capacity ∷ line.Zone zone ∷ line.Start scheme.start ∷ []

takes_entries : (scheme : SchemeValue) → IsScheme scheme → TakesAll empty_draft (entry_lines scheme) (with_devices scheme)
takes_entries scheme is =
    let owners : TakesAll empty_draft (map owner_line scheme.owners) (with_owners scheme) =
    takes_each owner_line (λ owners. record empty_draft { owners = owners }) scheme.owners (adds_owners empty_draft scheme.owners is.owners) in
    let operators : TakesAll (with_owners scheme) (map (λ operator. line.Operator operator) scheme.operators) (with_operators scheme) =
    takes_each (λ operator. line.Operator operator) (λ operators. record (with_owners scheme) { operators = operators }) scheme.operators (adds_operators (with_owners scheme) scheme.operators is.operators) in
    let stations : TakesAll (with_operators scheme) (map station_line scheme.stations) (with_stations scheme) =
    takes_each station_line (λ stations. record (with_operators scheme) { stations = stations }) scheme.stations (adds_stations (with_operators scheme) scheme.stations is.stations) in
    let products : TakesAll (with_stations scheme) (flat_map product_lines scheme.products) (with_products scheme) =
    takes_from product_lines (λ products. record (with_stations scheme) { products = products }) scheme.products (adds_products (with_stations scheme) scheme.products is.products) [] scheme.products refl in
    let devices : TakesAll (with_products scheme) (map device_line scheme.devices) (with_devices scheme) =
    takes_each device_line (λ devices. record (with_products scheme) { devices = devices }) scheme.devices (adds_devices (with_products scheme) scheme.devices is.devices) in
    then_all empty_draft (with_products scheme) (with_devices scheme) _ (map device_line scheme.devices)
    (then_all empty_draft (with_stations scheme) (with_products scheme) _ (flat_map product_lines scheme.products)
    (then_all empty_draft (with_operators scheme) (with_stations scheme) _ (map station_line scheme.stations)
    (then_all empty_draft (with_owners scheme) (with_operators scheme) (map owner_line scheme.owners) (map (λ operator. line.Operator operator) scheme.operators) owners operators)
    stations) products) devices

takes_settings : (scheme : SchemeValue) (zone : List ℕ) → IsScheme scheme → HasRule scheme.zone zone → TakesAll (with_devices scheme) (setting_lines scheme zone) (with_settings scheme)
takes_settings scheme zone is rule = (
  record (with_devices scheme) { inbox_capacity = scheme.inbox_capacity },
  (is.inbox_capacity, refl),
  (
    record (with_devices scheme) { inbox_capacity = scheme.inbox_capacity; zone = Some scheme.zone },
    (scheme.zone, rule, refl),
    (with_settings scheme, (is.start, refl), refl),
  ),
)

sealed : (scheme : SchemeValue) → IsScheme scheme → seal_refusal (with_settings scheme) ≡ None
sealed scheme is =
    let all = some_of_each (with_settings scheme) is.has_owner is.has_operator is.has_station is.has_product is.has_device in
    rw all refl

pub setup_makes : (scheme : SchemeValue) (zone : List ℕ) → IsScheme scheme → HasRule scheme.zone zone → Make (setup_lines_of scheme zone) scheme
setup_makes scheme zone is rule = record {
  front = entry_lines scheme ++ setting_lines scheme zone;
  draft = with_settings scheme;
  split = sym (append_assoc (entry_lines scheme) (setting_lines scheme zone) (line.Seal ∷ []));
  taken = then_all empty_draft (with_devices scheme) (with_settings scheme) (entry_lines scheme) (setting_lines scheme zone) (takes_entries scheme is) (takes_settings scheme zone is rule);
  allowed = sealed scheme is;
  sealed = record {
    owners = refl;
    operators = refl;
    stations = refl;
    products = refl;
    devices = refl;
    inbox_capacity = refl;
    start = refl;
    zone = refl;
  };
}
