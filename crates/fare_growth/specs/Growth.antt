-- What a later scheme contradicts of a kept one, and when it only adds to it.
use Rattle.std.specs.Prelude.{◌≡◌, ◌++◌, Bool, not, nat_eq, List, Option, Some, find, option_map, IsTrue, if◌then◌else◌}
use Rattle.std.specs.List.{list_any}
use Rattle.std.specs.Option.{option_or}
use Rattle.fare_scheme.specs.Values.{SchemeValue}
use Rattle.fare_growth.specs.declared.entry.Entry.{Entry}
use Rattle.fare_growth.specs.declared.entry.Contradiction.{Contradiction}
use Rattle.fare_growth.specs.declared.entry.Contradiction.TheVariants.{Start, Zone, Gone, Changed}
use Rattle.fare_growth.specs.declared.registered.Registered.{Registered}
use Rattle.fare_growth.specs.Zones.{same_zone}
use Rattle.fare_growth.specs.Entries.{owner_ids, device_stations, entries, names, same_entry, same}

-- an entry with this name is among those with these names
abbrev pub has_name : List Entry → Entry → Bool
has_name among name = list_any (same_entry name) among

-- this very entry, with all that may not change of it, is among these
abbrev pub has_entry : List (Entry × Registered) → Entry × Registered → Bool
has_entry among entry = list_any (same entry) among

-- the first entry of the kept scheme whose name the later one doesn't have
abbrev pub gone : SchemeValue → SchemeValue → Option Entry
gone kept later = find (λ name. not (has_name (names later) name)) (names kept)

-- the first entry of the kept scheme that the later one doesn't have as it is
abbrev pub changed : SchemeValue → SchemeValue → Option Entry
changed kept later = option_map (λ entry. entry.0) (find (λ entry. not (has_entry (entries later) entry)) (entries kept))

-- the first contradiction: of the start, of the zone, by an entry that is gone, by an entry that is another
abbrev pub first_contradiction_of : SchemeValue → SchemeValue → Option Contradiction
first_contradiction_of kept later =
    if not (nat_eq kept.start later.start) then Some Start
    else if not (same_zone kept.zone later.zone) then Some Zone
    else option_or (option_map Gone (gone kept later)) (option_map Changed (changed kept later))

-- the one list with something more, or nothing, at its end
abbrev pub AddsAtEnd : {X : Type 0} → List X → List X → Type 0
AddsAtEnd {X} kept later = (more : List X) × (later ≡ kept ++ more)

-- the later scheme is the kept one, with further entries at the ends of its lists. Capacities count nowhere
pub record AddsTo (kept later : SchemeValue) : Type 0 where
  pub start : kept.start ≡ later.start
  pub zone : IsTrue (same_zone kept.zone later.zone)
  pub owners : AddsAtEnd (owner_ids kept) (owner_ids later)
  pub operators : AddsAtEnd kept.operators later.operators
  pub stations : AddsAtEnd kept.stations later.stations
  pub products : AddsAtEnd kept.products later.products
  pub devices : AddsAtEnd (device_stations kept) (device_stations later)
