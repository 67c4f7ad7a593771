-- No contradiction is found exactly where the later scheme adds to the kept one.
use Rattle.std.proofs.Common.{◌≡◌, Bool, ◌&&◌, ◌||◌, true, false, eqb-true, List, [], ◌∷◌, nat_eq, Option, Some, None, refl, sym, ◌∙◌, ap, if◌then◌else◌}
use Rattle.std.specs.Prelude.{◌↔◌, not, find, option_map}
use Rattle.std.specs.Option.{option_or}
use Rattle.std.specs.List.{AllByRecursion}
use Rattle.std.specs.Map.{keys_of}
use Rattle.std.proofs.lemmas.Bool.Decides.{Decides-eqb}
use Rattle.fare_scheme.specs.Values.{SchemeValue}
use Rattle.fare_growth.specs.declared.entry.Entry.{Entry}
use Rattle.fare_growth.specs.declared.entry.Contradiction.{Contradiction}
use Rattle.fare_growth.specs.declared.entry.Contradiction.TheVariants.{Start, Zone, Gone, Changed}
use Rattle.fare_growth.specs.declared.registered.Registered.{Registered}
use Rattle.fare_growth.specs.Zones.{same_zone}
use Rattle.fare_growth.specs.Entries.{entries, names, same_entry, same_registered}
use Rattle.fare_growth.specs.Growth.{has_name, has_entry, gone, changed, first_contradiction_of, AddsTo}
use Rattle.fare_growth.proofs.Lists.{none_fails, find_none, all-mapped, all-weaker}
use Rattle.fare_growth.proofs.EachKind.{add_from_has, has_from_add}

-- the four steps of the search
abbrev pub chosen : Bool → Bool → Option Entry → Option Entry → Option Contradiction
chosen start zone lost other =
    if not start then Some Start else if not zone then Some Zone else option_or (option_map Gone lost) (option_map Changed other)

none_chosen : (start zone : Bool) (lost other : Option Entry) → chosen start zone lost other ≡ None → (start ≡ true) × (zone ≡ true) × (other ≡ None)
none_chosen true true None None h = (refl, refl, refl)
none_chosen true true None (Some e) h = absurd (let g = h in cc)
none_chosen true true (Some e) other h = absurd (let g = h in cc)
none_chosen true false lost other h = absurd (let g = h in cc)
none_chosen false zone lost other h = absurd (let g = h in cc)

unmapped : {X Y : Type 0} (f : X → Y) (o : Option X) → option_map f o ≡ None → o ≡ None
unmapped f None h = refl
unmapped f (Some x) h = absurd (let g = h in cc)

-- an entry that is there as it was is there by name
name_from_entry : (es : List (Entry × Registered)) (e : Entry × Registered) → has_entry es e ≡ true → has_name (keys_of es) e.0 ≡ true
name_from_entry [] e h = absurd (let g = h in cc)
name_from_entry (x ∷ xs) e h = by (same_entry e.0 x.0) (same_registered e.1 x.1) h (name_from_entry xs e)
  where
    by : (a b : Bool) → ((a && b) || has_entry xs e) ≡ true → (has_entry xs e ≡ true → has_name (keys_of xs) e.0 ≡ true) → (a || has_name (keys_of xs) e.0) ≡ true
    by true b h go = refl
    by false b h go = go h

pub adds_from_none : (kept later : SchemeValue) → first_contradiction_of kept later ≡ None → AddsTo kept later
adds_from_none kept later none =
    let steps = none_chosen (nat_eq kept.start later.start) (same_zone kept.zone later.zone) (gone kept later) (changed kept later) none in
    let unchanged = unmapped (λ (e : Entry × Registered). e.0) (find (λ e. not (has_entry (entries later) e)) (entries kept)) steps.2 in
    let adds = add_from_has kept later (none_fails (has_entry (entries later)) (entries kept) unchanged) in
    record {
      start = eqb-true kept.start later.start steps.0;
      zone = steps.1;
      owners = adds.owners;
      operators = adds.operators;
      stations = adds.stations;
      products = adds.products;
      devices = adds.devices;
    }

pub none_from_adds : (kept later : SchemeValue) → AddsTo kept later → first_contradiction_of kept later ≡ None
none_from_adds kept later adds =
    let there = has_from_add kept later (record { owners = adds.owners; operators = adds.operators; stations = adds.stations; products = adds.products; devices = adds.devices }) in
    let named : AllByRecursion (λ name. has_name (names later) name ≡ true) (names kept) =
    all-mapped (λ (e : Entry × Registered). e.0) (λ name. has_name (names later) name ≡ true) (entries kept)
    (all-weaker (λ e. has_entry (entries later) e ≡ true) (λ (e : Entry × Registered). has_name (names later) e.0 ≡ true) (name_from_entry (entries later)) (entries kept) there) in
    let start : nat_eq kept.start later.start ≡ true = (Decides-eqb kept.start later.start).1 adds.start in
    let none_gone : gone kept later ≡ None = find_none (has_name (names later)) (names kept) named in
    let none_changed : changed kept later ≡ None = ap (option_map (λ (e : Entry × Registered). e.0)) (find_none (has_entry (entries later)) (entries kept) there) in
    ap (λ b. chosen b (same_zone kept.zone later.zone) (gone kept later) (changed kept later)) start
    ∙ ap (λ b. chosen true b (gone kept later) (changed kept later)) adds.zone
    ∙ ap (λ g. chosen true true g (changed kept later)) none_gone
    ∙ ap (chosen true true None) none_changed

pub none_iff_adds : (kept later : SchemeValue) (result : Option Contradiction) → result ≡ first_contradiction_of kept later → (result ≡ None) ↔ AddsTo kept later
none_iff_adds kept later result is = (λ none. adds_from_none kept later (sym is ∙ none), λ adds. is ∙ none_from_adds kept later adds)
