-- Links that count up by device in each station's list count up in a list of all stations, in whatever order it has the stations.
use Rattle.std.proofs.Common.{◌≡◌, ℕ, List, [], ◌∷◌, Some, None, Bool, true, false, refl, sym, ap, ◌∙◌, subst, map}
use Rattle.std.specs.Prelude.{◌==◌, if◌then◌else◌, Option, is_some, filter}
use Rattle.std.specs.List.{AllByRecursion}
use Rattle.fare_scheme.specs.Values.{SchemeValue}
use Rattle.fare_scheme.specs.Words.{station_of}
use Rattle.fare_collector.specs.Collecting.{is_id}
use Rattle.fare_record.specs.declared.item.Item.{Item}
use Rattle.fare_record.specs.declared.item.Item.TheVariants as item
use Rattle.fare_history.specs.Serving.{device_of}
use Rattle.fare_history.specs.Gathering.{with_link, links_of, CountsFrom, of_station}
use Rattle.fare_store.proofs.Entries.{is_one}
use Rattle.fare_history.proofs.Entries.{is_own_id}

-- a device's links are those in its station's list
links_of_station : (sc : SchemeValue) (d st : ℕ) → station_of sc d ≡ Some st → (is : List Item) → links_of d (of_station sc st is) ≡ links_of d is
links_of_station sc d st of [] = refl
links_of_station sc d st of (i ∷ is) = by (links_of_station sc d st of is)
  where
    -- the item is in its station's list, or its device is another
    put_in : (b : Bool) (xs ys : List Item) (x : Item) (f : List ℕ → List ℕ) → links_of d (x ∷ xs) ≡ f (links_of d xs) → links_of d xs ≡ links_of d ys → (b ≡ false → f (links_of d ys) ≡ links_of d ys) → links_of d (if b then x ∷ xs else xs) ≡ f (links_of d ys)
    put_in true xs ys x f is same other = is ∙ ap f same
    put_in false xs ys x f is same other = same ∙ sym (other refl)

    by : links_of d (of_station sc st is) ≡ links_of d is → links_of d (if is_id (station_of sc (device_of i)) st then i ∷ of_station sc st is else of_station sc st is) ≡ with_link d i (links_of d is)
    by rest = put_in (is_id (station_of sc (device_of i)) st) (of_station sc st is) is i (with_link d i) refl rest (other i)
      where
        apart : (k : ℕ) (c : Bool) (e : ℕ) → (e == d) ≡ c → is_id (station_of sc e) st ≡ false → (if c then k ∷ links_of d is else links_of d is) ≡ links_of d is
        apart k false e is no_id = refl
        apart k true e is no_id =
            let both : true ≡ false = sym (ap (λ o. is_id o st) (ap (station_of sc) (is_one e d is) ∙ of) ∙ is_own_id st) ∙ no_id in
            absurd (cc)

        other : (z : Item) → is_id (station_of sc (device_of z)) st ≡ false → with_link d z (links_of d is) ≡ links_of d is
        other (item.Tap r) no_id = apart r.link (r.device == d) r.device refl no_id
        other (item.Stated v) no_id = refl

-- a device of no station has no links where each item's device has a station
no_links : (sc : SchemeValue) (d : ℕ) → station_of sc d ≡ None → (is : List Item) → AllByRecursion (λ i. is_some (station_of sc (device_of i)) ≡ true) is → links_of d is ≡ []
no_links sc d none [] each = refl
no_links sc d none (i ∷ is) each = by i each.0 (no_links sc d none is each.1)
  where
    apart : (k : ℕ) (c : Bool) (e : ℕ) → (e == d) ≡ c → is_some (station_of sc e) ≡ true → links_of d is ≡ [] → (if c then k ∷ links_of d is else links_of d is) ≡ []
    apart k false e is some rest = rest
    apart k true e is some rest =
        let both : false ≡ true = sym (ap is_some (ap (station_of sc) (is_one e d is) ∙ none)) ∙ some in
        absurd (cc)

    by : (i : Item) → is_some (station_of sc (device_of i)) ≡ true → links_of d is ≡ [] → with_link d i (links_of d is) ≡ []
    by (item.Tap r) some rest = apart r.link (r.device == d) r.device refl some rest
    by (item.Stated v) some rest = rest

pub stations_count : (sc : SchemeValue) (first : ℕ → ℕ) (is : List Item) → AllByRecursion (λ i. is_some (station_of sc (device_of i)) ≡ true) is → ((d st : ℕ) → station_of sc d ≡ Some st → CountsFrom (first d) (links_of d (of_station sc st is))) → (d : ℕ) → CountsFrom (first d) (links_of d is)
stations_count sc first is each counted d = by (station_of sc d) refl
  where
    by : (o : Option ℕ) → station_of sc d ≡ o → CountsFrom (first d) (links_of d is)
    by (Some st) of = subst (CountsFrom (first d)) (links_of_station sc d st of is) (counted d st of)
    by None none = subst (CountsFrom (first d)) (sym (no_links sc d none is each)) tt

-- NAMED ITEMS
-- each names the station of its device
abbrev pub AreNamed : SchemeValue → List (ℕ × Item) → Type 0
AreNamed sc ps = AllByRecursion (λ (p : ℕ × Item). station_of sc (device_of p.1) ≡ Some p.0) ps

named_part : (sc : SchemeValue) (st : ℕ) (ps : List (ℕ × Item)) → AreNamed sc ps → of_station sc st (map (λ (p : ℕ × Item). p.1) ps) ≡ map (λ (p : ℕ × Item). p.1) (filter (λ (p : ℕ × Item). p.0 == st) ps)
named_part sc st [] each = refl
named_part sc st (p ∷ ps) each =
    ap (λ o. if is_id o st then p.1 ∷ of_station sc st (map (λ (q : ℕ × Item). q.1) ps) else of_station sc st (map (λ (q : ℕ × Item). q.1) ps)) each.0
    ∙ by (p.0 == st) (named_part sc st ps each.1)
  where
    by : (b : Bool) → of_station sc st (map (λ (q : ℕ × Item). q.1) ps) ≡ map (λ (q : ℕ × Item). q.1) (filter (λ (q : ℕ × Item). q.0 == st) ps)
        → (if b then p.1 ∷ of_station sc st (map (λ (q : ℕ × Item). q.1) ps) else of_station sc st (map (λ (q : ℕ × Item). q.1) ps)) ≡ map (λ (q : ℕ × Item). q.1) (if b then p ∷ filter (λ (q : ℕ × Item). q.0 == st) ps else filter (λ (q : ℕ × Item). q.0 == st) ps)
    by true rest = ap (λ l. p.1 ∷ l) rest
    by false rest = rest

have_stations : (sc : SchemeValue) (ps : List (ℕ × Item)) → AreNamed sc ps → AllByRecursion (λ i. is_some (station_of sc (device_of i)) ≡ true) (map (λ (p : ℕ × Item). p.1) ps)
have_stations sc [] each = tt
have_stations sc (p ∷ ps) each = (ap is_some each.0, have_stations sc ps each.1)

-- links that count up in what each station named count up in all
pub named_count : (sc : SchemeValue) (first : ℕ → ℕ) (ps : List (ℕ × Item)) → AllByRecursion (λ (p : ℕ × Item). station_of sc (device_of p.1) ≡ Some p.0) ps
    → ((d st : ℕ) → station_of sc d ≡ Some st → CountsFrom (first d) (links_of d (map (λ (p : ℕ × Item). p.1) (filter (λ (p : ℕ × Item). p.0 == st) ps)))) → (d : ℕ) → CountsFrom (first d) (links_of d (map (λ (p : ℕ × Item). p.1) ps))
named_count sc first ps each counted =
    stations_count sc first (map (λ (p : ℕ × Item). p.1) ps) (have_stations sc ps each) (λ d st of. subst (λ l. CountsFrom (first d) (links_of d l)) (sym (named_part sc st ps each)) (counted d st of))
