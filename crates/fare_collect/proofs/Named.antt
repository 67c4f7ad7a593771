-- Items and the stations of their devices.
use Rattle.std.proofs.Common.{◌≡◌, ℕ, ◌+◌, ◌==◌, Bool, true, false, if◌then◌else◌, List, [], ◌∷◌, ◌++◌, map, Some, None, is_some, refl, sym, ap, ◌∙◌, subst, arith}
use Rattle.std.specs.Prelude.{Option, option_map, Result, Ok, Err}
use Rattle.std.specs.List.{AllByRecursion}
use Rattle.std.proofs.lemmas.List.{map-append}
use Rattle.std.proofs.lemmas.Bool.Decides.{nat_tests}
use Rattle.fare_frame.specs.declared.frame.Frame.{Frame}
use Rattle.fare_frame.specs.declared.frame.Frame.TheVariants.{Tapped, Stated, Acked, DayAcked, Greeted}
use Rattle.fare_scheme.specs.Values.{SchemeValue}
use Rattle.fare_scheme.specs.Words.{station_of, position_of_owner}
use Rattle.fare_collector.specs.Collecting.{is_id, is_owned, collect_judged, statement_judged, changed}
use Rattle.fare_collector.specs.declared.fault.CollectRefusal.{CollectRefusal}
use Rattle.fare_collector.specs.declared.fault.StatementRefusal.{StatementRefusal}
use Rattle.fare_history.specs.AcceptedLinks.{tap_judged, stating_judged, moved_if, next_links, next_links_all}
use Rattle.fare_history.specs.AcceptedLinks as links
use Rattle.fare_history.specs.Gathering as history
use Rattle.fare_inbox_queue.specs.Inbox.{station_in, of_station}
use Rattle.fare_inbox_queue.specs.declared.arrived.Arrived.{Arrived}
use Rattle.fare_inbox_queue.specs.declared.arrived.Arrived.TheVariants as arrived
use Rattle.fare_writer.specs.Entries.{item_of, device_of}
use Rattle.fare_collect.specs.Arriving.{arrivals}
use Rattle.fare_writer.specs.Arriving.{arrived_if, arrived_of}

-- KNOWN DEVICES
-- a collector knows these devices
abbrev pub Knows : (ℕ → Option ℕ) → (ℕ → Bool) → Type 0
Knows next known = (device : ℕ) → is_some (next device) ≡ known device

known_moved : (next : ℕ → Option ℕ) (known : ℕ → Bool) (key : ℕ) → Knows next known → Knows (changed (λ n. n + 1) next key) known
known_moved next known key knows device = by (device == key) (next device) (knows device)
  where
    by : (b : Bool) (o : Option ℕ) → is_some o ≡ known device → is_some (if b then option_map (λ n. n + 1) o else o) ≡ known device
    by true None e = e
    by true (Some n) e = e
    by false o e = e

known_if : {E : Type 0} (j : Result Unit E) (next : ℕ → Option ℕ) (known : ℕ → Bool) (key : ℕ) → Knows next known → Knows (moved_if j next key) known
known_if (Ok x) next known key knows = known_moved next known key knows
known_if (Err x) next known key knows = knows

known_next : (sc : SchemeValue) (next : ℕ → Option ℕ) (known : ℕ → Bool) (f : Frame) → Knows next known → Knows (next_links sc next f) known
known_next sc next known (Tapped r) knows = known_if (tap_judged sc next r) next known r.device knows
known_next sc next known (Stated s) knows = knows
known_next sc next known (Acked a) knows = knows
known_next sc next known (DayAcked a) knows = knows
known_next sc next known (Greeted h) knows = knows

pub known_all : (sc : SchemeValue) (next : ℕ → Option ℕ) (known : ℕ → Bool) (fs : List Frame) → Knows next known → Knows (next_links_all sc next fs) known
known_all sc next known [] knows = knows
known_all sc next known (f ∷ fs) knows = known_all sc (next_links sc next f) known fs (known_next sc next known f knows)

-- NAMED ITEMS
-- the item comes with the name of its device's station
abbrev pub IsNamed : SchemeValue → Arrived → Type 0
IsNamed sc a = station_of sc (device_of a) ≡ Some (station_in a)

abbrev pub AreNamed : SchemeValue → List Arrived → Type 0
AreNamed sc all = AllByRecursion (IsNamed sc) all

pub named_append : (sc : SchemeValue) (xs ys : List Arrived) → AreNamed sc xs → AreNamed sc ys → AreNamed sc (xs ++ ys)
named_append sc [] ys first second = second
named_append sc (a ∷ xs) ys first second = (first.0, named_append sc xs ys first.1 second)

id_named : (o : Option ℕ) (station : ℕ) → is_id o station ≡ true → o ≡ Some station
id_named None station e = absurd (cc)
id_named (Some n) station e = let same : n ≡ station = grind (arith, nat_tests) in ap Some same

named_if : {E : Type 0} (sc : SchemeValue) (j : Result Unit E) (a : Arrived) → IsNamed sc a → AreNamed sc (arrived_if j a)
named_if sc (Ok x) a named = (named, tt)
named_if sc (Err x) a named = tt

named_of : (sc : SchemeValue) (station : ℕ) (next : ℕ → Option ℕ) (f : Frame) → Knows next (λ device. is_id (station_of sc device) station) → AreNamed sc (arrived_of sc station next f)
named_of sc station next (Tapped r) knows = by (next r.device) refl
  where
    by : (o : Option ℕ) → next r.device ≡ o → AreNamed sc (arrived_if (tap_judged sc next r) (arrived.Tap station r))
    by None at = subst (λ (j : Result Unit CollectRefusal). AreNamed sc (arrived_if j (arrived.Tap station r))) (sym (ap (λ (o : Option ℕ). collect_judged o (is_owned sc r) r.link) at)) tt
    by (Some n) at = named_if sc (tap_judged sc next r) (arrived.Tap station r) (id_named (station_of sc r.device) station (sym (knows r.device) ∙ ap is_some at))
named_of sc station next (Stated s) knows = by (next s.device) refl
  where
    by : (o : Option ℕ) → next s.device ≡ o → AreNamed sc (arrived_if (stating_judged sc next s) (arrived.Stated station s))
    by None at = subst (λ (j : Result Unit StatementRefusal). AreNamed sc (arrived_if j (arrived.Stated station s))) (sym (ap (λ (o : Option ℕ). statement_judged o (position_of_owner sc s.owner)) at)) tt
    by (Some n) at = named_if sc (stating_judged sc next s) (arrived.Stated station s) (id_named (station_of sc s.device) station (sym (knows s.device) ∙ ap is_some at))
named_of sc station next (Acked a) knows = tt
named_of sc station next (DayAcked a) knows = tt
named_of sc station next (Greeted h) knows = tt

-- a station accepts items of its own devices
pub named_arrivals : (sc : SchemeValue) (station : ℕ) (next : ℕ → Option ℕ) (fs : List Frame) → Knows next (λ device. is_id (station_of sc device) station) → AreNamed sc (arrivals sc station next fs)
named_arrivals sc station next [] knows = tt
named_arrivals sc station next (f ∷ fs) knows =
    named_append sc (arrived_of sc station next f) (arrivals sc station (next_links sc next f) fs) (named_of sc station next f knows)
    (named_arrivals sc station (next_links sc next f) fs (known_next sc next (λ device. is_id (station_of sc device) station) f knows))

abbrev in_front : ℕ → Arrived → List Arrived → Bool → List Arrived
in_front station a rest mine = if mine then a ∷ rest else rest

-- what holds of each station's items holds of all
pub by_parts : (sc : SchemeValue) (xs : List Arrived) → ((station : ℕ) → AreNamed sc (of_station station xs)) → AreNamed sc xs
by_parts sc [] each = tt
by_parts sc (a ∷ xs) each = (own, by_parts sc xs (λ s. tail s (station_in a == s) refl))
  where
    own : IsNamed sc a
    own =
        let same : (station_in a == station_in a) ≡ true = grind (arith, nat_tests) in
        (subst (λ (b : Bool). AreNamed sc (in_front (station_in a) a (of_station (station_in a) xs) b)) same (each (station_in a))).0

    tail : (s : ℕ) (b : Bool) → (station_in a == s) ≡ b → AreNamed sc (of_station s xs)
    tail s true e = (subst (λ (b : Bool). AreNamed sc (in_front s a (of_station s xs) b)) e (each s)).1
    tail s false e = subst (λ (b : Bool). AreNamed sc (in_front s a (of_station s xs) b)) e (each s)

-- so the items that name a station are those of its devices
pub named_part : (sc : SchemeValue) (station : ℕ) (xs : List Arrived) → AreNamed sc xs → history.of_station sc station (map item_of xs) ≡ map item_of (of_station station xs)
named_part sc station [] each = refl
named_part sc station (a ∷ xs) each =
    ap (λ o. if is_id o station then item_of a ∷ history.of_station sc station (map item_of xs) else history.of_station sc station (map item_of xs)) each.0
    ∙ by (station_in a == station) (named_part sc station xs each.1)
  where
    by : (b : Bool) → history.of_station sc station (map item_of xs) ≡ map item_of (of_station station xs)
        → (if b then item_of a ∷ history.of_station sc station (map item_of xs) else history.of_station sc station (map item_of xs)) ≡ map item_of (if b then a ∷ of_station station xs else of_station station xs)
    by true rest = ap (λ l. item_of a ∷ l) rest
    by false rest = rest

-- WITHOUT NAMES
items_if : {E : Type 0} (j : Result Unit E) (a : Arrived) → map item_of (arrived_if j a) ≡ links.arrived_if j (item_of a)
items_if (Ok x) a = refl
items_if (Err x) a = refl

items_of_frame : (sc : SchemeValue) (station : ℕ) (next : ℕ → Option ℕ) (f : Frame) → map item_of (arrived_of sc station next f) ≡ links.arrived_of sc next f
items_of_frame sc station next (Tapped r) = items_if (tap_judged sc next r) (arrived.Tap station r)
items_of_frame sc station next (Stated s) = items_if (stating_judged sc next s) (arrived.Stated station s)
items_of_frame sc station next (Acked a) = refl
items_of_frame sc station next (DayAcked a) = refl
items_of_frame sc station next (Greeted h) = refl

pub items_arrive : (sc : SchemeValue) (station : ℕ) (next : ℕ → Option ℕ) (fs : List Frame) → map item_of (arrivals sc station next fs) ≡ links.arrivals sc next fs
items_arrive sc station next [] = refl
items_arrive sc station next (f ∷ fs) = map-append item_of (arrived_of sc station next f) (arrivals sc station (next_links sc next f) fs) ∙ λ i. items_of_frame sc station next f i ++ items_arrive sc station (next_links sc next f) fs i
