-- What the threads did, in the words of sessions.
use Rattle.std.proofs.Common.{◌≡◌, ℕ, ◌+◌, ◌==◌, subst, Bool, true, false, if◌then◌else◌, List, [], ◌∷◌, ◌++◌, length, map, Some, None, is_some, refl, sym, ap, ◌∙◌, append_assoc, arith}
use Rattle.std.specs.Prelude.{Option, option_map}
use Rattle.std.specs.List.{AllByRecursion}
use Rattle.std.proofs.lemmas.List.{map-append, length-map}
use Rattle.std.proofs.lemmas.List.Elements.{filter-append}
use Rattle.std.proofs.lemmas.Bool.Decides.{nat_tests}
use Rattle.fare_record.specs.declared.ack_item.AckItem.{AckItem}
use Rattle.fare_record.specs.declared.ack_item.AckItem.TheVariants.{Upto, Day}
use Rattle.fare_scheme.specs.Values.{SchemeValue}
use Rattle.fare_scheme.specs.Words.{station_of, position_of_station}
use Rattle.fare_scheme.proofs.Known.{id_at_place}
use Rattle.fare_collector.specs.Collecting.{is_id}
use Rattle.fare_store.specs.OutboxWords.{OutboxValue}
use Rattle.fare_history.specs.Serving as serving
use Rattle.fare_history.specs.Gathering as history
use Rattle.fare_inbox_queue.specs.Inbox.{station_in}
use Rattle.fare_inbox_queue.specs.declared.arrived.Arrived.{Arrived}
use Rattle.fare_writer.specs.Entries.{item_of, device_of, is_new, storing, IsAnswerTo, Entry, items_of, storing_all, AreEntries, new_count, in_hand, told_of, told_to}
use Rattle.fare_collect.specs.Collected.{new_items}
use Rattle.fare_writer.proofs.Wrote.{first_more}
use Rattle.fare_collect.proofs.Named.{IsNamed, AreNamed}

-- ENTRIES
abbrev pub entry_of : Entry → history.Entry
entry_of e = record { item = item_of e.item; answers = e.answers }

pub items_are : (es : List Entry) → history.items_of (map entry_of es) ≡ map item_of (items_of es)
items_are [] = refl
items_are (e ∷ es) = ap (λ l. item_of e.item ∷ l) (items_are es)

pub storing_is : (x : OutboxValue) (es : List Entry) → history.storing_all x (map entry_of es) ≡ storing_all x es
storing_is x [] = refl
storing_is x (e ∷ es) = storing_is (storing x e.item) es

pub new_is : (x : OutboxValue) (es : List Entry) → new_items x (map entry_of es) ≡ new_count x es
new_is x [] = refl
new_is x (e ∷ es) = ap (λ n. (if is_new x e.item then 1 else 0) + n) (new_is (storing x e.item) es)

answer_from : (sc : SchemeValue) (x : OutboxValue) (device station : ℕ) (a : AckItem) → station_of sc device ≡ Some station → IsAnswerTo sc x device a → history.IsAnswerFrom sc x a
answer_from sc x device station (Upto a) of answer = (ap is_some (ap (station_of sc) answer.to ∙ of), answer.from)
answer_from sc x device station (Day a) of answer = (ap is_some (ap (station_of sc) answer.to ∙ of), answer.from)

answers_from : (sc : SchemeValue) (x : OutboxValue) (device station : ℕ) (answers : List AckItem) → station_of sc device ≡ Some station → AllByRecursion (IsAnswerTo sc x device) answers → AllByRecursion (history.IsAnswerFrom sc x) answers
answers_from sc x device station [] of all = tt
answers_from sc x device station (a ∷ answers) of all = (answer_from sc x device station a of all.0, answers_from sc x device station answers of all.1)

pub stored_is : (sc : SchemeValue) (x : OutboxValue) (es : List Entry) → AreNamed sc (items_of es) → AreEntries sc x es → history.AreStored sc x (map entry_of es)
stored_is sc x [] named are = tt
stored_is sc x (e ∷ es) named are = (are.0.handled, answers_from sc (storing x e.item) (device_of e.item) (station_in e.item) e.answers named.0 are.0.answers, stored_is sc (storing x e.item) es named.1 are.1)

-- WHAT A STATION WAS TOLD
device_is : (sc : SchemeValue) (x : OutboxValue) (device : ℕ) (a : AckItem) → IsAnswerTo sc x device a → history.device_answered a ≡ device
device_is sc x device (Upto a) answer = answer.to
device_is sc x device (Day a) answer = answer.to

all_or_none : List AckItem → Bool → List AckItem
all_or_none answers b = if b then answers else []

told_answers : (sc : SchemeValue) (x : OutboxValue) (device id station : ℕ) (answers : List AckItem) (b : Bool) → (id == station) ≡ b → station_of sc device ≡ Some id → AllByRecursion (IsAnswerTo sc x device) answers → history.answers_to sc station answers ≡ (if b then answers else [])
told_answers sc x device id station [] true e of all = refl
told_answers sc x device id station [] false e of all = refl
told_answers sc x device id station (a ∷ answers) b e of all =
    let test : is_id (station_of sc (history.device_answered a)) station ≡ b = ap (λ (o : Option ℕ). is_id o station) (ap (station_of sc) (device_is sc x device a all.0) ∙ of) ∙ e in
    ap (λ (t : Bool). if t then a ∷ history.answers_to sc station answers else history.answers_to sc station answers) test ∙ by b (told_answers sc x device id station answers b e of all.1)
  where
    by : (b : Bool) → history.answers_to sc station answers ≡ (if b then answers else []) → (if b then a ∷ history.answers_to sc station answers else history.answers_to sc station answers) ≡ (if b then a ∷ answers else [])
    by true rest = ap (λ l. a ∷ l) rest
    by false rest = rest

place_is : (sc : SchemeValue) (id station place : ℕ) → position_of_station sc station ≡ Some place → is_id (position_of_station sc id) place ≡ (id == station)
place_is sc id station place at = by (id == station) refl
  where
    named : (o : Option ℕ) → position_of_station sc id ≡ o → (id == station) ≡ false → is_id o place ≡ false
    named None e differ = refl
    named (Some p) e differ = apart (p == place) refl
      where
        apart : (b : Bool) → (p == place) ≡ b → (p == place) ≡ false
        apart false q = q
        apart true q =
            let same : p ≡ place = grind (arith, nat_tests) in
            let both : ◌≡◌ {A = Option ℕ} (Some id) (Some station) = sym (id_at_place sc.stations id place (e ∙ ap Some same)) ∙ id_at_place sc.stations station place at in
            let one : id ≡ station = cc in
            absurd (grind (arith, nat_tests))

    by : (b : Bool) → (id == station) ≡ b → is_id (position_of_station sc id) place ≡ b
    by true e =
        let same : id ≡ station = grind (arith, nat_tests) in
        let own : (place == place) ≡ true = grind (arith, nat_tests) in
        ap (λ (o : Option ℕ). is_id o place) (ap (position_of_station sc) same ∙ at) ∙ own
    by false e = named (position_of_station sc id) refl e

told_entry : (sc : SchemeValue) (x : OutboxValue) (e : Entry) (station place : ℕ) → position_of_station sc station ≡ Some place → IsNamed sc e.item → AllByRecursion (IsAnswerTo sc x (device_of e.item)) e.answers → told_of sc place e ≡ history.answers_to sc station e.answers
told_entry sc x e station place at named all =
    ap (λ (b : Bool). if b then e.answers else []) (place_is sc (station_in e.item) station place at)
    ∙ sym (told_answers sc x (device_of e.item) (station_in e.item) station e.answers (station_in e.item == station) refl named all)

pub told_is : (sc : SchemeValue) (x : OutboxValue) (es : List Entry) (station place : ℕ) → position_of_station sc station ≡ Some place → AreNamed sc (items_of es) → AreEntries sc x es → told_to sc place es ≡ history.answers_to sc station (history.answers_of (map entry_of es))
told_is sc x [] station place at named are = refl
told_is sc x (e ∷ es) station place at named are =
    (λ i. told_entry sc (storing x e.item) e station place at named.0 are.0.answers i ++ told_is sc (storing x e.item) es station place at named.1 are.1 i)
    ∙ sym (filter-append _ e.answers (history.answers_of (map entry_of es)))

-- THE HAND
pub hand_is : (hand : Option Arrived) → serving.in_hand (option_map item_of hand) ≡ map item_of (in_hand hand)
hand_is None = refl
hand_is (Some a) = refl

-- a session's value
abbrev pub gathering_of : List Entry → Option Arrived → List Arrived → List AckItem → history.Gathering
gathering_of es hand inbox last = record { entries = map entry_of es; hand = option_map item_of hand; inbox = map item_of inbox; last = last }

-- those behind the one in the hand stand before those in the inbox
pub accepted_is : (es : List Entry) (hand : Option Arrived) (behind all inbox : List Arrived) (last : List AckItem) → all ≡ items_of es ++ (in_hand hand ++ behind) → history.accepted_by (gathering_of es hand (behind ++ inbox) last) ≡ map item_of (all ++ inbox)
accepted_is es hand behind all inbox last is =
    (λ i. items_are es i ++ (hand_is hand i ++ map item_of (behind ++ inbox)))
    ∙ ((λ i. map item_of (items_of es) ++ sym (map-append item_of (in_hand hand) (behind ++ inbox)) i)
    ∙ (sym (map-append item_of (items_of es) (in_hand hand ++ (behind ++ inbox)))
    ∙ ap (map item_of) (ap (λ l. items_of es ++ l) (sym (append_assoc (in_hand hand) behind inbox)) ∙ (sym (append_assoc (items_of es) (in_hand hand ++ behind) inbox) ∙ ap (λ l. l ++ inbox) (sym is)))))

-- what was tried is part of what is left
pub tried_first : (x y : OutboxValue) (hand : Option Arrived) (behind inbox : List Arrived) → (hand ≡ None → behind ≡ []) → history.HasFirst x (map item_of (in_hand hand ++ behind)) y → history.HasFirst x (serving.tried_in (option_map item_of hand) (map item_of (behind ++ inbox))) y
tried_first x y None behind inbox alone first = subst (λ l. history.HasFirst x (map item_of l) y) (alone refl) first
tried_first x y (Some a) behind inbox alone first = subst (λ l. history.HasFirst x (item_of a ∷ l) y) (sym (map-append item_of behind inbox)) (first_more x (map item_of (a ∷ behind)) (map item_of inbox) y first)

pub left_length : (hand : Option Arrived) (inbox : List Arrived) → length (serving.in_hand (option_map item_of hand) ++ map item_of inbox) ≡ length (in_hand hand ++ inbox)
left_length hand inbox = ap length ((λ i. hand_is hand i ++ map item_of inbox) ∙ sym (map-append item_of (in_hand hand) inbox)) ∙ length-map (in_hand hand ++ inbox) item_of
