-- Items of a session, and its acknowledgements: what is said of each frame is said of each item, and what is said of each acknowledgement of each frame that was answered.
use Rattle.std.proofs.Common.{◌≡◌, ℕ, List, [], ◌∷◌, filter, Some, None, Bool, true, false, refl, sym, ap, ◌∙◌, subst, inl, inr}
use Rattle.std.specs.Prelude.{Option, is_some, Result, Ok, Err, if◌then◌else◌}
use Rattle.std.specs.List.{AllByRecursion}
use Rattle.fare_record.specs.Values.{RecordValue}
use Rattle.fare_record.specs.declared.ack_item.AckItem.{AckItem}
use Rattle.fare_record.specs.declared.ack_item.AckItem.TheVariants as ack
use Rattle.fare_record.specs.declared.item.Item.{Item}
use Rattle.fare_record.specs.declared.item.Item.TheVariants as item
use Rattle.fare_frame.specs.declared.frame.Frame.{Frame}
use Rattle.fare_frame.specs.declared.frame.Frame.TheVariants as frame
use Rattle.fare_scheme.specs.Values.{SchemeValue}
use Rattle.fare_scheme.specs.Words.{station_of}
use Rattle.fare_collector.specs.Collecting.{is_id}
use Rattle.fare_store.specs.OutboxWords.{OutboxValue}
use Rattle.fare_history.specs.AcceptedLinks.{arrived_if, arrived_of, next_links, arrivals, tap_judged, stating_judged}
use Rattle.fare_history.specs.Gathering.{of_station}
use Rattle.fare_history.specs.Plainly.{IsCovered}
use Rattle.fare_history.specs.Serving.{device_of}
use Rattle.fare_history.proofs.Entries.{all-append, is_own_id}
use Rattle.fare_collect.specs.Ending.{AreSomeOf}
use Rattle.fare_collect.specs.Stations.{frame_for}
use Rattle.fare_agreement.specs.Agreeing.{IsOf}
use Rattle.fare_sessions.specs.Promises.{IsFrameOf, IsFrameCovered}

-- ITEMS
-- the item is of a registered device
abbrev pub HasStation : SchemeValue → Item → Type 0
HasStation sc i = is_some (station_of sc (device_of i)) ≡ true

-- the item is of the lists, if its device is registered
abbrev pub IsOfIfKnown : SchemeValue → (ℕ → List RecordValue) → Item → Type 0
IsOfIfKnown sc lists i = HasStation sc i → IsOf lists i

if_arrived : {E : Type 0} (P : Item → Type 0) (r : Result Unit E) (i : Item) → P i → AllByRecursion P (arrived_if r i)
if_arrived P (Ok _) i is = (is, tt)
if_arrived P (Err _) i is = tt

-- what a collector accepts of frames of the lists is of them
pub arrivals_are : (sc : SchemeValue) (lists : ℕ → List RecordValue) (next : ℕ → Option ℕ) (fs : List Frame) → AllByRecursion (IsFrameOf sc lists) fs → AllByRecursion (IsOfIfKnown sc lists) (arrivals sc next fs)
arrivals_are sc lists next [] all = tt
arrivals_are sc lists next (f ∷ fs) all = all-append (IsOfIfKnown sc lists) (arrived_of sc next f) (arrivals sc (next_links sc next f) fs) (one f all.0) (arrivals_are sc lists (next_links sc next f) fs all.1)
  where
    one : (f : Frame) → IsFrameOf sc lists f → AllByRecursion (IsOfIfKnown sc lists) (arrived_of sc next f)
    one (frame.Tapped r) is = if_arrived (IsOfIfKnown sc lists) (tap_judged sc next r) (item.Tap r) is
    one (frame.Stated v) is = if_arrived (IsOfIfKnown sc lists) (stating_judged sc next v) (item.Stated v) is
    one (frame.Acked a) is = tt
    one (frame.DayAcked a) is = tt
    one (frame.Greeted d) is = tt

-- items of registered devices, station by station
pub by_station : (sc : SchemeValue) (P : Item → Type 0) (xs : List Item) → AllByRecursion (HasStation sc) xs → ((station : ℕ) → AllByRecursion P (of_station sc station xs)) → AllByRecursion P xs
by_station sc P [] known each = tt
by_station sc P (i ∷ xs) known each = (own (station_of sc (device_of i)) refl, by_station sc P xs known.1 (λ station. tail station (is_id (station_of sc (device_of i)) station) refl))
  where
    own : (o : Option ℕ) → station_of sc (device_of i) ≡ o → P i
    own None e = let both : false ≡ true = sym (ap is_some e) ∙ known.0 in absurd (cc)
    own (Some station) e = (subst (λ (b : Bool). AllByRecursion P (if b then i ∷ of_station sc station xs else of_station sc station xs)) (ap (λ o. is_id o station) e ∙ is_own_id station) (each station)).0

    tail : (station : ℕ) (b : Bool) → is_id (station_of sc (device_of i)) station ≡ b → AllByRecursion P (of_station sc station xs)
    tail station true e = (subst (λ (b : Bool). AllByRecursion P (if b then i ∷ of_station sc station xs else of_station sc station xs)) e (each station)).1
    tail station false e = subst (λ (b : Bool). AllByRecursion P (if b then i ∷ of_station sc station xs else of_station sc station xs)) e (each station)

pub all_known : (sc : SchemeValue) (lists : ℕ → List RecordValue) (xs : List Item) → AllByRecursion (HasStation sc) xs → AllByRecursion (IsOfIfKnown sc lists) xs → AllByRecursion (IsOf lists) xs
all_known sc lists [] known is = tt
all_known sc lists (i ∷ xs) known is = (is.0 known.0, all_known sc lists xs known.1 is.1)

-- ACKNOWLEDGEMENTS
all-if : {X : Type 0} (P : X → Type 0) (b : Bool) (x : X) (xs : List X) → P x → AllByRecursion P xs → AllByRecursion P (if b then x ∷ xs else xs)
all-if P true x xs one all = (one, all)
all-if P false x xs one all = all

pub all-filter : {X : Type 0} (P : X → Type 0) (p : X → Bool) (xs : List X) → AllByRecursion P xs → AllByRecursion P (filter p xs)
all-filter P p [] all = tt
all-filter P p (x ∷ xs) all = all-if P (p x) x (filter p xs) all.0 (all-filter P p xs all.1)

-- the frame of an acknowledgement is covered where it is
frame_covered : (sc : SchemeValue) (x : OutboxValue) (a : AckItem) → IsCovered sc x a → IsFrameCovered sc x (frame_for a)
frame_covered sc x (ack.Upto a) is = is
frame_covered sc x (ack.Day a) is = is

pub kept_covered : (sc : SchemeValue) (x : OutboxValue) (answers : List AckItem) (kept : List Frame) → AreSomeOf answers kept → AllByRecursion (IsCovered sc x) answers → AllByRecursion (IsFrameCovered sc x) kept
kept_covered sc x [] kept keeps all = subst (AllByRecursion (IsFrameCovered sc x)) (sym keeps) tt
kept_covered sc x (a ∷ answers) kept (inl is) all = subst (AllByRecursion (IsFrameCovered sc x)) (sym is.1) (frame_covered sc x a all.0, kept_covered sc x answers is.0 is.2 all.1)
kept_covered sc x (a ∷ answers) kept (inr is) all = kept_covered sc x answers kept is all.1
