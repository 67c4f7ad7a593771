-- A session of an owner is a run of events: by its items, one after the other.
use Rattle.std.proofs.Common.{◌≡◌, ℕ, ◌+◌, ◌≤◌, List, [], ◌∷◌, ◌++◌, length, Some, None, Bool, true, false, refl, sym, ap, ◌∙◌, subst, arith, append_assoc, length-append}
use Rattle.std.specs.Prelude.{Option}
use Rattle.std.proofs.lemmas.List.{append-nil}
use Rattle.std.specs.List.{AllByRecursion}
use Rattle.fare_scheme.specs.Values.{SchemeValue}
use Rattle.fare_event.specs.declared.event.Event.{Event}
use Rattle.fare_event.specs.declared.event.Event.TheVariants as event
use Rattle.fare_world.specs.System.{System}
use Rattle.fare_world.specs.Knowing.{knows_device, knows_owner}
use Rattle.fare_world.specs.Owning.{lane_room}
use Rattle.fare_world.specs.Steps.{step, after}
use Rattle.fare_world.specs.Kept.{IsSystem}
use Rattle.fare_record.specs.declared.item.Item.{Item}
use Rattle.fare_record.specs.declared.item.Item.TheVariants as item
use Rattle.fare_store.specs.OutboxWords.{OutboxValue}
use Rattle.fare_store.specs.LedgerWords.{LedgerValue}
use Rattle.fare_refinement.specs.ShownStores.{ShowsOutbox, ShowsLedger}
use Rattle.fare_history.specs.Serving.{Cursors, behind_ledger, moved_by, AreNextItems, moved_by_all, given, given_all, pruned_to, pruned_to_all, Service, in_hand, IsService, device_of, IsWorking}
use Rattle.fare_refinement.specs.Served.{taken_events, hand_events, queue_events, prune_events, service_events, AreRouted, hand_list, IsServed}
use Rattle.fare_history.proofs.Growing.{items_first, items_then}
use Rattle.fare_history.proofs.Entries.{all-left, all-right}
use Rattle.fare_refinement.proofs.ServeSteps.{Serves, serves_forward, serves_fetch, serves_take, serves_restart, serves_prune}

pub after-append : (sc : SchemeValue) (s : System) (es fs : List Event) → after sc s (es ++ fs) ≡ after sc (after sc s es) fs
after-append sc s [] fs = refl
after-append sc s (e ∷ es) fs = after-append sc (step sc s e).0 es fs

-- what the ledger is given retires no lane
pub given_retired : (l : LedgerValue) (i : Item) → (given l i).retired ≡ l.retired
given_retired l (item.Tap r) = refl
given_retired l (item.Stated v) = refl

pub given_all_retired : (l : LedgerValue) (is : List Item) → (given_all l is).retired ≡ l.retired
given_all_retired l [] = refl
given_all_retired l (i ∷ is) = given_all_retired (given l i) is ∙ given_retired l i

pub still_working : (l : LedgerValue) (i : Item) (is : List Item) → AllByRecursion (λ j. IsWorking l (device_of j)) is → AllByRecursion (λ j. IsWorking (given l i) (device_of j)) is
still_working l i is works = subst (λ (f : ℕ → Bool). AllByRecursion (λ j. f (device_of j) ≡ false) is) (sym (given_retired l i)) works

all_working : (l : LedgerValue) (given_items is : List Item) → AllByRecursion (λ j. IsWorking l (device_of j)) is → AllByRecursion (λ j. IsWorking (given_all l given_items) (device_of j)) is
all_working l given_items is works = subst (λ (f : ℕ → Bool). AllByRecursion (λ j. f (device_of j) ≡ false) is) (sym (given_all_retired l given_items)) works

-- what is taken
serves_taken : (sc : SchemeValue) (s : System) (o : ℕ) (x : OutboxValue) (l : LedgerValue) (c : Cursors) (is : List Item) (t : System) → knows_owner sc o ≡ true → 1 ≤ lane_room sc o → AreNextItems o x c is → AllByRecursion (λ i. IsWorking l (device_of i)) is
    → Serves sc s o x l c None [] t → Serves sc s o x (given_all l is) (moved_by_all c is) None [] (after sc t (taken_events o is))
serves_taken sc s o x l c [] t known room next works serves = serves
serves_taken sc s o x l c (i ∷ is) t known room next works serves =
    let put = serves_forward sc s o x l c None [] t i known (omega (arith, room)) next.0 works.0 serves in
    let fetched = serves_fetch sc s o x l (moved_by c i) i [] (step sc t (event.Forward o (device_of i))).0 known put in
    let taken = serves_take sc s o x l (moved_by c i) i [] (step sc (step sc t (event.Forward o (device_of i))).0 (event.Fetch o)).0 known works.0 fetched in
    serves_taken sc s o x (given l i) (moved_by c i) is (step sc (step sc (step sc t (event.Forward o (device_of i))).0 (event.Fetch o)).0 (event.Take o)).0 known room next.1 (still_working l i is works.1) taken

-- what is left in the hand
serves_hand : (sc : SchemeValue) (s : System) (o : ℕ) (x : OutboxValue) (l : LedgerValue) (c : Cursors) (hand : Option Item) (t : System) → knows_owner sc o ≡ true → 1 ≤ lane_room sc o → AreNextItems o x c (in_hand hand) → AllByRecursion (λ i. IsWorking l (device_of i)) (in_hand hand)
    → Serves sc s o x l c None [] t → Serves sc s o x l (moved_by_all c (in_hand hand)) hand [] (after sc t (hand_events o hand))
serves_hand sc s o x l c None t known room next works serves = serves
serves_hand sc s o x l c (Some i) t known room next works serves =
    serves_fetch sc s o x l (moved_by c i) i [] (step sc t (event.Forward o (device_of i))).0 known (serves_forward sc s o x l c None [] t i known (omega (arith, room)) next.0 works.0 serves)

-- what is left in the queue
serves_queue : (sc : SchemeValue) (s : System) (o : ℕ) (x : OutboxValue) (l : LedgerValue) (c : Cursors) (hand : Option Item) (before is : List Item) (t : System) → knows_owner sc o ≡ true → length before + length is ≤ lane_room sc o → AreNextItems o x c is → AllByRecursion (λ i. IsWorking l (device_of i)) is
    → Serves sc s o x l c hand before t → Serves sc s o x l (moved_by_all c is) hand (before ++ is) (after sc t (queue_events o is))
serves_queue sc s o x l c hand before [] t known room next works serves = subst (λ q. Serves sc s o x l c hand q t) (sym (append-nil before)) serves
serves_queue sc s o x l c hand before (i ∷ is) t known room next works serves =
    let new = (step sc t (event.Forward o (device_of i))).0 in
    subst (λ q. Serves sc s o x l (moved_by_all (moved_by c i) is) hand q (after sc new (queue_events o is))) (append_assoc before (i ∷ []) is)
    (serves_queue sc s o x l (moved_by c i) hand (before ++ i ∷ []) is new known (omega (arith, room, length-append before (i ∷ []))) next.1 works.1
    (serves_forward sc s o x l c hand before t i known (omega (arith, room)) next.0 works.0 serves))

-- what is pruned
serves_prunes : (sc : SchemeValue) (s : System) (o : ℕ) (x : OutboxValue) (l : LedgerValue) (c : Cursors) (hand : Option Item) (queue : List Item) (ds : List ℕ) (t : System) → knows_owner sc o ≡ true → AllByRecursion (λ d. knows_device sc d ≡ true) ds
    → Serves sc s o x l c hand queue t → Serves sc s o (pruned_to_all x o l ds) l c hand queue (after sc t (prune_events o ds))
serves_prunes sc s o x l c hand queue [] t known registered serves = serves
serves_prunes sc s o x l c hand queue (d ∷ ds) t known registered serves =
    serves_prunes sc s o (pruned_to x o l d) l c hand queue ds (step sc t (event.Prune o d)).0 known registered.1 (serves_prune sc s o x l c hand queue t d known registered.0 serves)

-- what is left is what stands there
hand_routed : (sc : SchemeValue) (s : System) (o : ℕ) (x : OutboxValue) (l : LedgerValue) (c : Cursors) (hand : Option Item) (queue : List Item) (t : System) → Serves sc s o x l c hand queue t → AreRouted t.devices o (hand_list (t.owners o).hand) (in_hand hand)
hand_routed sc s o x l c None queue t serves = record { numbers = ap hand_list serves.in_hand; each = tt }
hand_routed sc s o x l c (Some i) queue t serves = record { numbers = ap hand_list serves.in_hand; each = (serves.hand_each, tt) }

service_leads : (sc : SchemeValue) (s : System) (o : ℕ) (x : OutboxValue) (l : LedgerValue) (v : Service) (c : Cursors) (t : System) → Serves sc s o (pruned_to_all x o (given_all l v.taken) v.pruned) (given_all l v.taken) c v.hand v.queue t → IsServed sc o x l v s t
service_leads sc s o x l v c t serves = record {
  system = serves.system;
  outbox = serves.outbox;
  ledger = serves.ledger;
  hand = hand_routed sc s o (pruned_to_all x o (given_all l v.taken) v.pruned) (given_all l v.taken) c v.hand v.queue t serves;
  queue = record { numbers = serves.queued; each = serves.queue_each };
  beside = serves.beside;
}

pub service_is_run : (sc : SchemeValue) (s : System) (o : ℕ) (x : OutboxValue) (l : LedgerValue) (v : Service) → IsSystem sc s → knows_owner sc o ≡ true → 1 ≤ lane_room sc o → ShowsOutbox s x → ShowsLedger sc s o l → IsService sc o x l v → IsServed sc o x l v s (after sc s (service_events o v))
service_is_run sc s o x l v h known room outbox ledger is =
    subst (IsServed sc o x l v s) (sym (after-append sc opened (taken_events o v.taken) others ∙ after-append sc taken (hand_events o v.hand) more ∙ after-append sc handed (queue_events o v.queue) (prune_events o v.pruned)))
    (service_leads sc s o x l v (moved_by_all second v.queue) (after sc queued (prune_events o v.pruned)) last)
  where
    others : List Event
    others = hand_events o v.hand ++ (queue_events o v.queue ++ prune_events o v.pruned)

    more : List Event
    more = queue_events o v.queue ++ prune_events o v.pruned

    opened : System
    opened = (step sc s (event.RestartOwner o)).0

    taken : System
    taken = after sc opened (taken_events o v.taken)

    handed : System
    handed = after sc taken (hand_events o v.hand)

    queued : System
    queued = after sc handed (queue_events o v.queue)

    start : Cursors
    start = behind_ledger sc l

    first : Cursors
    first = moved_by_all start v.taken

    second : Cursors
    second = moved_by_all first (in_hand v.hand)

    left : AreNextItems o x first (in_hand v.hand ++ v.queue)
    left = items_then o x start v.taken (in_hand v.hand ++ v.queue) is.items

    works : Item → Type 0
    works i = IsWorking l (device_of i)

    rest : AllByRecursion works (in_hand v.hand ++ v.queue)
    rest = all-right works v.taken (in_hand v.hand ++ v.queue) is.working

    all_taken : Serves sc s o x (given_all l v.taken) first None [] taken
    all_taken = serves_taken sc s o x l start v.taken opened known room (items_first o x start v.taken (in_hand v.hand ++ v.queue) is.items) (all-left works v.taken (in_hand v.hand ++ v.queue) is.working) (serves_restart sc s o x l known h outbox ledger)

    all_handed : Serves sc s o x (given_all l v.taken) second v.hand [] handed
    all_handed = serves_hand sc s o x (given_all l v.taken) first v.hand taken known room (items_first o x first (in_hand v.hand) v.queue left) (all_working l v.taken (in_hand v.hand) (all-left works (in_hand v.hand) v.queue rest)) all_taken

    all_queued : Serves sc s o x (given_all l v.taken) (moved_by_all second v.queue) v.hand v.queue queued
    all_queued = serves_queue sc s o x (given_all l v.taken) second v.hand [] v.queue handed known (omega (arith, is.room)) (items_then o x first (in_hand v.hand) v.queue left) (all_working l v.taken v.queue (all-right works (in_hand v.hand) v.queue rest)) all_handed

    last : Serves sc s o (pruned_to_all x o (given_all l v.taken) v.pruned) (given_all l v.taken) (moved_by_all second v.queue) v.hand v.queue (after sc queued (prune_events o v.pruned))
    last = serves_prunes sc s o x (given_all l v.taken) (moved_by_all second v.queue) v.hand v.queue v.pruned queued known is.registered all_queued
