-- The outbox refuses no item of a session but for want of room.
use Rattle.std.proofs.Common.{◌≡◌, ℕ, ◌+◌, ◌-◌, ◌≤◌, List, [], ◌∷◌, ◌++◌, length, take, Some, None, Bool, true, false, refl, sym, ap, ◌∙◌, arith, inl, inr}
use Rattle.std.specs.Prelude.{◌⊎◌}
use Rattle.std.specs.List.{AllByRecursion}
use Rattle.fare_record.specs.declared.ack_item.AckItem.{AckItem}
use Rattle.fare_record.specs.Values.{StatementValue}
use Rattle.fare_record.specs.Lanes.{part}
use Rattle.fare_scheme.specs.Values.{SchemeValue}
use Rattle.fare_event.specs.declared.event.Event.TheVariants as event
use Rattle.fare_world.specs.System.{System, arrived_of, numbered_for}
use Rattle.fare_world.specs.Restarting.{hub_again}
use Rattle.fare_world.specs.Steps.{step, after}
use Rattle.fare_world.proofs.RowPlaces.{row_past}
use Rattle.fare_world.specs.Kept.{IsSystem}
use Rattle.fare_world.specs.Shown.{count_of, IsArrivedOf}
use Rattle.fare_record.specs.declared.item.Item.{Item}
use Rattle.fare_record.specs.declared.item.Item.TheVariants as item
use Rattle.fare_store.specs.OutboxWords.{OutboxValue}
use Rattle.fare_refinement.specs.ShownStores.{ShowsOutbox}
use Rattle.fare_history.specs.Gathering.{links_of, CountsFrom, storing, storing_all, AreStored, IsFree, AreFree}
use Rattle.fare_refinement.specs.Gathered.{Given, items, SentEntry, givens_of, told_entries, arrived_for, IsGiven, HasStations, answer_events}
use Rattle.fare_world.proofs.Lists.{AllByRecursion-weaken}
use Rattle.fare_history.proofs.Counting.{next_after, FollowsOutbox, due, counted_on, follows, same_upto}
use Rattle.fare_refinement.proofs.GatherSteps.{Gathers, named_stays}
use Rattle.fare_refinement.proofs.GatherTie.{given_again, gathers_restart, gathers_entry}

item_free : (sc : SchemeValue) (t : System) (x : OutboxValue) (i : Item) → IsSystem sc t → ShowsOutbox t x → IsArrivedOf t.devices (arrived_for i) i → FollowsOutbox x i → IsFree x i
item_free sc t x (item.Tap r) h shows named link = (link, below)
  where
    upto : r.link - 1 ≡ (t.devices r.device).upto
    upto = omega (arith, link, shows.upto r.device)

    lane : r.lane ≡ length (arrived_of r.owner (t.devices r.device)) + 1
    lane = ((h.devices r.device).numbered (r.link - 1) r named.here).lane ∙ ap (λ n. length (part r.owner (take n (t.devices r.device).taps)) + 1) upto

    below : (n : ℕ) → r.lane ≤ n → x.rows r.owner r.device n ≡ None
    below n le = shows.rows r.owner r.device n ∙ row_past (t.lanes r.owner r.device).gone (arrived_of r.owner (t.devices r.device)) n (omega (arith, lane, le))
item_free sc t x (item.Stated v) h shows named link = by (t.held v.owner v.device v.day) (shows.stated v.owner v.device v.day)
  where
    by : (b : Bool) → x.stated v.owner v.device v.day ≡ count_of b (numbered_for t v.owner v.device) v.day → (x.stated v.owner v.device v.day ≡ None) ⊎ (x.stated v.owner v.device v.day ≡ Some v.count)
    by true is = inr (is ∙ ap Some (sym (ap (λ (z : StatementValue). z.count) named.is)))
    by false is = inl is

-- of the items in order, where all before the last are stored
entries_free : (sc : SchemeValue) (b : System) (x : OutboxValue) (next : ℕ → ℕ) (answers : List AckItem) (es : List SentEntry) (g : Given) (t : System) → HasStations sc → 1 ≤ sc.inbox_capacity → ((d : ℕ) → CountsFrom (next d) (links_of d (items (givens_of es ++ g ∷ [])))) → ((d : ℕ) → next d ≡ x.upto d + 1) → AreStored sc x (told_entries es) → AllByRecursion (IsGiven b) (givens_of es ++ g ∷ [])
    → Gathers sc b x next None [] answers t → AreFree x (told_entries es) × IsFree (storing_all x (told_entries es)) g.item
entries_free sc b x next answers [] g t stations room counted same stored given gathers =
    (tt, item_free sc t x g.item gathers.system gathers.outbox (named_stays b.devices t.devices gathers.same g.item given.0.named) (follows x next g.item same (due next g.item (λ d. []) counted)))
entries_free sc b x next answers (e ∷ es) g t stations room counted same stored given gathers =
    let is = due next e.given.item (λ d. links_of d (items (givens_of es ++ g ∷ []))) counted in
    let link = follows x next e.given.item same is in
    let t3 = (step sc (step sc (step sc t (event.Arrive e.given.packet)).0 event.Draw).0 event.Store).0 in
    let more = entries_free sc b (storing x e.given.item) (next_after next e.given.item) (answers ++ e.answers) es g (after sc t3 (answer_events sc e.answers)) stations room (counted_on next e.given.item (λ d. links_of d (items (givens_of es ++ g ∷ []))) counted) (same_upto x next e.given.item same link stored.0) stored.2 given.1
    (gathers_entry sc b x next answers t e stations room given.0 is link stored.0 stored.1 gathers) in
    ((item_free sc t x e.given.item gathers.system gathers.outbox (named_stays b.devices t.devices gathers.same e.given.item given.0.named) link, more.0), more.1)

pub gathering_free : (sc : SchemeValue) (s : System) (x : OutboxValue) (es : List SentEntry) (g : Given) → IsSystem sc s → HasStations sc → 1 ≤ sc.inbox_capacity → ShowsOutbox s x → AllByRecursion (IsGiven s) (givens_of es ++ g ∷ []) → ((d : ℕ) → CountsFrom (x.upto d + 1) (links_of d (items (givens_of es ++ g ∷ [])))) → AreStored sc x (told_entries es) → AreFree x (told_entries es) × IsFree (storing_all x (told_entries es)) g.item
gathering_free sc s x es g h stations room outbox given counted stored =
    entries_free sc (hub_again sc s) x (λ d. x.upto d + 1) [] es g (hub_again sc s) stations room counted (λ d. refl) stored (AllByRecursion-weaken (IsGiven s) (IsGiven (hub_again sc s)) (given_again sc s) (givens_of es ++ g ∷ []) given) (gathers_restart sc s x h outbox)
