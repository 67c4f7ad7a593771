-- An owner's ledger refuses no item of a session.
use Rattle.std.proofs.Common.{◌≡◌, ◌≢◌, ℕ, ◌-◌, ◌<◌, ◌≤◌, List, [], ◌∷◌, length, Some, None, Bool, true, false, refl, sym, ap, ◌∙◌, subst, arith, inl, inr}
use Rattle.std.specs.List.{AllByRecursion}
use Rattle.std.specs.Prelude.{◌==◌, ◌&&◌, slice_get, if◌then◌else◌, IfSome, Option, Result, Ok, Err, ◌⊎◌}
use Rattle.std.proofs.lemmas.Bool.Decides.{Decides-eqb}
use Rattle.std.proofs.lemmas.List.{length-take-le}
use Rattle.std.proofs.lemmas.Option.{slice_get_within}
use Rattle.fare_record.specs.Values.{RecordValue, StatementValue}
use Rattle.fare_record.specs.Lanes.{part}
use Rattle.fare_scheme.specs.Values.{SchemeValue}
use Rattle.fare_scheme.specs.Words.{station_of}
use Rattle.fare_owner.specs.TapJudged.{tap_judged}
use Rattle.fare_owner.specs.StatementJudged.{statement_judged}
use Rattle.fare_owner.specs.declared.statement.StatementFault.TheVariants.{Repeated, Conflict}
use Rattle.fare_owner.specs.declared.tap.TapFault.{TapFault}
use Rattle.fare_owner.specs.declared.tap.TapFault.TheVariants as tap_fault
use Rattle.fare_event.specs.declared.event.Event.TheVariants as event
use Rattle.fare_world.specs.System.{System, Lane_of, numbered_for, stated_count}
use Rattle.fare_side.specs.OpenDays.{is_closed}
use Rattle.fare_world.specs.Knowing.{knows_device, knows_owner}
use Rattle.fare_world.specs.Owning.{lane_room, is_of_closed_day, take_tap}
use Rattle.fare_world.specs.Steps.{step}
use Rattle.fare_world.specs.Headline.{IsOrderly}
use Rattle.fare_world.specs.Kept.{IsRouted, IsSystem}
use Rattle.fare_world.specs.Shown.{IsAt, count_of}
use Rattle.fare_record.specs.declared.item.Item.{Item}
use Rattle.fare_record.specs.declared.item.Item.TheVariants as item
use Rattle.fare_store.specs.OutboxWords.{OutboxValue}
use Rattle.fare_store.specs.LedgerWords.{LedgerValue, is_mine, take_judged, state_judged}
use Rattle.fare_store.specs.LedgerWords as ledger
use Rattle.fare_refinement.specs.ShownStores.{ShowsOutbox, ShowsLedger}
use Rattle.fare_history.specs.Serving.{Cursors, behind_ledger, moved_by, AreNextItems, given, device_of, IsWorking, IsUnrefused, AreUnrefused}
use Rattle.fare_world.proofs.Known.{placed}
use Rattle.fare_store.proofs.Entries.{is_self}
use Rattle.fare_world.proofs.Showing.{lane_tap_at}
use Rattle.fare_world.proofs.KeptParts.{took_numbered}
use Rattle.fare_world.proofs.Kept.{moves_step}
use Rattle.fare_refinement.proofs.ServeSteps.{Serves, known_station, take_is, serves_forward, serves_fetch, serves_take, serves_restart, never_retired}
use Rattle.fare_refinement.proofs.ServeTie.{still_working}

known_tap : (sc : SchemeValue) (t : System) (o d k : ℕ) (r : RecordValue) → IsSystem sc t → IsAt (numbered_for t o d) k r → knows_device sc d ≡ true
known_tap sc t o d k r h at = by (station_of sc d) refl
  where
    within : k - 1 < length (numbered_for t o d)
    within = slice_get_within (numbered_for t o d) (k - 1) r at.here

    by : (station : Option ℕ) → station_of sc d ≡ station → knows_device sc d ≡ true
    by None none = absurd (omega (arith, within, ap (λ l. length (part o l)) ((h.devices d).known none)))
    by (Some st) of = placed sc d st of

-- in an orderly answer the ledger took the tap
judged_ok : (t : System) (o d k : ℕ) (j : Result Unit TapFault) → j ≢ Err tap_fault.Retired → IsOrderly (event.Take o) (take_tap t o d k j).1 → j ≡ Ok tt
judged_ok t o d k (Ok u) works fine = refl
judged_ok t o d k (Err tap_fault.NotMine) works fine = absurd (fine.mine refl)
judged_ok t o d k (Err tap_fault.Retired) works fine = absurd (works refl)
judged_ok t o d k (Err tap_fault.Duplicate) works fine = absurd (fine.once o refl refl)
judged_ok t o d k (Err tap_fault.Gap) works fine = absurd (fine.next o refl refl)
judged_ok t o d k (Err tap_fault.AfterClose) works fine = absurd (fine.unclosed refl)

-- an item of a registered device of this owner is the ledger's own
mine : (sc : SchemeValue) (s : System) (o p d : ℕ) (l : LedgerValue) → ShowsLedger sc s o l → p ≡ o → knows_device sc d ≡ true → is_mine l p d ≡ true
mine sc s o p d l shows same registered = of_both (p == l.owner) (l.knows d) (ap (λ q. q == l.owner) (same ∙ sym shows.ledger.id) ∙ is_self l.owner) (shows.ledger.made.knows d ∙ registered)
  where
    of_both : (a b : Bool) → a ≡ true → b ≡ true → (a && b) ≡ true
    of_both a b e f = λ i. e i && f i

repeated : (n m : ℕ) → n ≡ m → statement_judged true (Some n) m false ≡ Err Repeated
repeated n m same = ap (λ b. if b then Err Repeated else Err Conflict) ((Decides-eqb n m).1 same)

in_hand_unrefused : (sc : SchemeValue) (s : System) (o : ℕ) (x : OutboxValue) (l : LedgerValue) (c : Cursors) (i : Item) (queue : List Item) (t : System) → knows_owner sc o ≡ true → IsWorking l (device_of i) → Serves sc s o x l c (Some i) queue t → IsUnrefused l i
in_hand_unrefused sc s o x l c (item.Tap r) queue t known working serves =
    (λ k. tap_judged (own k) (took k) (closed k) r.lane (working k)) ∙ judged_ok t o d r.lane judged (never_retired (knows_device sc d) (t.lanes o d).took (is_of_closed_day sc.start (t.lanes o d).closed (slice_get (numbered_for t o d) (r.lane - 1))) r.lane) (subst (λ z. IsOrderly (event.Take o) z.1) (ap (λ b. take_tap t o d r.lane (tap_judged (knows_device sc d) (t.lanes o d).took (is_of_closed_day sc.start (t.lanes o d).closed (slice_get (numbered_for t o d) (r.lane - 1))) r.lane b)) (sym (serves.ledger.retired d) ∙ working)) (subst (λ z. IsOrderly (event.Take o) z.1) (take_is sc t o (Lane_of d r.lane) known serves.in_hand) (moves_step sc t (event.Take o) serves.system).orderly))
  where
    d : ℕ
    d = r.device

    judged : Result Unit TapFault
    judged = tap_judged (knows_device sc d) (t.lanes o d).took (is_of_closed_day sc.start (t.lanes o d).closed (slice_get (numbered_for t o d) (r.lane - 1))) r.lane false

    registered : knows_device sc d ≡ true
    registered = known_tap sc t o d r.lane r serves.system serves.hand_each

    own : is_mine l r.owner d ≡ knows_device sc d
    own = mine sc t o r.owner d l serves.ledger (lane_tap_at sc t o d r.lane r serves.system serves.hand_each).owner registered ∙ sym registered

    took : length (l.taken d) ≡ (t.lanes o d).took
    took = ap length (serves.ledger.taken d) ∙ length-take-le (t.lanes o d).took (numbered_for t o d) (took_numbered sc t o d serves.system)

    closed : ledger.is_closed l d r.tap.day ≡ is_of_closed_day sc.start (t.lanes o d).closed (slice_get (numbered_for t o d) (r.lane - 1))
    closed = (λ i. is_closed (serves.ledger.ledger.made.start i) (serves.ledger.closed d i) r.tap.day) ∙ sym (ap (is_of_closed_day sc.start (t.lanes o d).closed) serves.hand_each.here)
in_hand_unrefused sc s o x l c (item.Stated v) queue t known working serves = by ((t.lanes o v.device).stated v.day) (serves.ledger.stated v.device v.day)
  where
    held : t.held o v.device v.day ≡ true
    held = subst (λ z. IfSome z (IsRouted t.devices t.held o)) serves.in_hand (serves.system.owners o).hand

    own : is_mine l v.owner v.device ≡ true
    own = mine sc t o v.owner v.device l serves.ledger (ap (λ (z : StatementValue). z.owner) serves.hand_each.is) (known_station sc v.device (station_of sc v.device) refl (serves.system.held o v.device v.day held).registered)

    count : v.count ≡ stated_count t o v.device v.day
    count = ap (λ (z : StatementValue). z.count) serves.hand_each.is

    by : (b : Bool) → l.stated v.device v.day ≡ count_of b (numbered_for t o v.device) v.day → (state_judged l v ≡ Ok tt) ⊎ (state_judged l v ≡ Err Repeated)
    by true is = inr ((λ i. statement_judged (own i) (is i) v.count (working i)) ∙ repeated (stated_count t o v.device v.day) v.count (sym count))
    by false is = inl (λ i. statement_judged (own i) (is i) v.count (working i))

unrefused_all : (sc : SchemeValue) (s : System) (o : ℕ) (x : OutboxValue) (l : LedgerValue) (c : Cursors) (is : List Item) (t : System) → knows_owner sc o ≡ true → 1 ≤ lane_room sc o → AreNextItems o x c is → AllByRecursion (λ i. IsWorking l (device_of i)) is → Serves sc s o x l c None [] t → AreUnrefused l is
unrefused_all sc s o x l c [] t known room next works serves = tt
unrefused_all sc s o x l c (i ∷ is) t known room next works serves =
    let put = serves_forward sc s o x l c None [] t i known (omega (arith, room)) next.0 works.0 serves in
    let fetched = serves_fetch sc s o x l (moved_by c i) i [] (step sc t (event.Forward o (device_of i))).0 known put in
    let taken = serves_take sc s o x l (moved_by c i) i [] (step sc (step sc t (event.Forward o (device_of i))).0 (event.Fetch o)).0 known works.0 fetched in (
      in_hand_unrefused sc s o x l (moved_by c i) i [] (step sc (step sc t (event.Forward o (device_of i))).0 (event.Fetch o)).0 known works.0 fetched,
      unrefused_all sc s o x (given l i) (moved_by c i) is (step sc (step sc (step sc t (event.Forward o (device_of i))).0 (event.Fetch o)).0 (event.Take o)).0 known room next.1 (still_working l i is works.1) taken,
    )

pub service_unrefused : (sc : SchemeValue) (s : System) (o : ℕ) (x : OutboxValue) (l : LedgerValue) (is : List Item) → IsSystem sc s → knows_owner sc o ≡ true → 1 ≤ lane_room sc o → ShowsOutbox s x → ShowsLedger sc s o l → AreNextItems o x (behind_ledger sc l) is → AllByRecursion (λ i. IsWorking l (device_of i)) is → AreUnrefused l is
service_unrefused sc s o x l is h known room outbox ledger next works = unrefused_all sc s o x l (behind_ledger sc l) is (step sc s (event.RestartOwner o)).0 known room next works (serves_restart sc s o x l known h outbox ledger)
