-- A session over a scheme, whatever its stores might have held.
use Rattle.std.proofs.Common.{◌≡◌, ℕ, suc, ◌+◌, ◌<◌, ◌≤◌, Some, None, Bool, true, false, List, [], ◌∷◌, ◌++◌, length, refl, sym, ap, ◌∙◌, subst, inl, inr, arith, zero}
use Rattle.std.specs.Prelude.{◌==◌, min, slice_get, Option, ◌⊎◌, ◌||◌}
use Rattle.std.specs.List.{AllByRecursion, list_any}
use Rattle.std.proofs.lemmas.Bool.Decides.{nat_tests}
use Rattle.std.proofs.lemmas.Option.{same_Some}
use Rattle.std.proofs.lemmas.Map.Entries.{length-keys_of}
use Rattle.fare_record.specs.Values.{RecordValue}
use Rattle.fare_scheme.specs.Values.{SchemeValue}
use Rattle.fare_route.specs.declared.forwarder.Forwarder.{Forwarder}
use Rattle.fare_route.specs.Routing.{cursor_of, started}
use Rattle.fare_store.specs.declared.fault.Fault.{Fault}
use Rattle.fare_store.specs.declared.fault.Fault.TheVariants as fault
use Rattle.fare_store.specs.Standing.{Standing, Counted, IsSound}
use Rattle.fare_store.specs.OutboxWords.{OutboxValue}
use Rattle.fare_store.specs.LedgerWords.{LedgerValue, IsOfScheme}
use Rattle.fare_session.specs.declared.fault.SessionFault.{SessionFault}
use Rattle.fare_session.specs.declared.fault.SessionFault.TheVariants.{Refused, Memory, Store}
use Rattle.fare_session.specs.declared.report.OwnerReport.{OwnerReport}
use Rattle.fare_history.specs.Serving.{Cursors, behind_ledger, moved_by_all, device_of, AreNextItems, AreUnrefused, given_all, in_hand, tried_in, Service, put_by, pruned_to_all, IsOfDevice, IsWorking, lane_room, IsService}
use Rattle.fare_session.specs.Taking.{added_by, IsImage, IsRefusedHand}
use Rattle.fare_session.specs.Stores.{IsOwners, HasStood, Leaves, Stays}
use Rattle.fare_session.specs.Forwarding.{IsIdle, IsBased, IsAsFar, AreBases, AreApart, Skips}
use Rattle.fare_session.specs.Resting.{MeetsLedger}
use Rattle.fare_session.specs.Asking.{AreTold, AreWorking}
use Rattle.fare_session.specs.Session.{IsCutWith, IsSession}
use Rattle.fare_session.specs.Served.{HasGap, report_of, AreFit, IsTakenBy, IsPrunedBy, HasCause, SaysOfService, IsServed, Rose}
use Rattle.fare_session.proofs.StoreCalls.{follows_none, leaves_say, leaves_then, stood_first, stood_then, stood_value, follows_call}
use Rattle.fare_session.proofs.Forwards.{based_at}
use Rattle.fare_session.proofs.Prunes.{key_here}
use Rattle.fare_session.proofs.Services.{next_items-front}
use Rattle.fare_session.proofs.Takes.{image_none, image_sole}
use Rattle.fare_session.proofs.Rests.{lanes_kept}
use Rattle.fare_record.specs.declared.item.Item.{Item}
use Rattle.fare_history.specs.Plainly.{IsFinished, ShowsWhy}
use Rattle.fare_history.proofs.ServedPlainly.{refused_shows_why}
use Rattle.fare_history.specs.Holding.{MayHold}
use Rattle.fare_session.proofs.Serves.{device_of_based, among, works, bases_told, far_told, place_known, all_say, all_keys}

-- a live store holds what it holds, and a stop leaves that
held_is : {V : Type 0} (s : Standing V) (v : V) → IsSound s → s.live → (s.live → s.lawful) → MayHold s v → v ≡ s.value
held_is s v sound live lawful (inl is) = is.1
held_is s v sound live lawful (inr left) = sound.settled live (lawful live) v left

here_or : (a b : Bool) → a ≡ true → (a || b) ≡ true
here_or true b e = refl
here_or false b e = absurd (cc)

there_or : (a b : Bool) → b ≡ true → (a || b) ≡ true
there_or true b e = refl
there_or false b e = e

-- a device at a place of a list is in it
any_here : (ds : List ℕ) (k d : ℕ) → slice_get ds k ≡ Some d → list_any (λ x. x == d) ds ≡ true
any_here [] k d e = absurd (cc)
any_here (x ∷ ds) zero d e = let same : x ≡ d = same_Some x d e in here_or (x == d) (list_any (λ y. y == d) ds) (grind (arith, nat_tests))
any_here (x ∷ ds) (suc k) d e = there_or (x == d) (list_any (λ y. y == d) ds) (any_here ds k d e)

-- NOTHING WAS BEGUN
abbrev pub nothing : Service
nothing = record { taken = []; hand = None; queue = []; pruned = [] }

-- the ledger failed before it had told where it stands, or there was no memory: no thread began, and of the outbox nothing was asked
pub served_none : (sc : SchemeValue) (owner : ℕ) (x : Standing OutboxValue) (lo ln : Standing LedgerValue) (f : Option Fault) (e : SessionFault) → Stays lo ln f → (e ≡ Store → f ≡ Some fault.Store) → (e ≡ Refused → ⊥) → IsOwners (Some e) → IsServed sc owner x x lo ln (report_of 0 0 (Some e))
served_none sc owner x lo ln f e stays cause not owners = record {
  v = nothing;
  says = λ fit y l mx ml. record {
    service = record { items = tt; known = tt; working = tt; room = omega arith; registered = tt };
    unrefused = tt;
    taken = omega arith;
    refused = λ is. absurd (not (same_Some e Refused is));
    whole = λ is. absurd (faulted is);
  };
  ledger = λ fit. record { leads = from fit };
  outbox = λ fit m may. record { leads = λ y was. (y, was, inl refl) };
  ledger_holds = λ fit live. (stays.calls.value live (fit.lists (stays.calls.live live))).1;
  outbox_holds = λ fit ledger live. refl;
  dated = tt;
  order = λ i is. refl;
  left = refl;
  kinds = owners;
  cause = λ is. inr (subst (Counted lo.failures ln.failures) (cause (same_Some e Store is)) stays.calls.cause);
  stays = λ is. absurd (faulted is);
  outbox_follows = follows_none x;
  ledger_follows = follows_call lo ln f (ln.value ≡ lo.value) (λ w. w ≡ lo.value) stays.calls;
}
  where
    faulted : ◌≡◌ {A = Option SessionFault} (Some e) None → ⊥
    faulted is = absurd (cc)

    from : AreFit sc owner x x lo ln → (m : LedgerValue) → MayHold ln m → (l : LedgerValue) × MayHold lo l × IsTakenBy nothing l m
    from fit m (inl is) =
        let live = stays.calls.live is.0 in
        (lo.value, inl (live, refl), image_none lo.value [] [] m (is.1 ∙ (stays.calls.value is.0 (fit.lists live)).1))
    from fit m (inr left) = elim (stays.calls.stop fit.ledger fit.lists m left) [
      | inl before ↦ (m, inr before, image_none m [] [] m refl)
      | inr done ↦ (lo.value, inl (done.0, refl), image_none lo.value [] [] m done.1)
    ]

pub served_memory : (sc : SchemeValue) (owner : ℕ) (x : Standing OutboxValue) (lo ln : Standing LedgerValue) → Stays lo ln None → IsServed sc owner x x lo ln (report_of 0 0 (Some Memory))
served_memory sc owner x lo ln stays = served_none sc owner x lo ln None Memory stays (λ e. absurd (let is : Memory ≡ Store = e in cc)) (λ e. let is : Memory ≡ Refused = e in cc) tt

-- both stores were live and lawful and have kept what was committed, and the ledger is the owner's, of this scheme
pub record IsReady (sc : SchemeValue) (owner : ℕ) (xo xn : Standing OutboxValue) (lo ln : Standing LedgerValue) : Type 0 where
  pub outbox : HasStood xo xn
  pub ledger : HasStood lo ln
  pub mine : lo.value.owner ≡ owner
  pub made : IsOfScheme sc lo.value

-- A SESSION BEHIND WHAT THE LEDGER TOLD
module _ (sc : SchemeValue) (owner room : ℕ) (xo xn : Standing OutboxValue) (lo lm ln : Standing LedgerValue) (standings : List (ℕ × Option ℕ)) (bases working : List (ℕ × ℕ)) (f : Forwarder) (report : OwnerReport)
    (w : AreWorking lo lm bases working) (told : AreTold sc lo lm standings bases) (count : length standings ≡ length sc.devices) (apart : AreApart bases) (start : (d : ℕ) → cursor_of f d ≡ started sc standings d) (mine : f.owner ≡ owner) (few : room ≡ lane_room sc owner) (stays : Stays lo lm None) (live : lm.clean → lo.live) (some : 1 ≤ length sc.devices)
    (s : IsSession working bases room xo xn lm ln f report) where
  k_first : HasStood lo ln → HasStood lo lm
  k_first kl = stood_first lo lm ln s.fl (given_all lm.value s.v.taken) (IsImage lm.value s.v.taken (tried_in s.v.hand s.v.queue)) s.ledger kl

  k_then : HasStood lo ln → HasStood lm ln
  k_then kl = stood_then lo lm ln s.fl (given_all lm.value s.v.taken) lo.value (IsImage lm.value s.v.taken (tried_in s.v.hand s.v.queue)) (λ w. w ≡ lo.value) stays s.ledger kl

  same : HasStood lo ln → lm.value ≡ lo.value
  same kl = stood_value lo lm lo.value (λ w. w ≡ lo.value) stays (k_first kl)

  abbrev c : Cursors
  c = behind_ledger sc lo.value

  meets : HasStood lo ln → MeetsLedger working lm.value c
  meets kl d based = ap (λ (l : LedgerValue). length (l.taken d)) (sym (same kl))

  is_far : IsReady sc owner xo xn lo ln → IsAsFar working f c
  is_far ready = far_told sc lo lm standings bases told count apart f start working w ready.made (k_first ready.ledger)

  are_bases : IsReady sc owner xo xn lo ln → AreBases working c
  are_bases ready = bases_told sc lo lm standings bases told count apart working w ready.made (k_first ready.ledger)

  items_next : IsReady sc owner xo xn lo ln → AreNextItems owner xo.value c (put_by s.v)
  items_next ready = subst (λ (o : ℕ). AreNextItems o xo.value c (put_by s.v)) mine (s.next c (is_far ready) (meets ready.ledger) (are_bases ready) ready.outbox (k_then ready.ledger))

  device_known : (d : ℕ) → IsBased working d → IsOfDevice sc d
  device_known d based = device_of_based sc lo lm standings bases told count apart d (among sc lo lm standings bases told count apart working w d based)

  has_gap : IsReady sc owner xo xn lo ln → Skips working owner xo.value (moved_by_all c s.v.taken) → HasGap sc owner xo.value (given_all lo.value s.v.taken)
  has_gap ready skips = record {
    device = d;
    lane = skips.row.lane;
    known = device_known d skips.known;
    held = λ none. absurd (let e : ◌≡◌ {A = Option RecordValue} None (Some skips.row) = sym none ∙ skips.next.is_held in cc);
    behind = subst (λ (n : ℕ). n + 1 < skips.row.lane) at skips.skips;
    gap = skips.next.least (length ((given_all lo.value s.v.taken).taken d) + 1) (omega (arith, at)) (subst (λ (n : ℕ). n + 1 < skips.row.lane) at skips.skips);
  }
    where
      d : ℕ
      d = skips.device

      at : (moved_by_all c s.v.taken).lane d ≡ length ((given_all lo.value s.v.taken).taken d)
      at = lanes_kept owner xo.value lo.value c s.v.taken d (next_items-front owner xo.value c s.v.taken (in_hand s.v.hand ++ s.v.queue) (items_next ready)) refl

  room_is : length s.v.queue ≤ lane_room sc owner
  room_is = subst (λ (n : ℕ). length s.v.queue ≤ n) few s.few

  registered_is : AllByRecursion (IsOfDevice sc) s.v.pruned
  registered_is = elim s.registered [
    | inl all ↦ subst (AllByRecursion (IsOfDevice sc)) (sym all) (all_keys (IsOfDevice sc) bases (λ k p at. device_of_based sc lo lm standings bases told count apart p.0 (based_at bases k p apart at)))
    | inr none ↦ subst (AllByRecursion (IsOfDevice sc)) (sym none) tt
  ]

  -- IN THE WORDS OF THE SCHEME, OF THE LEDGER AS IT STOOD WHEN THE SESSION BEGAN
  service_is : IsReady sc owner xo xn lo ln → IsService sc owner xo.value lo.value s.v
  service_is ready = record {
    items = items_next ready;
    known = all_say (λ i. IsBased working (device_of i)) (λ i. IsOfDevice sc (device_of i)) (put_by s.v) (λ i based. device_known (device_of i) based) s.known;
    working = all_say (λ i. IsBased working (device_of i)) (λ i. IsWorking lo.value (device_of i)) (put_by s.v) (λ i based. works sc lo lm standings bases told count apart working w (k_first ready.ledger) (device_of i) based) s.known;
    room = room_is;
    registered = registered_is;
  }

  ledger_is : Leaves lo ln s.fl (given_all lo.value s.v.taken) (IsImage lo.value s.v.taken (tried_in s.v.hand s.v.queue))
  ledger_is = leaves_then lo lm ln s.fl lo.value (given_all lm.value s.v.taken) (given_all lo.value s.v.taken) (λ w. w ≡ lo.value) (IsImage lm.value s.v.taken (tried_in s.v.hand s.v.queue)) (IsImage lo.value s.v.taken (tried_in s.v.hand s.v.queue)) stays s.ledger
      (λ e. ap (λ l. given_all l s.v.taken) e) (λ e w is. subst (λ l. IsImage l s.v.taken (tried_in s.v.hand s.v.queue) w) e is)

  outbox_is : HasStood lo ln → Leaves xo xn s.fx (pruned_to_all xo.value owner (given_all lo.value s.v.taken) s.v.pruned) (IsPrunedBy sc owner (given_all lo.value s.v.taken) s.v xo.value)
  outbox_is kl = leaves_say xo xn s.fx (pruned_to_all xo.value owner (given_all lo.value s.v.taken) s.v.pruned) (IsCutWith s.v.hand xo.value owner (given_all lo.value s.v.taken) bases s.v.pruned) (IsPrunedBy sc owner (given_all lo.value s.v.taken) s.v xo.value)
      (λ w cut. elim cut [ inl is ↦ inl is | inr some ↦ inr (some.0, (some.1.0, all_say (IsBased bases) (IsOfDevice sc) some.1.0 (λ d based. device_of_based sc lo lm standings bases told count apart d based) some.1.1, some.1.2)) ])
      (subst (λ (z : ℕ × LedgerValue). Leaves xo xn s.fx (pruned_to_all xo.value z.0 (given_all z.1 s.v.taken) s.v.pruned) (IsCutWith s.v.hand xo.value z.0 (given_all z.1 s.v.taken) bases s.v.pruned)) (λ j. (mine j, same kl j)) (s.outbox (k_then kl)))

  -- a clean ledger was live
  opened_is : ln.clean → lo.live
  opened_is clean = live (s.ledger.calls.clean clean)

  taken_is : HasStood lo ln → report.taken ≡ min (added_by lo.value s.v.taken) 18446744073709551615
  taken_is kl = s.taken (k_then kl) ∙ ap (λ (l : LedgerValue). min (added_by l s.v.taken) 18446744073709551615) (same kl)

  unrefused_is : HasStood lo ln → AreUnrefused lo.value s.v.taken
  unrefused_is kl = subst (λ (l : LedgerValue). AreUnrefused l s.v.taken) (same kl) (s.unrefused (k_then kl))

  cause_is : report.fault ≡ Some Store → Rose xo.failures xn.failures ⊎ Rose lo.failures ln.failures
  cause_is is = elim (s.cause is) [
    | inl fx ↦ inl (subst (Counted xo.failures xn.failures) fx s.counted)
    | inr fl ↦ inr (subst (λ (n : ℕ). Counted n ln.failures (Some fault.Store)) stays.calls.cause (subst (Counted lm.failures ln.failures) fl s.ledger.calls.cause))
  ]

  refused_is : report.fault ≡ Some Refused → IsReady sc owner xo xn lo ln → HasGap sc owner xo.value (given_all lo.value s.v.taken) ⊎ IsRefusedHand (given_all lo.value s.v.taken) s.v.hand
  refused_is is ready = elim (s.refused is c (is_far ready) (meets ready.ledger) (are_bases ready) ready.outbox (k_then ready.ledger)) [
    | inl skips ↦ inl (has_gap ready (subst (λ (o : ℕ). Skips working o xo.value (moved_by_all c s.v.taken)) mine skips))
    | inr unfit ↦ inr (subst (λ (l : LedgerValue). IsRefusedHand (given_all l s.v.taken) s.v.hand) (same ready.ledger) unfit)
  ]

  -- without a fault a lane was pruned, since there is one
  cut_is : report.fault ≡ None → 0 < length s.v.pruned
  cut_is none = let same = ap length (s.whole none).pruned in omega (arith, same, some, count, told.same, length-keys_of bases)

  -- and each lane was
  pruned_is : report.fault ≡ None → (device : ℕ) → IsOfDevice sc device → (k : ℕ) × (slice_get s.v.pruned k ≡ Some device)
  pruned_is none d known =
      let z = place_known sc lo lm standings bases told count apart d known in
      (z.place, ap (λ (l : List ℕ). slice_get l z.place) (s.whole none).pruned ∙ key_here bases z.place (d, z.standing.0) z.base)

  -- and nothing comes next of any device whose lane isn't retired
  idle_is : report.fault ≡ None → IsReady sc owner xo xn lo ln → (device : ℕ) → IsOfDevice sc device → IsWorking lo.value device → IsIdle owner xo.value (moved_by_all c s.v.taken) device
  idle_is none ready d known goes_on =
      let z = place_known sc lo lm standings bases told count apart d known in
      let at = w.all (k_first ready.ledger) z.place (d, z.standing.0) z.base goes_on in
      subst (λ (o : ℕ). IsIdle o xo.value (moved_by_all c s.v.taken) d) mine ((s.whole none).idle c (is_far ready) (meets ready.ledger) (are_bases ready) ready.outbox (k_then ready.ledger) at.0 (d, z.standing.0) at.1)

  -- WHATEVER THE STORES MIGHT HAVE HELD
  module _ (sx : IsSound xo) (sl : IsSound lo) (fit : AreFit sc owner xo xn lo ln) where
    stood_outbox : xo.live → HasStood xo xn
    stood_outbox x = record { live = x; lawful = fit.rows x; clean = fit.outbox }

    opened : lo.live
    opened = opened_is fit.ledger

    stood_ledger : HasStood lo ln
    stood_ledger = record { live = opened; lawful = fit.lists opened; clean = fit.ledger }

    is_ready : xo.live → IsReady sc owner xo xn lo ln
    is_ready x = record { outbox = stood_outbox x; ledger = stood_ledger; mine = (fit.mine opened).0; made = (fit.mine opened).1 }

    is_finished : xo.live → report.fault ≡ None → IsFinished sc owner xo.value lo.value s.v
    is_finished x is = record {
      hand = (s.whole is).hand;
      queue = (s.whole is).queue;
      rows = λ d known goes_on lane lt. (idle_is is (is_ready x) d known goes_on).rows lane lt;
      days = λ d known goes_on day le day_is. (idle_is is (is_ready x) d known goes_on).statements day le day_is;
      pruned = λ d known. let at = pruned_is is d known in any_here s.v.pruned at.0 d at.1;
    }

    is_service : (x : OutboxValue) → MayHold xo x → IsService sc owner x lo.value s.v
    is_service x may = by (put_by s.v) refl
      where
        from_live : xo.live → IsService sc owner x lo.value s.v
        from_live live = subst (λ z. IsService sc owner z lo.value s.v) (sym (held_is xo x sx live fit.rows may)) (service_is (is_ready live))

        by : (items : List Item) → put_by s.v ≡ items → IsService sc owner x lo.value s.v
        by (i ∷ is) e = from_live (s.begun (subst (λ (l : List Item). 0 < length l) (sym e) (omega arith)) fit.outbox)
        by [] e = record {
          items = subst (AreNextItems owner x c) (sym e) tt;
          known = subst (AllByRecursion (λ i. IsOfDevice sc (device_of i))) (sym e) tt;
          working = subst (AllByRecursion (λ i. IsWorking lo.value (device_of i))) (sym e) tt;
          room = room_is;
          registered = registered_is;
        }

    caused : xo.live → report.fault ≡ Some Refused → HasCause sc owner s.v xo.value lo.value
    caused x is = elim (refused_is is (is_ready x)) [ inl gap ↦ inl gap | inr unfit ↦ inr (by s.v.hand refl unfit) ]
      where
        by : (hand : Option Item) → s.v.hand ≡ hand → IsRefusedHand (given_all lo.value s.v.taken) hand → (i : Item) × (s.v.hand ≡ Some i) × ShowsWhy owner xo.value (given_all lo.value s.v.taken) i
        by None e unfit = absurd unfit
        by (Some i) e unfit = (i, e, refused_shows_why sc owner xo.value lo.value s.v i (fit.mine opened).0 (fit.mine opened).1 (service_is (is_ready x)) e unfit)

    says : (x : OutboxValue) (l : LedgerValue) → MayHold xo x → MayHold lo l → SaysOfService sc owner s.v report x l
    says x l mx ml = subst (SaysOfService sc owner s.v report x) (sym (held_is lo l sl opened fit.lists ml)) (record {
      service = is_service x mx;
      unrefused = unrefused_is stood_ledger;
      taken = taken_is stood_ledger;
      refused = λ is.
          let live = s.skipped is fit.outbox in
          subst (λ z. HasCause sc owner s.v z lo.value) (sym (held_is xo x sx live fit.rows mx)) (caused live is);
      whole = λ is.
          let live = s.cut (cut_is is) fit.outbox in
          subst (λ z. IsFinished sc owner z lo.value s.v) (sym (held_is xo x sx live fit.rows mx)) (is_finished live is);
    })

    -- THE LEDGER
    ledger_at : (m : LedgerValue) → MayHold ln m → IsTakenBy s.v lo.value m
    ledger_at m (inl is) = image_none lo.value s.v.taken (tried_in s.v.hand s.v.queue) m (is.1 ∙ (ledger_is.calls.value is.0 (fit.lists opened)).1)
    ledger_at m (inr left) = ledger_is.left stood_ledger m left

    -- THE OUTBOX
    -- with nothing in the hand the ledger has what was taken and nothing else
    sole : (m : LedgerValue) → MayHold ln m → s.v.hand ≡ None → m ≡ given_all lo.value s.v.taken
    sole m may none = image_sole lo.value s.v.taken s.v.queue s.v.hand m none (ledger_at m may)

    -- where an item is in the hand no lane is pruned, by whatever ledger
    cut_by : (m : LedgerValue) → MayHold ln m → (x y : OutboxValue) → IsPrunedBy sc owner (given_all lo.value s.v.taken) s.v x y → IsPrunedBy sc owner m s.v x y
    cut_by m may x y cut = by s.v.hand refl
      where
        by : (hand : Option Item) → s.v.hand ≡ hand → IsPrunedBy sc owner m s.v x y
        by None none = subst (λ z. IsPrunedBy sc owner z s.v x y) (sym (sole m may none)) cut
        by (Some i) is =
            let ds = s.unpruned i is in
            elim cut [
              | inl same ↦ inl (same ∙ ap (pruned_to_all x owner (given_all lo.value s.v.taken)) ds ∙ sym (ap (pruned_to_all x owner m) ds))
              | inr some ↦ absurd (let none : ◌≡◌ {A = Option Item} None (Some i) = sym some.0 ∙ is in cc)
            ]

    outbox_at : (m : LedgerValue) → MayHold ln m → (y : OutboxValue) → MayHold xn y → (x : OutboxValue) × MayHold xo x × IsPrunedBy sc owner m s.v x y
    outbox_at m may y (inl is) =
        let calls = (outbox_is stood_ledger).calls in
        let live = calls.live is.0 in
        (xo.value, inl (live, refl), cut_by m may xo.value y (inl (is.1 ∙ (calls.value is.0 (fit.rows live)).1)))
    outbox_at m may y (inr left) = elim ((outbox_is stood_ledger).calls.stop fit.outbox fit.rows y left) [
      | inl before ↦ by s.v.pruned refl before
      | inr done ↦ (xo.value, inl (done.0, refl), cut_by m may xo.value y done.1)
    ]
      where
        by : (ds : List ℕ) → s.v.pruned ≡ ds → xo.may_leave y → (x : OutboxValue) × MayHold xo x × IsPrunedBy sc owner m s.v x y
        by [] none before = (y, inr before, inl (sym (ap (pruned_to_all y owner m) none)))
        by (d ∷ ds) is before =
            let live = s.cut (subst (λ (l : List ℕ). 0 < length l) (sym is) (omega arith)) fit.outbox in
            (xo.value, inl (live, refl), cut_by m may xo.value y ((outbox_is stood_ledger).left (stood_outbox live) y left))

    outbox_holds : ln.live → xn.live → xn.value ≡ pruned_to_all xo.value owner ln.value s.v.pruned
    outbox_holds ledger live =
        let out = (outbox_is stood_ledger).calls in
        (out.value live (fit.rows (out.live live))).1 ∙ ap (λ l. pruned_to_all xo.value owner l s.v.pruned) (sym (ledger_is.calls.value ledger (fit.lists opened)).1)

    both_stay : report.fault ≡ None → xn.live × ln.live
    both_stay is =
        let none = s.stays is in
        ((outbox_is stood_ledger).calls.stays none.0 (s.cut (cut_is is) fit.outbox) fit.outbox, ledger_is.calls.stays none.1 opened fit.ledger)

  pub served_from : IsSound xo → IsSound lo → IsServed sc owner xo xn lo ln report
  served_from sx sl = record {
    v = s.v;
    says = λ fit x l mx ml. says sx sl fit x l mx ml;
    ledger = λ fit. record { leads = λ m may. (lo.value, inl (opened sx sl fit, refl), ledger_at sx sl fit m may) };
    outbox = λ fit m may. record { leads = outbox_at sx sl fit m may };
    ledger_holds = λ fit live. (ledger_is.calls.value live (fit.lists (ledger_is.calls.live live))).1;
    outbox_holds = λ fit ledger live. outbox_holds sx sl fit ledger live;
    dated = s.dated;
    order = s.unpruned;
    left = s.left;
    kinds = s.owners;
    cause = cause_is;
    stays = λ is fit. both_stay sx sl fit is;
    outbox_follows = s.follows;
    ledger_follows = follows_call lo ln s.fl (ln.value ≡ given_all lo.value s.v.taken) (IsImage lo.value s.v.taken (tried_in s.v.hand s.v.queue)) ledger_is.calls;
  }
