-- What a forwarder's thread handed on, item by item.
use Rattle.std.proofs.Common.{◌≡◌, ◌≢◌, ℕ, zero, suc, ◌+◌, ◌<◌, ◌≤◌, Some, None, Bool, true, false, List, [], ◌∷◌, ◌++◌, length, map, refl, sym, ap, ◌∙◌, subst, arith, length-append}
use Rattle.std.specs.Prelude.{nat_eq, slice_get, get_or, unwrap_or, ◌==◌, ◌&&◌, filter, if◌then◌else◌, Option, option_map, is_some, Result, Ok, Err}
use Rattle.std.proofs.lemmas.Bool.Decides.{Decides-eqb, nat_tests}
use Rattle.std.proofs.lemmas.List.{append-nil, map-append}
use Rattle.std.proofs.lemmas.List.Elements.{filter-append}
use Rattle.std.proofs.lemmas.Option.{same_Some, slice_get_within}
use Rattle.std.proofs.lemmas.Map.Entries.{lookup_from_place, length-keys_of}
use Rattle.std.proofs.lemmas.Map.Keys.{apart_from_distinct}
use Rattle.std.specs.Cmp.{nat_eq_equiv}
use Rattle.std.specs.Map.{keys_of}
use Rattle.fare_record.specs.Values.{RecordValue}
use Rattle.fare_record.specs.declared.item.Item.{Item}
use Rattle.fare_record.specs.declared.item.Item.TheVariants.{Tap, Stated}
use Rattle.fare_route.specs.declared.cursor.Cursor.{Cursor}
use Rattle.fare_route.specs.declared.forwarder.Forwarder.{Forwarder}
use Rattle.fare_route.specs.Cursors.{moved, undone}
use Rattle.fare_route.specs.Routing.{cursor_of, changed, IsNext, IsNextOf, NoRow}
use Rattle.fare_lane_queue.specs.Lane.{base_of, taps_of, lanes_of}
use Rattle.fare_store.specs.Standing.{Standing, IsSound}
use Rattle.fare_store.specs.OutboxWords.{OutboxValue, IsLeastRow, IsLeastStatement}
use Rattle.fare_session.specs.declared.fault.SessionFault.{SessionFault}
use Rattle.fare_session.specs.declared.fault.SessionFault.TheVariants.{Refused}
use Rattle.fare_history.specs.Serving.{Cursors, device_of, moved_by, moved_by_all, IsNextItem, IsComingStatement}
use Rattle.fare_session.specs.Stores.{stored_fault, HasStood}
use Rattle.fare_session.specs.Forwarding.{is_due, lane_after, IsIdle, IsBased, HasCursors, IsAsFar, AreBases, Skips, AreApart, ForwardedIf, IsNextDue, Finds, fault_due}
use Rattle.fare_session.proofs.StoreCalls.{stays_none, stays_then, stood_first, stood_then, stood_value}
use Rattle.fare_session.proofs.Services.{moved_by_all-append, next_items-append, all-append}

-- LANES
taps_of-append : (xs ys : List Item) → taps_of (xs ++ ys) ≡ taps_of xs ++ taps_of ys
taps_of-append [] ys = refl
taps_of-append (Tap r ∷ xs) ys = ap (λ l. r ∷ l) (taps_of-append xs ys)
taps_of-append (Stated s ∷ xs) ys = taps_of-append xs ys

pub lanes_of-append : (device : ℕ) (xs ys : List Item) → lanes_of device (xs ++ ys) ≡ lanes_of device xs ++ lanes_of device ys
lanes_of-append device xs ys = simp (taps_of-append, filter-append, map-append)

lanes_of_tap : (device : ℕ) (r : RecordValue) (same : Bool) → (r.device == device) ≡ same → lanes_of device (Tap r ∷ []) ≡ (if same then r.lane ∷ [] else [])
lanes_of_tap device r true is = ap (λ (b : Bool). map (λ (x : RecordValue). x.lane) (if b then r ∷ [] else [])) is
lanes_of_tap device r false is = ap (λ (b : Bool). map (λ (x : RecordValue). x.lane) (if b then r ∷ [] else [])) is

-- an item that is due is of the device, and a tap has its lane's next number
both_true : (a b : Bool) → (a && b) ≡ true → (a ≡ true) × (b ≡ true)
both_true true b e = (refl, e)
both_true false b e = absurd (cc)

pub due_device : (i : Item) (device reached : ℕ) → is_due i device reached ≡ true → device_of i ≡ device
due_device (Tap r) device reached e = (Decides-eqb r.device device).0 (both_true (r.device == device) (r.lane == reached + 1) e).0
due_device (Stated s) device reached e = (Decides-eqb s.device device).0 e

pub due_lane : (r : RecordValue) (device reached : ℕ) → is_due (Tap r) device reached ≡ true → r.lane ≡ reached + 1
due_lane r device reached e = (Decides-eqb r.lane (reached + 1)).0 (both_true (r.device == device) (r.lane == reached + 1) e).1

-- how far the lanes are behind one item more
pub lane_more : (sent : List Item) (i : Item) (device reached base : ℕ) → is_due i device reached ≡ true → reached ≡ base + length (lanes_of device sent) → lane_after i reached ≡ base + length (lanes_of device (sent ++ i ∷ []))
lane_more sent (Tap r) device reached base due at =
    let here : lanes_of device (Tap r ∷ []) ≡ r.lane ∷ [] = lanes_of_tap device r true (both_true (r.device == device) (r.lane == reached + 1) due).0 in
    let more : lanes_of device (sent ++ Tap r ∷ []) ≡ lanes_of device sent ++ (r.lane ∷ []) = lanes_of-append device sent (Tap r ∷ []) ∙ ap (λ l. lanes_of device sent ++ l) here in
    let n = ap length more in
    let is = due_lane r device reached due in
    omega (arith, n, is, at, length-append (lanes_of device sent) (r.lane ∷ []))
lane_more sent (Stated s) device reached base due at =
    let more : lanes_of device (sent ++ Stated s ∷ []) ≡ lanes_of device sent = lanes_of-append device sent (Stated s ∷ []) ∙ append-nil (lanes_of device sent) in
    at ∙ ap (λ (l : List ℕ). base + length l) (sym more)

pub lanes_others : (sent : List Item) (i : Item) (device : ℕ) → device_of i ≢ device → lanes_of device (sent ++ i ∷ []) ≡ lanes_of device sent
lanes_others sent (Tap r) device apart = lanes_of-append device sent (Tap r ∷ []) ∙ ap (λ l. lanes_of device sent ++ l) (by (r.device == device) refl) ∙ append-nil (lanes_of device sent)
  where
    by : (b : Bool) → (r.device == device) ≡ b → lanes_of device (Tap r ∷ []) ≡ []
    by true e = absurd (apart ((Decides-eqb r.device device).0 e))
    by false e = lanes_of_tap device r false e
lanes_others sent (Stated s) device apart = lanes_of-append device sent (Stated s ∷ []) ∙ append-nil (lanes_of device sent)

-- CURSORS
abbrev place_in : Option Cursor → Option (ℕ × ℕ)
place_in o = option_map (λ (z : Cursor). (z.lane, z.day)) o

abbrev put_at : {A : Type 0} → Bool → A → A → A
put_at b new old = if b then new else old

place_moved : (i : Item) (c : Cursors) (d : ℕ) (b : Bool) (o : Option Cursor) → (d == device_of i) ≡ b → place_in o ≡ Some (c.lane d, c.day d) → place_in (if b then option_map (moved (Some i)) o else o) ≡ Some ((moved_by c i).lane d, (moved_by c i).day d)
place_moved i c d b None is here = absurd (cc)
place_moved (Tap r) c d true (Some x) is here = λ k. Some ((sym (ap (λ q. if q then r.lane else c.lane d) is)) k, (ap (λ (p : ℕ × ℕ). p.1) (same_Some _ _ here)) k)
place_moved (Tap r) c d false (Some x) is here = here ∙ (λ k. Some ((sym (ap (λ q. if q then r.lane else c.lane d) is)) k, c.day d))
place_moved (Stated s) c d true (Some x) is here = λ k. Some ((ap (λ (p : ℕ × ℕ). p.0) (same_Some _ _ here)) k, (sym (ap (λ q. if q then s.day + 1 else c.day d) is)) k)
place_moved (Stated s) c d false (Some x) is here = here ∙ (λ k. Some (c.lane d, (sym (ap (λ q. if q then s.day + 1 else c.day d) is)) k))

-- one item more was handed on
pub far_moved : (bases : List (ℕ × ℕ)) (f g : Forwarder) (c : Cursors) (i : Item) (device : ℕ) → device_of i ≡ device → ((other : ℕ) → cursor_of g other ≡ changed (moved (Some i)) (cursor_of f) device other) → IsAsFar bases f c → IsAsFar bases g (moved_by c i)
far_moved bases f g c i device is moves far = record { at = λ d based. ap place_in (moves d ∙ ap (λ k. if d == k then option_map (moved (Some i)) (cursor_of f d) else cursor_of f d) (sym is)) ∙ place_moved i c d (d == device_of i) (cursor_of f d) refl (far.at d based) }

some_mapped : (b : Bool) (f : Cursor → Cursor) (o : Option Cursor) → is_some (if b then option_map f o else o) ≡ is_some o
some_mapped true f None = refl
some_mapped true f (Some x) = refl
some_mapped false f o = refl

pub some_changed : (f : Cursor → Cursor) (table : ℕ → Option Cursor) (device d : ℕ) → is_some (changed f table device d) ≡ is_some (table d)
some_changed f table device d = some_mapped (d == device) f (table d)

place_stays : (b : Bool) (f : Cursor → Cursor) (o : Option Cursor) → ((c : Cursor) → ◌≡◌ {A = ℕ × ℕ} ((f c).lane, (f c).day) (c.lane, c.day)) → place_in (if b then option_map f o else o) ≡ place_in o
place_stays true f None same = refl
place_stays true f (Some c) same = ap Some (same c)
place_stays false f o same = refl

pub far_stays : (bases : List (ℕ × ℕ)) (f g : Forwarder) (c : Cursors) (device : ℕ) → ((other : ℕ) → cursor_of g other ≡ changed (moved None) (cursor_of f) device other) → IsAsFar bases f c → IsAsFar bases g c
far_stays bases f g c device moves far = record { at = λ d based. ap place_in (moves d) ∙ place_stays (d == device) (moved None) (cursor_of f d) (λ x. refl) ∙ far.at d based }

-- what was handed on was put back
twice : (b : Bool) (f g : Cursor → Cursor) (o : Option Cursor) → (if b then option_map g (if b then option_map f o else o) else (if b then option_map f o else o)) ≡ (if b then option_map (λ c. g (f c)) o else o)
twice true f g None = refl
twice true f g (Some c) = refl
twice false f g o = refl

undone_place : (i : Item) (c : Cursor) → ◌≡◌ {A = ℕ × ℕ} ((undone (moved (Some i) c)).lane, (undone (moved (Some i) c)).day) (c.lane, c.day)
undone_place (Tap r) c = refl
undone_place (Stated s) c = refl

pub far_undone : (bases : List (ℕ × ℕ)) (f g h : Forwarder) (c : Cursors) (i : Item) (device : ℕ) → ((other : ℕ) → cursor_of g other ≡ changed (moved (Some i)) (cursor_of f) device other) → ((other : ℕ) → cursor_of h other ≡ changed undone (cursor_of g) device other) → IsAsFar bases f c → IsAsFar bases h c
far_undone bases f g h c i device first second far = record {
  at = λ d based.
      ap place_in (second d ∙ ap (λ o. if d == device then option_map undone o else o) (first d) ∙ twice (d == device) (moved (Some i)) undone (cursor_of f d))
      ∙ place_stays (d == device) (λ x. undone (moved (Some i) x)) (cursor_of f d) (undone_place i) ∙ far.at d based;
}

-- WHAT COMES NEXT
-- what follows a cursor that has come so far
cursor_here : (x : OutboxValue) (owner device lane day : ℕ) (o : Option Cursor) (item : Option Item) → option_map {U = ℕ × ℕ} (λ (z : Cursor). (z.lane, z.day)) o ≡ Some (lane, day) → IsNextOf x owner device o item → IsNext x owner device (record { lane = lane; day = day; before = None }) item
cursor_here x owner device lane day None item at next = absurd next
cursor_here x owner device lane day (Some z) None at next = (λ n lt. next.0 n (subst (λ (k : ℕ). k < n) (sym here) lt), λ n le. next.1 n (subst (λ (k : ℕ). k ≤ n) (sym from) le))
  where
    here : z.lane ≡ lane
    here = ap (λ (p : ℕ × ℕ). p.0) (same_Some (z.lane, z.day) (lane, day) at)

    from : z.day ≡ day
    from = ap (λ (p : ℕ × ℕ). p.1) (same_Some (z.lane, z.day) (lane, day) at)
cursor_here x owner device lane day (Some z) (Some (Tap r)) at next = subst (λ (k : ℕ). IsLeastRow x.rows owner device k r) (ap (λ (p : ℕ × ℕ). p.0) (same_Some (z.lane, z.day) (lane, day) at)) next
cursor_here x owner device lane day (Some z) (Some (Stated s)) at next = subst (λ (k : ℕ × ℕ). NoRow x owner device k.0 × IsLeastStatement x.stated owner device k.1 s) (same_Some (z.lane, z.day) (lane, day) at) next

pub found_next : (bases : List (ℕ × ℕ)) (x : OutboxValue) (f : Forwarder) (c : Cursors) (device : ℕ) (item : Option Item) → IsAsFar bases f c → IsBased bases device → IsNextOf x f.owner device (cursor_of f device) item → IsNext x f.owner device (record { lane = c.lane device; day = c.day device; before = None }) item
found_next bases x f c device item far based next = cursor_here x f.owner device (c.lane device) (c.day device) (cursor_of f device) item (far.at device based) next

-- an item that follows, and is due, is the next one
pub next_due : (x : OutboxValue) (owner : ℕ) (c : Cursors) (device reached : ℕ) (i : Item) → c.lane device ≡ reached → is_due i device reached ≡ true → IsNext x owner device (record { lane = c.lane device; day = c.day device; before = None }) (Some i) → IsNextItem owner x c i
next_due x owner c device reached (Tap r) at due next = record {
  mine = next.of_owner;
  lane = here;
  held = ap (λ (d : ℕ). x.rows owner d (c.lane d + 1)) next.of_device ∙ ap (x.rows owner device) (sym lane) ∙ next.is_held;
}
  where
    lane : r.lane ≡ c.lane device + 1
    lane = due_lane r device reached due ∙ ap (λ (n : ℕ). n + 1) (sym at)

    here : r.lane ≡ c.lane r.device + 1
    here = lane ∙ ap (λ (d : ℕ). c.lane d + 1) (sym next.of_device)
next_due x owner c device reached (Stated s) at due next = coming
  where
    is : s.device ≡ device
    is = next.1.of_device

    coming : IsComingStatement owner x c s
    coming = record {
      mine = next.1.of_owner;
      held = ap (λ (d : ℕ). x.stated owner d s.day) is ∙ next.1.is_held;
      from_there = subst (λ (d : ℕ). c.day d ≤ s.day) (sym is) next.1.not_before;
      least = λ day from lt. ap (λ (d : ℕ). x.stated owner d day) is ∙ next.1.least day (subst (λ (d : ℕ). c.day d ≤ day) is from) lt;
      last = λ lane lt. ap (λ (d : ℕ). x.rows owner d lane) is ∙ next.0 lane (subst (λ (d : ℕ). c.lane d < lane) is lt);
    }

-- one that follows and is not due skips a lane number
pub skips_due : (bases : List (ℕ × ℕ)) (x : OutboxValue) (owner : ℕ) (c : Cursors) (device reached : ℕ) (i : Item) → IsBased bases device → c.lane device ≡ reached → is_due i device reached ≡ false → IsNext x owner device (record { lane = c.lane device; day = c.day device; before = None }) (Some i) → Skips bases owner x c
skips_due bases x owner c device reached (Tap r) based at due next = record { device = device; row = r; known = based; next = next; skips = beyond }
  where
    here : (r.device == device) ≡ true
    here = let is = next.of_device in grind (arith, nat_tests)

    other : (r.lane == reached + 1) ≡ false
    other = sym (ap (λ b. b && (r.lane == reached + 1)) here) ∙ due

    beyond : c.lane device + 1 < r.lane
    beyond = let b = next.behind in let e = other in let a = at in grind (arith, nat_tests)
skips_due bases x owner c device reached (Stated s) based at due next = absurd (let is = next.1.of_device in grind (arith, nat_tests))

-- FORWARDING
-- nothing was handed on
pub forwarded_none : (meets : Cursors → Type 0) (bases : List (ℕ × ℕ)) (a : Standing OutboxValue) (f : Forwarder) → IsSound a → HasCursors bases f → ForwardedIf meets bases a a f f [] None
forwarded_none meets bases a f sound has = record {
  stays = stays_none a sound;
  owners = tt;
  begun = λ lt. absurd (omega (arith, lt));
  skipped = λ e. absurd (cc);
  owner = refl;
  cursors = has;
  known = tt;
  forwards = λ c far based. record { next = λ k. tt; at = λ e. far; refused = λ e. absurd (cc) };
}

module _ (meets : Cursors → Type 0) (bases : List (ℕ × ℕ)) (a b c : Standing OutboxValue) (f g h : Forwarder) (items : List Item) (device reached : ℕ) (based : IsBased bases device) (far_by : (d : Cursors) → IsAsFar bases f d → meets d → HasStood a c → (moved_by_all d items).lane device ≡ reached) (fw : ForwardedIf meets bases a b f g items None) where
  -- a clean outbox that was answered for was live
  answered : {result : Result (Option Item) SessionFault} → stored_fault (fault_due result) ≡ None → IsNextDue b c g h device reached result → c.clean → a.live
  answered {result} e nd clean = fw.stays.calls.live (nd.stays.calls.live (nd.answered e clean))

  module _ (result : Result (Option Item) SessionFault) (nd : IsNextDue b c g h device reached result) where
    first : HasStood a c → HasStood a b
    first k = stood_first a b c (stored_fault (fault_due result)) b.value (λ w. w ≡ b.value) nd.stays k

    behind : HasStood a c → HasStood b c
    behind k = stood_then a b c (stored_fault (fault_due result)) b.value a.value (λ w. w ≡ b.value) (λ w. w ≡ a.value) fw.stays nd.stays k

    same : HasStood a c → b.value ≡ a.value
    same k = stood_value a b a.value (λ w. w ≡ a.value) fw.stays (first k)

    has_cursors : HasCursors bases h
    has_cursors d is = nd.cursors d (fw.cursors d is)

    pub follows : (d : Cursors) → IsAsFar bases f d → meets d → (item : Option Item) → HasStood a c → IsNextOf b.value g.owner device (cursor_of g device) item → IsNext a.value f.owner device (record { lane = (moved_by_all d items).lane device; day = (moved_by_all d items).day device; before = None }) item
    follows d far bs item k next =
        subst (λ (z : OutboxValue × ℕ). IsNext z.0 z.1 device (record { lane = (moved_by_all d items).lane device; day = (moved_by_all d items).day device; before = None }) item) (λ j. (same k j, fw.owner j))
        (found_next bases b.value g (moved_by_all d items) device item ((fw.forwards d far bs).at refl) based next)

  -- the item that comes next behind these
  pub next_behind : (i : Item) → IsNextDue b c g h device reached (Ok (Some i)) → (d : Cursors) → IsAsFar bases f d → meets d → HasStood a c → IsNextItem f.owner a.value (moved_by_all d items) i
  next_behind i nd d far is k = next_due a.value f.owner (moved_by_all d items) device reached i (far_by d far is k) nd.found.1 (follows (Ok (Some i)) nd d far is (Some i) k (nd.found.0 (behind (Ok (Some i)) nd k)))

  -- nothing comes next behind them
  pub idle_behind : IsNextDue b c g h device reached (Ok None) → (d : Cursors) → IsAsFar bases f d → meets d → HasStood a c → IsIdle f.owner a.value (moved_by_all d items) device
  idle_behind nd d far is k =
      let next = follows (Ok None) nd d far is None k (nd.found.0 (behind (Ok None) nd k)) in
      record { rows = next.0; statements = next.1 }

  -- one item more
  pub forwarded_more : (i : Item) → IsNextDue b c g h device reached (Ok (Some i)) → ForwardedIf meets bases a c f h (items ++ i ∷ []) None
  forwarded_more i nd = record {
    stays = stays_then a b c None fw.stays nd.stays;
    owners = tt;
    begun = λ lt. answered refl nd;
    skipped = λ e. absurd (cc);
    owner = nd.owner ∙ fw.owner;
    cursors = has_cursors (Ok (Some i)) nd;
    known = all-append (λ j. IsBased bases (device_of j)) items (i ∷ []) fw.known (subst (IsBased bases) (sym is) based, tt);
    forwards = λ d far bs. record {
      next = λ k. next_items-append f.owner a.value d items (i ∷ []) ((fw.forwards d far bs).next (first (Ok (Some i)) nd k))
          (next_behind i nd d far bs k, tt);
      at = λ e. subst (IsAsFar bases h) (sym (moved_by_all-append d items (i ∷ []))) (far_moved bases g h (moved_by_all d items) i device is nd.found.2 ((fw.forwards d far bs).at refl));
      refused = λ e. absurd (cc);
    };
  }
    where
      is : device_of i ≡ device
      is = due_device i device reached nd.found.1

  -- nothing more
  pub forwarded_idle : IsNextDue b c g h device reached (Ok None) → ForwardedIf meets bases a c f h items None
  forwarded_idle nd = record {
    stays = stays_then a b c None fw.stays nd.stays;
    owners = tt;
    begun = λ lt. answered refl nd;
    skipped = λ e. absurd (cc);
    owner = nd.owner ∙ fw.owner;
    cursors = has_cursors (Ok None) nd;
    known = fw.known;
    forwards = λ d far bs. record {
      next = λ k. (fw.forwards d far bs).next (first (Ok None) nd k);
      at = λ e. far_stays bases g h (moved_by_all d items) device nd.found.2 ((fw.forwards d far bs).at refl);
      refused = λ e. absurd (cc);
    };
  }

  -- an item that was put back
  pub forwarded_back : (i : Item) (z : Forwarder) → IsNextDue b c g h device reached (Ok (Some i)) → ((other : ℕ) → cursor_of z other ≡ changed undone (cursor_of h) device other) → z.owner ≡ h.owner → ForwardedIf meets bases a c f z items None
  forwarded_back i z nd back owner = record {
    stays = stays_then a b c None fw.stays nd.stays;
    owners = tt;
    begun = λ lt. answered refl nd;
    skipped = λ e. absurd (cc);
    owner = owner ∙ nd.owner ∙ fw.owner;
    cursors = λ d is. ap is_some (back d) ∙ some_changed undone (cursor_of h) device d ∙ has_cursors (Ok (Some i)) nd d is;
    known = fw.known;
    forwards = λ d far bs. record {
      next = λ k. (fw.forwards d far bs).next (first (Ok (Some i)) nd k);
      at = λ e. far_undone bases g h z (moved_by_all d items) i device nd.found.2 back ((fw.forwards d far bs).at refl);
      refused = λ e. absurd (cc);
    };
  }

  -- it failed, or the lane has a gap
  pub forwarded_failed : (e : SessionFault) → IsNextDue b c g h device reached (Err e) → ForwardedIf meets bases a c f h items (Some e)
  forwarded_failed e nd = record {
    stays = stays_then a b c (stored_fault (Some e)) fw.stays nd.stays;
    owners = nd.owners;
    begun = λ lt clean. fw.begun lt (nd.stays.calls.clean clean);
    skipped = λ is. answered (ap stored_fault is) nd;
    owner = nd.owner ∙ fw.owner;
    cursors = has_cursors (Err e) nd;
    known = fw.known;
    forwards = λ d far bs. record {
      next = λ k. (fw.forwards d far bs).next (first (Err e) nd k);
      at = λ none. absurd (cc);
      refused = λ is k.
          let found = subst (λ z. Finds (HasStood b c) b.value g h device reached (Err z)) (same_Some e Refused is) nd.found (behind (Err e) nd k) in
          skips_due bases a.value f.owner (moved_by_all d items) device reached found.0 based (far_by d far bs k) found.2 (follows (Err e) nd d far bs (Some found.0) k found.1);
    };
  }

-- under another condition
pub forwarded_if : (P Q : Cursors → Type 0) (bases : List (ℕ × ℕ)) (a b : Standing OutboxValue) (f g : Forwarder) (items : List Item) (fault : Option SessionFault) → ((d : Cursors) → Q d → P d) → ForwardedIf P bases a b f g items fault → ForwardedIf Q bases a b f g items fault
forwarded_if P Q bases a b f g items fault say fw = record { stays = fw.stays; owners = fw.owners; begun = fw.begun; skipped = fw.skipped; owner = fw.owner; cursors = fw.cursors; known = fw.known; forwards = λ d far meets. fw.forwards d far (say d meets) }

-- WHERE A DEVICE'S TURN BEGINS
-- a device of which no tap was handed on is where it was
pub unmoved : (items : List Item) (c : Cursors) (device : ℕ) → lanes_of device items ≡ [] → (moved_by_all c items).lane device ≡ c.lane device
unmoved [] c device none = refl
unmoved (Stated s ∷ items) c device none = unmoved items (moved_by c (Stated s)) device none
unmoved (Tap r ∷ items) c device none = by (r.device == device) refl (λ rest. unmoved items (moved_by c (Tap r)) device rest)
  where
    others : List RecordValue
    others = filter (λ (x : RecordValue). x.device == device) (taps_of items)

    lanes : (b : Bool) → (r.device == device) ≡ b → map (λ (x : RecordValue). x.lane) (if b then r ∷ others else others) ≡ []
    lanes b e = sym (ap (λ (q : Bool). map (λ (x : RecordValue). x.lane) (if q then r ∷ others else others)) e) ∙ none

    by : (b : Bool) → (r.device == device) ≡ b → (lanes_of device items ≡ [] → (moved_by_all (moved_by c (Tap r)) items).lane device ≡ (moved_by c (Tap r)).lane device) → (moved_by_all (moved_by c (Tap r)) items).lane device ≡ c.lane device
    by true e rest = absurd (let m = lanes true e in cc)
    by false e rest = rest (lanes false e) ∙ ap (λ q. if q then r.lane else c.lane device) other
      where
        other : (device == r.device) ≡ false
        other = grind (arith, nat_tests)

-- THE DEVICES ONE BY ONE
pub base_at : (bases : List (ℕ × ℕ)) (k : ℕ) (p : ℕ × ℕ) → AreApart bases → slice_get bases k ≡ Some p → base_of bases p.0 ≡ p.1
base_at bases k p apart at = ap (λ (o : Option ℕ). unwrap_or o 0) (lookup_from_place nat_eq_equiv bases k p.0 p.1 apart at)

pub based_at : (bases : List (ℕ × ℕ)) (k : ℕ) (p : ℕ × ℕ) → AreApart bases → slice_get bases k ≡ Some p → IsBased bases p.0
based_at bases k p apart at = ap is_some (lookup_from_place nat_eq_equiv bases k p.0 p.1 apart at)

key_at : (bases : List (ℕ × ℕ)) (k d : ℕ) (p : ℕ × ℕ) → slice_get bases k ≡ Some p → get_or (keys_of bases) k d ≡ p.0
key_at [] k d p e = absurd (cc)
key_at (b ∷ bs) zero d p e = ap (λ (z : ℕ × ℕ). z.0) (same_Some b p e)
key_at (b ∷ bs) (suc k) d p e = key_at bs k d p e

pub apart_at : (bases : List (ℕ × ℕ)) (j k : ℕ) (p q : ℕ × ℕ) → AreApart bases → j < k → slice_get bases j ≡ Some p → slice_get bases k ≡ Some q → p.0 ≢ q.0
apart_at bases j k p q apart lt at there same =
    let within = slice_get_within bases k q there in
    let unlike = apart_from_distinct nat_eq (keys_of bases) j k 0 apart lt (omega (arith, within, length-keys_of bases)) in
    let here : nat_eq p.0 q.0 ≡ false = sym (λ i. nat_eq (key_at bases j 0 p at i) (key_at bases k 0 q there i)) ∙ unlike in
    absurd (grind (arith, nat_tests))

-- a device whose turn has come
pub begun : (bases : List (ℕ × ℕ)) (items : List Item) (k : ℕ) (p : ℕ × ℕ) → AreApart bases → slice_get bases k ≡ Some p → lanes_of p.0 items ≡ [] → p.1 ≡ base_of bases p.0 + length (lanes_of p.0 items)
begun bases items k p apart at none = let n = ap length none in let b = base_at bases k p apart at in omega (arith, n, b)

pub begun_far : (bases : List (ℕ × ℕ)) (items : List Item) (k : ℕ) (p : ℕ × ℕ) (c : Cursors) → AreApart bases → slice_get bases k ≡ Some p → lanes_of p.0 items ≡ [] → AreBases bases c → (moved_by_all c items).lane p.0 ≡ p.1
begun_far bases items k p c apart at none based = unmoved items c p.0 none ∙ based.base p.0 (based_at bases k p apart at) ∙ base_at bases k p apart at

-- one more item of the device
pub far_more : (items : List Item) (i : Item) (c : Cursors) (device reached : ℕ) → is_due i device reached ≡ true → (moved_by_all c items).lane device ≡ reached → (moved_by_all c (items ++ i ∷ [])).lane device ≡ lane_after i reached
far_more items (Tap r) c device reached due at = ap (λ (z : Cursors). z.lane device) (moved_by_all-append c items (Tap r ∷ [])) ∙ ap (λ q. if q then r.lane else (moved_by_all c items).lane device) same
  where
    same : (device == r.device) ≡ true
    same = let is = due_device (Tap r) device reached due in grind (arith, nat_tests)
far_more items (Stated s) c device reached due at = ap (λ (z : Cursors). z.lane device) (moved_by_all-append c items (Stated s ∷ [])) ∙ at
