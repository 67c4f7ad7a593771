-- The rest of the rows, and the prunes.
use Rattle.std.proofs.Common.{◌≡◌, ◌≢◌, ℕ, ◌+◌, ◌<◌, ◌≤◌, Some, None, Bool, true, false, List, [], ◌∷◌, ◌++◌, length, refl, sym, ap, ◌∙◌, subst, inl, inr, arith, length-append}
use Rattle.std.specs.Prelude.{◌⊎◌, ◌==◌, if◌then◌else◌, slice_get, Option, Result, Ok, Err}
use Rattle.std.proofs.lemmas.Bool.Decides.{Decides-eqb, nat_tests}
use Rattle.std.specs.List.{AllByRecursion}
use Rattle.std.proofs.lemmas.List.{append-nil, append_assoc}
use Rattle.std.proofs.lemmas.Option.{same_Some, slice_get_within}
use Rattle.fare_record.specs.Values.{RecordValue}
use Rattle.fare_record.specs.declared.item.Item.{Item}
use Rattle.fare_record.specs.declared.item.Item.TheVariants.{Tap, Stated}
use Rattle.fare_route.specs.declared.forwarder.Forwarder.{Forwarder}
use Rattle.fare_store.specs.Standing.{Standing, IsSound}
use Rattle.fare_store.specs.OutboxWords.{OutboxValue}
use Rattle.fare_store.specs.LedgerWords.{LedgerValue}
use Rattle.fare_session.specs.declared.fault.SessionFault.{SessionFault}
use Rattle.fare_session.specs.declared.fault.SessionFault.TheVariants.{Refused}
use Rattle.fare_history.specs.Serving.{Cursors, device_of, moved_by, moved_by_all, AreNextItems, given, given_all, in_hand, tried_in}
use Rattle.fare_session.specs.Stores.{stored_fault, IsOwners, HasStood, Stays}
use Rattle.fare_session.specs.Forwarding.{IsIdle, lane_after, IsBased, IsAsFar, HasCursors, ForwardedIf, IsNextDue, Moves, fault_due}
use Rattle.fare_session.specs.Taking.{IsTaken, IsImage}
use Rattle.fare_session.specs.Resting.{Behind, IdleAt, IsRest, IsDeviceRest}
use Rattle.fare_session.proofs.StoreCalls.{stood_first, stood_then, stood_value}
use Rattle.fare_session.proofs.Services.{moved_by_all-append}
use Rattle.fare_session.proofs.Forwards.{far_more, idle_behind, forwarded_none, forwarded_if, forwarded_idle, forwarded_failed, forwarded_more}
use Rattle.fare_session.proofs.Devices.{only, alone, at_alone, among, far_of, moves_none, moves_more, moves_idle, moves_failed, forwarded_then}
use Rattle.fare_session.proofs.Takes.{taken_none, taken_then, taken_read, taken_failed, more_failed}

-- what a lane has reached, where both stores keep what they hold
abbrev pub ReachedAt : List (ℕ × ℕ) → Standing OutboxValue → Standing OutboxValue → Standing LedgerValue → Standing LedgerValue → Forwarder → List Item → ℕ → ℕ → Type 0
ReachedAt bases xo xn lo ln f items device reached = (c : Cursors) → IsAsFar bases f c → Behind bases lo ln c → HasStood xo xn → (moved_by_all c items).lane device ≡ reached

-- A LANE AND A LEDGER GO TOGETHER
pub length_taken : (l : LedgerValue) (r : RecordValue) (c : Cursors) (device : ℕ) (b : Bool) → (device == r.device) ≡ b → r.lane ≡ c.lane r.device + 1 → c.lane device ≡ length (l.taken device) → (if b then r.lane else c.lane device) ≡ length (if b then l.taken r.device ++ r ∷ [] else l.taken device)
length_taken l r c device true is next at =
    let same : device ≡ r.device = (Decides-eqb device r.device).0 is in
    let here : c.lane r.device ≡ length (l.taken r.device) = subst (λ (d : ℕ). c.lane d ≡ length (l.taken d)) same at in
    omega (arith, next, here, length-append (l.taken r.device) (r ∷ []))
length_taken l r c device false is next at = at

pub lanes_kept : (owner : ℕ) (x : OutboxValue) (l : LedgerValue) (c : Cursors) (items : List Item) (device : ℕ) → AreNextItems owner x c items → c.lane device ≡ length (l.taken device) → (moved_by_all c items).lane device ≡ length ((given_all l items).taken device)
lanes_kept owner x l c [] device next at = at
lanes_kept owner x l c (Tap r ∷ items) device next at = lanes_kept owner x (given l (Tap r)) (moved_by c (Tap r)) items device next.1 (length_taken l r c device (device == r.device) refl next.0.lane at)
lanes_kept owner x l c (Stated s ∷ items) device next at = lanes_kept owner x (given l (Stated s)) (moved_by c (Stated s)) items device next.1 at

-- ANOTHER DEVICE'S ITEM
other_lane : (c : Cursors) (i : Item) (device : ℕ) → device_of i ≢ device → (moved_by c i).lane device ≡ c.lane device
other_lane c (Tap r) device apart = by (device == r.device) refl
  where
    by : (b : Bool) → (device == r.device) ≡ b → (if device == r.device then r.lane else c.lane device) ≡ c.lane device
    by true e = absurd (apart (sym ((Decides-eqb device r.device).0 e)))
    by false e = ap (λ q. if q then r.lane else c.lane device) e
other_lane c (Stated s) device apart = refl

other_day : (c : Cursors) (i : Item) (device : ℕ) → device_of i ≢ device → (moved_by c i).day device ≡ c.day device
other_day c (Tap r) device apart = refl
other_day c (Stated s) device apart = by (device == s.device) refl
  where
    by : (b : Bool) → (device == s.device) ≡ b → (if device == s.device then s.day + 1 else c.day device) ≡ c.day device
    by true e = absurd (apart (sym ((Decides-eqb device s.device).0 e)))
    by false e = ap (λ q. if q then s.day + 1 else c.day device) e

idle_moved : (owner : ℕ) (x : OutboxValue) (c : Cursors) (i : Item) (device : ℕ) → device_of i ≢ device → IsIdle owner x c device → IsIdle owner x (moved_by c i) device
idle_moved owner x c i device apart idle = record {
  rows = λ lane lt. idle.rows lane (subst (λ (n : ℕ). n < lane) (other_lane c i device apart) lt);
  statements = λ day le. idle.statements day (subst (λ (n : ℕ). n ≤ day) (other_day c i device apart) le);
}

idle_others : (owner : ℕ) (x : OutboxValue) (c : Cursors) (items : List Item) (p : ℕ × ℕ) (device : ℕ) → p.0 ≢ device → AllByRecursion (λ i. IsBased (p ∷ []) (device_of i)) items → IsIdle owner x c device → IsIdle owner x (moved_by_all c items) device
idle_others owner x c [] p device apart all idle = idle
idle_others owner x c (i ∷ items) p device apart all idle = idle_others owner x (moved_by c i) items p device apart all.1 (idle_moved owner x c i device (λ is. apart (sym (only p (device_of i) all.0) ∙ is)) idle)

-- ONE DEVICE
-- the device alone, with a base that is not read
abbrev pub by_itself : ℕ → List (ℕ × ℕ)
by_itself device = (device, 0) ∷ []

pub record InDevice (device : ℕ) (xo xn : Standing OutboxValue) (lo ln : Standing LedgerValue) (f g : Forwarder) (n m : ℕ) (done : List Item) : Type 0 where
  pub forwarded : ForwardedIf (Behind (by_itself device) lo ln) (by_itself device) xo xn f g done None
  pub taken : IsTaken lo ln done None [] None n m
  pub moves : Moves f g done None

-- the ledger is asked
module _ (device : ℕ) (x : Standing OutboxValue) (lo ln : Standing LedgerValue) (f : Forwarder) (n : ℕ) (sx : IsSound x) (sl : IsSound lo) (has : HasCursors (by_itself device) f) where
  pub device_none : Stays lo ln None → InDevice device x x lo ln f f n n []
  device_none read = record { forwarded = forwarded_none (Behind (by_itself device) lo ln) (by_itself device) x f sx has; taken = taken_read lo lo ln [] n n (taken_none lo n sl) read; moves = moves_none f }

  pub device_unread : (e : SessionFault) (held : ℕ) → held ≡ 0 → e ≢ Refused → IsOwners (Some e) → Stays lo ln (stored_fault (Some e)) → IsDeviceRest device x x lo ln f f (Some e) n n held
  device_unread e held none not owners read = record {
    rest = record {
      done = [];
      hand = None;
      fx = None;
      fl = Some e;
      forwarded = forwarded_none (Behind (by_itself device) lo ln) (by_itself device) x f sx has;
      taken = taken_failed lo lo ln [] e n n not owners (taken_none lo n sl) read;
      count = none;
      one = inl (refl, refl);
      skipped = λ is. absurd (not (same_Some e Refused is));
      idle = λ e. absurd (cc);
    };
    moves = moves_none f;
  }

pub reached_none : (device : ℕ) (x : Standing OutboxValue) (lo ln : Standing LedgerValue) (f : Forwarder) (count : ℕ) → (HasStood lo ln → count ≡ length (lo.value.taken device)) → ReachedAt (by_itself device) x x lo ln f [] device count
reached_none device x lo ln f count told c far b keeps = b.1 device (alone (device, 0)) ∙ sym (told b.0)

-- the outbox is asked for what comes next
module _ (xo xm xn : Standing OutboxValue) (lo lm ln : Standing LedgerValue) (f g h : Forwarder) (n m k : ℕ) (done : List Item) (device reached : ℕ) (now : InDevice device xo xm lo lm f g n m done) (at : ReachedAt (by_itself device) xo xm lo lm f done device reached) where
  earlier : {result : Result (Option Item) SessionFault} → IsNextDue xm xn g h device reached result → HasStood xo xn → HasStood xo xm
  earlier {result} nd keeps = stood_first xo xm xn (stored_fault (fault_due result)) xm.value (λ w. w ≡ xm.value) nd.stays keeps

  far_by : {result : Result (Option Item) SessionFault} → IsNextDue xm xn g h device reached result → (d : Cursors) → IsAsFar (by_itself device) f d → Behind (by_itself device) lo lm d → HasStood xo xn → (moved_by_all d done).lane device ≡ reached
  far_by {result} nd d far b keeps = at d far b (earlier nd keeps)

  -- it has nothing more
  pub device_idle : (held : ℕ) → held ≡ 0 → IsNextDue xm xn g h device reached (Ok None) → IsDeviceRest device xo xn lo lm f h None n m held
  device_idle held none nd = record {
    rest = record {
      done = done;
      hand = None;
      fx = None;
      fl = None;
      forwarded = subst (λ l. ForwardedIf (Behind (by_itself device) lo lm) (by_itself device) xo xn f h l None) (sym (append-nil done)) (forwarded_idle (Behind (by_itself device) lo lm) (by_itself device) xo xm xn f g h done device reached (alone (device, 0)) (far_by nd) now.forwarded nd);
      taken = now.taken;
      count = none;
      one = inl (refl, refl);
      skipped = λ is. absurd (cc);
      idle = λ e j p there. subst (IdleAt (by_itself device) xo xn lo lm f done) (sym (at_alone (device, 0) j p there)) this;
    };
    moves = subst (λ l. Moves f h l None) (sym (append-nil done)) (moves_idle xm xn f g h done device reached now.moves nd);
  }
    where
      this : IdleAt (by_itself device) xo xn lo lm f done device
      this = idle_behind (Behind (by_itself device) lo lm) (by_itself device) xo xm xn f g h done device reached (alone (device, 0)) (far_by nd) now.forwarded nd

  -- it fails, or the lane has a gap
  pub device_stopped : (e : SessionFault) (held : ℕ) → held ≡ 0 → IsNextDue xm xn g h device reached (Err e) → IsDeviceRest device xo xn lo lm f h (Some e) n m held
  device_stopped e held none nd = record {
    rest = record {
      done = done;
      hand = None;
      fx = Some e;
      fl = None;
      forwarded = subst (λ l. ForwardedIf (Behind (by_itself device) lo lm) (by_itself device) xo xn f h l (Some e)) (sym (append-nil done)) stopped;
      taken = now.taken;
      count = none;
      one = inr (refl, refl);
      skipped = stopped.skipped;
      idle = λ e. absurd (cc);
    };
    moves = subst (λ l. Moves f h l (Some e)) (sym (append-nil done)) (moves_failed xm xn f g h done device reached now.moves e nd.cursors);
  }
    where
      stopped : ForwardedIf (Behind (by_itself device) lo lm) (by_itself device) xo xn f h done (Some e)
      stopped = forwarded_failed (Behind (by_itself device) lo lm) (by_itself device) xo xm xn f g h done device reached (alone (device, 0)) (far_by nd) now.forwarded e nd

  -- one item more
  module _ (i : Item) (nd : IsNextDue xm xn g h device reached (Ok (Some i))) where
    more : ForwardedIf (Behind (by_itself device) lo lm) (by_itself device) xo xn f h (done ++ i ∷ []) None
    more = forwarded_more (Behind (by_itself device) lo lm) (by_itself device) xo xm xn f g h done device reached (alone (device, 0)) (far_by nd) now.forwarded i nd

    moved : Moves f h (done ++ i ∷ []) None
    moved = moves_more xm xn f g h done device reached now.moves i nd

    back : {F : Option SessionFault} {items : List Item} {hand : Option Item} → IsTaken lm ln items hand [] F m k → (c : Cursors) → Behind (by_itself device) lo ln c → Behind (by_itself device) lo lm c
    back {F} {items} {hand} took c b = (stood_first lo lm ln (stored_fault F) (given_all lm.value items) (IsImage lm.value items (tried_in hand [])) took.leaves b.0, b.1)

    pub device_more : IsTaken lm ln (i ∷ []) None [] None m k → InDevice device xo xn lo ln f h n k (done ++ i ∷ [])
    device_more took = record {
      forwarded = forwarded_if (Behind (by_itself device) lo lm) (Behind (by_itself device) lo ln) (by_itself device) xo xn f h (done ++ i ∷ []) None (back took) more;
      taken = taken_then lo lm ln done (i ∷ []) None [] None n m k now.taken took;
      moves = moved;
    }

    pub reached_more : IsTaken lm ln (i ∷ []) None [] None m k → ReachedAt (by_itself device) xo xn lo ln f (done ++ i ∷ []) device (lane_after i reached)
    reached_more took c far b keeps = far_more done i c device reached nd.found.1 (at c far (back took c b) (earlier nd keeps))

    pub device_refused : (e : SessionFault) → IsTaken lm ln [] (Some i) [] (Some e) m k → IsDeviceRest device xo xn lo ln f h (Some e) n k 1
    device_refused e took = record {
      rest = record {
        done = done;
        hand = Some i;
        fx = None;
        fl = Some e;
        forwarded = forwarded_if (Behind (by_itself device) lo lm) (Behind (by_itself device) lo ln) (by_itself device) xo xn f h (done ++ i ∷ []) None (back took) more;
        taken = more_failed lo lm ln done i e n m k now.taken took;
        count = refl;
        one = inl (refl, refl);
        skipped = λ is. more.begun (let n = length-append done (i ∷ []) in omega (arith, n));
        idle = λ e. absurd (cc);
      };
      moves = moved;
    }

-- ONE DEVICE AFTER THE OTHER
pub record InRest (bases : List (ℕ × ℕ)) (xo xn : Standing OutboxValue) (lo ln : Standing LedgerValue) (f g : Forwarder) (n m place : ℕ) (done : List Item) : Type 0 where
  pub forwarded : ForwardedIf (Behind bases lo ln) bases xo xn f g done None
  pub taken : IsTaken lo ln done None [] None n m
  pub idle : (k : ℕ) (p : ℕ × ℕ) → k < place → slice_get bases k ≡ Some p → IdleAt bases xo xn lo ln f done p.0

pub rest_none : (bases : List (ℕ × ℕ)) (x : Standing OutboxValue) (l : Standing LedgerValue) (f : Forwarder) (n : ℕ) → IsSound x → IsSound l → HasCursors bases f → InRest bases x x l l f f n n 0 []
rest_none bases x l f n sx sl has = record { forwarded = forwarded_none (Behind bases l l) bases x f sx has; taken = taken_none l n sl; idle = λ k p lt. absurd (omega (arith, lt)) }

module _ (bases : List (ℕ × ℕ)) (xo xm xn : Standing OutboxValue) (lo lm ln : Standing LedgerValue) (f g h : Forwarder) (n m k place held : ℕ) (done : List Item) (device : ℕ) (fault : Option SessionFault) (based : IsBased bases device) (now : InRest bases xo xm lo lm f g n m place done) (of : IsDeviceRest device xm xn lm ln g h fault m k held) where
  abbrev rest : IsRest (by_itself device) xm xn lm ln g h fault m k held
  rest = of.rest

  ledger_before : (c : Cursors) → Behind bases lo ln c → Behind bases lo lm c
  ledger_before c b = (stood_first lo lm ln (stored_fault rest.fl) (given_all lm.value rest.done) (IsImage lm.value rest.done (tried_in rest.hand [])) rest.taken.leaves b.0, b.1)

  outbox_before : HasStood xo xn → HasStood xo xm
  outbox_before keeps = stood_first xo xm xn (stored_fault rest.fx) xm.value (λ w. w ≡ xm.value) rest.forwarded.stays keeps

  outbox_behind : HasStood xo xn → HasStood xm xn
  outbox_behind keeps = stood_then xo xm xn (stored_fault rest.fx) xm.value xo.value (λ w. w ≡ xm.value) (λ w. w ≡ xo.value) now.forwarded.stays rest.forwarded.stays keeps

  begins : (c : Cursors) → IsAsFar bases f c → Behind bases lo ln c → HasStood xo xn → Behind (by_itself device) lm ln (moved_by_all c done)
  begins c far b keeps = (
    stood_then lo lm ln (stored_fault rest.fl) (given_all lm.value rest.done) (given_all lo.value done) (IsImage lm.value rest.done (tried_in rest.hand [])) (IsImage lo.value done []) now.taken.leaves rest.taken.leaves b.0,
    λ d is. lanes_kept f.owner xo.value lo.value c done d ((now.forwarded.forwards c far (ledger_before c b)).next (outbox_before keeps)) (b.1 d (among bases (device, 0) d based is))
        ∙ ap (λ (l : LedgerValue). length (l.taken d)) (sym (stood_value lo lm (given_all lo.value done) (IsImage lo.value done []) now.taken.leaves (ledger_before c b).0)),
  )

  joined : ForwardedIf (Behind bases lo ln) bases xo xn f h (done ++ (rest.done ++ in_hand rest.hand)) rest.fx
  joined = forwarded_then (Behind bases lo ln) (Behind (by_itself device) lm ln) bases (device, 0) xo xm xn f g h done (rest.done ++ in_hand rest.hand) rest.fx based
      (forwarded_if (Behind bases lo lm) (Behind bases lo ln) bases xo xm f g done None ledger_before now.forwarded) rest.forwarded begins of.moves

  taken : IsTaken lo ln (done ++ rest.done) rest.hand [] rest.fl n k
  taken = taken_then lo lm ln done rest.done rest.hand [] rest.fl n m k now.taken rest.taken

  -- it stopped at this device
  pub rest_stops : fault ≢ None → IsRest bases xo xn lo ln f h fault n k held
  rest_stops some = record {
    done = done ++ rest.done;
    hand = rest.hand;
    fx = rest.fx;
    fl = rest.fl;
    forwarded = subst (λ l. ForwardedIf (Behind bases lo ln) bases xo xn f h l rest.fx) (sym (append_assoc done rest.done (in_hand rest.hand))) joined;
    taken = taken;
    count = rest.count;
    one = rest.one;
    skipped = λ refused clean. now.forwarded.stays.calls.live (rest.skipped refused clean);
    idle = λ none. absurd (some none);
  }

  module _ (none : fault ≡ None) where
    sound : rest.fx ≡ None
    sound = elim rest.one [ inl a ↦ a.0 | inr b ↦ sym b.1 ∙ none ]

    kept : rest.fl ≡ None
    kept = elim rest.one [ inl a ↦ sym a.1 ∙ none | inr b ↦ b.0 ]

    empty : rest.hand ≡ None
    empty = rest.taken.empty kept

    all : rest.done ++ in_hand rest.hand ≡ rest.done
    all = ap (λ (q : Option Item). rest.done ++ in_hand q) empty ∙ append-nil rest.done

    pub rest_held : held ≡ 0
    rest_held = rest.count ∙ ap (λ (q : Option Item). length (in_hand q)) empty

    -- it has nothing more, and the next one's turn comes
    pub rest_goes : ((p : ℕ × ℕ) → slice_get bases place ≡ Some p → p.0 ≡ device) → ((j : ℕ) (p : ℕ × ℕ) → j < place → slice_get bases j ≡ Some p → device ≢ p.0) → InRest bases xo xn lo ln f h n k (place + 1) (done ++ rest.done)
    rest_goes here apart = record {
      forwarded = subst (λ (z : List Item × Option SessionFault). ForwardedIf (Behind bases lo ln) bases xo xn f h (done ++ z.0) z.1) (λ j. (all j, sound j)) joined;
      taken = subst (λ (z : Option Item × Option SessionFault). IsTaken lo ln (done ++ rest.done) z.0 [] z.1 n k) (λ j. (empty j, kept j)) taken;
      idle = λ j p lt there c far b keeps. subst (λ z. IsIdle f.owner xo.value z p.0) (sym (moved_by_all-append c done rest.done)) (elim (last j lt) [
        | inl is ↦ subst (IsIdle f.owner xo.value (moved_by_all (moved_by_all c done) rest.done)) (sym (here p (ap (slice_get bases) (sym is) ∙ there))) (this c far b keeps)
        | inr less ↦ idle_others f.owner xo.value (moved_by_all c done) rest.done (device, 0) p.0 (apart j p less there) known (now.idle j p less there c far (ledger_before c b) (outbox_before keeps))
      ]);
    }
      where
        known : AllByRecursion (λ i. IsBased (by_itself device) (device_of i)) rest.done
        known = subst (AllByRecursion (λ i. IsBased (by_itself device) (device_of i))) all rest.forwarded.known

        last : (j : ℕ) → j < place + 1 → (j ≡ place) ⊎ (j < place)
        last j lt = grind (arith, nat_tests)

        this : (c : Cursors) → IsAsFar bases f c → Behind bases lo ln c → HasStood xo xn → IsIdle f.owner xo.value (moved_by_all (moved_by_all c done) rest.done) device
        this c far b keeps = subst (λ (z : OutboxValue × ℕ). IsIdle z.1 z.0 (moved_by_all (moved_by_all c done) rest.done) device)
            (λ j. (stood_value xo xm xo.value (λ w. w ≡ xo.value) now.forwarded.stays (outbox_before keeps) j, now.forwarded.owner j))
            (rest.idle none 0 (device, 0) refl (moved_by_all c done) (far_of bases (device, 0) g (moved_by_all c done) based ((now.forwarded.forwards c far (ledger_before c b)).at refl)) (begins c far b keeps) (outbox_behind keeps))

pub rest_ended : (bases : List (ℕ × ℕ)) (xo xn : Standing OutboxValue) (lo ln : Standing LedgerValue) (f g : Forwarder) (n m place held : ℕ) (done : List Item) → length bases ≤ place → held ≡ 0 → InRest bases xo xn lo ln f g n m place done → IsRest bases xo xn lo ln f g None n m held
rest_ended bases xo xn lo ln f g n m place held done le none now = record {
  done = done;
  hand = None;
  fx = None;
  fl = None;
  forwarded = subst (λ l. ForwardedIf (Behind bases lo ln) bases xo xn f g l None) (sym (append-nil done)) now.forwarded;
  taken = now.taken;
  count = none;
  one = inl (refl, refl);
  skipped = λ is. absurd (cc);
  idle = λ e k p at. now.idle k p (let w = slice_get_within bases k p at in omega (arith, le, w)) at;
}
