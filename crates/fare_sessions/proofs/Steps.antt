-- What one session made of whatever the stores may hold.
use Rattle.std.proofs.Common.{◌≡◌, ℕ, zero, suc, ◌<◌, List, [], ◌∷◌, ◌++◌, length, take, slice_index_or, Some, None, Bool, true, false, refl, sym, ap, ◌∙◌, subst, arith, inl, inr}
use Rattle.std.specs.Prelude.{◌⊎◌, ◌≢◌, ◌==◌, slice_get, Option, Vec, if◌then◌else◌}
use Rattle.std.specs.Global.{Global}
use Rattle.std.proofs.lemmas.List.{append-nil}
use Rattle.fare_record.specs.declared.item.Item.{Item}
use Rattle.fare_scheme.specs.Values.{SchemeValue}
use Rattle.fare_scheme.specs.Words.{position_of_owner}
use Rattle.fare_scheme.proofs.Known.{id_at_place}
use Rattle.fare_source.specs.Talking.{Talk}
use Rattle.fare_store.specs.Standing.{Standing}
use Rattle.fare_store.specs.Tables.{put}
use Rattle.fare_store.specs.OutboxWords.{OutboxValue}
use Rattle.fare_store.specs.LedgerWords.{LedgerValue}
use Rattle.fare_history.specs.Gathering.{Gathering}
use Rattle.fare_history.specs.Holding.{MayHold}
use Rattle.fare_history.specs.Serving.{Service, given_all, in_hand, pruned_to_all, tried_in, first_taken}
use Rattle.fare_history.specs.Stores as history
use Rattle.fare_history.specs.Stores.{StoresValue, stores_after}
use Rattle.fare_store.proofs.Entries.{is_one, put_here}
use Rattle.fare_session.specs.declared.fault.SessionFault.{SessionFault}
use Rattle.fare_session.proofs.Plainly.{taken_of, pruned_of}
use Rattle.fare_session.specs.Served.{AreFit, IsTakenBy, IsPrunedBy, SaysOfService}
use Rattle.fare_collect.specs.declared.station.Station.{Station}
use Rattle.fare_collect.specs.Collected.{IsCollected, IsFitting, IsStoredBy, HasTalked, writer_faults, faults_at, station_faults}
use Rattle.fare_agreement.specs.Stopping.{IsLeftBy, pruned_too}
use Rattle.fare_agreement.proofs.PlainlyLeft.{served_left, whole_left, others_left, gathered_left}
use Rattle.fare_sessions.specs.declared.hub.Hub.{Hub}
use Rattle.fare_sessions.specs.declared.session.Session.{Session}
use Rattle.fare_sessions.specs.declared.session.Session.TheVariants.{Collect, Serve}
use Rattle.fare_sessions.specs.Course.{Counts, Tally, owner_faults}
use Rattle.fare_sessions.specs.Stores.{IsLedgerOf, ReplacesLedger, AreClean, AreSound, MayStandAs}
use Rattle.fare_sessions.specs.Running.{HasCollected, HasServed, HasRun, HaveRun}
use Rattle.fare_sessions.specs.Boundaries.{HasTalkedBetween, CollectedBetween, NotBegun, ServedBetween, LedBetween, HaveLed}
use Rattle.fare_sessions.proofs.Follow.{same_at, not_one, fitting, fit, ran_follow, run_scheme, run_sound, clean_back}

-- NO FAULT
pub no_writer : (e : _) (fs : List SessionFault) → writer_faults e ++ fs ≡ [] → (e ≡ None) × (fs ≡ [])
no_writer None fs is = (refl, is)
no_writer (Some f) fs is = absurd (cc)

pub no_first : {X : Type 0} (xs ys : List X) → xs ++ ys ≡ [] → (xs ≡ []) × (ys ≡ [])
no_first [] ys is = (refl, is)
no_first (x ∷ xs) ys is = absurd (cc)

no_station : {S : Type 0} (ts : List (Station S)) → station_faults ts ≡ [] → (k : ℕ) (d : Station S) → k < length ts → (slice_index_or ts k d).end.fault ≡ None
no_station [] is k d lt = absurd (omega (arith, lt))
no_station (t ∷ ts) is zero d lt = by t.end.fault (no_first (faults_at t.collector.station t.end.fault) (station_faults ts) is).0
  where
    by : (f : Option _) → faults_at t.collector.station f ≡ [] → f ≡ None
    by None e = refl
    by (Some f) e = absurd (cc)
no_station (t ∷ ts) is (suc k) d lt = no_station ts (no_first (faults_at t.collector.station t.end.fault) (station_faults ts) is).1 k d (omega (arith, lt))

pub no_owner : (f : Option SessionFault) → owner_faults f ≡ [] → f ≡ None
no_owner None is = refl
no_owner (Some f) is = absurd (cc)

-- STORES
pub put_back : {A : Type 0} (f : ℕ → A) (k : ℕ) (old v : A) → f k ≡ v → put (put f k old) k v ≡ f
put_back f k old v same = λ i j. by j (j == k) refl i
  where
    by : (j : ℕ) (b : Bool) → (j == k) ≡ b → (if b then v else (if b then old else f j)) ≡ f j
    by j true e = sym same ∙ sym (ap f (is_one j k e))
    by j false e = refl

-- what the outbox may hold came of the session's entries, or also of what was in the writer's hand
collected_left : (x : OutboxValue) (g : Gathering) (k : StoresValue) → IsStoredBy g x k.outbox → IsLeftBy (record { outbox = x; ledgers = k.ledgers }) (history.Collects g) k
collected_left x g k first = (first, refl)

-- two owners with one place are one
one_owner : (sc : SchemeValue) (a b place : ℕ) → position_of_owner sc a ≡ Some place → position_of_owner sc b ≡ Some place → a ≡ b
one_owner sc a b place at_a at_b =
    let both : ◌≡◌ {A = Option ℕ} (Some a) (Some b) = sym (id_at_place sc.owners a place at_a) ∙ id_at_place sc.owners b place at_b in
    cc

module _ {O L : Type 0} (outbox : O → Standing OutboxValue) (ledger : L → Standing LedgerValue) where
  -- ONE LEDGER
  -- what might have stood before the outbox and an owner's ledger were replaced
  pub stood_before : (old new : Hub O L) (owner : ℕ) (r : ReplacesLedger old new owner) (k : StoresValue) → MayStandAs outbox ledger new k → (x : OutboxValue) → MayHold (outbox old.outbox) x → (l : LedgerValue) → MayHold (ledger r.own_old) l
      → MayStandAs outbox ledger old (record { outbox = x; ledgers = put k.ledgers owner l })
  stood_before old new owner r k may x held l held_l = record { outbox_may = held; ledgers_may = λ other y of. by other y of (other == owner) refl }
    where
      by : (other : ℕ) (y : L) → IsLedgerOf old other y → (b : Bool) → (other == owner) ≡ b → MayHold (ledger y) (if b then l else k.ledgers other)
      by other y of true e =
          let one = is_one other owner e in
          let places : ◌≡◌ {A = Option ℕ} (Some of.0) (Some r.place) = sym of.1 ∙ (ap (position_of_owner old.scheme) one ∙ r.at) in
          let place : of.0 ≡ r.place = cc in
          let is = same_at old.ledgers.items old.ledgers.items r.place r.own_old y r.was (ap (slice_get old.ledgers.items) (sym place) ∙ of.2) refl in
          subst (λ z. MayHold (ledger z) l) (sym is) held_l
      by other y of false e =
          let apart : of.0 ≢ r.place = λ place. not_one other owner e (one_owner old.scheme other owner r.place (of.1 ∙ ap Some place) r.at) in
          may.ledgers_may other y (of.0, ap (λ sc. position_of_owner sc other) r.scheme ∙ of.1, r.others of.0 apart ∙ of.2)

  -- what may stand of an owner's ledger
  pub own_stands : (old new : Hub O L) (owner : ℕ) (r : ReplacesLedger old new owner) (k : StoresValue) → MayStandAs outbox ledger new k → MayHold (ledger r.own_new) (k.ledgers owner)
  own_stands old new owner r k may = may.ledgers_may owner r.own_new (r.place, ap (λ sc. position_of_owner sc owner) r.scheme ∙ r.at, r.is)

module _ {S O L : Type 0} (talks : S → Talk) (outbox : O → Standing OutboxValue) (ledger : L → Standing LedgerValue) where
  -- A SESSION OF THE STATIONS AND THE WRITER
  same_before : (old new : Hub O L) → new.scheme ≡ old.scheme → new.ledgers ≡ old.ledgers → (k : StoresValue) → MayStandAs outbox ledger new k → (x : OutboxValue) → MayHold (outbox old.outbox) x → MayStandAs outbox ledger old (record { outbox = x; ledgers = k.ledgers })
  same_before old new scheme ledgers k may x held = record {
    outbox_may = held;
    ledgers_may = λ owner y of. may.ledgers_may owner y (of.0, ap (λ sc. position_of_owner sc owner) scheme ∙ of.1, ap (λ (v : Vec L Global). slice_get v.items of.0) ledgers ∙ of.2);
  }

  collected_led : (old new : Hub O L) (before after : List (Station S)) (c : Counts) → new.scheme ≡ old.scheme → new.ledgers ≡ old.ledgers → c.taken ≡ 0 → (ended : _) (ic : IsCollected old.scheme talks (outbox old.outbox) (outbox new.outbox) before after c.stored c.left ended) → c.faults ≡ writer_faults ended ++ station_faults after
      → AreClean outbox ledger new → AreSound outbox ledger old → (k : StoresValue) → MayStandAs outbox ledger new k → (m : StoresValue) × (qs : List history.Session) × MayStandAs outbox ledger old m × CollectedBetween old.scheme talks m k before after c qs
  collected_led old new before after c scheme ledgers taken ended ic faults clean sound k may = (
    m,
    history.Collects ic.g ∷ [],
    same_before old new scheme ledgers k may from.0 from.1,
    record {
      g = ic.g;
      session = refl;
      came = (ended, ic.says fits from.0 from.1, faults);
      left = left;
      taken = taken;
      stations = λ place d lt. station place d lt (ic.each place d lt);
      whole = λ none.
          let done = ic.finished (no_writer ended (station_faults after) (sym faults ∙ none)).0 in
          let plain = gathered_left old.scheme m k ic.g (ic.says fits from.0 from.1).gathering done.0 left in
          (done.0, done.1, ic.left_is ∙ (λ i. length (in_hand (done.0 i) ++ done.1 i)), plain.0, plain.1);
    },
  )
    where
      fits : IsFitting (outbox old.outbox) (outbox new.outbox)
      fits = fitting talks outbox ledger old new clean sound

      from : (x : OutboxValue) × MayHold (outbox old.outbox) x × IsStoredBy ic.g x k.outbox
      from = (ic.outbox fits).leads k.outbox may.outbox_may

      m : StoresValue
      m = record { outbox = from.0; ledgers = k.ledgers }

      left : IsLeftBy m (history.Collects ic.g) k
      left = collected_left from.0 ic.g k from.2

      station : (place : ℕ) (d : Station S) → place < length before → HasTalked old.scheme talks (outbox old.outbox) (outbox new.outbox) ic.g (slice_index_or before place d) (slice_index_or after place d)
          → HasTalkedBetween old.scheme talks m ic.g c.faults (slice_index_or before place d) (slice_index_or after place d)
      station place d lt t = record {
        frames = t.frames;
        held = t.held;
        given = t.given;
        accepted = t.accepted fits from.0 from.1;
        kept = t.kept;
        answered = t.answered;
        keeps = t.keeps fits;
        failed = (t.cause, t.failed);
        unexpected = t.unexpected;
        expected = t.expected;
        whole = λ none.
            let no = no_writer ended (station_faults after) (sym faults ∙ none) in
            let fine = no_station after no.1 place d (let n = ic.len in omega (arith, lt, n)) in
            (t.none_held (ic.at_end no.0 place d lt fine), ic.read no.0 place d lt fine, t.whole fits fine);
      }

  collect_led : (old new : Hub O L) (before after : List (Station S)) (c : Counts) → HasCollected talks outbox old new before after c → AreClean outbox ledger new → AreSound outbox ledger old → (k : StoresValue) → MayStandAs outbox ledger new k
      → (m : StoresValue) × (qs : List history.Session) × MayStandAs outbox ledger old m × (CollectedBetween old.scheme talks m k before after c qs ⊎ NotBegun old.scheme talks m k before after c qs)
  collect_led old new before after c h clean sound k may = elim h.came [
    | inl is ↦ (let led = collected_led old new before after c h.scheme h.ledgers h.taken is.0 is.1 is.2 clean sound k may in (led.0, led.1, led.2, inl led.3))
    | inr is ↦ (
      k,
      [],
      same_before old new h.scheme h.ledgers k may k.outbox (subst (λ x. MayHold (outbox x) k.outbox) is.0 may.outbox_may),
      inr (record { none = refl; stores = refl; stations = is.1; counts = λ i. record { stored = is.3 i; taken = h.taken i; left = is.4 i; faults = is.2 i } }),
    )
  ]

  -- A SESSION OF AN OWNER
  serve_led : (old new : Hub O L) (owner : ℕ) (c : Counts) → HasServed outbox ledger old new owner c → AreClean outbox ledger new → AreSound outbox ledger old → (k : StoresValue) → MayStandAs outbox ledger new k
      → (m : StoresValue) × (qs : List history.Session) × MayStandAs outbox ledger old m × ServedBetween old.scheme talks m k owner c qs
  serve_led old new owner c h clean sound k may = (
    m,
    history.Serves_owner owner v ∷ [],
    stood,
    record {
      v = v;
      session = refl;
      report = h.report;
      says = says;
      left = left;
      stored = h.stored;
      taken = h.taken;
      left_over = h.left;
      faults = h.faults;
      plain = served_left old.scheme m k owner v says.service left;
      beside = λ other apart. others_left m k owner other v apart left;
      whole = λ none. whole_left old.scheme m k owner v says.service (says.whole (no_owner h.report.fault (sym h.faults ∙ none))) left;
    },
  )
    where
      v : Service
      v = h.served.v

      fits : AreFit old.scheme owner (outbox old.outbox) (outbox new.outbox) (ledger h.one.own_old) (ledger h.one.own_new)
      fits = fit talks outbox ledger old new owner c h clean sound

      own_may : MayHold (ledger h.one.own_new) (k.ledgers owner)
      own_may = own_stands outbox ledger old new owner h.one k may

      l : (l : LedgerValue) × MayHold (ledger h.one.own_old) l × IsTakenBy v l (k.ledgers owner)
      l = (h.served.ledger fits).leads (k.ledgers owner) own_may

      x : (x : OutboxValue) × MayHold (outbox old.outbox) x × IsPrunedBy old.scheme owner (k.ledgers owner) v x k.outbox
      x = (h.served.outbox fits (k.ledgers owner) own_may).leads k.outbox may.outbox_may

      m : StoresValue
      m = record { outbox = x.0; ledgers = put k.ledgers owner l.0 }

      here : put k.ledgers owner l.0 owner ≡ l.0
      here = put_here k.ledgers owner l.0

      stood : MayStandAs outbox ledger old m
      stood = stood_before outbox ledger old new owner h.one k may x.0 x.1 l.0 l.1

      says : SaysOfService old.scheme owner v h.report x.0 (put k.ledgers owner l.0 owner)
      says = subst (SaysOfService old.scheme owner v h.report x.0) (sym here) (h.served.says fits x.0 l.0 x.1 l.1)

      same_stores : (items : List Item) (ds : List ℕ) → k.ledgers owner ≡ given_all l.0 items → k.outbox ≡ pruned_to_all x.0 owner (k.ledgers owner) ds
          → k ≡ record { outbox = pruned_to_all x.0 owner (given_all (put k.ledgers owner l.0 owner) items) ds; ledgers = put (put k.ledgers owner l.0) owner (given_all (put k.ledgers owner l.0 owner) items) }
      same_stores items ds took cut =
          let given : k.ledgers owner ≡ given_all (put k.ledgers owner l.0 owner) items = took ∙ ap (λ z. given_all z items) (sym here) in
          let to : k.outbox ≡ pruned_to_all x.0 owner (given_all (put k.ledgers owner l.0 owner) items) ds = cut ∙ ap (λ z. pruned_to_all x.0 owner z ds) given in
          λ i. record { outbox = to i; ledgers = sym (put_back k.ledgers owner l.0 (given_all (put k.ledgers owner l.0 owner) items) given) i }

      pruned_or_more : (w : Service) → w.pruned ≡ v.pruned → k.ledgers owner ≡ given_all l.0 w.taken → IsPrunedBy old.scheme owner (k.ledgers owner) v x.0 k.outbox
          → (devices : List ℕ) × (k ≡ stores_after m (history.Serves_owner owner (pruned_too w devices)))
      pruned_or_more w same took (inl e) = ([], same_stores w.taken (w.pruned ++ []) took (e ∙ ap (pruned_to_all x.0 owner (k.ledgers owner)) (sym same ∙ sym (append-nil w.pruned))))
      pruned_or_more w same took (inr e) = (e.1.0, same_stores w.taken (w.pruned ++ e.1.0) took (e.1.2 ∙ ap (λ ds. pruned_to_all x.0 owner (k.ledgers owner) (ds ++ e.1.0)) (sym same)))

      left_with : (n : ℕ) → k.ledgers owner ≡ given_all l.0 (v.taken ++ take n (tried_in v.hand v.queue)) → IsLeftBy m (history.Serves_owner owner v) k
      left_with n e = let w = first_taken n v in (w, (n, refl), pruned_or_more w (pruned_of n v.hand v) (e ∙ ap (given_all l.0) (sym (taken_of n v.hand v))) x.2)

      left : IsLeftBy m (history.Serves_owner owner v) k
      left = left_with l.2.count l.2.value

  -- ANY SESSION
  pub step_led : (old new : Hub O L) (s r : Session S) (c : Counts) → HasRun talks outbox ledger old new s r c → AreClean outbox ledger new → AreSound outbox ledger old → (k : StoresValue) → MayStandAs outbox ledger new k
      → (m : StoresValue) × (qs : List history.Session) × MayStandAs outbox ledger old m × LedBetween old.scheme talks s r m k c qs
  step_led old new (Collect b) (Collect a) c h clean sound k may = collect_led old new b.items a.items c h clean sound k may
  step_led old new (Collect b) (Serve o) c h clean sound k may = absurd h
  step_led old new (Serve o) (Serve p) c h clean sound k may = let one = serve_led old new o c h.1 clean sound k may in (one.0, one.1, one.2, (h.0, one.3))
  step_led old new (Serve o) (Collect a) c h clean sound k may = absurd h

  -- A LIST OF SESSIONS
  pub run_led : (start : Hub O L) (olds news : List (Session S)) (n : ℕ) (now : Hub O L) (t : Tally) → HaveRun talks outbox ledger start olds news n now t → AreClean outbox ledger now → AreSound outbox ledger start → (k : StoresValue) → MayStandAs outbox ledger now k
      → (h : StoresValue) × (qs : List history.Session) × MayStandAs outbox ledger start h × HaveLed start.scheme talks olds news n h k t qs
  run_led start olds news zero now t h clean sound k may = (k, [], subst (λ hub. MayStandAs outbox ledger hub k) h.0 may, (refl, h.1, refl))
  run_led start olds news (suc n) now t h clean sound k may =
      let f = ran_follow talks outbox ledger h.0 now h.4.before h.4.after h.2 h.4.ran in
      let clean_before = clean_back outbox ledger h.0 now f clean in
      let one = step_led h.0 now h.4.before h.4.after h.2 h.4.ran clean (run_sound talks outbox ledger start olds news n h.0 h.1 h.3 clean_before sound) k may in
      let before = run_led start olds news n h.0 h.1 h.3 clean_before sound one.0 one.2 in (
        before.0,
        before.1 ++ one.1,
        before.2,
        (one.0, h.1, before.1, h.2, one.1, before.3, record { before = h.4.before; after = h.4.after; was = h.4.was; is = h.4.is; led = subst (λ sc. LedBetween sc talks h.4.before h.4.after one.0 k h.2 one.1) (run_scheme talks outbox ledger start olds news n h.0 h.1 h.3) one.3 }, h.5, refl),
      )
