-- Calls up to a fault.
use Rattle.std.proofs.Common.{◌≡◌, ℕ, zero, suc, List, [], ◌∷◌, ◌++◌, length, map, take, slice_get, Some, refl, sym, ap, ◌∙◌, subst, inl, inr}
use Rattle.std.specs.List.{AllByRecursion, flat_map}
use Rattle.std.specs.Map.{keys_of}
use Rattle.std.specs.Prelude.{Vec}
use Rattle.std.specs.Global.{Global}
use Rattle.std.proofs.lemmas.List.{append-nil}
use Rattle.std.proofs.lemmas.Option.{slice_get-map}
use Rattle.fare_scheme.specs.Values.{SchemeValue}
use Rattle.fare_scheme.specs.Words.{id_at}
use Rattle.fare_store.specs.Standing.{Standing}
use Rattle.fare_store.specs.OutboxWords.{OutboxValue}
use Rattle.fare_store.specs.LedgerWords.{LedgerValue}
use Rattle.fare_source.specs.Talking.{Talk}
use Rattle.fare_collect.specs.Resuming.{AreStations}
use Rattle.fare_collect.specs.declared.station.Station.{Station}
use Rattle.fare_history.proofs.Entries.{all-append}
use Rattle.fare_sessions.specs.declared.hub.Hub.{Hub}
use Rattle.fare_sessions.specs.declared.session.Session.{Session}
use Rattle.fare_sessions.specs.declared.session.Session.TheVariants.{Collect, Serve}
use Rattle.fare_sessions.specs.declared.report.SessionsReport.{SessionsReport}
use Rattle.fare_serve.specs.Calls.{AreEndedBy, AreHeld, AreUnended, Call, HasEnded, HasFailed, HasHeldStations, IsCollecting, IsOfScheme, IsOutside, IsServing}
use Rattle.fare_serve.specs.Pausing.{HasPausedOnly, HasPausedSome, PauseOf}
use Rattle.fare_serve.specs.Spacing.{AreSpaced, HaveStopped}
use Rattle.fare_serve.specs.Rounds.{HasFailedRound, HaveFailedOwners, IsRound, Round, calls_of, olds_of, serving_of}
use Rattle.fare_serve.specs.declared.fault.ServeFault.{ServeFault}
use Rattle.fare_serve.proofs.Chained.{held_scheme, held_then}
use Rattle.fare_serve.proofs.Rested.{rested_goes, rested_none}
use Rattle.fare_serve.proofs.Spaced.{spaced_round, spaced_scheme, spaced_then}

-- OWNERS
-- the id stands at a place of the scheme's owners
abbrev pub IsOwner : SchemeValue → ℕ → Type 0
IsOwner sc owner = (place : ℕ) × (id_at sc.owners place ≡ Some owner)

all_at : (P : ℕ → Type 0) (xs : List ℕ) → ((i x : ℕ) → slice_get xs i ≡ Some x → P x) → AllByRecursion P xs
all_at P [] at = tt
all_at P (x ∷ xs) at = (at 0 x refl, all_at P xs (λ i y is. at (suc i) y is))

in_front : (n : ℕ) (xs : List ℕ) (i x : ℕ) → slice_get (take n xs) i ≡ Some x → slice_get xs i ≡ Some x
in_front zero xs i x at = absurd (cc)
in_front (suc n) [] i x at = absurd (cc)
in_front (suc n) (y ∷ xs) zero x at = at
in_front (suc n) (y ∷ xs) (suc i) x at = in_front n xs i x at

pub first_owners : (sc : SchemeValue) (n : ℕ) → AllByRecursion (IsOwner sc) (take n (keys_of sc.owners))
first_owners sc n = all_at (IsOwner sc) (take n (keys_of sc.owners)) (λ i x at. (i, sym (slice_get-map _ sc.owners i) ∙ in_front n (keys_of sc.owners) i x at))

all_owners : (sc : SchemeValue) → AllByRecursion (IsOwner sc) (keys_of sc.owners)
all_owners sc = all_at (IsOwner sc) (keys_of sc.owners) (λ i x at. (i, sym (slice_get-map _ sc.owners i) ∙ at))

pub owners_of_scheme : {S : Type 0} (sc : SchemeValue) (ks : List ℕ) (calls : List (Call S)) → map olds_of calls ≡ map serving_of ks → AllByRecursion (IsOwner sc) ks → AllByRecursion (IsOfScheme sc) calls
owners_of_scheme sc [] [] same known = tt
owners_of_scheme sc [] (c ∷ cs) same known = absurd (cc)
owners_of_scheme sc (k ∷ ks) [] same known = absurd (cc)
owners_of_scheme sc (k ∷ ks) (c ∷ cs) same known =
    let first : c.olds ≡ serving_of k = cc in
    let rest : map olds_of cs ≡ map serving_of ks = cc in
    (inr (k, known.0.0, first, known.0.1), owners_of_scheme sc ks cs rest known.1)

-- ROUNDS
pub rounds_of_scheme : {S : Type 0} (sc : SchemeValue) (rounds : List (Round S)) → AllByRecursion (λ r. (before : List (Station S)) × IsRound sc r before) rounds → AllByRecursion (IsOfScheme sc) (flat_map calls_of rounds)
rounds_of_scheme sc [] are = tt
rounds_of_scheme sc (r ∷ rs) are =
    let round = are.0.1 in
    all-append (IsOfScheme sc) (calls_of r) (flat_map calls_of rs)
    (inl (round.sessions, round.collects, subst (AreStations sc) (sym round.stations_are) round.stations, ap length round.stations_are ∙ round.all), owners_of_scheme sc (keys_of sc.owners) r.owners round.serves (all_owners sc))
    (rounds_of_scheme sc rs are.1)

-- WHAT ENDED THEM
ended_then : {S : Type 0} (xs ys : List (Call S)) (fault : ServeFault) → AreUnended xs → AreEndedBy fault ys → AreEndedBy fault (xs ++ ys)
ended_then [] ys fault unended ended = ended
ended_then (x ∷ xs) ys fault unended ended = inr (unended.0, ended_then xs ys fault unended.1 ended)

module _ {S O L : Type 0} (talks : S → Talk) (outbox : O → Standing OutboxValue) (ledger : L → Standing LedgerValue) where
  -- behind calls that none ended, in others
  pub failed_after : (a b c : Hub O L) (xs : List (Call S)) (fault : ServeFault) → AreHeld talks outbox ledger a b xs → AreUnended xs → AllByRecursion (IsOfScheme a.scheme) xs → (next : HasFailed talks outbox ledger b c fault)
      → (f : HasFailed talks outbox ledger a c fault) × (f.calls ≡ xs ++ next.calls)
  failed_after a b c xs fault held unended each next = (
    record {
      calls = xs ++ next.calls;
      held = held_then talks outbox ledger a b c xs next.calls held next.held;
      ended = ended_then xs next.calls fault unended next.ended;
      each = all-append (IsOfScheme a.scheme) xs next.calls each (subst (λ sc. AllByRecursion (IsOfScheme sc) next.calls) (held_scheme talks outbox ledger a b xs held) next.each);
    },
    refl,
  )

  -- in the session of an owner, or before it
  owner_failed : (old new : Hub O L) (owner place : ℕ) (news : List (Session S)) (fault : ServeFault) → HasEnded talks outbox ledger old new (Serve owner ∷ []) news fault → id_at old.scheme.owners place ≡ Some owner
      → (f : HasFailed talks outbox ledger old new fault) × AllByRecursion IsServing f.calls
  owner_failed old new owner place news fault (inl none) at = (record { calls = []; held = none.0; ended = subst IsOutside (sym none.1) tt; each = tt }, tt)
  owner_failed old new owner place news fault (inr ended) at = (
    record {
      calls = record { olds = Serve owner ∷ []; news = news; report = ended.0 } ∷ [];
      held = (new, ended.1, refl);
      ended = inl (ended.2, refl);
      each = (inr (owner, place, refl, at), tt);
    },
    ((owner, refl), tt),
  )

  -- behind those of other owners
  pub owners_failed : (a b c : Hub O L) (xs : List (Call S)) (owner place : ℕ) (news : List (Session S)) (fault : ServeFault) → AreHeld talks outbox ledger a b xs → AreUnended xs → AllByRecursion (IsOfScheme a.scheme) xs → AllByRecursion IsServing xs
      → HasEnded talks outbox ledger b c (Serve owner ∷ []) news fault → id_at b.scheme.owners place ≡ Some owner → HaveFailedOwners talks outbox ledger a c fault
  owners_failed a b c xs owner place news fault held unended each serving ended at =
      let one = owner_failed b c owner place news fault ended at in
      let all = failed_after a b c xs fault held unended each one.0 in
      record { failed = all.0; serving = subst (AllByRecursion IsServing) (sym all.1) (all-append IsServing xs one.0.calls serving one.1) }

  -- A ROUND
  -- in the stations' session, or before it
  pub stations_failed : (old new : Hub O L) (stations : Vec (Station S) Global) (olds news : List (Session S)) (fault : ServeFault) → HasEnded talks outbox ledger old new olds news fault → olds ≡ Collect stations ∷ []
      → AreStations old.scheme stations.items → length stations.items ≡ length old.scheme.stations → HasFailedRound talks outbox ledger old new stations.items fault
  stations_failed old new stations olds news fault (inl none) is are all = record { failed = record { calls = []; held = none.0; ended = subst IsOutside (sym none.1) tt; each = tt }; begun = tt }
  stations_failed old new stations olds news fault (inr ended) is are all = record {
    failed = record {
      calls = record { olds = olds; news = news; report = ended.0 } ∷ [];
      held = (new, ended.1, refl);
      ended = inl (ended.2, refl);
      each = (inl (stations, is, are, all), tt);
    };
    begun = ((stations, is, refl), tt);
  }

  -- behind it
  pub round_failed : (old middle new : Hub O L) (stations : Vec (Station S) Global) (report : SessionsReport) (after : List (Station S)) (fault : ServeFault) → HasHeldStations talks outbox ledger old middle stations report after
      → AreStations old.scheme stations.items → length stations.items ≡ length old.scheme.stations → (next : HasFailed talks outbox ledger middle new fault) → AllByRecursion IsServing next.calls → HasFailedRound talks outbox ledger old new stations.items fault
  round_failed old middle new stations report after fault one are all next serving = record {
    failed = record {
      calls = one.call ∷ next.calls;
      held = (middle, one.held, next.held);
      ended = inr (one.unended, next.ended);
      each = (inl (stations, one.olds, are, all), subst (λ sc. AllByRecursion (IsOfScheme sc) next.calls) one.held.scheme next.each);
    };
    begun = ((stations, one.olds, refl), serving);
  }

-- BEHIND ROUNDS
-- a front of a round: nothing of it, or the stations' session, and sessions of owners behind it
abbrev pub IsFront : {S : Type 0} → List (Call S) → Type 0
IsFront [] = Unit {0}
IsFront (c ∷ cs) = IsCollecting c × AllByRecursion IsServing cs

module _ {S O L : Type 0} (talks : S → Talk) (does : PauseOf O L) (outbox : O → Standing OutboxValue) (ledger : L → Standing LedgerValue) where
  -- behind calls that none ended, outside of sessions
  pub stopped_behind : (old new : Hub O L) (xs : List (Call S)) (fault : ServeFault) → AreSpaced talks does outbox ledger old new xs → AreUnended xs → AllByRecursion (IsOfScheme old.scheme) xs → IsOutside fault
      → (f : HaveStopped talks does outbox ledger old new fault) × (f.calls ≡ xs)
  stopped_behind old new xs fault held unended each outside = (
    record { calls = xs; last = new; held = held; rested = rested_none does outbox ledger new; ended = subst (AreEndedBy fault) (append-nil xs) (ended_then xs [] fault unended outside); each = each },
    refl,
  )

  stopped_front : (a b m c : Hub O L) (xs cs : List (Call S)) (fault : ServeFault) → AreSpaced talks does outbox ledger a b xs → HasPausedSome does outbox ledger b m → AreHeld talks outbox ledger m c cs → IsFront cs
      → AreEndedBy fault (xs ++ cs) → AllByRecursion (IsOfScheme a.scheme) (xs ++ cs) → (f : HaveStopped talks does outbox ledger a c fault) × (f.calls ≡ xs ++ cs)
  stopped_front a b m c xs [] fault spaced rested held front ended each = (
    record { calls = xs ++ []; last = b; held = spaced_then talks does outbox ledger a b b xs [] spaced refl; rested = subst (HasPausedOnly does outbox ledger b) (sym held) rested.0; ended = ended; each = each },
    refl,
  )
  stopped_front a b m c xs (x ∷ os) fault spaced rested held front ended each = (
    record {
      calls = xs ++ x ∷ os;
      last = c;
      held = spaced_then talks does outbox ledger a b c xs (x ∷ os) spaced (spaced_round talks does outbox ledger b m c x os rested front.0 front.1 held);
      rested = rested_none does outbox ledger c;
      ended = ended;
      each = each;
    },
    refl,
  )

  -- behind calls that none ended, in the front of a round, before which there was a pause or several
  pub stopped_after : (a b m c : Hub O L) (xs : List (Call S)) (fault : ServeFault) → AreSpaced talks does outbox ledger a b xs → AreUnended xs → AllByRecursion (IsOfScheme a.scheme) xs → HasPausedSome does outbox ledger b m
      → (next : HasFailed talks outbox ledger m c fault) → IsFront next.calls → (f : HaveStopped talks does outbox ledger a c fault) × (f.calls ≡ xs ++ next.calls)
  stopped_after a b m c xs fault spaced unended each rested next front =
      let same = (rested_goes does outbox ledger b m rested.0).scheme ∙ spaced_scheme talks does outbox ledger a b xs spaced in
      stopped_front a b m c xs next.calls fault spaced rested next.held front (ended_then xs next.calls fault unended next.ended)
      (all-append (IsOfScheme a.scheme) xs next.calls each (subst (λ sc. AllByRecursion (IsOfScheme sc) next.calls) same next.each))
