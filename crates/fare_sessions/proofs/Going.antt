-- The walk over a list of sessions.
use Rattle.std.proofs.Common.{◌≡◌, ℕ, zero, suc, ◌+◌, ◌*◌, ◌<◌, ◌≤◌, List, [], ◌∷◌, ◌++◌, length, slice_index_or, slice_set, Some, None, true, false, refl, sym, ap, ◌∙◌, subst, arith, append_assoc, length-append}
use Rattle.std.specs.Prelude.{◌≢◌, nat_lt, slice_get, Option, option_map, vec_len, vec_capacity}
use Rattle.std.proofs.lemmas.Bool.Decides.{nat_tests}
use Rattle.std.proofs.lemmas.List.{length-set}
use Rattle.std.proofs.lemmas.Option.{slice_get-get_or}
use Rattle.std.proofs.lemmas.List.{map-append, append-nil}
use Rattle.fare_source.specs.Talking.{Talk}
use Rattle.fare_session.specs.declared.fault.SessionFault.{SessionFault}
use Rattle.fare_store.specs.Standing.{Standing}
use Rattle.fare_store.specs.OutboxWords.{OutboxValue}
use Rattle.fare_store.specs.LedgerWords.{LedgerValue}
use Rattle.fare_collect.specs.declared.station.Station.{Station}
use Rattle.fare_collect.specs.Collected.{writer_faults, faults_at, station_faults}
use Rattle.fare_sessions.specs.declared.course.Course.{Course}
use Rattle.fare_sessions.specs.declared.hub.Hub.{Hub}
use Rattle.fare_sessions.specs.declared.session.Session.{Session}
use Rattle.fare_sessions.specs.Course.{Counts, Tally, no_tally, numbered, with_faults, with_numbers, with_session, last_place, Shows}
use Rattle.fare_sessions.specs.Stores.{HasLedgers, ReplacesLedger}
use Rattle.fare_scheme.specs.Words.{place_of, position_of_owner}
use Rattle.fare_scheme.proofs.Known.{id_at_place}
use Rattle.fare_sessions.specs.Running.{HasRun, HaveRun, HaveAllRun}
use Rattle.fare_sessions.proofs.Follow.{run_scheme, run_follow}

-- PLACES
pub set_here : {X : Type 0} (xs : List X) (k : ℕ) (x : X) → k < length xs → slice_get (slice_set xs k x) k ≡ Some x
set_here [] k x lt = absurd (omega (arith, lt))
set_here (y ∷ xs) zero x lt = refl
set_here (y ∷ xs) (suc k) x lt = set_here xs k x (omega (arith, lt))

pub set_other : {X : Type 0} (xs : List X) (k j : ℕ) (x : X) → j ≢ k → slice_get (slice_set xs k x) j ≡ slice_get xs j
set_other [] k j x apart = refl
set_other (y ∷ xs) zero zero x apart = absurd (apart refl)
set_other (y ∷ xs) zero (suc j) x apart = refl
set_other (y ∷ xs) (suc k) zero x apart = refl
set_other (y ∷ xs) (suc k) (suc j) x apart = set_other xs k j x (λ e. apart (ap suc e))

pub place_within : {X : Type 0} (entries : List (ℕ × X)) (id place : ℕ) → place_of entries id ≡ Some place → place < length entries
place_within entries id place at = in_list entries place (id_at_place entries id place at)
  where
    in_list : {X : Type 0} (es : List (ℕ × X)) (k : ℕ) {n : ℕ} → option_map (λ (e : ℕ × X). e.0) (slice_get es k) ≡ Some n → k < length es
    in_list [] k e = absurd (cc)
    in_list (x ∷ es) zero e = omega arith
    in_list (x ∷ es) (suc k) e = let lt = in_list es k e in omega (arith, lt)

-- COUNTS
numbered_append : (place : ℕ) (fs gs : List SessionFault) → numbered place (fs ++ gs) ≡ numbered place fs ++ numbered place gs
numbered_append place fs gs = map-append (λ f. (place, f)) fs gs

-- faults that are noted one after the other
pub faults_join : (t : Tally) (place : ℕ) (fs gs : List SessionFault) → with_faults (with_faults t place fs) place gs ≡ with_faults t place (fs ++ gs)
faults_join t place fs gs =
    let all = append_assoc t.faults (numbered place fs) (numbered place gs) ∙ ap (λ l. t.faults ++ l) (sym (numbered_append place fs gs)) in
    λ i. record t { faults = all i }

pub no_faults : (t : Tally) (place : ℕ) → with_faults t place [] ≡ t
no_faults t place = λ i. record t { faults = append-nil t.faults i }

-- no more than one fault of each station
pub few_faults : {S : Type 0} (ts : List (Station S)) → length (station_faults ts) ≤ length ts
few_faults [] = omega arith
few_faults (t ∷ ts) =
    let rest = few_faults ts in
    let one = first t.end.fault in
    let all = length-append (faults_at t.collector.station t.end.fault) (station_faults ts) in
    omega (arith, rest, one, all)
  where
    first : (f : Option _) → length (faults_at t.collector.station f) ≤ 1
    first None = omega arith
    first (Some f) = omega arith

pub few_writer : (e : _) → length (writer_faults e) ≤ 1
few_writer None = omega arith
few_writer (Some f) = omega arith

-- with no more stored, taken and left
pub no_numbers : (t : Tally) → with_numbers t 0 0 0 ≡ t
no_numbers t =
    let a : t.stored + 0 ≡ t.stored = omega arith in
    let b : t.taken + 0 ≡ t.taken = omega arith in
    let d : t.left + 0 ≡ t.left = omega arith in
    λ i. record { stored = a i; taken = b i; left = d i; faults = t.faults }

-- the last fault
last_numbered : (place : ℕ) (f : SessionFault) (fs : List SessionFault) → last_place (numbered place (f ∷ fs)) ≡ Some place
last_numbered place f [] = refl
last_numbered place f (g ∷ fs) = last_numbered place g fs

last_behind : (fs : List (ℕ × SessionFault)) (place : ℕ) (g : SessionFault) (gs : List SessionFault) → last_place (fs ++ numbered place (g ∷ gs)) ≡ Some place
last_behind [] place g gs = last_numbered place g gs
last_behind (f ∷ []) place g gs = last_numbered place g gs
last_behind (f ∷ h ∷ fs) place g gs = last_behind (h ∷ fs) place g gs

-- ONE LEDGER
-- the ledger at an owner's place is written
pub within_ledgers : {O L : Type 0} (hub : Hub O L) (owner place : ℕ) → position_of_owner hub.scheme owner ≡ Some place → HasLedgers hub → place < length hub.ledgers.items
within_ledgers hub owner place at has = let owners = place_within hub.scheme.owners owner place at in omega (arith, owners, has)

abbrev pub one_replaced : {O L : Type 0} (old new : Hub O L) (owner place : ℕ) (x y : L) → position_of_owner old.scheme owner ≡ Some place → HasLedgers old → x ≡ slice_index_or old.ledgers.items place x → new.scheme ≡ old.scheme → new.ledgers.items ≡ slice_set old.ledgers.items place y
    → ReplacesLedger old new owner
one_replaced {O} {L} old new owner place x y at has is scheme items = record {
  scheme = scheme;
  place = place;
  at = at;
  own_old = x;
  own_new = y;
  was = slice_get-get_or old.ledgers.items place x (within_ledgers old owner place at has) ∙ ap Some (sym is);
  is = ap (λ (l : List L). slice_get l place) items ∙ set_here old.ledgers.items place y (within_ledgers old owner place at has);
  count = ap length items ∙ length-set old.ledgers.items place y;
  others = λ other apart. ap (λ (l : List L). slice_get l other) items ∙ set_other old.ledgers.items place other y apart;
}

module _ {S O L : Type 0} (talks : S → Talk) (outbox : O → Standing OutboxValue) (ledger : L → Standing LedgerValue) where
  -- what ran is what ran, whatever is written behind it
  run_set : (start : Hub O L) (olds news : List (Session S)) (n place : ℕ) (r : Session S) (now : Hub O L) (t : Tally) → n ≤ place → HaveRun talks outbox ledger start olds news n now t → HaveRun talks outbox ledger start olds (slice_set news place r) n now t
  run_set start olds news zero place r now t le h = h
  run_set start olds news (suc n) place r now t le h = (
    h.0,
    h.1,
    h.2,
    run_set start olds news n place r h.0 h.1 (omega (arith, le)) h.3,
    record { before = h.4.before; after = h.4.after; was = h.4.was; is = set_other news place n r (λ e. absurd (omega (arith, e, le))) ∙ h.4.is; ran = h.4.ran },
    h.5,
  )

  -- the sessions before a place ran, and none of their faults made the supervisor give up
  pub record StandsAt (start now : Hub O L) (olds news : List (Session S)) (place : ℕ) (first course : Course) : Type 0 where
    pub tally : Tally
    pub ran : HaveRun talks outbox ledger start olds news place now tally
    pub shows : (limit : ℕ) → Shows limit no_tally first → Shows limit tally course
    pub going : (limit : ℕ) → Shows limit no_tally first → course.report.gave_up ≡ false
    pub len : length news ≡ length olds
    pub rest : (j : ℕ) → place ≤ j → slice_get news j ≡ slice_get olds j
    pub few : vec_len course.report.faults ≤ vec_len first.report.faults + place * 17
    pub capacity : vec_capacity course.report.faults ≡ vec_capacity first.report.faults

  pub begins : (start : Hub O L) (olds : List (Session S)) (course : Course) → StandsAt start start olds olds 0 course course
  begins start olds course = record {
    tally = no_tally;
    ran = (refl, refl);
    shows = λ limit is. is;
    going = λ limit is. let none : nat_lt limit 0 ≡ false = grind (arith, nat_tests) in is.report.gave_up ∙ none;
    len = refl;
    rest = λ j le. refl;
    few = omega arith;
    capacity = refl;
  }

  module _ (start now : Hub O L) (olds news : List (Session S)) (place : ℕ) (first course : Course) (s : StandsAt start now olds news place first course) where
    pub still_scheme : now.scheme ≡ start.scheme
    still_scheme = run_scheme talks outbox ledger start olds news place now s.tally s.ran

    pub still_ledgers : HasLedgers start → HasLedgers now
    still_ledgers has = (run_follow talks outbox ledger start olds news place now s.tally s.ran).count ∙ (has ∙ ap (λ sc. length sc.owners) (sym still_scheme))

    pub still_there : place < length olds → (d : Session S) → slice_get olds place ≡ Some (slice_index_or news place d)
    still_there lt d = let n = s.len in sym (s.rest place (omega arith)) ∙ slice_get-get_or news place d (omega (arith, lt, n))

    pub still_room : place < length olds → vec_len first.report.faults + length olds * 17 ≤ vec_capacity first.report.faults → vec_len course.report.faults + 17 ≤ vec_capacity course.report.faults
    still_room lt room = let few = s.few in let same = s.capacity in omega (arith, lt, room, few, same)

    -- one more
    module _ (next : Hub O L) (d after : Session S) (told : Course) (c : Counts) (lt : place < length olds) (ran : HasRun talks outbox ledger now next (slice_index_or news place d) after c) (counts : (limit : ℕ) (t : Tally) → Shows limit t course → Shows limit (with_session t place c) told) where
      ran_on : HaveRun talks outbox ledger start olds (slice_set news place after) (suc place) next (with_session s.tally place c)
      ran_on = (
        now,
        s.tally,
        c,
        run_set start olds news place place after now s.tally (omega arith) s.ran,
        record { before = slice_index_or news place d; after = after; was = still_there lt d; is = set_here news place after (let n = s.len in omega (arith, lt, n)); ran = ran },
        refl,
      )

      one_more : suc place ≡ place + 1
      one_more = omega arith

      rest_on : (j : ℕ) → suc place ≤ j → slice_get (slice_set news place after) j ≡ slice_get olds j
      rest_on j le = set_other news place j after (λ e. absurd (omega (arith, e, le))) ∙ s.rest j (omega (arith, le))

      shown : (limit : ℕ) → Shows limit no_tally first → Shows limit (with_session s.tally place c) told
      shown limit is = counts limit s.tally (s.shows limit is)

      pub goes_on : told.report.gave_up ≡ false → vec_len told.report.faults ≤ vec_len course.report.faults + 17 → vec_capacity told.report.faults ≡ vec_capacity course.report.faults → StandsAt start next olds (slice_set news place after) (place + 1) first told
      goes_on going few same = subst (λ (n : ℕ). StandsAt start next olds (slice_set news place after) n first told) one_more (record {
        tally = with_session s.tally place c;
        ran = ran_on;
        shows = shown;
        going = λ limit is. going;
        len = length-set news place after ∙ s.len;
        rest = rest_on;
        few = (let before = s.few in omega (arith, few, before));
        capacity = same ∙ s.capacity;
      })

      pub gives_up : told.report.gave_up ≡ true → (limit : ℕ) → Shows limit no_tally first → HaveAllRun talks outbox ledger limit start next olds (slice_set news place after) told.report
      gives_up gave limit is = record {
        count = suc place;
        tally = with_session s.tally place c;
        few = omega (arith, lt);
        ran = ran_on;
        shows = (shown limit is).report;
        ended = λ not. let both = sym gave ∙ not in absurd (cc);
        stopped = λ yes. ap (option_map (λ (p : ℕ). p + 1)) (last c.faults refl) ∙ ap Some (sym one_more);
        len = length-set news place after ∙ s.len;
        rest = rest_on;
      }
        where
          -- it did not give up before, so there is a fault now
          before : nat_lt limit (length s.tally.faults) ≡ false
          before = sym (s.shows limit is).report.gave_up ∙ s.going limit is

          now_more : nat_lt limit (length (s.tally.faults ++ numbered place c.faults)) ≡ true
          now_more = sym (shown limit is).report.gave_up ∙ gave

          last : (gs : List SessionFault) → c.faults ≡ gs → last_place (s.tally.faults ++ numbered place c.faults) ≡ Some place
          last [] none =
              let same : s.tally.faults ++ numbered place c.faults ≡ s.tally.faults = ap (λ fs. s.tally.faults ++ numbered place fs) none ∙ append-nil s.tally.faults in
              let both : true ≡ false = sym now_more ∙ (ap (λ fs. nat_lt limit (length fs)) same ∙ before) in
              absurd (cc)
          last (g ∷ gs) some = ap (λ fs. last_place (s.tally.faults ++ numbered place fs)) some ∙ last_behind s.tally.faults place g gs

    pub ends : length olds ≤ place → place ≤ length olds → (limit : ℕ) → Shows limit no_tally first → HaveAllRun talks outbox ledger limit start now olds news course.report
    ends all le limit is = record {
      count = place;
      tally = s.tally;
      few = le;
      ran = s.ran;
      shows = (s.shows limit is).report;
      ended = λ not. omega (arith, all, le);
      stopped = λ gave. let both = sym (s.going limit is) ∙ gave in absurd (cc);
      len = s.len;
      rest = s.rest;
    }
