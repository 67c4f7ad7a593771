-- Lines that come, and what they were answered.
use Rattle.std.proofs.Common.{◌≡◌, ℕ, zero, suc, ◌<◌, Bool, List, [], ◌∷◌, ◌++◌, length, map, slice_index_or, Option, Some, None, refl, sym, ap, ◌∙◌, subst, inl, inr, arith, append_assoc}
use Rattle.std.specs.Prelude.{slice_get, Vec}
use Rattle.std.specs.Global.{Global}
use Rattle.std.specs.List.{AllByRecursion, flat_map}
use Rattle.std.proofs.lemmas.Bool.{cases_lt}
use Rattle.std.proofs.lemmas.List.{append-nil, length-map}
use Rattle.fare_scheme.specs.Values.{SchemeValue}
use Rattle.fare_store.specs.Standing.{Standing}
use Rattle.fare_store.specs.OutboxWords.{OutboxValue}
use Rattle.fare_store.specs.LedgerWords.{LedgerValue}
use Rattle.fare_session.specs.declared.fault.SessionFault.{SessionFault}
use Rattle.fare_source.specs.declared.shift.Shift.{Shift}
use Rattle.fare_net.specs.NetValue.{NetValue}
use Rattle.fare_collect.specs.Collected.{source_of}
use Rattle.fare_collect.specs.declared.station.Station.{Station}
use Rattle.fare_history.proofs.Entries.{all-append}
use Rattle.fare_sessions.specs.Promises.{AreCovered, IsFrameCovered}
use Rattle.fare_sessions.specs.Running.{AreStill}
use Rattle.fare_sessions.specs.declared.hub.Hub.{Hub}
use Rattle.fare_sessions.specs.declared.session.Session.{Session}
use Rattle.fare_sessions.specs.declared.session.Session.TheVariants.{Collect, Serve}
use Rattle.fare_serve.specs.Calls.{AreHeld, Call, IsHeld, IsOutside, IsServing, stations_in}
use Rattle.fare_serve.specs.Coming.{AreAnswersCovered, AreLinesCovered, ComeOfLines, HasBegun, IsOverLines, LinesCome}
use Rattle.fare_serve.specs.Lending.{AreBack, AreLent, GoesBack, HasLent, IsBack, fault_in}
use Rattle.fare_serve.specs.Rounds.{HasFailedRound, IsBegunRound, Round, calls_of, olds_of, serving_of}
use Rattle.fare_serve.specs.Seats.{AreFree, AreSeatsGathered, IsSeatGathered}
use Rattle.fare_serve.specs.Serving.{AreAllCovered, HasFailedHeld, shift_talk}
use Rattle.fare_serve.specs.declared.fault.ServeFault.{ServeFault}
use Rattle.fare_serve.specs.declared.seats.Seat.{Seat}
use Rattle.fare_serve.specs.declared.seats.Seat.TheVariants.{Free, Lent, Held}
use Rattle.fare_serve.proofs.Seated.{held_one, none_held}

-- SESSIONS OF OWNERS
pub are_serving : {S : Type 0} (ks : List ℕ) (calls : List (Call S)) → map olds_of calls ≡ map serving_of ks → AllByRecursion IsServing calls
are_serving [] [] same = tt
are_serving [] (c ∷ cs) same = absurd (cc)
are_serving (k ∷ ks) [] same = absurd (cc)
are_serving (k ∷ ks) (c ∷ cs) same =
    let first : c.olds ≡ serving_of k = cc in
    let rest : map olds_of cs ≡ map serving_of ks = cc in
    ((k, first), are_serving ks cs rest)

-- THE STATIONS' SESSION
-- a session that stays one of as many stations gives as many back
still_many : {S : Type 0} (stations : Vec (Station S) Global) (olds news : List (Session S)) → olds ≡ Collect stations ∷ [] → AreStill olds news → length (stations_in news) ≡ length stations.items
still_many stations olds [] is still = (let len : 0 ≡ length (Collect stations ∷ []) = still.len ∙ ap length is in absurd (cc))
still_many stations olds (Collect after ∷ ss) is still = still.each 0 (Collect stations) (Collect after) (ap (λ (l : List (Session _)). slice_get l 0) is) refl
still_many stations olds (Serve owner ∷ ss) is still = absurd (still.each 0 (Collect stations) (Serve owner) (ap (λ (l : List (Session _)). slice_get l 0) is) refl)

module _ {O L : Type 0} (outbox : O → Standing OutboxValue) (ledger : L → Standing LedgerValue) where
  -- shifts of the lines of these seats were lent to the stations of the call
  pub over_lines : (old new : Hub O L) (whole : Bool) (seats lent : List Seat) (shifts : List (Shift NetValue)) (before : List (Station (Shift NetValue))) (c : Call (Shift NetValue)) → AreLent whole seats lent shifts → map source_of before ≡ shifts
      → IsHeld shift_talk outbox ledger old new c → (sessions : Vec (Station (Shift NetValue)) Global) → c.olds ≡ Collect sessions ∷ [] → sessions.items ≡ before
      → (over : IsOverLines seats c) × (over.lent ≡ lent)
  over_lines old new whole seats lent shifts before c lends sources held sessions collects are = (
    record {
      whole = whole;
      lent = lent;
      stations = sessions;
      collects = collects;
      lends = subst (AreLent whole seats lent) (sym (ap (map source_of) are ∙ sources)) lends;
      many = still_many sessions c.olds c.news collects held.still;
    },
    refl,
  )

  -- a round that a fault ended, over these
  pub failed_held : (old new : Hub O L) (whole : Bool) (seats lent : List Seat) (shifts : List (Shift NetValue)) (before : List (Station (Shift NetValue))) (fault : ServeFault) → AreLent whole seats lent shifts → map source_of before ≡ shifts
      → HasFailedRound shift_talk outbox ledger old new before fault → HasFailedHeld outbox ledger old new seats fault
  failed_held old new whole seats lent shifts before fault lends sources failed = record { failed = failed.failed; begun = by failed.failed.calls failed.failed.held failed.begun }
    where
      by : (calls : List (Call (Shift NetValue))) → AreHeld shift_talk outbox ledger old new calls → IsBegunRound before calls → HasBegun seats calls
      by [] held begun = tt
      by (c ∷ cs) held begun = ((over_lines old held.0 whole seats lent shifts before c lends sources held.1 begun.0.0 begun.0.1 begun.0.2).0, begun.1)

  -- or before any session of it
  pub held_outside : (hub : Hub O L) (seats : List Seat) (fault : ServeFault) → IsOutside fault → HasFailedHeld outbox ledger hub hub seats fault
  held_outside hub seats fault outside = record { failed = record { calls = []; held = refl; ended = outside; each = tt }; begun = tt }

-- the lines of such a call are back
pub back_over : (seats lent next : List Seat) (c : Call (Shift NetValue)) (faults : List (ℕ × SessionFault)) (after : List (Station (Shift NetValue))) (over : (o : IsOverLines seats c) × (o.lent ≡ lent))
    → c.report.faults.items ≡ faults → stations_in c.news ≡ after → AreBack faults after lent next → AreBack c.report.faults.items (stations_in c.news) over.0.lent next
back_over seats lent next c faults after over told gave back =
    subst (λ (q : List (ℕ × SessionFault) × List (Station (Shift NetValue)) × List Seat). AreBack q.0 q.1 q.2 next) (λ i. (sym told i, sym gave i, sym over.1 i)) back

-- ROUNDS
-- the seats before a round's stations' session and behind it
pub record HasSeated (sc : SchemeValue) (olds : List Seat) (r : Round (Shift NetValue)) (news : List Seat) : Type 0 where
  pub gathered : List Seat
  pub came : AreSeatsGathered sc olds gathered
  pub over : IsOverLines gathered r.stations
  pub back : AreBack r.stations.report.faults.items (stations_in r.stations.news) over.lent news
  pub serves : AllByRecursion IsServing r.owners

-- round by round
abbrev pub AreSeated : SchemeValue → List Seat → List (Round (Shift NetValue)) → List Seat → Type 0
AreSeated sc first [] last = last ≡ first
AreSeated sc first (r ∷ rs) last = (next : List Seat) × HasSeated sc first r next × AreSeated sc next rs last

pub seated_more : (sc : SchemeValue) (first : List Seat) (rs : List (Round (Shift NetValue))) (middle : List Seat) (r : Round (Shift NetValue)) (last : List Seat) → AreSeated sc first rs middle → HasSeated sc middle r last → AreSeated sc first (rs ++ r ∷ []) last
seated_more sc first [] middle r last was one = (last, subst (λ (s : List Seat). HasSeated sc s r last) was one, refl)
seated_more sc first (x ∷ rs) middle r last was one = (was.0, was.1, seated_more sc was.0 rs middle r last was.2 one)

come_serving : (sc : SchemeValue) (seats : List Seat) (os rest : List (Call (Shift NetValue))) → AllByRecursion IsServing os → LinesCome sc seats rest → LinesCome sc seats (os ++ rest)
come_serving sc seats [] rest serves come = come
come_serving sc seats (o ∷ os) rest serves come = inl (serves.0, come_serving sc seats os rest serves.1 come)

come_behind : (sc : SchemeValue) (first : List Seat) (rs : List (Round (Shift NetValue))) (middle : List Seat) (rest : List (Call (Shift NetValue))) → AreSeated sc first rs middle → LinesCome sc middle rest → LinesCome sc first (flat_map calls_of rs ++ rest)
come_behind sc first [] middle rest was come = subst (λ (s : List Seat). LinesCome sc s rest) was come
come_behind sc first (r ∷ rs) middle rest was come =
    let one = was.1 in
    let more = come_serving sc was.0 r.owners (flat_map calls_of rs ++ rest) one.serves (come_behind sc was.0 rs middle rest was.2 come) in
    inr (one.gathered, one.came, one.over, inl (was.0, one.back, subst (LinesCome sc was.0) (sym (append_assoc r.owners (flat_map calls_of rs) rest)) more))

-- all rounds' calls, and those of a round that a fault ended behind them
pub come_of_rounds : (sc : SchemeValue) (first : List Seat) (rs : List (Round (Shift NetValue))) (last : List Seat) → AreFree first → AreSeated sc first rs last → ComeOfLines sc (flat_map calls_of rs)
come_of_rounds sc first rs last free was = (first, free, subst (LinesCome sc first) (append-nil (flat_map calls_of rs)) (come_behind sc first rs last [] was tt))

pub come_to_fault : (sc : SchemeValue) (first : List Seat) (rs : List (Round (Shift NetValue))) (last gathered : List Seat) (calls : List (Call (Shift NetValue))) → AreFree first → AreSeated sc first rs last → AreSeatsGathered sc last gathered → HasBegun gathered calls → ComeOfLines sc (flat_map calls_of rs ++ calls)
come_to_fault sc first rs last gathered calls free was came begun = (first, free, come_behind sc first rs last calls was (by calls begun))
  where
    by : (cs : List (Call (Shift NetValue))) → HasBegun gathered cs → LinesCome sc last cs
    by [] b = tt
    by (c ∷ cs) b = inr (gathered, came, b.0, inr b.1)

-- no call at all
pub come_none : (sc : SchemeValue) → ComeOfLines sc []
come_none sc = ([], record { each = λ k d lt. absurd (omega (arith, lt)) }, tt)

-- WHAT LINES WERE ANSWERED
at_map : {X Y : Type 0} (f : X → Y) (xs : List X) (k : ℕ) (d : X) → slice_index_or (map f xs) k (f d) ≡ f (slice_index_or xs k d)
at_map f [] k d = refl
at_map f (x ∷ xs) zero d = refl
at_map f (x ∷ xs) (suc k) d = at_map f xs k d

-- a list of sessions whose first gives stations back is that of these
gives_back : {S : Type 0} (news : List (Session S)) → 0 < length (stations_in news) → (after : Vec (Station S) Global) × (slice_get news 0 ≡ Some (Collect after)) × (after.items ≡ stations_in news)
gives_back [] some = absurd (omega (arith, some))
gives_back (Collect after ∷ ss) some = (after, refl, refl)
gives_back (Serve owner ∷ ss) some = absurd (omega (arith, some))

module _ (sc : SchemeValue) (x : OutboxValue) where
  -- all that a line was answered is covered
  abbrev IsLineCovered : NetValue → Type 0
  IsLineCovered line = AllByRecursion (IsFrameCovered sc x) line.answered

  record AreSeatsCovered (seats : List Seat) : Type 0 where
    each : (k : ℕ) (d : Seat) (line : NetValue) → k < length seats → slice_index_or seats k d ≡ Held line → IsLineCovered line

  free_covered : (seats : List Seat) → AreFree seats → AreSeatsCovered seats
  free_covered seats free = record { each = λ k d line lt has. absurd (none_held line (slice_index_or seats k d) (free.each k d lt) has) }

  -- one that newly greeted was answered nothing
  gathered_at : (place : ℕ) (old new : Seat) (line : NetValue) → ((l : NetValue) → old ≡ Held l → IsLineCovered l) → new ≡ Held line → IsSeatGathered sc place old new → IsLineCovered line
  gathered_at place old new line were has (inl same) = were line (sym same ∙ has)
  gathered_at place old new line were has (inr (m, is, came)) =
      subst IsLineCovered (held_one m line new is has) (subst (AllByRecursion (IsFrameCovered sc x)) (sym came.2.answered) tt)

  gathered_covered : (olds news : List Seat) → AreSeatsGathered sc olds news → AreSeatsCovered olds → AreSeatsCovered news
  gathered_covered olds news came were = record {
    each = λ k d line lt has.
        let within = subst (λ n. k < n) came.len lt in
        gathered_at k (slice_index_or olds k d) (slice_index_or news k d) line (λ l was. were.each k d l within was) has (came.each k d within);
  }

  -- and so was one that is at its end
  lent_at : (old new : Seat) (line : NetValue) → ((l : NetValue) → old ≡ Held l → IsLineCovered l) → HasLent old new line → IsLineCovered line
  lent_at (Held held) new line were lent = subst IsLineCovered (sym lent.0) (were held refl)
  lent_at Free new line were lent = subst IsLineCovered (sym lent.0) tt
  lent_at Lent new line were lent = subst IsLineCovered (sym lent.0) tt

  -- a seat that was lent of has no line
  lent_none : (old new : Seat) (line l : NetValue) → HasLent old new line → new ≡ Held l → ⊥
  lent_none (Held held) new line l lent has = let is = lent.1 in cc
  lent_none Free new line l lent has = let is = lent.1 in cc
  lent_none Lent new line l lent has = let is = lent.1 in cc

  went_back : (fault : Option SessionFault) (line l : NetValue) (new : Seat) → GoesBack fault line new → new ≡ Held l → IsLineCovered line → IsLineCovered l
  went_back (Some fault) line l new goes has is = absurd (none_held l new goes has)
  went_back None line l new (inl (free, done)) has is = absurd (none_held l new free has)
  went_back None line l new (inr (now, held, sends, told, done)) has is = subst IsLineCovered (held_one now l new held has) (subst (AllByRecursion (IsFrameCovered sc x)) (sym sends.answered) is)

  back_at : (faults : List (ℕ × SessionFault)) (t : Station (Shift NetValue)) (old new : Seat) (l : NetValue) → ((m : NetValue) → old ≡ Held m → ⊥) → IsBack faults t old new → new ≡ Held l → IsLineCovered t.source.source → IsLineCovered l
  back_at faults t Lent new l none back has is = went_back (fault_in t.collector.station faults) t.source.source l new back has is
  back_at faults t Free new l none back has is = absurd (none_held l new back has)
  back_at faults t (Held held) new l none back has is = absurd (none held refl)

  back_covered : (faults : List (ℕ × SessionFault)) (after : List (Station (Shift NetValue))) (lent news : List Seat) → AreBack faults after lent news → ((k : ℕ) (d : Seat) (m : NetValue) → k < length lent → slice_index_or lent k d ≡ Held m → ⊥)
      → ((k : ℕ) (t : Station (Shift NetValue)) → k < length after → IsLineCovered (slice_index_or after k t).source.source) → AreSeatsCovered news
  back_covered faults after lent news back none covered = record { each = λ k d line lt has. by k d line (subst (λ n. k < n) back.len lt) has after back covered }
    where
      by : (k : ℕ) (d : Seat) (line : NetValue) → k < length lent → slice_index_or news k d ≡ Held line → (ts : List (Station (Shift NetValue))) → AreBack faults ts lent news → ((i : ℕ) (t : Station (Shift NetValue)) → i < length ts → IsLineCovered (slice_index_or ts i t).source.source) → IsLineCovered line
      by k d line within has [] goes each = absurd (none k d line within (sym (goes.rest k d (omega arith)) ∙ has))
      by k d line within has (t ∷ ts) goes each = elim (cases_lt k (length (t ∷ ts))) [
        | inl lt ↦ back_at faults (slice_index_or (t ∷ ts) k t) (slice_index_or lent k d) (slice_index_or news k d) line (λ m at. none k d m within at) (goes.each k d t lt within) has (each k t lt)
        | inr le ↦ absurd (none k d line within (sym (goes.rest k d le) ∙ has))
      ]

  -- ONE CALL
  module _ (seats : List Seat) (c : Call (Shift NetValue)) (over : IsOverLines seats c) (were : AreSeatsCovered seats) where
    none_lent : (k : ℕ) (d : Seat) (m : NetValue) → k < length over.lent → slice_index_or over.lent k d ≡ Held m → ⊥
    none_lent k d m lt has = by (map source_of over.stations.items) over.lends
      where
        within : k < length seats
        within = subst (λ n. k < n) over.lends.len lt

        by : (shifts : List (Shift NetValue)) → AreLent over.whole seats over.lent shifts → ⊥
        by [] lends = (let many = lends.many in absurd (omega (arith, many, within)))
        by (s ∷ ss) lends = lent_none (slice_index_or seats k d) (slice_index_or over.lent k d) (slice_index_or (s ∷ ss) k s).source m (lends.each k d s within).0 has

    -- what each line was answered before the call is covered
    before_covered : (k : ℕ) (t : Station (Shift NetValue)) → k < length over.stations.items → IsLineCovered (slice_index_or over.stations.items k t).source.source
    before_covered k t lt = by seats over.lends were
      where
        by : (ss : List Seat) → AreLent over.whole ss over.lent (map source_of over.stations.items) → AreSeatsCovered ss → IsLineCovered (slice_index_or over.stations.items k t).source.source
        by [] lends covered = (let many = sym (length-map over.stations.items source_of) ∙ lends.many in absurd (omega (arith, many, lt)))
        by (s ∷ ss) lends covered =
            let many = sym (length-map over.stations.items source_of) ∙ lends.many in
            let within : k < length (s ∷ ss) = omega (arith, many, lt) in
            let lent : HasLent (slice_index_or (s ∷ ss) k s) (slice_index_or over.lent k s) (slice_index_or over.stations.items k t).source.source =
            subst (λ (z : Shift NetValue). HasLent (slice_index_or (s ∷ ss) k s) (slice_index_or over.lent k s) z.source) (at_map source_of over.stations.items k t) (lends.each k s (source_of t) within).0 in
            lent_at (slice_index_or (s ∷ ss) k s) (slice_index_or over.lent k s) (slice_index_or over.stations.items k t).source.source (λ l has. covered.each k s l within has) lent

    -- and so is what it was answered in it
    after_covered : AreCovered shift_talk sc x c.olds c.news → (k : ℕ) (t : Station (Shift NetValue)) → k < length over.stations.items → IsLineCovered (slice_index_or (stations_in c.news) k t).source.source
    after_covered covered k t lt =
        let many = over.many in
        let gives = gives_back c.news (omega (arith, many, lt)) in
        let told = covered.covered 0 over.stations gives.0 (ap (λ (l : List (Session (Shift NetValue))). slice_get l 0) over.collects) gives.1 k t lt in
        subst (λ (l : List (Station (Shift NetValue))). IsLineCovered (slice_index_or l k t).source.source) gives.2
        (subst (AllByRecursion (IsFrameCovered sc x)) (sym told.1) (all-append (IsFrameCovered sc x) _ told.0 (before_covered k t lt) told.2))

  -- ALL CALLS
  serving_one : (c : Call (Shift NetValue)) → IsServing c → AreAnswersCovered sc x c
  serving_one c serves = λ k t lt. (let none = ap (λ (l : List (Session (Shift NetValue))). length (stations_in l)) serves.1 in absurd (omega (arith, none, lt)))

  serving_covered : (calls : List (Call (Shift NetValue))) → AllByRecursion IsServing calls → AreLinesCovered sc x calls
  serving_covered [] serves = tt
  serving_covered (c ∷ cs) serves = (serving_one c serves.0, serving_covered cs serves.1)

  come_covered : (seats : List Seat) (calls : List (Call (Shift NetValue))) → LinesCome sc seats calls → AreSeatsCovered seats → AreAllCovered sc x calls → AreLinesCovered sc x calls
  come_covered seats [] come were covered = tt
  come_covered seats (c ∷ cs) (inl (serves, come)) were covered = (serving_one c serves, come_covered seats cs come were covered.1)
  come_covered seats (c ∷ cs) (inr (gathered, came, over, rest)) were covered =
      let now = gathered_covered seats gathered came were in
      let after = after_covered gathered c over now covered.0 in
      let many = over.many in
      let is : length (stations_in c.olds) ≡ length over.stations.items = ap (λ (l : List (Session (Shift NetValue))). length (stations_in l)) over.collects in (
        λ k t lt. after k t (omega (arith, is, lt)),
        elim rest [
          | inl (next, back, come) ↦ come_covered next cs come (back_covered c.report.faults.items (stations_in c.news) over.lent next back (none_lent gathered c over now) (λ k t lt. after k t (omega (arith, many, lt)))) covered.1
          | inr serves ↦ serving_covered cs serves
        ],
      )

  pub lines_covered : (calls : List (Call (Shift NetValue))) → ComeOfLines sc calls → AreAllCovered sc x calls → AreLinesCovered sc x calls
  lines_covered calls come covered = come_covered come.0 calls come.2 (free_covered come.0 come.1) covered
