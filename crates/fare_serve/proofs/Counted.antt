-- Sessions and rounds, one more, and what is counted of them.
use Rattle.std.proofs.Common.{◌≡◌, ◌≢◌, ◌⊎◌, ℕ, zero, suc, ◌+◌, ◌<◌, ◌≤◌, List, [], ◌∷◌, ◌++◌, length, map, take, slice_index_or, slice_get, Option, Some, None, option_map, refl, sym, ap, ◌∙◌, subst, inl, inr, arith}
use Rattle.std.specs.Prelude.{unwrap_or, Vec, Result, Ok, Err, IfOk}
use Rattle.std.specs.Global.{Global}
use Rattle.std.specs.List.{sum_by}
use Rattle.std.specs.Map.{keys_of}
use Rattle.std.proofs.Math.Nat.{min-eq_left}
use Rattle.std.proofs.lemmas.List.{length-append, length-map, map-append, take_all}
use Rattle.std.proofs.lemmas.List.Sums.{sum_by-append, sum_by-cons}
use Rattle.std.proofs.lemmas.Option.{slice_get-map}
use Rattle.fare_scheme.specs.Values.{SchemeValue}
use Rattle.fare_scheme.specs.Words.{id_at}
use Rattle.fare_store.specs.Standing.{Standing}
use Rattle.fare_store.specs.OutboxWords.{OutboxValue}
use Rattle.fare_store.specs.LedgerWords.{LedgerValue}
use Rattle.fare_source.specs.Talking.{Talk}
use Rattle.fare_collect.specs.Resuming.{AreStations}
use Rattle.fare_collect.specs.declared.station.Station.{Station}
use Rattle.fare_sessions.specs.declared.hub.Hub.{Hub}
use Rattle.fare_sessions.specs.declared.report.SessionsReport.{SessionsReport}
use Rattle.fare_sessions.specs.declared.session.Session.{Session}
use Rattle.fare_sessions.specs.declared.session.Session.TheVariants.{Collect, Serve}
use Rattle.fare_history.proofs.Entries.{all-append}
use Rattle.fare_serve.specs.Calls.{Call, HasHeldStations, HasHeld, HasHeldOwner, ended_by, first_ending, stations_in}
use Rattle.fare_serve.specs.declared.fault.ServeFault.{ServeFault}
use Rattle.fare_serve.specs.Counting.{AddsOwner, AddsStations, AreNoCounts, IsCountsOf, kept_count, owner_in}
use Rattle.fare_serve.specs.Rounds.{AddsRound, AreCountsOf, HasServedRound, HaveServedOwners, Round, left_in, left_over, olds_of, serving_of, stored_in, taken_at, taken_in}
use Rattle.fare_serve.specs.declared.counts.Counts.{Counts}
use Rattle.fare_serve.specs.declared.counts.Taken.{Taken}
use Rattle.fare_serve.proofs.Chained.{held_none, held_then}

-- two numbers are the same, or they differ
pub same_or_apart : (k place : ℕ) → (k ≡ place) ⊎ (k ≢ place)
same_or_apart zero zero = inl refl
same_or_apart zero (suc place) = inr (λ e. omega (arith, e))
same_or_apart (suc k) zero = inr (λ e. omega (arith, e))
same_or_apart (suc k) (suc place) = elim (same_or_apart k place) [
  | inl e ↦ inl (ap suc e)
  | inr differ ↦ inr (λ e. differ (omega (arith, e)))
]

-- the first so many of a list, one more
take_after : (ks : List ℕ) (place x : ℕ) → slice_get ks place ≡ Some x → take (suc place) ks ≡ take place ks ++ x ∷ []
take_after [] place x at = grind (arith, at)
take_after (k ∷ ks) zero x at = let same : k ≡ x = cc in ap (λ (y : ℕ). y ∷ []) same
take_after (k ∷ ks) (suc place) x at = ap (λ (l : List ℕ). k ∷ l) (take_after ks place x at)

pub take_next : (ks : List ℕ) (place x : ℕ) → slice_get ks place ≡ Some x → take (place + 1) ks ≡ take place ks ++ x ∷ []
take_next ks place x at = let next : place + 1 ≡ suc place = omega arith in ap (λ n. take n ks) next ∙ take_after ks place x at

-- all ids of a list
pub all_ids : {X : Type 0} (entries : List (ℕ × X)) → take (length entries) (keys_of entries) ≡ keys_of entries
all_ids entries = take_all (length entries) (keys_of entries) (let n = length-map entries (λ e. e.0) in omega (arith, n))

-- counts that stay at the greatest add up
pub kept_then : (a b c : ℕ) → kept_count (kept_count (a + b) + c) ≡ kept_count (a + (b + c))
kept_then a b c = omega arith

kept_sum : (a b : ℕ) → kept_count (kept_count a + b) ≡ kept_count (a + b)
kept_sum a b = omega arith

zero_sum : (n : ℕ) → 0 + n ≡ n
zero_sum n = omega arith

pub kept_small : (n : ℕ) → kept_count n ≤ 18446744073709551615
kept_small n = omega arith

-- the stations of one session are those of the list of it
pub left_by_one : {S : Type 0} (news : List (Session S)) (d : Session S) → length news ≡ 1 → stations_in news ≡ stations_in (slice_index_or news 0 d ∷ [])
left_by_one [] d one = absurd (omega (arith, one))
left_by_one (Collect stations ∷ ss) d one = refl
left_by_one (Serve owner ∷ ss) d one = refl

-- NO ROUND
abbrev pub zero_of : ℕ → Taken
zero_of owner = record { owner = owner; count = 0 }

owners_of_zeros : (ks : List ℕ) → map owner_in (map zero_of ks) ≡ ks
owners_of_zeros [] = refl
owners_of_zeros (k ∷ ks) = ap (λ (l : List ℕ). k ∷ l) (owners_of_zeros ks)

zero_at : (ks : List ℕ) (place : ℕ) (d : Taken) → place < length (map zero_of ks) → (slice_index_or (map zero_of ks) place d).count ≡ 0
zero_at [] place d lt = absurd (omega (arith, lt))
zero_at (k ∷ ks) zero d lt = refl
zero_at (k ∷ ks) (suc place) d lt = zero_at ks place d (omega (arith, lt))

pub zeros_more : (ks : List ℕ) (place x : ℕ) (taken : List Taken) → slice_get ks place ≡ Some x → taken ≡ map zero_of (take place ks) → taken ++ zero_of x ∷ [] ≡ map zero_of (take (place + 1) ks)
zeros_more ks place x taken at is = ap (λ (l : List Taken). l ++ zero_of x ∷ []) is ∙ (sym (map-append zero_of (take place ks) (x ∷ [])) ∙ ap (map zero_of) (sym (take_next ks place x at)))

pub no_counts : (sc : SchemeValue) (c : Counts) → c.stored ≡ 0 → c.left ≡ 0 → c.taken.items ≡ map zero_of (take (length sc.owners) (keys_of sc.owners)) → AreNoCounts sc c
no_counts sc c stored left is =
    let all = is ∙ ap (map zero_of) (all_ids sc.owners) in
    record {
      owners = ap (map owner_in) all ∙ owners_of_zeros (keys_of sc.owners);
      stored = stored;
      taken = λ place d lt. ap (λ (l : List Taken). (slice_index_or l place d).count) all ∙ zero_at (keys_of sc.owners) place d (subst (λ (l : List Taken). place < length l) all lt);
      left = left;
    }

pub counts_none : {S : Type 0} (sc : SchemeValue) (c : Counts) → AreNoCounts sc c → AreCountsOf {S = S} sc [] c
counts_none sc c none = record {
  owners = none.owners;
  stored = none.stored;
  taken = λ place d lt. none.taken place d lt;
  left = none.left;
}

-- the counts have an entry for each owner
pub entries_of : (sc : SchemeValue) (c : Counts) → IsCountsOf sc c → length c.taken.items ≡ length sc.owners
entries_of sc c owners = sym (length-map c.taken.items owner_in) ∙ (ap length owners ∙ length-map sc.owners (λ e. e.0))

pub entries_kept : (c d : Counts) → map owner_in d.taken.items ≡ map owner_in c.taken.items → length d.taken.items ≡ length c.taken.items
entries_kept c d same = sym (length-map d.taken.items owner_in) ∙ (ap length same ∙ length-map c.taken.items owner_in)

-- ONE OWNER MORE
-- the entry at a place of a list with one more
at_end : {X : Type 0} (xs : List X) (x : X) → slice_get (xs ++ x ∷ []) (length xs) ≡ Some x
at_end [] x = refl
at_end (y ∷ xs) x = at_end xs x

before_end : {X : Type 0} (xs : List X) (x : X) (k : ℕ) → k < length xs → slice_get (xs ++ x ∷ []) k ≡ slice_get xs k
before_end [] x k lt = absurd (omega (arith, lt))
before_end (y ∷ xs) x zero lt = refl
before_end (y ∷ xs) x (suc k) lt = before_end xs x k (omega (arith, lt))

module _ {S O L : Type 0} (talks : S → Talk) (outbox : O → Standing OutboxValue) (ledger : L → Standing LedgerValue) where
  -- however a call of an owner's session ended
  pub served_result : (old new : Hub O L) (owner : ℕ) (news : List (Session S)) (r : Result SessionsReport ServeFault) → IfOk r (HasHeld talks outbox ledger old new (Serve owner ∷ []) news) → IfOk r (λ report. first_ending report.faults.items ≡ None) → IfOk r (HasHeldOwner talks outbox ledger old new owner)
  served_result old new owner news (Ok report) held unended = record { call = record { olds = Serve owner ∷ []; news = news; report = report }; olds = refl; told = refl; held = held; unended = unended }
  served_result old new owner news (Err fault) held unended = tt

  pub owners_none : (hub : Hub O L) (c : Counts) → HaveServedOwners talks outbox ledger hub hub 0 c c
  owners_none hub c = record {
    calls = [];
    many = refl;
    serves = refl;
    held = held_none talks outbox ledger hub;
    unended = tt;
    owners = refl;
    stored = refl;
    taken = λ k d lt. absurd (omega (arith, lt));
    rest = λ k d le. refl;
    left = λ fits. sym (min-eq_left (omega (arith, fits))) ∙ ap kept_count (omega arith);
  }

  pub owners_more : (old now next : Hub O L) (place owner : ℕ) (report : SessionsReport) (c0 c1 c2 : Counts)
      → HaveServedOwners talks outbox ledger old now place c0 c1 → id_at old.scheme.owners place ≡ Some owner → HasHeldOwner talks outbox ledger now next owner report → AddsOwner c1 c2 place report
      → HaveServedOwners talks outbox ledger old next (place + 1) c0 c2
  owners_more old now next place owner report c0 c1 c2 was at one adds = record {
    calls = was.calls ++ one.call ∷ [];
    many = length-append was.calls (one.call ∷ []) ∙ ap (λ n. n + 1) was.many;
    serves = serves;
    held = held_then talks outbox ledger old now next was.calls (one.call ∷ []) was.held (next, one.held, refl);
    unended = all-append (λ (c : Call S). ended_by c ≡ None) was.calls (one.call ∷ []) was.unended (one.unended, tt);
    owners = adds.owners ∙ was.owners;
    stored = adds.stored ∙ was.stored;
    taken = λ k d lt. by k d lt (same_or_apart k place);
    rest = λ k d le. adds.others k d (λ e. omega (arith, e, le)) ∙ was.rest k d (omega (arith, le));
    left = λ fits. adds.left ∙ (ap (λ n. kept_count (n + report.left)) (was.left fits) ∙ (kept_then c0.left (sum_by left_in was.calls) report.left ∙ ap (λ n. kept_count (c0.left + n)) (sym left_more)));
  }
    where
      serves : map olds_of (was.calls ++ one.call ∷ []) ≡ map (serving_of {S = S}) (take (place + 1) (keys_of old.scheme.owners))
      serves =
          map-append olds_of was.calls (one.call ∷ []) ∙
          ((λ i. was.serves i ++ one.olds i ∷ []) ∙
          (sym (map-append (serving_of {S = S}) (take place (keys_of old.scheme.owners)) (owner ∷ [])) ∙ ap (map (serving_of {S = S})) (sym (take_next (keys_of old.scheme.owners) place owner (slice_get-map _ old.scheme.owners place ∙ at)))))

      left_more : sum_by left_in (was.calls ++ one.call ∷ []) ≡ sum_by left_in was.calls + report.left
      left_more = sum_by-append left_in was.calls (one.call ∷ []) ∙ (ap (λ n. sum_by left_in was.calls + n) (zero_sum one.call.report.left) ∙ ap (λ (r : SessionsReport). sum_by left_in was.calls + r.left) one.told)

      here : slice_get (was.calls ++ one.call ∷ []) place ≡ Some one.call
      here = ap (slice_get (was.calls ++ one.call ∷ [])) (sym was.many) ∙ at_end was.calls one.call

      told : report.taken ≡ unwrap_or (option_map taken_in (slice_get (was.calls ++ one.call ∷ []) place)) 0
      told = ap (λ (r : SessionsReport). r.taken) (sym one.told) ∙ ap (λ (o : Option (Call S)). unwrap_or (option_map taken_in o) 0) (sym here)

      by : (k : ℕ) (d : Taken) → k < place + 1 → (k ≡ place) ⊎ (k ≢ place) → (slice_index_or c2.taken.items k d).count ≡ kept_count ((slice_index_or c0.taken.items k d).count + unwrap_or (option_map taken_in (slice_get (was.calls ++ one.call ∷ []) k)) 0)
      by k d lt (inl e) = subst (λ n. (slice_index_or c2.taken.items n d).count ≡ kept_count ((slice_index_or c0.taken.items n d).count + unwrap_or (option_map taken_in (slice_get (was.calls ++ one.call ∷ []) n)) 0)) (sym e)
          (adds.here d ∙ (ap (λ (t : Taken). kept_count (t.count + report.taken)) (was.rest place d (omega arith)) ∙ ap (λ n. kept_count ((slice_index_or c0.taken.items place d).count + n)) told))
      by k d lt (inr differ) =
          let less : k < place = omega (arith, lt, differ) in
          let m = was.many in
          let below : k < length was.calls = omega (arith, less, m) in
          ap (λ (t : Taken). t.count) (adds.others k d differ) ∙ (was.taken k d less ∙ ap (λ (o : Option (Call S)). kept_count ((slice_index_or c0.taken.items k d).count + unwrap_or (option_map taken_in o) 0)) (sym (before_end was.calls one.call k below)))

  -- whose ledgers and entries are still there
  pub owner_ledgers : (now next : Hub O L) (owner : ℕ) (report : SessionsReport) → HasHeldOwner talks outbox ledger now next owner report → length now.ledgers.items ≡ length now.scheme.owners → length next.ledgers.items ≡ length next.scheme.owners
  owner_ledgers now next owner report one has = one.held.follow.count ∙ (has ∙ ap (λ (sc : SchemeValue). length sc.owners) (sym one.held.scheme))

  -- A ROUND
  abbrev round_from : Call S → List (Call S) → Round S
  round_from c os = record { stations = c; owners = os }

  pub round_of : (old middle new : Hub O L) (stations : Vec (Station S) Global) (report : SessionsReport) (after : List (Station S)) (c0 c1 c2 : Counts)
      → HasHeldStations talks outbox ledger old middle stations report after → AddsStations c0 c1 report → HaveServedOwners talks outbox ledger middle new (length middle.scheme.owners) c1 c2
      → AreStations old.scheme stations.items → length stations.items ≡ length old.scheme.stations → length c0.taken.items ≡ length old.scheme.owners
      → HasServedRound talks outbox ledger old new stations.items report after c0 c2
  round_of old middle new stations report after c0 c1 c2 one adds owners are all entries = record {
    round = round_from one.call owners.calls;
    gave = one.gave;
    is = record {
      sessions = stations;
      collects = one.olds;
      stations_are = refl;
      stations = are;
      all = all;
      serves = owners.serves ∙ ap (map (serving_of {S = S})) (all_ids middle.scheme.owners ∙ ap (λ (sc : SchemeValue). keys_of sc.owners) one.held.scheme);
    };
    told = one.told;
    held = (middle, one.held, owners.held);
    unended = (one.unended, owners.unended);
    counted = record {
      owners = owners.owners ∙ ap (λ (v : Vec Taken Global). map owner_in v.items) adds.taken;
      stored = owners.stored ∙ (adds.stored ∙ ap (λ (r : SessionsReport). kept_count (c0.stored + r.stored)) (sym one.told));
      taken = λ place d lt. owners.taken place d (subst (λ n. place < n) many lt) ∙ ap (λ (v : Vec Taken Global). kept_count ((slice_index_or v.items place d).count + taken_at place (round_from one.call owners.calls))) adds.taken;
      left = owners.left (subst (λ n. n ≤ 18446744073709551615) (sym adds.left) (kept_small (c0.left + report.left))) ∙
          (ap (λ n. kept_count (n + sum_by left_in owners.calls)) adds.left ∙
          (kept_then c0.left report.left (sum_by left_in owners.calls) ∙ (ap (λ (r : SessionsReport). kept_count (c0.left + (r.left + sum_by left_in owners.calls))) (sym one.told) ∙ ap (λ n. kept_count (c0.left + n)) (sym (sum_by-cons left_in one.call owners.calls)))));
    };
  }
    where
      many : length c0.taken.items ≡ length middle.scheme.owners
      many = entries ∙ ap (λ (sc : SchemeValue). length sc.owners) (sym one.held.scheme)

-- ROUNDS
pub counts_more : {S : Type 0} (sc : SchemeValue) (rounds : List (Round S)) (r : Round S) (c d : Counts) → AreCountsOf sc rounds c → AddsRound c d r → AreCountsOf sc (rounds ++ r ∷ []) d
counts_more {S} sc rounds r c d was adds = record {
  owners = adds.owners ∙ was.owners;
  stored = adds.stored ∙ more c.stored stored_in was.stored;
  taken = λ place t lt.
      let within : place < length c.taken.items = subst (λ n. place < n) (entries_kept c d adds.owners) lt in
      adds.taken place t within ∙ more (slice_index_or c.taken.items place t).count (taken_at place) (was.taken place t within);
  left = adds.left ∙ more c.left left_over was.left;
}
  where
    more : (n : ℕ) (f : Round S → ℕ) → n ≡ kept_count (sum_by f rounds) → kept_count (n + f r) ≡ kept_count (sum_by f (rounds ++ r ∷ []))
    more n f is = ap (λ m. kept_count (m + f r)) is ∙ (kept_sum (sum_by f rounds) (f r) ∙ ap kept_count (sym (sum_by-append f rounds (r ∷ []) ∙ ap (λ m. sum_by f rounds + m) (zero_sum (f r)))))
