-- The last row of a lane, searched; and what waits in several lanes.
use Rattle.std.proofs.Common.{◌≡◌, ℕ, ◌+◌, ◌-◌, ◌<◌, ◌≤◌, List, [], ◌∷◌, ◌++◌, length, map, take, refl, sym, ap, ◌∙◌, subst, arith, inl, inr}
use Rattle.std.specs.Prelude.{◌⊎◌, min, Bool, true, false, Option, Some, None, is_some, IfSome, Result, Ok, Err, IfOk}
use Rattle.std.specs.List.{AllByRecursion}
use Rattle.std.specs.Map.{keys_of}
use Rattle.std.proofs.lemmas.List.{map-append}
use Rattle.std.proofs.lemmas.List.Sums.{sum_by_push}
use Rattle.fare_record.specs.Values.{RecordValue}
use Rattle.fare_scheme.specs.Values.{SchemeValue}
use Rattle.fare_scheme.specs.Words.{id_at}
use Rattle.fare_store.specs.declared.fault.Fault.{Fault}
use Rattle.fare_store.specs.Standing.{Standing}
use Rattle.fare_store.specs.OutboxWords.{OutboxValue, IsNextRow}
use Rattle.fare_store.specs.LedgerWords.{LedgerValue, closed_through}
use Rattle.fare_history.specs.Stores.{StoresValue}
use Rattle.fare_sessions.specs.declared.hub.Hub.{Hub}
use Rattle.fare_sessions.specs.Billing.{day_behind, first_unclosed}
use Rattle.fare_sessions.specs.Stores.{AreClean, AreSound, MayStandAs}
use Rattle.fare_sessions.proofs.Follow.{clean_back}
use Rattle.fare_sessions.proofs.NextClose.{behind_last}
use Rattle.fare_desk.specs.Showing.{HasFrom, OnlyAsks, stated_days}
use Rattle.fare_desk.specs.Waiting.{IsAndLane, IsLast, IsOldest, TellsOwners, TellsWaiting, WaitInLanes, WaitsBehind, WaitsInLane, WaitsInLanes, earlier, earliest, nothing_waits, oldest_in, owner_in, rows_in, statements_in}
use Rattle.fare_desk.specs.declared.waiting.OwnerWaits.{OwnerWaits}
use Rattle.fare_desk.specs.declared.waiting.Waiting.{Waiting}
use Rattle.fare_desk.proofs.Asked.{asks_self, asks_join}
use Rattle.fare_desk.proofs.Lanes.{keys_more}

-- SEARCHING
-- what is known of a lane's rows as its last one is searched: so far some stand, or none was found yet, and past a place
-- none stand
pub record IsSearched (rows : ℕ → Option RecordValue) (after low : ℕ) (high : Option ℕ) : Type 0 where
  pub from : after ≤ low
  pub held : (low ≡ after) ⊎ (is_some (rows low) ≡ true)
  pub none : IfSome high (λ last. (lane : ℕ) → last < lane → rows lane ≡ None)

-- the outbox was asked
abbrev pub HasAsked : ℕ → Option ℕ → Type 0
HasAsked step high = (step ≡ 0) × (high ≡ None) → ⊥

-- how much is left of the search
abbrev pub left_of : ℕ → Option ℕ → ℕ
left_of low None = 36893488147419103232 - low
left_of low (Some last) = last - low

-- nothing was asked yet
pub searched_none : (rows : ℕ → Option RecordValue) (after : ℕ) → IsSearched rows after after None
searched_none rows after = record { from = omega arith; held = inl refl; none = tt }

-- a row stands further on
pub searched_on : (rows : ℕ → ℕ → ℕ → Option RecordValue) (owner device after low : ℕ) (high : Option ℕ) (probe : ℕ) (r : RecordValue) → low ≤ probe → IsSearched (rows owner device) after low high → IsNextRow rows owner device probe (Some r) → IsSearched (rows owner device) after r.lane high
searched_on rows owner device after low high probe r far was is =
    let from = was.from in
    let behind = is.behind in
    record { from = omega (arith, far, from, behind); held = inr (ap is_some is.is_held); none = was.none }

-- none does
pub searched_past : (rows : ℕ → ℕ → ℕ → Option RecordValue) (owner device after low : ℕ) (high : Option ℕ) (probe : ℕ) → IsSearched (rows owner device) after low high → IsNextRow rows owner device probe None → IsSearched (rows owner device) after low (Some probe)
searched_past rows owner device after low high probe was is = record { from = was.from; held = was.held; none = is }

-- the search is over
pub searched_all : (rows : ℕ → Option RecordValue) (after low : ℕ) (high : Option ℕ) (last : ℕ) → high ≡ Some last → last ≤ low → IsSearched rows after low high → IsLast rows after low
searched_all rows after low high last is le was =
    let none = subst (λ o. IfSome o (λ last. (lane : ℕ) → last < lane → rows lane ≡ None)) is was.none in
    record { from = was.from; held = was.held; none = λ lane lt. none lane (omega (arith, le, lt)) }

-- SEVERAL LANES
earlier_joins : (a b c : Option ℕ) → earlier a (earlier b c) ≡ earlier (earlier a b) c
earlier_joins None b c = refl
earlier_joins (Some a) None c = refl
earlier_joins (Some a) (Some b) None = refl
earlier_joins (Some a) (Some b) (Some c) = ap Some (let same : min a (min b c) ≡ min (min a b) c = omega arith in same)

earlier_alone : (a : Option ℕ) → earlier a None ≡ a
earlier_alone None = refl
earlier_alone (Some a) = refl

earliest_push : (all : List (Option ℕ)) (one : Option ℕ) → earliest (all ++ one ∷ []) ≡ earlier (earliest all) one
earliest_push [] one = earlier_alone one
earliest_push (a ∷ all) one = ap (earlier a) (earliest_push all one) ∙ earlier_joins a (earliest all) one

each_more : (h : StoresValue) (owner : ℕ) (devices : List ℕ) (device : ℕ) (lanes : List Waiting) (lane : Waiting) → WaitInLanes h owner devices lanes → WaitsInLane h owner device lane → WaitInLanes h owner (devices ++ device ∷ []) (lanes ++ lane ∷ [])
each_more h owner [] device lanes lane each one = (lane, [], one, ap (λ (l : List Waiting). l ++ lane ∷ []) each, refl)
each_more h owner (d ∷ ds) device lanes lane each one = (each.0, each.1 ++ lane ∷ [], each.2, ap (λ (l : List Waiting). l ++ lane ∷ []) each.3, each_more h owner ds device each.1 lane each.4 one)

pub lanes_none : (h : StoresValue) (owner : ℕ) → WaitsInLanes h owner [] nothing_waits
lanes_none h owner = record { lanes = []; each = refl; rows = refl; statements = refl; oldest = refl }

pub lanes_more : (h : StoresValue) (owner : ℕ) (devices : List ℕ) (device : ℕ) (old lane new : Waiting) → WaitsInLanes h owner devices old → WaitsInLane h owner device lane → IsAndLane old lane new → WaitsInLanes h owner (devices ++ device ∷ []) new
lanes_more h owner devices device old lane new was one is =
    let rows = sum_by_push rows_in was.lanes lane in
    let statements = sum_by_push statements_in was.lanes lane in
    let rows_were = was.rows in
    let rows_are = is.rows in
    let statements_were = was.statements in
    let statements_are = is.statements in
    record {
      lanes = was.lanes ++ lane ∷ [];
      each = each_more h owner devices device was.lanes lane was.each one;
      rows = omega (arith, rows, rows_were, rows_are);
      statements = omega (arith, statements, statements_were, statements_are);
      oldest = is.oldest ∙ (ap (λ o. earlier o lane.oldest) was.oldest ∙ (sym (earliest_push (map oldest_in was.lanes) lane.oldest) ∙ ap earliest (sym (map-append oldest_in was.lanes (lane ∷ [])))));
    }

-- one more of which something holds
all_push : (P : OwnerWaits → Type 0) (xs : List OwnerWaits) (x : OwnerWaits) → AllByRecursion P xs → P x → AllByRecursion P (xs ++ x ∷ [])
all_push P [] x all one = (one, tt)
all_push P (y ∷ ys) x all one = (all.0, all_push P ys x all.1 one)

-- HUBS
module _ {O L : Type 0} (outbox : O → Standing OutboxValue) (ledger : L → Standing LedgerValue) where
  -- what waits behind what is taken, by four questions
  pub behind_is : (a b c d e : Hub O L) (owner device taken last rows statements : ℕ) (closed oldest : Option ℕ) → rows ≡ last - taken → OnlyAsks outbox ledger a b → OnlyAsks outbox ledger b c → OnlyAsks outbox ledger c d → OnlyAsks outbox ledger d e
      → (AreClean outbox ledger b → AreSound outbox ledger a → (h : StoresValue) → MayStandAs outbox ledger a h → ((h.ledgers owner).start ≡ a.scheme.start) × ((taken ≡ length ((h.ledgers owner).taken device)) × (closed ≡ closed_through (h.ledgers owner) device)))
      → (AreClean outbox ledger c → AreSound outbox ledger b → (h : StoresValue) → MayStandAs outbox ledger b h → IsLast (h.outbox.rows owner device) taken last)
      → (AreClean outbox ledger d → AreSound outbox ledger c → (h : StoresValue) → MayStandAs outbox ledger c h → IsOldest h.outbox.rows owner device taken oldest)
      → (AreClean outbox ledger e → AreSound outbox ledger d → (h : StoresValue) → MayStandAs outbox ledger d h → HasFrom (stated_days h.outbox owner device) (day_behind closed d.scheme.start) statements)
      → AreClean outbox ledger e → AreSound outbox ledger a → (h : StoresValue) → MayStandAs outbox ledger e h → WaitsBehind h owner device (length ((h.ledgers owner).taken device)) (record { rows = rows; statements = statements; oldest = oldest })
  behind_is a b c d e owner device taken last rows statements closed oldest far f g k l first second third fourth clean sound h may =
      let sound_b = f.sound sound in
      let sound_c = g.sound sound_b in
      let sound_d = k.sound sound_c in
      let clean_d = clean_back outbox ledger d e l.follow clean in
      let clean_c = clean_back outbox ledger c d k.follow clean_d in
      let clean_b = clean_back outbox ledger b c g.follow clean_c in
      let may_d = l.same clean sound_d h may in
      let may_c = k.same clean_d sound_c h may_d in
      let may_b = g.same clean_c sound_b h may_c in
      let may_a = f.same clean_b sound h may_b in
      let t = first clean_b sound h may_a in
      let v = h.ledgers owner in
      let start : d.scheme.start ≡ v.start = ap (λ (sc : SchemeValue). sc.start) (k.scheme ∙ (g.scheme ∙ f.scheme)) ∙ sym t.0 in
      let day : day_behind closed d.scheme.start ≡ first_unclosed v device = (λ i. day_behind (t.1.1 i) (start i)) ∙ behind_last v device in
      let is = second clean_c sound_b h may_b in
      let from = is.from in
      let there : last ≡ taken + rows = omega (arith, from, far) in
      let reaches : IsLast (h.outbox.rows owner device) taken (taken + rows) = subst (IsLast (h.outbox.rows owner device) taken) there is in
      record {
        rows = subst (λ n. IsLast (h.outbox.rows owner device) n (n + rows)) t.1.0 reaches;
        statements = subst (λ n. HasFrom (stated_days h.outbox owner device) n statements) day (fourth clean sound_d h may_d);
        oldest = subst (λ n. IsOldest h.outbox.rows owner device n oldest) t.1.0 (third clean_d sound_c h may_c);
      }

  -- what waits in a lane that is retired, and in another
  pub lane_retired : (a b : Hub O L) (owner device : ℕ) → OnlyAsks outbox ledger a b
      → (AreClean outbox ledger b → AreSound outbox ledger a → (h : StoresValue) → MayStandAs outbox ledger a h → (h.ledgers owner).retired device ≡ true)
      → AreClean outbox ledger b → AreSound outbox ledger a → (h : StoresValue) → MayStandAs outbox ledger b h → WaitsInLane h owner device nothing_waits
  lane_retired a b owner device f retired clean sound h may =
      let is = retired clean sound h (f.same clean sound h may) in
      record { working = λ not. absurd (cc); retired = λ _. refl }

  pub lane_working : (a b c : Hub O L) (owner device : ℕ) → OnlyAsks outbox ledger a b → OnlyAsks outbox ledger b c → (retired : Bool) → retired ≡ false
      → (AreClean outbox ledger b → AreSound outbox ledger a → (h : StoresValue) → MayStandAs outbox ledger a h → (h.ledgers owner).retired device ≡ retired)
      → (r : Result Waiting Fault) → (AreClean outbox ledger c → AreSound outbox ledger b → IfOk r (λ w. (h : StoresValue) → MayStandAs outbox ledger c h → WaitsBehind h owner device (length ((h.ledgers owner).taken device)) w))
      → AreClean outbox ledger c → AreSound outbox ledger a → IfOk r (λ w. (h : StoresValue) → MayStandAs outbox ledger c h → WaitsInLane h owner device w)
  lane_working a b c owner device f g retired not told (Err fault) waits clean sound = tt
  lane_working a b c owner device f g retired not told (Ok w) waits clean sound = λ h may.
      let before = clean_back outbox ledger b c g.follow clean in
      let is = told before sound h (f.same before sound h (g.same clean (f.sound sound) h may)) in
      record { working = λ _. waits clean (f.sound sound) h may; retired = λ yes. absurd (cc) }

  -- no lane, and one lane more
  pub waiting_none : (owner : ℕ) (hub : Hub O L) → TellsWaiting outbox ledger owner [] hub hub nothing_waits
  waiting_none owner hub = record { asks = asks_self outbox ledger hub; waits = λ clean sound h may. lanes_none h owner }

  pub waiting_more : (owner : ℕ) (devices : List ℕ) (device : ℕ) (a b c : Hub O L) (old lane new : Waiting) → TellsWaiting outbox ledger owner devices a b old → OnlyAsks outbox ledger b c
      → (AreClean outbox ledger c → AreSound outbox ledger b → (h : StoresValue) → MayStandAs outbox ledger c h → WaitsInLane h owner device lane)
      → IsAndLane old lane new → TellsWaiting outbox ledger owner (devices ++ device ∷ []) a c new
  waiting_more owner devices device a b c old lane new was asks tells is = record {
    asks = asks_join outbox ledger a b c was.asks asks;
    waits = λ clean sound h may.
        let before = clean_back outbox ledger b c asks.follow clean in
        lanes_more h owner devices device old lane new (was.waits before sound h (asks.same clean (was.asks.sound sound) h may)) (tells clean (was.asks.sound sound) h may) is;
  }

  pub waiting_push : (owner place device : ℕ) (a b c : Hub O L) (old lane new : Waiting) → id_at b.scheme.devices place ≡ Some device → TellsWaiting outbox ledger owner (take place (keys_of a.scheme.devices)) a b old
      → OnlyAsks outbox ledger b c → (AreClean outbox ledger c → AreSound outbox ledger b → (h : StoresValue) → MayStandAs outbox ledger c h → WaitsInLane h owner device lane)
      → IsAndLane old lane new → TellsWaiting outbox ledger owner (take (place + 1) (keys_of a.scheme.devices)) a c new
  waiting_push owner place device a b c old lane new at was asks tells and =
      let here : id_at a.scheme.devices place ≡ Some device = ap (λ (sc : SchemeValue). id_at sc.devices place) (sym was.asks.scheme) ∙ at in
      subst (λ (l : List ℕ). TellsWaiting outbox ledger owner l a c new) (sym (keys_more a.scheme.devices place device here))
      (waiting_more owner (take place (keys_of a.scheme.devices)) device a b c old lane new was asks tells and)

  -- no owner, and one owner more
  pub owners_none : (hub : Hub O L) → TellsOwners outbox ledger [] hub hub []
  owners_none hub = record { asks = asks_self outbox ledger hub; names = refl; waits_are = λ clean sound h may. tt }

  pub owners_more : (owners : List ℕ) (owner : ℕ) (a b c : Hub O L) (old : List OwnerWaits) (w : Waiting) → TellsOwners outbox ledger owners a b old → TellsWaiting outbox ledger owner (keys_of b.scheme.devices) b c w → TellsOwners outbox ledger (owners ++ owner ∷ []) a c (old ++ (record { owner = owner; waiting = w }) ∷ [])
  owners_more owners owner a b c old w was one = record {
    asks = asks_join outbox ledger a b c was.asks one.asks;
    names = map-append owner_in old (record { owner = owner; waiting = w } ∷ []) ∙ ap (λ (l : List ℕ). l ++ owner ∷ []) was.names;
    waits_are = λ clean sound h may.
        let before = clean_back outbox ledger b c one.asks.follow clean in
        let sound_b = was.asks.sound sound in
        let here = subst (λ (sc : SchemeValue). WaitsInLanes h owner (keys_of sc.devices) w) was.asks.scheme (one.waits clean sound_b h may) in
        all_push (λ (x : OwnerWaits). WaitsInLanes h x.owner (keys_of a.scheme.devices) x.waiting) old (record { owner = owner; waiting = w }) (was.waits_are before sound h (one.asks.same clean sound_b h may)) here;
  }

  pub owners_push : (place owner : ℕ) (a b c : Hub O L) (old new : List OwnerWaits) (w : Waiting) → new ≡ old ++ (record { owner = owner; waiting = w }) ∷ [] → id_at b.scheme.owners place ≡ Some owner
      → TellsOwners outbox ledger (take place (keys_of a.scheme.owners)) a b old → TellsWaiting outbox ledger owner (keys_of b.scheme.devices) b c w → TellsOwners outbox ledger (take (place + 1) (keys_of a.scheme.owners)) a c new
  owners_push place owner a b c old new w is at was one =
      let here : id_at a.scheme.owners place ≡ Some owner = ap (λ (sc : SchemeValue). id_at sc.owners place) (sym was.asks.scheme) ∙ at in
      let names = keys_more a.scheme.owners place owner here in
      let more = owners_more (take place (keys_of a.scheme.owners)) owner a b c old w was one in
      subst (λ (l : List OwnerWaits). TellsOwners outbox ledger (take (place + 1) (keys_of a.scheme.owners)) a c l) (sym is)
      (subst (λ (l : List ℕ). TellsOwners outbox ledger l a c (old ++ (record { owner = owner; waiting = w }) ∷ [])) (sym names) more)
