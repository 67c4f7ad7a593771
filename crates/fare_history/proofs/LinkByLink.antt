-- What a collector accepts of frames one after the other are the accepted links of each of its devices.
use Rattle.std.proofs.Common.{◌≡◌, ℕ, ◌+◌, List, [], ◌∷◌, ◌++◌, true, false, Bool, map, Some, None, refl, sym, ap, ◌∙◌, subst, arith}
use Rattle.std.specs.Prelude.{Option, Result, Ok, Err, ◌==◌, not, if◌then◌else◌, nat_lt, option_map}
use Rattle.std.specs.List.{AllByRecursion}
use Rattle.std.proofs.lemmas.Bool.Decides.{nat_tests}
use Rattle.fare_record.specs.Values.{RecordValue, StatementValue}
use Rattle.fare_record.specs.Lanes.{of_device}
use Rattle.fare_record.specs.declared.item.Item.{Item}
use Rattle.fare_record.specs.declared.item.Item.TheVariants as item
use Rattle.fare_frame.specs.declared.frame.Frame.{Frame}
use Rattle.fare_frame.specs.declared.frame.Frame.TheVariants.{Tapped, Stated, Acked, DayAcked, Greeted}
use Rattle.fare_scheme.specs.Values.{SchemeValue}
use Rattle.fare_scheme.specs.Words.{owner_of}
use Rattle.fare_collector.specs.Collecting.{is_id, is_owned, collect_judged, changed}
use Rattle.fare_collector.specs.declared.fault.CollectRefusal.{CollectRefusal}
use Rattle.fare_collector.specs.declared.fault.CollectRefusal.TheVariants.{Misrouted, Old, Ahead}
use Rattle.fare_collector.specs.declared.fault.StatementRefusal.{StatementRefusal}
use Rattle.fare_history.specs.Gathering.{links_of, CountsFrom}
use Rattle.fare_history.specs.Plainly.{taps_in}
use Rattle.fare_history.specs.AcceptedLinks.{IsLink, IsNotLink, IsFirstLink, AreAcceptedLinks, tap_judged, stating_judged, arrived_if, moved_if, arrivals}
use Rattle.fare_store.proofs.Entries.{is_one, is_self, other_way}
use Rattle.fare_history.proofs.Entries.{is_own_id, all-right}

-- ONE TAP
-- the verdict by the owner's test, and whether the link is before or behind the next one
abbrev verdict : Bool → Bool → Bool → Result Unit CollectRefusal
verdict owned old ahead = if not owned then Err Misrouted else (if old then Err Old else (if ahead then Err Ahead else Ok tt))

all_right : (owned old ahead : Bool) → verdict owned old ahead ≡ Ok tt → (owned ≡ true) × (old ≡ false) × (ahead ≡ false)
all_right false old ahead e = absurd (cc)
all_right true true ahead e = absurd (cc)
all_right true false true e = absurd (cc)
all_right true false false e = (refl, refl, refl)

owner_is : (o : Option ℕ) (id : ℕ) → is_id o id ≡ true → o ≡ Some id
owner_is None id e = absurd (cc)
owner_is (Some other) id e = ap Some (is_one other id e)

next_is : (link n : ℕ) → nat_lt link n ≡ false → nat_lt n link ≡ false → link ≡ n
next_is link n a b = grind (arith, nat_tests)

not_less : (n : ℕ) → nat_lt n n ≡ false
not_less n = grind (arith, nat_tests)

-- a tap that is accepted has the next link, and its owner is its product's
accepted_is : (sc : SchemeValue) (next : ℕ → Option ℕ) (device link : ℕ) (r : RecordValue) → next device ≡ Some link → r.device ≡ device → tap_judged sc next r ≡ Ok tt → IsLink sc device link r
accepted_is sc next device link r at of judged =
    let tests = all_right (is_owned sc r) (nat_lt r.link link) (nat_lt link r.link) (sym (ap (λ n. collect_judged n (is_owned sc r) r.link) (ap next of ∙ at)) ∙ judged) in
    record { of_device = of; is = next_is r.link link tests.1 tests.2; owned = owner_is (owner_of sc r.tap.product) r.owner tests.0 }

-- and such a tap is accepted
is_accepted : (sc : SchemeValue) (next : ℕ → Option ℕ) (device link : ℕ) (r : RecordValue) → next device ≡ Some link → IsLink sc device link r → tap_judged sc next r ≡ Ok tt
is_accepted sc next device link r at is =
    ap (λ n. collect_judged n (is_owned sc r) r.link) (ap next is.of_device ∙ at)
    ∙ ap (λ o. verdict (is_id o r.owner) (nat_lt r.link link) (nat_lt link r.link)) is.owned
    ∙ ap (λ b. verdict b (nat_lt r.link link) (nat_lt link r.link)) (is_own_id r.owner)
    ∙ ap (λ n. verdict true (nat_lt n link) (nat_lt link n)) is.is
    ∙ ap (λ b. verdict true b b) (not_less link)

moved_here : (next : ℕ → Option ℕ) (key device n : ℕ) → (key == device) ≡ true → next device ≡ Some n → changed (λ k. k + 1) next key device ≡ Some (n + 1)
moved_here next key device n e at =
    let t : (device == key) ≡ true = grind (arith, nat_tests) in
    ap (λ (b : Bool). if b then option_map (λ k. k + 1) (next device) else next device) t ∙ ap (option_map (λ k. k + 1)) at

moved_there : (next : ℕ → Option ℕ) (key device n : ℕ) → (key == device) ≡ false → next device ≡ Some n → changed (λ k. k + 1) next key device ≡ Some n
moved_there next key device n e at = ap (λ (b : Bool). if b then option_map (λ k. k + 1) (next device) else next device) (other_way key device e) ∙ at

-- FRAME BY FRAME
-- a frame in front that is not the next link changes nothing
one_before : (sc : SchemeValue) (device u : ℕ) (f : Frame) (fs : List Frame) (rs : List RecordValue) → IsNotLink sc device (u + 1) f → AreAcceptedLinks sc device u fs rs → AreAcceptedLinks sc device u (f ∷ fs) rs
one_before sc device u f fs [] other are = (other, are)
one_before sc device u f fs (r ∷ rs) other are = (are.0, record { before = f ∷ are.1.before; stands = ap (λ l. f ∷ l) are.1.stands; is = are.1.is; first = (other, are.1.first) }, are.2)

-- the taps of a device that come of a tap, by how it was judged, and of the frames behind it
abbrev taps_after : SchemeValue → ℕ → (ℕ → Option ℕ) → RecordValue → List Frame → Result Unit CollectRefusal → List RecordValue
taps_after sc device next r fs judged = of_device device (taps_in (arrived_if judged (item.Tap r) ++ arrivals sc (moved_if judged next r.device) fs))

abbrev front_if : RecordValue → List RecordValue → Bool → List RecordValue
front_if r rs b = if b then r ∷ rs else rs

by_tap : (sc : SchemeValue) (device u : ℕ) (next : ℕ → Option ℕ) (r : RecordValue) (fs : List Frame) (d : Bool) (judged : Result Unit CollectRefusal) → (r.device == device) ≡ d → tap_judged sc next r ≡ judged → next device ≡ Some (u + 1)
    → AreAcceptedLinks sc device u fs (of_device device (taps_in (arrivals sc next fs)))
    → (changed (λ n. n + 1) next r.device device ≡ Some (u + 1 + 1) → AreAcceptedLinks sc device (u + 1) fs (of_device device (taps_in (arrivals sc (changed (λ n. n + 1) next r.device) fs))))
    → (changed (λ n. n + 1) next r.device device ≡ Some (u + 1) → AreAcceptedLinks sc device u fs (of_device device (taps_in (arrivals sc (changed (λ n. n + 1) next r.device) fs))))
    → AreAcceptedLinks sc device u (Tapped r ∷ fs) (taps_after sc device next r fs judged)
by_tap sc device u next r fs true (Ok done) e j at same up moved =
    subst (AreAcceptedLinks sc device u (Tapped r ∷ fs)) (sym (ap (front_if r (of_device device (taps_in (arrivals sc (changed (λ n. n + 1) next r.device) fs)))) e))
    (fs, record { before = []; stands = refl; is = accepted_is sc next device (u + 1) r at (is_one r.device device e) j; first = tt }, up (moved_here next r.device device (u + 1) e at))
by_tap sc device u next r fs true (Err why) e j at same up moved =
    one_before sc device u (Tapped r) fs (of_device device (taps_in (arrivals sc next fs))) (λ is. refused (sym j ∙ is_accepted sc next device (u + 1) r at is)) same
  where
    refused : ◌≡◌ {A = Result Unit CollectRefusal} (Err why) (Ok tt) → ⊥
    refused q = cc
by_tap sc device u next r fs false (Ok done) e j at same up moved =
    subst (AreAcceptedLinks sc device u (Tapped r ∷ fs)) (sym (ap (front_if r (of_device device (taps_in (arrivals sc (changed (λ n. n + 1) next r.device) fs)))) e))
    (one_before sc device u (Tapped r) fs (of_device device (taps_in (arrivals sc (changed (λ n. n + 1) next r.device) fs))) (λ is. apart is.of_device) (moved (moved_there next r.device device (u + 1) e at)))
  where
    apart : r.device ≡ device → ⊥
    apart q = let both : true ≡ false = sym (is_self device) ∙ ap (λ n. n == device) (sym q) ∙ e in cc
by_tap sc device u next r fs false (Err why) e j at same up moved =
    one_before sc device u (Tapped r) fs (of_device device (taps_in (arrivals sc next fs))) (λ is. apart is.of_device) same
  where
    apart : r.device ≡ device → ⊥
    apart q = let both : true ≡ false = sym (is_self device) ∙ ap (λ n. n == device) (sym q) ∙ e in cc

statement_drops : (judged : Result Unit StatementRefusal) (device : ℕ) (v : StatementValue) (rest : List Item) → of_device device (taps_in rest) ≡ of_device device (taps_in (arrived_if judged (item.Stated v) ++ rest))
statement_drops (Ok done) device v rest = refl
statement_drops (Err why) device v rest = refl

pub link_by_link : (sc : SchemeValue) (next : ℕ → Option ℕ) (device u : ℕ) (fs : List Frame) → next device ≡ Some (u + 1) → AreAcceptedLinks sc device u fs (of_device device (taps_in (arrivals sc next fs)))
link_by_link sc next device u [] at = tt
link_by_link sc next device u (Acked a ∷ fs) at = one_before sc device u (Acked a) fs (of_device device (taps_in (arrivals sc next fs))) tt (link_by_link sc next device u fs at)
link_by_link sc next device u (DayAcked a ∷ fs) at = one_before sc device u (DayAcked a) fs (of_device device (taps_in (arrivals sc next fs))) tt (link_by_link sc next device u fs at)
link_by_link sc next device u (Greeted h ∷ fs) at = one_before sc device u (Greeted h) fs (of_device device (taps_in (arrivals sc next fs))) tt (link_by_link sc next device u fs at)
link_by_link sc next device u (Stated v ∷ fs) at =
    subst (AreAcceptedLinks sc device u (Stated v ∷ fs)) (statement_drops (stating_judged sc next v) device v (arrivals sc next fs))
    (one_before sc device u (Stated v) fs (of_device device (taps_in (arrivals sc next fs))) tt (link_by_link sc next device u fs at))
link_by_link sc next device u (Tapped r ∷ fs) at =
    by_tap sc device u next r fs (r.device == device) (tap_judged sc next r) refl refl at
    (link_by_link sc next device u fs at)
    (λ on. link_by_link sc (changed (λ n. n + 1) next r.device) device (u + 1) fs on)
    (λ on. link_by_link sc (changed (λ n. n + 1) next r.device) device u fs on)

-- ONE LIST
first_same : (sc : SchemeValue) (device link : ℕ) (b c : List Frame) (r q : RecordValue) (k l : List Frame) → b ++ Tapped r ∷ k ≡ c ++ Tapped q ∷ l
    → AllByRecursion (IsNotLink sc device link) b → AllByRecursion (IsNotLink sc device link) c → IsLink sc device link r → IsLink sc device link q → (r ≡ q) × (k ≡ l)
first_same sc device link [] [] r q k l e nb nc ir iq = (cc, cc)
first_same sc device link [] (f ∷ c) r q k l e nb nc ir iq =
    let head : f ≡ Tapped r = cc in
    absurd (subst (IsNotLink sc device link) head nc.0 ir)
first_same sc device link (f ∷ b) [] r q k l e nb nc ir iq =
    let head : f ≡ Tapped q = cc in
    absurd (subst (IsNotLink sc device link) head nb.0 iq)
first_same sc device link (f ∷ b) (g ∷ c) r q k l e nb nc ir iq = first_same sc device link b c r q k l (cc) nb.1 nc.1 ir iq

none_here : (sc : SchemeValue) (device link : ℕ) (fs behind : List Frame) (r : RecordValue) → AllByRecursion (IsNotLink sc device link) fs → IsFirstLink sc device link fs r behind → ⊥
none_here sc device link fs behind r none first =
    (all-right (IsNotLink sc device link) first.before (Tapped r ∷ behind) (subst (AllByRecursion (IsNotLink sc device link)) first.stands none)).0 first.is

pub one_list : (sc : SchemeValue) (device u : ℕ) (fs : List Frame) (rs qs : List RecordValue) → AreAcceptedLinks sc device u fs rs → AreAcceptedLinks sc device u fs qs → rs ≡ qs
one_list sc device u fs [] [] a b = refl
one_list sc device u fs [] (q ∷ qs) a b = absurd (none_here sc device (u + 1) fs b.0 q a b.1)
one_list sc device u fs (r ∷ rs) [] a b = absurd (none_here sc device (u + 1) fs a.0 r b a.1)
one_list sc device u fs (r ∷ rs) (q ∷ qs) a b =
    let two = first_same sc device (u + 1) a.1.before b.1.before r q a.0 b.0 (sym a.1.stands ∙ b.1.stands) a.1.first b.1.first a.1.is b.1.is in
    let rest = one_list sc device (u + 1) b.0 rs qs (subst (λ l. AreAcceptedLinks sc device (u + 1) l rs) two.1 a.2) b.2 in
    λ i. two.0 i ∷ rest i

-- THE LINKS COUNT UP
pub links_count_up : (sc : SchemeValue) (device u : ℕ) (fs : List Frame) (rs : List RecordValue) → AreAcceptedLinks sc device u fs rs → CountsFrom (u + 1) (map (λ (r : RecordValue). r.link) rs)
links_count_up sc device u fs [] are = tt
links_count_up sc device u fs (r ∷ rs) are = (are.1.is.is, links_count_up sc device (u + 1) are.0 rs are.2)

links_are : (device : ℕ) (items : List Item) → map (λ (r : RecordValue). r.link) (of_device device (taps_in items)) ≡ links_of device items
links_are device [] = refl
links_are device (item.Stated v ∷ is) = links_are device is
links_are device (item.Tap r ∷ is) = by (r.device == device) (links_are device is)
  where
    by : (b : Bool) → map (λ (r : RecordValue). r.link) (of_device device (taps_in is)) ≡ links_of device is
        → map (λ (r : RecordValue). r.link) (if b then r ∷ of_device device (taps_in is) else of_device device (taps_in is)) ≡ (if b then r.link ∷ links_of device is else links_of device is)
    by true rest = ap (λ l. r.link ∷ l) rest
    by false rest = rest

pub arrivals_count_up : (sc : SchemeValue) (next : ℕ → Option ℕ) (device u : ℕ) (fs : List Frame) → next device ≡ Some (u + 1) → CountsFrom (u + 1) (links_of device (arrivals sc next fs))
arrivals_count_up sc next device u fs at =
    subst (CountsFrom (u + 1)) (links_are device (arrivals sc next fs)) (links_count_up sc device u fs (of_device device (taps_in (arrivals sc next fs))) (link_by_link sc next device u fs at))
