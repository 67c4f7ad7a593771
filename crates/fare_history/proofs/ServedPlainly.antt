-- What an owner's session says of the stores, in plain sentences.
use Rattle.std.proofs.Common.{◌≡◌, ◌≢◌, ℕ, zero, suc, ◌+◌, ◌-◌, ◌<◌, ◌≤◌, List, [], ◌∷◌, ◌++◌, length, Some, None, Bool, true, false, refl, sym, ap, ◌∙◌, subst, arith, append_assoc, length-append, inl, inr}
use Rattle.std.specs.Prelude.{◌==◌, ◌⊎◌, ◌&&◌, ◌||◌, slice_get, if◌then◌else◌, Option, Result, Ok, Err, is_some, nat_le}
use Rattle.std.specs.List.{AllByRecursion, list_any}
use Rattle.std.proofs.lemmas.List.{append-nil}
use Rattle.std.proofs.lemmas.Bool.Decides.{nat_tests}
use Rattle.fare_record.specs.Limits.{IsDay}
use Rattle.fare_record.specs.Values.{RecordValue, StatementValue}
use Rattle.fare_record.specs.declared.item.Item.{Item}
use Rattle.fare_record.specs.declared.item.Item.TheVariants as item
use Rattle.fare_scheme.specs.Values.{SchemeValue}
use Rattle.fare_scheme.specs.Words.{position_of_device}
use Rattle.fare_owner.specs.TapJudged.{tap_judged}
use Rattle.fare_owner.specs.declared.tap.TapFault.{TapFault}
use Rattle.fare_owner.specs.StatementJudged.{statement_judged}
use Rattle.fare_owner.specs.declared.statement.StatementFault.{StatementFault}
use Rattle.fare_owner.specs.declared.statement.StatementFault.TheVariants.{NotMine, Retired, Repeated, Conflict}
use Rattle.fare_store.specs.Tables.{put, put2}
use Rattle.fare_store.specs.OutboxWords.{OutboxValue, behind}
use Rattle.fare_store.specs.LedgerWords.{LedgerValue, IsOfScheme, is_mine, is_closed, took, with_statement}
use Rattle.fare_store.proofs.Entries.{if_all, is_one, is_self, put_all, put_both, put2_all, put2_here, put2_apart, put_here}
use Rattle.fare_history.proofs.Entries.{element_at, all-left, all-right}
use Rattle.fare_history.specs.Serving.{Cursors, behind_ledger, moved_by, moved_by_all, IsNextItem, AreNextItems, given_all, pruned_to, pruned_to_all, Service, in_hand, put_by, IsComingStatement, device_of, IsOfDevice, IsWorking, IsService, IsUnrefused, AreUnrefused}
use Rattle.fare_history.specs.Plainly.{ExtendsBy, IsKeptOrPruned, ServesPlainly, IsFinished, IsWholeService, IsRefused, ShowsWhy}
use Rattle.fare_history.proofs.Growing.{items_first, items_then}
use Rattle.fare_history.proofs.Committed.{repeated_is_held}

-- TAPS
extends_more : (rows : ℕ → Option RecordValue) (old new : List RecordValue) (r : RecordValue) → rows (length old + 1) ≡ Some r → ExtendsBy rows (old ++ r ∷ []) new → ExtendsBy rows old new
extends_more rows old new r here e = record { more = r ∷ e.more; is = e.is ∙ append_assoc old (r ∷ []) e.more; beyond = by }
  where
    by : (k : ℕ) (q : RecordValue) → slice_get (r ∷ e.more) k ≡ Some q → rows (length old + 1 + k) ≡ Some q
    by zero q f = let same : length old + 1 + 0 ≡ length old + 1 = omega arith in ap rows same ∙ here ∙ f
    by (suc k) q f = let same : length old + 1 + suc k ≡ length (old ++ r ∷ []) + 1 + k = omega (arith, length-append old (r ∷ [])) in ap rows same ∙ e.beyond k q f

extends_none : (rows : ℕ → Option RecordValue) (old : List RecordValue) → ExtendsBy rows old old
extends_none rows old = record { more = []; is = sym (append-nil old); beyond = λ k r e. absurd (cc) }

-- one tap more
one_more : (o : ℕ) (x : OutboxValue) (l : LedgerValue) (c : Cursors) (r : RecordValue) → ((d : ℕ) → c.lane d ≡ length (l.taken d)) → r.lane ≡ c.lane r.device + 1 → (d : ℕ) → (moved_by c (item.Tap r)).lane d ≡ length ((took r l).taken d)
one_more o x l c r same next = put_both (λ j n (a : List RecordValue). n ≡ length a) c.lane l.taken r.device r.lane (l.taken r.device ++ r ∷ []) same (omega (arith, next, same r.device, length-append (l.taken r.device) (r ∷ [])))

-- the forwarder's place is behind the ledger's list
moved_like : (o : ℕ) (x : OutboxValue) (l : LedgerValue) (c : Cursors) (is : List Item) → ((d : ℕ) → c.lane d ≡ length (l.taken d)) → AreNextItems o x c is → (d : ℕ) → (moved_by_all c is).lane d ≡ length ((given_all l is).taken d)
moved_like o x l c [] same next d = same d
moved_like o x l c (item.Tap r ∷ is) same next d = moved_like o x (took r l) (moved_by c (item.Tap r)) is (one_more o x l c r same next.0.lane) next.1 d
moved_like o x l c (item.Stated v ∷ is) same next d = moved_like o x (with_statement v l) (moved_by c (item.Stated v)) is same next.1 d

taken_extends : (o : ℕ) (x : OutboxValue) (l : LedgerValue) (c : Cursors) (is : List Item) → ((d : ℕ) → c.lane d ≡ length (l.taken d)) → AreNextItems o x c is → (d : ℕ) → ExtendsBy (x.rows o d) (l.taken d) ((given_all l is).taken d)
taken_extends o x l c [] same next d = extends_none (x.rows o d) (l.taken d)
taken_extends o x l c (item.Tap r ∷ is) same next d =
    put_all (λ j (a : List RecordValue). ExtendsBy (x.rows o j) a ((given_all (took r l) is).taken j) → ExtendsBy (x.rows o j) (l.taken j) ((given_all (took r l) is).taken j)) l.taken r.device (l.taken r.device ++ r ∷ []) (λ j e. e)
    (extends_more (x.rows o r.device) (l.taken r.device) ((given_all (took r l) is).taken r.device) r (ap (x.rows o r.device) lane ∙ next.0.held)) d
    (taken_extends o x (took r l) (moved_by c (item.Tap r)) is (one_more o x l c r same next.0.lane) next.1 d)
  where
    lane : length (l.taken r.device) + 1 ≡ c.lane r.device + 1
    lane = omega (arith, same r.device)
taken_extends o x l c (item.Stated v ∷ is) same next d = taken_extends o x (with_statement v l) (moved_by c (item.Stated v)) is same next.1 d

-- STATEMENTS
-- one that the ledger takes is not held
free_where_ok : (own : Bool) (held : Option ℕ) (n : ℕ) (retired : Bool) → statement_judged own held n retired ≡ Ok tt → held ≡ None
free_where_ok false held n retired e = absurd (cc)
free_where_ok true held n true e = absurd (cc)
free_where_ok true None n false e = refl
free_where_ok true (Some m) n false e = if_all (m == n) (λ (z : Result Unit StatementFault). z ≡ Ok tt → Some m ≡ None) (Err Repeated) (Err Conflict) (λ _ f. absurd (cc)) (λ _ f. absurd (cc)) e

-- so no other count is overwritten
same_count : (l : LedgerValue) (v : StatementValue) (n : ℕ) → IsUnrefused l (item.Stated v) → l.stated v.device v.day ≡ Some n → Some v.count ≡ Some n
same_count l v n fine held = elim fine [
  | inl ok ↦ none_held (sym (free_where_ok (is_mine l v.owner v.device) (l.stated v.device v.day) v.count (l.retired v.device) ok) ∙ held)
  | inr again ↦ sym (repeated_is_held l v again) ∙ held
]
  where
    none_held : None ≡ Some n → Some v.count ≡ Some n
    none_held e = absurd (cc)

pub statements_stay : (l : LedgerValue) (is : List Item) → AreUnrefused l is → (d day n : ℕ) → l.stated d day ≡ Some n → (given_all l is).stated d day ≡ Some n
statements_stay l [] fine d day n held = held
statements_stay l (item.Tap r ∷ is) fine d day n held = statements_stay (took r l) is fine.1 d day n held
statements_stay l (item.Stated v ∷ is) fine d day n held =
    statements_stay (with_statement v l) is fine.1 d day n
    (put2_all (λ j k a. l.stated j k ≡ Some n → a ≡ Some n) l.stated v.device v.day (Some v.count) (λ j k e. e) (same_count l v n fine.0) d day held)

statements_come : (o : ℕ) (x : OutboxValue) (l : LedgerValue) (c : Cursors) (is : List Item) → AreNextItems o x c is → (d day n : ℕ) → (given_all l is).stated d day ≡ Some n → (l.stated d day ≡ Some n) ⊎ (x.stated o d day ≡ Some n)
statements_come o x l c [] next d day n held = inl held
statements_come o x l c (item.Tap r ∷ is) next d day n held = statements_come o x (took r l) (moved_by c (item.Tap r)) is next.1 d day n held
statements_come o x l c (item.Stated v ∷ is) next d day n held = elim (statements_come o x (with_statement v l) (moved_by c (item.Stated v)) is next.1 d day n held) [
  | inl was ↦ put2_all (λ j k a. a ≡ Some n → (l.stated j k ≡ Some n) ⊎ (x.stated o j k ≡ Some n)) l.stated v.device v.day (Some v.count) (λ j k e. inl e) (λ e. inr (next.0.held ∙ e)) d day was
  | inr new ↦ inr new
]

closed_stay : (l : LedgerValue) (is : List Item) → (given_all l is).closed ≡ l.closed
closed_stay l [] = refl
closed_stay l (item.Tap r ∷ is) = closed_stay (took r l) is
closed_stay l (item.Stated v ∷ is) = closed_stay (with_statement v l) is

retired_stay : (l : LedgerValue) (is : List Item) → (given_all l is).retired ≡ l.retired
retired_stay l [] = refl
retired_stay l (item.Tap r ∷ is) = retired_stay (took r l) is
retired_stay l (item.Stated v ∷ is) = retired_stay (with_statement v l) is

-- no item of a retired lane is given, so it keeps its list and its statements
apart_from : (retired : ℕ → Bool) (d e : ℕ) → retired d ≡ true → retired e ≡ false → (d == e) ≡ false
apart_from retired d e ended working = by (d == e) refl
  where
    by : (b : Bool) → (d == e) ≡ b → b ≡ false
    by true same = absurd (let both : true ≡ false = sym ended ∙ ap retired (is_one d e same) ∙ working in cc)
    by false other = refl

list_stays : (l : LedgerValue) (is : List Item) (d : ℕ) → l.retired d ≡ true → AllByRecursion (λ i. IsWorking l (device_of i)) is → (given_all l is).taken d ≡ l.taken d
list_stays l [] d ended working = refl
list_stays l (item.Tap r ∷ is) d ended working = list_stays (took r l) is d ended working.1 ∙ ap (λ b. if b then l.taken r.device ++ r ∷ [] else l.taken d) (apart_from l.retired d r.device ended working.0)
list_stays l (item.Stated v ∷ is) d ended working = list_stays (with_statement v l) is d ended working.1

counts_stay : (l : LedgerValue) (is : List Item) (d : ℕ) → l.retired d ≡ true → AllByRecursion (λ i. IsWorking l (device_of i)) is → (given_all l is).stated d ≡ l.stated d
counts_stay l [] d ended working = refl
counts_stay l (item.Tap r ∷ is) d ended working = counts_stay (took r l) is d ended working.1
counts_stay l (item.Stated v ∷ is) d ended working = counts_stay (with_statement v l) is d ended working.1 ∙ ap (λ b. if b then put (l.stated v.device) v.day (Some v.count) else l.stated d) (apart_from l.retired d v.device ended working.0)

owner_stays : (l : LedgerValue) (is : List Item) → (given_all l is).owner ≡ l.owner
owner_stays l [] = refl
owner_stays l (item.Tap r ∷ is) = owner_stays (took r l) is
owner_stays l (item.Stated v ∷ is) = owner_stays (with_statement v l) is

start_stays : (l : LedgerValue) (is : List Item) → (given_all l is).start ≡ l.start
start_stays l [] = refl
start_stays l (item.Tap r ∷ is) = start_stays (took r l) is
start_stays l (item.Stated v ∷ is) = start_stays (with_statement v l) is

knows_stays : (l : LedgerValue) (is : List Item) → (given_all l is).knows ≡ l.knows
knows_stays l [] = refl
knows_stays l (item.Tap r ∷ is) = knows_stays (took r l) is
knows_stays l (item.Stated v ∷ is) = knows_stays (with_statement v l) is

-- PRUNING
behind_or_none : (n : ℕ) (rows : ℕ → Option RecordValue) (k : ℕ) → (behind n rows k ≡ rows k) ⊎ ((k ≤ n) × (behind n rows k ≡ None))
behind_or_none n rows k = by (nat_le k n) refl
  where
    by : (b : Bool) → nat_le k n ≡ b → ((if b then None else rows k) ≡ rows k) ⊎ ((k ≤ n) × ((if b then None else rows k) ≡ None))
    by true e = inr (let le : k ≤ n = grind (arith, nat_tests) in le, refl)
    by false e = inl refl

one_pruned : (x : OutboxValue) (o : ℕ) (l : LedgerValue) (d : ℕ) (p j k : ℕ) → IsKeptOrPruned o x (pruned_to x o l d) l p j k
one_pruned x o l d p j k =
    put2_all (λ p j (f : ℕ → Option RecordValue). (f k ≡ x.rows p j k) ⊎ ((p ≡ o) × (k ≤ length (l.taken j)) × (f k ≡ None))) x.rows o d (behind (length (l.taken d)) (x.rows o d)) (λ p j. inl refl)
    (elim (behind_or_none (length (l.taken d)) (x.rows o d) k) [ inl same ↦ inl same | inr gone ↦ inr (refl, gone.0, gone.1) ]) p j

pub all_pruned : (x : OutboxValue) (o : ℕ) (l : LedgerValue) (ds : List ℕ) (p j k : ℕ) → IsKeptOrPruned o x (pruned_to_all x o l ds) l p j k
all_pruned x o l [] p j k = inl refl
all_pruned x o l (d ∷ ds) p j k = elim (all_pruned (pruned_to x o l d) o l ds p j k) [
  | inl same ↦ elim (one_pruned x o l d p j k) [ inl was ↦ inl (same ∙ was) | inr gone ↦ inr (gone.0, gone.1, same ∙ gone.2) ]
  | inr gone ↦ inr gone
]

pub upto_stays : (x : OutboxValue) (o : ℕ) (l : LedgerValue) (ds : List ℕ) → (pruned_to_all x o l ds).upto ≡ x.upto
upto_stays x o l [] = refl
upto_stays x o l (d ∷ ds) = upto_stays (pruned_to x o l d) o l ds

pub stated_stays : (x : OutboxValue) (o : ℕ) (l : LedgerValue) (ds : List ℕ) → (pruned_to_all x o l ds).stated ≡ x.stated
stated_stays x o l [] = refl
stated_stays x o l (d ∷ ds) = stated_stays (pruned_to x o l d) o l ds

pub stated_count_stays : (x : OutboxValue) (o : ℕ) (l : LedgerValue) (ds : List ℕ) → (pruned_to_all x o l ds).stated_count ≡ x.stated_count
stated_count_stays x o l [] = refl
stated_count_stays x o l (d ∷ ds) = stated_count_stays (pruned_to x o l d) o l ds

pub serves_plainly : (sc : SchemeValue) (o : ℕ) (x : OutboxValue) (l : LedgerValue) (v : Service) → IsService sc o x l v → ServesPlainly o x (pruned_to_all x o (given_all l v.taken) v.pruned) l (given_all l v.taken)
serves_plainly sc o x l v is = record {
  taken = taken_extends o x l (behind_ledger sc l) v.taken (λ d. refl) first;
  statements = statements_come o x l (behind_ledger sc l) v.taken first;
  closed = closed_stay l v.taken;
  retired = retired_stay l v.taken;
  ended = λ d ended. (list_stays l v.taken d ended working, counts_stay l v.taken d ended working);
  made = (owner_stays l v.taken, start_stays l v.taken, knows_stays l v.taken);
  rows = all_pruned x o (given_all l v.taken) v.pruned;
  upto = upto_stays x o (given_all l v.taken) v.pruned;
  stated = stated_stays x o (given_all l v.taken) v.pruned;
  stated_count = stated_count_stays x o (given_all l v.taken) v.pruned;
}
  where
    working : AllByRecursion (λ i. IsWorking l (device_of i)) v.taken
    working = all-left (λ i. IsWorking l (device_of i)) v.taken (in_hand v.hand ++ v.queue) is.working

    first : AreNextItems o x (behind_ledger sc l) v.taken
    first = items_first o x (behind_ledger sc l) v.taken (in_hand v.hand ++ v.queue) is.items

-- THE WHOLE
-- what stands in a list behind another
slice_get-behind : (xs ys : List RecordValue) (k : ℕ) → slice_get (xs ++ ys) (length xs + k) ≡ slice_get ys k
slice_get-behind [] ys k = ap (slice_get ys) (omega arith)
slice_get-behind (x ∷ xs) ys k = let e : length (x ∷ xs) + k ≡ suc (length xs + k) = omega arith in ap (slice_get (x ∷ (xs ++ ys))) e ∙ slice_get-behind xs ys k

-- a row that is not beyond the new list is in it
row_taken : (rows : ℕ → Option RecordValue) (old new : List RecordValue) (lane : ℕ) (r : RecordValue) → ExtendsBy rows old new → length old < lane → lane ≤ length new → rows lane ≡ Some r → slice_get new (lane - 1) ≡ Some r
row_taken rows old new lane r e lt le held =
    let k = lane - 1 - length old in
    let found = element_at e.more k (omega (arith, lt, le, ap length e.is, length-append old e.more)) in
    let place : length old + 1 + k ≡ lane = omega (arith, lt) in
    let at : lane - 1 ≡ length old + k = omega (arith, lt) in
    let same : Some found.0 ≡ Some r = sym (e.beyond k found.0 found.1) ∙ ap rows place ∙ held in
    (λ i. slice_get (e.is i) (at i)) ∙ slice_get-behind old e.more k ∙ found.1 ∙ same

-- a statement from the day on that the forwarder has passed was given
day_less : (a b : ℕ) → (a < b) ⊎ (b ≤ a)
day_less a b = grind (arith, nat_tests)

-- what is behind the forwarder stays
stated_behind : (o : ℕ) (x : OutboxValue) (l : LedgerValue) (c : Cursors) (is : List Item) → AreNextItems o x c is → (d day : ℕ) → day < c.day d → (given_all l is).stated d day ≡ l.stated d day
stated_behind o x l c [] next d day lt = refl
stated_behind o x l c (item.Tap r ∷ is) next d day lt = stated_behind o x (took r l) (moved_by c (item.Tap r)) is next.1 d day lt
stated_behind o x l c (item.Stated v ∷ is) next d day lt =
    stated_behind o x (with_statement v l) (moved_by c (item.Stated v)) is next.1 d day later
    ∙ put2_apart l.stated v.device v.day (Some v.count) d day (λ same on. absurd (omega (arith, lt, on, ap c.day same, next.0.from_there)))
  where
    later : day < put c.day v.device (v.day + 1) d
    later = put_all (λ j n. day < c.day j → day < n) c.day v.device (v.day + 1) (λ j less. less) (λ less. omega (arith, less, next.0.from_there)) d lt

statement_given : (o : ℕ) (x : OutboxValue) (l : LedgerValue) (c : Cursors) (v : StatementValue) (is : List Item) → IsComingStatement o x c v → AreNextItems o x (moved_by c (item.Stated v)) is → (d day n : ℕ) → c.day d ≤ day → x.stated o d day ≡ Some n
    → (put c.day v.device (v.day + 1) d ≤ day → (given_all (with_statement v l) is).stated d day ≡ Some n) → (given_all (with_statement v l) is).stated d day ≡ Some n
statement_given o x l c v is first next d day n le held rest = by (d == v.device) refl
  where
    none_held : None ≡ Some n → (given_all (with_statement v l) is).stated d day ≡ Some n
    none_held e = absurd (cc)

    equal : d ≡ v.device → day ≡ v.day → put2 l.stated v.device v.day (Some v.count) d day ≡ Some n
    equal e f = (λ i. put2 l.stated v.device v.day (Some v.count) (e i) (f i)) ∙ put2_here l.stated v.device v.day (Some v.count) ∙ sym first.held ∙ (λ i. x.stated o (sym e i) (sym f i)) ∙ held

    at_once : d ≡ v.device → day ≡ v.day → (given_all (with_statement v l) is).stated d day ≡ Some n
    at_once e f = stated_behind o x (with_statement v l) (moved_by c (item.Stated v)) is next d day (omega (arith, f, ap (put c.day v.device (v.day + 1)) e, put_here c.day v.device (v.day + 1))) ∙ equal e f

    by : (b : Bool) → (d == v.device) ≡ b → (given_all (with_statement v l) is).stated d day ≡ Some n
    by false other = rest (subst (λ m. m ≤ day) (sym (ap (λ b. if b then v.day + 1 else c.day d) other)) le)
    by true same = elim (day_less v.day day) [
      | inl later ↦ rest (subst (λ m. m ≤ day) (sym (ap (λ b. if b then v.day + 1 else c.day d) same)) (omega (arith, later)))
      | inr up ↦ elim (day_less day v.day) [
        | inl before ↦ none_held (sym (ap (λ j. x.stated o j day) (is_one d v.device same) ∙ first.least day (omega (arith, le, ap c.day (is_one d v.device same))) before) ∙ held)
        | inr at ↦ at_once (is_one d v.device same) (omega (arith, up, at))
      ]
    ]

passed_given : (o : ℕ) (x : OutboxValue) (l : LedgerValue) (c : Cursors) (is : List Item) → AreNextItems o x c is → (d day n : ℕ) → c.day d ≤ day → day < (moved_by_all c is).day d → x.stated o d day ≡ Some n → (given_all l is).stated d day ≡ Some n
passed_given o x l c [] next d day n le lt held = absurd (omega (arith, le, lt))
passed_given o x l c (item.Tap r ∷ is) next d day n le lt held = passed_given o x (took r l) (moved_by c (item.Tap r)) is next.1 d day n le lt held
passed_given o x l c (item.Stated v ∷ is) next d day n le lt held =
    statement_given o x l c v is next.0 next.1 d day n le held (λ on. passed_given o x (with_statement v l) (moved_by c (item.Stated v)) is next.1 d day n on lt held)

-- a lane that is pruned has no row that the ledger has
none_behind : (n : ℕ) (rows : ℕ → Option RecordValue) (k : ℕ) → k ≤ n → behind n rows k ≡ None
none_behind n rows k le = let t : nat_le k n ≡ true = grind (arith, nat_tests) in ap (λ b. if b then None else rows k) t

none_stays : (x : OutboxValue) (o : ℕ) (l : LedgerValue) (ds : List ℕ) (d k : ℕ) → x.rows o d k ≡ None → (pruned_to_all x o l ds).rows o d k ≡ None
none_stays x o l ds d k none = elim (all_pruned x o l ds o d k) [ inl same ↦ same ∙ none | inr gone ↦ gone.2 ]

pub each_pruned : (x : OutboxValue) (o : ℕ) (l : LedgerValue) (ds : List ℕ) (d k : ℕ) → list_any (λ j. j == d) ds ≡ true → k ≤ length (l.taken d) → (pruned_to_all x o l ds).rows o d k ≡ None
each_pruned x o l [] d k among le = absurd (cc)
each_pruned x o l (j ∷ ds) d k among le = by (j == d) refl among (λ rest. each_pruned (pruned_to x o l j) o l ds d k rest le)
  where
    by : (b : Bool) → (j == d) ≡ b → (b || list_any (λ e. e == d) ds) ≡ true → (list_any (λ e. e == d) ds ≡ true → (pruned_to_all (pruned_to x o l j) o l ds).rows o d k ≡ None) → (pruned_to_all (pruned_to x o l j) o l ds).rows o d k ≡ None
    by false other more rest = rest more
    by true same more rest = none_stays (pruned_to x o l j) o l ds d k
        (subst (λ e. put2 x.rows o e (behind (length (l.taken e)) (x.rows o e)) o d k ≡ None) (sym (is_one j d same)) (ap (λ f. f k) (put2_here x.rows o d (behind (length (l.taken d)) (x.rows o d))) ∙ none_behind (length (l.taken d)) (x.rows o d) k le))

pub finished_is_whole : (sc : SchemeValue) (o : ℕ) (x : OutboxValue) (l : LedgerValue) (v : Service) → IsService sc o x l v → IsFinished sc o x l v → IsWholeService sc o x (pruned_to_all x o (given_all l v.taken) v.pruned) l (given_all l v.taken)
finished_is_whole sc o x l v is done = record {
  rows = λ d known working lane r lt held. row_taken (x.rows o d) (l.taken d) ((given_all l v.taken).taken d) lane r (taken_extends o x l start v.taken (λ j. refl) first d) lt (within d known working lane r held) held;
  statements = λ d known working day n le is_day held. passed_given o x l start v.taken first d day n le (before d known working day n is_day held) held;
  pruned = λ d known lane le. each_pruned x o (given_all l v.taken) v.pruned d lane (done.pruned d known) le;
}
  where
    start : Cursors
    start = behind_ledger sc l

    first : AreNextItems o x start v.taken
    first = items_first o x start v.taken (in_hand v.hand ++ v.queue) is.items

    within : (d : ℕ) → is_some (position_of_device sc d) ≡ true → IsWorking l d → (lane : ℕ) (r : RecordValue) → x.rows o d lane ≡ Some r → lane ≤ length ((given_all l v.taken).taken d)
    within d known working lane r held = elim (day_less (length ((given_all l v.taken).taken d)) lane) [
      | inl past ↦ no_row (sym (done.rows d known working lane (omega (arith, past, moved_like o x l start v.taken (λ j. refl) first d))) ∙ held)
      | inr le ↦ le
    ]
      where
        no_row : None ≡ Some r → lane ≤ length ((given_all l v.taken).taken d)
        no_row e = absurd (cc)

    before : (d : ℕ) → is_some (position_of_device sc d) ≡ true → IsWorking l d → (day n : ℕ) → IsDay day → x.stated o d day ≡ Some n → day < (moved_by_all start v.taken).day d
    before d known working day n is_day held = elim (day_less day ((moved_by_all start v.taken).day d)) [
      | inl lt ↦ lt
      | inr past ↦ no_day (sym (done.days d known working day past is_day) ∙ held)
    ]
      where
        no_day : None ≡ Some n → day < (moved_by_all start v.taken).day d
        no_day e = absurd (cc)

-- A REFUSED ITEM
is_its_own : (m : LedgerValue) (p d : ℕ) → p ≡ m.owner → m.knows d ≡ true → is_mine m p d ≡ true
is_its_own m p d own known = of_both (p == m.owner) (m.knows d) (ap (λ q. q == m.owner) own ∙ is_self m.owner) known
  where
    of_both : (a b : Bool) → a ≡ true → b ≡ true → (a && b) ≡ true
    of_both a b e f = λ i. e i && f i

taken_next : (count : ℕ) → tap_judged true count false (count + 1) false ≡ Ok tt
taken_next count = grind (arith, nat_tests)

tap_refused : (own closed retired : Bool) (count lane : ℕ) (why : TapFault) → lane ≡ count + 1 → retired ≡ false → tap_judged own count closed lane retired ≡ Err why → (own ≡ false) ⊎ (closed ≡ true)
tap_refused false closed retired count lane why next working e = inl refl
tap_refused true true retired count lane why next working e = inr refl
tap_refused true false retired count lane why next working e =
    let both : Ok tt ≡ Err why = sym (taken_next count) ∙ (λ i. tap_judged true count false (sym next i) (sym working i)) ∙ e in
    absurd (cc)

other_count : (m n : ℕ) (why : StatementFault) → why ≢ Repeated → statement_judged true (Some m) n false ≡ Err why → m ≢ n
other_count m n why not e same = not (let both : Err why ≡ Err Repeated = sym e ∙ again in cc)
  where
    again : statement_judged true (Some m) n false ≡ Err Repeated
    again = ap (λ b. if b then Err Repeated else Err Conflict) (ap (λ k. m == k) (sym same) ∙ is_self m)

statement_refused : (own : Bool) (held : Option ℕ) (n : ℕ) (retired : Bool) (why : StatementFault) → why ≢ Repeated → retired ≡ false → statement_judged own held n retired ≡ Err why → (own ≡ false) ⊎ ((other : ℕ) × (held ≡ Some other) × (other ≢ n))
statement_refused false held n retired why not working e = inl refl
statement_refused true held n true why not working e = absurd (cc)
statement_refused true None n false why not working e = absurd (cc)
statement_refused true (Some m) n false why not working e = inr (m, refl, other_count m n why not e)

shows_why : (sc : SchemeValue) (o : ℕ) (x : OutboxValue) (m : LedgerValue) (c : Cursors) (i : Item) → m.owner ≡ o → m.knows (device_of i) ≡ true → IsWorking m (device_of i) → ((d : ℕ) → c.lane d ≡ length (m.taken d)) → IsNextItem o x c i → IsRefused m i → ShowsWhy o x m i
shows_why sc o x m c (item.Tap r) own known working same next why =
    let place : length (m.taken r.device) + 1 ≡ c.lane r.device + 1 = omega (arith, same r.device) in (
      ap (x.rows o r.device) place ∙ next.held,
      elim (tap_refused (is_mine m r.owner r.device) (is_closed m r.device r.tap.day) (m.retired r.device) (length (m.taken r.device)) r.lane why.0 (next.lane ∙ sym place) working why.1) [
        | inl other ↦ not_so other
        | inr closed ↦ closed
      ],
    )
  where
    not_so : is_mine m r.owner r.device ≡ false → is_closed m r.device r.tap.day ≡ true
    not_so other = let both : true ≡ false = sym (is_its_own m r.owner r.device (next.mine ∙ sym own) known) ∙ other in absurd (cc)
shows_why sc o x m c (item.Stated v) own known working same next why = (
  next.held,
  elim (statement_refused (is_mine m v.owner v.device) (m.stated v.device v.day) v.count (m.retired v.device) why.0 why.1 working why.2) [
    | inl other ↦ not_so other
    | inr other ↦ other
  ],
)
  where
    not_so : is_mine m v.owner v.device ≡ false → (other : ℕ) × (m.stated v.device v.day ≡ Some other) × (other ≢ v.count)
    not_so other = let both : true ≡ false = sym (is_its_own m v.owner v.device (next.mine ∙ sym own) known) ∙ other in absurd (cc)

pub refused_shows_why : (sc : SchemeValue) (o : ℕ) (x : OutboxValue) (l : LedgerValue) (v : Service) (i : Item) → l.owner ≡ o → IsOfScheme sc l → IsService sc o x l v → v.hand ≡ Some i → IsRefused (given_all l v.taken) i → ShowsWhy o x (given_all l v.taken) i
refused_shows_why sc o x l v i own made is hand why =
    shows_why sc o x (given_all l v.taken) (moved_by_all start v.taken) i (owner_stays l v.taken ∙ own) (ap (λ f. f (device_of i)) (knows_stays l v.taken) ∙ made.knows (device_of i) ∙ in_hand_all (λ j. IsOfDevice sc (device_of j)) is.known) (ap (λ f. f (device_of i)) (retired_stay l v.taken) ∙ in_hand_all (λ j. IsWorking l (device_of j)) is.working)
    (moved_like o x l start v.taken (λ j. refl) (items_first o x start v.taken (in_hand v.hand ++ v.queue) is.items))
    (subst (λ h. AreNextItems o x (moved_by_all start v.taken) (in_hand h ++ v.queue)) hand (items_then o x start v.taken (in_hand v.hand ++ v.queue) is.items)).0 why
  where
    start : Cursors
    start = behind_ledger sc l

    -- what holds of all that was put holds of the item in the hand
    in_hand_all : (P : Item → Type 0) → AllByRecursion P (put_by v) → P i
    in_hand_all P all = (subst (λ h. AllByRecursion P (in_hand h ++ v.queue)) hand (all-right P v.taken (in_hand v.hand ++ v.queue) all)).0
