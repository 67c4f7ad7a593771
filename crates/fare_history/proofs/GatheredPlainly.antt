-- What a session of the stations and the writer says of the outbox, in plain sentences.
use Rattle.std.proofs.Common.{◌≡◌, ◌≢◌, ℕ, zero, suc, ◌+◌, ◌≤◌, List, [], ◌∷◌, ◌++◌, length, Some, None, Bool, true, false, refl, sym, ap, ◌∙◌, subst, arith, inl, inr}
use Rattle.std.specs.Prelude.{◌==◌, ◌⊎◌, slice_get, if◌then◌else◌, Option, Result, Ok, Err, is_some, nat_le, nat_lt}
use Rattle.std.specs.List.{AllByRecursion}
use Rattle.std.proofs.lemmas.Bool.Decides.{nat_tests}
use Rattle.std.proofs.lemmas.List.{append-nil}
use Rattle.std.proofs.lemmas.List.Elements.{filter-append}
use Rattle.fare_record.specs.declared.ack_item.AckItem.{AckItem}
use Rattle.fare_record.specs.declared.ack_item.AckItem.TheVariants as ack_item
use Rattle.fare_record.specs.Values.{RecordValue, StatementValue}
use Rattle.fare_record.specs.Lanes.{of_device}
use Rattle.fare_record.specs.declared.item.Item.{Item}
use Rattle.fare_record.specs.declared.item.Item.TheVariants as item
use Rattle.fare_scheme.specs.Values.{SchemeValue}
use Rattle.fare_store.specs.Tables.{put, put3}
use Rattle.fare_store.specs.declared.fault.StoreFault.{StoreFault}
use Rattle.fare_store.specs.declared.fault.StatedFault.{StatedFault}
use Rattle.fare_store.specs.declared.fault.StatedFault.TheVariants as stated
use Rattle.fare_store.specs.OutboxWords.{OutboxValue, store_judged, stored, stored_statement, stated_judged_by}
use Rattle.fare_store.specs.LedgerWords.{IsAmong}
use Rattle.fare_store.proofs.Entries.{is_one, is_self, other_way, put_here, put3_all, put3_here}
use Rattle.fare_history.proofs.Entries.{list_all-weaken, all-weaken, all-append}
use Rattle.fare_history.specs.Gathering.{with_link, links_of, CountsFrom, is_new, storing, IsHandled, IsAnswerFrom, Entry, Gathering, items_of, answers_of, accepted_by, storing_all, AreStored, IsGathering}
use Rattle.fare_history.specs.Serving.{in_hand}
use Rattle.fare_history.specs.Plainly.{with_tap, taps_in, IsStatedIn, IsCovered, GathersPlainly, IsRefusedByOutbox, ShowsWhyNot}
use Rattle.fare_history.proofs.Counting.{IsDue, FollowsOutbox, due, counted_on, follows, same_upto}
use Rattle.fare_history.proofs.Judged.{stored_new, stored_old, repeated_is_old, judged_by, new_tap, tap_is_new, new_statement, statement_again}

not_none : {X : Type 0} {P : Type 0} (x : X) → None ≡ Some x → P
not_none x e = absurd (cc)

-- ONE ITEM
row_stays : (x : OutboxValue) (i : Item) (o d k : ℕ) (q : RecordValue) → x.rows o d k ≡ Some q → (storing x i).rows o d k ≡ Some q
row_stays x (item.Tap r) o d k q held = by (is_new x (item.Tap r)) refl
  where
    by : (b : Bool) → is_new x (item.Tap r) ≡ b → (if b then stored r x else x).rows o d k ≡ Some q
    by false old = held
    by true new = put3_all (λ p j n a. x.rows p j n ≡ Some q → a ≡ Some q) x.rows r.owner r.device r.lane (Some r) (λ p j n e. e) (λ e. not_none q (sym (new_tap x r new).0 ∙ e)) o d k held
row_stays x (item.Stated v) o d k q held = by (is_new x (item.Stated v))
  where
    by : (b : Bool) → (if b then stored_statement v x else x).rows o d k ≡ Some q
    by true = held
    by false = held

row_comes : (x : OutboxValue) (i : Item) (rest : List RecordValue) (o d k : ℕ) (q : RecordValue) → (storing x i).rows o d k ≡ Some q → (x.rows o d k ≡ Some q) ⊎ (IsAmong (with_tap i rest) q × (q.owner ≡ o) × (q.device ≡ d) × (q.lane ≡ k))
row_comes x (item.Tap r) rest o d k q held = by (is_new x (item.Tap r)) held
  where
    written : Some r ≡ Some q → IsAmong (r ∷ rest) q × (q.owner ≡ r.owner) × (q.device ≡ r.device) × (q.lane ≡ r.lane)
    written e = let same : q ≡ r = cc in ((0, e), ap (λ (z : RecordValue). z.owner) same, ap (λ (z : RecordValue). z.device) same, ap (λ (z : RecordValue). z.lane) same)

    by : (b : Bool) → (if b then stored r x else x).rows o d k ≡ Some q → (x.rows o d k ≡ Some q) ⊎ (IsAmong (r ∷ rest) q × (q.owner ≡ o) × (q.device ≡ d) × (q.lane ≡ k))
    by false e = inl e
    by true e = put3_all (λ p j n a. a ≡ Some q → (x.rows p j n ≡ Some q) ⊎ (IsAmong (r ∷ rest) q × (q.owner ≡ p) × (q.device ≡ j) × (q.lane ≡ n))) x.rows r.owner r.device r.lane (Some r) (λ p j n f. inl f) (λ f. inr (written f)) o d k e
row_comes x (item.Stated v) rest o d k q held = by (is_new x (item.Stated v)) held
  where
    by : (b : Bool) → (if b then stored_statement v x else x).rows o d k ≡ Some q → (x.rows o d k ≡ Some q) ⊎ (IsAmong rest q × (q.owner ≡ o) × (q.device ≡ d) × (q.lane ≡ k))
    by true e = inl e
    by false e = inl e

later : (i : Item) (rest : List RecordValue) (q : RecordValue) → IsAmong rest q → IsAmong (with_tap i rest) q
later (item.Tap r) rest q among = (suc among.0, among.1)
later (item.Stated v) rest q among = among

row_held : (x : OutboxValue) (i : Item) (rest : List RecordValue) → FollowsOutbox x i → IsHandled x i → (q : RecordValue) → IsAmong (with_tap i rest) q → ((storing x i).rows q.owner q.device q.lane ≡ Some q) ⊎ IsAmong rest q
row_held x (item.Tap r) rest link handled q among = by among.0 among.1
  where
    stands : put3 x.rows r.owner r.device r.lane (Some r) ≡ (storing x (item.Tap r)).rows
    stands = ap (λ (y : OutboxValue). y.rows) (sym (stored_new x (item.Tap r) (tap_is_new x r link handled)))

    by : (k : ℕ) → slice_get (r ∷ rest) k ≡ Some q → ((storing x (item.Tap r)).rows q.owner q.device q.lane ≡ Some q) ⊎ IsAmong rest q
    by zero e =
        let same : r ≡ q = cc in
        inl (subst (λ (z : RecordValue). (storing x (item.Tap r)).rows z.owner z.device z.lane ≡ Some z) same (ap (λ f. f r.owner r.device r.lane) (sym stands) ∙ put3_here x.rows r.owner r.device r.lane (Some r)))
    by (suc k) e = inr (k, e)
row_held x (item.Stated v) rest link handled q among = inr among

-- a statement that is held stays
statement_stays : (x : OutboxValue) (i : Item) (o d day n : ℕ) → x.stated o d day ≡ Some n → (storing x i).stated o d day ≡ Some n
statement_stays x (item.Tap r) o d day n held = by (is_new x (item.Tap r))
  where
    by : (b : Bool) → (if b then stored r x else x).stated o d day ≡ Some n
    by true = held
    by false = held
statement_stays x (item.Stated v) o d day n held = by (is_new x (item.Stated v)) refl
  where
    by : (b : Bool) → is_new x (item.Stated v) ≡ b → (if b then stored_statement v x else x).stated o d day ≡ Some n
    by false old = held
    by true new = put3_all (λ p j k a. x.stated p j k ≡ Some n → a ≡ Some n) x.stated v.owner v.device v.day (Some v.count) (λ p j k e. e) (λ e. not_none n (sym (new_statement x v new).0 ∙ e)) o d day held

abbrev told : ℕ → ℕ → ℕ → ℕ → Item
told o d day n = item.Stated (record { device = d; day = day; owner = o; count = n })

statement_comes : (x : OutboxValue) (i : Item) (o d day n : ℕ) → (storing x i).stated o d day ≡ Some n → (x.stated o d day ≡ Some n) ⊎ (i ≡ told o d day n)
statement_comes x (item.Tap r) o d day n held = by (is_new x (item.Tap r)) held
  where
    by : (b : Bool) → (if b then stored r x else x).stated o d day ≡ Some n → (x.stated o d day ≡ Some n) ⊎ (item.Tap r ≡ told o d day n)
    by true e = inl e
    by false e = inl e
statement_comes x (item.Stated v) o d day n held = by (is_new x (item.Stated v)) held
  where
    written : Some v.count ≡ Some n → item.Stated v ≡ told v.owner v.device v.day n
    written e = let same : v.count ≡ n = cc in ap (λ m. told v.owner v.device v.day m) same

    by : (b : Bool) → (if b then stored_statement v x else x).stated o d day ≡ Some n → (x.stated o d day ≡ Some n) ⊎ (item.Stated v ≡ told o d day n)
    by false e = inl e
    by true e = put3_all (λ p j k a. a ≡ Some n → (x.stated p j k ≡ Some n) ⊎ (item.Stated v ≡ told p j k n)) x.stated v.owner v.device v.day (Some v.count) (λ p j k f. inl f) (λ f. inr (written f)) o d day e

-- one that was handled is held with its count
statement_held : (x : OutboxValue) (v : StatementValue) → IsHandled x (item.Stated v) → (storing x (item.Stated v)).stated v.owner v.device v.day ≡ Some v.count
statement_held x v handled = elim handled [
  | inl new ↦ ap (λ (y : OutboxValue). y.stated v.owner v.device v.day) (stored_new x (item.Stated v) new) ∙ put3_here x.stated v.owner v.device v.day (Some v.count)
  | inr again ↦ ap (λ (y : OutboxValue). y.stated v.owner v.device v.day) (stored_old x (item.Stated v) (repeated_is_old x (item.Stated v) again)) ∙ statement_again x v again
]

-- ALL ITEMS
-- the links of what is left go on behind the outbox's
link_due : (x : OutboxValue) (i : Item) (ls : ℕ → List ℕ) → ((j : ℕ) → CountsFrom (x.upto j + 1) (with_link j i (ls j))) → FollowsOutbox x i
link_due x i ls counted = follows x (λ d. x.upto d + 1) i (λ d. refl) (due (λ d. x.upto d + 1) i ls counted)

counted_next : (x : OutboxValue) (i : Item) (ls : ℕ → List ℕ) → ((j : ℕ) → CountsFrom (x.upto j + 1) (with_link j i (ls j))) → IsHandled x i → (j : ℕ) → CountsFrom ((storing x i).upto j + 1) (ls j)
counted_next x i ls counted handled j = subst (λ n. CountsFrom n (ls j)) (same_upto x (λ d. x.upto d + 1) i (λ d. refl) (link_due x i ls counted) handled j) (counted_on (λ d. x.upto d + 1) i ls counted j)

rows_stay : (x : OutboxValue) (es : List Entry) (o d k : ℕ) (q : RecordValue) → x.rows o d k ≡ Some q → (storing_all x es).rows o d k ≡ Some q
rows_stay x [] o d k q held = held
rows_stay x (e ∷ es) o d k q held = rows_stay (storing x e.item) es o d k q (row_stays x e.item o d k q held)

rows_come : (x : OutboxValue) (es : List Entry) (o d k : ℕ) (q : RecordValue) → (storing_all x es).rows o d k ≡ Some q → (x.rows o d k ≡ Some q) ⊎ (IsAmong (taps_in (items_of es)) q × (q.owner ≡ o) × (q.device ≡ d) × (q.lane ≡ k))
rows_come x [] o d k q held = inl held
rows_come x (e ∷ es) o d k q held = elim (rows_come (storing x e.item) es o d k q held) [
  | inl was ↦ row_comes x e.item (taps_in (items_of es)) o d k q was
  | inr new ↦ inr (later e.item (taps_in (items_of es)) q new.0, new.1, new.2, new.3)
]

rows_held : (sc : SchemeValue) (x : OutboxValue) (es : List Entry) → ((j : ℕ) → CountsFrom (x.upto j + 1) (links_of j (items_of es))) → AreStored sc x es → (q : RecordValue) → IsAmong (taps_in (items_of es)) q → (storing_all x es).rows q.owner q.device q.lane ≡ Some q
rows_held sc x [] counted ok q among = none_among among.1
  where
    none_among : slice_get [] among.0 ≡ Some q → x.rows q.owner q.device q.lane ≡ Some q
    none_among e = absurd (cc)
rows_held sc x (e ∷ es) counted ok q among = elim (row_held x e.item (taps_in (items_of es)) (link_due x e.item (λ j. links_of j (items_of es)) counted) ok.0 q among) [
  | inl here ↦ rows_stay (storing x e.item) es q.owner q.device q.lane q here
  | inr rest ↦ rows_held sc (storing x e.item) es (counted_next x e.item (λ j. links_of j (items_of es)) counted ok.0) ok.2 q rest
]

statements_stay : (x : OutboxValue) (es : List Entry) (o d day n : ℕ) → x.stated o d day ≡ Some n → (storing_all x es).stated o d day ≡ Some n
statements_stay x [] o d day n held = held
statements_stay x (e ∷ es) o d day n held = statements_stay (storing x e.item) es o d day n (statement_stays x e.item o d day n held)

statements_come : (x : OutboxValue) (es : List Entry) (o d day n : ℕ) → (storing_all x es).stated o d day ≡ Some n → (x.stated o d day ≡ Some n) ⊎ IsStatedIn (items_of es) o d day n
statements_come x [] o d day n held = inl held
statements_come x (e ∷ es) o d day n held = elim (statements_come (storing x e.item) es o d day n held) [
  | inl was ↦ elim (statement_comes x e.item o d day n was) [ inl old ↦ inl old | inr new ↦ inr (0, ap Some new) ]
  | inr new ↦ inr (suc new.0, new.1)
]

statements_held : (sc : SchemeValue) (x : OutboxValue) (es : List Entry) → AreStored sc x es → (o d day n k : ℕ) → slice_get (items_of es) k ≡ Some (told o d day n) → (storing_all x es).stated o d day ≡ Some n
statements_held sc x [] ok o d day n k at = absurd (cc)
statements_held sc x (e ∷ es) ok o d day n zero at = statements_stay (storing x e.item) es o d day n (subst (λ i. (storing x i).stated o d day ≡ Some n) (sym item_is) (statement_held x (record { device = d; day = day; owner = o; count = n }) (subst (IsHandled x) item_is ok.0)))
  where
    item_is : e.item ≡ told o d day n
    item_is = cc
statements_held sc x (e ∷ es) ok o d day n (suc k) at = statements_held sc (storing x e.item) es ok.2 o d day n k at

-- LINKS
link_step : (d : ℕ) (i : Item) (ls : List ℕ) (rs : List RecordValue) → ((first k : ℕ) (q : RecordValue) → CountsFrom first ls → slice_get (of_device d rs) k ≡ Some q → q.link ≡ first + k)
    → (first k : ℕ) (q : RecordValue) → CountsFrom first (with_link d i ls) → slice_get (of_device d (with_tap i rs)) k ≡ Some q → q.link ≡ first + k
link_step d (item.Stated v) ls rs rest first k q counted at = rest first k q counted at
link_step d (item.Tap r) ls rs rest first k q counted at = by (r.device == d) k counted at
  where
    by : (b : Bool) (k : ℕ) → CountsFrom first (if b then r.link ∷ ls else ls) → slice_get (if b then r ∷ of_device d rs else of_device d rs) k ≡ Some q → q.link ≡ first + k
    by false k counted at = rest first k q counted at
    by true zero counted at = let same : r ≡ q = cc in omega (arith, counted.0, ap (λ (z : RecordValue). z.link) same)
    by true (suc k) counted at = omega (arith, rest (first + 1) k q counted.1 at)

links_count : (d : ℕ) (gs : List Item) (first k : ℕ) (q : RecordValue) → CountsFrom first (links_of d gs) → slice_get (of_device d (taps_in gs)) k ≡ Some q → q.link ≡ first + k
links_count d [] first k q counted at = absurd (cc)
links_count d (i ∷ gs) first k q counted at = link_step d i (links_of d gs) (taps_in gs) (links_count d gs) first k q counted at

upto_step : (x : OutboxValue) (i : Item) (rs : List RecordValue) (d : ℕ) → FollowsOutbox x i → IsHandled x i → (storing x i).upto d + length (of_device d rs) ≡ x.upto d + length (of_device d (with_tap i rs))
upto_step x (item.Stated v) rs d link handled = by (is_new x (item.Stated v))
  where
    by : (b : Bool) → (if b then stored_statement v x else x).upto d + length (of_device d rs) ≡ x.upto d + length (of_device d rs)
    by true = refl
    by false = refl
upto_step x (item.Tap r) rs d link handled = ap (λ (y : OutboxValue). y.upto d + length (of_device d rs)) (stored_new x (item.Tap r) (tap_is_new x r link handled)) ∙ by (r.device == d) refl
  where
    by : (b : Bool) → (r.device == d) ≡ b → put x.upto r.device r.link d + length (of_device d rs) ≡ x.upto d + length (if b then r ∷ of_device d rs else of_device d rs)
    by false other = ap (λ c. (if c then r.link else x.upto d) + length (of_device d rs)) (other_way r.device d other)
    by true same =
        let at : r.device ≡ d = is_one r.device d same in
        let here : put x.upto r.device r.link d ≡ x.upto d + 1 = ap (put x.upto r.device r.link) (sym at) ∙ put_here x.upto r.device r.link ∙ link ∙ ap (λ j. x.upto j + 1) at in
        omega (arith, here)

upto_grows : (sc : SchemeValue) (x : OutboxValue) (es : List Entry) → ((j : ℕ) → CountsFrom (x.upto j + 1) (links_of j (items_of es))) → AreStored sc x es → (d : ℕ) → (storing_all x es).upto d ≡ x.upto d + length (of_device d (taps_in (items_of es)))
upto_grows sc x [] counted ok d = let zero_more : x.upto d ≡ x.upto d + 0 = omega arith in zero_more
upto_grows sc x (e ∷ es) counted ok d =
    upto_grows sc (storing x e.item) es (counted_next x e.item (λ j. links_of j (items_of es)) counted ok.0) ok.2 d
    ∙ upto_step x e.item (taps_in (items_of es)) d (link_due x e.item (λ j. links_of j (items_of es)) counted) ok.0

-- ANSWERS
there : (o : Option ℕ) → is_some o ≡ true → (n : ℕ) × (o ≡ Some n)
there None e = absurd (cc)
there (Some n) e = (n, refl)

covered : (sc : SchemeValue) (x : OutboxValue) (es : List Entry) (a : AckItem) → ((j : ℕ) → CountsFrom (x.upto j + 1) (links_of j (items_of es))) → AreStored sc x es → IsAnswerFrom sc x a → IsCovered sc (storing_all x es) a
covered sc x es (ack_item.Upto a) counted ok is = omega (arith, is.1, upto_grows sc x es counted ok a.device)
covered sc x es (ack_item.Day a) counted ok is =
    list_all-weaken (λ (o : ℕ × ℕ). is_some (x.stated o.0 a.device a.day)) (λ (o : ℕ × ℕ). is_some ((storing_all x es).stated o.0 a.device a.day)) (λ o e. let held = there (x.stated o.0 a.device a.day) e in ap is_some (statements_stay x es o.0 a.device a.day held.0 held.1)) sc.owners is.1

all_covered : (sc : SchemeValue) (x : OutboxValue) (es : List Entry) → ((j : ℕ) → CountsFrom (x.upto j + 1) (links_of j (items_of es))) → AreStored sc x es → AllByRecursion (IsCovered sc (storing_all x es)) (answers_of es)
all_covered sc x [] counted stored = tt
all_covered sc x (e ∷ es) counted stored =
    let rest = counted_next x e.item (λ j. links_of j (items_of es)) counted stored.0 in
    all-append (IsCovered sc (storing_all x (e ∷ es))) e.answers (answers_of es)
    (all-weaken (IsAnswerFrom sc (storing x e.item)) (IsCovered sc (storing_all x (e ∷ es))) (λ a. covered sc (storing x e.item) es a rest stored.2) e.answers stored.1)
    (all_covered sc (storing x e.item) es rest stored.2)

-- THE WHOLE
taps-append : (gs hs : List Item) → taps_in (gs ++ hs) ≡ taps_in gs ++ taps_in hs
taps-append [] hs = refl
taps-append (i ∷ gs) hs = ap (with_tap i) (taps-append gs hs) ∙ by i
  where
    by : (i : Item) → with_tap i (taps_in gs ++ taps_in hs) ≡ with_tap i (taps_in gs) ++ taps_in hs
    by (item.Tap r) = refl
    by (item.Stated v) = refl

-- the first of these count up too
counted_front : (d first : ℕ) (gs hs : List Item) → CountsFrom first (links_of d (gs ++ hs)) → CountsFrom first (links_of d gs)
counted_front d first [] hs counted = tt
counted_front d first (i ∷ gs) hs counted = by i first (λ n. counted_front d n gs hs) counted
  where
    by : (i : Item) (first : ℕ) → ((n : ℕ) → CountsFrom n (links_of d (gs ++ hs)) → CountsFrom n (links_of d gs)) → CountsFrom first (with_link d i (links_of d (gs ++ hs))) → CountsFrom first (with_link d i (links_of d gs))
    by (item.Stated v) first rest c = rest first c
    by (item.Tap r) first rest c = of_if (r.device == d) c
      where
        of_if : (b : Bool) → CountsFrom first (if b then r.link ∷ links_of d (gs ++ hs) else links_of d (gs ++ hs)) → CountsFrom first (if b then r.link ∷ links_of d gs else links_of d gs)
        of_if true c = (c.0, rest (first + 1) c.1)
        of_if false c = rest first c

pub gathers_plainly : (sc : SchemeValue) (x : OutboxValue) (g : Gathering) → IsGathering sc x g → GathersPlainly sc x (storing_all x g.entries) g
gathers_plainly sc x g is = record {
  front = λ d. (of_device d (taps_in left), ap (of_device d) (taps-append (items_of g.entries) left) ∙ filter-append (λ (r : RecordValue). r.device == d) (taps_in (items_of g.entries)) (taps_in left));
  links = λ d k r at. links_count d (accepted_by g) (x.upto d + 1) k r (is.counted d) at;
  upto = upto_grows sc x g.entries counted is.stored;
  rows_stay = rows_stay x g.entries;
  rows_come = rows_come x g.entries;
  rows_held = rows_held sc x g.entries counted is.stored;
  statements_stay = statements_stay x g.entries;
  statements_come = statements_come x g.entries;
  statements_held = λ o d day n among. statements_held sc x g.entries is.stored o d day n among.0 among.1;
  answers = all-append (IsCovered sc (storing_all x g.entries)) (answers_of g.entries) g.last (all_covered sc x g.entries counted is.stored) (all-weaken (IsAnswerFrom sc (storing_all x g.entries)) (IsCovered sc (storing_all x g.entries)) (λ a. covered sc (storing_all x g.entries) [] a (λ j. tt) tt) g.last is.last);
}
  where
    left : List Item
    left = in_hand g.hand ++ g.inbox

    counted : (j : ℕ) → CountsFrom (x.upto j + 1) (links_of j (items_of g.entries))
    counted j = counted_front j (x.upto j + 1) (items_of g.entries) left (is.counted j)

-- where nothing is left, all that was accepted was handled
pub nothing_left : (g : Gathering) → g.hand ≡ None → g.inbox ≡ [] → items_of g.entries ≡ accepted_by g
nothing_left g hand inbox = sym (append-nil (items_of g.entries)) ∙ (λ i. items_of g.entries ++ (in_hand (sym hand i) ++ sym inbox i))

-- A REFUSED ITEM
-- the links of what was not stored go on behind the outbox's
counted_left : (sc : SchemeValue) (x : OutboxValue) (es : List Entry) (hs : List Item) → ((j : ℕ) → CountsFrom (x.upto j + 1) (links_of j (items_of es ++ hs))) → AreStored sc x es → (j : ℕ) → CountsFrom ((storing_all x es).upto j + 1) (links_of j hs)
counted_left sc x [] hs counted ok = counted
counted_left sc x (e ∷ es) hs counted ok = counted_left sc (storing x e.item) es hs (counted_next x e.item (λ j. links_of j (items_of es ++ hs)) counted ok.0) ok.2

refused_by : (a b c d : Bool) (why : StoreFault) → a ≡ false → b ≡ false → judged_by a b c d ≡ Err why → (c ≡ true) ⊎ (d ≡ true)
refused_by true b c d why low high e = absurd (cc)
refused_by false true c d why low high e = absurd (cc)
refused_by false false true d why low high e = inl refl
refused_by false false false true why low high e = inr refl
refused_by false false false false why low high e = absurd (cc)

many : (n : ℕ) → nat_le 1000000 n ≡ true → 1000000 ≤ n
many n e = grind (arith, nat_tests)

tap_refused : (y : OutboxValue) (r : RecordValue) (why : StoreFault) → r.link ≡ y.upto r.device + 1 → store_judged y r ≡ Err why → (is_some (y.rows r.owner r.device r.lane) ≡ true) ⊎ (1000000 ≤ y.row_count)
tap_refused y r why next e = elim (refused_by (nat_le r.link (y.upto r.device)) (nat_lt (y.upto r.device + 1) r.link) (is_some (y.rows r.owner r.device r.lane)) (nat_le 1000000 y.row_count) why (low r.link (y.upto r.device) next) (high r.link (y.upto r.device) next) e) [ inl held ↦ inl held | inr full ↦ inr (many y.row_count full) ]
  where
    low : (k u : ℕ) → k ≡ u + 1 → nat_le k u ≡ false
    low k u is = grind (arith, nat_tests)

    high : (k u : ℕ) → k ≡ u + 1 → nat_lt (u + 1) k ≡ false
    high k u is = grind (arith, nat_tests)

other_count : (m n total : ℕ) → (stated_judged_by (Some m) n total ≡ Err stated.Conflict) ⊎ (stated_judged_by (Some m) n total ≡ Err stated.OutboxFull) → m ≢ n
other_count m n total e same = elim e [ inl f ↦ never f | inr f ↦ never_so f ]
  where
    again : stated_judged_by (Some m) n total ≡ Err stated.Duplicate
    again = ap (λ b. if b then Err stated.Duplicate else Err stated.Conflict) (ap (λ k. m == k) (sym same) ∙ is_self m)

    never : stated_judged_by (Some m) n total ≡ Err stated.Conflict → ⊥
    never f = let both : Err stated.Duplicate ≡ Err stated.Conflict = sym again ∙ f in absurd (cc)

    never_so : stated_judged_by (Some m) n total ≡ Err stated.OutboxFull → ⊥
    never_so f = let both : Err stated.Duplicate ≡ Err stated.OutboxFull = sym again ∙ f in absurd (cc)

statement_refused : (held : Option ℕ) (n total : ℕ) → (stated_judged_by held n total ≡ Err stated.Conflict) ⊎ (stated_judged_by held n total ≡ Err stated.OutboxFull) → ((other : ℕ) × (held ≡ Some other) × (other ≢ n)) ⊎ (1000000 ≤ total)
statement_refused (Some m) n total e = inl (m, refl, other_count m n total e)
statement_refused None n total e = inr (by (nat_le 1000000 total) refl e)
  where
    judged : Bool → Result Unit StatedFault
    judged b = if b then Err stated.OutboxFull else Ok tt

    never : judged false ≡ Err stated.Conflict → 1000000 ≤ total
    never f = absurd (cc)

    never_so : judged false ≡ Err stated.OutboxFull → 1000000 ≤ total
    never_so f = absurd (cc)

    by : (b : Bool) → nat_le 1000000 total ≡ b → (judged b ≡ Err stated.Conflict) ⊎ (judged b ≡ Err stated.OutboxFull) → 1000000 ≤ total
    by true full f = many total full
    by false room f = elim f [ inl g ↦ never g | inr g ↦ never_so g ]

shows_why_not : (y : OutboxValue) (i : Item) → IsDue (λ d. y.upto d + 1) i → IsRefusedByOutbox y i → ShowsWhyNot y i
shows_why_not y (item.Tap r) due why = (due, tap_refused y r why.0 due why.1)
shows_why_not y (item.Stated v) due why = statement_refused (y.stated v.owner v.device v.day) v.count y.stated_count why

pub refused_shows_why_not : (sc : SchemeValue) (x : OutboxValue) (g : Gathering) (h : Item) → IsGathering sc x g → g.hand ≡ Some h → IsRefusedByOutbox (storing_all x g.entries) h → ShowsWhyNot (storing_all x g.entries) h
refused_shows_why_not sc x g h is hand why =
    shows_why_not (storing_all x g.entries) h
    (due (λ d. (storing_all x g.entries).upto d + 1) h (λ d. links_of d g.inbox) (λ d. subst (λ z. CountsFrom ((storing_all x g.entries).upto d + 1) (links_of d (in_hand z ++ g.inbox))) hand (counted_left sc x g.entries (in_hand g.hand ++ g.inbox) is.counted is.stored d))) why
