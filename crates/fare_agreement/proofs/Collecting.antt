-- What the writer stores keeps agreement.
use Rattle.std.proofs.Common.{◌≡◌, ℕ, ◌+◌, ◌-◌, ◌≤◌, List, [], ◌∷◌, ◌++◌, length, take, zero, suc, Some, None, Bool, true, false, refl, sym, ap, ◌∙◌, subst, arith, inl, inr}
use Rattle.std.specs.Prelude.{slice_get, Option, ◌==◌, if◌then◌else◌, is_some}
use Rattle.std.specs.List.{AllByRecursion}
use Rattle.fare_record.specs.Values.{RecordValue, StatementValue}
use Rattle.fare_record.specs.Lanes.{part, day_count}
use Rattle.fare_record.specs.declared.ack_item.AckItem.{AckItem}
use Rattle.fare_record.specs.declared.ack_item.AckItem.TheVariants as ack_item
use Rattle.fare_record.specs.declared.item.Item.{Item}
use Rattle.fare_record.specs.declared.item.Item.TheVariants as item
use Rattle.fare_scheme.specs.Values.{SchemeValue}
use Rattle.fare_store.specs.Tables.{put, put2, put3}
use Rattle.fare_store.specs.OutboxWords.{OutboxValue, stored, stored_statement}
use Rattle.fare_store.specs.LedgerWords.{LedgerValue, is_closed}
use Rattle.fare_world.specs.Knowing.{knows_owner}
use Rattle.fare_world.specs.Shown.{IsAt}
use Rattle.fare_history.specs.Serving.{in_hand, tried_in}
use Rattle.fare_history.specs.Gathering.{links_of, CountsFrom, is_new, done_by, storing, IsHandled, IsAnswerFrom, Entry, items_of, answers_of, storing_all, AreStored, AreNew, unanswered, HasFirst}
use Rattle.fare_history.specs.Plainly.{IsCovered}
use Rattle.fare_history.specs.Stores.{StoresValue}
use Rattle.fare_store.proofs.Entries.{if_all, put_all, put_here, put3_here, is_one, is_self, other_way}
use Rattle.fare_history.proofs.Entries.{list_all-weaken, all-weaken, all-append}
use Rattle.fare_history.proofs.Judged.{stored_new, stored_old, repeated_is_old, tap_is_new, new_statement, statement_again}
use Rattle.fare_history.proofs.Counting.{due, counted_on, follows, same_upto}
use Rattle.fare_agreement.specs.Agreeing.{AreNumberedLists, IsOf, had, AreRowsOf, AreCountsOf, LaneAgrees, IsStranger, Agrees}
use Rattle.fare_agreement.specs.Growing.{OutboxGrew}
use Rattle.fare_agreement.specs.Stopping.{IsStored}
use Rattle.fare_agreement.proofs.LaneSteps.{lane_stored}
use Rattle.fare_agreement.proofs.Numbers.{part_take_next}
use Rattle.fare_agreement.proofs.Unregistered.{rows_pushed}

-- OUTBOXES THAT GREW
pub outbox_self : (x : OutboxValue) → OutboxGrew x x
outbox_self x = record { upto = λ d. omega arith; stated = λ o d day c e. e }

pub outbox_trans : (x y z : OutboxValue) → OutboxGrew x y → OutboxGrew y z → OutboxGrew x z
outbox_trans x y z p q = record { upto = λ d. omega (arith, p.upto d, q.upto d); stated = λ o d day c e. q.stated o d day c (p.stated o d day c e) }

-- what was answered stays covered
held_still : (old new : Option ℕ) → ((c : ℕ) → old ≡ Some c → new ≡ Some c) → is_some old ≡ true → is_some new ≡ true
held_still None new keeps e = absurd (cc)
held_still (Some c) new keeps e = ap is_some (keeps c refl)

pub covered_still : (sc : SchemeValue) (x y : OutboxValue) → OutboxGrew x y → (a : AckItem) → IsCovered sc x a → IsCovered sc y a
covered_still sc x y grew (ack_item.Upto a) is = omega (arith, is, grew.upto a.device)
covered_still sc x y grew (ack_item.Day a) is =
    list_all-weaken (λ (o : ℕ × ℕ). is_some (x.stated o.0 a.device a.day)) (λ (o : ℕ × ℕ). is_some (y.stated o.0 a.device a.day))
    (λ o. held_still (x.stated o.0 a.device a.day) (y.stated o.0 a.device a.day) (grew.stated o.0 a.device a.day)) sc.owners is

pub stored_still : (x y : OutboxValue) → OutboxGrew x y → (i : Item) → IsStored x i → IsStored y i
stored_still x y grew (item.Tap r) is = omega (arith, is, grew.upto r.device)
stored_still x y grew (item.Stated v) is = grew.stated v.owner v.device v.day v.count is

pub answer_covered : (sc : SchemeValue) (x : OutboxValue) (a : AckItem) → IsAnswerFrom sc x a → IsCovered sc x a
answer_covered sc x (ack_item.Upto a) is = omega (arith, is.1)
answer_covered sc x (ack_item.Day a) is = is.1

-- LINKS
-- the links of these items go on behind what the outbox has had of each device
abbrev pub GoOn : OutboxValue → List Item → Type 0
GoOn x is = (d : ℕ) → CountsFrom (x.upto d + 1) (links_of d is)

-- the first tap has the next link
pub link_due : (x : OutboxValue) (r : RecordValue) (is : List Item) → GoOn x (item.Tap r ∷ is) → r.link ≡ x.upto r.device + 1
link_due x r is counted = due (λ d. x.upto d + 1) (item.Tap r) (λ d. links_of d is) counted

-- and the others count on behind it
pub links_next : (x : OutboxValue) (i : Item) (is : List Item) → GoOn x (i ∷ is) → IsHandled x i → GoOn (storing x i) is
links_next x i is counted handled d =
    subst (λ n. CountsFrom n (links_of d is))
    (same_upto x (λ e. x.upto e + 1) i (λ e. refl) (follows x (λ e. x.upto e + 1) i (λ e. refl) (due (λ e. x.upto e + 1) i (λ e. links_of e is) counted)) handled d)
    (counted_on (λ e. x.upto e + 1) i (λ e. links_of e is) counted d)

-- what is left counts on behind what was stored
pub links_left : (sc : SchemeValue) (x : OutboxValue) (es : List Entry) (rest : List Item) → GoOn x (items_of es ++ rest) → AreStored sc x es → GoOn (storing_all x es) rest
links_left sc x [] rest counted each = counted
links_left sc x (e ∷ es) rest counted each = links_left sc (storing x e.item) es rest (links_next x e.item (items_of es ++ rest) counted each.0) each.2

none_and_some : {A : Type 0} (c : ℕ) (o : Option ℕ) → o ≡ None → o ≡ Some c → A
none_and_some c o none some =
    let both : None ≡ Some c = sym none ∙ some in
    absurd (cc)

-- ONE ITEM
module _ (sc : SchemeValue) (lists : ℕ → List RecordValue) (all : AreNumberedLists lists) (ls : ℕ → LedgerValue) where
  abbrev with_outbox : OutboxValue → StoresValue
  with_outbox x = record { outbox = x; ledgers = ls }

  -- What holds of each lane of some owners, by what the outbox has had of it and its rows, and stays where the lane's next tap is
  -- stored, stays where any device's next tap is.
  module _ (Of : ℕ → ℕ → List RecordValue → (ℕ → Option RecordValue) → Type 0) (Among : ℕ → Type 0) (pushed : (o d : ℕ) (arrived : List RecordValue) (rows : ℕ → Option RecordValue) → Of o d arrived rows → (r : RecordValue) → r.lane ≡ length arrived + 1 → Of o d (arrived ++ r ∷ []) (put rows r.lane (Some r)))
      (x : OutboxValue) (r : RecordValue) (at : IsAt (lists r.device) r.link r) (next : r.link ≡ x.upto r.device + 1) (is : (o d : ℕ) → Among o → Of o d (had lists x o d) (x.rows o d)) where
    abbrev n : ℕ
    n = x.upto r.device

    -- a lane, by the greatest link of its device and its rows
    abbrev Lane : ℕ → ℕ → ℕ → (ℕ → Option RecordValue) → Type 0
    Lane o d upto rows = Of o d (part o (take upto (lists d))) rows

    here : slice_get (lists r.device) n ≡ Some r
    here = let place : n ≡ r.link - 1 = omega (arith, next) in ap (slice_get (lists r.device)) place ∙ at.here

    more : (o : ℕ) (b : Bool) → (r.owner == o) ≡ b → part o (take r.link (lists r.device)) ≡ (if b then part o (take n (lists r.device)) ++ r ∷ [] else part o (take n (lists r.device)))
    more o b e =
        ap (λ k. part o (take k (lists r.device))) next ∙ part_take_next o n (lists r.device) r here
        ∙ ap (λ t. if t then part o (take n (lists r.device)) ++ r ∷ [] else part o (take n (lists r.device))) e

    -- its own lane
    own : Among r.owner → Lane r.owner r.device r.link (put (x.rows r.owner r.device) r.lane (Some r))
    own among =
        subst (λ (l : List RecordValue). Of r.owner r.device l (put (x.rows r.owner r.device) r.lane (Some r)))
        (sym (more r.owner true (is_self r.owner)))
        (pushed r.owner r.device (part r.owner (take n (lists r.device))) (x.rows r.owner r.device) (is r.owner r.device among) r (all.numbered r.device n r here).lane)

    own_device : Among r.owner → (d : ℕ) (b : Bool) → (d == r.device) ≡ b → Lane r.owner d (if b then r.link else x.upto d) (if b then put (x.rows r.owner r.device) r.lane (Some r) else x.rows r.owner d)
    own_device among d true e = subst (λ j. Lane r.owner j r.link (put (x.rows r.owner r.device) r.lane (Some r))) (sym (is_one d r.device e)) (own among)
    own_device among d false e = is r.owner d among

    -- other owners' lanes
    beside : (o : ℕ) → Among o → (o == r.owner) ≡ false → (d : ℕ) (b : Bool) → (d == r.device) ≡ b → Lane o d (if b then r.link else x.upto d) (x.rows o d)
    beside o among other d true e = subst (λ j. Lane o j r.link (x.rows o j)) (sym (is_one d r.device e)) (subst (λ (l : List RecordValue). Of o r.device l (x.rows o r.device)) (sym (more o false (other_way o r.owner other))) (is o r.device among))
    beside o among other d false e = is o d among

    of_owner : (o d : ℕ) → Among o → (b : Bool) → (o == r.owner) ≡ b → Lane o d (put x.upto r.device r.link d) ((if b then put2 (x.rows r.owner) r.device r.lane (Some r) else x.rows o) d)
    of_owner o d among true e =
        let same : o ≡ r.owner = is_one o r.owner e in
        subst (λ j. Lane j d (put x.upto r.device r.link d) (put2 (x.rows r.owner) r.device r.lane (Some r) d)) (sym same) (own_device (subst Among same among) d (d == r.device) refl)
    of_owner o d among false e = beside o among e d (d == r.device) refl

    lanes_stored : (o d : ℕ) → Among o → Lane o d (put x.upto r.device r.link d) (put3 x.rows r.owner r.device r.lane (Some r) o d)
    lanes_stored o d among = of_owner o d among (o == r.owner) refl

  pub tap_agrees : (x : OutboxValue) (r : RecordValue) → IsAt (lists r.device) r.link r → r.link ≡ x.upto r.device + 1 → Agrees sc lists (record { outbox = x; ledgers = ls }) → Agrees sc lists (record { outbox = stored r x; ledgers = ls })
  tap_agrees x r at next is = record {
    lanes = lanes_stored (λ o d arrived rows. LaneAgrees (part o (lists d)) arrived rows ((ls o).taken d) ((ls o).stated d) (is_closed (ls o) d) ((ls o).from d) ((ls o).start + (ls o).closed d) ((ls o).retired d)) (λ o. knows_owner sc o ≡ true)
        (λ o d arrived rows lane r next. lane_stored _ _ _ _ _ _ _ _ _ lane r r.lane next) x r at next is.lanes;
    stated = is.stated;
    untaken = is.untaken;
    waiting = lanes_stored (λ o d arrived rows. AreRowsOf arrived 0 rows) (IsStranger sc) (λ o d. rows_pushed) x r at next is.waiting;
  }

  statement_agrees : (x : OutboxValue) (v : StatementValue) → IsOf lists (item.Stated v) → Agrees sc lists (with_outbox x) → Agrees sc lists (with_outbox (stored_statement v x))
  statement_agrees x v right is = record {
    lanes = is.lanes;
    stated = put_all (λ o (f : ℕ → ℕ → Option ℕ). (d : ℕ) → AreCountsOf (part o (lists d)) (f d)) x.stated v.owner (put2 (x.stated v.owner) v.device v.day (Some v.count)) is.stated
        (put_all (λ d (f : ℕ → Option ℕ). AreCountsOf (part v.owner (lists d)) f) (x.stated v.owner) v.device (put (x.stated v.owner v.device) v.day (Some v.count)) (is.stated v.owner) one);
    untaken = is.untaken;
    waiting = is.waiting;
  }
    where
      one : AreCountsOf (part v.owner (lists v.device)) (put (x.stated v.owner v.device) v.day (Some v.count))
      one = record { counted = put_all (λ j (o : Option ℕ). (c : ℕ) → o ≡ Some c → c ≡ day_count (part v.owner (lists v.device)) j) (x.stated v.owner v.device) v.day (Some v.count) (is.stated v.owner v.device).counted (λ c e. let same : v.count ≡ c = cc in sym same ∙ right) }

  tap_grows : (x : OutboxValue) (r : RecordValue) → r.link ≡ x.upto r.device + 1 → OutboxGrew x (stored r x)
  tap_grows x r next = record { upto = put_all (λ d n. x.upto d ≤ n) x.upto r.device r.link (λ d. omega arith) (omega (arith, next)); stated = λ o d day c e. e }

  statement_grows : (x : OutboxValue) (v : StatementValue) → x.stated v.owner v.device v.day ≡ None → OutboxGrew x (stored_statement v x)
  statement_grows x v none = record {
    upto = λ d. omega arith;
    stated = put_all (λ o (f : ℕ → ℕ → Option ℕ). (d day c : ℕ) → x.stated o d day ≡ Some c → f d day ≡ Some c) x.stated v.owner (put2 (x.stated v.owner) v.device v.day (Some v.count)) (λ o d day c e. e)
        (put_all (λ d (f : ℕ → Option ℕ). (day c : ℕ) → x.stated v.owner d day ≡ Some c → f day ≡ Some c) (x.stated v.owner) v.device (put (x.stated v.owner v.device) v.day (Some v.count)) (λ d day c e. e)
        (put_all (λ day (o : Option ℕ). (c : ℕ) → x.stated v.owner v.device day ≡ Some c → o ≡ Some c) (x.stated v.owner v.device) v.day (Some v.count) (λ day c e. e) (λ c e. none_and_some c (x.stated v.owner v.device v.day) none e)));
  }

  -- an outbox that agrees and has what another had
  pub record Keeps (x y : OutboxValue) : Type 0 where
    pub agrees : Agrees sc lists (record { outbox = y; ledgers = ls })
    pub grew : OutboxGrew x y

  done_keeps : (x : OutboxValue) (i : Item) (is : List Item) → IsOf lists i → GoOn x (i ∷ is) → Agrees sc lists (with_outbox x) → is_new x i ≡ true → Keeps x (done_by i x)
  done_keeps x (item.Tap r) is of counted agrees new = let next = link_due x r is counted in record { agrees = tap_agrees x r of next agrees; grew = tap_grows x r next }
  done_keeps x (item.Stated v) is of counted agrees new = record { agrees = statement_agrees x v of agrees; grew = statement_grows x v (new_statement x v new).0 }

  -- whether the outbox stores an item or not
  pub item_keeps : (x : OutboxValue) (i : Item) (is : List Item) → IsOf lists i → GoOn x (i ∷ is) → Agrees sc lists (record { outbox = x; ledgers = ls }) → Keeps x (storing x i)
  item_keeps x i is of counted agrees =
      if_all (is_new x i) (Keeps x) (done_by i x) x (done_keeps x i is of counted agrees) (λ _. record { agrees = agrees; grew = outbox_self x })

  -- where it stored it, or had stored it before, it is there
  item_stored : (x : OutboxValue) (i : Item) (is : List Item) → GoOn x (i ∷ is) → IsHandled x i → IsStored (storing x i) i
  item_stored x (item.Tap r) is counted handled =
      let there : (storing x (item.Tap r)).upto r.device ≡ r.link = ap (λ (y : OutboxValue). y.upto r.device) (stored_new x (item.Tap r) (tap_is_new x r (link_due x r is counted) handled)) ∙ put_here x.upto r.device r.link in
      omega (arith, there)
  item_stored x (item.Stated v) is counted (inl new) =
      ap (λ (y : OutboxValue). y.stated v.owner v.device v.day) (stored_new x (item.Stated v) new) ∙ put3_here x.stated v.owner v.device v.day (Some v.count)
  item_stored x (item.Stated v) is counted (inr again) =
      ap (λ (y : OutboxValue). y.stated v.owner v.device v.day) (stored_old x (item.Stated v) (repeated_is_old x (item.Stated v) again)) ∙ statement_again x v again

  -- the first of what is in the hand and behind it
  first_keep : (x : OutboxValue) (is : List Item) (n : ℕ) → AllByRecursion (IsOf lists) is → GoOn x is → Agrees sc lists (with_outbox x) → AreNew x (take n is) → Keeps x (storing_all x (unanswered (take n is)))
  first_keep x is zero of counted agrees new = record { agrees = agrees; grew = outbox_self x }
  first_keep x [] (suc n) of counted agrees new = record { agrees = agrees; grew = outbox_self x }
  first_keep x (i ∷ is) (suc n) of counted agrees new =
      let one = item_keeps x i is of.0 counted agrees in
      let more = first_keep (storing x i) is n of.1 (links_next x i is counted (inl new.0)) one.agrees new.1 in
      record { agrees = more.agrees; grew = outbox_trans x (storing x i) (storing_all (storing x i) (unanswered (take n is))) one.grew more.grew }

  pub tried_keep : (x y : OutboxValue) (hand : Option Item) (is : List Item) → AllByRecursion (IsOf lists) (in_hand hand ++ is) → GoOn x (in_hand hand ++ is) → Agrees sc lists (record { outbox = x; ledgers = ls }) → HasFirst x (tried_in hand is) y → Keeps x y
  tried_keep x y None is of counted agrees first = subst (Keeps x) (sym first.value) (first_keep x [] first.count tt (λ d. tt) agrees first.new)
  tried_keep x y (Some i) is of counted agrees first = subst (Keeps x) (sym first.value) (first_keep x (i ∷ is) first.count of counted agrees first.new)

  -- ALL ITEMS
  pub record Gathers (x : OutboxValue) (es : List Entry) : Type 0 where
    pub agrees : Agrees sc lists (record { outbox = storing_all x es; ledgers = ls })
    pub grew : OutboxGrew x (storing_all x es)
    pub kept : AllByRecursion (IsStored (storing_all x es)) (items_of es)
    pub covered : AllByRecursion (IsCovered sc (storing_all x es)) (answers_of es)

  pub entries_gather : (x : OutboxValue) (es : List Entry) (rest : List Item) → AllByRecursion (IsOf lists) (items_of es ++ rest) → GoOn x (items_of es ++ rest) → AreStored sc x es → Agrees sc lists (record { outbox = x; ledgers = ls }) → Gathers x es
  entries_gather x [] rest of counted each is = record { agrees = is; grew = outbox_self x; kept = tt; covered = tt }
  entries_gather x (e ∷ es) rest of counted each is =
      let i = e.item in
      let one = item_keeps x i (items_of es ++ rest) of.0 counted is in
      let more = entries_gather (storing x i) es rest of.1 (links_next x i (items_of es ++ rest) counted each.0) each.2 one.agrees in
      record {
        agrees = more.agrees;
        grew = outbox_trans x (storing x i) (storing_all (storing x i) es) one.grew more.grew;
        kept = (stored_still (storing x i) (storing_all (storing x i) es) more.grew i (item_stored x i (items_of es ++ rest) counted each.0), more.kept);
        covered = all-append (IsCovered sc (storing_all (storing x i) es)) e.answers (answers_of es)
            (all-weaken (IsAnswerFrom sc (storing x i)) (IsCovered sc (storing_all (storing x i) es)) (λ a from. covered_still sc (storing x i) (storing_all (storing x i) es) more.grew a (answer_covered sc (storing x i) a from)) e.answers each.1) more.covered;
      }
