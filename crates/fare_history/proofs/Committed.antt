-- What a session's stores hold where a call failed and yet committed, or had nothing to do.
use Rattle.std.proofs.Common.{◌≡◌, ℕ, ◌++◌, ◌∷◌, [], List, ◌+◌, ◌≤◌, zero, suc, length, take, drop, Some, None, Bool, true, false, inl, arith, refl, sym, ap, ◌∙◌, subst, append_assoc}
use Rattle.std.specs.Prelude.{◌==◌, if◌then◌else◌, Option, Result, Err, IfSome}
use Rattle.fare_record.specs.Values.{StatementValue}
use Rattle.fare_scheme.specs.Values.{SchemeValue}
use Rattle.fare_store.specs.Tables.{put}
use Rattle.fare_record.specs.declared.item.Item.{Item}
use Rattle.fare_record.specs.declared.item.Item.TheVariants as item
use Rattle.fare_store.specs.OutboxWords.{OutboxValue}
use Rattle.fare_store.specs.LedgerWords.{LedgerValue, is_mine, state_judged}
use Rattle.fare_owner.specs.StatementJudged.{statement_judged}
use Rattle.fare_owner.specs.declared.statement.StatementFault.{StatementFault}
use Rattle.fare_owner.specs.declared.statement.StatementFault.TheVariants.{Repeated, Conflict}
use Rattle.fare_history.specs.Serving.{behind_ledger, AreNextItems, given, Service, in_hand, device_of, IsOfDevice, IsWorking, IsService, committed, put_by, tried_in, taken_behind, first_taken}
use Rattle.std.specs.List.{AllByRecursion}
use Rattle.std.proofs.lemmas.List.{append-nil, take-append-drop, length-drop}
use Rattle.fare_history.specs.Gathering.{links_of, CountsFrom, IsHandled, IsAnswerFrom, Entry, Gathering, items_of, stored_hand, hand_stored, storing_all, AreStored, tried_by, AreNew, unanswered, stored_behind, first_stored, storing, IsGathering}
use Rattle.fare_history.proofs.Growing.{stored-push}
use Rattle.fare_store.proofs.Entries.{is_one}

put_same : {A : Type 0} (f : ℕ → A) (k : ℕ) (v : A) → f k ≡ v → put f k v ≡ f
put_same f k v same = λ i j. by j (j == k) refl i
  where
    by : (j : ℕ) (b : Bool) → (j == k) ≡ b → (if b then v else f j) ≡ f j
    by j true e = sym same ∙ sym (ap f (is_one j k e))
    by j false e = refl

-- a statement that the ledger holds already changes nothing
pub given_held : (l : LedgerValue) (v : StatementValue) → l.stated v.device v.day ≡ Some v.count → given l (item.Stated v) ≡ l
given_held l v same = λ i. record l { stated = (put_same l.stated v.device (put (l.stated v.device) v.day (Some v.count)) (sym (put_same (l.stated v.device) v.day (Some v.count) same))) i }

-- a statement is judged repeated where it is held
held_where_repeated : (own : Bool) (held : Option ℕ) (n : ℕ) (retired : Bool) → statement_judged own held n retired ≡ Err Repeated → held ≡ Some n
held_where_repeated false held n retired e = absurd (cc)
held_where_repeated true held n true e = absurd (cc)
held_where_repeated true None n false e = absurd (cc)
held_where_repeated true (Some m) n false e = by (m == n) refl e
  where
    refused : Bool → Result Unit StatementFault
    refused b = if b then Err Repeated else Err Conflict

    by : (b : Bool) → (m == n) ≡ b → refused b ≡ Err Repeated → Some m ≡ Some n
    by true same f = ap Some (is_one m n same)
    by false same f = absurd (cc)

pub repeated_is_held : (l : LedgerValue) (v : StatementValue) → state_judged l v ≡ Err Repeated → l.stated v.device v.day ≡ Some v.count
repeated_is_held l v e = held_where_repeated (is_mine l v.owner v.device) (l.stated v.device v.day) v.count (l.retired v.device) e

pub given_repeated : (l : LedgerValue) (v : StatementValue) → state_judged l v ≡ Err Repeated → given l (item.Stated v) ≡ l
given_repeated l v e = given_held l v (repeated_is_held l v e)

-- a take that failed and yet committed is a session that took the item in its hand
pub committed_is : (sc : SchemeValue) (o : ℕ) (x : OutboxValue) (l : LedgerValue) (v : Service) → IsService sc o x l v → IsService sc o x l (committed v)
committed_is sc o x l v is = record { items = subst (AreNextItems o x (behind_ledger sc l)) (sym (append_assoc v.taken (in_hand v.hand) v.queue)) is.items; known = subst (AllByRecursion (λ i. IsOfDevice sc (device_of i))) (sym (append_assoc v.taken (in_hand v.hand) v.queue)) is.known; working = subst (AllByRecursion (λ i. IsWorking l (device_of i))) (sym (append_assoc v.taken (in_hand v.hand) v.queue)) is.working; room = is.room; registered = is.registered }

-- a take of several at once that failed and yet committed is a session that took a first part of what is left
pub first_taken_is : (sc : SchemeValue) (o : ℕ) (x : OutboxValue) (l : LedgerValue) (v : Service) (n : ℕ) → IsService sc o x l v → IsService sc o x l (first_taken n v)
first_taken_is sc o x l v n is = by v.hand n refl
  where
    by : (hand : Option Item) (m : ℕ) → v.hand ≡ hand → IsService sc o x l (taken_behind m hand v)
    by None m e = is
    by (Some i) zero e = is
    by (Some i) (suc m) e =
        let room = is.room in
        let same : put_by (taken_behind (suc m) (Some i) v) ≡ put_by v = append_assoc v.taken (i ∷ take m v.queue) (drop m v.queue) ∙ ap (λ q. v.taken ++ (i ∷ q)) (take-append-drop m v.queue) ∙ ap (λ h. v.taken ++ (in_hand h ++ v.queue)) (sym e) in
        record {
          items = subst (AreNextItems o x (behind_ledger sc l)) (sym same) is.items;
          known = subst (AllByRecursion (λ j. IsOfDevice sc (device_of j))) (sym same) is.known;
          working = subst (AllByRecursion (λ j. IsWorking l (device_of j))) (sym same) is.working;
          room = omega (arith, room, length-drop m v.queue);
          registered = is.registered;
        }

-- a store that failed and yet committed is a session that stored the item in its hand
items-append : (es fs : List Entry) → items_of (es ++ fs) ≡ items_of es ++ items_of fs
items-append [] fs = refl
items-append (e ∷ es) fs = ap (λ l. e.item ∷ l) (items-append es fs)

hand_items : (hand : Option Item) → items_of (stored_hand hand) ≡ in_hand hand
hand_items None = refl
hand_items (Some i) = refl

stored-hand : (sc : SchemeValue) (x : OutboxValue) (es : List Entry) (hand : Option Item) → AreStored sc x es → IfSome hand (IsHandled (storing_all x es)) → AreStored sc x (es ++ stored_hand hand)
stored-hand sc x es None stored handled = subst (AreStored sc x) (sym (append-nil es)) stored
stored-hand sc x es (Some i) stored handled = stored-push sc x es (record { item = i; answers = [] }) stored handled tt

pub hand_stored_is : (sc : SchemeValue) (x : OutboxValue) (g : Gathering) → IsGathering sc x g → g.last ≡ [] → IfSome g.hand (IsHandled (storing_all x g.entries)) → IsGathering sc x (hand_stored g)
hand_stored_is sc x g is last handled = record {
  counted = λ d. subst (λ l. CountsFrom (x.upto d + 1) (links_of d l)) (sym ((λ i. (items-append g.entries (stored_hand g.hand) ∙ ap (λ l. items_of g.entries ++ l) (hand_items g.hand)) i ++ g.inbox) ∙ append_assoc (items_of g.entries) (in_hand g.hand) g.inbox)) (is.counted d);
  stored = stored-hand sc x g.entries g.hand is.stored handled;
  room = is.room;
  last = subst (AllByRecursion (IsAnswerFrom sc (storing_all x (g.entries ++ stored_hand g.hand)))) (sym last) tt;
}

-- a store of several at once that failed and yet committed is a session that stored a first part of what is left
unanswered-items : (is : List Item) → items_of (unanswered is) ≡ is
unanswered-items [] = refl
unanswered-items (i ∷ is) = ap (λ l. i ∷ l) (unanswered-items is)

unanswered-stored : (sc : SchemeValue) (x : OutboxValue) (is : List Item) → AreNew x is → AreStored sc x (unanswered is)
unanswered-stored sc x [] new = tt
unanswered-stored sc x (i ∷ is) new = (inl new.0, tt, unanswered-stored sc (storing x i) is new.1)

stored-then : (sc : SchemeValue) (x : OutboxValue) (es fs : List Entry) → AreStored sc x es → AreStored sc (storing_all x es) fs → AreStored sc x (es ++ fs)
stored-then sc x [] fs first second = second
stored-then sc x (e ∷ es) fs first second = (first.0, first.1, stored-then sc (storing x e.item) es fs first.2 second)

pub first_stored_is : (sc : SchemeValue) (x : OutboxValue) (g : Gathering) (n : ℕ) → IsGathering sc x g → g.last ≡ [] → AreNew (storing_all x g.entries) (take n (tried_by g)) → IsGathering sc x (first_stored n g)
first_stored_is sc x g n is last new = by g.hand n refl new
  where
    by : (hand : Option Item) (m : ℕ) → g.hand ≡ hand → AreNew (storing_all x g.entries) (take m (tried_in hand g.inbox)) → IsGathering sc x (stored_behind m hand g)
    by None m e new = is
    by (Some i) zero e new = is
    by (Some i) (suc m) e new =
        let more = i ∷ take m g.inbox in
        let room = is.room in
        record {
          counted = λ d. subst (λ l. CountsFrom (x.upto d + 1) (links_of d l))
              (sym ((λ j. (items-append g.entries (unanswered more) ∙ ap (λ l. items_of g.entries ++ l) (unanswered-items more)) j ++ drop m g.inbox)
              ∙ append_assoc (items_of g.entries) more (drop m g.inbox) ∙ ap (λ l. items_of g.entries ++ (i ∷ l)) (take-append-drop m g.inbox) ∙ ap (λ o. items_of g.entries ++ (in_hand o ++ g.inbox)) (sym e)))
              (is.counted d);
          stored = stored-then sc x g.entries (unanswered more) is.stored (unanswered-stored sc (storing_all x g.entries) more new);
          room = omega (arith, room, length-drop m g.inbox);
          last = subst (AllByRecursion (IsAnswerFrom sc (storing_all x (g.entries ++ unanswered more)))) (sym last) tt;
        }
