-- What an owner did, item by item.
use Rattle.std.proofs.Common.{◌≡◌, ◌≢◌, ℕ, zero, suc, ◌+◌, ◌≤◌, Some, None, Bool, true, false, List, [], ◌∷◌, ◌++◌, length, take, refl, sym, ap, ◌∙◌, subst, inl, inr, arith, append_assoc}
use Rattle.std.specs.Prelude.{◌⊎◌, ◌==◌, if◌then◌else◌, min, is_none, Option, Result, Ok, Err, IsErrAnd}
use Rattle.std.proofs.lemmas.List.{append-nil}
use Rattle.std.proofs.lemmas.Option.{same_Some}
use Rattle.fare_record.specs.Items.{tap_of, statement_of}
use Rattle.fare_record.specs.Limits.{IsDay}
use Rattle.fare_record.specs.Values.{RecordValue, StatementValue}
use Rattle.fare_record.specs.declared.item.Item.{Item}
use Rattle.fare_record.specs.declared.item.Item.TheVariants.{Tap, Stated}
use Rattle.fare_owner.specs.StatementJudged.{statement_judged}
use Rattle.fare_owner.specs.declared.statement.StatementFault.{StatementFault}
use Rattle.fare_owner.specs.declared.statement.StatementFault.TheVariants.{Repeated, Conflict}
use Rattle.fare_store.specs.declared.fault.Fault.{Fault}
use Rattle.fare_store.specs.declared.fault.Fault.TheVariants as fault
use Rattle.fare_store.specs.Standing.{Standing, Calls, IsSound}
use Rattle.fare_store.specs.LedgerWords.{LedgerValue, state_judged, is_mine}
use Rattle.fare_session.specs.declared.fault.SessionFault.{SessionFault}
use Rattle.fare_session.specs.declared.fault.SessionFault.TheVariants.{Refused, Memory, Store}
use Rattle.fare_history.specs.Serving.{given, given_all, AreUnrefused, in_hand, tried_in, IsDated}
use Rattle.fare_session.specs.Taking.{is_added, added_by}
use Rattle.fare_session.specs.Stores.{session_fault, stored_fault, IsOwners, Called, HasStood, Stays}
use Rattle.fare_session.specs.Taking.{Tallied, IsRefusedHand, IsImage, IsTaken, fault_of_halt, IsTaking, IsKept, WasKept}
use Rattle.fare_session.specs.declared.batching.Halt.{Halt}
use Rattle.fare_session.proofs.StoreCalls.{leaves_done, leaves_kept, leaves_say, leaves_then, stood_first, stood_then, stood_value}
use Rattle.fare_session.proofs.Services.{unrefused-append, given_all-append, added_by-append, all-append}

-- one call, in other words
pub called_say : {V : Type 0} (a b : Standing V) (f g : Option Fault) (P Q : Type 0) (commits images : V → Type 0) → f ≡ g → (P → Q) → ((v : V) → commits v → images v) → Calls a b f P commits → Called a b g Q images
called_say a b f g P Q commits images e say image c = subst (λ z. Called a b z Q images) e (record {
  value = λ live lawful. let x = c.value live lawful in (x.0, say x.1);
  stop = λ clean lawful v leaves. elim (c.stop clean lawful v leaves) [
    | inl before ↦ inl before
    | inr done ↦ inr (done.0, image v done.1)
  ];
  lasts = c.lasts;
  clean = c.clean;
  live = c.live;
  stays = λ e live clean. c.stays e clean;
  cause = c.cause;
})

pub stored_is : (f : Fault) → Some f ≡ stored_fault (Some (session_fault f))
stored_is fault.Memory = refl
stored_is fault.Store = refl

pub stored_as : (f : Fault) (s : SessionFault) → s ≡ session_fault f → Some f ≡ stored_fault (Some s)
stored_as f s e = stored_is f ∙ ap (λ z. stored_fault (Some z)) (sym e)

pub failed_owners : (f : Fault) (s : SessionFault) → s ≡ session_fault f → IsOwners (Some s)
failed_owners fault.Memory s e = subst (λ z. IsOwners (Some z)) (sym e) tt
failed_owners fault.Store s e = subst (λ z. IsOwners (Some z)) (sym e) tt

pub not_refused : (f : Fault) (s : SessionFault) → s ≡ session_fault f → s ≡ Refused → ⊥
not_refused fault.Memory s e r = let x : Memory ≡ Refused = sym e ∙ r in cc
not_refused fault.Store s e r = let x : Store ≡ Refused = sym e ∙ r in cc

-- a fault that is handed on
pub handed : {A E : Type 0} (P : Result A E → Type 0) (r : Result A E) (f : E) → IsErrAnd r (λ e. e ≡ f) → P (Err f) → P r
handed P (Ok u) f is done = absurd is
handed P (Err e) f is done = subst (λ z. P (Err z)) (sym is) done

-- A STATEMENT THAT IS HELD
held_by_judge : (mine : Bool) (held : Option ℕ) (count : ℕ) (retired : Bool) → statement_judged mine held count retired ≡ Err Repeated → is_none held ≡ false
held_by_judge false held count retired e = absurd (cc)
held_by_judge true held count true e = absurd (cc)
held_by_judge true None count false e = absurd (cc)
held_by_judge true (Some n) count false e = refl

free_by_judge : (mine : Bool) (held : Option ℕ) (count : ℕ) (retired : Bool) → statement_judged mine held count retired ≡ Ok tt → is_none held ≡ true
free_by_judge false held count retired e = absurd (cc)
free_by_judge true held count true e = absurd (cc)
free_by_judge true None count false e = refl
free_by_judge true (Some n) count false e = by (n == count) e
  where
    by : (b : Bool) → ◌≡◌ {A = Result (Unit {0}) StatementFault} (if b then Err Repeated else Err Conflict) (Ok tt) → false ≡ true
    by true e = absurd (cc)
    by false e = absurd (cc)

pub new_by_judge : (l : LedgerValue) (s : StatementValue) → state_judged l s ≡ Ok tt → true ≡ is_added l (Stated s)
new_by_judge l s e = sym (free_by_judge (is_mine l s.owner s.device) (l.stated s.device s.day) s.count (l.retired s.device) e)

pub old_by_judge : (l : LedgerValue) (s : StatementValue) → state_judged l s ≡ Err Repeated → false ≡ is_added l (Stated s)
old_by_judge l s e = sym (held_by_judge (is_mine l s.owner s.device) (l.stated s.device s.day) s.count (l.retired s.device) e)

given_then : (l m : LedgerValue) (xs ys : List Item) → m ≡ given_all l xs → given_all m ys ≡ given_all l (xs ++ ys)
given_then l m xs ys is = ap (λ z. given_all z ys) is ∙ sym (given_all-append l xs ys)

-- WHAT A CALL THAT FAILED MAY HAVE HAD BEFORE IT
pub take_none : {X : Type 0} (n : ℕ) → take {A = X} n [] ≡ []
take_none zero = refl
take_none (suc n) = refl

-- a first part of a list is one of the list with more behind it
front_in : (n : ℕ) (xs ys : List Item) → (m : ℕ) × (take m (xs ++ ys) ≡ take n xs)
front_in zero xs ys = (0, refl)
front_in (suc n) [] ys = (0, refl)
front_in (suc n) (x ∷ xs) ys = let rest = front_in n xs ys in (suc rest.0, ap (λ l. x ∷ l) rest.1)

pub image_none : (l : LedgerValue) (items tried : List Item) (w : LedgerValue) → w ≡ given_all l items → IsImage l items tried w
image_none l items tried w is = record { count = 0; unrefused = tt; value = is ∙ ap (given_all l) (sym (append-nil items)) }

pub image_more : (l : LedgerValue) (items : List Item) (hand : Option Item) (behind more : List Item) (w : LedgerValue) → IsImage l items (tried_in hand behind) w → IsImage l items (tried_in hand (behind ++ more)) w
image_more l items None behind more w image = image
image_more l items (Some i) behind more w image =
    let front = front_in image.count (i ∷ behind) more in
    record { count = front.0; unrefused = subst (AreUnrefused (given_all l items)) (sym front.1) image.unrefused; value = image.value ∙ ap (λ z. given_all l (items ++ z)) (sym front.1) }

-- with an empty hand it has the items and nothing else
pub image_sole : (l : LedgerValue) (items behind : List Item) (hand : Option Item) (w : LedgerValue) → hand ≡ None → IsImage l items (tried_in hand behind) w → w ≡ given_all l items
image_sole l items behind None w none image = image.value ∙ ap (λ z. given_all l (items ++ z)) (take_none image.count) ∙ ap (given_all l) (append-nil items)
image_sole l items behind (Some i) w none image = absurd (cc)

-- what it has behind other items
image_then : (l m : LedgerValue) (xs ys tried : List Item) (w : LedgerValue) → m ≡ given_all l xs → IsImage m ys tried w → IsImage l (xs ++ ys) tried w
image_then l m xs ys tried w is image = record {
  count = image.count;
  unrefused = subst (λ z. AreUnrefused z front) (given_then l m xs ys is) image.unrefused;
  value = image.value ∙ given_then l m xs (ys ++ front) is ∙ ap (given_all l) (sym (append_assoc xs ys front));
}
  where
    front : List Item
    front = take image.count tried

-- ONE ITEM
-- a counter behind an item that was added or not
abbrev pub Counts_one : Bool → ℕ → ℕ → Type 0
Counts_one true n m = m ≡ min (n + 1) 18446744073709551615
Counts_one false n m = m ≡ n

tallied_same : (n : ℕ) → n ≤ 18446744073709551615 → n ≡ min (n + 0) 18446744073709551615
tallied_same n le = omega (arith, le)

tallied_one : (n m : ℕ) (added new : Bool) → Counts_one added n m → added ≡ new → Tallied n m ((if new then 1 else 0) + 0)
tallied_one n m true new is e = subst (λ b. Tallied n m ((if b then 1 else 0) + 0)) e (λ le. is)
tallied_one n m false new is e = subst (λ b. Tallied n m ((if b then 1 else 0) + 0)) e (λ le. is ∙ tallied_same n le)

pub kept_taken : (a b : Standing LedgerValue) (i : Item) (added : Bool) (n m : ℕ) → IsSound b → Counts_one added n m → IsKept a b i (Ok added) → IsDated i → IsTaken a b (i ∷ []) None [] None n m
kept_taken a b i added n m sound is c day = record {
  leaves = leaves_say a b None (given a.value i) (λ w. w ≡ given a.value i) (IsImage a.value (i ∷ []) []) (λ w e. image_none a.value (i ∷ []) [] w e)
      (leaves_done a b (WasKept a.value b.value i (Ok added)) (given a.value i) (λ w. AreUnrefused a.value (i ∷ []) × (w ≡ given a.value i)) sound c.0 (λ d. d.0));
  tally = λ k. tallied_one n m added (is_added a.value i) is (c.0.value (c.0.stays refl k.live k.clean) k.lawful).1.1;
  owners = tt;
  empty = λ e. refl;
  unrefused = λ k. ((c.0.value (c.0.stays refl k.live k.clean) k.lawful).1.2, tt);
  dated = (day, tt);
  refused = λ e. absurd (cc);
}

not_stored : (f : SessionFault) → f ≡ Refused → stored_fault (Some f) ≡ None
not_stored f e = ap (λ z. stored_fault (Some z)) e

pub kept_failed : (a b : Standing LedgerValue) (i : Item) (f : SessionFault) (n : ℕ) → IsSound a → IsKept a b i (Err f) → IsTaken a b [] (Some i) [] (Some f) n n
kept_failed a b i f n sound c = record {
  leaves = leaves_say a b (stored_fault (Some f)) a.value (λ w. (w ≡ a.value) ⊎ (AreUnrefused a.value (i ∷ []) × (w ≡ given a.value i))) (IsImage a.value [] (i ∷ []))
      (λ w is. elim is [ inl e ↦ image_none a.value [] (i ∷ []) w e | inr e ↦ record { count = 1; unrefused = e.0; value = e.1 } ])
      (leaves_kept a b (stored_fault (Some f)) (WasKept a.value b.value i (Err f)) (λ w. AreUnrefused a.value (i ∷ []) × (w ≡ given a.value i)) sound c.0 (λ d. d.0));
  tally = λ k. tallied_same n;
  owners = c.1;
  empty = λ e. absurd (cc);
  unrefused = λ k. tt;
  dated = tt;
  refused = λ e k. let is : f ≡ Refused = cc in (c.0.value (c.0.stays (not_stored f is) k.live k.clean) k.lawful).1.1 is;
}

-- nothing was taken
pub taken_none : (a : Standing LedgerValue) (n : ℕ) → IsSound a → IsTaken a a [] None [] None n n
taken_none a n sound = record {
  leaves = record {
    calls = record { value = λ live lawful. (lawful, refl); stop = λ clean lawful v leaves. inl leaves; lasts = λ clean lawful lasting. lasting; clean = λ h. h; live = λ h. h; stays = λ e live clean. live; cause = refl };
    left = λ k w leaves. image_none a.value [] [] w (sound.settled k.live k.lawful w leaves);
  };
  tally = λ k. tallied_same n;
  owners = tt;
  empty = λ e. refl;
  unrefused = λ k. tt;
  dated = tt;
  refused = λ e. absurd (cc);
}

-- SEVERAL
tallied_then : (n m k p q r : ℕ) → Tallied n m p → Tallied m k q → r ≡ p + q → Tallied n k r
tallied_then n m k p q r one two is le =
    let first = one le in
    let second = two (omega (arith, first)) in
    omega (arith, first, second, is)

pub taken_then : (a b c : Standing LedgerValue) (xs ys : List Item) (h : Option Item) (bs : List Item) (f : Option SessionFault) (n m k : ℕ) → IsTaken a b xs None [] None n m → IsTaken b c ys h bs f m k → IsTaken a c (xs ++ ys) h bs f n k
taken_then a b c xs ys h bs f n m k first second = record {
  leaves = leaves_then a b c (stored_fault f) (given_all a.value xs) (given_all b.value ys) (given_all a.value (xs ++ ys)) (IsImage a.value xs []) (IsImage b.value ys (tried_in h bs)) (IsImage a.value (xs ++ ys) (tried_in h bs)) first.leaves second.leaves
      (given_then a.value b.value xs ys) (λ e w image. image_then a.value b.value xs ys (tried_in h bs) w e image);
  tally = λ keeps. tallied_then n m k (added_by a.value xs) (added_by b.value ys) (added_by a.value (xs ++ ys)) (first.tally (before keeps)) (second.tally (behind keeps)) (added_by-append a.value xs ys ∙ ap (λ l. added_by a.value xs + added_by l ys) (sym (holds keeps)));
  owners = second.owners;
  empty = second.empty;
  unrefused = λ keeps. unrefused-append a.value xs ys (first.unrefused (before keeps)) (subst (λ l. AreUnrefused l ys) (holds keeps) (second.unrefused (behind keeps)));
  dated = all-append IsDated xs ys first.dated second.dated;
  refused = λ e keeps. subst (λ l. IsRefusedHand l h) (given_then a.value b.value xs ys (holds keeps)) (second.refused e (behind keeps));
}
  where
    before : HasStood a c → HasStood a b
    before keeps = stood_first a b c (stored_fault f) (given_all b.value ys) (IsImage b.value ys (tried_in h bs)) second.leaves keeps

    behind : HasStood a c → HasStood b c
    behind keeps = stood_then a b c (stored_fault f) (given_all b.value ys) (given_all a.value xs) (IsImage b.value ys (tried_in h bs)) (IsImage a.value xs []) first.leaves second.leaves keeps

    holds : HasStood a c → b.value ≡ given_all a.value xs
    holds keeps = stood_value a b (given_all a.value xs) (IsImage a.value xs []) first.leaves (before keeps)

-- others stand behind those that were tried
pub taken_behind : (a b : Standing LedgerValue) (xs : List Item) (h : Option Item) (bs more : List Item) (f : Option SessionFault) (n m : ℕ) → IsTaken a b xs h bs f n m → IsTaken a b xs h (bs ++ more) f n m
taken_behind a b xs h bs more f n m t = record {
  leaves = leaves_say a b (stored_fault f) (given_all a.value xs) (IsImage a.value xs (tried_in h bs)) (IsImage a.value xs (tried_in h (bs ++ more))) (image_more a.value xs h bs more) t.leaves;
  tally = t.tally;
  owners = t.owners;
  empty = t.empty;
  unrefused = t.unrefused;
  dated = t.dated;
  refused = t.refused;
}

-- AN ITEM IS A TAP OR A STATEMENT
pub tap_is : (i : Item) (r : RecordValue) → tap_of i ≡ Some r → Tap r ≡ i
tap_is (Tap q) r e = ap Tap (sym (same_Some q r e))
tap_is (Stated s) r e = absurd (cc)

pub statement_is : (i : Item) (s : StatementValue) → statement_of i ≡ Some s → Stated s ≡ i
statement_is (Tap q) s e = absurd (cc)
statement_is (Stated t) s e = ap Stated (sym (same_Some t s e))

pub tap_dated : (i : Item) (r : RecordValue) → tap_of i ≡ Some r → IsDated i
tap_dated (Tap q) r e = tt
tap_dated (Stated s) r e = absurd (cc)

pub statement_dated : (i : Item) (s : StatementValue) → statement_of i ≡ Some s → IsDay s.day → IsDated i
statement_dated (Tap q) s e day = absurd (cc)
statement_dated (Stated t) s e day = subst (λ (v : StatementValue). IsDay v.day) (sym (same_Some t s e)) day

-- THE LAST ITEMS OF A LOOP
pub nothing_in : {X : Type 0} (xs : List X) → length xs ≡ 0 → xs ≡ []
nothing_in [] none = refl
nothing_in (x ∷ xs) none = absurd (omega (arith, none))

-- it failed
pub more_failed : (a b c : Standing LedgerValue) (xs : List Item) (i : Item) (f : SessionFault) (n m k : ℕ) → IsTaken a b xs None [] None n m → IsTaken b c [] (Some i) [] (Some f) m k → IsTaken a c xs (Some i) [] (Some f) n k
more_failed a b c xs i f n m k first second = subst (λ l. IsTaken a c l (Some i) [] (Some f) n k) (append-nil xs) (taken_then a b c xs [] (Some i) [] (Some f) n m k first second)

-- all were taken, or one of them was not
pub taking_whole : (a b : Standing LedgerValue) (xs : List Item) (n m : ℕ) → IsTaken a b xs None [] None n m → IsTaking a b xs None n m
taking_whole a b xs n m all = record { done = xs; hand = None; behind = []; all = sym (append-nil xs); has = refl; count = refl; taken = all }

pub taking_halted : (a b : Standing LedgerValue) (i : Item) (rest : List Item) (halt : Halt) (n m : ℕ) → length rest ≡ halt.behind → IsTaken a b [] (Some i) rest (Some halt.fault) n m → IsTaking a b (i ∷ rest) (Some halt) n m
taking_halted a b i rest halt n m count taken = record { done = []; hand = Some i; behind = rest; all = refl; has = (i, refl); count = count; taken = taken }

-- behind others that were all taken
pub taking_then : (a b c : Standing LedgerValue) (xs ys : List Item) (halt : Option Halt) (n m k : ℕ) → IsTaken a b xs None [] None n m → IsTaking b c ys halt m k → IsTaking a c (xs ++ ys) halt n k
taking_then a b c xs ys halt n m k first t = record {
  done = xs ++ t.done;
  hand = t.hand;
  behind = t.behind;
  all = ap (λ l. xs ++ l) t.all ∙ sym (append_assoc xs t.done (in_hand t.hand ++ t.behind));
  has = t.has;
  count = t.count;
  taken = taken_then a b c xs t.done t.hand t.behind (fault_of_halt halt) n m k first t.taken;
}

-- without a halt all were
pub taking_all : (a b : Standing LedgerValue) (xs : List Item) (n m : ℕ) → IsTaking a b xs None n m → IsTaken a b xs None [] None n m
taking_all a b xs n m t = subst (λ (z : List Item × Option Item × List Item). IsTaken a b z.0 z.1 z.2 None n m) (λ j. (sym whole j, t.has j, none j)) t.taken
  where
    none : t.behind ≡ []
    none = let count = t.count in nothing_in t.behind count

    whole : xs ≡ t.done
    whole = t.all ∙ (λ j. t.done ++ (in_hand (t.has j) ++ none j)) ∙ append-nil t.done

-- the ledger was read
pub taken_read : (a b c : Standing LedgerValue) (xs : List Item) (n m : ℕ) → IsTaken a b xs None [] None n m → Stays b c None → IsTaken a c xs None [] None n m
taken_read a b c xs n m first read = record {
  leaves = leaves_then a b c None (given_all a.value xs) b.value (given_all a.value xs) (IsImage a.value xs []) (λ w. w ≡ b.value) (IsImage a.value xs []) first.leaves read (λ e. e) (λ e w is. image_none a.value xs [] w (is ∙ e));
  tally = λ k. first.tally (stood_first a b c None b.value (λ w. w ≡ b.value) read k);
  owners = tt;
  empty = λ e. refl;
  unrefused = λ k. first.unrefused (stood_first a b c None b.value (λ w. w ≡ b.value) read k);
  dated = first.dated;
  refused = λ e. absurd (cc);
}

-- a read of it failed
pub taken_failed : (a b c : Standing LedgerValue) (xs : List Item) (f : SessionFault) (n m : ℕ) → f ≢ Refused → IsOwners (Some f) → IsTaken a b xs None [] None n m → Stays b c (stored_fault (Some f)) → IsTaken a c xs None [] (Some f) n m
taken_failed a b c xs f n m not owners first read = record {
  leaves = leaves_then a b c (stored_fault (Some f)) (given_all a.value xs) b.value (given_all a.value xs) (IsImage a.value xs []) (λ w. w ≡ b.value) (IsImage a.value xs []) first.leaves read (λ e. e) (λ e w is. image_none a.value xs [] w (is ∙ e));
  tally = λ k. first.tally (stood_first a b c (stored_fault (Some f)) b.value (λ w. w ≡ b.value) read k);
  owners = owners;
  empty = λ e. absurd (cc);
  unrefused = λ k. first.unrefused (stood_first a b c (stored_fault (Some f)) b.value (λ w. w ≡ b.value) read k);
  dated = first.dated;
  refused = λ e. absurd (not (same_Some f Refused e));
}
