-- A batch of items: taken from the queue, and given to the ledger.
use Rattle.std.proofs.Common.{◌≡◌, ℕ, ◌+◌, ◌≤◌, Some, None, List, [], ◌∷◌, ◌++◌, length, map, take, drop, refl, sym, ap, ◌∙◌, subst, inl, inr, arith, append_assoc}
use Rattle.std.specs.Prelude.{◌⊎◌, min, Option, Ok, Err}
use Rattle.std.specs.List.{AllByRecursion}
use Rattle.std.proofs.lemmas.List.{take-map, take-take, take_all, take-append-drop, drop-take, length-drop, length-take-le}
use Rattle.std.proofs.lemmas.Option.{same_Some}
use Rattle.fare_record.specs.Values.{RecordValue}
use Rattle.fare_record.specs.declared.item.Item.{Item}
use Rattle.fare_record.specs.declared.item.Item.TheVariants.{Tap}
use Rattle.fare_lane_queue.specs.Passes.{taken_list, left_list}
use Rattle.fare_lane_queue.specs.declared.ended.Ended.{Ended}
use Rattle.fare_lane_queue.specs.declared.passes.OwnerPass.{OwnerPass}
use Rattle.fare_store.specs.declared.fault.Fault.{Fault}
use Rattle.fare_store.specs.Standing.{Standing, IsSound}
use Rattle.fare_store.specs.Batches.{done_all, AreAccepted, DoesFirst, IsPartDone, WritesFirst}
use Rattle.fare_store.specs.LedgerWords.{LedgerValue, take_judged, took}
use Rattle.fare_history.specs.Serving.{given_all, AreUnrefused, IsDated}
use Rattle.fare_session.specs.declared.fault.SessionFault.{SessionFault}
use Rattle.fare_session.specs.declared.fault.SessionFault.TheVariants.{Refused}
use Rattle.fare_session.specs.Stores.{session_fault, stored_fault, Called}
use Rattle.fare_session.specs.Taking.{added_by, IsImage, IsTaken, IsTaking}
use Rattle.fare_session.specs.Batching.{CameWith, CameFrom, AreTaps, TakesFirst, IsBatchTaken}
use Rattle.fare_session.specs.declared.batching.Halt.{Halt}
use Rattle.fare_session.proofs.StoreCalls.{called, leaves_done, leaves_fault, leaves_kept, leaves_say}
use Rattle.fare_session.proofs.Takes.{stored_as, failed_owners, not_refused, image_none, taken_then, taken_behind, taking_whole, taking_halted, taking_then}

-- TAPS AS ROWS AND AS ITEMS
given_taps : (l : LedgerValue) (rows : List RecordValue) → done_all took rows l ≡ given_all l (map Tap rows)
given_taps l [] = refl
given_taps l (r ∷ rows) = given_taps (took r l) rows

unrefused_taps : (l : LedgerValue) (rows : List RecordValue) → AreAccepted take_judged took l rows → AreUnrefused l (map Tap rows)
unrefused_taps l [] accepted = tt
unrefused_taps l (r ∷ rows) accepted = (accepted.0, unrefused_taps (took r l) rows accepted.1)

added_taps : (l : LedgerValue) (rows : List RecordValue) → added_by l (map Tap rows) ≡ length rows
added_taps l [] = refl
added_taps l (r ∷ rows) = let more = added_taps (took r l) rows in omega (arith, more)

dated_taps : (rows : List RecordValue) → AllByRecursion IsDated (map Tap rows)
dated_taps [] = tt
dated_taps (r ∷ rows) = (tt, dated_taps rows)

-- a first part of the rows is the same of the items
rows_of : (items : List Item) (rows : List RecordValue) (count n : ℕ) → AreTaps items rows count → n ≤ count → take n items ≡ map Tap (take n (take count rows))
rows_of items rows count n taps low = sym (take-take n count items low) ∙ ap (take n) taps.same ∙ take-map Tap n (take count rows)

-- INTO THE LEDGER
module _ (a b : Standing LedgerValue) (items : List Item) (rows : List RecordValue) (count : ℕ) (taps : AreTaps items rows count) (room : count ≤ length rows) where
  within : (n : ℕ) → n ≤ length (take count rows) → n ≤ count
  within n low = let l = length-take-le count rows room in omega (arith, low, l)

  -- some first part of these rows, in the words of the items
  part_is : (w : LedgerValue) → IsPartDone take_judged took a.value (take count rows) w → IsImage a.value [] items w
  part_is w part =
      let at = rows_of items rows count part.count taps (within part.count part.few) in
      record {
        count = part.count;
        unrefused = subst (AreUnrefused a.value) (sym at) (unrefused_taps a.value (take part.count (take count rows)) part.accepted);
        value = part.value ∙ given_taps a.value (take part.count (take count rows)) ∙ ap (given_all a.value) (sym at);
      }

  -- the first n of them were taken
  pub lead_taken : (n before after : ℕ) → IsSound b → n ≤ length (take count rows) → WritesFirst take_judged took a b (take count rows) (Ok n) → after ≡ min (before + n) 18446744073709551615 → TakesFirst a b items (Ok n) before after
  lead_taken n before after sound low call is = (
    (let few = taps.few in let l = within n low in omega (arith, few, l)),
    record {
      leaves = leaves_say a b None (given_all a.value (take n items)) (λ w. w ≡ given_all a.value (take n items)) (IsImage a.value (take n items) []) (λ w e. image_none a.value (take n items) [] w e)
          (leaves_done a b (DoesFirst take_judged took a.value b.value (take count rows) n) (given_all a.value (take n items)) (IsPartDone take_judged took a.value (take count rows)) sound done (λ did. did.value ∙ given_taps a.value first ∙ ap (given_all a.value) (sym at)));
      tally = λ keeps le. is ∙ ap (λ m. min (before + m) 18446744073709551615) (sym added);
      owners = tt;
      empty = λ e. refl;
      unrefused = λ keeps. subst (AreUnrefused a.value) (sym at) (unrefused_taps a.value first (call.value (call.stays refl keeps.clean) keeps.lawful).1.accepted);
      dated = subst (AllByRecursion IsDated) (sym at) (dated_taps first);
      refused = λ e. absurd (cc);
    },
  )
    where
      first : List RecordValue
      first = take n (take count rows)

      at : take n items ≡ map Tap (take n (take count rows))
      at = rows_of items rows count n taps (within n low)

      added : added_by a.value (take n items) ≡ n
      added = ap (added_by a.value) at ∙ added_taps a.value (take n (take count rows)) ∙ length-take-le n (take count rows) low

      done : Called a b None (DoesFirst take_judged took a.value b.value (take count rows) n) (IsPartDone take_judged took a.value (take count rows))
      done = called a b None (DoesFirst take_judged took a.value b.value (take count rows) n) (IsPartDone take_judged took a.value (take count rows)) call

  -- the call failed: the first one is in the hand, and the others stand behind it
  pub lead_failed : (i : Item) (rest : List Item) (f : Fault) (s : SessionFault) (n : ℕ) → items ≡ i ∷ rest → s ≡ session_fault f → IsSound a → WritesFirst take_judged took a b (take count rows) (Err f) → TakesFirst a b items (Err s) n n
  lead_failed i rest f s n split is sound call = (
    i,
    rest,
    split,
    record {
      leaves = leaves_fault a b (Some f) (stored_fault (Some s)) a.value (IsImage a.value [] (i ∷ rest)) (stored_as f s is)
          (leaves_say a b (Some f) a.value (λ w. (w ≡ a.value) ⊎ IsPartDone take_judged took a.value (take count rows) w) (IsImage a.value [] (i ∷ rest))
          (λ w x. elim x [ inl e ↦ image_none a.value [] (i ∷ rest) w e | inr part ↦ subst (λ l. IsImage a.value [] l w) split (part_is w part) ])
          (leaves_kept a b (Some f) (b.value ≡ a.value) (IsPartDone take_judged took a.value (take count rows)) sound tried (λ e. e)));
      tally = λ keeps le. omega (arith, le);
      owners = failed_owners f s is;
      empty = λ e. absurd (cc);
      unrefused = λ keeps. tt;
      dated = tt;
      refused = λ e. absurd (not_refused f s is (same_Some s Refused e));
    },
  )
    where
      tried : Called a b (Some f) (b.value ≡ a.value) (IsPartDone take_judged took a.value (take count rows))
      tried = called a b (Some f) (b.value ≡ a.value) (IsPartDone take_judged took a.value (take count rows)) call

-- ONE AFTER THE OTHER
pub split_first : (items : List Item) → 1 ≤ length items → (i : Item) × (rest : List Item) × (items ≡ i ∷ rest)
split_first [] some = absurd (omega (arith, some))
split_first (i ∷ rest) some = (i, rest, refl)

-- none was taken at once: the first one was taken alone, or it is in the hand
module _ (a b c : Standing LedgerValue) (items : List Item) (i : Item) (rest : List Item) (kept n m k : ℕ) (split : items ≡ i ∷ rest) (none : kept ≡ 0) (first : IsTaken a b (take kept items) None [] None n m) where
  before : IsTaken a b [] None [] None n m
  before = subst (λ z. IsTaken a b (take z items) None [] None n m) none first

  pub one_taken : IsTaken b c (i ∷ []) None [] None m k → TakesFirst a c items (Ok 1) n k
  one_taken second = (
    (let l = ap length split in omega (arith, l)),
    subst (λ l. IsTaken a c l None [] None n k) (sym (ap (take 1) split)) (taken_then a b c [] (i ∷ []) None [] None n m k before second),
  )

  pub one_failed : (f : SessionFault) → IsTaken b c [] (Some i) [] (Some f) m k → TakesFirst a c items (Err f) n k
  one_failed f second = (i, rest, split, taken_behind a c [] (Some i) [] rest (Some f) n k (taken_then a b c [] [] (Some i) [] (Some f) n m k before second))

take_on : (n m : ℕ) (xs : List Item) → take (n + m) xs ≡ take n xs ++ take m (drop n xs)
take_on n m xs = sym (take-append-drop n (take (n + m) xs)) ∙ (λ j. take-take n (n + m) xs (omega arith) j ++ drop-take n m xs j)

-- those up to a place were taken, and then some part of the others
module _ (a b c : Standing LedgerValue) (items part : List Item) (place n m k : ℕ) (is : part ≡ drop place items) (first : IsTaken a b (take place items) None [] None n m) where
  pub all_on : (kept : ℕ) → TakesFirst b c part (Ok kept) m k → IsTaken a c (take (place + kept) items) None [] None n k
  all_on kept second = subst (λ l. IsTaken a c l None [] None n k) (ap (λ l. take place items ++ take kept l) is ∙ sym (take_on place kept items)) (taken_then a b c (take place items) (take kept part) None [] None n m k first second.1)

  pub all_halted : (halt : Halt) → place + halt.behind + 1 ≡ length items → TakesFirst b c part (Err halt.fault) m k → IsTaking a c items (Some halt) n k
  all_halted halt count second = subst (λ l. IsTaking a c l (Some halt) n k) whole
      (taking_then a b c (take place items) (second.0 ∷ second.1) (Some halt) n m k first (taking_halted b c second.0 second.1 halt m k long second.3))
    where
      split : drop place items ≡ second.0 ∷ second.1
      split = sym is ∙ second.2

      whole : take place items ++ (second.0 ∷ second.1) ≡ items
      whole = ap (λ l. take place items ++ l) (sym split) ∙ take-append-drop place items

      long : length second.1 ≡ halt.behind
      long = let l = ap length split in let d = length-drop place items in omega (arith, l, d, count)

pub all_whole : (a b : Standing LedgerValue) (items : List Item) (place n m : ℕ) → length items ≤ place → IsTaken a b (take place items) None [] None n m → IsTaking a b items None n m
all_whole a b items place n m le all = taking_whole a b items n m (subst (λ l. IsTaken a b l None [] None n m) (take_all place items le) all)

-- WHAT CAME BEHIND AN ITEM
-- of the queue
pub queue_taken : (a b c : Standing LedgerValue) (i : Item) (o p q : OwnerPass) (halt : Option Halt) (n m k : ℕ) → taken_list p ≡ taken_list o ++ i ∷ [] → IsTaken a b (taken_list o) None [] None n m → IsBatchTaken b c i (CameWith p q) halt m k → IsTaking a c (taken_list q) halt n k
queue_taken a b c i o p q halt n m k second first batch = subst (λ l. IsTaking a c l halt n k) (sym (batch.came ∙ ap (λ l. l ++ batch.more) second ∙ append_assoc (taken_list o) (i ∷ []) batch.more))
    (taking_then a b c (taken_list o) (i ∷ batch.more) halt n m k first batch.taking)

-- of what was left
module _ (a b c : Standing LedgerValue) (done : List Item) (i : Item) (o p q r : Ended) (halt : Option Halt) (n m k : ℕ) (all : left_list o ≡ done ++ left_list p) (next : left_list p ≡ i ∷ left_list q) (first : IsTaken a b done None [] None n m) (batch : IsBatchTaken b c i (CameFrom q r) halt m k) where
  pub left_are : left_list o ≡ (done ++ i ∷ batch.more) ++ left_list r
  left_are = all ∙ ap (λ l. done ++ l) (next ∙ ap (λ l. i ∷ l) batch.came) ∙ sym (append_assoc done (i ∷ batch.more) (left_list r))

  pub left_taken : IsTaking a c (done ++ i ∷ batch.more) halt n k
  left_taken = taking_then a b c done (i ∷ batch.more) halt n m k first batch.taking
