-- No store refuses an item of the lists where the rows agree, but for want of room.
use Rattle.std.proofs.Common.{◌≡◌, ℕ, ◌+◌, ◌-◌, ◌≤◌, List, [], ◌∷◌, ◌++◌, length, Some, None, Bool, true, false, refl, sym, ap, ◌∙◌, subst, arith, inl, inr}
use Rattle.std.specs.Prelude.{slice_get, Option, IfSome, Ok, Err, ◌==◌, ◌&&◌, if◌then◌else◌, ◌⊎◌}
use Rattle.std.specs.List.{AllByRecursion}
use Rattle.std.proofs.lemmas.Bool.Decides.{nat_tests}
use Rattle.fare_record.specs.Values.{RecordValue}
use Rattle.fare_record.specs.Lanes.{part}
use Rattle.fare_record.specs.declared.item.Item.{Item}
use Rattle.fare_record.specs.declared.item.Item.TheVariants as item
use Rattle.fare_scheme.specs.Values.{SchemeValue}
use Rattle.fare_owner.specs.TapJudged.{tap_judged}
use Rattle.fare_owner.specs.StatementJudged.{statement_judged}
use Rattle.fare_owner.specs.declared.statement.StatementFault.TheVariants.{Repeated, Conflict}
use Rattle.fare_store.specs.OutboxWords.{OutboxValue}
use Rattle.fare_store.specs.LedgerWords.{LedgerValue, IsOfScheme, is_closed, is_mine}
use Rattle.fare_world.proofs.RowPlaces.{row_past}
use Rattle.fare_history.specs.Serving.{Cursors, AreNextItems, moved_by, given, device_of, IsOfDevice, IsWorking, IsUnrefused, AreUnrefused}
use Rattle.fare_history.specs.Gathering.{Entry, items_of, storing, storing_all, AreStored, IsFree, AreFree}
use Rattle.fare_history.specs.Serving.{in_hand}
use Rattle.fare_store.proofs.Entries.{is_self}
use Rattle.fare_refinement.proofs.ServeTie.{still_working}
use Rattle.fare_agreement.specs.Agreeing.{AreNumberedLists, IsOf, had, AreCountsOf, lane_agrees, Agrees}
use Rattle.fare_agreement.specs.Stopping.{is_known}
use Rattle.fare_agreement.proofs.LaneSteps.{lane_next, lane_open}
use Rattle.fare_agreement.proofs.Prefixes.{part_front}
use Rattle.fare_agreement.proofs.Takes.{item_taken}
use Rattle.fare_agreement.proofs.Collecting.{GoOn, link_due, links_next, item_keeps}

-- BY THE LEDGER
not_closed : (b : Bool) → (b ≡ true → ⊥) → b ≡ false
not_closed true f = absurd (f refl)
not_closed false f = refl

-- the next tap is judged right
judged_next : (count : ℕ) → tap_judged true count false (count + 1) false ≡ Ok tt
judged_next count = grind (arith, nat_tests)

-- a statement is new, or its count is the one that is held
state_repeated : (held : Option ℕ) (count : ℕ) → ((c : ℕ) → held ≡ Some c → c ≡ count) → (statement_judged true held count false ≡ Ok tt) ⊎ (statement_judged true held count false ≡ Err Repeated)
state_repeated None count same = inl refl
state_repeated (Some c) count same = inr (ap (λ n. statement_judged true (Some n) count false) (same c refl) ∙ ap (λ b. if b then Err Repeated else Err Conflict) (is_self count))

module _ (sc : SchemeValue) (lists : ℕ → List RecordValue) (owner : ℕ) (x : OutboxValue) (counts : (d : ℕ) → AreCountsOf (part owner (lists d)) (x.stated owner d)) where
  -- the owner's ledger, made with the scheme
  pub record IsOwn (l : LedgerValue) : Type 0 where
    pub of_owner : l.owner ≡ owner
    pub made : IsOfScheme sc l

  own_item : (l : LedgerValue) (o d : ℕ) → IsOwn l → o ≡ owner → IsOfDevice sc d → is_mine l o d ≡ true
  own_item l o d own same registered = of_both (o == l.owner) (l.knows d) (ap (λ q. q == l.owner) (same ∙ sym own.of_owner) ∙ is_self l.owner) (own.made.knows d ∙ registered)
    where
      of_both : (a b : Bool) → a ≡ true → b ≡ true → (a && b) ≡ true
      of_both a b e f = λ i. e i && f i

  item_unrefused : (l : LedgerValue) (c : Cursors) (i : Item) (is : List Item) → IsOwn l → IsOfDevice sc (device_of i) → IsWorking l (device_of i) → ((d : ℕ) → lane_agrees lists x l owner d) → ((d : ℕ) → c.lane d ≡ length (l.taken d)) → AreNextItems owner x c (i ∷ is) → IsUnrefused l i
  item_unrefused l c (item.Tap r) is own registered works agrees far next =
      (λ i. tap_judged (own_item l r.owner r.device own next.0.mine registered i) (length (l.taken r.device)) (still i) (lane i) (works i)) ∙ judged_next (length (l.taken r.device))
    where
      lane : r.lane ≡ length (l.taken r.device) + 1
      lane = next.0.lane ∙ ap (λ n. n + 1) (far r.device)

      at : slice_get (had lists x owner r.device) (length (l.taken r.device)) ≡ Some r
      at = lane_next _ _ _ _ _ _ _ _ _ (agrees r.device) r (c.lane r.device + 1) (ap (λ n. n + 1) (far r.device)) next.0.held

      still : is_closed l r.device r.tap.day ≡ false
      still = not_closed (is_closed l r.device r.tap.day) (λ shut. lane_open _ _ _ _ _ _ _ _ _ (agrees r.device) r r.tap.day (part_front owner (x.upto r.device) (lists r.device)) at shut refl)
  item_unrefused l c (item.Stated v) is own registered works agrees far next =
      subst (λ (b : Bool × Bool). (statement_judged b.0 (l.stated v.device v.day) v.count b.1 ≡ Ok tt) ⊎ (statement_judged b.0 (l.stated v.device v.day) v.count b.1 ≡ Err Repeated)) (λ i. (sym (own_item l v.owner v.device own next.0.mine registered) i, sym works i))
      (state_repeated (l.stated v.device v.day) v.count (λ c e. (agrees v.device).stated_are.counted v.day c e ∙ sym ((counts v.device).counted v.day v.count next.0.held)))

  pub items_unrefused : (l : LedgerValue) (c : Cursors) (items : List Item) → IsOwn l → AllByRecursion (λ i. IsOfDevice sc (device_of i)) items → AllByRecursion (λ i. IsWorking l (device_of i)) items → ((d : ℕ) → lane_agrees lists x l owner d) → ((d : ℕ) → c.lane d ≡ length (l.taken d)) → AreNextItems owner x c items → AreUnrefused l items
  items_unrefused l c [] own registered works agrees far next = tt
  items_unrefused l c (i ∷ items) own registered works agrees far next =
      let one = item_taken lists owner x counts l c i items agrees far next in
      (item_unrefused l c i items own registered.0 works.0 agrees far next, items_unrefused (given l i) (moved_by c i) items (own_still l i own) registered.1 (still_working l i items works.1) one.agrees one.far next.1)
    where
      own_still : (l : LedgerValue) (i : Item) → IsOwn l → IsOwn (given l i)
      own_still l (item.Tap r) own = record { of_owner = own.of_owner; made = record { start = own.made.start; knows = own.made.knows } }
      own_still l (item.Stated v) own = record { of_owner = own.of_owner; made = record { start = own.made.start; knows = own.made.knows } }

-- BY THE OUTBOX
module _ (sc : SchemeValue) (lists : ℕ → List RecordValue) (all : AreNumberedLists lists) (ls : ℕ → LedgerValue) where
  item_free : (x : OutboxValue) (i : Item) (is : List Item) → is_known sc i ≡ true → IsOf lists i → GoOn x (i ∷ is) → Agrees sc lists (record { outbox = x; ledgers = ls }) → IsFree x i
  item_free x (item.Tap r) is known of counted agrees = (next, below)
    where
      next : r.link ≡ x.upto r.device + 1
      next = link_due x r is counted

      here : slice_get (lists r.device) (x.upto r.device) ≡ Some r
      here = let place : x.upto r.device ≡ r.link - 1 = omega (arith, next) in ap (slice_get (lists r.device)) place ∙ of.here

      below : (lane : ℕ) → r.lane ≤ lane → x.rows r.owner r.device lane ≡ None
      below lane le =
          let own = agrees.lanes r.owner r.device known in
          own.rows_are.are lane ∙ row_past own.rows_are.gone (had lists x r.owner r.device) lane (omega (arith, le, (all.numbered r.device (x.upto r.device) r here).lane))
  item_free x (item.Stated v) is known of counted agrees = by (x.stated v.owner v.device v.day) refl
    where
      by : (o : Option ℕ) → x.stated v.owner v.device v.day ≡ o → (x.stated v.owner v.device v.day ≡ None) ⊎ (x.stated v.owner v.device v.day ≡ Some v.count)
      by None e = inl e
      by (Some c) e = inr (e ∙ ap Some ((agrees.stated v.owner v.device).counted v.day c e ∙ sym of))

  hand_free : (x : OutboxValue) (hand : Option Item) (is : List Item) → AllByRecursion (λ i. is_known sc i ≡ true) (in_hand hand ++ is) → AllByRecursion (IsOf lists) (in_hand hand ++ is) → GoOn x (in_hand hand ++ is) → Agrees sc lists (record { outbox = x; ledgers = ls }) → IfSome hand (IsFree x)
  hand_free x None is known of counted agrees = tt
  hand_free x (Some i) is known of counted agrees = item_free x i is known.0 of.0 counted agrees

  pub entries_free : (x : OutboxValue) (es : List Entry) (hand : Option Item) (inbox : List Item) → AllByRecursion (λ i. is_known sc i ≡ true) (items_of es ++ (in_hand hand ++ inbox)) → AllByRecursion (IsOf lists) (items_of es ++ (in_hand hand ++ inbox)) → GoOn x (items_of es ++ (in_hand hand ++ inbox)) → AreStored sc x es
      → Agrees sc lists (record { outbox = x; ledgers = ls }) → AreFree x es × IfSome hand (IsFree (storing_all x es))
  entries_free x [] hand inbox known of counted each agrees = (tt, hand_free x hand inbox known of counted agrees)
  entries_free x (e ∷ es) hand inbox known of counted each agrees =
      let i = e.item in
      let rest = items_of es ++ (in_hand hand ++ inbox) in
      let one = item_keeps sc lists all ls x i rest of.0 counted agrees in
      let more = entries_free (storing x i) es hand inbox known.1 of.1 (links_next x i rest counted each.0) each.2 one.agrees in
      ((item_free x i rest known.0 of.0 counted agrees, more.0), more.1)
