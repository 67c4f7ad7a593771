-- What an owner takes, prunes, closes, retires and lets go keeps agreement.
use Rattle.std.proofs.Common.{◌≡◌, ℕ, ◌+◌, ◌-◌, ◌≤◌, List, [], ◌∷◌, ◌++◌, length, Some, Bool, true, false, refl, sym, ap, ◌∙◌, subst, arith, length-append, inl, inr, None}
use Rattle.std.specs.Prelude.{slice_get, Option, Result, Ok, Err, ◌⊎◌, ◌==◌, ◌&&◌, ◌<◌, max, not, nat_le, nat_lt, if◌then◌else◌}
use Rattle.std.proofs.lemmas.Bool.Decides.{nat_tests}
use Rattle.std.specs.List.{AllByRecursion}
use Rattle.fare_record.specs.Limits.{IsDay}
use Rattle.fare_record.specs.Values.{RecordValue, StatementValue}
use Rattle.fare_record.specs.Lanes.{part, day_count}
use Rattle.fare_record.specs.declared.item.Item.{Item}
use Rattle.fare_record.specs.declared.item.Item.TheVariants as item
use Rattle.fare_scheme.specs.Values.{SchemeValue}
use Rattle.fare_store.specs.declared.fault.ForgetFault.{ForgetFault}
use Rattle.fare_store.specs.declared.fault.ForgetFault.TheVariants.{UnknownDevice, NotClosed}
use Rattle.fare_store.specs.Tables.{put}
use Rattle.fare_store.specs.OutboxWords.{OutboxValue, behind}
use Rattle.fare_store.specs.LedgerWords.{LedgerValue, is_closed, with_close, close_of, with_retired, blank, let_go, front, stated_from, forget_judged, forgotten}
use Rattle.fare_world.specs.Headline.{IsPrefixOf}
use Rattle.fare_world.specs.Knowing.{knows_owner}
use Rattle.fare_world.proofs.Lanes.{closed_more}
use Rattle.fare_world.proofs.Places.{slice_get-end}
use Rattle.fare_store.proofs.Entries.{put_all, put_both, put_here, is_one}
use Rattle.fare_history.specs.Serving.{Cursors, IsComingRow, AreNextItems, moved_by, given, given_all, pruned_to, pruned_to_all}
use Rattle.fare_history.specs.Stores.{StoresValue}
use Rattle.fare_agreement.specs.Agreeing.{AreNumberedLists, had, AreRowsOf, AreCountsOf, LaneAgrees, lane_agrees, IsStranger, Agrees}
use Rattle.fare_agreement.specs.Growing.{IsKept, LedgerGrew, LedgerLasts}
use Rattle.fare_agreement.specs.Stopping.{IsTaken, IsTakenStill}
use Rattle.fare_agreement.proofs.LaneSteps.{lane_next, lane_took, lane_stated, lane_pruned, lane_closed, lane_retired, lane_forgotten, close_right}
use Rattle.fare_agreement.proofs.LettingGo.{held_kept}
use Rattle.fare_agreement.proofs.Numbers.{lanes_count}
use Rattle.fare_agreement.proofs.Prefixes.{prefix_self, prefix_trans, prefix_more, prefix_at, part_front}

-- LEDGERS THAT GREW
pub ledger_self : (l : LedgerValue) → LedgerGrew l l
ledger_self l = record { owner = refl; start = refl; knows = λ d. refl; taken = λ d. prefix_self (l.taken d); stated = λ d day c e. e; closed = λ d. omega arith; retired = λ d e. e; from = λ d. refl }

pub ledger_trans : (l m n : LedgerValue) → LedgerGrew l m → LedgerGrew m n → LedgerGrew l n
ledger_trans l m n p q = record {
  owner = q.owner ∙ p.owner;
  start = q.start ∙ p.start;
  knows = λ d. q.knows d ∙ p.knows d;
  taken = λ d. prefix_trans (l.taken d) (m.taken d) (n.taken d) (p.taken d) (q.taken d);
  stated = λ d day c e. q.stated d day c (p.stated d day c e);
  closed = λ d. omega (arith, p.closed d, q.closed d);
  retired = λ d e. q.retired d (p.retired d e);
  from = λ d. q.from d ∙ p.from d;
}

-- what was taken stays taken
pub taken_still : (l m : LedgerValue) → LedgerGrew l m → (i : Item) → IsTaken l i → IsTaken m i
taken_still l m grew (item.Tap r) is = prefix_at (l.taken r.device) (m.taken r.device) (r.lane - 1) r (grew.taken r.device) is
taken_still l m grew (item.Stated v) is = grew.stated v.device v.day v.count is

-- OR WAS LET GO
-- what was kept is kept on
kept_on : (taken more : List RecordValue) (from later : ℕ) (k : ℕ) (r : RecordValue) → from ≤ later → ((q : RecordValue) → slice_get taken k ≡ Some q → IsKept more later k q) → IsKept taken from k r → IsKept more later k r
kept_on taken more from later k r le still (inl e) = still r e
kept_on taken more from later k r le still (inr e) = inr (blanks (still blank e.0), omega (arith, e.1, le))
  where
    blanks : IsKept more later k blank → slice_get more k ≡ Some blank
    blanks (inl e) = e
    blanks (inr e) = e.0

pub ledger_lasts : (l m : LedgerValue) → LedgerGrew l m → LedgerLasts l m
ledger_lasts l m p = record {
  owner = p.owner;
  start = p.start;
  knows = p.knows;
  taken = λ d k r e. inl (prefix_at (l.taken d) (m.taken d) k r (p.taken d) e);
  stated = λ d day c e. inl (p.stated d day c e);
  closed = p.closed;
  retired = p.retired;
  from = λ d. omega (arith, p.from d);
}

pub lasts_trans : (l m n : LedgerValue) → LedgerLasts l m → LedgerLasts m n → LedgerLasts l n
lasts_trans l m n p q = record {
  owner = q.owner ∙ p.owner;
  start = q.start ∙ p.start;
  knows = λ d. q.knows d ∙ p.knows d;
  taken = λ d k r e. kept_on (m.taken d) (n.taken d) (m.from d) (n.from d) k r (q.from d) (q.taken d k) (p.taken d k r e);
  stated = λ d day c e. elim (p.stated d day c e) [
    | inl f ↦ q.stated d day c f
    | inr f ↦ inr (omega (arith, f, q.from d))
  ];
  closed = λ d. omega (arith, p.closed d, q.closed d);
  retired = λ d e. q.retired d (p.retired d e);
  from = λ d. omega (arith, p.from d, q.from d);
}

pub taken_lasts : (l m : LedgerValue) → LedgerLasts l m → (i : Item) → IsTakenStill l i → IsTakenStill m i
taken_lasts l m last (item.Tap r) is = kept_on (l.taken r.device) (m.taken r.device) (l.from r.device) (m.from r.device) (r.lane - 1) r (last.from r.device) (last.taken r.device (r.lane - 1)) is
taken_lasts l m last (item.Stated v) (inl is) = last.stated v.device v.day v.count is
taken_lasts l m last (item.Stated v) (inr is) = inr (omega (arith, is, last.from v.device))

pub taken_is_still : (l : LedgerValue) (i : Item) → IsTaken l i → IsTakenStill l i
taken_is_still l (item.Tap r) is = inl is
taken_is_still l (item.Stated v) is = inl is

module _ (lists : ℕ → List RecordValue) (owner : ℕ) (x : OutboxValue) (counts : (d : ℕ) → AreCountsOf (part owner (lists d)) (x.stated owner d)) where
  abbrev pub Lanes : LedgerValue → Type 0
  Lanes l = (d : ℕ) → lane_agrees lists x l owner d

  abbrev pub IsAsFar : Cursors → LedgerValue → Type 0
  IsAsFar c l = (d : ℕ) → c.lane d ≡ length (l.taken d)

  -- what an item makes of the ledger
  pub record Takes (l : LedgerValue) (c : Cursors) (i : Item) : Type 0 where
    pub agrees : Lanes (given l i)
    pub far : IsAsFar (moved_by c i) (given l i)
    pub grew : LedgerGrew l (given l i)
    pub kept : IsTaken (given l i) i

  tap_taken : (l : LedgerValue) (c : Cursors) (r : RecordValue) → Lanes l → IsAsFar c l → IsComingRow owner x c r → Takes l c (item.Tap r)
  tap_taken l c r is far coming = record {
    agrees = put_all (λ d (t : List RecordValue). LaneAgrees (part owner (lists d)) (had lists x owner d) (x.rows owner d) t (l.stated d) (is_closed l d) (l.from d) (l.start + l.closed d) (l.retired d)) l.taken r.device (l.taken r.device ++ r ∷ []) is
        (lane_took _ _ _ _ _ _ _ _ _ (is r.device) r (part_front owner (x.upto r.device) (lists r.device)) next);
    far = put_both (λ d (n : ℕ) (t : List RecordValue). n ≡ length t) c.lane l.taken r.device r.lane (l.taken r.device ++ r ∷ []) far (omega (arith, lane, length-append (l.taken r.device) (r ∷ [])));
    grew = record {
      owner = refl;
      start = refl;
      knows = λ d. refl;
      taken = put_all (λ d (t : List RecordValue). IsPrefixOf (l.taken d) t) l.taken r.device (l.taken r.device ++ r ∷ []) (λ d. prefix_self (l.taken d)) (prefix_more (l.taken r.device) (r ∷ []));
      stated = λ d day k e. e;
      closed = λ d. omega arith;
      retired = λ d e. e;
      from = λ d. refl;
    };
    kept = ap (λ t. slice_get t (r.lane - 1)) (put_here l.taken r.device (l.taken r.device ++ r ∷ [])) ∙ ap (slice_get (l.taken r.device ++ r ∷ [])) place ∙ slice_get-end (l.taken r.device) r;
  }
    where
      lane : r.lane ≡ length (l.taken r.device) + 1
      lane = coming.lane ∙ ap (λ n. n + 1) (far r.device)

      place : r.lane - 1 ≡ length (l.taken r.device)
      place = omega (arith, lane)

      next : slice_get (had lists x owner r.device) (length (l.taken r.device)) ≡ Some r
      next = lane_next _ _ _ _ _ _ _ _ _ (is r.device) r (c.lane r.device + 1) (ap (λ n. n + 1) (far r.device)) coming.held

  statement_taken : (l : LedgerValue) (c : Cursors) (v : StatementValue) → Lanes l → IsAsFar c l → x.stated owner v.device v.day ≡ Some v.count → Takes l c (item.Stated v)
  statement_taken l c v is far held = record {
    agrees = put_all (λ d (s : ℕ → Option ℕ). LaneAgrees (part owner (lists d)) (had lists x owner d) (x.rows owner d) (l.taken d) s (is_closed l d) (l.from d) (l.start + l.closed d) (l.retired d)) l.stated v.device (put (l.stated v.device) v.day (Some v.count)) is
        (lane_stated _ _ _ _ _ _ _ _ _ (is v.device) v.day v.count right);
    far = far;
    grew = record {
      owner = refl;
      start = refl;
      knows = λ d. refl;
      taken = λ d. prefix_self (l.taken d);
      stated = put_all (λ d (s : ℕ → Option ℕ). (day k : ℕ) → l.stated d day ≡ Some k → s day ≡ Some k) l.stated v.device (put (l.stated v.device) v.day (Some v.count)) (λ d day k e. e)
          (put_all (λ day (o : Option ℕ). (k : ℕ) → l.stated v.device day ≡ Some k → o ≡ Some k) (l.stated v.device) v.day (Some v.count) (λ day k e. e) (λ k e. ap Some (right ∙ sym ((is v.device).stated_are.counted v.day k e))));
      closed = λ d. omega arith;
      retired = λ d e. e;
      from = λ d. refl;
    };
    kept = (λ i. put_here l.stated v.device (put (l.stated v.device) v.day (Some v.count)) i v.day) ∙ put_here (l.stated v.device) v.day (Some v.count);
  }
    where
      right : v.count ≡ day_count (part owner (lists v.device)) v.day
      right = (counts v.device).counted v.day v.count held

  pub item_taken : (l : LedgerValue) (c : Cursors) (i : Item) (is : List Item) → Lanes l → IsAsFar c l → AreNextItems owner x c (i ∷ is) → Takes l c i
  item_taken l c (item.Tap r) is agrees far next = tap_taken l c r agrees far next.0
  item_taken l c (item.Stated v) is agrees far next = statement_taken l c v agrees far next.0.held

  -- ALL ITEMS
  pub record TakesAll (l : LedgerValue) (items : List Item) : Type 0 where
    pub agrees : (d : ℕ) → lane_agrees lists x (given_all l items) owner d
    pub grew : LedgerGrew l (given_all l items)
    pub kept : AllByRecursion (IsTaken (given_all l items)) items

  pub items_taken : (l : LedgerValue) (c : Cursors) (items : List Item) → ((d : ℕ) → lane_agrees lists x l owner d) → ((d : ℕ) → c.lane d ≡ length (l.taken d)) → AreNextItems owner x c items → TakesAll l items
  items_taken l c [] is far next = record { agrees = is; grew = ledger_self l; kept = tt }
  items_taken l c (i ∷ items) is far next =
      let one = item_taken l c i items is far next in
      let more = items_taken (given l i) (moved_by c i) items one.agrees one.far next.1 in
      record { agrees = more.agrees; grew = ledger_trans l (given l i) (given_all (given l i) items) one.grew more.grew; kept = (taken_still (given l i) (given_all (given l i) items) more.grew i one.kept, more.kept) }

-- PRUNES
module _ (sc : SchemeValue) (lists : ℕ → List RecordValue) (ls : ℕ → LedgerValue) (owner : ℕ) (registered : knows_owner sc owner ≡ true) where
  abbrev outbox_with : OutboxValue → StoresValue
  outbox_with x = record { outbox = x; ledgers = ls }

  one_pruned : (x : OutboxValue) (device : ℕ) → Agrees sc lists (outbox_with x) → Agrees sc lists (outbox_with (pruned_to x owner (ls owner) device))
  one_pruned x device is = record {
    lanes = λ o d known. put_all (λ o (f : ℕ → ℕ → Option RecordValue). knows_owner sc o ≡ true → (d : ℕ) → LaneAgrees (part o (lists d)) (had lists x o d) (f d) ((ls o).taken d) ((ls o).stated d) (is_closed (ls o) d) ((ls o).from d) ((ls o).start + (ls o).closed d) ((ls o).retired d)) x.rows owner
        (put (x.rows owner) device (behind (length ((ls owner).taken device)) (x.rows owner device)))
        (λ o known d. is.lanes o d known)
        (λ known. put_all (λ d (f : ℕ → Option RecordValue). LaneAgrees (part owner (lists d)) (had lists x owner d) f ((ls owner).taken d) ((ls owner).stated d) (is_closed (ls owner) d) ((ls owner).from d) ((ls owner).start + (ls owner).closed d) ((ls owner).retired d)) (x.rows owner) device (behind (length ((ls owner).taken device)) (x.rows owner device))
        (λ d. is.lanes owner d known) (lane_pruned _ _ _ _ _ _ _ _ _ (is.lanes owner device known)))
        o known d;
    stated = is.stated;
    untaken = is.untaken;
    waiting = λ o d stranger. put_all (λ o (f : ℕ → ℕ → Option RecordValue). IsStranger sc o → (d : ℕ) → AreRowsOf (had lists x o d) 0 (f d)) x.rows owner
        (put (x.rows owner) device (behind (length ((ls owner).taken device)) (x.rows owner device)))
        (λ o stranger d. is.waiting o d stranger)
        (λ stranger. absurd (let both : true ≡ false = sym registered ∙ stranger.unknown in cc))
        o stranger d;
  }

  pub all_pruned : (x : OutboxValue) (devices : List ℕ) → Agrees sc lists (record { outbox = x; ledgers = ls }) → Agrees sc lists (record { outbox = pruned_to_all x owner (ls owner) devices; ledgers = ls })
  all_pruned x [] is = is
  all_pruned x (d ∷ ds) is = all_pruned (pruned_to x owner (ls owner) d) ds (one_pruned x d is)

-- A CLOSE
module _ (lists : ℕ → List RecordValue) (owner : ℕ) (x : OutboxValue) (l : LedgerValue) (is : (d : ℕ) → lane_agrees lists x l owner d) (device day : ℕ) (judged : close_of l device day ≡ Ok tt) (dated : IsDay day) where
  pub closes : (d : ℕ) → lane_agrees lists x (with_close device l) owner d
  closes = put_all (λ d (n : ℕ). LaneAgrees (part owner (lists d)) (had lists x owner d) (x.rows owner d) (l.taken d) (l.stated d) (λ j. nat_le l.start j && nat_lt j (l.start + n)) (l.from d) (l.start + n) (l.retired d)) l.closed device (l.closed device + 1) is
      (subst (λ n. LaneAgrees (part owner (lists device)) (had lists x owner device) (x.rows owner device) (l.taken device) (l.stated device) (λ j. nat_le l.start j && nat_lt j (l.start + (l.closed device + 1))) (l.from device) n (l.retired device)) last
      (lane_closed _ _ _ _ _ _ _ _ _ (is device) (λ j. nat_le l.start j && nat_lt j (l.start + (l.closed device + 1))) right.2 (subst IsDay next dated) (subst (λ j. l.stated device j ≡ Some (day_count (l.taken device) j)) next right.0) each))
    where
      right : (l.stated device day ≡ Some (day_count (l.taken device) day)) × ((day == l.start + l.closed device) ≡ true) × (l.retired device ≡ false)
      right = close_right (l.stated device day) (is_closed l device day) (day == l.start + l.closed device) (day_count (l.taken device) day) (l.retired device) judged

      next : day ≡ l.start + l.closed device
      next = is_one day (l.start + l.closed device) right.1

      last : l.start + l.closed device + 1 ≡ l.start + (l.closed device + 1)
      last = omega arith

      each : (j : ℕ) → (nat_le l.start j && nat_lt j (l.start + (l.closed device + 1))) ≡ true → (is_closed l device j ≡ true) ⊎ (j ≡ l.start + l.closed device)
      each j shut = by (j == l.start + l.closed device) refl
        where
          by : (b : Bool) → (j == l.start + l.closed device) ≡ b → (is_closed l device j ≡ true) ⊎ (j ≡ l.start + l.closed device)
          by true e = inr (is_one j (l.start + l.closed device) e)
          by false e = inl (closed_more l.start (l.closed device) j shut e)

  pub close_grows : LedgerGrew l (with_close device l)
  close_grows = record {
    owner = refl;
    start = refl;
    knows = λ d. refl;
    taken = λ d. prefix_self (l.taken d);
    stated = λ d day c e. e;
    closed = put_all (λ d n. l.closed d ≤ n) l.closed device (l.closed device + 1) (λ d. omega arith) (omega arith);
    retired = λ d e. e;
    from = λ d. refl;
  }

-- A LANE IS RETIRED
pub retire_agrees : (lists : ℕ → List RecordValue) (owner : ℕ) (x : OutboxValue) (l : LedgerValue) (device : ℕ) → ((d : ℕ) → lane_agrees lists x l owner d) → (d : ℕ) → lane_agrees lists x (with_retired device l) owner d
retire_agrees lists owner x l device is = put_all (λ d (b : Bool). LaneAgrees (part owner (lists d)) (had lists x owner d) (x.rows owner d) (l.taken d) (l.stated d) (is_closed l d) (l.from d) (l.start + l.closed d) b) l.retired device true is (lane_retired _ _ _ _ _ _ _ _ _ (is device))

pub retire_grows : (l : LedgerValue) (device : ℕ) → LedgerGrew l (with_retired device l)
retire_grows l device = record {
  owner = refl;
  start = refl;
  knows = λ d. refl;
  taken = λ d. prefix_self (l.taken d);
  stated = λ d day c e. e;
  closed = λ d. omega arith;
  from = λ d. refl;
  retired = put_all (λ d b. l.retired d ≡ true → b ≡ true) l.retired device true (λ d e. e) (λ e. refl);
}

-- LETTING GO
module _ (sc : SchemeValue) (lists : ℕ → List RecordValue) (numbered : AreNumberedLists lists) (owner : ℕ) (x : OutboxValue) (l : LedgerValue) (is : (d : ℕ) → lane_agrees lists x l owner d) (device day : ℕ) (judged : forget_judged l device day ≡ Ok tt) where
  -- the days before it are closed, where the lane is not retired
  closed_before : l.retired device ≡ false → day ≤ l.start + l.closed device
  closed_before working = by (l.knows device) (nat_lt (l.start + l.closed device) day) refl (ap (λ c. if◌then◌else◌ {A = Result Unit ForgetFault} (not (l.knows device)) (Err UnknownDevice) (if◌then◌else◌ {A = Result Unit ForgetFault} (not c && nat_lt (l.start + l.closed device) day) (Err NotClosed) (Ok tt))) (sym working) ∙ judged)
    where
      by : (a b : Bool) → nat_lt (l.start + l.closed device) day ≡ b → ◌≡◌ {A = Result Unit ForgetFault} (if not a then Err UnknownDevice else (if b then Err NotClosed else Ok tt)) (Ok tt) → day ≤ l.start + l.closed device
      by false b e f = absurd (cc)
      by true true e f = absurd (cc)
      by true false e f = grind (arith, nat_tests)

  -- each lane number is at least 1
  from_one : (k : ℕ) (r : RecordValue) → slice_get (had lists x owner device) k ≡ Some r → 1 ≤ r.lane
  from_one k r at = omega (arith, lanes_count device (lists device) (numbered.numbered device) owner (x.upto device) k r at)

  taken_numbered : (k : ℕ) (r : RecordValue) → slice_get (is device).all k ≡ Some r → 1 ≤ r.lane
  taken_numbered k r at = from_one k r (prefix_at (is device).all (had lists x owner device) k r (is device).all_are at)

  abbrev gone_on : List RecordValue
  gone_on = let_go (front day (l.taken device)) (l.taken device)

  pub forgets : (d : ℕ) → lane_agrees lists x (forgotten device day l) owner d
  forgets d = by (d == device) refl
    where
      by : (b : Bool) → (d == device) ≡ b
          → LaneAgrees (part owner (lists d)) (had lists x owner d) (x.rows owner d) (if b then gone_on else l.taken d) (if b then stated_from day (l.stated device) else l.stated d) (is_closed l d) (if b then max (l.from device) day else l.from d) (l.start + l.closed d) (l.retired d)
      by true e = subst (λ j. LaneAgrees (part owner (lists j)) (had lists x owner j) (x.rows owner j) gone_on (stated_from day (l.stated device)) (is_closed l j) (max (l.from device) day) (l.start + l.closed j) (l.retired j)) (sym (is_one d device e)) (lane_forgotten _ _ _ _ _ _ _ _ _ (is device) day from_one closed_before)
      by false e = is d

  pub forget_lasts : LedgerLasts l (forgotten device day l)
  forget_lasts = record { owner = refl; start = refl; knows = λ d. refl; retired = λ d e. e; taken = λ d. taken d (d == device) refl; stated = λ d. stated d (d == device) refl; closed = λ d. omega arith; from = put_all (λ d n. l.from d ≤ n) l.from device (max (l.from device) day) (λ d. omega arith) (omega arith) }
    where
      taken : (d : ℕ) (b : Bool) → (d == device) ≡ b → (k : ℕ) (r : RecordValue) → slice_get (l.taken d) k ≡ Some r → IsKept (if b then gone_on else l.taken d) (if b then max (l.from device) day else l.from d) k r
      taken d true e k r at = held_kept (is device).all (l.from device) (l.start + l.closed device) (l.retired device) (l.taken device) (is device).taken_are day closed_before taken_numbered k r (ap (λ j. slice_get (l.taken j) k) (sym (is_one d device e)) ∙ at)
      taken d false e k r at = inl at

      stated : (d : ℕ) (b : Bool) → (d == device) ≡ b → (e c : ℕ) → l.stated d e ≡ Some c → ((if b then stated_from day (l.stated device) else l.stated d) e ≡ Some c) ⊎ (e < (if b then max (l.from device) day else l.from d))
      stated d true is_d e c at = at_day (nat_lt e day) refl
        where
          at_day : (t : Bool) → nat_lt e day ≡ t → ((if t then None else l.stated device e) ≡ Some c) ⊎ (e < max (l.from device) day)
          at_day true h = let less : e < day = grind (arith, nat_tests) in inr (omega (arith, less))
          at_day false h = inl (ap (λ j. l.stated j e) (sym (is_one d device is_d)) ∙ at)
      stated d false is_d e c at = inl at

  pub forgot_from : day ≤ (forgotten device day l).from device
  forgot_from = subst (λ n. day ≤ n) (sym (put_here l.from device (max (l.from device) day))) (omega arith)
