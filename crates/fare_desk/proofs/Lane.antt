-- The closes of one lane.
use Rattle.std.proofs.Common.{◌≡◌, ◌≢◌, ◌⊎◌, inl, inr, ℕ, zero, suc, ◌+◌, ◌<◌, ◌≤◌, List, [], ◌∷◌, ◌++◌, Some, None, Bool, true, false, refl, sym, ap, ◌∙◌, subst, arith, add_assoc, add-zero, append-nil}
use Rattle.std.specs.Prelude.{◌==◌, ◌&&◌, nat_le, nat_lt, Option, is_some, IfSome, Result, Ok, Err, if◌then◌else◌}
use Rattle.std.specs.Io.KnownBytes.{Appends}
use Rattle.std.proofs.KnownBytes.{Appends-nil, Appends-trans}
use Rattle.std.proofs.lemmas.Bool.Decides.{nat_tests}
use Rattle.fare_record.specs.Limits.{IsDay}
use Rattle.fare_owner.specs.declared.closing.CloseFault.{CloseFault}
use Rattle.fare_owner.specs.declared.closing.CloseFault.TheVariants as close
use Rattle.fare_owner.specs.CloseJudged.{close_judged}
use Rattle.fare_event.specs.declared.reply.Refusal.{Refusal}
use Rattle.fare_event.specs.declared.reply.Refusal.TheVariants as refusal
use Rattle.fare_event.specs.declared.reply.Reply.TheVariants as reply
use Rattle.fare_store.specs.Standing.{Standing}
use Rattle.fare_store.specs.Tables.{put}
use Rattle.fare_store.specs.OutboxWords.{OutboxValue}
use Rattle.fare_store.specs.LedgerWords.{LedgerValue, close_of, is_closed}
use Rattle.fare_history.specs.Stores.{StoresValue}
use Rattle.fare_store.proofs.Entries.{put_here, is_self}
use Rattle.fare_sessions.specs.declared.hub.Hub.{Hub}
use Rattle.fare_sessions.specs.Billing.{IsToClose, OnlyReads, first_unclosed, stated_of}
use Rattle.fare_sessions.specs.Stores.{AreClean, AreSound, MayStandAs}
use Rattle.fare_sessions.proofs.Billed.{put_self}
use Rattle.fare_sessions.proofs.Follow.{clean_back}
use Rattle.fare_sessions.proofs.NextClose.{there_is_none}
use Rattle.fare_desk.specs.Closing.{AreLinesOf, AreTries, CanClose, ClosesLane, ClosesLanes, IsDayBehind, GoesOn, HasAnswered, HasClosedLanes, IsMet, close_refusal, closed_lines, counted, unclosed_day, lane_lines, last_line, miscounted, try_line, with_closes, with_lane}
use Rattle.fare_desk.specs.Showing.{OnlyAsks}
use Rattle.fare_desk.proofs.Going.{goes_asks, goes_read, goes_join}

-- ONE CLOSE
stated_is : (v : LedgerValue) (device day c : ℕ) → stated_of v device day ≡ Some c → v.stated device day ≡ Some c
stated_is v device day c e = by (nat_le day 100000) refl
  where
    by : (b : Bool) → nat_le day 100000 ≡ b → v.stated device day ≡ Some c
    by true is = sym (ap (λ (b : Bool). if b then v.stated device day else None) is) ∙ e
    by false is = let both : ◌≡◌ {A = Option ℕ} None (Some c) = sym (ap (λ (b : Bool). if b then v.stated device day else None) is) ∙ e in absurd (cc)

not_closed : (v : LedgerValue) (device day : ℕ) → day ≡ first_unclosed v device → is_closed v device day ≡ false
not_closed v device day e = by (nat_le v.start day)
  where
    late : nat_lt day (v.start + v.closed device) ≡ false
    late = grind (arith, e, nat_tests)

    by : (b : Bool) → (b && nat_lt day (v.start + v.closed device)) ≡ false
    by true = late
    by false = refl

-- how a close of the first day that is not closed is judged, by the count that is stated
abbrev pub judged_by : ℕ → ℕ → Result Unit CloseFault
judged_by stated taken = if nat_lt taken stated then Err (close.CountsShort stated taken) else (if nat_lt stated taken then Err (close.CountsOver stated taken) else Ok tt)

pub judged_is : (v : LedgerValue) (device day c : ℕ) → v.retired device ≡ false → stated_of v device day ≡ Some c → day ≡ first_unclosed v device → close_of v device day ≡ judged_by c (counted v device day)
judged_is v device day c unretired stated first =
    ap (λ (b : Bool). close_judged (v.stated device day) (is_closed v device day) (day == v.start + v.closed device) (counted v device day) b) unretired
    ∙ (ap (λ (o : Option ℕ). close_judged o (is_closed v device day) (day == v.start + v.closed device) (counted v device day) false) (stated_is v device day c stated)
    ∙ (ap (λ (b : Bool). close_judged (Some c) b (day == v.start + v.closed device) (counted v device day) false) (not_closed v device day first)
    ∙ ap (λ (b : Bool). close_judged (Some c) false b (counted v device day) false) (ap (λ n. day == n) (sym first) ∙ is_self day)))

judged_ok : (c t : ℕ) → judged_by c t ≡ Ok tt → c ≡ t
judged_ok c t e = by (nat_lt t c) refl (nat_lt c t) refl
  where
    by : (a : Bool) → nat_lt t c ≡ a → (b : Bool) → nat_lt c t ≡ b → c ≡ t
    by true is b other = let both : ◌≡◌ {A = Result Unit CloseFault} (Err (close.CountsShort c t)) (Ok tt) = sym (ap (λ (x : Bool). if x then Err (close.CountsShort c t) else (if nat_lt c t then Err (close.CountsOver c t) else Ok tt)) is) ∙ e in absurd (cc)
    by false is true other = let both : ◌≡◌ {A = Result Unit CloseFault} (Err (close.CountsOver c t)) (Ok tt) = sym (ap (λ (x : Bool). if x then Err (close.CountsShort c t) else (if nat_lt c t then Err (close.CountsOver c t) else Ok tt)) is ∙ ap (λ (x : Bool). if x then Err (close.CountsOver c t) else Ok tt) other) ∙ e in absurd (cc)
    by false is false other = grind (arith, is, other, nat_tests)

judged_err : (c t : ℕ) (why : CloseFault) → judged_by c t ≡ Err why → (close_refusal why ≡ miscounted c t) × (c ≢ t)
judged_err c t why e = by (nat_lt t c) refl (nat_lt c t) refl
  where
    by : (a : Bool) → nat_lt t c ≡ a → (b : Bool) → nat_lt c t ≡ b → (close_refusal why ≡ miscounted c t) × (c ≢ t)
    by true is b other =
        let short : ◌≡◌ {A = Result Unit CloseFault} (Err (close.CountsShort c t)) (Err why) = sym (ap (λ (x : Bool). if x then Err (close.CountsShort c t) else (if nat_lt c t then Err (close.CountsOver c t) else Ok tt)) is) ∙ e in
        let named : close.CountsShort c t ≡ why = cc in
        (sym (ap close_refusal named) ∙ sym (ap (λ (x : Bool). if x then refusal.CountsShort c t else refusal.CountsOver c t) is), λ same. apart same is)
      where
        apart : c ≡ t → nat_lt t c ≡ true → ⊥
        apart same is = grind (arith, same, is, nat_tests)
    by false is true other =
        let over : ◌≡◌ {A = Result Unit CloseFault} (Err (close.CountsOver c t)) (Err why) = sym (ap (λ (x : Bool). if x then Err (close.CountsShort c t) else (if nat_lt c t then Err (close.CountsOver c t) else Ok tt)) is ∙ ap (λ (x : Bool). if x then Err (close.CountsOver c t) else Ok tt) other) ∙ e in
        let named : close.CountsOver c t ≡ why = cc in
        (sym (ap close_refusal named) ∙ sym (ap (λ (x : Bool). if x then refusal.CountsShort c t else refusal.CountsOver c t) is), λ same. apart same other)
      where
        apart : c ≡ t → nat_lt c t ≡ true → ⊥
        apart same is = grind (arith, same, is, nat_tests)
    by false is false other =
        let both : ◌≡◌ {A = Result Unit CloseFault} (Ok tt) (Err why) = sym (ap (λ (x : Bool). if x then Err (close.CountsShort c t) else (if nat_lt c t then Err (close.CountsOver c t) else Ok tt)) is ∙ ap (λ (x : Bool). if x then Err (close.CountsOver c t) else Ok tt) other) ∙ e in
        absurd (cc)

-- SO MANY CLOSES
put_put : {A : Type 0} (f : ℕ → A) (k : ℕ) (a b : A) → put (put f k a) k b ≡ put f k b
put_put f k a b = λ i j. by j (j == k) i
  where
    by : (j : ℕ) (c : Bool) → (if c then b else (if c then a else f j)) ≡ (if c then b else f j)
    by j true = refl
    by j false = refl

closes_none : (device : ℕ) (v : LedgerValue) → with_closes device 0 v ≡ v
closes_none device v =
    let n : v.closed device + 0 ≡ v.closed device = omega arith in
    let same : put v.closed device (v.closed device + 0) ≡ v.closed = ap (put v.closed device) n ∙ put_self v.closed device in
    λ i. record v { closed = same i }

closes_more : (device n : ℕ) (v : LedgerValue) → with_closes device 1 (with_closes device n v) ≡ with_closes device (suc n) v
closes_more device n v =
    let count : put v.closed device (v.closed device + n) device + 1 ≡ v.closed device + suc n = ap (λ (m : ℕ). m + 1) (put_here v.closed device (v.closed device + n)) ∙ omega arith in
    let same : put (put v.closed device (v.closed device + n)) device (put v.closed device (v.closed device + n) device + 1) ≡ put v.closed device (v.closed device + suc n) =
    put_put v.closed device (v.closed device + n) (put v.closed device (v.closed device + n) device + 1) ∙ ap (put v.closed device) count in
    λ i. record v { closed = same i }

lane_none : (owner device : ℕ) (h : StoresValue) → with_lane owner device 0 h ≡ h
lane_none owner device h =
    let same : put h.ledgers owner (with_closes device 0 (h.ledgers owner)) ≡ h.ledgers = ap (put h.ledgers owner) (closes_none device (h.ledgers owner)) ∙ put_self h.ledgers owner in
    λ i. record { outbox = h.outbox; ledgers = same i }

lane_owner : (owner device n : ℕ) (h : StoresValue) → (with_lane owner device n h).ledgers owner ≡ with_closes device n (h.ledgers owner)
lane_owner owner device n h = put_here h.ledgers owner (with_closes device n (h.ledgers owner))

lane_more : (owner device n : ℕ) (h : StoresValue) → with_lane owner device 1 (with_lane owner device n h) ≡ with_lane owner device (suc n) h
lane_more owner device n h =
    let own : with_closes device 1 ((with_lane owner device n h).ledgers owner) ≡ with_closes device (suc n) (h.ledgers owner) = ap (with_closes device 1) (lane_owner owner device n h) ∙ closes_more device n (h.ledgers owner) in
    let same : put (put h.ledgers owner (with_closes device n (h.ledgers owner))) owner (with_closes device 1 ((with_lane owner device n h).ledgers owner)) ≡ put h.ledgers owner (with_closes device (suc n) (h.ledgers owner)) =
    put_put h.ledgers owner (with_closes device n (h.ledgers owner)) (with_closes device 1 ((with_lane owner device n h).ledgers owner)) ∙ ap (put h.ledgers owner) own in
    λ i. record { outbox = h.outbox; ledgers = same i }

-- the first day that is not closed then
first_then : (owner device n : ℕ) (h m : StoresValue) → m ≡ with_lane owner device n h → first_unclosed (m.ledgers owner) device ≡ unclosed_day (h.ledgers owner) device n
first_then owner device n h m is =
    let v = h.ledgers owner in
    ap (λ (z : StoresValue). first_unclosed (z.ledgers owner) device) is
    ∙ (ap (λ (v : LedgerValue). first_unclosed v device) (lane_owner owner device n h)
    ∙ (ap (λ (c : ℕ). v.start + c) (put_here v.closed device (v.closed device + n)) ∙ sym (add_assoc v.start (v.closed device) n)))

stated_then : (owner device n : ℕ) (h m : StoresValue) → m ≡ with_lane owner device n h → (day : ℕ) → stated_of (m.ledgers owner) device day ≡ stated_of (h.ledgers owner) device day
stated_then owner device n h m is day = ap (λ (z : StoresValue). stated_of (z.ledgers owner) device day) is ∙ ap (λ (v : LedgerValue). stated_of v device day) (lane_owner owner device n h)

counted_then : (owner device n : ℕ) (h m : StoresValue) → m ≡ with_lane owner device n h → (day : ℕ) → counted (m.ledgers owner) device day ≡ counted (h.ledgers owner) device day
counted_then owner device n h m is day = ap (λ (z : StoresValue). counted (z.ledgers owner) device day) is ∙ ap (λ (v : LedgerValue). counted v device day) (lane_owner owner device n h)

retired_then : (owner device n : ℕ) (h m : StoresValue) → m ≡ with_lane owner device n h → (h.ledgers owner).retired device ≡ false → (m.ledgers owner).retired device ≡ false
retired_then owner device n h m is unretired = ap (λ (z : StoresValue). (z.ledgers owner).retired device) is ∙ (ap (λ (v : LedgerValue). v.retired device) (lane_owner owner device n h) ∙ unretired)

some_is : (o : Option ℕ) → is_some o ≡ true → (c : ℕ) × (o ≡ Some c)
some_is None e = absurd (cc)
some_is (Some c) e = (c, refl)

-- THE LOOP
-- there is a day behind the last
some_behind : (last : Option ℕ) → IfSome last IsDay → (day : ℕ) × IsDayBehind last day × (day ≤ 100001)
some_behind None dated = (0, tt, omega arith)
some_behind (Some last) dated = (last + 1, refl, omega (arith, dated))

module _ {O L : Type 0} (outbox : O → Standing OutboxValue) (ledger : L → Standing LedgerValue) (owner device : ℕ) where
  -- the lines of one lane
  one_lane : (text : List ℕ) → AreTries owner device text → AreLinesOf ((owner, device) ∷ []) text
  one_lane text tries = (text, [], tries, sym (append-nil text), refl)

  no_tries : AreTries owner device []
  no_tries = record { first = 0; closed = 0; refused = None; closed_dated = omega arith; refused_dated = tt; is = refl }

  -- what its closes make of the stores
  one_closed : (h k : StoresValue) (text : List ℕ) → ClosesLane owner device h text k → ClosesLanes ((owner, device) ∷ []) h text k
  one_closed h k text closes = (text, [], k, closes, sym (append-nil text), (refl, refl))

  not_both : {b : Bool} → b ≡ true → b ≡ false → ⊥
  not_both on off = let both : true ≡ false = sym on ∙ off in absurd (cc)

  closes_open : (h k : StoresValue) (text : List ℕ) (n : ℕ) → (h.ledgers owner).retired device ≡ false → CanClose (h.ledgers owner) device n → text ≡ lane_lines owner device (h.ledgers owner) n → k ≡ with_lane owner device n h → ClosesLane owner device h text k
  closes_open h k text n unretired can lines is = record { of_retired = λ on. absurd (not_both on unretired); of_other = λ off. (n, can, lines, is) }

  -- it is retired
  pub lane_passed : (old now : Hub O L) (before : Option (List ℕ)) → OnlyAsks outbox ledger old now → (AreClean outbox ledger now → AreSound outbox ledger old → (h : StoresValue) → MayStandAs outbox ledger old h → (h.ledgers owner).retired device ≡ true)
      → HasClosedLanes outbox ledger ((owner, device) ∷ []) old now before before
  lane_passed old now before asks told = record {
    text = [];
    written = Appends-nil before;
    lines = one_lane [] no_tries;
    came = λ clean sound k may.
        let was = asks.same clean sound k may in
        (k, was, one_closed k k [] (record { of_retired = λ on. (refl, refl); of_other = λ off. absurd (not_both (told clean sound k was) off) }));
  }

  -- so many days are closed
  pub record StandsLane (old now : Hub O L) (before after : Option (List ℕ)) (last : Option ℕ) (n : ℕ) : Type 0 where
    pub goes : GoesOn outbox ledger old now
    pub text : List ℕ
    pub written : Appends before after text
    pub dated : IfSome last IsDay
    pub in_row : (day : ℕ) → IsDayBehind last day → (first : ℕ) × (text ≡ closed_lines owner device first n) × (day ≡ first + n)
    pub came : AreClean outbox ledger now → AreSound outbox ledger old → (k : StoresValue) → MayStandAs outbox ledger now k
        → (h : StoresValue) × MayStandAs outbox ledger old h × (k ≡ with_lane owner device n h) × ((j : ℕ) → j < n → IsMet (h.ledgers owner) device (unclosed_day (h.ledgers owner) device j)) × (text ≡ closed_lines owner device (first_unclosed (h.ledgers owner) device) n) × ((h.ledgers owner).retired device ≡ false)
    pub behind : AreClean outbox ledger now → AreSound outbox ledger old → (k : StoresValue) → MayStandAs outbox ledger now k → IsDayBehind last (first_unclosed (k.ledgers owner) device)

  pub lane_begins : (old now : Hub O L) (before : Option (List ℕ)) → OnlyAsks outbox ledger old now → (AreClean outbox ledger now → AreSound outbox ledger old → (h : StoresValue) → MayStandAs outbox ledger old h → (h.ledgers owner).retired device ≡ false) → StandsLane old now before before None 0
  lane_begins old now before asks told = record {
    goes = goes_asks outbox ledger old now asks;
    text = [];
    written = Appends-nil before;
    dated = tt;
    in_row = λ day behind. (day, refl, sym (add-zero day));
    came = λ clean sound k may.
        let was = asks.same clean sound k may in
        (k, was, sym (lane_none owner device k), λ j lt. absurd (omega (arith, lt)), refl, told clean sound k was);
    behind = λ clean sound k may. tt;
  }

  -- the lines of the days that were closed
  all_closed : (old now : Hub O L) (before after : Option (List ℕ)) (last : Option ℕ) (n : ℕ) (s : StandsLane old now before after last n) → AreTries owner device s.text
  all_closed old now before after last n s =
      let day = some_behind last s.dated in
      let row = s.in_row day.0 day.1 in
      let there = row.2 in
      let within = day.2 in
      record { first = row.0; closed = n; refused = None; closed_dated = omega (arith, there, within); refused_dated = tt; is = row.1 ∙ sym (append-nil (closed_lines owner device row.0 n)) }

  module _ (old now mid : Hub O L) (before after : Option (List ℕ)) (last : Option ℕ) (n : ℕ) (s : StandsLane old now before after last n) (r : OnlyReads outbox ledger now mid) where
    pub goes_mid : GoesOn outbox ledger old mid
    goes_mid = goes_join outbox ledger old now mid s.goes (goes_read outbox ledger now mid r)

    -- what stood before the read
    earlier : AreClean outbox ledger mid → AreSound outbox ledger old → (m : StoresValue) → MayStandAs outbox ledger mid m
        → MayStandAs outbox ledger now m × ((h : StoresValue) × MayStandAs outbox ledger old h × (m ≡ with_lane owner device n h) × ((j : ℕ) → j < n → IsMet (h.ledgers owner) device (unclosed_day (h.ledgers owner) device j)) × (s.text ≡ closed_lines owner device (first_unclosed (h.ledgers owner) device) n) × ((h.ledgers owner).retired device ≡ false))
    earlier clean sound m may =
        let there = r.same clean (s.goes.sound sound) m may in
        (there, s.came (clean_back outbox ledger now mid r.follow clean) sound m there)

    -- the next day is the one behind the last that was closed, so that no close was lost
    pub none_lost : (day : ℕ) → (AreClean outbox ledger mid → AreSound outbox ledger now → (h : StoresValue) → MayStandAs outbox ledger now h → IsToClose (h.ledgers owner) device (Some day))
        → AreClean outbox ledger mid → AreSound outbox ledger old → (m : StoresValue) → MayStandAs outbox ledger mid m → IsDayBehind last day
    none_lost day told clean sound m may =
        let there = r.same clean (s.goes.sound sound) m may in
        subst (IsDayBehind last) (sym (told clean (s.goes.sound sound) m there).0) (s.behind (clean_back outbox ledger now mid r.follow clean) sound m there)

    -- no statement of the next day is held
    pub lane_ends : (AreClean outbox ledger mid → AreSound outbox ledger now → (h : StoresValue) → MayStandAs outbox ledger now h → IsToClose (h.ledgers owner) device None) → HasClosedLanes outbox ledger ((owner, device) ∷ []) old mid before after
    lane_ends told = record {
      text = s.text;
      written = s.written;
      lines = one_lane s.text (all_closed old now before after last n s);
      came = λ clean sound k may.
          let e = earlier clean sound k may in
          let h = e.1.0 in
          let v = h.ledgers owner in
          let none : stated_of v device (unclosed_day v device n) ≡ None =
          ap (stated_of v device) (sym (first_then owner device n h k e.1.2)) ∙ (sym (stated_then owner device n h k e.1.2 (first_unclosed (k.ledgers owner) device)) ∙ told clean (s.goes.sound sound) k e.0) in (
            h,
            e.1.1,
            one_closed h k s.text (closes_open h k s.text n e.1.5 (record { each = e.1.3; no_more = λ met. never none met })
                (e.1.4 ∙ (sym (append-nil (closed_lines owner device (first_unclosed v device) n)) ∙ ap (λ (o : Option ℕ). closed_lines owner device (first_unclosed v device) n ++ last_line owner device (unclosed_day v device n) o (counted v device (unclosed_day v device n))) (sym none)))
                e.1.2),
          );
    }
      where
        never : {o : Option ℕ} {c : ℕ} → o ≡ None → o ≡ Some c → ⊥
        never none some = let both : ◌≡◌ {A = Option ℕ} None (Some _) = sym none ∙ some in absurd (cc)

    module _ (next : Hub O L) (day : ℕ) (behind : IsDayBehind last day) (dated : IsDay day) (told : AreClean outbox ledger mid → AreSound outbox ledger now → (h : StoresValue) → MayStandAs outbox ledger now h → IsToClose (h.ledgers owner) device (Some day)) (g : GoesOn outbox ledger mid next) (ends : Option (List ℕ)) where
      pub goes_next : GoesOn outbox ledger old next
      goes_next = goes_join outbox ledger old mid next goes_mid g

      clean_mid : AreClean outbox ledger next → AreClean outbox ledger mid
      clean_mid clean = clean_back outbox ledger mid next g.follow clean

      sound_mid : AreSound outbox ledger old → AreSound outbox ledger mid
      sound_mid sound = r.sound (s.goes.sound sound)

      -- the day was closed
      pub lane_closed : HasAnswered outbox ledger owner device day mid next (Ok tt) → Appends after ends (try_line owner device day (reply.Closed device day)) → StandsLane old next before ends (Some day) (suc n)
      lane_closed a w = record {
        goes = goes_next;
        text = s.text ++ try_line owner device day (reply.Closed device day);
        written = Appends-trans before after ends s.text (try_line owner device day (reply.Closed device day)) s.written w;
        dated = dated;
        in_row = λ later after_it.
            let row = s.in_row day behind in (
              row.0,
              ap (λ (l : List ℕ). l ++ try_line owner device day (reply.Closed device day)) row.1 ∙ ap (λ (d : ℕ). closed_lines owner device row.0 n ++ try_line owner device d (reply.Closed device d)) row.2,
              after_it ∙ (ap (λ (d : ℕ). d + 1) row.2 ∙ omega arith),
            );
        came = λ clean sound k may.
            let c = a.came clean (sound_mid sound) k may in
            let m = c.0 in
            let e = earlier (clean_mid clean) sound m c.1 in
            let h = e.1.0 in
            let v = h.ledgers owner in
            let to = told (clean_mid clean) (s.goes.sound sound) m e.0 in
            let some = some_is (stated_of (m.ledgers owner) device day) to.1 in
            let unretired = retired_then owner device n h m e.1.2 e.1.5 in
            let met = judged_ok some.0 (counted (m.ledgers owner) device day) (sym (judged_is (m.ledgers owner) device day some.0 unretired some.1 to.0) ∙ c.2) in
            let here : day ≡ unclosed_day v device n = to.0 ∙ first_then owner device n h m e.1.2 in
            let is_met : IsMet v device (unclosed_day v device n) =
            subst (λ d. IsMet v device d) here (sym (stated_then owner device n h m e.1.2 day) ∙ (some.1 ∙ ap Some (met ∙ counted_then owner device n h m e.1.2 day))) in (
              h,
              e.1.1,
              c.3 ∙ (ap (with_lane owner device 1) e.1.2 ∙ lane_more owner device n h),
              λ j lt. elim (last_or_less j n lt) [
                | inl is ↦ subst (λ i. IsMet v device (unclosed_day v device i)) (sym is) is_met
                | inr less ↦ e.1.3 j less
              ],
              ap (λ l. l ++ try_line owner device day (reply.Closed device day)) e.1.4 ∙ ap (λ d. closed_lines owner device (first_unclosed v device) n ++ try_line owner device d (reply.Closed device d)) here,
              e.1.5,
            );
        behind = λ clean sound k may.
            let c = a.came clean (sound_mid sound) k may in
            let e = earlier (clean_mid clean) sound c.0 c.1 in
            first_then owner device 1 c.0 k c.3 ∙ ap (λ d. d + 1) (sym (told (clean_mid clean) (s.goes.sound sound) c.0 e.0).0);
      }
        where
          last_or_less : (j n : ℕ) → j < suc n → (j ≡ n) ⊎ (j < n)
          last_or_less zero zero lt = inl refl
          last_or_less zero (suc n) lt = inr (omega arith)
          last_or_less (suc j) zero lt = absurd (omega (arith, lt))
          last_or_less (suc j) (suc n) lt = elim (last_or_less j n (omega (arith, lt))) [
            | inl is ↦ inl (ap suc is)
            | inr less ↦ inr (omega (arith, less))
          ]

      -- it was refused
      pub lane_refused : (why : CloseFault) → HasAnswered outbox ledger owner device day mid next (Err why) → Appends after ends (try_line owner device day (reply.Refused (close_refusal why))) → HasClosedLanes outbox ledger ((owner, device) ∷ []) old next before ends
      lane_refused why a w = record {
        text = s.text ++ try_line owner device day (reply.Refused (close_refusal why));
        written = Appends-trans before after ends s.text (try_line owner device day (reply.Refused (close_refusal why))) s.written w;
        lines =
            let row = s.in_row day behind in
            let there = row.2 in
            one_lane (s.text ++ try_line owner device day (reply.Refused (close_refusal why))) (record {
              first = row.0;
              closed = n;
              refused = Some why;
              closed_dated = omega (arith, there, dated);
              refused_dated = omega (arith, there, dated);
              is = ap (λ (l : List ℕ). l ++ try_line owner device day (reply.Refused (close_refusal why))) row.1 ∙ ap (λ (d : ℕ). closed_lines owner device row.0 n ++ try_line owner device d (reply.Refused (close_refusal why))) row.2;
            });
        came = λ clean sound k may.
            let c = a.came clean (sound_mid sound) k may in
            let m = c.0 in
            let e = earlier (clean_mid clean) sound m c.1 in
            let h = e.1.0 in
            let v = h.ledgers owner in
            let to = told (clean_mid clean) (s.goes.sound sound) m e.0 in
            let some = some_is (stated_of (m.ledgers owner) device day) to.1 in
            let unretired = retired_then owner device n h m e.1.2 e.1.5 in
            let bad = judged_err some.0 (counted (m.ledgers owner) device day) why (sym (judged_is (m.ledgers owner) device day some.0 unretired some.1 to.0) ∙ c.2) in
            let here : day ≡ unclosed_day v device n = to.0 ∙ first_then owner device n h m e.1.2 in
            let count : counted (m.ledgers owner) device day ≡ counted v device (unclosed_day v device n) = counted_then owner device n h m e.1.2 day ∙ ap (counted v device) here in
            let held : stated_of v device (unclosed_day v device n) ≡ Some some.0 = ap (stated_of v device) (sym here) ∙ (sym (stated_then owner device n h m e.1.2 day) ∙ some.1) in
            let line : try_line owner device day (reply.Refused (close_refusal why)) ≡ last_line owner device (unclosed_day v device n) (stated_of v device (unclosed_day v device n)) (counted v device (unclosed_day v device n)) =
            ap (λ (q : Refusal). try_line owner device day (reply.Refused q)) (bad.0 ∙ ap (miscounted some.0) count)
            ∙ (ap (λ d. try_line owner device d (reply.Refused (miscounted some.0 (counted v device (unclosed_day v device n))))) here
            ∙ ap (λ (o : Option ℕ). last_line owner device (unclosed_day v device n) o (counted v device (unclosed_day v device n))) (sym held)) in (
              h,
              e.1.1,
              one_closed h k (s.text ++ try_line owner device day (reply.Refused (close_refusal why))) (closes_open h k (s.text ++ try_line owner device day (reply.Refused (close_refusal why))) n e.1.5 (record { each = e.1.3; no_more = λ met. bad.1 (same_some (sym held ∙ met) ∙ sym count) })
                  (ap (λ l. l ++ try_line owner device day (reply.Refused (close_refusal why))) e.1.4 ∙ ap (λ l. closed_lines owner device (first_unclosed v device) n ++ l) line)
                  (c.3 ∙ e.1.2)),
            );
      }
        where
          same_some : {a b : ℕ} → ◌≡◌ {A = Option ℕ} (Some a) (Some b) → a ≡ b
          same_some {a} {b} both = cc

  -- all days that there are were closed
  pub lane_spent : (old now : Hub O L) (before after : Option (List ℕ)) (last : Option ℕ) (n : ℕ) → 100001 ≤ n → StandsLane old now before after last n → HasClosedLanes outbox ledger ((owner, device) ∷ []) old now before after
  lane_spent old now before after last n le s = record {
    text = s.text;
    written = s.written;
    lines = one_lane s.text (all_closed old now before after last n s);
    came = λ clean sound k may.
        let e = s.came clean sound k may in
        let h = e.0 in
        let v = h.ledgers owner in
        let late : 100000 < unclosed_day v device n = omega (arith, le) in
        let none = there_is_none (v.stated device) (unclosed_day v device n) late in (
          h,
          e.1,
          one_closed h k s.text (closes_open h k s.text n e.5 (record { each = e.3; no_more = λ met. let both : ◌≡◌ {A = Option ℕ} None (Some (counted v device (unclosed_day v device n))) = sym none ∙ met in absurd (cc) })
              (e.4 ∙ (sym (append-nil (closed_lines owner device (first_unclosed v device) n)) ∙ ap (λ (o : Option ℕ). closed_lines owner device (first_unclosed v device) n ++ last_line owner device (unclosed_day v device n) o (counted v device (unclosed_day v device n))) (sym none)))
              e.2),
        );
  }
