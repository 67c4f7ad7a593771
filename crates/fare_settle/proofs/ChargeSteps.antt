-- One more tap of a list in order: what is charged, and what has been counted.
use Rattle.std.proofs.Common.{◌≡◌, ℕ, ◌+◌, ◌≤◌, Bool, true, false, cond, ◌&&◌, ◌==◌, List, [], ◌∷◌, ◌++◌, All, Some, sym, ◌∙◌, ap, arith}
use Rattle.std.specs.Prelude.{if◌then◌else◌}
use Rattle.std.proofs.lemmas.Bool.{and_parts}
use Rattle.std.proofs.lemmas.List.{append_assoc, append-nil}
use Rattle.std.proofs.lemmas.List.Elements.{filter-append, All-push}
use Rattle.fare_record.specs.Values.{RecordValue}
use Rattle.fare_scheme.specs.Values.{SchemeValue}
use Rattle.fare_cap.specs.Values.{AccountValue}
use Rattle.fare_cap.specs.Accounts.{account_of, same_account, counts, counted_on, part_of}
use Rattle.fare_cap.specs.declared.day_rides.DayRides.{DayRides}
use Rattle.fare_cap.specs.Windows.{paid, day_rides, one_more, is_free}
use Rattle.fare_cap.specs.Fares.{paid_on, hop_of, day_fare, rise, tariff_or_none}
use Rattle.fare_cap.specs.RidesWords.{rides_on}
use Rattle.fare_cap.proofs.Amounts.{fares_before-same}
use Rattle.fare_cap.proofs.CountedKeys.{rides_on-counted}
use Rattle.fare_settle.specs.declared.charge.Charge.{Charge}
use Rattle.fare_settle.specs.Charges.{charge_by, charge_behind, charges_behind, operator_or_none}
use Rattle.fare_settle.proofs.Accounts.{same_account_self}

pub charges_behind-push : (scheme : SchemeValue) (ordered : List RecordValue) (day : ℕ) (front rest : List RecordValue) (tap : RecordValue)
    → charges_behind scheme ordered day front (rest ++ tap ∷ []) ≡ charges_behind scheme ordered day front rest ++ charge_behind scheme ordered day (front ++ rest) tap ∷ []
charges_behind-push scheme ordered day front [] tap = ap (λ (l : List RecordValue). charge_behind scheme ordered day l tap ∷ []) (sym (append-nil front))
charges_behind-push scheme ordered day front (x ∷ rest) tap =
    ap (λ (l : List Charge). charge_behind scheme ordered day front x ∷ l)
    (charges_behind-push scheme ordered day (front ++ x ∷ []) rest tap
    ∙ ap (λ (l : List RecordValue). charges_behind scheme ordered day (front ++ x ∷ []) rest ++ charge_behind scheme ordered day l tap ∷ []) (append_assoc front (x ∷ []) rest))

-- a charge by a table of rides that tells the same
charge_by-same : (scheme : SchemeValue) (f g : ℕ → ℕ) (day : ℕ) (tap : RecordValue) (b c d e : ℕ) → ((k : ℕ) → f k ≡ g k) → b ≡ c → d ≡ e
    → charge_by scheme f day tap b d ≡ charge_by scheme g day tap c e
charge_by-same scheme f g day tap b c d e same before after =
    ap (λ week. from week b d) (fares_before-same scheme (tariff_or_none scheme (account_of tap).product) f g day same)
    ∙ ap (λ n. charge_by scheme g day tap n d) before ∙ ap (charge_by scheme g day tap c) after
  where
    from : ℕ → ℕ → ℕ → Charge
    from week n m =
        let tariff = tariff_or_none scheme (account_of tap).product in
        record { operator = operator_or_none scheme tap.device; route = tap.tap.route; amount = rise tariff (week + day_fare tariff n) (week + day_fare tariff m) }

-- after the taps so far
pub record AreCharges (scheme : SchemeValue) (ordered front : List RecordValue) (day : ℕ) (table : AccountValue → ℕ → DayRides) (charges : List Charge) : Type 0 where
  pub counted : (account : AccountValue) → table account day ≡ rides_on scheme front account day
  pub value : charges ≡ charges_behind scheme ordered day [] (counted_on scheme day front)
  pub capped : All (λ (c : Charge). c.amount ≤ 10000000) charges

counted_on-push : (scheme : SchemeValue) (day : ℕ) (front : List RecordValue) (tap : RecordValue) (b : Bool) → (counts scheme tap && tap.tap.day == day) ≡ b
    → counted_on scheme day (front ++ tap ∷ []) ≡ counted_on scheme day front ++ cond b (tap ∷ []) []
counted_on-push scheme day front tap b e =
    filter-append (λ r. counts scheme r && r.tap.day == day) front (tap ∷ []) ∙ ap (λ t. counted_on scheme day front ++ cond t (tap ∷ []) []) e

pub charges_more_no : (scheme : SchemeValue) (ordered front : List RecordValue) (day : ℕ) (table : AccountValue → ℕ → DayRides) (charges : List Charge) (tap : RecordValue)
    → (counts scheme tap && tap.tap.day == day) ≡ false → AreCharges scheme ordered front day table charges → AreCharges scheme ordered (front ++ tap ∷ []) day table charges
charges_more_no scheme ordered front day table charges tap out so_far =
    let same : counted_on scheme day front ≡ counted_on scheme day (front ++ tap ∷ []) = sym (counted_on-push scheme day front tap false out ∙ append-nil (counted_on scheme day front)) in
    record {
      counted = λ account. so_far.counted account ∙ ap (λ (l : List RecordValue). day_rides (hop_of scheme account) (part_of account l)) same;
      value = so_far.value ∙ ap (charges_behind scheme ordered day []) same;
      capped = so_far.capped;
    }

pub charges_more_yes : (scheme : SchemeValue) (ordered front : List RecordValue) (day : ℕ) (table after : AccountValue → ℕ → DayRides) (rides : ℕ → ℕ) (charges : List Charge) (tap : RecordValue) (charge : Charge)
    → (counts scheme tap && tap.tap.day == day) ≡ true
    → AreCharges scheme ordered front day table charges
    → ((other : AccountValue) (on : ℕ) → after other on ≡ cond (same_account (account_of tap) other && tap.tap.day == on) (one_more (hop_of scheme (account_of tap)) (table other on) tap.tap.moment) (table other on))
    → ((k : ℕ) → rides k ≡ paid_on scheme ordered (account_of tap) k)
    → charge ≡ charge_by scheme rides day tap (table (account_of tap) day).paid (after (account_of tap) day).paid
    → charge.amount ≤ 10000000
    → AreCharges scheme ordered (front ++ tap ∷ []) day after (charges ++ charge ∷ [])
charges_more_yes scheme ordered front day table after rides charges tap charge is_in so_far added same_rides is small =
    let account = account_of tap in
    let hop = hop_of scheme account in
    let pushed : counted_on scheme day (front ++ tap ∷ []) ≡ counted_on scheme day front ++ tap ∷ [] = counted_on-push scheme day front tap true is_in in
    let earlier = part_of account (counted_on scheme day front) in
    let own : part_of account (counted_on scheme day (front ++ tap ∷ [])) ≡ earlier ++ tap ∷ [] =
    ap (part_of account) pushed ∙ filter-append (λ r. same_account (account_of r) account) (counted_on scheme day front) (tap ∷ [])
    ∙ ap (λ b. earlier ++ cond b (tap ∷ []) []) (same_account_self account) in
    let before : (table account day).paid ≡ paid hop earlier = ap (λ (r : DayRides). r.paid) (so_far.counted account) in
    let with_it : (after account day).paid ≡ paid hop (earlier ++ tap ∷ []) = ap (λ (r : DayRides). r.paid) (now account) ∙ ap (paid hop) own in
    record {
      counted = now;
      value =
          ap (λ (l : List Charge). l ++ charge ∷ []) so_far.value
          ∙ ap (λ (c : Charge). charges_behind scheme ordered day [] (counted_on scheme day front) ++ c ∷ [])
          (is ∙ charge_by-same scheme rides (paid_on scheme ordered account) day tap (table account day).paid (paid hop earlier) (after account day).paid (paid hop (earlier ++ tap ∷ [])) same_rides before with_it)
          ∙ sym (ap (charges_behind scheme ordered day []) pushed ∙ charges_behind-push scheme ordered day [] (counted_on scheme day front) tap);
      capped = All-push (λ (c : Charge). c.amount ≤ 10000000) charges charge so_far.capped small;
    }
  where
    counts_now : counts scheme tap ≡ true
    counts_now = (and_parts (counts scheme tap) (tap.tap.day == day) is_in).0

    now : (a : AccountValue) → after a day ≡ rides_on scheme (front ++ tap ∷ []) a day
    now a =
        added a day
        ∙ ap (λ (r : DayRides). cond (same_account (account_of tap) a && tap.tap.day == day) (one_more (hop_of scheme (account_of tap)) r tap.tap.moment) r) (so_far.counted a)
        ∙ rides_on-counted scheme front tap a day counts_now

-- one tap more lets no fewer be paid
pub paid_grows : (more : Bool) (hop : ℕ) (rides : DayRides) (moment : ℕ) → rides.paid ≤ (cond more (one_more hop rides moment) rides).paid
paid_grows true hop rides moment = by (is_free hop rides.opened moment)
  where
    next : Bool → DayRides
    next free = if free then record { taps = rides.taps + 1; paid = rides.paid; opened = rides.opened } else record { taps = rides.taps + 1; paid = rides.paid + 1; opened = Some moment }

    by : (free : Bool) → rides.paid ≤ (next free).paid
    by true = omega arith
    by false = omega arith
paid_grows false hop rides moment = omega arith
