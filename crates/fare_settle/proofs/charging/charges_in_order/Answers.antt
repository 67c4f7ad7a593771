use Rattle.std.proofs.Common.{rules, ◌≡◌, ◌≤◌, ◌+◌, ◌++◌, All, ◌∷◌, [], take, subst, sym, ap, ◌∙◌, cond, ◌&&◌, ◌==◌, eqb-true, arith, List}
use Rattle.std.proofs.lemmas.List.{length-take, take_all, take_more}
use Rattle.std.proofs.lemmas.Bool.{and_parts}
use Rattle.fare_record.specs.Values.{RecordValue}
use Rattle.fare_cap.specs.Values.{AccountValue}
use Rattle.fare_cap.specs.declared.day_rides.DayRides.{DayRides}
use Rattle.fare_cap.specs.declared.rides.Rides.{Rides}
use Rattle.fare_settle.specs.declared.charge.Charge.{Charge}
use Rattle.fare_settle.specs.Charges.{charge_by, charges_behind}
use Rattle.fare_cap.specs.Accounts.{account_of, same_account, counts, counted_on}
use Rattle.fare_cap.specs.Windows.{one_more}
use Rattle.fare_cap.specs.Fares.{hop_of}
use Rattle.fare_cap.specs.RidesWords.{paid_by, rides_by, rides_on}
use Rattle.fare_cap.proofs.CountedKeys.{rides_on-le}
use Rattle.fare_settle.proofs.ChargeSteps.{AreCharges, charges_more_yes, charges_more_no, paid_grows}
use Rattle.fare_settle.proofs.charging.charges_in_order.Goals as goal
use Rattle.fare_settle.proofs.charging.charges_in_order.Goals.{then-counts_on+in_ok-add+in_ok-push, else-counts_on}

pub add-requires-clause-taps : goal.add-requires-clause-taps
add-requires-clause-taps c =
    let scheme = c.args.scheme.now in
    let tap = c.tap-item.result in
    let front = take c.loop-tap.tap-index c.args.ordered.now in
    let on : tap.tap.day ≡ c.args.day = eqb-true tap.tap.day c.args.day ((and_parts (counts scheme tap) (tap.tap.day == c.args.day) (sym c.counts_on.ensures ∙ c.if-counts_on.true)).1) in
    let counted : (rides_by c.loop-tap.so_far (account_of tap) tap.tap.day).taps ≡ (rides_on scheme front (account_of tap) c.args.day).taps =
    ap (λ d. (rides_by c.loop-tap.so_far (account_of tap) d).taps) on ∙ ap (λ (r : DayRides). r.taps) (c.loop-tap.invariant.counted (account_of tap)) in
    let few = (rides_on-le scheme front (account_of tap) c.args.day).0 in
    omega (arith, counted, few, length-take c.loop-tap.tap-index c.args.ordered.now)

pub add-requires-clause-paid : goal.add-requires-clause-paid
add-requires-clause-paid c =
    let scheme = c.args.scheme.now in
    let tap = c.tap-item.result in
    let front = take c.loop-tap.tap-index c.args.ordered.now in
    let on : tap.tap.day ≡ c.args.day = eqb-true tap.tap.day c.args.day ((and_parts (counts scheme tap) (tap.tap.day == c.args.day) (sym c.counts_on.ensures ∙ c.if-counts_on.true)).1) in
    let counted : (rides_by c.loop-tap.so_far (account_of tap) tap.tap.day).paid ≡ (rides_on scheme front (account_of tap) c.args.day).paid =
    ap (λ d. (rides_by c.loop-tap.so_far (account_of tap) d).paid) on ∙ ap (λ (r : DayRides). r.paid) (c.loop-tap.invariant.counted (account_of tap)) in
    let few = (rides_on-le scheme front (account_of tap) c.args.day).1 in
    omega (arith, counted, few, length-take c.loop-tap.tap-index c.args.ordered.now)

pub charge-requires-clause-grows : goal.charge-requires-clause-grows
charge-requires-clause-grows c =
    let tap = c.tap-item.result in
    let before = ap (λ (r : DayRides). r.paid) c.get-before.ensures in
    let after = ap (λ (r : DayRides). r.paid) (c.get-after.ensures ∙ c.in_ok-add.ensures.ok c.of-account.result c.args.day) in
    let more = paid_grows (same_account (account_of tap) c.of-account.result && tap.tap.day == c.args.day) c.hop_of.result (rides_by c.loop-tap.so_far c.of-account.result c.args.day) tap.tap.moment in
    omega (arith, before, after, more)

pub loop-tap-preserved : goal.loop-tap-preserved
loop-tap-preserved c =
    let scheme = c.args.scheme.now in
    let ordered = c.args.ordered.now in
    let day = c.args.day in
    let tap = c.tap-item.result in
    let front = take c.loop-tap.tap-index ordered in
    let rides = paid_by c.in_ok-rides.rides in
    let grown : take (c.loop-tap.tap-index + 1) ordered ≡ front ++ tap ∷ [] =
    take_more ordered c.loop-tap.tap-index tap (omega arith) ∙ ap (λ (r : RecordValue). front ++ r ∷ []) (sym c.tap-item.is) in
    subst (λ (l : List RecordValue). AreCharges scheme ordered l day (rides_by c.if-counts_on.so_far) c.if-counts_on.charges.items) (sym grown)
    (elim c.if-counts_on.branch [
      | then-counts_on+in_ok-add+in_ok-push w ↦
          let account = account_of tap in
          let before : w.get-before.result.paid ≡ paid_by c.loop-tap.so_far account day =
          ap (λ (r : DayRides). r.paid) w.get-before.ensures ∙ ap (λ (a : AccountValue). paid_by c.loop-tap.so_far a day) w.of-account.ensures in
          let after : w.get-after.result.paid ≡ paid_by w.add.new.self account day =
          ap (λ (r : DayRides). r.paid) w.get-after.ensures ∙ ap (λ (a : AccountValue). paid_by w.add.new.self a day) w.of-account.ensures in
          let window : w.hop_of.result ≡ hop_of scheme account = w.hop_of.ensures.value ∙ ap (hop_of scheme) w.of-account.ensures in
          let charged : w.charge.result ≡ charge_by scheme (rides account) day tap (paid_by c.loop-tap.so_far account day) (paid_by w.add.new.self account day) =
          w.charge.ensures.value ∙ ap (λ n. charge_by scheme (rides account) day tap n w.get-after.result.paid) before
          ∙ ap (λ n. charge_by scheme (rides account) day tap (paid_by c.loop-tap.so_far account day) n) after in
          let step = charges_more_yes scheme ordered front day (rides_by c.loop-tap.so_far) (rides_by w.add.new.self) (rides account) c.loop-tap.charges.items tap w.charge.result
          (sym w.if-counts_on.ensures) c.loop-tap.invariant
          (λ other on. w.in_ok-add.ensures.ok other on
          ∙ ap (λ hop. cond (same_account account other && tap.tap.day == on) (one_more hop (rides_by c.loop-tap.so_far other on) tap.tap.moment) (rides_by c.loop-tap.so_far other on)) window)
          (λ k. ap (λ (r : DayRides). r.paid) (c.in_ok-rides.ensures account k)) charged w.charge.ensures.capped in
          let items : c.if-counts_on.charges.items ≡ c.loop-tap.charges.items ++ w.charge.result ∷ [] = search rules in
          subst (λ (s : Rides). AreCharges scheme ordered (front ++ tap ∷ []) day (rides_by s) c.if-counts_on.charges.items) (sym w.so_far-is)
          (subst (λ (l : List Charge). AreCharges scheme ordered (front ++ tap ∷ []) day (rides_by w.add.new.self) l) (sym items) step)
      | else-counts_on w ↦
          let step = charges_more_no scheme ordered front day (rides_by c.loop-tap.so_far) c.loop-tap.charges.items tap (sym w.if-counts_on.ensures) c.loop-tap.invariant in
          let items : c.if-counts_on.charges.items ≡ c.loop-tap.charges.items = search rules in
          subst (λ (s : Rides). AreCharges scheme ordered (front ++ tap ∷ []) day (rides_by s) c.if-counts_on.charges.items) (sym w.so_far-is)
          (subst (λ (l : List Charge). AreCharges scheme ordered (front ++ tap ∷ []) day (rides_by c.loop-tap.so_far) l) (sym items) step)
    ])

pub loop-tap-init : goal.loop-tap-init
loop-tap-init c = record {
  counted = λ account. c.new-so_far.ensures account c.args.day;
  value = c.new-charges.ensures.items;
  capped = subst (All (λ (x : Charge). x.amount ≤ 10000000)) (sym c.new-charges.ensures.items) (λ k d below. absurd (omega (arith, below)));
}

pub charge-requires-clause-counted : goal.charge-requires-clause-counted
charge-requires-clause-counted c =
    let tap = c.tap-item.result in
    (and_parts (counts c.args.scheme.now tap) (tap.tap.day == c.args.day) (sym c.counts_on.ensures ∙ c.if-counts_on.true)).0

pub returns-clause-value : goal.returns-clause-value
returns-clause-value c =
    let scheme = c.args.scheme.now in
    let ordered = c.args.ordered.now in
    c.loop-tap.invariant.value ∙ ap (λ (l : List RecordValue). charges_behind scheme ordered c.args.day [] (counted_on scheme c.args.day l)) (take_all c.loop-tap.tap-index ordered c.loop-tap-test.false)

pub returns-clause-capped : goal.returns-clause-capped
returns-clause-capped c = c.loop-tap.invariant.capped
