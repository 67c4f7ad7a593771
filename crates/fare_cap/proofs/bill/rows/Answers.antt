use Rattle.std.proofs.Common.{◌≡◌, ◌≤◌, ◌++◌, All, subst, ◌∷◌, [], ◌∙◌, ap, sym, map, List}
use Rattle.std.proofs.lemmas.List.{append_assoc}
use Rattle.std.proofs.lemmas.List.Elements.{All-push}
use Rattle.std.proofs.lemmas.Map.Iter.{rest_more}
use Rattle.std.specs.Map.Iter.{deref}
use Rattle.fare_cap.specs.Values.{AccountValue}
use Rattle.fare_cap.specs.Bills.{row_of}
use Rattle.fare_cap.specs.RidesWords.{rides_by}
use Rattle.fare_cap.specs.declared.day_rides.DayRides.{DayRides}
use Rattle.fare_cap.specs.declared.row.Row.{Row}
use Rattle.fare_cap.proofs.Amounts.{row_same, row_with}
use Rattle.fare_cap.proofs.bill.rows.Goals as goal

pub loop-account-preserved : goal.loop-account-preserved
loop-account-preserved c =
    let row = row_of c.args.scheme.now c.args.ordered.now c.args.day in
    let rest : c.loop-account.account-iterator ≡ c.in-Some.account.now ∷ c.next.new.self = rest_more deref _ _ _ _ c.in-Some.is c.next.ensures.steps in
    let same = row_same c.args.scheme.now c.args.ordered.now c.args.day c.in-Some.account.now (rides_by c.in_ok-rides.rides) c.get.result.taps c.amount.result c.in_ok-rides.ensures (ap (λ (r : DayRides). r.taps) c.get.ensures) c.amount.ensures.value in
    let pushed : c.push.new.self.items ≡ c.loop-account.rows.items ++ row c.in-Some.account.now ∷ [] = c.in_ok-push.ensures.items ∙ ap (λ (r : Row). c.loop-account.rows.items ++ r ∷ []) same in
    record {
      value =
          ap (λ (l : List Row). l ++ map row c.next.new.self) pushed
          ∙ append_assoc c.loop-account.rows.items (row c.in-Some.account.now ∷ []) (map row c.next.new.self)
          ∙ ap (λ (l : List AccountValue). c.loop-account.rows.items ++ map row l) (sym rest)
          ∙ c.loop-account.invariant.value;
      capped = subst (All (λ (row : Row). row.amount ≤ 10000000)) (sym c.in_ok-push.ensures.items) (All-push (λ (r : Row). r.amount ≤ 10000000) c.loop-account.rows.items (row_with c.in-Some.account.now c.get.result.taps c.amount.result) c.loop-account.invariant.capped c.amount.ensures.capped);
    }
