use Rattle.std.proofs.Common.{◌≡◌, ℕ, Some, cond, ◌∙◌, rules, ap}
use Rattle.std.specs.Prelude.{unwrap_or}
use Rattle.fare_cap.specs.declared.day_rides.DayRides.{DayRides}
use Rattle.std.specs.Map.{lookup}
use Rattle.std.specs.HashMap.{get}
use Rattle.fare_cap.specs.Values.{AccountValue}
use Rattle.fare_cap.specs.Accounts.{account_of}
use Rattle.fare_cap.specs.Keys.{same_key}
use Rattle.fare_cap.specs.Windows.{no_rides, one_more}
use Rattle.fare_cap.proofs.CountedKeys.{value-updated, on_err}
use Rattle.fare_cap.proofs.rides.Rides.add.Goals as goal

pub returns-clause-ok : goal.returns-clause-ok
returns-clause-ok c = λ other on.
    let tap = c.args.tap in
    let held = get same_key c.args.self.now.days in
    let more = λ (rides : DayRides). one_more c.args.hop rides tap.tap.moment in
    let key : ◌≡◌ {A = AccountValue × ℕ} (c.of-account.result, c.day-day.result) (account_of tap, tap.tap.day) = search rules in
    let value : c.with_tap-rides.result ≡ more (unwrap_or (held (account_of tap, tap.tap.day)) no_rides) = search rules in
    value-updated no_rides more held (get same_key c.insert.new.self) (account_of tap) tap.tap.day
    (λ q. c.in_ok-insert.ensures.updates.0 q ∙ (λ i. cond (same_key (key i) q) (Some (value i)) (held q)))
    other on

pub returns-in_err-insert-clause-err : goal.returns-in_err-insert-clause-err
returns-in_err-insert-clause-err c =
    on_err c.from_residual.result (λ other on. ap (λ entries. unwrap_or (lookup (same_key (other, on)) entries) no_rides) c.in_err-insert.ensures.err)
