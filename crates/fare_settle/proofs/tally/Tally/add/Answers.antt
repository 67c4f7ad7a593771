use Rattle.std.proofs.Common.{◌≡◌, ℕ, ◌∙◌, rules}
use Rattle.std.specs.Prelude.{nat_eq, unwrap_or}
use Rattle.std.specs.HashMap.{get}
use Rattle.fare_settle.specs.Routes.{no_share, with_charge}
use Rattle.fare_settle.proofs.Tallying.{share_updated}
use Rattle.fare_settle.proofs.tally.Tally.add.Goals as goal

pub returns : goal.returns
returns c = share_updated c.args.charge (get nat_eq c.args.self.now.shares) (get nat_eq c.insert.new.self) _ (search rules) (λ route. c.in_ok-insert.ensures.updates.0 route)
