use Rattle.std.proofs.Common.{nat_eq, arith}
use Rattle.std.specs.HashMap as hash
use Rattle.fare_store.specs.Keys.{same_lane}
use Rattle.fare_store.specs.PlacedRows.{rows_in}
use Rattle.fare_store.specs.PlainOutboxWords.{stated_in}
use Rattle.fare_store.proofs.Untold.{without_among, with_fewer}
use Rattle.fare_store.proofs.plain_outbox.PlainOutbox.drop_statements.Goals as goal

pub invariant_of-self : goal.invariant_of-self
invariant_of-self c =
    let o = c.args.self.now in
    record {
      seen = o.seen;
      placed = o.placed;
      known = o.known;
      counts = λ a b d k is. o.counts a b d k (without_among c.args.owner c.args.device c.args.day (stated_in o.statements) (stated_in c.remove_before.new.statements) c.remove_before.ensures.left a b d k is);
    }

pub returns-clause-count : goal.returns-clause-count
returns-clause-count c = omega (arith, c.remove_before.ensures.count)

pub returns-clause-left : goal.returns-clause-left
returns-clause-left c =
    let o = c.args.self.now in
    with_fewer c.args.owner c.args.device c.args.day (hash.get nat_eq o.upto) (rows_in (hash.get same_lane o.lanes)) o.row_count o.statements c.remove_before.new.statements c.remove_before.ensures.left
    (omega (arith, c.remove_before.ensures.count))
