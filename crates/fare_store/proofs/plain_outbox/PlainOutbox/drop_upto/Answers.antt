use Rattle.std.proofs.Common.{nat_eq}
use Rattle.std.specs.HashMap.{get}
use Rattle.fare_store.specs.Keys.{same_lane}
use Rattle.fare_store.specs.PlacedRows.{rows_in}
use Rattle.fare_store.proofs.Lanes.{behind_among, placed_among, known_among}
use Rattle.fare_store.proofs.plain_outbox.PlainOutbox.drop_upto.Goals as goal

pub invariant_of-self : goal.invariant_of-self
invariant_of-self c =
    let a = c.args in
    let o = a.self.now in
    let old = rows_in (get same_lane o.lanes) in
    let new = rows_in (get same_lane c.prune_lane-removed.new.lanes) in
    let among = behind_among a.owner a.device a.upto old new c.prune_lane-removed.ensures.left in
    record {
      seen = o.seen;
      placed = placed_among old new among o.placed;
      known = known_among old new (get nat_eq o.upto) (get nat_eq o.upto) among (λ d h. h) o.known;
      counts = o.counts;
    }
