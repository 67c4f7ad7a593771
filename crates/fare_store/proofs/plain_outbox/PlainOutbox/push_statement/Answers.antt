use Rattle.std.proofs.Common.{Some, nat_eq, sym, ap, ◌∙◌}
use Rattle.std.specs.BTreeMap as tree
use Rattle.std.specs.HashMap as hash
use Rattle.std.specs.Map.{lookup}
use Rattle.std.specs.Ordering.{is_eq}
use Rattle.fare_record.specs.Limits.{IsCount}
use Rattle.fare_store.specs.Keys.{key_order, same_lane}
use Rattle.fare_store.specs.PlacedRows.{rows_in}
use Rattle.fare_store.proofs.Tables.{either_way}
use Rattle.fare_store.proofs.Rows.{rows_put, with_statement, one_more, holds_put}
use Rattle.fare_store.proofs.plain_outbox.PlainOutbox.push_statement.Goals as goal

pub invariant_of-self : goal.invariant_of-self
invariant_of-self c =
    let o = c.args.self.now in
    let s = c.args.statement.now in
    record {
      seen = o.seen;
      placed = o.placed;
      known = o.known;
      counts = either_way c.insert.result c.insert.ensures.updates c.insert.ensures.err
          (λ u. holds_put (λ a b d. IsCount) s.owner s.device s.day s.count (λ a b d. tree.get key_order o.statements (a, b, d)) (λ a b d. tree.get key_order c.insert.new.self (a, b, d))
          (rows_put s.owner s.device s.day (Some s.count) (tree.get key_order o.statements) (tree.get key_order c.insert.new.self) (rw (c.owner.ensures, c.device.ensures, c.day.ensures, c.count.ensures.value) at u.0)) (rw c.count.ensures.value at c.count.ensures.valid) o.counts)
          (λ same a b d k is. o.counts a b d k (ap (lookup (λ q. is_eq (key_order (a, b, d) q))) (sym same) ∙ is));
    }

pub returns-clause-ok : goal.returns-clause-ok
returns-clause-ok c =
    let o = c.args.self.now in
    let s = c.args.statement.now in
    let writes = rw (c.owner.ensures, c.device.ensures, c.day.ensures, c.count.ensures.value) at c.in_ok-insert.ensures.updates.0 in
    let had = rw (c.owner.ensures, c.device.ensures, c.day.ensures) at c.in_ok-insert.ensures.old in
    with_statement s (hash.get nat_eq o.upto) (rows_in (hash.get same_lane o.lanes)) o.row_count o.statements c.insert.new.self writes
    (one_more (tree.btree_map_len o.statements) (tree.btree_map_len c.insert.new.self) c.in_ok-insert.field-0 _ had c.requires c.in_ok-insert.ensures.len)
