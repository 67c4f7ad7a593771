use Rattle.std.proofs.Common.{◌≡◌, ℕ, Some, nat_eq, cond, true, is_some, refl, sym, ap, ◌∙◌}
use Rattle.std.specs.HashMap.{get}
use Rattle.fare_store.specs.Keys.{same_lane}
use Rattle.fare_store.specs.PlacedRows.{IsPlacedAt, rows_in}
use Rattle.fare_store.proofs.Tables.{on_err}
use Rattle.fare_store.proofs.Rows.{same_outbox, with_row, holds_put, links_put, seen_put}
use Rattle.fare_store.proofs.Lanes.{same_among, placed_among, known_among}
use Rattle.fare_store.proofs.plain_outbox.PlainOutbox.push.Goals as goal

pub invariant_of-self-in-Break-branch-2 : goal.invariant_of-self-in-Break-branch-2
invariant_of-self-in-Break-branch-2 c =
    let o = c.args.self.now in
    let old = rows_in (get same_lane o.lanes) in
    let new = rows_in (get same_lane c.put_row.new.lanes) in
    let among = same_among old new c.in_err-put_row.ensures.err in
    record {
      seen = λ d k is. o.seen d k (sym (c.reserve.ensures.entries.2 d) ∙ is);
      placed = placed_among old new among o.placed;
      known = known_among old new (get nat_eq o.upto) (get nat_eq c.reserve.new.self) among (λ d was. ap is_some (c.reserve.ensures.entries.2 d) ∙ was) o.known;
      counts = o.counts;
    }

pub returns-in_err-put_row-clause-err : goal.returns-in_err-put_row-clause-err
returns-in_err-put_row-clause-err c =
    let o = c.args.self.now in
    on_err c.from_residual-in_err-put_row.result (same_outbox (get nat_eq o.upto) (get nat_eq c.reserve.new.self) (rows_in (get same_lane o.lanes)) (rows_in (get same_lane c.put_row.new.lanes)) o.row_count o.statements c.reserve.ensures.entries.2 c.in_err-put_row.ensures.err)

pub invariant_of-self-2 : goal.invariant_of-self-2
invariant_of-self-2 c =
    let o = c.args.self.now in
    let row = c.args.row.now in
    let old = rows_in (get same_lane o.lanes) in
    let new = rows_in (get same_lane c.put_row.new.lanes) in
    let updates = rw (c.device.ensures, c.link.ensures.value) at c.in-Ok.ensures.updates in
    let written : (d : ℕ) → get nat_eq c.insert.new.self d ≡ cond (nat_eq row.device d) (Some row.link) (get nat_eq o.upto d) = λ d. updates.0 d ∙ ap (cond (nat_eq row.device d) (Some row.link)) (c.reserve.ensures.entries.2 d) in
    let here : is_some (get nat_eq c.insert.new.self row.device) ≡ true = ap is_some updates.1 in
    record {
      seen = links_put row.device row.link (get nat_eq o.upto) (get nat_eq c.insert.new.self) written (rw c.link.ensures.value at c.link.ensures.valid) o.seen;
      placed = holds_put IsPlacedAt row.owner row.device row.lane row old new c.in_ok-put_row.ensures.ok (record { owner_is = refl; device_is = refl; lane_is = refl }) o.placed;
      known = holds_put (λ o d l r. is_some (get nat_eq c.insert.new.self d) ≡ true) row.owner row.device row.lane row old new c.in_ok-put_row.ensures.ok here (λ x y z r is. seen_put row.device row.link (get nat_eq o.upto) (get nat_eq c.insert.new.self) written y (o.known x y z r is));
      counts = o.counts;
    }

pub returns-clause-ok : goal.returns-clause-ok
returns-clause-ok c =
    let o = c.args.self.now in
    let row = c.args.row.now in
    let updates = rw (c.device.ensures, c.link.ensures.value) at c.in-Ok.ensures.updates in
    with_row row (get nat_eq o.upto) (get nat_eq c.insert.new.self) (rows_in (get same_lane o.lanes)) (rows_in (get same_lane c.put_row.new.lanes)) o.row_count o.statements
    (λ d. updates.0 d ∙ ap (cond (nat_eq row.device d) (Some row.link)) (c.reserve.ensures.entries.2 d)) c.in_ok-put_row.ensures.ok
