use Rattle.sqlite.specs.Held.{state}
use Rattle.fare_opening.proofs.Cleared.{clears_all}
use Rattle.fare_opening.proofs.listing.clear_rows.Goals as goal

pub returns-clause-cleared : goal.returns-clause-cleared
returns-clause-cleared g c clean inside p k columns w it site has =
    let old = state g.S.Store c.args.tx.now.conn.now in
    let new = state g.S.Store c.change.new.tx.conn.now in
    let ran = c.in_ok-change.ensures.ran clean inside in
    (clears_all p k c.args.clear.now w it site columns old new c.in_ok-change.field-0 has ran.0, ran.1)
