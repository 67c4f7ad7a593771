use Rattle.std.proofs.Common.{subst, sym, arith}
use Rattle.std.specs.Prelude.{is_none, is_some, OnOk}
use Rattle.fare_run.specs.Serving.{WritesCounts}
use Rattle.fare_run.specs.Stores.{IsOfStores}
use Rattle.fare_run.proofs.InDatabases.{serves_opened, serves_unopened}
use Rattle.fare_run.proofs.Served.{count_still, of_opening, over_stores, writes_if}
use Rattle.fare_run.proofs.serve_job.serve_databases.Goals as goal

pub close_hub-requires-clause-room : goal.close_hub-requires-clause-room
close_hub-requires-clause-room g c =
    let still = count_still _ _ _ c.in-Ok.opened.hub c.serve_over-served.new.hub c.args.options.now.limits.rounds (is_none c.args.options.now.until) (is_some c.args.options.now.ask) (g.O.Write.contents c.args.output.now) (g.O.Write.contents c.serve_over-served.new.output) c.serve_over-served.result c.serve_over-served.ensures.served c.serve_over-served.ensures.stores in
    let room = c.in-Ok.ensures.room.1 in
    omega (arith, still, room)

pub returns-in-Ok-clause-served : goal.returns-in-Ok-clause-served
returns-in-Ok-clause-served g c =
    let r = c.serve_over-served.result in
    let written = writes_if _ _ _ c.in-Ok.opened.hub c.serve_over-served.new.hub c.args.options.now.limits.rounds (is_none c.args.options.now.until) (is_some c.args.options.now.ask) (g.O.Write.contents c.args.output.now) (g.O.Write.contents c.serve_over-served.new.output) r c.serve_over-served.ensures.served in
    subst (λ s. OnOk r (WritesCounts s (is_some c.args.options.now.ask) (g.O.Write.contents c.args.output.now) (g.O.Write.contents c.serve_over-served.new.output))) c.in-Ok.ensures.scheme written

pub returns-in-Ok-clause-runs : goal.returns-in-Ok-clause-runs
returns-in-Ok-clause-runs g c =
    serves_opened g.S.Store c.args.scheme c.in-Ok.ensures.valid c.args.databases c.close_hub.result c.in-Ok.opened.hub c.serve_over-served.new.hub c.in-Ok.ensures.scheme c.in-Ok.ensures.count c.in-Ok.ensures.holds c.close_hub.ensures.back
    _ c.args.options.now.limits.rounds (is_none c.args.options.now.until) (is_some c.args.options.now.ask) (g.O.Write.contents c.args.output.now) (g.O.Write.contents c.serve_over-served.new.output) c.serve_over-served.result c.serve_over-served.ensures.served c.serve_over-served.ensures.stores

pub returns-in-Err-clause-fails : goal.returns-in-Err-clause-fails
returns-in-Err-clause-fails g c = over_stores (is_some c.args.options.now.ask) (g.O.Write.contents c.args.output.now) c.from.result (subst IsOfStores (sym c.from.ensures) (of_opening c.in-Err.fault))

pub returns-in-Err-clause-runs : goal.returns-in-Err-clause-runs
returns-in-Err-clause-runs g c = serves_unopened g.S.Store c.args.scheme c.in-Err.ensures.valid c.args.databases c.in-Err.databases c.args.options.now.limits.rounds (is_none c.args.options.now.until) (is_some c.args.options.now.ask) (g.O.Write.contents c.args.output.now) c.from.result c.requires.owners c.in-Err.ensures.stay
