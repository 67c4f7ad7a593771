use Rattle.std.proofs.Common.{rules, subst, sym, ℕ, ◌<◌, length, slice_index_or}
use Rattle.fare_collect.specs.declared.station.Station.{Station}
use Rattle.fare_collect.specs.Stations.{IsPostedAt, HasRunStation}
use Rattle.fare_collect.proofs.threads.run_stations.Goals as goal
use Rattle.fare_collect.proofs.threads.run_stations.Goals.{After-for_each_mut}

pub for_each_mut-requires-clause-accepts : goal.for_each_mut-requires-clause-accepts
for_each_mut-requires-clause-accepts g c κs within = λ i p lt e.
    subst (λ (t : Station g.row.S.Denot). IsPostedAt c.args.inbox.now c.args.lines.now i t) (sym e) (c.requires.ready.each i p.now lt)

each : (g : _) (c : After-for_each_mut g) (k : ℕ) (d : Station g.row.S.Denot) → k < length c.args.stations.now
    → HasRunStation c.args.floor.now.scheme.now g.S.Source.talk c.args.inbox.now c.args.lines.now k (slice_index_or c.args.stations.now k d) (slice_index_or c.for_each_mut.new.s k d)
each g c k d lt =
    let e = (c.for_each_mut.ensures k d lt).1 in
    let m : HasRunStation c.args.floor.now.scheme.now g.S.Source.talk c.args.inbox.now c.args.lines.now k e.argument.now e.after_call.now = (let k = e.call in search rules) in
    let P : Station g.row.S.Denot × Station g.row.S.Denot → Type 0 = λ y. HasRunStation c.args.floor.now.scheme.now g.S.Source.talk c.args.inbox.now c.args.lines.now k y.0 y.1 in
    subst P (λ i. (e.argument_is i, e.left i)) m

pub returns : goal.returns
returns g c = record { each = each g (goal.at.returns g c).After-for_each_mut }
