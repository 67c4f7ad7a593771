use Rattle.std.proofs.Common.{◌≡◌, ℕ, List, [], ◌∷◌, Bool, Some, length, length-append, if◌then◌else◌, ap, sym, subst, ◌∙◌, rules, arith}
use Rattle.std.proofs.lemmas.Grind.{common_steps}
use Rattle.fare_scheme.specs.Words.{position_of_station}
use Rattle.fare_collector.specs.Collecting.{next_in, first_link}
use Rattle.fare_collector.specs.declared.collector.Collector.{Collector}
use Rattle.fare_collect.specs.declared.station.Station.{Station}
use Rattle.fare_collect.proofs.Makes.{AreMade, made_more, made_all, made_sources, ok_of}
use Rattle.fare_collect.proofs.making.stations_of.Goals as goal

pub loop-source-preserved : goal.loop-source-preserved
loop-source-preserved g c =
    let sc = c.args.scheme.now in
    let x = c.new-in-Some.result in
    let was = c.loop-source.stations.items in
    let is = c.in-Some.ensures.items in
    let made = c.new-in-Some.ensures in
    let own : x.collector.station ≡ c.in-Some-station_at.id = ap (λ (q : Collector). q.station) made.0 ∙ c.in-Ok.ensures.station in
    let place : c.len-in-Some.result ≡ length c.pop.new.self.items = grind (arith, common_steps) in
    let next : (device : ℕ) → next_in x.collector device ≡ first_link sc x.collector.station device = λ device. ap (λ (q : Collector). next_in q device) made.0 ∙ (c.in-Ok.ensures.next device ∙ ap (λ (n : ℕ). first_link sc n device) (sym own)) in
    subst (λ (l : List (Station g.row.S.Denot)). AreMade sc c.args.sources.items c.pop.new.self.items l) (sym (c.insert.ensures.items ∙ ap (λ (b : Bool). if b then x ∷ was else was) (ok_of c.insert.result (sym c.is_err.ensures.value ∙ c.if-is_err.false))))
    (made_more sc c.args.sources.items c.loop-source.sources.items c.pop.new.self.items c.in-Some.source was x c.loop-source.invariant is (ap length is ∙ length-append c.pop.new.self.items (c.in-Some.source ∷ [])) made.1
    (ap (position_of_station sc) own ∙ (c.in-Some-station_at.ensures.placed ∙ ap Some place)) next)

pub returns-clause-stations : goal.returns-clause-stations
returns-clause-stations g c = let none : c.loop-source.sources.items ≡ [] = (let e = c.in_default.ensures in search rules) in made_all c.args.scheme.now c.args.sources.items c.loop-source.sources.items c.loop-source.stations.items none c.loop-source.invariant

pub returns-clause-sources : goal.returns-clause-sources
returns-clause-sources g c = let none : c.loop-source.sources.items ≡ [] = (let e = c.in_default.ensures in search rules) in made_sources c.args.scheme.now c.args.sources.items c.loop-source.sources.items c.loop-source.stations.items none c.loop-source.invariant
