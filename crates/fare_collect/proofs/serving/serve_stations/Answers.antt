use Rattle.fare_collect.proofs.Served.{posted_all, have_posts, served_all, hears_back}
use Rattle.fare_collect.proofs.serving.serve_stations.Goals as goal

pub run_threads-wrote-requires-clause-ready : goal.run_threads-wrote-requires-clause-ready
run_threads-wrote-requires-clause-ready g c κs within =
    posted_all c.args.intake.now.inbox c.args.lines.now c.args.tellers.now c.args.intake.now.passes.items c.args.hears.now.items c.args.stations.now c.post_all.new.stations c.requires.passes c.requires.lines c.post_all.ensures.posted

pub relieve_all-requires-clause-posts : goal.relieve_all-requires-clause-posts
relieve_all-requires-clause-posts g c =
    have_posts c.args.floor.now.scheme.now g.S.Source.talk c.args.intake.now.inbox c.args.lines.now c.post_all.new.stations c.run_threads-wrote.new.stations c.run_threads-wrote.ensures.ran c.run_threads-wrote.auto.stations

pub returns-clause-served : goal.returns-clause-served
returns-clause-served g c =
    served_all c.args.floor.now.scheme.now g.S.Source.talk c.args.intake.now.inbox c.args.lines.now c.args.intake.now.passes.items c.relieve_all.new.passes.items c.args.hears.now.items c.relieve_all.new.hears.items c.args.stations.now c.post_all.new.stations c.run_threads-wrote.new.stations c.relieve_all.new.stations
    c.post_all.ensures.posted c.run_threads-wrote.ensures.ran c.run_threads-wrote.auto.stations c.relieve_all.ensures

pub returns-clause-hears : goal.returns-clause-hears
returns-clause-hears g c =
    hears_back c.args.floor.now.scheme.now g.S.Source.talk c.args.intake.now.inbox c.args.lines.now c.args.tellers.now c.args.intake.now.passes.items c.relieve_all.new.passes.items c.args.hears.now.items c.relieve_all.new.hears.items c.args.stations.now c.relieve_all.new.stations
    c.requires.passes c.requires.lines (served_all c.args.floor.now.scheme.now g.S.Source.talk c.args.intake.now.inbox c.args.lines.now c.args.intake.now.passes.items c.relieve_all.new.passes.items c.args.hears.now.items c.relieve_all.new.hears.items c.args.stations.now c.post_all.new.stations c.run_threads-wrote.new.stations c.relieve_all.new.stations
    c.post_all.ensures.posted c.run_threads-wrote.ensures.ran c.run_threads-wrote.auto.stations c.relieve_all.ensures)
