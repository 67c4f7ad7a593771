use Rattle.fare_collect.specs.Ending.{last_acks}
use Rattle.fare_collect.specs.Noting.{day_acks}
use Rattle.fare_collect.proofs.Last.{have_more, stations_after}
use Rattle.fare_collect.proofs.answering.answer_last.Goals as goal

pub last_all-requires : goal.last_all-requires
last_all-requires g c = stations_after c.args.scheme.now g.S.Source.talk c.last_days.ensures.answers c.args.stations.now c.last_days.new.stations c.requires.order c.last_days.ensures.sent

pub returns : goal.returns
returns g c =
    have_more c.args.scheme.now g.S.Source.talk (g.O.Outbox.standing c.args.outbox.now) (g.O.Outbox.standing c.last_days.new.outbox) (g.O.Outbox.standing c.last_all.new.outbox) c.args.stations.now c.last_days.new.stations c.last_all.new.stations
    (λ x. day_acks c.args.scheme.now x c.args.days.now.keys) (last_acks c.args.scheme.now) c.last_all.result c.in_ok-last_days.ensures c.last_all.ensures
