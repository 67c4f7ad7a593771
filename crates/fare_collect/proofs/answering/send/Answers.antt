use Rattle.std.proofs.Common.{◌≡◌, Some, ap, ◌∙◌, slice_index_or, arith}
use Rattle.std.specs.Prelude.{is_some}
use Rattle.fare_scheme.specs.Words.{station_of}
use Rattle.fare_history.specs.Gathering.{device_answered}
use Rattle.fare_collect.proofs.Last.{sent_past, sent_one}
use Rattle.fare_collect.proofs.answering.send.Goals as goal

pub returns-then-place-stations-clause-sent : goal.returns-then-place-stations-clause-sent
returns-then-place-stations-clause-sent g c =
    let sc = c.args.scheme.now in
    let all = c.args.stations.now in
    let item = c.args.item.now in
    let stands = c.place_of_station-place.ensures in
    let place = c.place_of_station-place.result in
    let of : station_of sc (device_answered item) ≡ Some stands.0 = ap (station_of sc) c.requires.to ∙ stands.1 in
    sent_one sc g.S.Source.talk all item stands.0 place (slice_index_or all place c.index-stations-place.result) c.hand.new.station c.requires.order of stands.2 c.if-place-stations.true (ap (slice_index_or all place) c.index-stations-place.is) c.hand.ensures

pub returns-else-place-stations-clause-sent : goal.returns-else-place-stations-clause-sent
returns-else-place-stations-clause-sent g c =
    let sc = c.args.scheme.now in
    let all = c.args.stations.now in
    let item = c.args.item.now in
    let stands = c.place_of_station-place.ensures in
    let of : station_of sc (device_answered item) ≡ Some stands.0 = ap (station_of sc) c.requires.to ∙ stands.1 in
    sent_past sc g.S.Source.talk all item stands.0 c.place_of_station-place.result c.requires.order of stands.2 (let n = c.if-place-stations.false in omega (arith, n))

pub returns-then-place-stations-clause-known : goal.returns-then-place-stations-clause-known
returns-then-place-stations-clause-known g c = ap is_some c.place_of_station-place.ensures.1

pub returns-else-place-stations-clause-known : goal.returns-else-place-stations-clause-known
returns-else-place-stations-clause-known g c = ap is_some c.place_of_station-place.ensures.1
