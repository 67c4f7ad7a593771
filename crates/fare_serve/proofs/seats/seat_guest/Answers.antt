use Rattle.std.proofs.Common.{sym, slice_index_or}
use Rattle.fare_serve.specs.Lines.{IsNewLine}
use Rattle.fare_serve.proofs.Seated.{after_set, greeted_as, sat}
use Rattle.fare_serve.proofs.seats.seat_guest.Goals as goal

pub returns-then-place-seats : goal.returns-then-place-seats
returns-then-place-seats g c =
    let sc = c.args.scheme.now in
    let line = c.hello.new.self in
    let place = c.in-Some.place in
    let seats = c.args.seats.now in
    let d = c.index-seats-place.result in
    let came : IsNewLine sc place line = (c.in-Ok.station, sym c.in-Some.ensures.value, greeted_as sc c.in-Ok.station c.into_source-source.result line c.into_source-source.ensures.unheard c.in-Ok.ensures.advances c.in-Ok.ensures.station c.in-Ok.ensures.open) in
    after_set sc c.args.rule seats place d c.take_seat.new.seat c.if-place-seats.true (sat sc c.args.rule place (slice_index_or seats place d) c.take_seat.new.seat line came c.take_seat.ensures)
