use Rattle.std.proofs.Common.{List, subst, sym}
use Rattle.fare_serve.specs.Seats.{AreSeatsAfter}
use Rattle.fare_serve.specs.declared.seats.Seat.{Seat}
use Rattle.fare_serve.proofs.Seated.{after_then}
use Rattle.fare_serve.proofs.seats.seat_guests.Goals as goal
use Rattle.fare_serve.proofs.seats.seat_guests.Goals.{then-is_heard, else-is_heard+then-is_overdue, else-is_heard+else-is_overdue}

pub loop-preserved : goal.loop-preserved
loop-preserved g c =
    let sc = c.args.scheme.now in
    let rule = c.args.rule in
    let olds = c.args.seats.now in
    elim c.if-is_heard.branch [
      | then-is_heard w ↦ subst (λ (l : List Seat). AreSeatsAfter sc rule olds l) (sym w.seats-is) (after_then sc rule olds c.loop.seats w.seat_guest.new.seats c.loop.invariant w.seat_guest.ensures)
      | else-is_heard+then-is_overdue w ↦ subst (λ (l : List Seat). AreSeatsAfter sc rule olds l) (sym w.seats-is) c.loop.invariant
      | else-is_heard+else-is_overdue w ↦ subst (λ (l : List Seat). AreSeatsAfter sc rule olds l) (sym w.seats-is) c.loop.invariant
    ]
