use Rattle.std.proofs.Common.{◌≡◌, ◌∙◌, ◌+◌, ◌∷◌, [], true, List, ap, slice_index_or, sym, subst, arith}
use Rattle.std.proofs.Math.ListN.{set}
use Rattle.fare_history.proofs.Entries.{all-append}
use Rattle.fare_source.specs.declared.shift.Shift.{Shift}
use Rattle.fare_net.specs.NetValue.{NetValue}
use Rattle.fare_serve.specs.Lending.{HasLent}
use Rattle.fare_serve.specs.Serving.{AreWhole}
use Rattle.fare_serve.proofs.Lent.{AreLending, lending_all, lending_more}
use Rattle.fare_serve.proofs.Seated.{length-seats}
use Rattle.fare_serve.proofs.lending.lend_all.Goals as goal

pub loop-seat-preserved : goal.loop-seat-preserved
loop-seat-preserved c =
    let inv = c.loop-seat.invariant in
    let lt = c.loop-seat-test.true in
    let same = inv.seats in
    let seats = c.loop-seat.seats in
    let place = c.loop-seat.seat-index in
    let d = c.seat-item.result in
    let new = c.lend.new.seat in
    let shifts = c.loop-seat.shifts.items in
    let shift = c.shift_of.result in
    let lent : HasLent (slice_index_or seats place d) new shift.source = subst (HasLent (slice_index_or seats place d) new) (sym c.shift_of.ensures.source) c.in_ok-source.ensures in
    record {
      made = c.push_reserved.ensures.len ∙ ap (λ n. n + 1) inv.made;
      room = (let kept = c.push_reserved.ensures.capacity in let room = inv.room in omega (arith, kept, room));
      seats = length-seats seats place new ∙ inv.seats;
      whole = λ whole. subst AreWhole (sym c.push_reserved.ensures.items) (all-append (λ (s : Shift NetValue). s.whole ≡ true) shifts (shift ∷ []) (inv.whole whole) (c.shift_of.ensures.fresh.kind ∙ whole, tt));
      lent = subst (λ (l : List (Shift NetValue)). AreLending c.args.whole c.args.seats.now (set seats place new) l (place + 1)) (sym c.push_reserved.ensures.items)
          (lending_more c.args.whole c.args.seats.now seats shifts place d new shift inv.lent (omega (arith, lt, same)) lent c.shift_of.ensures.fresh);
    }

pub returns-clause-lent : goal.returns-clause-lent
returns-clause-lent c =
    let past = c.loop-seat-test.false in
    let same = c.loop-seat.invariant.seats in
    lending_all c.args.whole c.args.seats.now c.loop-seat.seats c.loop-seat.shifts.items c.loop-seat.seat-index c.loop-seat.invariant.lent (omega (arith, past, same))
