-- The stores of a world that stands at a system are shown by it.
use Rattle.std.proofs.Common.{◌≡◌, ℕ, Some}
use Rattle.fare_scheme.specs.Values.{SchemeValue}
use Rattle.fare_world.specs.System.{System}
use Rattle.fare_world.specs.Shown.{OwnerShape, Shape, Shows}
use Rattle.fare_world.proofs.Showing.{owner_shown}
use Rattle.fare_refinement.specs.ShownStores.{ShowsOutbox, ShowsLedger}

pub outbox_shown : (sc : SchemeValue) (h : Shape) (s : System) → Shows sc h s → ShowsOutbox s h.outbox
outbox_shown sc h s w = record { upto = w.upto; rows = w.rows; row_count = w.row_count; stated = w.stated; stated_count = w.stated_count }

pub ledger_shown : (sc : SchemeValue) (h : Shape) (s : System) (o : ℕ) (y : OwnerShape) → Shows sc h s → h.owners o ≡ Some y → ShowsLedger sc s o y.ledger
ledger_shown sc h s o y w e =
    let p = owner_shown sc h s o y w e in
    record { ledger = p.ledger; taken = p.taken; stated = p.stated; closed = p.closed; retired = p.retired }
