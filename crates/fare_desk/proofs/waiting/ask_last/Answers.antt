use Rattle.std.proofs.Common.{refl}
use Rattle.fare_store.specs.Standing.{fault_of}
use Rattle.fare_sessions.specs.declared.hub.Hub.{Hub}
use Rattle.fare_desk.specs.Waiting.{IsLast}
use Rattle.fare_desk.proofs.Asked.{asks_outbox, outbox_tells}
use Rattle.fare_desk.proofs.Causes.{counted_outbox}
use Rattle.fare_desk.proofs.waiting.ask_last.Goals as goal

pub returns-clause-asks : goal.returns-clause-asks
returns-clause-asks g c =
    let old = c.args.hub.now in
    let new : Hub g.row.O.Denot g.row.L.Denot = record { scheme = old.scheme; outbox = c.last_behind.new.outbox; ledgers = old.ledgers } in
    asks_outbox g.O.Outbox.standing g.L.Ledger.standing old new refl refl (g.met.O.Outbox.sound old.outbox) (λ x last. IsLast (x.rows c.args.owner c.args.device) c.args.after last) c.last_behind.result c.last_behind.ensures

pub returns-clause-cause : goal.returns-clause-cause
returns-clause-cause g c =
    let old = c.args.hub.now in
    let new : Hub g.row.O.Denot g.row.L.Denot = record { scheme = old.scheme; outbox = c.last_behind.new.outbox; ledgers = old.ledgers } in
    counted_outbox g.O.Outbox.standing g.L.Ledger.standing old new (fault_of c.last_behind.result) refl c.last_behind.ensures.cause

pub returns-clause-tells : goal.returns-clause-tells
returns-clause-tells g c =
    let old = c.args.hub.now in
    let new : Hub g.row.O.Denot g.row.L.Denot = record { scheme = old.scheme; outbox = c.last_behind.new.outbox; ledgers = old.ledgers } in
    λ clean sound. outbox_tells g.O.Outbox.standing g.L.Ledger.standing old new refl refl (g.met.O.Outbox.sound old.outbox) (λ x last. IsLast (x.rows c.args.owner c.args.device) c.args.after last) c.last_behind.result c.last_behind.ensures clean sound
