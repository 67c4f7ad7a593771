use Rattle.std.proofs.Common.{◌≡◌, sym, refl}
use Rattle.std.specs.Vec.{with_item}
use Rattle.fare_store.specs.Standing.{fault_of}
use Rattle.fare_sessions.specs.declared.hub.Hub.{Hub}
use Rattle.fare_sessions.proofs.Going.{one_replaced}
use Rattle.fare_sessions.proofs.NextClose.{read_reads, read_tells}
use Rattle.fare_desk.proofs.Asked.{asks_read, value_told}
use Rattle.fare_desk.proofs.Causes.{at_work, counted_owner}
use Rattle.fare_desk.proofs.standing.ask_held_from.Goals as goal

pub returns-clause-asks : goal.returns-clause-asks
returns-clause-asks g c =
    let old = c.args.hub.now in
    let new : Hub g.row.O.Denot g.row.L.Denot = record { scheme = old.scheme; outbox = old.outbox; ledgers = with_item old.ledgers c.in-Some.at c.held_from.new.self } in
    let r = one_replaced old new c.args.owner c.in-Some.at c.index_mut.result.now c.held_from.new.self (sym c.in-Some.ensures.value) c.requires.ledgers c.index_mut.ensures.value refl refl in
    asks_read g.O.Outbox.standing g.L.Ledger.standing old new (read_reads g.O.Outbox.standing g.L.Ledger.standing old new c.args.owner r refl (g.met.L.Ledger.sound c.index_mut.result.now) (λ v from. from ≡ v.from c.args.device) c.held_from.result c.held_from.ensures)

pub returns-clause-cause : goal.returns-clause-cause
returns-clause-cause g c =
    let old = c.args.hub.now in
    let new : Hub g.row.O.Denot g.row.L.Denot = record { scheme = old.scheme; outbox = old.outbox; ledgers = with_item old.ledgers c.in-Some.at c.held_from.new.self } in
    let r = one_replaced old new c.args.owner c.in-Some.at c.index_mut.result.now c.held_from.new.self (sym c.in-Some.ensures.value) c.requires.ledgers c.index_mut.ensures.value refl refl in
    counted_owner g.O.Outbox.standing g.L.Ledger.standing old new c.args.owner (fault_of c.held_from.result) r refl c.held_from.ensures.cause

pub returns-clause-works : goal.returns-clause-works
returns-clause-works g c =
    let old = c.args.hub.now in
    let new : Hub g.row.O.Denot g.row.L.Denot = record { scheme = old.scheme; outbox = old.outbox; ledgers = with_item old.ledgers c.in-Some.at c.held_from.new.self } in
    let r = one_replaced old new c.args.owner c.in-Some.at c.index_mut.result.now c.held_from.new.self (sym c.in-Some.ensures.value) c.requires.ledgers c.index_mut.ensures.value refl refl in
    at_work g.O.Outbox.standing g.L.Ledger.standing old new c.args.owner r c.held_from.result c.held_from.ensures.stays

pub returns-clause-tells : goal.returns-clause-tells
returns-clause-tells g c =
    let old = c.args.hub.now in
    let new : Hub g.row.O.Denot g.row.L.Denot = record { scheme = old.scheme; outbox = old.outbox; ledgers = with_item old.ledgers c.in-Some.at c.held_from.new.self } in
    let r = one_replaced old new c.args.owner c.in-Some.at c.index_mut.result.now c.held_from.new.self (sym c.in-Some.ensures.value) c.requires.ledgers c.index_mut.ensures.value refl refl in
    λ clean sound. value_told g.O.Outbox.standing g.L.Ledger.standing old c.args.owner (λ v from. from ≡ v.from c.args.device) c.held_from.result (read_tells g.O.Outbox.standing g.L.Ledger.standing old new c.args.owner r refl (g.met.L.Ledger.sound c.index_mut.result.now) (λ v from. from ≡ v.from c.args.device) c.held_from.result c.held_from.ensures clean sound)
