use Rattle.std.proofs.Common.{◌≡◌, sym, refl}
use Rattle.std.specs.Vec.{with_item}
use Rattle.fare_store.specs.Standing.{fault_of}
use Rattle.fare_store.specs.LedgerWords.{gone_of}
use Rattle.fare_sessions.specs.declared.hub.Hub.{Hub}
use Rattle.fare_sessions.proofs.Going.{one_replaced}
use Rattle.fare_sessions.proofs.NextClose.{read_reads, read_tells}
use Rattle.fare_desk.proofs.Asked.{asks_read, value_told}
use Rattle.fare_desk.proofs.Causes.{counted_owner}
use Rattle.fare_desk.proofs.forgetting.ask_gone.Goals as goal

pub returns-clause-asks : goal.returns-clause-asks
returns-clause-asks g c =
    let old = c.args.hub.now in
    let new : Hub g.row.O.Denot g.row.L.Denot = record { scheme = old.scheme; outbox = old.outbox; ledgers = with_item old.ledgers c.in-Some.at c.gone.new.self } in
    let r = one_replaced old new c.args.owner c.in-Some.at c.index_mut.result.now c.gone.new.self (sym c.in-Some.ensures.value) c.requires.ledgers c.index_mut.ensures.value refl refl in
    asks_read g.O.Outbox.standing g.L.Ledger.standing old new (read_reads g.O.Outbox.standing g.L.Ledger.standing old new c.args.owner r refl (g.met.L.Ledger.sound c.index_mut.result.now) (λ v gone. gone ≡ gone_of (v.taken c.args.device)) c.gone.result c.gone.ensures)

pub returns-clause-cause : goal.returns-clause-cause
returns-clause-cause g c =
    let old = c.args.hub.now in
    let new : Hub g.row.O.Denot g.row.L.Denot = record { scheme = old.scheme; outbox = old.outbox; ledgers = with_item old.ledgers c.in-Some.at c.gone.new.self } in
    let r = one_replaced old new c.args.owner c.in-Some.at c.index_mut.result.now c.gone.new.self (sym c.in-Some.ensures.value) c.requires.ledgers c.index_mut.ensures.value refl refl in
    counted_owner g.O.Outbox.standing g.L.Ledger.standing old new c.args.owner (fault_of c.gone.result) r refl c.gone.ensures.cause

pub returns-clause-tells : goal.returns-clause-tells
returns-clause-tells g c =
    let old = c.args.hub.now in
    let new : Hub g.row.O.Denot g.row.L.Denot = record { scheme = old.scheme; outbox = old.outbox; ledgers = with_item old.ledgers c.in-Some.at c.gone.new.self } in
    let r = one_replaced old new c.args.owner c.in-Some.at c.index_mut.result.now c.gone.new.self (sym c.in-Some.ensures.value) c.requires.ledgers c.index_mut.ensures.value refl refl in
    λ clean sound. value_told g.O.Outbox.standing g.L.Ledger.standing old c.args.owner (λ v gone. gone ≡ gone_of (v.taken c.args.device)) c.gone.result (read_tells g.O.Outbox.standing g.L.Ledger.standing old new c.args.owner r refl (g.met.L.Ledger.sound c.index_mut.result.now) (λ v gone. gone ≡ gone_of (v.taken c.args.device)) c.gone.result c.gone.ensures clean sound)
