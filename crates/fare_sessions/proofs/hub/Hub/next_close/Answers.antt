use Rattle.std.proofs.Common.{◌≡◌, sym, refl}
use Rattle.std.specs.Vec.{with_item}
use Rattle.fare_sessions.specs.declared.hub.Hub.{Hub}
use Rattle.fare_sessions.specs.Billing.{IsToClose}
use Rattle.fare_sessions.proofs.Going.{one_replaced}
use Rattle.fare_sessions.proofs.NextClose.{read_reads, read_tells, tells_to_close}
use Rattle.fare_sessions.proofs.hub.Hub.next_close.Goals as goal

pub returns-clause-reads : goal.returns-clause-reads
returns-clause-reads g c =
    let old = c.args.self.now in
    let new : Hub g.row.O.Denot g.row.L.Denot = record { scheme = old.scheme; outbox = old.outbox; ledgers = with_item old.ledgers c.in-Some.at c.next_stated.new.ledger } in
    let r = one_replaced old new c.args.owner c.in-Some.at c.index_mut.result.now c.next_stated.new.ledger (sym c.in-Some.ensures.value) c.requires.ledgers c.index_mut.ensures.value refl refl in
    read_reads g.O.Outbox.standing g.L.Ledger.standing old new c.args.owner r refl (g.met.L.Ledger.sound c.index_mut.result.now) (λ v day. v.start ≡ c.start.result → IsToClose v c.args.device day) c.next_stated.result c.next_stated.ensures

pub returns-clause-answer : goal.returns-clause-answer
returns-clause-answer g c =
    let old = c.args.self.now in
    let new : Hub g.row.O.Denot g.row.L.Denot = record { scheme = old.scheme; outbox = old.outbox; ledgers = with_item old.ledgers c.in-Some.at c.next_stated.new.ledger } in
    let r = one_replaced old new c.args.owner c.in-Some.at c.index_mut.result.now c.next_stated.new.ledger (sym c.in-Some.ensures.value) c.requires.ledgers c.index_mut.ensures.value refl refl in
    λ clean sound known. tells_to_close g.O.Outbox.standing g.L.Ledger.standing old c.args.owner c.args.device c.start.result c.start.ensures.value c.next_stated.result
    (read_tells g.O.Outbox.standing g.L.Ledger.standing old new c.args.owner r refl (g.met.L.Ledger.sound c.index_mut.result.now) (λ v day. v.start ≡ c.start.result → IsToClose v c.args.device day) c.next_stated.result c.next_stated.ensures clean sound)

pub returns-clause-cause : goal.returns-clause-cause
returns-clause-cause g c =
    let old = c.args.self.now in
    let new : Hub g.row.O.Denot g.row.L.Denot = record { scheme = old.scheme; outbox = old.outbox; ledgers = with_item old.ledgers c.in-Some.at c.next_stated.new.ledger } in
    λ known. record { one = one_replaced old new c.args.owner c.in-Some.at c.index_mut.result.now c.next_stated.new.ledger (sym c.in-Some.ensures.value) c.requires.ledgers c.index_mut.ensures.value refl refl; cause = c.next_stated.ensures.cause }
