use Rattle.std.proofs.Common.{◌≡◌, List, Some, refl, sym, ap, ◌∙◌, subst, arith}
use Rattle.std.specs.Vec.{with_items}
use Rattle.std.proofs.lemmas.List.{with_items_is}
use Rattle.fare_store.specs.declared.fault.Fault.TheVariants as fault
use Rattle.fare_world.specs.Making.{AreKept, WhyRefused, MayBeMade, store_fault}
use Rattle.fare_world.proofs.Emptiness.{kept_beside_all}
use Rattle.fare_world.proofs.Made.{fresh_rooms, starts}
use Rattle.fare_world.proofs.world.World.new.Goals as goal

pub returns-in-Err-clause-refused : goal.returns-in-Err-clause-refused
returns-in-Err-clause-refused g c =
    let out = g.O.Outbox.standing in
    let led = g.L.Ledger.standing in
    let same : c.deref_mut.result.now ≡ c.args.ledgers.items = c.deref_mut.ensures.value in
    let written : (with_items c.args.ledgers c.judge.new.ledgers).items ≡ c.judge.new.ledgers = with_items_is c.args.ledgers c.judge.new.ledgers (omega (arith, c.judge.auto.ledgers, c.deref_mut.ensures.len)) in
    record {
      scheme = refl;
      stores = subst (λ (p : List g.row.L.Denot × List g.row.L.Denot). AreKept out led c.args.outbox p.0 c.judge.new.outbox p.1 (store_fault c.in-Err.fault)) (λ i. (same i, sym written i)) c.in-Err.ensures.kept;
      why = subst (λ (p : List g.row.L.Denot × List g.row.L.Denot). WhyRefused out led c.args.scheme c.args.outbox p.0 c.judge.new.outbox p.1 c.in-Err.fault) (λ i. (same i, sym written i)) c.in-Err.ensures.why;
    }

pub returns-in_default-fresh_parts-clause-refused : goal.returns-in_default-fresh_parts-clause-refused
returns-in_default-fresh_parts-clause-refused g c =
    let out = g.O.Outbox.standing in
    let led = g.L.Ledger.standing in
    let same : c.deref_mut.result.now ≡ c.args.ledgers.items = c.deref_mut.ensures.value in
    let written : (with_items c.args.ledgers c.judge.new.ledgers).items ≡ c.judge.new.ledgers = with_items_is c.args.ledgers c.judge.new.ledgers (omega (arith, c.judge.auto.ledgers, c.deref_mut.ensures.len)) in
    let made = subst (λ (p : List g.row.L.Denot × List g.row.L.Denot). MayBeMade out led c.args.scheme c.args.outbox p.0 c.judge.new.outbox p.1) (λ i. (same i, sym written i)) c.in_default.ensures.may_be in
    record { scheme = refl; stores = kept_beside_all out led c.args.outbox c.args.ledgers.items c.judge.new.outbox (with_items c.args.ledgers c.judge.new.ledgers).items (Some fault.Memory) made.stores; why = made.owned }

pub invariant_of-result : goal.invariant_of-result
invariant_of-result g c = record { rooms = fresh_rooms c.args.scheme c.in-Ok.fresh (with_items c.args.ledgers c.judge.new.ledgers).items c.joined.result.items c.in-Ok.ensures c.joined.ensures }

pub returns-clause-made : goal.returns-clause-made
returns-clause-made g c =
    let out = g.O.Outbox.standing in
    let led = g.L.Ledger.standing in
    let same : c.deref_mut.result.now ≡ c.args.ledgers.items = c.deref_mut.ensures.value in
    let written : (with_items c.args.ledgers c.judge.new.ledgers).items ≡ c.judge.new.ledgers = with_items_is c.args.ledgers c.judge.new.ledgers (omega (arith, c.judge.auto.ledgers, c.deref_mut.ensures.len)) in
    let now = c.joined.ensures.ledgers_are ∙ written in
    subst (λ (p : List g.row.L.Denot × List g.row.L.Denot). MayBeMade out led c.args.scheme c.args.outbox p.0 c.judge.new.outbox p.1) (λ i. (same i, sym now i)) c.in_default.ensures.may_be

pub returns-clause-start : goal.returns-clause-start
returns-clause-start g c ready =
    let out = g.O.Outbox.standing in
    let led = g.L.Ledger.standing in
    let same : c.deref_mut.result.now ≡ c.args.ledgers.items = c.deref_mut.ensures.value in
    let written : (with_items c.args.ledgers c.judge.new.ledgers).items ≡ c.judge.new.ledgers = with_items_is c.args.ledgers c.judge.new.ledgers (omega (arith, c.judge.auto.ledgers, c.deref_mut.ensures.len)) in
    let now = c.joined.ensures.ledgers_are ∙ written in
    let made = subst (λ (p : List g.row.L.Denot × List g.row.L.Denot). MayBeMade out led c.args.scheme c.args.outbox p.0 c.judge.new.outbox p.1) (λ i. (same i, sym now i)) c.in_default.ensures.may_be in
    let fresh = c.in-Ok.ensures in
    starts out led c.args.outbox c.args.ledgers.items c.in-Ok.fresh.sides.items _ ready made fresh.devices fresh.stations c.new.ensures.items (ap (λ b. b.items) fresh.inbox) refl fresh.sides c.joined.ensures.sides_are c.joined.ensures.hands
