use Rattle.std.proofs.Common.{rules, ◌≡◌, List, refl, sym, ap, ◌∙◌}
use Rattle.std.specs.Prelude.{Result, Ok, Err, map}
use Rattle.fare_record.specs.Values.{RecordValue}
use Rattle.fare_cap.specs.Order.{in_order}
use Rattle.fare_settle.specs.Charges.{charges_of}
use Rattle.fare_settle.specs.Settling.{share_of, settlement_of}
use Rattle.fare_settle.specs.Values.{SettledValue}
use Rattle.fare_side.specs.declared.bill_fault.BillFault.{BillFault}
use Rattle.fare_world.specs.Billing.{basis, short_of, unless}
use Rattle.fare_world.proofs.Asks.{asks_say, asks_hand_on, asks_memory}
use Rattle.fare_world.proofs.world.World.settlement.Goals as goal

pub returns-in_err-basis : goal.returns-in_err-basis
returns-in_err-basis g c =
    let sc = c.args.self.now.scheme in
    let owner = c.args.owner in
    let day = c.args.day in
    asks_hand_on g.O.Outbox.standing g.L.Ledger.standing c.args.self.now c.basis.new.self _ _ _ _ c.from_residual.result c.in_err-basis.ensures c.from_residual.ensures.1
    (λ s why judged. sym (ap (λ (j : Result Unit BillFault). unless j (settlement_of sc (basis sc s owner day) day, short_of sc s owner day)) judged))

pub returns-in-Ok : goal.returns-in-Ok
returns-in-Ok g c =
    let sc = c.args.self.now.scheme in
    let owner = c.args.owner in
    let day = c.args.day in
    let week = c.in_ok-basis.field-0 in
    let same : c.deref.result.now ≡ week.taps.items = search rules in
    let short : c.into_parts-taps.result.1.items ≡ week.short.items = search rules in
    let of_order : List RecordValue → List SettledValue = λ records. map (share_of (charges_of sc records day)) sc.operators in
    let settlement : c.in-Ok.settlement ≡ of_order (in_order week.taps.items) = c.in-Ok.ensures ∙ (λ i. settlement_of (c.basis.ensures.scheme i) (same i) day) in
    asks_say g.O.Outbox.standing g.L.Ledger.standing c.args.self.now c.basis.new.self _ _ _ (Ok week) (Ok (c.in-Ok.settlement, c.into_parts-taps.result.1)) c.in_ok-basis.ensures refl refl
    (λ s is.
    (λ i. Ok ((settlement ∙ ap of_order is.1) i, (short ∙ is.2) i))
    ∙ sym (ap (λ (j : Result Unit BillFault). unless j (settlement_of sc (basis sc s owner day) day, short_of sc s owner day)) is.0))

pub returns : goal.returns
returns g c = asks_memory g.O.Outbox.standing g.L.Ledger.standing c.args.self.now c.basis.new.self _ _ _ c.in_ok-basis.field-0 c.in_ok-basis.ensures
