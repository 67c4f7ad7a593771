use Rattle.std.proofs.Common.{◌∙◌, ap, sym}
use Rattle.std.specs.Prelude.{slice_get}
use Rattle.fare_scheme.proofs.Slices.{item_at}
use Rattle.fare_register.specs.Registers.{one_number}
use Rattle.fare_register.proofs.Entered.{one_row}
use Rattle.fare_register.proofs.listing.operator_rows.Goals as goal

pub loop-operator-preserved : goal.loop-operator-preserved
loop-operator-preserved c =
    one_row one_number c.args.scheme.now.operators c.loop-operator.operator-index c.operator-item.result c.loop-operator.rows.items c.push.new.self.items c.in_ok-row.field-0 (sym (ap (λ ids. slice_get ids c.loop-operator.operator-index) (sym c.operators-operator-items.ensures.value) ∙ item_at c.operators-operator-items.result.now c.loop-operator.operator-index c.operator-item.result c.loop-operator-test.true c.operator-item.is)) c.loop-operator.invariant c.in_ok-push.ensures.items
    (let row = c.in_ok-row.ensures in let from = c.from.ensures in let got = c.get.ensures.value in cc)
