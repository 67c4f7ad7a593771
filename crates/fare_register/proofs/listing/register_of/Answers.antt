use Rattle.std.proofs.Common.{[], ap}
use Rattle.fare_register.specs.Registers.{told}
use Rattle.fare_register.proofs.listing.register_of.Goals as goal

pub returns : goal.returns
returns c =
    let one = c.with_list-lists.ensures [] _ (ap told c.new.ensures.items) c.setting_rows.ensures in
    let two = c.with_list-lists-2.ensures _ _ one c.rule_rows.ensures in
    let three = c.with_list-lists-3.ensures _ _ two c.owner_rows.ensures in
    let four = c.with_list-lists-4.ensures _ _ three c.operator_rows.ensures in
    let five = c.with_list-lists-5.ensures _ _ four c.station_rows.ensures in
    let six = c.with_list-lists-6.ensures _ _ five c.product_rows.ensures in
    c.with_list.ensures _ _ six c.device_rows.ensures
