use Rattle.fare_growth.proofs.Found.{no_owner, no_operator, no_station, no_product, no_device, an_owner, an_operator, a_station, a_product, a_device}
use Rattle.fare_growth.proofs.registered.Registered.of.Goals as goal
use Rattle.fare_growth.proofs.registered.Registered.of.Goals.{in-Owner+in_ok-owner_position-in-Owner, in-Operator+in_ok-operator_position-in-Operator, in-Station+in_ok-operator-in-Station+in_ok-station_position-in-Station, in-Product+in_ok-owner_of-in-Product+in_ok-tariff_of-in-Product+in_ok-product_position-in-Product, in-Device+in_ok-station_of-in-Device+in_ok-device_position-in-Device}

pub returns-in_err-owner_position-in-Owner : goal.returns-in_err-owner_position-in-Owner
returns-in_err-owner_position-in-Owner c =
    no_owner c.args.scheme.now c.args.entry.now c.in-Owner.owner c.from_residual.result c.from_residual.ensures c.in-Owner.is c.in_err-owner_position-in-Owner.ensures.value

pub returns-in_err-operator_position-in-Operator : goal.returns-in_err-operator_position-in-Operator
returns-in_err-operator_position-in-Operator c =
    no_operator c.args.scheme.now c.args.entry.now c.in-Operator.operator c.from_residual-in_err-operator_position-in-Operator.result c.from_residual-in_err-operator_position-in-Operator.ensures
    c.in-Operator.is c.in_err-operator_position-in-Operator.ensures.value

pub returns-in_err-operator-in-Station : goal.returns-in_err-operator-in-Station
returns-in_err-operator-in-Station c =
    no_station c.args.scheme.now c.args.entry.now c.in-Station.station c.from_residual-in_err-operator-in-Station.result c.from_residual-in_err-operator-in-Station.ensures
    c.in-Station.is c.in_err-operator-in-Station.ensures.value

pub returns-in_err-owner_of-in-Product : goal.returns-in_err-owner_of-in-Product
returns-in_err-owner_of-in-Product c =
    no_product c.args.scheme.now c.args.entry.now c.in-Product.product c.from_residual-in_err-owner_of-in-Product.result c.from_residual-in_err-owner_of-in-Product.ensures
    c.in-Product.is c.in_err-owner_of-in-Product.ensures.value

pub returns-in_err-station_of-in-Device : goal.returns-in_err-station_of-in-Device
returns-in_err-station_of-in-Device c =
    no_device c.args.scheme.now c.args.entry.now c.in-Device.device c.from_residual-in_err-station_of-in-Device.result c.from_residual-in_err-station_of-in-Device.ensures
    c.in-Device.is c.in_err-station_of-in-Device.ensures.value

pub returns : goal.returns
returns c =
    let scheme = c.args.scheme.now in
    let entry = c.args.entry.now in
    let position = c.match-entry.position in
    elim c.match-entry.branch [
      | in-Owner+in_ok-owner_position-in-Owner w ↦ an_owner scheme entry w.in-Owner.owner position w.in_ok-owner_position-in-Owner.field-0
          w.in-Owner.is w.in_ok-owner_position-in-Owner.ensures.value w.position-is
      | in-Operator+in_ok-operator_position-in-Operator w ↦ an_operator scheme entry w.in-Operator.operator position w.in_ok-operator_position-in-Operator.field-0
          w.in-Operator.is w.in_ok-operator_position-in-Operator.ensures.value w.position-is
      | in-Station+in_ok-operator-in-Station+in_ok-station_position-in-Station w ↦ a_station scheme entry w.in-Station.station position w.in_ok-station_position-in-Station.field-0
          w.in_ok-operator-in-Station.operator w.in-Station.is w.in_ok-station_position-in-Station.ensures.value w.in_ok-operator-in-Station.ensures.value w.position-is
      | in-Product+in_ok-owner_of-in-Product+in_ok-tariff_of-in-Product+in_ok-product_position-in-Product w ↦ a_product scheme entry w.in-Product.product position w.in_ok-product_position-in-Product.field-0
          w.in_ok-owner_of-in-Product.field-0 w.in_ok-tariff_of-in-Product.field-0 w.in-Product.is w.in_ok-product_position-in-Product.ensures.value w.in_ok-owner_of-in-Product.ensures.value
          w.in_ok-tariff_of-in-Product.ensures.value w.position-is
      | in-Device+in_ok-station_of-in-Device+in_ok-device_position-in-Device w ↦ a_device scheme entry w.in-Device.device position w.in_ok-device_position-in-Device.field-0
          w.in_ok-station_of-in-Device.field-0 w.in-Device.is w.in_ok-device_position-in-Device.ensures.value w.in_ok-station_of-in-Device.ensures.value w.position-is
    ]
