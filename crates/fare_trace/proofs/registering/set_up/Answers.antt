use Rattle.fare_scheme.specs.Registering.{owner_refusal, operator_refusal, station_refusal, product_refusal, device_refusal, with_owner, with_operator, with_station, with_product, with_device}
use Rattle.fare_trace.proofs.Answering.{addition}
use Rattle.fare_trace.proofs.registering.set_up.Goals as goal

pub returns-in-Owner : goal.returns-in-Owner
returns-in-Owner c =
    let is = c.add_owner-added.ensures in
    rw c.in-Owner.is (addition c.args.draft c.add_owner-added.new.self (with_owner c.args.draft c.in-Owner.owner c.in-Owner.lane) c.args.used (owner_refusal c.args.draft c.in-Owner.owner c.in-Owner.lane)
    c.add_owner-added.result c.after_adding.result is.allowed is.added is.refused is.unchanged c.after_adding.ensures)

pub returns-in-Operator : goal.returns-in-Operator
returns-in-Operator c =
    let is = c.add_operator-added.ensures in
    rw c.in-Operator.is (addition c.args.draft c.add_operator-added.new.self (with_operator c.args.draft c.in-Operator.operator) c.args.used (operator_refusal c.args.draft c.in-Operator.operator)
    c.add_operator-added.result c.after_adding-in-Operator.result is.allowed is.added is.refused is.unchanged c.after_adding-in-Operator.ensures)

pub returns-in-Station : goal.returns-in-Station
returns-in-Station c =
    let is = c.add_station-added.ensures in
    rw c.in-Station.is (addition c.args.draft c.add_station-added.new.self (with_station c.args.draft c.in-Station.station c.in-Station.operator) c.args.used (station_refusal c.args.draft c.in-Station.station c.in-Station.operator)
    c.add_station-added.result c.after_adding-in-Station.result is.allowed is.added is.refused is.unchanged c.after_adding-in-Station.ensures)

pub returns-in-Product : goal.returns-in-Product
returns-in-Product c =
    let is = c.add_product-added.ensures in
    rw c.in-Product.is (addition c.args.draft c.add_product-added.new.self (with_product c.args.draft c.in-Product.product c.in-Product.owner c.in-Product.fare) c.args.used (product_refusal c.args.draft c.in-Product.product c.in-Product.owner c.in-Product.fare)
    c.add_product-added.result c.after_adding-in-Product.result is.allowed is.added is.refused is.unchanged c.after_adding-in-Product.ensures)

pub returns-in-Device : goal.returns-in-Device
returns-in-Device c =
    let is = c.add_device-added.ensures in
    rw c.in-Device.is (addition c.args.draft c.add_device-added.new.self (with_device c.args.draft c.in-Device.device c.in-Device.station c.in-Device.buffer) c.args.used (device_refusal c.args.draft c.in-Device.device c.in-Device.station c.in-Device.buffer)
    c.add_device-added.result c.after_adding-in-Device.result is.allowed is.added is.refused is.unchanged c.after_adding-in-Device.ensures)
