use Rattle.std.proofs.Common.{rules, ◌≡◌, ◌+◌, ◌-◌, length, sym, ◌∙◌, ap, arith}
use Rattle.std.specs.Prelude.{slice_get, option_map}
use Rattle.fare_scheme.specs.Words.{id_at}
use Rattle.fare_growth.specs.declared.entry.Entry.TheVariants.{Owner, Operator, Station, Product, Device}
use Rattle.fare_growth.proofs.Named.{owner_at, operator_at, station_at, product_at, device_at}
use Rattle.fare_growth.proofs.registered.entry_at.Goals as goal

pub returns-then-place-operators : goal.returns-then-place-operators
returns-then-place-operators c =
    let mapped : c.map.result ≡ option_map Owner c.owner_at.result = search rules in
    mapped ∙ ap (option_map Owner) c.owner_at.ensures.value ∙ sym (owner_at c.args.scheme.now c.args.place (omega arith))

pub returns-then-place-stations : goal.returns-then-place-stations
returns-then-place-stations c =
    let s = c.args.scheme.now in
    let mapped : c.map-then-place-stations.result ≡ option_map Operator c.operator_at.result = search rules in
    let place : c.args.place - c.owner_count-operators.result ≡ c.args.place - length s.owners = omega arith in
    mapped ∙ ap (option_map Operator) (c.operator_at.ensures.value ∙ ap (slice_get s.operators) place) ∙ sym (operator_at s c.args.place (omega arith) (omega arith))

pub returns-then-place-products : goal.returns-then-place-products
returns-then-place-products c =
    let s = c.args.scheme.now in
    let mapped : c.map-then-place-products.result ≡ option_map Station c.station_at.result = search rules in
    let place : c.args.place - (c.owner_count-operators.result + c.operator_count.result) ≡ c.args.place - (length s.owners + length s.operators) = omega arith in
    mapped ∙ ap (option_map Station) (c.station_at.ensures.value ∙ ap (id_at s.stations) place) ∙ sym (station_at s c.args.place (omega arith) (omega arith))

pub returns-then-place-devices : goal.returns-then-place-devices
returns-then-place-devices c =
    let s = c.args.scheme.now in
    let mapped : c.map-then-place-devices.result ≡ option_map Product c.product_at.result = search rules in
    let place : c.args.place - (c.owner_count-operators.result + c.operator_count.result + c.station_count.result) ≡ c.args.place - (length s.owners + length s.operators + length s.stations) = omega arith in
    mapped ∙ ap (option_map Product) (c.product_at.ensures.value ∙ ap (id_at s.products) place) ∙ sym (product_at s c.args.place (omega arith) (omega arith))

pub returns-else-place-devices : goal.returns-else-place-devices
returns-else-place-devices c =
    let s = c.args.scheme.now in
    let mapped : c.map-else-place-devices.result ≡ option_map Device c.device_at.result = search rules in
    let place : c.args.place - (c.owner_count-operators.result + c.operator_count.result + c.station_count.result + c.product_count.result) ≡ c.args.place - (length s.owners + length s.operators + length s.stations + length s.products) = omega arith in
    mapped ∙ ap (option_map Device) (c.device_at.ensures.value ∙ ap (id_at s.devices) place) ∙ sym (device_at s c.args.place (omega arith))
