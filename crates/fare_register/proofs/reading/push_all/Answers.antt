use Rattle.std.proofs.Common.{◌≡◌, ◌∙◌, ◌∷◌, [], ℕ, sym}
use Rattle.fare_scheme.specs.declared.entry.Product.{Product}
use Rattle.fare_scheme.specs.declared.entry.Placement.{Placement}
use Rattle.fare_setup.specs.SchemeLines.{product_lines}
use Rattle.fare_register.specs.Registers.{told, told_list, pair_numbers, one_number, product_numbers, device_numbers, owner_lines, operator_lines, station_lines, device_lines, FirstFits, IdFits, BothFit, OwnerFits, StationFits}
use Rattle.fare_register.proofs.Seven.{told_seven, all_read, pushed}
use Rattle.fare_register.proofs.reading.push_all.Goals as goal

pub returns : goal.returns
returns c =
    let lists = c.args.lists.now in
    let all : told lists ≡ told_list c.as_slice-6.result.now ∷ told_list c.as_slice-7.result.now ∷ told_list c.as_slice.result.now ∷ told_list c.as_slice-2.result.now ∷ told_list c.as_slice-3.result.now ∷ told_list c.as_slice-4.result.now ∷ told_list c.as_slice-5.result.now ∷ [] =
    told_seven lists _ _ _ _ _ _ _ _ _ _ _ _ _ _ c.in-len7.len_at_least c.in-len7.len_below c.settings-item.is c.rule-item.is c.owners-item.is c.operators-item.is c.stations-item.is c.products-item.is c.devices-item.is
    ∙ (λ i. told_list (sym c.as_slice-6.ensures.value i) ∷ told_list (sym c.as_slice-7.ensures.value i) ∷ told_list (sym c.as_slice.ensures.value i) ∷ told_list (sym c.as_slice-2.ensures.value i) ∷ told_list (sym c.as_slice-3.ensures.value i) ∷ told_list (sym c.as_slice-4.ensures.value i) ∷ told_list (sym c.as_slice-5.ensures.value i) ∷ []) in
    let owners = pushed (ℕ × ℕ) FirstFits pair_numbers owner_lines (told_list c.as_slice.result.now) c.args.lines.now.items c.push_owners.new.lines.items c.in_ok-push_owners.field-0 c.if-not-branch.false c.in_ok-push_owners.ensures in
    let operators = pushed ℕ IdFits one_number operator_lines (told_list c.as_slice-2.result.now) c.push_owners.new.lines.items c.push_operators.new.lines.items c.in_ok-push_operators.field-0 c.if-not-branch-2.false c.in_ok-push_operators.ensures in
    let stations = pushed (ℕ × ℕ) BothFit pair_numbers station_lines (told_list c.as_slice-3.result.now) c.push_operators.new.lines.items c.push_stations.new.lines.items c.in_ok-push_stations.field-0 c.if-not-branch-3.false c.in_ok-push_stations.ensures in
    let products = pushed (ℕ × Product) OwnerFits product_numbers product_lines (told_list c.as_slice-4.result.now) c.push_stations.new.lines.items c.push_products.new.lines.items c.in_ok-push_products.field-0 c.if-not-branch-4.false c.in_ok-push_products.ensures in
    let devices = pushed (ℕ × Placement) StationFits device_numbers device_lines (told_list c.as_slice-5.result.now) c.push_products.new.lines.items c.push_devices.new.lines.items c.in_ok-push_devices.field-0 c.if-not-branch-5.false c.in_ok-push_devices.ensures in
    all_read (told_list c.as_slice-6.result.now) (told_list c.as_slice-7.result.now) (told_list c.as_slice.result.now) (told_list c.as_slice-2.result.now) (told_list c.as_slice-3.result.now) (told_list c.as_slice-4.result.now) (told_list c.as_slice-5.result.now) (told lists) all
    c.push_settings.result c.args.lines.now.items _ _ _ _ _ c.push_settings.new.lines.items owners operators stations products devices c.push_settings.ensures
