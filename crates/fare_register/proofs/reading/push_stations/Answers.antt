use Rattle.std.proofs.Common.{◌≡◌, ◌∙◌, ◌+◌, ◌++◌, ◌∷◌, [], ℕ, List, Vec, Global, take, ap, sym, subst}
use Rattle.std.proofs.lemmas.List.{take_more, take_all}
use Rattle.fare_register.specs.Registers.{told_list, BothFit, pair_numbers, station_lines, ArePushed}
use Rattle.fare_register.proofs.Pushing.{none_pushed, one_pushed, no_entry}
use Rattle.fare_register.proofs.reading.push_stations.Goals as goal

pub loop-row-init : goal.loop-row-init
loop-row-init c = none_pushed (ℕ × ℕ) BothFit pair_numbers station_lines c.args.lines.now.items

pub loop-row-preserved : goal.loop-row-preserved
loop-row-preserved c =
    let rows : List (Vec ℕ Global) = c.args.rows.now in
    let k = c.loop-row.row-index in
    let r : Vec ℕ Global = c.row-item.result in
    let more : take (k + 1) rows ≡ take k rows ++ r ∷ [] = take_more rows k r c.loop-row-test.true ∙ ap (λ x. take k rows ++ x ∷ []) (sym c.row-item.is) in
    one_pushed (ℕ × ℕ) BothFit pair_numbers station_lines rows k r (c.in-Some.station, c.in-Some.operator) c.args.lines.now.items c.loop-row.lines.items c.push.new.self.items more (c.in-Some.ensures.0, c.in-Some.ensures.1) (sym c.as_slice.ensures.value ∙ c.in-Some.ensures.2) c.in_ok-push.ensures.items c.loop-row.invariant

pub returns-in_default : goal.returns-in_default
returns-in_default c = no_entry (ℕ × ℕ) BothFit pair_numbers station_lines c.args.rows.now c.loop-row.row-index c.row-item.result c.row-item.result c.loop-row-test.true c.row-item.is (λ x room is. c.in_default.ensures x.0 x.1 room.0 room.1 (c.as_slice.ensures.value ∙ is))

pub returns : goal.returns
returns c = subst (λ (xs : List (Vec ℕ Global)). ArePushed (ℕ × ℕ) BothFit pair_numbers station_lines (told_list xs) c.args.lines.now.items c.loop-row.lines.items) (take_all c.loop-row.row-index c.args.rows.now c.loop-row-test.false) c.loop-row.invariant
