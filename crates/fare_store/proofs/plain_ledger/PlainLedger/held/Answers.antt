use Rattle.std.proofs.Common.{◌≡◌, ℕ, ◌-◌, ◌+◌, List, length, nat_eq, Some, sym, ap, ◌∙◌}
use Rattle.std.specs.Prelude.{slice_get}
use Rattle.std.specs.HashMap.{get}
use Rattle.fare_record.specs.Values.{RecordValue}
use Rattle.fare_store.specs.TapPlaces.{items_of, gone_in}
use Rattle.fare_store.proofs.LettingGo.{length_filled, lane_of_last}
use Rattle.fare_store.proofs.plain_ledger.PlainLedger.held.Goals as goal

pub returns-in-Some-last : goal.returns-in-Some-last
returns-in-Some-last c =
    let l = c.args.self.now in
    let d = c.args.device in
    let gone : ℕ → ℕ = λ x. gone_in (get nat_eq l.gone x) in
    let held : ℕ → List RecordValue = λ x. items_of (get nat_eq l.taken x) in
    let items : c.deref.result.now ≡ held d = c.deref.ensures.value ∙ ap items_of c.in-Some.ensures.value in
    let last : slice_get (held d) (length (held d) - 1) ≡ Some c.in-Some-last.row.now = sym (c.in-Some-last.ensures.value ∙ ap (λ (xs : List RecordValue). slice_get xs (length xs - 1)) items) in
    let lane : c.in-Some-last.row.now.lane ≡ gone d + length (held d) = lane_of_last gone held d c.in-Some-last.row.now l.numbered last in
    c.lane.ensures.value ∙ lane ∙ sym (length_filled (gone d) (held d))
