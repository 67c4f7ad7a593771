use Rattle.std.proofs.Common.{◌≡◌, ℕ, ◌-◌, ◌+◌, List, length, nat_eq, Some, refl, sym, ap, ◌∙◌, arith}
use Rattle.std.specs.Prelude.{slice_get}
use Rattle.std.specs.HashMap.{get}
use Rattle.std.proofs.lemmas.Option.{slice_get_read}
use Rattle.fare_record.specs.Values.{RecordValue}
use Rattle.fare_store.specs.TapPlaces.{items_of, gone_in}
use Rattle.fare_store.proofs.LettingGo.{lane_of_place}
use Rattle.fare_store.proofs.plain_ledger.PlainLedger.lane_behind.Goals as goal

pub returns-clause-lane : goal.returns-clause-lane
returns-clause-lane c =
    let l = c.args.self.now in
    let d = c.args.device in
    let gone : ℕ → ℕ = λ x. gone_in (get nat_eq l.gone x) in
    let held : ℕ → List RecordValue = λ x. items_of (get nat_eq l.taken x) in
    let items : c.deref.result.now ≡ held d = c.deref.ensures.value ∙ ap items_of c.in-Some.ensures.value in
    let found : slice_get (c.deref.result.now) (c.args.more - 1) ≡ Some c.in-Some-get.row.now = let w = c.in-Some-get.ensures.lookup in slice_get_read c.deref.result.now (length c.deref.result.now) (c.args.more - 1) c.in-Some-get.row.now refl w.3.0 w.1 in
    let at : slice_get (held d) (c.args.more - 1) ≡ Some c.in-Some-get.row.now = ap (λ (xs : List RecordValue). slice_get xs (c.args.more - 1)) (sym items) ∙ found in
    let lane : c.in-Some-get.row.now.lane ≡ gone d + (c.args.more - 1) + 1 = lane_of_place gone held d (c.args.more - 1) c.in-Some-get.row.now l.numbered at in
    omega (arith, c.lane.ensures.value, lane, c.requires.gone, c.if-more-eq0.false)
