use Rattle.std.proofs.Common.{ℕ, List, nat_eq, sym, ◌∙◌}
use Rattle.std.specs.HashMap.{get}
use Rattle.fare_record.specs.Values.{RecordValue}
use Rattle.fare_store.specs.TapPlaces.{items_of, gone_in}
use Rattle.fare_store.proofs.LettingGo.{front_gone}
use Rattle.fare_store.proofs.plain_ledger.PlainLedger.gone_count.Goals as goal

pub returns : goal.returns
returns c =
    let l = c.args.self.now in
    let gone : ℕ → ℕ = λ x. gone_in (get nat_eq l.gone x) in
    let held : ℕ → List RecordValue = λ x. items_of (get nat_eq l.taken x) in
    c.gone_of.ensures.count ∙ sym (front_gone gone held c.args.device l.numbered)
