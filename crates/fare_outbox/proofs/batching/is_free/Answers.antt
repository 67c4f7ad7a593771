use Rattle.std.proofs.Common.{◌≡◌, false, ap, sym, ◌∙◌, rules, tests}
use Rattle.std.specs.List.{list_any}
use Rattle.std.proofs.lemmas.Iterator.{YieldsList-from_slice}
use Rattle.std.proofs.lemmas.Iterator.Search.{any_from_yields_List}
use Rattle.fare_record.specs.Values.{RecordValue}
use Rattle.fare_outbox.specs.Words.{tap_key, is_at}
use Rattle.fare_outbox.proofs.Batches.{none_of}
use Rattle.fare_outbox.proofs.batching.is_free.Goals as goal

pub returns : goal.returns
returns c = λ free.
    let r = c.args.other.now in
    let at = λ (x : RecordValue). is_at tap_key r.owner r.device r.lane x in
    let any : c.any.result ≡ list_any at c.args.rows.now = any_from_yields_List at _ _ _ c.any.ensures.ran (YieldsList-from_slice c.args.rows.now cc) (λ x b q k. search (rules, tests)) in
    let none : c.any.result ≡ false = search (rules, tests, free) in
    none_of at c.args.rows.now (sym any ∙ none)
