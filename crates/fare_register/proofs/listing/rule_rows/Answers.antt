use Rattle.std.proofs.Common.{◌∙◌, ℕ, List, get_or, map, ap}
use Rattle.std.proofs.lemmas.List.{take_more, take_all}
use Rattle.fare_register.specs.Registers.{one_number}
use Rattle.fare_register.proofs.Entered.{more_rows}
use Rattle.fare_register.proofs.listing.rule_rows.Goals as goal

pub loop-byte-preserved : goal.loop-byte-preserved
loop-byte-preserved c =
    let bytes : List ℕ = c.as_bytes-byte-items.result.now in
    let k = c.loop-byte.byte-index in
    more_rows one_number bytes k (get_or bytes k 0) c.loop-byte.rows.items c.push.new.self.items c.in_ok-row.field-0 (take_more bytes k 0 c.loop-byte-test.true) c.loop-byte.invariant c.in_ok-push.ensures.items (let row = c.in_ok-row.ensures in let from = c.from.ensures in cc)

pub returns : goal.returns
returns c = c.loop-byte.invariant ∙ ap (map one_number) (take_all c.loop-byte.byte-index c.as_bytes-byte-items.result.now c.loop-byte-test.false ∙ c.as_bytes-byte-items.ensures.value ∙ c.as_str.ensures.is)
