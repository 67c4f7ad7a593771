use Rattle.std.proofs.Common.{◌∙◌, ap, map, sym}
use Rattle.fare_register.specs.Registers.{told_list, one_number}
use Rattle.fare_register.proofs.Ruled.{matched_some, matched_none, no_rule, ruled}
use Rattle.fare_register.proofs.reading.rule_of.Goals as goal

pub returns-in-Some : goal.returns-in-Some
returns-in-Some c =
    let are = matched_some c.in_ok-bytes.field-0 c.in-Some.bytes _ _ c.in-Some.is c.in_ok-bytes.ensures in
    ruled c.read.result (told_list c.args.rows.now) c.as_slice.result.now (are ∙ ap (map one_number) (sym c.as_slice.ensures.value)) c.read.ensures.found c.read.ensures.fits c.read.ensures.none

pub returns-in-None : goal.returns-in-None
returns-in-None c = no_rule (told_list c.args.rows.now) (matched_none c.in_ok-bytes.field-0 _ _ c.in-None.is c.in_ok-bytes.ensures)
