use Rattle.std.proofs.Common.{rules, tests, ◌==◌}
use Rattle.std.proofs.lemmas.Iterator.Search.{any_from_yields_List}
use Rattle.std.proofs.lemmas.Iterator.Splits.{YieldsList-from_slice_split}
use Rattle.fare_request.specs.Forms.{names_json}
use Rattle.fare_request.proofs.form.has_json.Goals as goal

pub returns : goal.returns
returns c = any_from_yields_List names_json _ _ _ c.any.ensures.ran (YieldsList-from_slice_split _ (λ byte. byte == 44) c.args.ranges.now c.split.ensures.rest c.split.ensures.done c.split.ensures.closure (λ x b q k. search (rules, tests))) (λ x b q k. search (rules, tests))
