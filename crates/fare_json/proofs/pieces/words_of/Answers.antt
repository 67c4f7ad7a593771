use Rattle.std.proofs.Common.{rules, tests, nat_lt, length}
use Rattle.std.proofs.lemmas.Iterator.Consumers.{YieldsList-at, YieldsList-from_filter, map_from_collect}
use Rattle.std.proofs.lemmas.Iterator.Splits.{YieldsList-from_slice_split}
use Rattle.fare_json.specs.Lines.{is_gap}
use Rattle.fare_json.proofs.pieces.words_of.Goals as goal

pub returns : goal.returns
returns c = map_from_collect _ c.collect.ensures.ran (YieldsList-from_filter _ (λ piece. nat_lt 0 (length piece)) (YieldsList-at c.filter.ensures.source (YieldsList-from_slice_split _ is_gap c.args.line.now c.split.ensures.rest c.split.ensures.done c.split.ensures.closure (λ x b q k. search (rules, tests)))) c.filter.ensures.closure (λ x b q k. search (rules, tests)))
