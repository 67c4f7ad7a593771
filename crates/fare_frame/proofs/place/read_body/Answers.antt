use Rattle.std.proofs.Common.{rules, ◌∙◌}
use Rattle.fare_frame.proofs.Frames.{with_route}
use Rattle.fare_frame.proofs.place.read_body.Goals as goal

pub returns-in_ok-decode_routed-in-Some-first_chunk-5-clause-spelled : goal.returns-in_ok-decode_routed-in-Some-first_chunk-5-clause-spelled
returns-in_ok-decode_routed-in-Some-first_chunk-5-clause-spelled c =
    let r = c.in_ok-decode_routed-in-Some-first_chunk-5.field-0 in
    let is = with_route r c.in_ok-decode_routed-in-Some-first_chunk-5.ensures.routed in
    (is.0 ∙ search rules, is.1 ∙ search rules)
