use Rattle.fare_lines.proofs.Utf8.{zone_is_utf8}
use Rattle.fare_lines.proofs.zone_text.ZoneText.read.Goals as goal

pub returns-in-Err-clause-none : goal.returns-in-Err-clause-none
returns-in-Err-clause-none c = λ word. c.in-Err.ensures.cases.0 (zone_is_utf8 _ word)
