use Rattle.std.proofs.Common.{None}
use Rattle.fare_lines.specs.ZoneWord.{IsZoneText}
use Rattle.fare_lines.proofs.Spelling.{no_zone}
use Rattle.fare_lines.proofs.build.read_zone.Goals as goal

pub returns-in_default-clause-none : goal.returns-in_default-clause-none
returns-in_default-clause-none c =
    no_zone c.args.text.now c.cut_at.result.0.now c.cut_at.result.1.now c.cut_at.ensures (rw c.in_default.is at c.in_ok-rule.ensures.none)
