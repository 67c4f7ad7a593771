use Rattle.fare_lines.proofs.Printing.{never_both}
use Rattle.fare_lines.proofs.laws.read_or_bad.Goals as goal

pub returns : goal.returns
returns c = never_both
