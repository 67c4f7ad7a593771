use Rattle.std.proofs.Common.{sym}
use Rattle.fare_lines.proofs.Cuts.{cuts_at_none}
use Rattle.fare_lines.proofs.cut.cut_at_no_digit.Goals as goal

pub returns-in-None : goal.returns-in-None
returns-in-None c = cuts_at_none _ c.args.text.now (sym c.in-None.ensures.is)
