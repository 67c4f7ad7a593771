use Rattle.std.proofs.Common.{◌∙◌}
use Rattle.fare_lists.proofs.Widths.{other_width}
use Rattle.fare_lists.proofs.fitting.is_wide.Goals as goal

pub returns-then-len-columns : goal.returns-then-len-columns
returns-then-len-columns c = (
  λ no. absurd cc,
  λ wide. absurd (other_width c.args.columns c.args.list.now c.loop-row.row-index c.row-item.result _ c.loop-row-test.true c.row-item.is (λ e. c.if-len-columns.true (c.len.ensures ∙ c.row-item.result.ok.0 ∙ e)) wide),
)
