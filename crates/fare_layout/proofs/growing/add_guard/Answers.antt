use Rattle.std.proofs.Common.{◌∙◌}
use Rattle.fare_layout.proofs.growing.add_guard.Goals as goal

pub automatic-requires : goal.automatic-requires
automatic-requires c = c.as_str.ensures.value ∙ c.in_ok-own.ensures c.args.table.now c.args.key.now c.args.tree c.requires.named
