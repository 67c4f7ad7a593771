use Rattle.std.proofs.Common.{◌≡◌, false, sym}
use Rattle.sqlite.specs.Does.{lacks_sequence}
use Rattle.fare_layout.proofs.Creation.{grows_of}
use Rattle.fare_layout.proofs.growing.try_with_table.Goals as goal

pub returns-else-is_without_counts-clause-grows : goal.returns-else-is_without_counts-clause-grows
returns-else-is_without_counts-clause-grows c sql creates defined =
    let uncounted : false ≡ lacks_sequence c.in_ok-next.next.schema = c.if-is_without_counts.ensures in
    grows_of c.args.schema.now c.in_ok-next.next.schema sql c.args.table.table creates defined c.in_ok-next.ensures.grown (sym uncounted)
