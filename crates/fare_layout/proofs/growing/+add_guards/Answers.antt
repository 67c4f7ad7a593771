use Rattle.fare_tables.proofs.Making.{on_ok}
use Rattle.fare_layout.proofs.Creation.{one_more}
use Rattle.fare_layout.proofs.growing.+add_guards.Goals as goal

pub returns-in_ok-add_guard-in-len1-up : goal.returns-in_ok-add_guard-in-len1-up
returns-in_ok-add_guard-in-len1-up t c =
    let first = c.key-item.is in
    let some = c.in-len1-up.len_at_least in
    let step = c.in_ok-add_guard-in-len1-up.ensures in
    on_ok c.add_guards.result (one_more c.args.indexes.now c.add_guard.new.indexes c.add_guards.new.indexes c.args.table.now c.args.at c.args.tree c.key-item.result c.args.keys.now first some step) c.add_guards.ensures
