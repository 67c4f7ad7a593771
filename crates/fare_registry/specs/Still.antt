-- An outbox that a database holds still, where something else was written to it.
use Rattle.sqlite_trees.specs.Tree.{Trees}
use Rattle.sqlite.specs.State.{State, HasCleanDisk}
use Rattle.fare_store.specs.OutboxWords.{OutboxValue}
use Rattle.fare_databases.specs.Holding.{HoldsOutbox, ShowsJust}

-- whatever a stop would leave of the database now holds the outbox that it showed
abbrev pub HoldsStill : State → State → Type 0
HoldsStill was now = HasCleanDisk now → (trees : Trees) → ShowsJust was trees → (v : OutboxValue) → HoldsOutbox trees v → (left : Trees) → now.may_leave left → HoldsOutbox left v
