use Rattle.std.proofs.Common.{◌≡◌, length}
use Rattle.std.specs.List.{AllByRecursion}
use Rattle.fare_databases.specs.Connected.{IsConnected}
use Rattle.fare_databases.proofs.files.connect_files.Given as goal

abbrev pub invariant-loop-owner : goal.invariant-loop-owner
invariant-loop-owner l = (length l.databases.ledgers.items ≡ l.owner-index) × IsConnected l.databases.outbox × AllByRecursion IsConnected l.databases.ledgers.items
