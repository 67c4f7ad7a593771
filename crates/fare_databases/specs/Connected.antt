-- What a connection that was just made to a database in a file is.
use Rattle.std.specs.List.{AllByRecursion}
use Rattle.sqlite_disk.specs.declared.Disk.{Ghosts}
use Rattle.sqlite_store.specs.declared.store.FileStore.{FileStore}
use Rattle.sqlite.specs.Files.{IsOpened, file_state}
use Rattle.sqlite.specs.Held.{Held, IsNew}
use Rattle.sqlite.specs.State.{HasCleanDisk}
use Rattle.fare_databases.specs.declared.databases.Databases.{Databases}

module _ {D : Type 0} {g : Ghosts D} where
  -- It is new, so in no transaction; and while its disk keeps what was committed it is open and live, and each later read is
  -- tested against what was written.
  pub record IsConnected (c : Held (FileStore D g)) : Type 0 where
    pub fresh : IsNew c
    pub opened : HasCleanDisk (file_state c) → IsOpened c
    pub guarded : HasCleanDisk (file_state c) → (file_state c).IsShielded

  -- each of these is such a connection
  pub record AreConnected (databases : Databases (FileStore D g)) : Type 0 where
    pub outbox : IsConnected databases.outbox
    pub ledgers : AllByRecursion IsConnected databases.ledgers.items
