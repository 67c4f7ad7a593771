-- What a stop left is the store that an open finds.
use Rattle.std.proofs.Common.{◌≡◌}
use Rattle.sqlite_trees.specs.Tree.{Trees}
use Rattle.sqlite_catalog.proofs.ReadLemmas.{lists_once}
use Rattle.sqlite.specs.Schema.{Schema}
use Rattle.sqlite.specs.Effect.{IsDatabase}
use Rattle.sqlite.specs.State.{State}
use Rattle.fare_tables.specs.Tabled.{IsFit, IsLeft}

-- trees list one schema, so a database of them has the store's
pub fit_again : (schema : Schema) (Fits : Trees → Type 0) (s : State) → s.now ≡ s.committed → IsDatabase s.now → IsLeft schema Fits s.now.trees → IsFit schema Fits s
fit_again schema Fits s settled database left = record { rest = record { settled = settled; schema_is = lists_once _ s.now.schema schema database.lists left.database.lists }; fits = left.fits }
