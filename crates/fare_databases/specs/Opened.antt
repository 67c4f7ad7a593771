-- What an opened store holds of its database, and the stores of a hub of theirs.
use Rattle.std.specs.Prelude.{◌≡◌, ◌⊎◌, ℕ, List, Some, length, slice_get}
use Rattle.sqlite.specs.State.{State}
use Rattle.fare_scheme.specs.Values.{SchemeValue}
use Rattle.fare_scheme.specs.Words.{id_at}
use Rattle.fare_tables.specs.Tabled.{IsFit, IsLeft}
use Rattle.fare_store.specs.Standing.{Standing}
use Rattle.fare_store.specs.OutboxWords.{OutboxValue, IsEmptyOutbox}
use Rattle.fare_store.specs.LedgerWords.{LedgerValue, IsEmptyLedger, IsOfScheme}
use Rattle.sqlite_rules.specs.Lists.{Has}
use Rattle.fare_opening.specs.declared.site.Site.{Site}
use Rattle.fare_opening.specs.Parts.{OlderParts}
use Rattle.fare_outbox.specs.First as outbox_first
use Rattle.fare_outbox_rows.specs.declared.layout.Layout as outbox_layout
use Rattle.fare_outbox_rows.specs.Layouts as outbox_layouts
use Rattle.fare_outbox.specs.Opening as outbox_opening
use Rattle.fare_outbox.specs.Words as outbox_words
use Rattle.fare_ledger.specs.declared.layout.Layout as ledger_layout
use Rattle.fare_ledger.specs.Older.{IsLawfulOlder, value_older}
use Rattle.fare_ledger.specs.Statements.{ledger_parts}
use Rattle.fare_ledger.specs.Layouts as ledger_layouts
use Rattle.fare_ledger.specs.Opening as ledger_opening
use Rattle.fare_ledger.specs.Words as ledger_words

-- Of a database that had no name of the outbox's tables, the empty outbox; of one that had a lawful outbox, that one;
-- of one that had a lawful outbox of the first format, one of the newest with the same lists. There is no fourth.
pub record IsOpenedOutbox (was : State) (x : Standing OutboxValue) : Type 0 where
  pub alive : x.clean → x.live
  pub made : x.live → outbox_opening.IsVacant was → x.lawful × IsEmptyOutbox x.value
  pub kept : x.live → (w : outbox_layout.Layout) → IsFit (outbox_layouts.schema_in w) (outbox_words.IsLawful w) was → x.lawful × (x.value ≡ outbox_words.value_at w was.now.trees)
  -- each tap of route 0
  pub raised : x.live → (v : Site) → IsFit v.schema (outbox_first.IsLawfulFirst v) was → x.lawful × (x.value ≡ outbox_first.value_first v was.now.trees)
  pub ours : x.live → outbox_opening.IsVacant was ⊎ (outbox_opening.IsOutbox was ⊎ outbox_opening.IsFirstOutbox was)
  -- of what a stop left of a lawful outbox, that one
  pub again : x.clean → (w : outbox_layout.Layout) → IsLeft (outbox_layouts.schema_in w) (outbox_words.IsLawful w) was.now.trees → x.live × x.lawful × (x.value ≡ outbox_words.value_at w was.now.trees)
  -- and of one of the first format
  pub raised_again : x.clean → (v : Site) → IsLeft v.schema (outbox_first.IsLawfulFirst v) was.now.trees → x.live × x.lawful × (x.value ≡ outbox_first.value_first v was.now.trees)
  pub failures : x.failures ≡ 0

-- The same of an owner's ledger, which is that owner's, and made with this scheme: of a database that had the owner's
-- ledger of an older format, one of the newest with the same lists, each tap of route 0.
pub record IsOpenedLedger (sc : SchemeValue) (owner : ℕ) (was : State) (x : Standing LedgerValue) : Type 0 where
  pub own : x.value.owner ≡ owner
  pub scheme : IsOfScheme sc x.value
  pub alive : x.clean → x.live
  pub made : x.live → ledger_opening.IsVacant was → x.lawful × IsEmptyLedger x.value
  pub kept : x.live → (w : ledger_layout.Layout) → IsFit (ledger_layouts.schema_in w) (ledger_words.IsLawful w owner sc.start) was → x.lawful × (x.value ≡ ledger_words.value_at w owner sc.start x.value.knows was.now.trees)
  -- of a lawful ledger of an older format, what that held
  pub raised : x.live → (o : OlderParts) → Has ledger_parts.older o → (v : Site) → IsFit v.schema (IsLawfulOlder o v owner sc.start) was → x.lawful × (x.value ≡ value_older o v owner sc.start x.value.knows was.now.trees)
  pub ours : x.live → ledger_opening.IsVacant was ⊎ (ledger_opening.IsLedger owner was ⊎ ledger_opening.IsOlderLedger owner was)
  pub again : x.clean → (w : ledger_layout.Layout) → IsLeft (ledger_layouts.schema_in w) (ledger_words.IsLawful w owner sc.start) was.now.trees → x.live × x.lawful × (x.value ≡ ledger_words.value_at w owner sc.start x.value.knows was.now.trees)
  -- and of what a stop left of one
  pub raised_again : x.clean → (o : OlderParts) → Has ledger_parts.older o → (v : Site) → IsLeft v.schema (IsLawfulOlder o v owner sc.start) was.now.trees → x.live × x.lawful × (x.value ≡ value_older o v owner sc.start x.value.knows was.now.trees)
  pub failures : x.failures ≡ 0

-- The ledgers of a scheme's owners, in its order, each opened in the database at its place.
pub record AreOpened {D L : Type 0} (was : D → State) (ledger : L → Standing LedgerValue) (sc : SchemeValue) (databases : List D) (ledgers : List L) : Type 0 where
  pub count : length ledgers ≡ length sc.owners
  pub each : (place : ℕ) (x : L) (owner : ℕ) (d : D) → slice_get ledgers place ≡ Some x → id_at sc.owners place ≡ Some owner → slice_get databases place ≡ Some d → IsOpenedLedger sc owner (was d) (ledger x)
