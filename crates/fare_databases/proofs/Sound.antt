-- The laws of stores in databases of any kind, by those of the databases.
use Rattle.std.proofs.Common.{◌≡◌, sym, ap, ◌∙◌, refl, IsTrue}
use Rattle.std.proofs.Math.Logic.{∥∥₁_map}
use Rattle.sqlite_trees.specs.Tree.{Trees}
use Rattle.sqlite_trees.specs.View.{IsClean}
use Rattle.sqlite_trees.specs.declared.store.Store.{Ghosts}
use Rattle.sqlite.specs.Effect.{Database}
use Rattle.fare_store.specs.Standing.{IsSound}
use Rattle.fare_tables.specs.Tabled.{left_now}
use Rattle.fare_outbox.specs.declared.tables.SqlOutbox.{SqlOutbox}
use Rattle.fare_outbox_rows.specs.Layouts as outbox_layouts
use Rattle.fare_outbox.specs.Words as outbox_words
use Rattle.fare_ledger.specs.declared.tables.SqlLedger.{SqlLedger}
use Rattle.fare_ledger.specs.Known.{knows}
use Rattle.fare_ledger.specs.Layouts as ledger_layouts
use Rattle.fare_ledger.specs.Words as ledger_words

-- what a database's kind promises: a stop leaves what was committed while it is open, and something while it is clean
pub record IsLawfulStore {S : Type 0} (g : Ghosts S) : Type 0 where
  pub settled : (s : S) (db : Trees) → IsTrue (g.view s).is_open → g.recovers s db → db ≡ (g.view s).committed
  pub survives : (s : S) → IsClean (g.view s) → ∥ ((db : Trees) × g.recovers s db) ∥₁

module _ {S : Type 0} (g : Ghosts S) (law : IsLawfulStore g) where
  pub outbox_sound : (o : SqlOutbox S g) → IsSound (outbox_words.stands g o)
  outbox_sound o = record {
    clean = λ live. live.0;
    settled = λ live lawful v leaves. sym leaves.2 ∙ ap (outbox_words.value_at o.layout) (law.settled o.conn.store leaves.0 live.1 leaves.1 ∙ sym (ap (λ (d : Database). d.trees) lawful.fit.rest.settled));
    lasting = λ live lawful. record {
      each = λ trees leaves. left_now (outbox_layouts.schema_in o.layout) (outbox_words.IsWell o.layout o.rows o.statements) (outbox_words.IsLawful o.layout) _ (λ well. well.lawful) lawful trees (law.settled o.conn.store trees live.1 leaves);
    };
    some = λ clean. ∥∥₁_map (law.survives o.conn.store clean) (λ left. (outbox_words.value_at o.layout left.0, (left.0, left.1, refl)));
  }

  pub ledger_sound : (l : SqlLedger S g) → IsSound (ledger_words.stands g l)
  ledger_sound l = record {
    clean = λ live. live.0;
    settled = λ live lawful v leaves. sym leaves.2 ∙ ap (ledger_words.value_at l.layout l.owner l.start (knows l.devices)) (law.settled l.conn.store leaves.0 live.1 leaves.1 ∙ sym (ap (λ (d : Database). d.trees) lawful.fit.rest.settled));
    lasting = λ live lawful. record {
      each = λ trees leaves. left_now (ledger_layouts.schema_in l.layout) (ledger_words.IsLawful l.layout l.owner l.start) (ledger_words.IsLawful l.layout l.owner l.start) _ (λ fits. fits) lawful trees (law.settled l.conn.store trees live.1 leaves);
    };
    some = λ clean. ∥∥₁_map (law.survives l.conn.store clean) (λ left. (ledger_words.value_at l.layout l.owner l.start (knows l.devices) left.0, (left.0, left.1, refl)));
  }
