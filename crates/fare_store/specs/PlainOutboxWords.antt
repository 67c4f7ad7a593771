-- What a plain outbox holds.
use Rattle.std.specs.Prelude.{ℕ, nat_eq, Option, unwrap_or}
use Rattle.std.specs.BTreeMap as tree
use Rattle.std.specs.HashMap as hash
use Rattle.fare_record.specs.Values.{RecordValue}
use Rattle.fare_store.specs.declared.plain_outbox.PlainOutbox.{PlainOutbox}
use Rattle.fare_store.specs.Keys.{Key, key_order, same_lane}
use Rattle.fare_store.specs.PlacedRows.{rows_in}
use Rattle.fare_store.specs.OutboxWords.{OutboxValue}

-- the counts of the statements, by owner, device and day
abbrev pub stated_in : tree.BTreeMap Key ℕ → ℕ → ℕ → ℕ → Option ℕ
stated_in statements owner device day = tree.get key_order statements (owner, device, day)

-- by the greatest links that are kept, the rows, how many these are, and the counts of the statements
abbrev pub held_in : (ℕ → Option ℕ) → (ℕ → ℕ → ℕ → Option RecordValue) → ℕ → tree.BTreeMap Key ℕ → OutboxValue
held_in upto rows row_count statements = record {
  upto = λ device. unwrap_or (upto device) 0;
  rows = rows;
  row_count = row_count;
  stated = stated_in statements;
  stated_count = tree.btree_map_len statements;
}

abbrev pub plain_outbox : PlainOutbox → OutboxValue
plain_outbox o = held_in (hash.get nat_eq o.upto) (rows_in (hash.get same_lane o.lanes)) o.row_count o.statements
