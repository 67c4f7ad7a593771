-- What the tables of the outbox hold, as lists in the order of storing.
use Rattle.std.specs.Prelude.{◌≡◌, ℕ, ◌≤◌, nat_lt, nat_le, min, ◌==◌, ◌&&◌, not, ◌⊎◌, pos, Bool, if◌then◌else◌, List, [], ◌∷◌, ◌++◌, map, filter, Option, Some, None}
use Rattle.std.specs.List.{AllByRecursion}
use Rattle.sqlite.specs.declared.types.Value.TheVariants.{Null, Int}
use Rattle.sqlite_value.specs.Order.{Row, column}
use Rattle.sqlite.specs.Tree.{Trees, put_row, without_rowid}
use Rattle.sqlite_rules.specs.Edit.{next_rowid}
use Rattle.sqlite_rules.specs.Lists.{Has}
use Rattle.sqlite.specs.Effect.{Database, IsDatabase}
use Rattle.sqlite.specs.State.{State}
use Rattle.fare_record.specs.Values.{RecordValue, StatementValue}
use Rattle.fare_tables.specs.Cells.{nat_in, int, id_of, AreRows, held}
use Rattle.fare_tables.specs.Tabled.{IsFit}
use Rattle.fare_outbox_rows.specs.declared.layout.Layout.{Layout}
use Rattle.fare_outbox_rows.specs.Layouts.{schema_in, ours}

-- ROWS
-- a device's row has the device for its rowid
abbrev pub device_row : ℕ → ℕ → Row
device_row device upto = int device ∷ Null ∷ int upto ∷ []

abbrev pub IsDevice : Row → Type 0
IsDevice r = r ≡ device_row (id_of r) (nat_in (column r 2))

abbrev pub upto_of : Option Row → ℕ
upto_of None = 0
upto_of (Some r) = nat_in (column r 2)

abbrev pub tap_cells : RecordValue → Row
tap_cells t = int t.owner ∷ int t.device ∷ int t.lane ∷ int t.link ∷ int t.tap.product ∷ int t.tap.token ∷ int t.tap.moment ∷ int t.tap.day ∷ int t.tap.route ∷ []

abbrev pub tap_of : Row → RecordValue
tap_of r = record {
  device = nat_in (column r 2);
  link = nat_in (column r 4);
  owner = nat_in (column r 1);
  lane = nat_in (column r 3);
  tap = record { product = nat_in (column r 5); token = nat_in (column r 6); moment = nat_in (column r 7); day = nat_in (column r 8); route = nat_in (column r 9) };
}

abbrev pub IsTap : Row → Type 0
IsTap r = r ≡ int (id_of r) ∷ tap_cells (tap_of r)

abbrev pub stated_cells : StatementValue → Row
stated_cells s = int s.owner ∷ int s.device ∷ int s.day ∷ int s.count ∷ []

abbrev pub stated_of : Row → StatementValue
stated_of r = record { device = nat_in (column r 2); day = nat_in (column r 3); owner = nat_in (column r 1); count = nat_in (column r 4) }

abbrev pub IsStated : Row → Type 0
IsStated r = r ≡ int (id_of r) ∷ stated_cells (stated_of r)

-- LISTS
pub record Held : Type 0 where
  -- the greatest link of each device
  pub upto : ℕ → ℕ
  pub taps : List RecordValue
  pub statements : List StatementValue
  -- the rows that say whose tables these are
  pub meta : List Row
  -- those of the table in which the first format has the taps
  pub unused : List Row

-- the rows of all tables can be read
pub record AreReadable (trees : Trees) : Type 0 where
  pub devices : AreRows IsDevice (trees 1)
  pub taps : AreRows IsTap (trees 7)
  pub statements : AreRows IsStated (trees 5)

abbrev pub held_of : Trees → Held
held_of trees = record { upto = λ device. upto_of (held (trees 1) device); taps = map tap_of (trees 7); statements = map stated_of (trees 5); meta = trees 0; unused = trees 2 }

-- between calls, over the tables of the outbox with rows that can be read
abbrev pub IsReady : Layout → State → Type 0
IsReady o = IsFit (schema_in o) (λ trees. AreReadable (ours o trees))

-- READS
-- a row of a lane past a lane number
abbrev pub is_past : ℕ → ℕ → ℕ → RecordValue → Bool
is_past owner device lane t = (t.owner == owner) && (t.device == device) && nat_lt lane t.lane

-- the row of least lane number past one, if there is one
abbrev pub IsNext : List RecordValue → ℕ → ℕ → ℕ → Option RecordValue → Type 0
IsNext taps owner device lane None = filter (is_past owner device lane) taps ≡ []
IsNext taps owner device lane (Some t) = Has (filter (is_past owner device lane) taps) t × AllByRecursion (λ x. t.lane ≤ x.lane) (filter (is_past owner device lane) taps)

-- a statement from a day on
abbrev pub is_from : ℕ → ℕ → ℕ → StatementValue → Bool
is_from owner device day s = (s.owner == owner) && (s.device == device) && nat_le day s.day

-- the statement of least day from one on, if there is one
abbrev pub IsNextStated : List StatementValue → ℕ → ℕ → ℕ → Option StatementValue → Type 0
IsNextStated all owner device day None = filter (is_from owner device day) all ≡ []
IsNextStated all owner device day (Some s) = Has (filter (is_from owner device day) all) s × AllByRecursion (λ x. s.day ≤ x.day) (filter (is_from owner device day) all)

-- a device that was seen
abbrev pub is_seen : Row → Bool
is_seen r = nat_lt 0 (nat_in (column r 2))

-- WRITES
abbrev pub with_tap : RecordValue → Held → Held
with_tap t h = record { upto = λ device. if t.device == device then t.link else h.upto device; taps = h.taps ++ t ∷ []; statements = h.statements; meta = h.meta; unused = h.unused }

abbrev pub with_statement : StatementValue → Held → Held
with_statement s h = record { upto = h.upto; taps = h.taps; statements = h.statements ++ s ∷ []; meta = h.meta; unused = h.unused }

-- a row of a lane up to a lane number
abbrev pub is_cut : ℕ → ℕ → ℕ → RecordValue → Bool
is_cut owner device lane t = (t.owner == owner) && (t.device == device) && nat_le t.lane lane

abbrev pub without_lane : ℕ → ℕ → ℕ → Held → Held
without_lane owner device lane h = record { upto = h.upto; taps = filter (λ t. not (is_cut owner device lane t)) h.taps; statements = h.statements; meta = h.meta; unused = h.unused }

-- several lanes of an owner, each a device and a lane number, which SQLite's greatest integer bounds
abbrev pub without_lanes : ℕ → List (ℕ × ℕ) → Held → Held
without_lanes owner [] h = h
without_lanes owner (lane ∷ more) h = without_lanes owner more (without_lane owner lane.0 (min lane.1 9223372036854775807) h)

-- a statement of a day before one
abbrev pub is_told : ℕ → ℕ → ℕ → StatementValue → Bool
is_told owner device day s = (s.owner == owner) && (s.device == device) && nat_lt s.day day

abbrev pub without_told : ℕ → ℕ → ℕ → Held → Held
without_told owner device day h = record { upto = h.upto; taps = h.taps; statements = filter (λ s. not (is_told owner device day s)) h.statements; meta = h.meta; unused = h.unused }

-- the database holds this, in rows that can be read
pub record Becomes (o : Layout) (db : Database) (h : Held) : Type 0 where
  pub schema : db.schema ≡ schema_in o
  pub database : IsDatabase db
  pub readable : AreReadable (ours o db.trees)
  pub value : held_of (ours o db.trees) ≡ h

-- these are the trees of such a database
abbrev pub MayBecome : Layout → Held → Trees → Type 0
MayBecome o h trees = (db : Database) × Becomes o db h × (trees ≡ db.trees)

-- what one statement writes
pub record PutsTap (o : Layout) (old new : Database) (t : RecordValue) : Type 0 where
  pub schema : new.schema ≡ schema_in o
  pub database : IsDatabase new
  pub devices : ours o new.trees 1 ≡ ours o old.trees 1
  pub taps : ours o new.trees 7 ≡ put_row (Int (next_rowid (ours o old.trees 7)) ∷ tap_cells t) (ours o old.trees 7)
  pub statements : ours o new.trees 5 ≡ ours o old.trees 5
  pub meta : ours o new.trees 0 ≡ ours o old.trees 0
  pub unused : ours o new.trees 2 ≡ ours o old.trees 2

pub record PutsStated (o : Layout) (old new : Database) (s : StatementValue) : Type 0 where
  pub schema : new.schema ≡ schema_in o
  pub database : IsDatabase new
  pub devices : ours o new.trees 1 ≡ ours o old.trees 1
  pub taps : ours o new.trees 7 ≡ ours o old.trees 7
  pub statements : ours o new.trees 5 ≡ put_row (Int (next_rowid (ours o old.trees 5)) ∷ stated_cells s) (ours o old.trees 5)
  pub meta : ours o new.trees 0 ≡ ours o old.trees 0
  pub unused : ours o new.trees 2 ≡ ours o old.trees 2

pub record PutsLink (o : Layout) (old new : Database) (device upto : ℕ) : Type 0 where
  pub schema : new.schema ≡ schema_in o
  pub database : IsDatabase new
  pub devices : (ours o new.trees 1 ≡ put_row (device_row device upto) (ours o old.trees 1)) ⊎ (ours o new.trees 1 ≡ put_row (device_row device upto) (without_rowid (pos device) (ours o old.trees 1)))
  pub taps : ours o new.trees 7 ≡ ours o old.trees 7
  pub statements : ours o new.trees 5 ≡ ours o old.trees 5
  pub meta : ours o new.trees 0 ≡ ours o old.trees 0
  pub unused : ours o new.trees 2 ≡ ours o old.trees 2
