-- What the tables of a ledger hold, as lists in the order of storing.
use Rattle.std.specs.Prelude.{◌≡◌, ℕ, ◌≤◌, nat_lt, nat_le, ◌==◌, ◌&&◌, ◌||◌, ◌⊎◌, pos, not, Bool, true, if◌then◌else◌, is_some, List, [], ◌∷◌, ◌++◌, map, filter, Option, Some, None, IsPermutation, IsSorted}
use Rattle.std.specs.List.{AllByRecursion}
use Rattle.std.specs.declared.cmp.Ordering.{Ordering}
use Rattle.std.specs.Ordering.{ordering_then, nat_cmp}
use Rattle.sqlite.specs.declared.types.Value.TheVariants.{Null, Int}
use Rattle.sqlite_value.specs.Order.{Row, column}
use Rattle.sqlite.specs.Tree.{Trees, put_row, without_rowid}
use Rattle.sqlite_rules.specs.Edit.{next_rowid}
use Rattle.sqlite_rules.specs.Lists.{Has}
use Rattle.sqlite.specs.Effect.{Database, IsDatabase}
use Rattle.sqlite.specs.State.{State}
use Rattle.fare_record.specs.Limits.{IsCount}
use Rattle.fare_record.specs.Values.{TapValue, RecordValue, StatementValue}
use Rattle.fare_ledger.specs.declared.lane.Lane.{Lane}
use Rattle.fare_tables.specs.Cells.{nat_in, int, id_of, AreRows, held}
use Rattle.fare_tables.specs.Tabled.{IsFit}
use Rattle.fare_ledger.specs.declared.layout.Layout.{Layout}
use Rattle.fare_ledger.specs.Layouts.{schema_in, ours}

-- ROWS
-- a device's row has the device for its rowid
abbrev pub lane_row : ℕ → ℕ → ℕ → Row
lane_row device taken closed = int device ∷ Null ∷ int taken ∷ int closed ∷ []

abbrev pub IsLane : Row → Type 0
IsLane r = r ≡ lane_row (id_of r) (nat_in (column r 2)) (nat_in (column r 3))

abbrev pub lane_of : Option Row → Lane
lane_of None = record { taken = 0; closed = 0 }
lane_of (Some r) = record { taken = nat_in (column r 2); closed = nat_in (column r 3) }

-- what a row of a lane may hold
pub record IsWithin (lane : Lane) : Type 0 where
  pub taken : IsCount lane.taken
  pub closed : lane.closed ≤ 100001

-- a tap of a ledger: its owner is the ledger's, and stands in no row
pub record TapRow : Type 0 where
  pub device : ℕ
  pub lane : ℕ
  pub link : ℕ
  pub tap : TapValue

abbrev pub row_of : RecordValue → TapRow
row_of t = record { device = t.device; lane = t.lane; link = t.link; tap = t.tap }

-- as an owner's
abbrev pub record_of : ℕ → TapRow → RecordValue
record_of owner t = record { device = t.device; link = t.link; owner = owner; lane = t.lane; tap = t.tap }

abbrev pub tap_cells : TapRow → Row
tap_cells t = int t.device ∷ int t.lane ∷ int t.link ∷ int t.tap.product ∷ int t.tap.token ∷ int t.tap.moment ∷ int t.tap.day ∷ int t.tap.route ∷ []

abbrev pub tap_of : Row → TapRow
tap_of r = record {
  device = nat_in (column r 1);
  lane = nat_in (column r 2);
  link = nat_in (column r 3);
  tap = record { product = nat_in (column r 4); token = nat_in (column r 5); moment = nat_in (column r 6); day = nat_in (column r 7); route = nat_in (column r 8) };
}

abbrev pub IsTap : Row → Type 0
IsTap r = r ≡ int (id_of r) ∷ tap_cells (tap_of r)

-- a statement of a ledger, likewise
pub record StatedRow : Type 0 where
  pub device : ℕ
  pub day : ℕ
  pub count : ℕ

abbrev pub row_stated : StatementValue → StatedRow
row_stated s = record { device = s.device; day = s.day; count = s.count }

abbrev pub stated_cells : StatedRow → Row
stated_cells s = int s.device ∷ int s.day ∷ int s.count ∷ []

abbrev pub stated_of : Row → StatedRow
stated_of r = record { device = nat_in (column r 1); day = nat_in (column r 2); count = nat_in (column r 3) }

abbrev pub IsStated : Row → Type 0
IsStated r = r ≡ int (id_of r) ∷ stated_cells (stated_of r)

-- a retired lane's row has its device for its rowid
abbrev pub retired_row : ℕ → Row
retired_row device = int device ∷ Null ∷ []

abbrev pub IsRetired : Row → Type 0
IsRetired r = r ≡ retired_row (id_of r)

-- so has the row of the day from which on all of a device is held
abbrev pub since_row : ℕ → ℕ → Row
since_row device since = int device ∷ Null ∷ int since ∷ []

abbrev pub IsSince : Row → Type 0
IsSince r = r ≡ since_row (id_of r) (nat_in (column r 2))

-- without one it is day 0
abbrev pub since_of : Option Row → ℕ
since_of None = 0
since_of (Some r) = nat_in (column r 2)

-- LISTS
pub record Held : Type 0 where
  -- how many taps of each device are taken, and how many of its days closed
  pub lanes : ℕ → Lane
  pub taps : List TapRow
  pub statements : List StatedRow
  -- the devices whose lane is retired
  pub retired : ℕ → Bool
  -- the day from which on all of each device is held
  pub since : ℕ → ℕ
  -- the rows that say whose tables these are
  pub meta : List Row
  -- those of the table in which older formats have the taps
  pub unused : List Row

-- the rows of all tables can be read
pub record AreReadable (trees : Trees) : Type 0 where
  pub lanes : AreRows IsLane (trees 1)
  pub taps : AreRows IsTap (trees 7)
  pub statements : AreRows IsStated (trees 4)
  pub retired : AreRows IsRetired (trees 6)
  pub since : AreRows IsSince (trees 9)

abbrev pub held_of : Trees → Held
held_of trees = record {
  lanes = λ device. lane_of (held (trees 1) device);
  taps = map tap_of (trees 7);
  statements = map stated_of (trees 4);
  retired = λ device. is_some (held (trees 6) device);
  since = λ device. since_of (held (trees 9) device);
  meta = trees 0;
  unused = trees 2;
}

-- between calls, over the tables of a ledger with rows that can be read
abbrev pub IsReady : Layout → State → Type 0
IsReady o = IsFit (schema_in o) (λ trees. AreReadable (ours o trees))

-- READS
-- a statement of a device's day
abbrev pub is_of : ℕ → ℕ → StatedRow → Bool
is_of device day s = (s.device == device) && (s.day == day)

-- the stated count of a day
abbrev pub stated_in : List StatedRow → ℕ → ℕ → Option ℕ
stated_in [] device day = None
stated_in (s ∷ more) device day = if is_of device day s then Some s.count else stated_in more device day

-- a tap of a device on a day
abbrev pub is_on : ℕ → ℕ → TapRow → Bool
is_on device day t = (t.device == device) && (t.tap.day == day)

-- a tap of a device of a day or a later one
abbrev pub is_kept : ℕ → ℕ → TapRow → Bool
is_kept device day t = (t.device == device) && nat_le day t.tap.day

-- the least lane number of these, if there is one
abbrev pub IsLeastKept : List TapRow → ℕ → ℕ → Option ℕ → Type 0
IsLeastKept taps device day None = filter (is_kept device day) taps ≡ []
IsLeastKept taps device day (Some lane) = (t : TapRow) × Has (filter (is_kept device day) taps) t × (t.lane ≡ lane) × AllByRecursion (λ u. t.lane ≤ u.lane) (filter (is_kept device day) taps)

-- a device of which all is held from a later day than day 0 on
abbrev pub is_later : Row → Bool
is_later r = nat_lt 0 (nat_in (column r 2))

-- a device of which a tap is taken or a day closed
abbrev pub is_begun : Row → Bool
is_begun r = nat_lt 0 (nat_in (column r 2)) || nat_lt 0 (nat_in (column r 3))

-- a tap of the days from one to another
abbrev pub is_between : ℕ → ℕ → TapRow → Bool
is_between from to t = nat_le from t.tap.day && nat_le t.tap.day to

-- by day, moment, device and lane number
abbrev pub tap_order : TapRow → TapRow → Ordering
tap_order a b =
    ordering_then (nat_cmp a.tap.day b.tap.day) (ordering_then (nat_cmp a.tap.moment b.tap.moment) (ordering_then (nat_cmp a.device b.device) (nat_cmp a.lane b.lane)))

-- the taps of those days, in that order
pub record AreListed (taps : List TapRow) (from to : ℕ) (out : List TapRow) : Type 0 where
  pub same : IsPermutation (filter (is_between from to) taps) out
  pub sorted : IsSorted tap_order out

-- the same as an owner's records
pub record IsListedOf (owner : ℕ) (taps : List TapRow) (from to : ℕ) (out : List RecordValue) : Type 0 where
  pub rows : List TapRow
  pub listed : AreListed taps from to rows
  pub is : out ≡ map (record_of owner) rows

-- WRITES
abbrev pub with_lane : ℕ → ℕ → ℕ → (ℕ → Lane) → ℕ → Lane
with_lane device taken closed lanes x = if device == x then record { taken = taken; closed = closed } else lanes x

-- a tap more, and its device's numbers
abbrev pub with_tap : TapRow → ℕ → Held → Held
with_tap t closed h = record h { lanes = with_lane t.device t.lane closed h.lanes; taps = h.taps ++ t ∷ [] }

abbrev pub with_stated : StatedRow → Held → Held
with_stated s h = record h { statements = h.statements ++ s ∷ [] }

abbrev pub with_numbers : ℕ → ℕ → ℕ → Held → Held
with_numbers device taken closed h = record h { lanes = with_lane device taken closed h.lanes }

-- a retired lane more
abbrev pub with_retired_lane : ℕ → Held → Held
with_retired_lane device h = record h { retired = λ x. if device == x then true else h.retired x }

-- all of a device is held from another day on
abbrev pub with_since : ℕ → ℕ → Held → Held
with_since device since h = record h { since = λ x. if device == x then since else h.since x }

-- a tap of a device up to a lane number, and a statement of a device before a day
abbrev pub is_cut : ℕ → ℕ → TapRow → Bool
is_cut device lane t = (t.device == device) && nat_le t.lane lane

abbrev pub is_told : ℕ → ℕ → StatedRow → Bool
is_told device day s = (s.device == device) && nat_lt s.day day

-- these go
abbrev pub without_taps : ℕ → ℕ → Held → Held
without_taps device lane h = record h { taps = filter (λ t. not (is_cut device lane t)) h.taps }

abbrev pub without_statements : ℕ → ℕ → Held → Held
without_statements device day h = record h { statements = filter (λ s. not (is_told device day s)) h.statements }

-- both, and all of the device is held from another day on
abbrev pub forgot : ℕ → ℕ → ℕ → ℕ → Held → Held
forgot device lane day since h = with_since device since (without_statements device day (without_taps device lane h))

-- the database holds this, in rows that can be read
pub record Becomes (o : Layout) (db : Database) (h : Held) : Type 0 where
  pub schema : db.schema ≡ schema_in o
  pub database : IsDatabase db
  pub readable : AreReadable (ours o db.trees)
  pub value : held_of (ours o db.trees) ≡ h

-- these are the trees of such a database
abbrev pub MayBecome : Layout → Held → Trees → Type 0
MayBecome o h trees = (db : Database) × Becomes o db h × (trees ≡ db.trees)

-- what one statement writes
pub record PutsTap (o : Layout) (old new : Database) (t : TapRow) : Type 0 where
  pub schema : new.schema ≡ schema_in o
  pub database : IsDatabase new
  pub lanes : ours o new.trees 1 ≡ ours o old.trees 1
  pub taps : ours o new.trees 7 ≡ put_row (Int (next_rowid (ours o old.trees 7)) ∷ tap_cells t) (ours o old.trees 7)
  pub statements : ours o new.trees 4 ≡ ours o old.trees 4
  pub retired : ours o new.trees 6 ≡ ours o old.trees 6
  pub since : ours o new.trees 9 ≡ ours o old.trees 9
  pub meta : ours o new.trees 0 ≡ ours o old.trees 0
  pub unused : ours o new.trees 2 ≡ ours o old.trees 2

pub record PutsStated (o : Layout) (old new : Database) (s : StatedRow) : Type 0 where
  pub schema : new.schema ≡ schema_in o
  pub database : IsDatabase new
  pub lanes : ours o new.trees 1 ≡ ours o old.trees 1
  pub taps : ours o new.trees 7 ≡ ours o old.trees 7
  pub statements : ours o new.trees 4 ≡ put_row (Int (next_rowid (ours o old.trees 4)) ∷ stated_cells s) (ours o old.trees 4)
  pub retired : ours o new.trees 6 ≡ ours o old.trees 6
  pub since : ours o new.trees 9 ≡ ours o old.trees 9
  pub meta : ours o new.trees 0 ≡ ours o old.trees 0
  pub unused : ours o new.trees 2 ≡ ours o old.trees 2

pub record PutsLane (o : Layout) (old new : Database) (device taken closed : ℕ) : Type 0 where
  pub schema : new.schema ≡ schema_in o
  pub database : IsDatabase new
  pub lanes : (ours o new.trees 1 ≡ put_row (lane_row device taken closed) (ours o old.trees 1)) ⊎ (ours o new.trees 1 ≡ put_row (lane_row device taken closed) (without_rowid (pos device) (ours o old.trees 1)))
  pub taps : ours o new.trees 7 ≡ ours o old.trees 7
  pub statements : ours o new.trees 4 ≡ ours o old.trees 4
  pub retired : ours o new.trees 6 ≡ ours o old.trees 6
  pub since : ours o new.trees 9 ≡ ours o old.trees 9
  pub meta : ours o new.trees 0 ≡ ours o old.trees 0
  pub unused : ours o new.trees 2 ≡ ours o old.trees 2

pub record PutsRetired (o : Layout) (old new : Database) (device : ℕ) : Type 0 where
  pub schema : new.schema ≡ schema_in o
  pub database : IsDatabase new
  pub lanes : ours o new.trees 1 ≡ ours o old.trees 1
  pub taps : ours o new.trees 7 ≡ ours o old.trees 7
  pub statements : ours o new.trees 4 ≡ ours o old.trees 4
  pub retired : ours o new.trees 6 ≡ put_row (retired_row device) (ours o old.trees 6)
  pub since : ours o new.trees 9 ≡ ours o old.trees 9
  pub meta : ours o new.trees 0 ≡ ours o old.trees 0
  pub unused : ours o new.trees 2 ≡ ours o old.trees 2

pub record PutsSince (o : Layout) (old new : Database) (device day : ℕ) : Type 0 where
  pub schema : new.schema ≡ schema_in o
  pub database : IsDatabase new
  pub lanes : ours o new.trees 1 ≡ ours o old.trees 1
  pub taps : ours o new.trees 7 ≡ ours o old.trees 7
  pub statements : ours o new.trees 4 ≡ ours o old.trees 4
  pub retired : ours o new.trees 6 ≡ ours o old.trees 6
  pub since : (ours o new.trees 9 ≡ put_row (since_row device day) (ours o old.trees 9)) ⊎ (ours o new.trees 9 ≡ put_row (since_row device day) (without_rowid (pos device) (ours o old.trees 9)))
  pub meta : ours o new.trees 0 ≡ ours o old.trees 0
  pub unused : ours o new.trees 2 ≡ ours o old.trees 2
