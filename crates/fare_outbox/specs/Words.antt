-- How an outbox in tables stands between two calls.
use Rattle.std.specs.Prelude.{◌≡◌, ℕ, ◌≤◌, ◌==◌, ◌&&◌, Bool, false, if◌then◌else◌, List, [], ◌∷◌, length, Option, Some, None}
use Rattle.std.specs.List.{AllByRecursion}
use Rattle.sqlite_trees.specs.Tree.{Trees}
use Rattle.sqlite_trees.specs.declared.store.Store.{Ghosts}
use Rattle.sqlite.specs.Held.{state}
use Rattle.sqlite.specs.State.{State}
use Rattle.fare_record.specs.Values.{RecordValue, StatementValue}
use Rattle.fare_store.specs.Standing.{Standing}
use Rattle.fare_store.specs.OutboxWords.{OutboxValue}
use Rattle.fare_tables.specs.Tabled.{tabled}
use Rattle.fare_opening.specs.MetaRow.{IsMeta}
use Rattle.fare_outbox.specs.declared.tables.SqlOutbox.{SqlOutbox}
use Rattle.fare_outbox_rows.specs.Held.{Held, AreReadable, held_of}
use Rattle.fare_outbox_rows.specs.declared.layout.Layout.{Layout}
use Rattle.fare_outbox_rows.specs.Layouts.{schema_in, ours}

-- KEYED LISTS: each member has an owner, a device and a number, which is a tap's lane number and a statement's day
abbrev pub Key : Type 0
Key = ℕ × ℕ × ℕ

abbrev pub tap_key : RecordValue → Key
tap_key t = (t.owner, t.device, t.lane)

abbrev pub stated_key : StatementValue → Key
stated_key s = (s.owner, s.device, s.day)

abbrev pub is_at : {T : Type 0} → (T → Key) → ℕ → ℕ → ℕ → T → Bool
is_at key owner device number t = ((key t).0 == owner) && ((key t).1 == device) && ((key t).2 == number)

-- what the first member with these three is seen as
abbrev pub first_at : {T V : Type 0} → (T → Key) → (T → V) → List T → ℕ → ℕ → ℕ → Option V
first_at key out [] owner device number = None
first_at key out (t ∷ ts) owner device number = if is_at key owner device number t then Some (out t) else first_at key out ts owner device number

-- no two members have the same three
abbrev pub AreApart : {T : Type 0} → (T → Key) → List T → Type 0
AreApart key [] = Unit {0}
AreApart key (t ∷ ts) = AllByRecursion (λ x. is_at key (key t).0 (key t).1 (key t).2 x ≡ false) ts × AreApart key ts

abbrev pub itself : RecordValue → RecordValue
itself t = t

abbrev pub count_of : StatementValue → ℕ
count_of s = s.count

-- a row's link is at most the greatest of its device, and its lane number is an integer of SQLite
pub record IsKnown (upto : ℕ → ℕ) (t : RecordValue) : Type 0 where
  pub link : t.link ≤ upto t.device
  pub lane : t.lane ≤ 9223372036854775807

-- THE VALUE
abbrev pub value_in : Held → OutboxValue
value_in h = record { upto = h.upto; rows = first_at tap_key itself h.taps; row_count = length h.taps; stated = first_at stated_key count_of h.statements; stated_count = length h.statements }

abbrev pub value_at : Layout → Trees → OutboxValue
value_at o trees = value_in (held_of (ours o trees))

-- the rows fit together, as those of an outbox of a format
pub record FitInFormat (format : ℕ) (h : Held) : Type 0 where
  pub apart : AreApart tap_key h.taps
  pub known : AllByRecursion (IsKnown h.upto) h.taps
  pub single : AreApart stated_key h.statements
  -- they are an outbox's, of that format
  pub meta : IsMeta format 0 h.meta
  -- there is no row where the first format has the taps
  pub unused : h.unused ≡ []

-- and of the newest one
abbrev pub FitTogether : Held → Type 0
FitTogether = FitInFormat 2

pub record IsLawful (o : Layout) (trees : Trees) : Type 0 where
  pub readable : AreReadable (ours o trees)
  pub together : FitTogether (held_of (ours o trees))

-- the same, with the counts of rows that are kept beside the connection
pub record IsWell (o : Layout) (rows statements : ℕ) (trees : Trees) : Type 0 where
  pub lawful : IsLawful o trees
  pub rows_are : rows ≡ length (held_of (ours o trees)).taps
  pub statements_are : statements ≡ length (held_of (ours o trees)).statements

-- its connection
abbrev pub connected : {S : Type 0} → (g : Ghosts S) → SqlOutbox S g → State
connected g o = state g o.conn

abbrev pub stands : {S : Type 0} → (g : Ghosts S) → SqlOutbox S g → Standing OutboxValue
stands g o = tabled (schema_in o.layout) (value_at o.layout) (IsWell o.layout o.rows o.statements) (IsLawful o.layout) (state g o.conn) o.failures

-- a row may be written: none of its key is held, and its link is the next one of its device
pub record MayStore (v : OutboxValue) (r : RecordValue) : Type 0 where
  pub free : v.rows r.owner r.device r.lane ≡ None
  pub next : v.upto r.device ≤ r.link
