-- What an outbox's tables hold is the same where these stand at the same places and keep their rows.
use Rattle.std.proofs.Common.{◌≡◌, ◌<◌, map, length, refl, sym, ap, subst, ◌∙◌, arith}
use Rattle.sqlite_trees.specs.Tree.{Trees}
use Rattle.fare_tables.specs.Cells.{AreRows, held}
use Rattle.fare_layout.specs.declared.place.TableNumber.{TableNumber}
use Rattle.fare_layout.specs.Places.{all_of}
use Rattle.fare_opening.specs.declared.site.Site.{Site}
use Rattle.fare_opening.specs.Moving.{copies}
use Rattle.fare_opening.specs.Numbers.{Meta, Device, Tap, Stated}
use Rattle.fare_opening.specs.Parts.{parts_of}
use Rattle.fare_opening.specs.Sites.{IsSite, rows_at}
use Rattle.fare_opening.proofs.Standing.{place_count}
use Rattle.fare_outbox_rows.specs.declared.layout.Layout.{Layout}
use Rattle.fare_outbox.specs.First.{firsts}
use Rattle.fare_outbox_rows.specs.Held.{AreReadable, IsDevice, IsStated, IsTap, held_of, stated_of, tap_of, upto_of}
use Rattle.fare_outbox_rows.specs.Layouts.{ours}
use Rattle.fare_outbox_rows.specs.Making.{site_of}
use Rattle.fare_outbox_rows.specs.Statements.{Routed, first_format, outbox_parts}
use Rattle.fare_outbox_rows.specs.Tables.{first_schema, outbox_schema}

-- the trees that an outbox reads are the same
pub record AreSame (x y : Trees) : Type 0 where
  pub meta : x 0 ≡ y 0
  pub devices : x 1 ≡ y 1
  pub unused : x 2 ≡ y 2
  pub statements : x 5 ≡ y 5
  pub taps : x 7 ≡ y 7

pub same_held : (x y : Trees) → AreSame x y → held_of x ≡ held_of y
same_held x y same = λ i. record { upto = λ device. upto_of (held (same.devices i) device); taps = map tap_of (same.taps i); statements = map stated_of (same.statements i); meta = same.meta i; unused = same.unused i }

pub same_readable : (x y : Trees) → AreSame x y → AreReadable x → AreReadable y
same_readable x y same ok = record {
  devices = subst (AreRows IsDevice) same.devices ok.devices;
  taps = subst (AreRows IsTap) same.taps ok.taps;
  statements = subst (AreRows IsStated) same.statements ok.statements;
}

-- each table of a site keeps its rows
abbrev pub KeepRows : Site → Trees → Trees → Type 0
KeepRows w trees left = (k : TableNumber) → k.number < length (all_of w.places) → rows_at w k left ≡ rows_at w k trees

newest_many : length outbox_parts.own.tables ≡ 5
unfolding outbox_schema
newest_many = refl

pub same_ours : (w v : Layout) (trees left : Trees) → v.places ≡ w.places → KeepRows (site_of w) trees left → AreSame (ours w trees) (ours v left)
unfolding ours
same_ours w v trees left places rows =
    let many : length (all_of w.places) ≡ 5 = sym (place_count w.schema outbox_parts.own.tables (all_of w.places) w.fits.stands) ∙ newest_many in
    let at = λ (k : TableNumber) (low : k.number < length (all_of w.places)). sym (ap (λ ps. rows_at (record { schema = w.schema; places = ps }) k left) places ∙ rows k low) in
    record { meta = at Meta (omega (arith, many)); devices = at Device (omega (arith, many)); unused = at Tap (omega (arith, many)); statements = at Stated (omega (arith, many)); taps = at Routed (omega (arith, many)) }

first_many : length (parts_of first_format).own.tables ≡ 4
unfolding first_schema
first_many = refl

pub same_firsts : (w v : Site) (trees left : Trees) → IsSite (parts_of first_format) w → v.places ≡ w.places → KeepRows w trees left → AreSame (firsts w trees) (firsts v left)
unfolding firsts
same_firsts w v trees left site places rows =
    let many : length (all_of w.places) ≡ 4 = sym (place_count w.schema (parts_of first_format).own.tables (all_of w.places) site.stands) ∙ first_many in
    let at = λ (k : TableNumber) (low : k.number < length (all_of w.places)). sym (ap (λ ps. rows_at (record { schema = w.schema; places = ps }) k left) places ∙ rows k low) in
    record { meta = at Meta (omega (arith, many)); devices = at Device (omega (arith, many)); unused = refl; statements = at Stated (omega (arith, many)); taps = ap copies (at Tap (omega (arith, many))) }
