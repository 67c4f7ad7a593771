-- Several rows at once: what the tables then hold.
use Rattle.std.proofs.Common.{◌≡◌, ℕ, ◌==◌, ◌&&◌, ◌||◌, not, ◌<◌, if◌then◌else◌, Bool, true, false, List, [], ◌∷◌, refl, ap, ◌∙◌, arith}
use Rattle.std.proofs.lemmas.Bool.Decides.{nat_tests}
use Rattle.sqlite.specs.Effect.{Database, IsDatabase}
use Rattle.fare_record.specs.Values.{RecordValue}
use Rattle.fare_outbox_rows.specs.declared.layout.Layout.{Layout}
use Rattle.fare_outbox_rows.specs.Layouts.{schema_in, ours}
use Rattle.fare_outbox_rows.specs.Held.{Held, AreReadable, held_of}
use Rattle.fare_outbox_rows.specs.Batches.{names, with_tap_if, with_taps}

-- these go to the tables one after the other, each device's greatest link with its last one
abbrev pub with_taps_by_last : List RecordValue → Held → Held
with_taps_by_last [] h = h
with_taps_by_last (r ∷ rs) h = with_taps_by_last rs (with_tap_if (not (names r.device rs)) r h)

-- behind so many rows: the tables hold what will be this behind the rest, and obey their schema behind one at least
pub record Goes (w : Layout) (db : Database) (count : ℕ) (rest : List RecordValue) (h : Held) : Type 0 where
  pub schema : db.schema ≡ schema_in w
  pub database : 0 < count → IsDatabase db
  pub readable : AreReadable (ours w db.trees)
  pub value : with_taps_by_last rest (held_of (ours w db.trees)) ≡ h

-- other greatest links
abbrev with_links : (ℕ → ℕ) → Held → Held
with_links upto h = record { upto = upto; taps = h.taps; statements = h.statements; meta = h.meta; unused = h.unused }

linked : (last same : Bool) (link a b : ℕ) → (same ≡ true → last ≡ true) → (same ≡ false → a ≡ b) → (if last && same then link else a) ≡ (if same then link else b)
linked true true link a b here there = refl
linked true false link a b here there = there refl
linked false true link a b here there = absurd (let e = here refl in cc)
linked false false link a b here there = there refl

-- behind the last one it is all the same, whatever the links were of the devices that come
by_last : (rs : List RecordValue) (h : Held) (upto : ℕ → ℕ) → ((d : ℕ) → names d rs ≡ false → h.upto d ≡ upto d) → with_taps_by_last rs h ≡ with_taps rs (with_links upto h)
by_last [] h upto same = λ i. with_links (λ d. same d refl i) h
by_last (r ∷ rs) h upto same =
    let last = not (names r.device rs) in
    by_last rs (with_tap_if last r h) (λ d. if r.device == d then r.link else upto d) (λ d none.
    linked last (r.device == d) r.link (h.upto d) (upto d)
    (λ is. let e : r.device ≡ d = grind (arith, nat_tests) in ap not (ap (λ x. names x rs) e ∙ none))
    (λ other. same d (ap (λ (b : Bool). b || names d rs) other ∙ none)))

pub all_by_last : (rs : List RecordValue) (h : Held) → with_taps_by_last rs h ≡ with_taps rs h
all_by_last rs h = by_last rs h h.upto (λ d none. refl)
