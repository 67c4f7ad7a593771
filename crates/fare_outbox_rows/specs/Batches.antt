-- Several rows at once.
use Rattle.std.specs.Prelude.{ℕ, ◌==◌, ◌&&◌, Bool, if◌then◌else◌, List, [], ◌∷◌, ◌++◌}
use Rattle.std.specs.List.{list_any}
use Rattle.fare_record.specs.Values.{RecordValue}
use Rattle.fare_store.specs.Batches.{done_all}
use Rattle.fare_outbox_rows.specs.Held.{Held, with_tap}

-- one of these is of a device
abbrev pub names : ℕ → List RecordValue → Bool
names device rs = list_any (λ r. r.device == device) rs

-- the tables hold this too, but the greatest link of its device only where it is the last row of the device to come
abbrev pub with_tap_if : Bool → RecordValue → Held → Held
with_tap_if last t h = record { upto = λ device. if last && (t.device == device) then t.link else h.upto device; taps = h.taps ++ t ∷ []; statements = h.statements; meta = h.meta; unused = h.unused }

-- the tables hold these too
abbrev pub with_taps : List RecordValue → Held → Held
with_taps rs h = done_all with_tap rs h
