-- What the removal of several lanes' rows makes of the rows by key.
use Rattle.std.proofs.Common.{◌≡◌, ◌⊎◌, inl, inr, ℕ, ◌-◌, min, List, [], ◌∷◌, ◌++◌, length, filter, refl, sym, ap, ◌∙◌, arith}
use Rattle.std.proofs.lemmas.Bool.{cases_lt}
use Rattle.sqlite.specs.State.{State}
use Rattle.sqlite.specs.Tree.{Trees}
use Rattle.fare_store.specs.OutboxWords.{pruned_all}
use Rattle.fare_tables.specs.Tabled.{IsFit, IsLeft}
use Rattle.fare_outbox_rows.specs.declared.layout.Layout.{Layout}
use Rattle.fare_outbox_rows.specs.Layouts.{schema_in, ours}
use Rattle.fare_outbox_rows.specs.Held.{Held, Becomes, MayBecome, held_of, is_cut, without_lane, without_lanes}
use Rattle.fare_outbox.specs.Words.{FitTogether, IsLawful, IsWell, value_at, value_in}
use Rattle.fare_outbox.proofs.Pruned.{left_count, prune_fits}
use Rattle.fare_outbox.proofs.Stored.{left_held, becomes_left, becomes_well, cut_value}

pub without_lanes-push : (owner : ℕ) (lanes : List (ℕ × ℕ)) (lane : ℕ × ℕ) (h : Held) → without_lanes owner (lanes ++ lane ∷ []) h ≡ without_lane owner lane.0 (min lane.1 9223372036854775807) (without_lanes owner lanes h)
without_lanes-push owner [] lane h = refl
without_lanes-push owner (first ∷ lanes) lane h = without_lanes-push owner lanes lane (without_lane owner first.0 (min first.1 9223372036854775807) h)

least : (n : ℕ) → (min n 9223372036854775807 ≡ n) ⊎ (min n 9223372036854775807 ≡ 9223372036854775807)
least n = elim (cases_lt n 9223372036854775807) [
  | inl low ↦ inl (omega (arith, low))
  | inr high ↦ inr (omega (arith, high))
]

lanes_fit : (owner : ℕ) (lanes : List (ℕ × ℕ)) (h : Held) → FitTogether h → FitTogether (without_lanes owner lanes h)
lanes_fit owner [] h fit = fit
lanes_fit owner (lane ∷ more) h fit = let last = min lane.1 9223372036854775807 in lanes_fit owner more (without_lane owner lane.0 last h) (prune_fits h owner lane.0 last fit)

pub lanes_value : (owner : ℕ) (lanes : List (ℕ × ℕ)) (h : Held) → FitTogether h → value_in (without_lanes owner lanes h) ≡ pruned_all owner lanes (value_in h)
lanes_value owner [] h fit = refl
lanes_value owner (lane ∷ more) h fit =
    let last = min lane.1 9223372036854775807 in
    lanes_value owner more (without_lane owner lane.0 last h) (prune_fits h owner lane.0 last fit) ∙ ap (pruned_all owner more) (cut_value h owner lane.0 last lane.1 fit (omega arith) (least lane.1))

-- as many rows are left as the step before left, without those that go
pub fewer_left : (owner device last : ℕ) (h : Held) (left gone : ℕ) → left ≡ length h.taps → gone ≡ length (filter (is_cut owner device last) h.taps) → left - gone ≡ length (without_lane owner device last h).taps
fewer_left owner device last h left gone was is = let fewer = left_count owner device last h.taps in omega (arith, was, is, fewer)

pub no_lanes : (lanes : List (ℕ × ℕ)) → length lanes ≡ 0 → lanes ≡ []
no_lanes [] none = refl
no_lanes (lane ∷ more) none = absurd (omega (arith, none))

same_statements : (owner : ℕ) (lanes : List (ℕ × ℕ)) (h : Held) → (without_lanes owner lanes h).statements ≡ h.statements
same_statements owner [] h = refl
same_statements owner (lane ∷ more) h = same_statements owner more (without_lane owner lane.0 (min lane.1 9223372036854775807) h)

-- what the transaction makes of an outbox whose rows fit together
pub lanes_well : (w : Layout) (old new : State) (rows statements left owner : ℕ) (lanes : List (ℕ × ℕ)) → IsFit (schema_in w) (IsWell w rows statements) old → Becomes w new.now (without_lanes owner lanes (held_of (ours w old.now.trees))) × (new.now ≡ new.committed) → left ≡ length (without_lanes owner lanes (held_of (ours w old.now.trees))).taps → IsFit (schema_in w) (IsWell w left statements) new
lanes_well w old new rows statements left owner lanes fit wrote is =
    let h = held_of (ours w old.now.trees) in
    becomes_well w new left statements (without_lanes owner lanes h) wrote (lanes_fit owner lanes h fit.fits.lawful.together) is (fit.fits.statements_are ∙ sym (ap length (same_statements owner lanes h)))

-- and what a stop leaves of it
pub lanes_left : (w : Layout) (h : Held) (owner : ℕ) (lanes : List (ℕ × ℕ)) (trees : Trees) → FitTogether h → MayBecome w (without_lanes owner lanes h) trees → (value_at w trees ≡ pruned_all owner lanes (value_in h)) × IsLeft (schema_in w) (IsLawful w) trees
lanes_left w h owner lanes trees fit it = (ap value_in (left_held w (without_lanes owner lanes h) trees it) ∙ lanes_value owner lanes h fit, becomes_left w (without_lanes owner lanes h) trees it (lanes_fit owner lanes h fit))
