-- What a transaction makes of an outbox whose rows fit together.
use Rattle.std.proofs.Common.{◌≡◌, ◌⊎◌, ℕ, ◌+◌, ◌-◌, ◌≤◌, None, sym, ap, subst, ◌∙◌, arith}
use Rattle.std.specs.Prelude.{length, filter}
use Rattle.std.proofs.lemmas.List.{length_push}
use Rattle.sqlite.specs.State.{State}
use Rattle.sqlite.specs.Tree.{Trees}
use Rattle.fare_record.specs.Values.{RecordValue, StatementValue}
use Rattle.fare_store.specs.OutboxWords.{pruned}
use Rattle.fare_tables.specs.Tabled.{IsFit, IsLeft, left_of}
use Rattle.fare_outbox_rows.specs.declared.layout.Layout.{Layout}
use Rattle.fare_outbox_rows.specs.Layouts.{schema_in, ours}
use Rattle.fare_outbox_rows.specs.Held.{Held, Becomes, MayBecome, IsReady, held_of, with_tap, with_statement, without_lane, is_cut}
use Rattle.fare_outbox.specs.Words.{first_at, stated_key, count_of, value_at, value_in, FitTogether, IsLawful, IsWell, MayStore}
use Rattle.fare_outbox.proofs.Lanes.{store_fits, statement_fits}
use Rattle.fare_outbox.proofs.Pruned.{left_count, same_without, prune_value, prune_fits}

pub ready : (w : Layout) (s : State) (rows statements : ℕ) → IsFit (schema_in w) (IsWell w rows statements) s → IsReady w s
ready w s rows statements fit = record { rest = fit.rest; fits = fit.fits.lawful.readable }

-- what a stop leaves of a transaction
pub left_held : (w : Layout) (h : Held) (trees : Trees) → MayBecome w h trees → held_of (ours w trees) ≡ h
left_held w h trees it = ap (λ t. held_of (ours w t)) it.2 ∙ it.1.value

pub becomes_left : (w : Layout) (h : Held) (trees : Trees) → MayBecome w h trees → FitTogether h → IsLeft (schema_in w) (IsLawful w) trees
becomes_left w h trees it fit = left_of (schema_in w) (IsLawful w) it.0 trees it.1.schema it.1.database (record { readable = it.1.readable; together = subst FitTogether (sym it.1.value) fit }) it.2

pub becomes_well : (w : Layout) (new : State) (rows statements : ℕ) (h : Held) → Becomes w new.now h × (new.now ≡ new.committed) → FitTogether h → rows ≡ length h.taps → statements ≡ length h.statements → IsFit (schema_in w) (IsWell w rows statements) new
becomes_well w new rows statements h wrote fit rows_are statements_are = record {
  rest = record { settled = wrote.1; schema_is = wrote.0.schema };
  fits = record {
    lawful = record { readable = wrote.0.readable; together = subst FitTogether (sym wrote.0.value) fit };
    rows_are = rows_are ∙ ap (λ (x : Held). length x.taps) (sym wrote.0.value);
    statements_are = statements_are ∙ ap (λ (x : Held). length x.statements) (sym wrote.0.value);
  };
}

pub put_fits : (w : Layout) (old new : State) (rows statements : ℕ) (t : RecordValue) → t.lane ≤ 9223372036854775807 → IsFit (schema_in w) (IsWell w rows statements) old → MayStore (value_at w old.now.trees) t → Becomes w new.now (with_tap t (held_of (ours w old.now.trees))) × (new.now ≡ new.committed) → IsFit (schema_in w) (IsWell w (rows + 1) statements) new
put_fits w old new rows statements t low fit may wrote =
    let h = held_of (ours w old.now.trees) in
    becomes_well w new (rows + 1) statements (with_tap t h) wrote (store_fits h t low may fit.fits.lawful.together) (ap (λ n. n + 1) fit.fits.rows_are ∙ sym (length_push h.taps t)) fit.fits.statements_are

pub statement_put_fits : (w : Layout) (old new : State) (rows statements : ℕ) (s : StatementValue) → IsFit (schema_in w) (IsWell w rows statements) old → first_at stated_key count_of (held_of (ours w old.now.trees)).statements s.owner s.device s.day ≡ None → Becomes w new.now (with_statement s (held_of (ours w old.now.trees))) × (new.now ≡ new.committed) → IsFit (schema_in w) (IsWell w rows (statements + 1)) new
statement_put_fits w old new rows statements s fit free wrote =
    let h = held_of (ours w old.now.trees) in
    becomes_well w new rows (statements + 1) (with_statement s h) wrote (statement_fits h s free fit.fits.lawful.together) fit.fits.rows_are (ap (λ n. n + 1) fit.fits.statements_are ∙ sym (length_push h.statements s))

pub cut_fits : (w : Layout) (old new : State) (rows statements o d last count : ℕ) → IsFit (schema_in w) (IsWell w rows statements) old → Becomes w new.now (without_lane o d last (held_of (ours w old.now.trees))) × (new.now ≡ new.committed) → count ≡ length (filter (is_cut o d last) (held_of (ours w old.now.trees)).taps) → IsFit (schema_in w) (IsWell w (rows - count) statements) new
cut_fits w old new rows statements o d last count fit wrote is =
    let h = held_of (ours w old.now.trees) in
    let was = fit.fits.rows_are in
    let left = left_count o d last h.taps in
    becomes_well w new (rows - count) statements (without_lane o d last h) wrote (prune_fits h o d last fit.fits.lawful.together) (omega (arith, was, left, is)) fit.fits.statements_are

pub cut_value : (h : Held) (o d last n : ℕ) → FitTogether h → last ≤ n → (last ≡ n) ⊎ (last ≡ 9223372036854775807) → value_in (without_lane o d last h) ≡ pruned o d n (value_in h)
cut_value h o d last n fit low which = ap value_in (same_without o d last n h fit low which) ∙ prune_value h o d n fit
