use Rattle.std.proofs.Common.{◌≡◌, ℕ, ◌+◌, ◌==◌, ◌∷◌, ◌++◌, [], true, false, take, refl, sym, ap, ◌∙◌, arith}
use Rattle.std.specs.Prelude.{if◌then◌else◌}
use Rattle.std.proofs.lemmas.Bool.Decides.{nat_tests}
use Rattle.std.proofs.lemmas.List.{take_more, take_all}
use Rattle.fare_record.specs.Values.{TapValue, RecordValue}
use Rattle.fare_record.specs.Lanes.{day_count}
use Rattle.fare_store.proofs.Taps.{count_last}
use Rattle.fare_store.proofs.plain_ledger.keeping.count_of.Goals.{then-get-day, else-get-day}
use Rattle.fare_store.proofs.plain_ledger.keeping.count_of.Goals as goal

pub loop-row-init : goal.loop-row-init
loop-row-init c = (omega arith, refl)

pub loop-row-preserved : goal.loop-row-preserved
loop-row-preserved c =
    let rows = c.args.rows.now in
    let i = c.loop-row.row-index in
    let r = c.row-item.result in
    let taken : take (i + 1) rows ≡ take i rows ++ r ∷ [] = take_more rows i r c.loop-row-test.true ∙ ap (λ (x : RecordValue). take i rows ++ x ∷ []) (sym c.row-item.is) in
    let counted : day_count (take (i + 1) rows) c.args.day ≡ day_count (take i rows) c.args.day + (if r.tap.day == c.args.day then 1 else 0) = ap (λ l. day_count l c.args.day) taken ∙ count_last (take i rows) r c.args.day in
    let day : c.get.result ≡ r.tap.day = c.get.ensures.value ∙ c.day.ensures ∙ ap (λ (t : TapValue). t.day) c.tap.ensures in
    elim c.if-get-day.branch [
      | then-get-day w ↦
          let on : ◌≡◌ {A = ℕ} (if r.tap.day == c.args.day then 1 else 0) 1 = ap (λ b. if◌then◌else◌ {A = ℕ} b 1 0) {x = r.tap.day == c.args.day} {y = true} (grind (arith, nat_tests, day, w.if-get-day.true)) in
          (omega (arith, w.count-is, c.loop-row.invariant.0), omega (arith, w.count-is, c.loop-row.invariant.1, counted, on))
      | else-get-day w ↦
          let off : ◌≡◌ {A = ℕ} (if r.tap.day == c.args.day then 1 else 0) 0 = ap (λ b. if◌then◌else◌ {A = ℕ} b 1 0) {x = r.tap.day == c.args.day} {y = false} (grind (arith, nat_tests, day, w.if-get-day.false)) in
          (omega (arith, w.count-is, c.loop-row.invariant.0), omega (arith, w.count-is, c.loop-row.invariant.1, counted, off))
    ]

pub returns : goal.returns
returns c = c.loop-row.invariant.1 ∙ ap (λ l. day_count l c.args.day) (take_all c.loop-row.row-index c.args.rows.now c.loop-row-test.false)
