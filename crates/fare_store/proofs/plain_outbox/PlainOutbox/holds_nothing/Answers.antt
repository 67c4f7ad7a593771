use Rattle.std.proofs.Common.{◌≡◌, ◌==◌, true, false, sym, ap, ◌∙◌}
use Rattle.fare_store.specs.OutboxWords.{IsEmptyOutbox}
use Rattle.fare_store.specs.PlainOutboxWords.{plain_outbox}
use Rattle.fare_store.proofs.Rows.{unseen}
use Rattle.fare_store.proofs.plain_outbox.PlainOutbox.holds_nothing.Goals.{then-is_empty, else-is_empty}
use Rattle.fare_store.proofs.plain_outbox.PlainOutbox.holds_nothing.Goals as goal

pub returns-else-self-eq0 : goal.returns-else-self-eq0
returns-else-self-eq0 c =
    let o = c.args.self.now in
    let off = c.if-self-eq0.false in
    let none : IsEmptyOutbox (plain_outbox o) → ⊥ = λ e. elim c.if-is_empty.branch [
      | then-is_empty w ↦ let on : true ≡ false = sym (ap (λ n. n == 0) e.row_count) ∙ (sym w.value-is ∙ off) in cc
      | else-is_empty w ↦ let on : true ≡ false = sym (c.is_empty.ensures.1 (unseen o.upto.entries o.seen e.upto)) ∙ w.if-is_empty.false in cc
    ] in
    (λ t. absurd (let on : true ≡ false = sym t ∙ off in cc), λ e. absurd (none e))
