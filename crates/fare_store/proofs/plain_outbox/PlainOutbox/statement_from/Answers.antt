use Rattle.std.proofs.Common.{◌≡◌, true, sym, subst, arith}
use Rattle.std.specs.declared.ops.Bound.TheVariants.{Included, Unbounded}
use Rattle.std.proofs.lemmas.Bool.Decides.{nat_tests}
use Rattle.fare_record.specs.Values.{StatementValue}
use Rattle.fare_store.specs.Keys.{key_order}
use Rattle.fare_store.specs.OutboxWords.{IsLeastStatement}
use Rattle.fare_store.specs.PlainOutboxWords.{plain_outbox}
use Rattle.fare_store.proofs.NextRows.{no_statements, other_statement, least_statement, first_of}
use Rattle.fare_store.proofs.plain_outbox.PlainOutbox.statement_from.Goals.{then-ne-via-then-ne, then-ne-via-else-ne+then-ne-2}
use Rattle.fare_store.proofs.plain_outbox.PlainOutbox.statement_from.Goals as goal

pub returns-in_err-key : goal.returns-in_err-key
returns-in_err-key c =
    let a = c.args in
    rw c.from_residual.ensures (no_statements a.self.now.statements a.owner a.device a.from ((c.range.ensures.in_range tt).5 c.in_err-key.ensures.steps.0))

pub returns-then-ne : goal.returns-then-ne
returns-then-ne c =
    let a = c.args in
    let key = c.in_ok-key.key.now in
    let first = first_of key_order a.self.now.statements (Included (a.owner, a.device, a.from)) Unbounded c.range.result (key, c.in_ok-key.count.now) c.next.new.self c.in_ok-key.ensures.steps (c.range.ensures.in_range tt) in
    let other : key.0 ≡ a.owner → key.1 ≡ a.device → ⊥ = λ same equal. elim c.then-ne.branch [
      | then-ne-via-then-ne w ↦ let on : c.ne.result ≡ true = w.if-ne.true in absurd (grind (arith, nat_tests, c.ne.ensures))
      | then-ne-via-else-ne+then-ne-2 w ↦ let on : w.ne-else-ne.result ≡ true = w.if-ne-2.true in absurd (grind (arith, nat_tests, w.ne-else-ne.ensures))
    ] in
    other_statement a.self.now.statements a.owner a.device a.from key c.in_ok-key.count.now first other

pub new-requires : goal.new-requires
new-requires c =
    let a = c.args in
    let key = c.in_ok-key.key.now in
    let first = first_of key_order a.self.now.statements (Included (a.owner, a.device, a.from)) Unbounded c.range.result (key, c.in_ok-key.count.now) c.next.new.self c.in_ok-key.ensures.steps (c.range.ensures.in_range tt) in
    record { count = a.self.now.counts key.0 key.1 key.2 c.in_ok-key.count.now first.found }

pub returns : goal.returns
returns c =
    let a = c.args in
    let key = c.in_ok-key.key.now in
    let first = first_of key_order a.self.now.statements (Included (a.owner, a.device, a.from)) Unbounded c.range.result (key, c.in_ok-key.count.now) c.next.new.self c.in_ok-key.ensures.steps (c.range.ensures.in_range tt) in
    let same : key.0 ≡ a.owner = grind (arith, nat_tests, c.ne.ensures, c.if-ne.false) in
    let equal : key.1 ≡ a.device = grind (arith, nat_tests, c.ne-else-ne.ensures, c.if-ne-2.false) in
    subst (λ (s : StatementValue). IsLeastStatement (plain_outbox a.self.now).stated a.owner a.device a.from s) (sym c.new.ensures) (least_statement a.self.now.statements a.owner a.device a.from key c.in_ok-key.count.now first same equal)
