use Rattle.std.proofs.Common.{◌≡◌, ◌+◌, ◌++◌, ◌∷◌, [], Some, length, sym, ap, ◌∙◌, arith}
use Rattle.std.specs.Prelude.{slice_get}
use Rattle.std.proofs.lemmas.List.{length_push}
use Rattle.std.proofs.lemmas.Map.Entries.{length-keys_of}
use Rattle.fare_scheme.proofs.Slices.{entry_at}
use Rattle.fare_scheme.specs.Words.{id_at}
use Rattle.fare_trace.specs.Stores.{IsNewLedgerAt, sql_ledger_is}
use Rattle.fare_trace.proofs.Stores.{one_more}
use Rattle.fare_trace.proofs.sql_run.sql_ledgers.Goals as goal

pub loop-owner-preserved : goal.loop-owner-preserved
loop-owner-preserved c =
    let sc = c.args.scheme.now in
    let xs = c.loop-owner.ledgers.items in
    let i = c.loop-owner.invariant in
    let ledger = c.in_ok-sql_ledger.field-0 in
    let is : IsNewLedgerAt sql_ledger_is sc (length xs) ledger = record {
      owner = ap (id_at sc.owners) i.count ∙ entry_at c.args.scheme.now.owners c.owners-owner-items.result.now c.loop-owner.owner-index c.owner-item.result c.owners-owner-items.ensures.value c.loop-owner-test.true c.owner-item.is ∙ ap Some (sym c.in_ok-sql_ledger.ensures.owner);
      new = c.in_ok-sql_ledger.ensures.new;
    } in
    let pushed : c.push.new.self.items ≡ xs ++ ledger ∷ [] = c.in_ok-push.ensures.items in
    record {
      count = ap length pushed ∙ length_push xs ledger ∙ ap (λ n. n + 1) i.count;
      each = λ k x e. one_more (IsNewLedgerAt sql_ledger_is sc) xs ledger i.each is k x (ap (λ l. slice_get l k) (sym pushed) ∙ e);
    }

pub returns : goal.returns
returns c =
    let all : c.loop-owner.owner-index ≡ length c.args.scheme.now.owners = omega (arith, ap length c.owners-owner-items.ensures.value, length-keys_of c.args.scheme.now.owners, c.loop-owner-test.false, c.loop-owner.auto.owner-index-end) in
    record { count = c.loop-owner.invariant.count ∙ all; each = c.loop-owner.invariant.each }
