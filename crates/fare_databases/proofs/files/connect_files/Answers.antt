use Rattle.std.proofs.Common.{◌≡◌, ◌+◌, length, sym, ap, ◌∙◌, subst, arith}
use Rattle.std.specs.Prelude.{IfOk}
use Rattle.std.specs.List.{AllByRecursion}
use Rattle.std.proofs.lemmas.List.{length_push}
use Rattle.std.proofs.lemmas.Map.Entries.{length-keys_of}
use Rattle.fare_tables.proofs.Lists.{all_pushed}
use Rattle.fare_databases.specs.Connected.{IsConnected}
use Rattle.fare_databases.proofs.files.connect_files.Goals as goal

pub loop-owner-preserved : goal.loop-owner-preserved
loop-owner-preserved c =
    let i = c.loop-owner.invariant in
    let xs = c.loop-owner.databases.ledgers.items in
    let outbox_same = c.in_ok-databases-2.ensures.0 in
    let more = c.in_ok-databases-2.ensures.1 in
    let connected : IsConnected more.0 = subst (λ r. IfOk r IsConnected) more.1 c.connect_owner.ensures in (
      ap length more.2 ∙ (length_push xs more.0 ∙ ap (λ n. n + 1) i.0),
      subst IsConnected (sym outbox_same) i.1,
      subst (AllByRecursion IsConnected) (sym more.2) (all_pushed IsConnected xs more.0 i.2 connected),
    )

pub returns-clause-owners : goal.returns-clause-owners
returns-clause-owners c =
    let ids = ap length c.owners-owner-items.ensures.value in
    let entries = length-keys_of c.args.scheme.now.owners in
    omega (arith, c.loop-owner.invariant.0, c.loop-owner-test.false, c.loop-owner.auto.owner-index-end, ids, entries)
