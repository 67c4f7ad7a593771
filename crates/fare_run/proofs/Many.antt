-- Runs one after the other over the same databases.
use Rattle.std.proofs.Common.{◌≡◌, ℕ, List, [], ◌∷◌, inl, inr, sym, subst}
use Rattle.sqlite_trees.specs.Tree.{Trees}
use Rattle.sqlite_trees.specs.declared.store.Store.{Ghosts}
use Rattle.fare_record.specs.Values.{RecordValue}
use Rattle.fare_scheme.specs.Values.{SchemeValue}
use Rattle.fare_agreement.specs.Agreeing.{AreNumberedLists}
use Rattle.fare_databases.specs.Held.{AreCleanDisks, Leave, Show}
use Rattle.fare_databases.specs.Holding.{HoldAgreed, HoldsLedger}
use Rattle.fare_databases.specs.declared.databases.Databases.{Databases}
use Rattle.fare_databases.proofs.Growing.{added_hold}
use Rattle.fare_run.specs.Many.{IsKeptOrTold, IsServedOrAsked, Left, LedTo, RunsKeep}

run_agrees : {S : Type 0} (g : Ghosts S) (sc : SchemeValue) (lists : ℕ → List RecordValue) (before after : Databases S) → IsServedOrAsked g sc lists before after → AreCleanDisks g after → AreNumberedLists lists
    → (outbox : Trees) (ledgers : ℕ → Trees) → Show g before outbox ledgers → HoldAgreed sc lists outbox ledgers → (outbox_left : Trees) (ledgers_left : ℕ → Trees) → Leave g after outbox_left ledgers_left → HoldAgreed sc lists outbox_left ledgers_left
run_agrees g sc lists before after (inl it) clean numbered outbox ledgers shows agreed outbox_left ledgers_left leave =
    let kept = (it.1.keeps clean lists numbered it.2 outbox ledgers shows agreed outbox_left ledgers_left leave).0 in
    (kept.is, kept.is_held, kept.agrees)
run_agrees g sc lists before after (inr it) clean numbered outbox ledgers shows agreed outbox_left ledgers_left leave =
    let kept = (it.1.keeps clean lists numbered tt outbox ledgers shows agreed outbox_left ledgers_left leave).0 in
    (kept.is, kept.is_held, kept.agrees)

-- what comes before a run leaves the outbox as it was held
kept_agrees : {S : Type 0} (g : Ghosts S) (sc : SchemeValue) (lists : ℕ → List RecordValue) (start next : Left) → IsKeptOrTold g start.outbox next.outbox → next.ledgers ≡ start.ledgers → HoldAgreed sc lists start.outbox start.ledgers → HoldAgreed sc lists next.outbox next.ledgers
kept_agrees g sc lists start next it same agreed =
    let h = agreed.0 in (
      h,
      record {
        outbox_holds = it.still it.clean start.outbox it.shows h.outbox agreed.1.outbox_holds next.outbox it.leaves;
        ledgers_hold = λ place owner at. subst (λ ledgers. HoldsLedger sc owner (ledgers place) (h.ledgers owner)) (sym same) (agreed.1.ledgers_hold place owner at);
      },
      agreed.2,
    )

led_agrees : {S : Type 0} (g : Ghosts S) (sc : SchemeValue) (lists : ℕ → List RecordValue) (start next : Left) → AreNumberedLists lists → LedTo g sc lists start next → HoldAgreed sc lists start.outbox start.ledgers → HoldAgreed sc lists next.outbox next.ledgers
led_agrees g sc lists start next numbered (inl run) agreed = run_agrees g sc lists run.before run.after run.ran run.clean numbered start.outbox start.ledgers run.shows agreed next.outbox next.ledgers run.leaves
led_agrees g sc lists start next numbered (inr it) agreed = kept_agrees g sc lists start next it.0 it.1 agreed

pub runs_keep : {S : Type 0} (g : Ghosts S) → RunsKeep g
runs_keep g lists start [] numbered valid agreed runs = agreed
runs_keep g lists start (next ∷ more) numbered valid agreed runs =
    let added = runs.0 in
    let grown = added_hold start.scheme next.scheme lists start.left.outbox start.left.ledgers valid added.valid added.adds added.vacant agreed in
    runs_keep g lists next more numbered added.valid (led_agrees g next.scheme lists start.left next.left numbered runs.1 grown) runs.2
