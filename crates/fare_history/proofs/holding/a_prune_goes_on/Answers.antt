use Rattle.fare_store.specs.OutboxWords.{pruned, rows_upto}
use Rattle.fare_history.proofs.Holds.{removal_leads, removed_leads}
use Rattle.fare_history.proofs.holding.a_prune_goes_on.Goals as goal

pub returns-clause-pruned : goal.returns-clause-pruned
returns-clause-pruned g c = λ owner device upto removed s t call fit clean. removed_leads (pruned owner device upto) (λ x. rows_upto upto (x.rows owner device)) (g.O.Outbox.standing s) (g.O.Outbox.standing t) removed call fit (g.met.O.Outbox.sound t) clean

pub returns-clause-failed : goal.returns-clause-failed
returns-clause-failed g c = λ owner device upto result s t call fit clean. removal_leads (pruned owner device upto) (λ x. rows_upto upto (x.rows owner device)) (g.O.Outbox.standing s) (g.O.Outbox.standing t) result call fit clean
