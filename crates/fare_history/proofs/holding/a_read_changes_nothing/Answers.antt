use Rattle.std.specs.Prelude.{◌≡◌, length}
use Rattle.fare_store.specs.OutboxWords.{IsNextRow, IsNextStatement}
use Rattle.fare_history.proofs.Holds.{read_leads, told_leads}
use Rattle.fare_history.proofs.holding.a_read_changes_nothing.Goals as goal

pub returns-clause-upto : goal.returns-clause-upto
returns-clause-upto g c = λ device result s t call fit clean. read_leads _ (g.O.Outbox.standing s) (g.O.Outbox.standing t) result call fit clean

pub returns-clause-upto_answered : goal.returns-clause-upto_answered
returns-clause-upto_answered g c = λ device told s t call fit clean. told_leads (λ x n. n ≡ x.upto device) (g.O.Outbox.standing s) (g.O.Outbox.standing t) told call fit (g.met.O.Outbox.sound t) clean

pub returns-clause-row : goal.returns-clause-row
returns-clause-row g c = λ owner device after result s t call fit clean. read_leads _ (g.O.Outbox.standing s) (g.O.Outbox.standing t) result call fit clean

pub returns-clause-row_answered : goal.returns-clause-row_answered
returns-clause-row_answered g c = λ owner device after told s t call fit clean. told_leads (λ x row. IsNextRow x.rows owner device after row) (g.O.Outbox.standing s) (g.O.Outbox.standing t) told call fit (g.met.O.Outbox.sound t) clean

pub returns-clause-statement : goal.returns-clause-statement
returns-clause-statement g c = λ owner device from result s t call fit clean. read_leads _ (g.O.Outbox.standing s) (g.O.Outbox.standing t) result call fit clean

pub returns-clause-statement_answered : goal.returns-clause-statement_answered
returns-clause-statement_answered g c = λ owner device from told s t call fit clean. told_leads (λ x v. IsNextStatement x.stated owner device from v) (g.O.Outbox.standing s) (g.O.Outbox.standing t) told call fit (g.met.O.Outbox.sound t) clean

pub returns-clause-count : goal.returns-clause-count
returns-clause-count g c = λ device result s t call fit clean. read_leads _ (g.L.Ledger.standing s) (g.L.Ledger.standing t) result call fit clean

pub returns-clause-count_answered : goal.returns-clause-count_answered
returns-clause-count_answered g c = λ device told s t call fit clean. told_leads (λ l n. n ≡ length (l.taken device)) (g.L.Ledger.standing s) (g.L.Ledger.standing t) told call fit (g.met.L.Ledger.sound t) clean
