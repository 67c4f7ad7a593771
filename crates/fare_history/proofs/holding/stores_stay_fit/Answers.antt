use Rattle.fare_history.proofs.Holds.{fit_still}
use Rattle.fare_history.proofs.holding.stores_stay_fit.Goals as goal

pub returns-clause-store : goal.returns-clause-store
returns-clause-store g c = λ r result s t call fit. fit_still (g.O.Outbox.standing s) (g.O.Outbox.standing t) _ _ _ call fit (g.met.O.Outbox.sound t)

pub returns-clause-store_statement : goal.returns-clause-store_statement
returns-clause-store_statement g c = λ x result s t call fit. fit_still (g.O.Outbox.standing s) (g.O.Outbox.standing t) _ _ _ call fit (g.met.O.Outbox.sound t)

pub returns-clause-prune : goal.returns-clause-prune
returns-clause-prune g c = λ owner device upto result s t call fit. fit_still (g.O.Outbox.standing s) (g.O.Outbox.standing t) _ _ _ call fit (g.met.O.Outbox.sound t)

pub returns-clause-take : goal.returns-clause-take
returns-clause-take g c = λ r result s t call fit. fit_still (g.L.Ledger.standing s) (g.L.Ledger.standing t) _ _ _ call fit (g.met.L.Ledger.sound t)

pub returns-clause-state : goal.returns-clause-state
returns-clause-state g c = λ x result s t call fit. fit_still (g.L.Ledger.standing s) (g.L.Ledger.standing t) _ _ _ call fit (g.met.L.Ledger.sound t)
