use Rattle.fare_history.proofs.Holds.{leads_self}
use Rattle.fare_history.proofs.GoingOn.{take_goes_on, state_goes_on, repeat_goes_on, take_fails, state_fails}
use Rattle.fare_history.proofs.holding.an_owner_goes_on.Goals as goal

pub returns-clause-begins : goal.returns-clause-begins
returns-clause-begins g c = λ s. leads_self (g.L.Ledger.standing s)

pub returns-clause-taken : goal.returns-clause-taken
returns-clause-taken g c = λ items r s t u before call fit clean. take_goes_on items r _ (g.L.Ledger.standing t) (g.L.Ledger.standing u) before call fit (g.met.L.Ledger.sound u) clean

pub returns-clause-stated : goal.returns-clause-stated
returns-clause-stated g c = λ items x s t u before call fit clean. state_goes_on items x _ (g.L.Ledger.standing t) (g.L.Ledger.standing u) before call fit (g.met.L.Ledger.sound u) clean

pub returns-clause-repeated : goal.returns-clause-repeated
returns-clause-repeated g c = λ items x s t u before call fit clean. repeat_goes_on items x _ (g.L.Ledger.standing t) (g.L.Ledger.standing u) before call fit (g.met.L.Ledger.sound u) clean

pub returns-clause-take_failed : goal.returns-clause-take_failed
returns-clause-take_failed g c = λ items r s t u result before call fit clean. take_fails items r _ (g.L.Ledger.standing t) (g.L.Ledger.standing u) result before call fit clean

pub returns-clause-state_failed : goal.returns-clause-state_failed
returns-clause-state_failed g c = λ items x s t u result before call fit clean. state_fails items x _ (g.L.Ledger.standing t) (g.L.Ledger.standing u) result before call fit clean
