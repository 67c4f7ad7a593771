use Rattle.std.proofs.Common.{◌≡◌, None, take}
use Rattle.sqlite.specs.Held.{state}
use Rattle.fare_store.specs.Standing.{Calls}
use Rattle.fare_tables.specs.Asking.{IsUp}
use Rattle.fare_outbox.specs.Words.{stands}
use Rattle.fare_outbox.specs.Batches.{AreEnds, AreWelcome}
use Rattle.fare_outbox.proofs.tables.SqlOutbox.judge_all.Given as goal

abbrev pub invariant-loop-place : goal.invariant-loop-place
invariant-loop-place g l = record {
  does : Calls (stands g.S.Store l.fn.self) (stands g.S.Store l.self) None (((stands g.S.Store l.self).value ≡ (stands g.S.Store l.fn.self).value) × (AreWelcome (stands g.S.Store l.fn.self).value (take l.place l.rows) × AreEnds (stands g.S.Store l.fn.self).value (take l.place l.rows))) (λ v. ⊥);
  up : IsUp (state g.S.Store l.self.conn);
}
