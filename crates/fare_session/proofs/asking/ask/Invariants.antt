use Rattle.std.proofs.Common.{◌≡◌, ◌<◌, length, None}
use Rattle.fare_session.specs.Stores.{Stays}
use Rattle.fare_session.specs.Asking.{AreTold}
use Rattle.fare_session.proofs.asking.ask.Given as goal

abbrev pub invariant-loop-device : goal.invariant-loop-device
invariant-loop-device g l = record {
  stays : Stays (g.L.Ledger.standing l.fn.ledger) (g.L.Ledger.standing l.ledger) None;
  live : 0 < l.device-index → (g.L.Ledger.standing l.ledger).clean → (g.L.Ledger.standing l.fn.ledger).live;
  told : AreTold l.scheme (g.L.Ledger.standing l.fn.ledger) (g.L.Ledger.standing l.ledger) l.asked.standings.items l.asked.bases.items;
  count : length l.asked.standings.items ≡ l.device-index;
}
