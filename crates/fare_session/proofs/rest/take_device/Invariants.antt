use Rattle.std.proofs.Common.{◌≡◌, List}
use Rattle.fare_record.specs.declared.item.Item.{Item}
use Rattle.fare_session.proofs.Rests.{by_itself, InDevice, ReachedAt}
use Rattle.fare_session.proofs.rest.take_device.Given as goal

abbrev pub invariant-loop : goal.invariant-loop
invariant-loop g l = record {
  done : List Item;
  hand : l.hand ≡ 0;
  now : InDevice l.fn.device (g.O.Outbox.standing l.fn.outbox) (g.O.Outbox.standing l.outbox) (g.L.Ledger.standing l.fn.ledger) (g.L.Ledger.standing l.ledger) l.fn.forwarder l.forwarder l.fn.taken l.taken done;
  at : ReachedAt (by_itself l.fn.device) (g.O.Outbox.standing l.fn.outbox) (g.O.Outbox.standing l.outbox) (g.L.Ledger.standing l.fn.ledger) (g.L.Ledger.standing l.ledger) l.fn.forwarder done l.fn.device l.reached;
}
