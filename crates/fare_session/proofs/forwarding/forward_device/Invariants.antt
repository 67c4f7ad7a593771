use Rattle.std.proofs.Common.{◌≡◌, ◌+◌, [], ◌∷◌, ◌++◌, List, length, None}
use Rattle.fare_record.specs.declared.item.Item.{Item}
use Rattle.fare_lane_queue.specs.Lane.{base_of, lanes_of}
use Rattle.fare_lane_queue.specs.Passes.{sent_list, forward_bases, IsForwardOf}
use Rattle.fare_history.specs.Serving.{Cursors, moved_by_all}
use Rattle.fare_session.specs.Forwarding.{AreBases, Forwarded, Moves}
use Rattle.fare_session.proofs.forwarding.forward_device.Given as goal

abbrev pub invariant-loop : goal.invariant-loop
invariant-loop g l = record {
  queue : IsForwardOf l.line l.pass;
  bases : forward_bases l.pass ≡ forward_bases l.fn.pass;
  items : List Item;
  sent : sent_list l.pass ≡ sent_list l.fn.pass ++ items;
  forwarded : Forwarded (l.fn.base ∷ []) (g.O.Outbox.standing l.fn.outbox) (g.O.Outbox.standing l.outbox) l.fn.forwarder l.forwarder items None;
  moves : Moves l.fn.forwarder l.forwarder items None;
  reached : l.reached ≡ base_of (forward_bases l.fn.pass) l.device + length (lanes_of l.device (sent_list l.pass));
  far : (c : Cursors) → AreBases (l.fn.base ∷ []) c → (moved_by_all c items).lane l.device ≡ l.reached;
}
