use Rattle.std.proofs.Common.{◌≡◌, ℕ, ◌≤◌, [], None, Some}
use Rattle.std.specs.Prelude.{slice_get}
use Rattle.fare_lane_queue.specs.Lane.{lanes_of}
use Rattle.fare_lane_queue.specs.Passes.{sent_list, forward_bases, IsForwardOf}
use Rattle.fare_session.specs.Forwarding.{Forwarded}
use Rattle.fare_session.proofs.forwarding.forward_devices.Given as goal

abbrev pub invariant-loop-base : goal.invariant-loop-base
invariant-loop-base g l = record {
  queue : IsForwardOf l.line l.pass;
  bases : forward_bases l.pass ≡ l.bases;
  forwarded : Forwarded l.bases (g.O.Outbox.standing l.fn.outbox) (g.O.Outbox.standing l.outbox) l.fn.forwarder l.forwarder (sent_list l.pass) None;
  fresh : (k : ℕ) (p : ℕ × ℕ) → l.base-index ≤ k → slice_get l.bases k ≡ Some p → lanes_of p.0 (sent_list l.pass) ≡ [];
}
