use Rattle.std.proofs.Common.{◌≡◌, length}
use Rattle.fare_serve.specs.Rounds.{HaveServedOwners}
use Rattle.fare_serve.proofs.rounds.serve_owners.Given as goal

abbrev pub invariant-loop-place : goal.invariant-loop-place
invariant-loop-place g l = record {
  served : HaveServedOwners g.S.Source.talk g.O.Outbox.standing g.L.Ledger.standing l.fn.hub l.hub l.place l.fn.counts l.counts;
  scheme : l.hub.scheme ≡ l.fn.hub.scheme;
  ledgers : length l.hub.ledgers.items ≡ length l.hub.scheme.owners;
  entries : length l.counts.taken.items ≡ length l.fn.hub.scheme.owners;
}
