use Rattle.std.proofs.Common.{◌≡◌, ℕ, List, false, nat_eq, sym, subst}
use Rattle.std.specs.List.{list_any}
use Rattle.fare_inbox_queue.proofs.Distinct.{new_here}
use Rattle.fare_inbox_queue.proofs.inbox.seat_all.Goals as goal

pub seated-pass-requires-clause-fresh : goal.seated-pass-requires-clause-fresh
seated-pass-requires-clause-fresh c =
    subst (λ (l : List ℕ). list_any (nat_eq c.index-stations-index.result) l ≡ false) (sym c.loop-index.invariant.stations)
    (new_here c.args.stations.now c.loop-index.index c.index-stations-index.result c.loop-index-test.true c.index-stations-index.is c.requires.distinct)
