use Rattle.std.proofs.Common.{nat_eq, ap}
use Rattle.std.specs.HashMap.{get}
use Rattle.fare_store.specs.TapPlaces.{items_of, gone_in, from_in, same_day}
use Rattle.fare_store.specs.PlainLedgerWords.{days_closed}
use Rattle.fare_store.proofs.Retired.{none_retired, all_working}
use Rattle.fare_store.proofs.LedgerDays.{none_of, none_taken, none_begun, unbegun_none, unbegun, all_held, unclosed, unstated}
use Rattle.fare_store.proofs.plain_ledger.PlainLedger.holds_nothing.Goals as goal

pub returns : goal.returns
returns c =
    let l = c.args.self.now in (
      λ on.
          let p = c.are_nothing.ensures.0 on in
          record {
            taken = none_taken l.begun (λ d. gone_in (get nat_eq l.gone d)) (λ d. items_of (get nat_eq l.taken d)) l.begun_at (none_begun l.begun c.is_none-unbegun.result c.is_none-unbegun.ensures p.0);
            stated = λ d e. none_of l.stated.entries (same_day (d, e)) (c.is_empty-unstated.ensures.0 p.2);
            closed = λ d. ap (days_closed l.start) (none_of l.closed.entries (nat_eq d) (c.is_empty-unclosed.ensures.0 p.3));
            retired = none_retired l.retired.keys (c.is_empty-unretired.ensures.0 p.4);
            from = λ d. ap from_in (none_of l.gone.entries (nat_eq d) (c.is_empty-held.ensures.0 p.1));
          },
      λ e. c.are_nothing.ensures.1 (
        unbegun_none l.begun c.is_none-unbegun.result c.is_none-unbegun.ensures (unbegun l.begun (λ d. gone_in (get nat_eq l.gone d)) (λ d. items_of (get nat_eq l.taken d)) l.begun_at e.taken),
        c.is_empty-held.ensures.1 (all_held l.gone.entries l.let_go e.from),
        c.is_empty-unstated.ensures.1 (unstated l.stated.entries e.stated),
        c.is_empty-unclosed.ensures.1 (unclosed l.start l.closed.entries l.ends e.closed),
        c.is_empty-unretired.ensures.1 (all_working l.retired.keys e.retired),
      ),
    )
