use Rattle.std.proofs.Common.{refl}
use Rattle.fare_history.specs.Serving.{behind_ledger, put_by}
use Rattle.fare_agreement.proofs.Refusals.{items_unrefused, entries_free}
use Rattle.fare_agreement.proofs.laws.no_item_of_the_lists_is_refused.Goals as goal

pub returns-clause-served : goal.returns-clause-served
returns-clause-served c = λ sc lists h owner v is known own made told.
    items_unrefused sc lists owner h.outbox (λ d. is.stated owner d) (h.ledgers owner) (behind_ledger sc (h.ledgers owner)) (put_by v) (record { of_owner = own; made = made }) told.known told.working (λ d. is.lanes owner d known) (λ d. refl) told.items

pub returns-clause-gathered : goal.returns-clause-gathered
returns-clause-gathered c = λ sc lists h g all is known of told. entries_free sc lists all h.ledgers h.outbox g.entries g.hand g.inbox known of told.counted told.stored is
