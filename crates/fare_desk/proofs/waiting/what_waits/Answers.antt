use Rattle.std.proofs.Common.{◌≡◌, ◌⊎◌, [], inl, refl, sym, subst, ◌∙◌, rules}
use Rattle.fare_scheme.proofs.Slices.{entry_at, item_at}
use Rattle.fare_desk.specs.Causes.{store_fault}
use Rattle.fare_desk.specs.Faults.{of_store}
use Rattle.fare_desk.specs.declared.fault.DeskFault.TheVariants as desk
use Rattle.fare_desk.specs.Waiting.{TellsOwners}
use Rattle.fare_desk.proofs.Asked.{asked_ledgers, asks_join, asks_self, placed_known}
use Rattle.fare_desk.proofs.Causes.{counted_fault, counted_memory, counted_ok, counted_then}
use Rattle.fare_desk.proofs.Failing.{err_is, memory_or_store}
use Rattle.fare_desk.proofs.Waits.{owners_none, owners_push}
use Rattle.fare_desk.proofs.waiting.what_waits.Goals as goal

pub returns-in_err-waits-clause-asks : goal.returns-in_err-waits-clause-asks
returns-in_err-waits-clause-asks g c = asks_self g.O.Outbox.standing g.L.Ledger.standing c.args.hub.now

pub returns-in_err-waits-clause-cause : goal.returns-in_err-waits-clause-cause
returns-in_err-waits-clause-cause g c = counted_memory _ _ c.from_residual.result c.from_residual.ensures.1 refl

pub returns-in_err-waits-clause-fault : goal.returns-in_err-waits-clause-fault
returns-in_err-waits-clause-fault g c = err_is c.from_residual.result desk.Memory (λ q. (q ≡ desk.Memory) ⊎ (q ≡ desk.Store)) c.from_residual.ensures.1 (inl refl)

pub loop-place-init : goal.loop-place-init
loop-place-init g c = (subst (TellsOwners g.O.Outbox.standing g.L.Ledger.standing [] c.args.hub.now c.args.hub.now) (sym c.in_ok-waits.ensures.items) (owners_none g.O.Outbox.standing g.L.Ledger.standing c.args.hub.now), refl)

pub waits_for-requires-clause-ledgers : goal.waits_for-requires-clause-ledgers
waits_for-requires-clause-ledgers g c = asked_ledgers g.O.Outbox.standing g.L.Ledger.standing c.args.hub.now c.loop-place.hub c.loop-place.invariant.0.asks c.requires.ledgers

pub waits_for-requires-clause-known : goal.waits_for-requires-clause-known
waits_for-requires-clause-known g c = placed_known _ c.loop-place.place (c.owners.ensures.placed c.loop-place.place c.index-owners-place.result (item_at c.owners.result.now c.loop-place.place c.index-owners-place.result (search rules) c.index-owners-place.is))

pub returns-in_err-waiting-clause-asks : goal.returns-in_err-waiting-clause-asks
returns-in_err-waiting-clause-asks g c = asks_join g.O.Outbox.standing g.L.Ledger.standing c.args.hub.now c.loop-place.hub c.waits_for.new.hub c.loop-place.invariant.0.asks c.waits_for.ensures.asks

pub returns-in_err-waiting-clause-cause : goal.returns-in_err-waiting-clause-cause
returns-in_err-waiting-clause-cause g c =
    counted_then _ _ _ (store_fault c.from_residual-in_err-waiting.result) c.loop-place.invariant.1
    (counted_fault _ _ c.waits_for.result c.from_residual-in_err-waiting.result c.in_err-waiting.field-0.0 c.in_err-waiting.was c.from_residual-in_err-waiting.ensures.1 c.waits_for.ensures.cause)

pub returns-in_err-waiting-clause-fault : goal.returns-in_err-waiting-clause-fault
returns-in_err-waiting-clause-fault g c =
    let why = c.in_err-waiting.field-0.0 in
    err_is c.from_residual-in_err-waiting.result (of_store why) (λ q. (q ≡ desk.Memory) ⊎ (q ≡ desk.Store)) c.from_residual-in_err-waiting.ensures.1 (memory_or_store why (of_store why) refl)

pub returns-in_err-push-clause-asks : goal.returns-in_err-push-clause-asks
returns-in_err-push-clause-asks g c = asks_join g.O.Outbox.standing g.L.Ledger.standing c.args.hub.now c.loop-place.hub c.waits_for.new.hub c.loop-place.invariant.0.asks c.waits_for.ensures.asks

pub returns-in_err-push-clause-cause : goal.returns-in_err-push-clause-cause
returns-in_err-push-clause-cause g c =
    counted_memory _ _ c.from_residual-in_err-push.result c.from_residual-in_err-push.ensures.1
    (counted_ok _ _ c.waits_for.result c.in_ok-waiting.waiting c.in_ok-waiting.was c.waits_for.ensures.cause ∙ c.loop-place.invariant.1)

pub returns-in_err-push-clause-fault : goal.returns-in_err-push-clause-fault
returns-in_err-push-clause-fault g c = err_is c.from_residual-in_err-push.result desk.Memory (λ q. (q ≡ desk.Memory) ⊎ (q ≡ desk.Store)) c.from_residual-in_err-push.ensures.1 (inl refl)

pub loop-place-preserved : goal.loop-place-preserved
loop-place-preserved g c = (
  owners_push g.O.Outbox.standing g.L.Ledger.standing c.loop-place.place c.index-owners-place.result c.args.hub.now c.loop-place.hub c.waits_for.new.hub c.loop-place.waits.items c.push.new.self.items c.in_ok-waiting.waiting
      c.in_ok-push.ensures.items (entry_at c.loop-place.hub.scheme.owners c.owners.result.now c.loop-place.place c.index-owners-place.result c.owners.ensures.value (search rules) c.index-owners-place.is) c.loop-place.invariant.0 c.in_ok-waiting.ensures.tells,
  counted_ok _ _ c.waits_for.result c.in_ok-waiting.waiting c.in_ok-waiting.was c.waits_for.ensures.cause ∙ c.loop-place.invariant.1,
)

pub returns-clause-asks : goal.returns-clause-asks
returns-clause-asks g c = c.loop-place.invariant.0.asks

pub returns-clause-cause : goal.returns-clause-cause
returns-clause-cause g c = c.loop-place.invariant.1

pub returns-clause-fault : goal.returns-clause-fault
returns-clause-fault g c = tt
