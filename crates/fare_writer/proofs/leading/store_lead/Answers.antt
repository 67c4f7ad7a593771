use Rattle.std.proofs.Common.{◌≡◌, ◌∷◌, ◌-◌, List, length, drop, Some, sym, ap, subst, ◌∙◌, arith}
use Rattle.std.specs.Prelude.{Ok, Err}
use Rattle.std.proofs.lemmas.List.{drop_more, length-drop}
use Rattle.fare_inbox_queue.specs.declared.arrived.Arrived.{Arrived}
use Rattle.fare_writer.specs.Batches.{StoresFirst}
use Rattle.fare_writer.specs.Keeping.{HasKept}
use Rattle.fare_writer.proofs.Batches.{begin_with_taps, stores_first, written_unstored}
use Rattle.fare_writer.proofs.leading.store_lead.Goals as goal

pub returns-in-Ok-clause-stored : goal.returns-in-Ok-clause-stored
returns-in-Ok-clause-stored g c = (
  stores_first (g.O.Outbox.standing c.args.outbox.now) (g.O.Outbox.standing c.store_all.new.self) c.args.items.now c.lead-count.new.rows c.lead-count.result (Ok c.in-Ok.stored) c.lead-count.ensures.taps (omega arith) c.in-Ok.ensures.does,
  begin_with_taps c.args.items.now c.lead-count.new.rows c.lead-count.result (Ok c.in-Ok.stored) c.lead-count.ensures.taps c.in-Ok.ensures.few (omega arith),
)

pub returns-in-Err-clause-halted : goal.returns-in-Err-clause-halted
returns-in-Err-clause-halted g c = λ sc n few.
    let items = c.args.items.now in
    let a = g.O.Outbox.standing c.args.outbox.now in
    let b = g.O.Outbox.standing c.store_all.new.self in
    let first = c.index-items-0.result in
    let at : items ≡ first ∷ drop 1 items = drop_more items 0 first (omega arith) ∙ ap (λ x. x ∷ drop 1 items) (sym c.index-items-0.is) in
    let l = length-drop 1 items in
    let some = c.requires.some in
    let call : StoresFirst a b items (Err c.in-Err.fault) = stores_first a b items c.lead-count.new.rows c.lead-count.result (Err c.in-Err.fault) c.lead-count.ensures.taps (omega arith) c.in-Err.ensures.does in
    subst (λ (xs : List Arrived). HasKept sc a b xs n n (Some (record { hand = Some first; behind = length items - 1; fault = c.from.result }))) (sym at)
    (record {
      each = λ t. written_unstored sc a b first (drop 1 items) (length items - 1) t n c.in-Err.fault c.from.result c.from.ensures (sym l) (omega (arith, l, few)) (g.met.O.Outbox.sound c.args.outbox.now)
          (subst (λ (xs : List Arrived). StoresFirst a b xs (Err c.in-Err.fault)) at call);
    })
