use Rattle.std.proofs.Common.{◌≡◌, ◌∷◌, [], ◌-◌, length, take, drop, sym, ap, ◌∙◌, arith, List, subst, Some, Err}
use Rattle.std.specs.Prelude.{IfErr}
use Rattle.std.proofs.lemmas.Result.{err_from_is_err_and}
use Rattle.std.proofs.lemmas.List.{take_all, take_more, drop_more, length-drop}
use Rattle.fare_inbox_queue.specs.declared.arrived.Arrived.{Arrived}
use Rattle.fare_writer.specs.Batches.{HaltsBefore}
use Rattle.fare_writer.specs.Handling.{HasWritten}
use Rattle.fare_writer.proofs.Batches.{written_first, alone_first, alone_halted}
use Rattle.fare_writer.proofs.batching.handle_some.Goals as goal

pub returns-in_err-stored-clause-halted : goal.returns-in_err-stored-clause-halted
returns-in_err-stored-clause-halted g c =
    let is = err_from_is_err_and c.from_residual.result c.from_residual.ensures.1 in
    let halted = c.in_err-stored.ensures.halted in
    subst (λ r. IfErr r (λ halt. HasWritten c.args.floor.now.scheme.now (g.O.Outbox.standing c.args.outbox.now) (g.O.Outbox.standing c.store_lead.new.outbox) c.args.items.now c.args.tellers.now c.args.tellers.now c.args.tally.now c.args.tally.now (Some halt))) (sym (is.1 ∙ ap Err is.2))
    ((halted c.args.floor.now.scheme.now c.args.tally.now c.requires.few).each c.args.tellers.now)

pub returns-then-stored-gt0-clause-written : goal.returns-then-stored-gt0-clause-written
returns-then-stored-gt0-clause-written g c =
    let call = c.in_ok-stored.ensures.stored in
    written_first c.args.floor.now.scheme.now (g.O.Outbox.standing c.args.outbox.now) (g.O.Outbox.standing c.store_lead.new.outbox) c.args.items.now c.in_ok-stored.stored c.args.tellers.now c.tell_all.new.tellers c.args.tally.now c.tell_all.new.tally (g.met.O.Outbox.sound c.store_lead.new.outbox) call.0 call.1 c.tell_all.ensures.told c.tell_all.ensures.stored c.tell_all.ensures.days

pub returns-in-Ok-clause-written : goal.returns-in-Ok-clause-written
returns-in-Ok-clause-written g c =
    let items = c.args.items.now in
    let item = c.index-items-0.result in
    let call = c.in_ok-stored.ensures.stored in
    let first : take 1 items ≡ item ∷ [] = take_more items 0 item (omega arith) ∙ ap (λ x. x ∷ []) (sym c.index-items-0.is) in
    alone_first c.args.floor.now.scheme.now (g.O.Outbox.standing c.args.outbox.now) (g.O.Outbox.standing c.store_lead.new.outbox) (g.O.Outbox.standing c.handle.new.outbox) items item c.in_ok-stored.stored c.args.tellers.now c.handle.new.tellers c.args.tally.now c.handle.new.tally (omega arith) (g.met.O.Outbox.sound c.store_lead.new.outbox) call.0 call.1 first c.in-Ok.ensures.written

pub returns-in-Err-clause-halted : goal.returns-in-Err-clause-halted
returns-in-Err-clause-halted g c =
    let items = c.args.items.now in
    let item = c.index-items-0.result in
    let call = c.in_ok-stored.ensures.stored in
    let rest = drop 1 items in
    let at : items ≡ item ∷ rest = drop_more items 0 item (omega arith) ∙ ap (λ x. x ∷ rest) (sym c.index-items-0.is) in
    let l = length-drop 1 items in
    let same : take (length items - 1) rest ≡ rest = take_all (length items - 1) rest (omega (arith, l)) in
    alone_halted c.args.floor.now.scheme.now (g.O.Outbox.standing c.args.outbox.now) (g.O.Outbox.standing c.store_lead.new.outbox) (g.O.Outbox.standing c.handle.new.outbox) items item rest c.in_ok-stored.stored c.args.tellers.now c.handle.new.tellers c.args.tally.now c.handle.new.tally c.in-Err.halt c.halted.result (omega arith) (g.met.O.Outbox.sound c.store_lead.new.outbox) call.0 call.1
    at c.in-Err.ensures.alone c.requires.few (subst (λ (xs : List Arrived). HaltsBefore c.in-Err.halt xs c.halted.result) same c.halted.ensures) c.in-Err.ensures.written
