use Rattle.std.proofs.Common.{◌≡◌, ◌∷◌, [], ◌-◌, length, take, drop, sym, ap, ◌∙◌, arith, List, subst, Some, Err}
use Rattle.std.specs.Prelude.{IfErr}
use Rattle.std.proofs.lemmas.Result.{err_from_is_err_and}
use Rattle.std.proofs.lemmas.List.{take_all, take_more, drop_more, length-drop, length-take-le}
use Rattle.fare_inbox_queue.specs.declared.arrived.Arrived.{Arrived}
use Rattle.fare_writer.specs.Batches.{HaltsBefore}
use Rattle.fare_writer.specs.Keeping.{HasKept}
use Rattle.fare_writer.proofs.Batches.{written_first, alone_first, alone_halted, told_silently}
use Rattle.fare_writer.proofs.keeping.keep_some.Goals as goal

pub returns-in_err-stored-clause-halted : goal.returns-in_err-stored-clause-halted
returns-in_err-stored-clause-halted g c =
    let is = err_from_is_err_and c.from_residual.result c.from_residual.ensures.1 in
    let halted = c.in_err-stored.ensures.halted in
    subst (λ r. IfErr r (λ halt. HasKept c.args.scheme.now (g.O.Outbox.standing c.args.outbox.now) (g.O.Outbox.standing c.store_lead.new.outbox) c.args.items.now c.args.tally.now c.args.tally.now (Some halt))) (sym (is.1 ∙ ap Err is.2))
    (halted c.args.scheme.now c.args.tally.now c.requires.few)

pub returns-then-stored-gt0-clause-kept : goal.returns-then-stored-gt0-clause-kept
returns-then-stored-gt0-clause-kept g c =
    let items = c.args.items.now in
    let n = c.in_ok-stored.stored in
    let call = c.in_ok-stored.ensures.stored in
    let few = call.1.few in
    let up = c.count_all.ensures.stored in
    let l = length-take-le n items few in
    record { each = λ t. written_first c.args.scheme.now (g.O.Outbox.standing c.args.outbox.now) (g.O.Outbox.standing c.store_lead.new.outbox) items n t t c.args.tally.now c.count_all.new.self (g.met.O.Outbox.sound c.store_lead.new.outbox) call.0 call.1 (told_silently c.args.scheme.now (take n items) t) (omega (arith, up, l)) c.count_all.ensures.days }

pub returns-in-Ok-clause-kept : goal.returns-in-Ok-clause-kept
returns-in-Ok-clause-kept g c =
    let items = c.args.items.now in
    let item = c.index-items-0.result in
    let call = c.in_ok-stored.ensures.stored in
    let one = c.in-Ok.ensures.kept in
    let first : take 1 items ≡ item ∷ [] = take_more items 0 item (omega arith) ∙ ap (λ x. x ∷ []) (sym c.index-items-0.is) in
    record { each = λ t. alone_first c.args.scheme.now (g.O.Outbox.standing c.args.outbox.now) (g.O.Outbox.standing c.store_lead.new.outbox) (g.O.Outbox.standing c.keep.new.outbox) items item c.in_ok-stored.stored t t c.args.tally.now c.keep.new.tally (omega arith) (g.met.O.Outbox.sound c.store_lead.new.outbox) call.0 call.1 first (one.each t) }

pub returns-in-Err-clause-halted : goal.returns-in-Err-clause-halted
returns-in-Err-clause-halted g c =
    let items = c.args.items.now in
    let item = c.index-items-0.result in
    let call = c.in_ok-stored.ensures.stored in
    let one = c.in-Err.ensures.kept in
    let rest = drop 1 items in
    let at : items ≡ item ∷ rest = drop_more items 0 item (omega arith) ∙ ap (λ x. x ∷ rest) (sym c.index-items-0.is) in
    let l = length-drop 1 items in
    let same : take (length items - 1) rest ≡ rest = take_all (length items - 1) rest (omega (arith, l)) in
    record {
      each = λ t. alone_halted c.args.scheme.now (g.O.Outbox.standing c.args.outbox.now) (g.O.Outbox.standing c.store_lead.new.outbox) (g.O.Outbox.standing c.keep.new.outbox) items item rest c.in_ok-stored.stored t t c.args.tally.now c.keep.new.tally c.in-Err.halt c.halted.result (omega arith) (g.met.O.Outbox.sound c.store_lead.new.outbox) call.0 call.1
          at c.in-Err.ensures.alone c.requires.few (subst (λ (xs : List Arrived). HaltsBefore c.in-Err.halt xs c.halted.result) same c.halted.ensures) (one.each t);
    }
