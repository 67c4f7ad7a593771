use Rattle.std.proofs.Common.{◌∷◌, [], ◌++◌, List, take, sym, ap, subst, ◌∙◌, arith}
use Rattle.std.proofs.lemmas.List.{take_more}
use Rattle.fare_inbox_queue.specs.declared.arrived.Arrived.{Arrived}
use Rattle.fare_writer.specs.Batches.{HaveTold}
use Rattle.fare_writer.proofs.Batches.{told_more}
use Rattle.fare_writer.proofs.batching.tell_all.Goals as goal

pub loop-place-preserved : goal.loop-place-preserved
loop-place-preserved g c =
    let items = c.args.items.now in
    let k = c.loop-place.place in
    let a = c.index-items-place.result in
    let inv = c.loop-place.invariant in
    let at = take_more items k a (omega arith) ∙ ap (λ x. take k items ++ x ∷ []) (sym c.index-items-place.is) in
    let up = c.count.ensures.stored in
    let before = inv.stored in
    record {
      ready = c.tell_one.ensures.ready;
      told = subst (λ (l : List Arrived). HaveTold c.args.floor.now.scheme.now l c.args.tellers.now c.tell_one.new.tellers) (sym at)
          (told_more c.args.floor.now.scheme.now (take k items) (a ∷ []) c.args.tellers.now c.loop-place.tellers c.tell_one.new.tellers inv.told c.tell_one.ensures.told);
      stored = omega (arith, up, before);
      days = c.count.ensures.days ∙ inv.days;
    }
