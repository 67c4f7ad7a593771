use Rattle.std.proofs.Common.{◌≡◌, ◌∷◌, [], ap, sym, subst, ◌∙◌}
use Rattle.fare_record.specs.declared.ack_item.AckItem.TheVariants.{Upto}
use Rattle.fare_inbox_queue.specs.declared.arrived.Arrived.{Arrived}
use Rattle.fare_writer.specs.Batches.{HaveTold}
use Rattle.fare_writer.proofs.Batches.{told_tap, told_statement}
use Rattle.fare_writer.proofs.batching.tell_one.Goals as goal

pub returns-in-Tap-clause-told : goal.returns-in-Tap-clause-told
returns-in-Tap-clause-told g c =
    let row = c.in-Tap.row in
    let is : Upto c.new.result ≡ Upto (record { device = row.device; upto = row.link }) = ap Upto (c.new.ensures ∙ λ i. record { device = c.device.ensures i; upto = c.link.ensures.value i }) in
    subst (λ (a : Arrived). HaveTold c.args.floor.now.scheme.now (a ∷ []) c.args.tellers.now c.tell.new.tellers) (sym c.in-Tap.is)
    (told_tap c.args.floor.now.scheme.now c.in-Tap.station row c.station_position-place.result (Upto c.new.result) c.tell.result c.args.tellers.now c.tell.new.tellers c.station_position-place.ensures.value is c.tell.ensures.told)

pub returns-in_default-clause-told : goal.returns-in_default-clause-told
returns-in_default-clause-told g c = told_statement c.args.floor.now.scheme.now c.args.item c.args.tellers.now
