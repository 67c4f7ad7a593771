use Rattle.std.proofs.Common.{◌∷◌, ◌++◌, [], ap, sym, ◌∙◌, append_assoc}
use Rattle.fare_inbox_queue.specs.LinePasses.{heard_list, unheard_list}
use Rattle.fare_collect.proofs.Handed.{handed_then}
use Rattle.fare_collect.proofs.ending.hand_left.Goals as goal

pub loop-preserved : goal.loop-preserved
loop-preserved g c =
    let inv = c.loop.invariant in
    let items = inv.1.0 in
    let was = inv.1.2 in
    let item = c.in-Some-next.item in
    let talks = g.S.Source.talk in
    let h = c.hand.ensures in (
      c.next-in-loop.ensures.ended.0,
      (
        items ++ item ∷ [],
        ap (λ l. heard_list c.args.hear ++ l) (append_assoc items (item ∷ []) (unheard_list c.next-in-loop.new.self) ∙ ap (λ l. items ++ l) (sym c.in-Some-next.ensures.some)) ∙ inv.1.1,
        record {
          handed = handed_then (talks c.args.station.now.source) (talks c.loop.station.source) (talks c.hand.new.station.source) items (item ∷ []) c.args.station.now.end.fault c.loop.station.end.fault c.hand.new.station.end.fault was.handed h.handed;
          collector = h.collector ∙ was.collector;
          held = h.held ∙ was.held;
          at_end = h.at_end ∙ was.at_end;
        },
      ),
    )
