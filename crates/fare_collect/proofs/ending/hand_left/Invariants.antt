use Rattle.std.proofs.Common.{◌≡◌, ◌++◌, List}
use Rattle.fare_record.specs.declared.ack_item.AckItem.{AckItem}
use Rattle.fare_inbox_queue.specs.LinePasses.{IsLineEnded, put_list, heard_list, unheard_list}
use Rattle.fare_collect.specs.Ending.{IsHanded}
use Rattle.fare_collect.proofs.ending.hand_left.Given as goal

abbrev pub invariant-loop : goal.invariant-loop
invariant-loop g l =
    IsLineEnded l.ended
    × ((items : List AckItem) × (heard_list l.fn.hear ++ (items ++ unheard_list l.ended) ≡ put_list l.fn.teller.pass) × IsHanded g.S.Source.talk items l.fn.station l.station)
