-- What is replied of an item that moves.
use Rattle.fare_record.specs.declared.item.Item.{Item}
use Rattle.fare_record.specs.declared.item.Item.TheVariants.{Tap, Stated}
use Rattle.fare_event.specs.declared.reply.Reply.{Reply}
use Rattle.fare_event.specs.declared.reply.Reply.TheVariants as reply

abbrev pub drawn_item : Item → Reply
drawn_item (Tap r) = reply.Drawn r.device r.link
drawn_item (Stated x) = reply.DrawnDay x.device x.day x.owner

abbrev pub forwarded_item : Item → Reply
forwarded_item (Tap r) = reply.Forwarded r.lane
forwarded_item (Stated x) = reply.ForwardedDay x.day

abbrev pub fetched_item : Item → Reply
fetched_item (Tap r) = reply.Fetched r.device r.lane
fetched_item (Stated x) = reply.FetchedDay x.device x.day
