-- What is replied of an acknowledgement that is sent.
use Rattle.std.specs.Prelude.{ℕ}
use Rattle.fare_record.specs.declared.ack_item.AckItem.{AckItem}
use Rattle.fare_record.specs.declared.ack_item.AckItem.TheVariants.{Upto, Day}
use Rattle.fare_event.specs.declared.reply.Reply.{Reply}
use Rattle.fare_event.specs.declared.reply.Reply.TheVariants.{Answered, AnsweredDay}

abbrev pub answered_by : ℕ → AckItem → Reply
answered_by packet (Upto a) = Answered packet a.device a.upto
answered_by packet (Day a) = AnsweredDay packet a.device a.day
