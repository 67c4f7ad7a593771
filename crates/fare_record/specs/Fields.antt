-- What the numbers of a record's fields say.
use Rattle.fare_record.specs.Values.{RecordValue}
use Rattle.fare_record.specs.declared.record.Numbers.{Numbers}

abbrev pub record_of : Numbers → RecordValue
record_of n = record {
  device = n.device;
  link = n.link;
  owner = n.owner;
  lane = n.lane;
  tap = record { product = n.product; token = n.token; moment = n.moment; day = n.day; route = n.route };
}
