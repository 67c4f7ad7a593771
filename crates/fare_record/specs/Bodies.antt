-- Bodies: how a value is spelled in bytes, the highest byte of each number first, and which bytes are no value's.
use Rattle.std.specs.Prelude.{ℕ, ◌==◌, ◌||◌, ◌++◌, Bool, false, List, drop, Option, Some, None, if◌then◌else◌, nat_lt}
use Rattle.byteorder.specs.Endian.{big_bytes, big_number}
use Rattle.fare_record.specs.Values.{RecordValue, StatementValue, AckValue, DayAckValue, HelloValue}
use Rattle.fare_record.specs.declared.fault.RecordFault.{RecordFault}
use Rattle.fare_record.specs.declared.fault.RecordFault.TheVariants.{ZeroId, NumberRange, DayRange, ZeroRoute}

-- the number in so many bytes from a place on
abbrev pub number_at : ℕ → ℕ → List ℕ → ℕ
number_at place width bytes = big_number width (drop place bytes)

-- a link or a lane number, a count or an acknowledged number, a token is out of its limits
abbrev pub no_number : ℕ → Bool
no_number n = n == 0 || nat_lt 1099511627775 n

abbrev pub no_count : ℕ → Bool
no_count n = nat_lt 1099511627775 n

abbrev pub no_token : ℕ → Bool
no_token n = n == 0 || nat_lt 9223372036854775807 n

-- a day or a moment is out of its limits
abbrev pub no_day : ℕ → Bool
no_day n = nat_lt 100000 n

abbrev pub no_moment : ℕ → Bool
no_moment n = nat_lt 8640200000 n

-- the first fault, where an id is 0, where a number is out of its limits, where a day or a moment is, where a route is 0
abbrev pub first_fault : Bool → Bool → Bool → Bool → Option RecordFault
first_fault id number day route = if id then Some ZeroId else if number then Some NumberRange else if day then Some DayRange else if route then Some ZeroRoute else None

-- A RECORD, whose route is not spelled
abbrev pub record_bytes : RecordValue → List ℕ
record_bytes r =
    big_bytes 4 r.device ++ big_bytes 8 r.link ++ big_bytes 2 r.owner ++ big_bytes 8 r.lane
    ++ big_bytes 4 r.tap.product ++ big_bytes 8 r.tap.token ++ big_bytes 8 r.tap.moment ++ big_bytes 4 r.tap.day

-- the numbers in 46 bytes, whatever they are
abbrev pub record_in : List ℕ → RecordValue
record_in bytes = record {
  device = number_at 0 4 bytes;
  link = number_at 4 8 bytes;
  owner = number_at 12 2 bytes;
  lane = number_at 14 8 bytes;
  tap = record { product = number_at 22 4 bytes; token = number_at 26 8 bytes; moment = number_at 34 8 bytes; day = number_at 42 4 bytes; route = 0 };
}

-- the first fault of a record, where a route of 0 is one or not
abbrev pub fault_of : Bool → RecordValue → Option RecordFault
fault_of route r =
    first_fault (r.device == 0 || r.owner == 0 || r.tap.product == 0) (no_number r.link || no_number r.lane || no_token r.tap.token)
    (no_moment r.tap.moment || no_day r.tap.day) route

abbrev pub record_fault : RecordValue → Option RecordFault
record_fault r = fault_of false r

-- A RECORD WITH ITS ROUTE, which comes last
abbrev pub routed_bytes : RecordValue → List ℕ
routed_bytes r = record_bytes r ++ big_bytes 2 r.tap.route

-- the numbers in 48 bytes
abbrev pub routed_in : List ℕ → RecordValue
routed_in bytes = record (record_in bytes) { tap = record (record_in bytes).tap { route = number_at 46 2 bytes } }

abbrev pub routed_fault : RecordValue → Option RecordFault
routed_fault r = fault_of (r.tap.route == 0) r

-- A STATEMENT
abbrev pub statement_bytes : StatementValue → List ℕ
statement_bytes s = big_bytes 4 s.device ++ big_bytes 4 s.day ++ big_bytes 2 s.owner ++ big_bytes 8 s.count

-- the numbers in 18 bytes
abbrev pub statement_in : List ℕ → StatementValue
statement_in bytes = record { device = number_at 0 4 bytes; day = number_at 4 4 bytes; owner = number_at 8 2 bytes; count = number_at 10 8 bytes }

abbrev pub statement_fault : StatementValue → Option RecordFault
statement_fault s = first_fault (s.device == 0 || s.owner == 0) (no_count s.count) (no_day s.day) false

-- AN ACKNOWLEDGEMENT
abbrev pub ack_bytes : AckValue → List ℕ
ack_bytes a = big_bytes 4 a.device ++ big_bytes 8 a.upto

-- the numbers in 12 bytes
abbrev pub ack_in : List ℕ → AckValue
ack_in bytes = record { device = number_at 0 4 bytes; upto = number_at 4 8 bytes }

abbrev pub ack_fault : AckValue → Option RecordFault
ack_fault a = first_fault (a.device == 0) (no_count a.upto) false false

-- A DAY ACKNOWLEDGEMENT
abbrev pub day_ack_bytes : DayAckValue → List ℕ
day_ack_bytes a = big_bytes 4 a.device ++ big_bytes 4 a.day

-- the numbers in 8 bytes
abbrev pub day_ack_in : List ℕ → DayAckValue
day_ack_in bytes = record { device = number_at 0 4 bytes; day = number_at 4 4 bytes }

abbrev pub day_ack_fault : DayAckValue → Option RecordFault
day_ack_fault a = first_fault (a.device == 0) false (no_day a.day) false

-- A GREETING
abbrev pub hello_bytes : HelloValue → List ℕ
hello_bytes h = big_bytes 4 h.device ++ big_bytes 2 h.version

-- the numbers in 6 bytes
abbrev pub hello_in : List ℕ → HelloValue
hello_in bytes = record { device = number_at 0 4 bytes; version = number_at 4 2 bytes }

abbrev pub hello_fault : HelloValue → Option RecordFault
hello_fault h = first_fault (h.device == 0) false false false
