-- Numbers that their fields have the width for, and lists of bytes.
use Rattle.std.specs.Prelude.{◌≡◌, ◌<◌, ◌^◌, ℕ, List, length, get_or}
use Rattle.fare_record.specs.Values.{RecordValue, StatementValue, AckValue, DayAckValue, HelloValue}

-- a list of so many bytes
pub record AreBytes (count : ℕ) (bytes : List ℕ) : Type 0 where
  pub all : length bytes ≡ count
  pub small : (place : ℕ) → get_or bytes place 0 < 256

pub record IsWideRecord (r : RecordValue) : Type 0 where
  pub device : r.device < 2 ^ 32
  pub link : r.link < 2 ^ 64
  pub owner : r.owner < 2 ^ 16
  pub lane : r.lane < 2 ^ 64
  pub product : r.tap.product < 2 ^ 32
  pub token : r.tap.token < 2 ^ 64
  pub moment : r.tap.moment < 2 ^ 64
  pub day : r.tap.day < 2 ^ 32
  pub route : r.tap.route < 2 ^ 16

pub record IsWideStatement (s : StatementValue) : Type 0 where
  pub device : s.device < 2 ^ 32
  pub day : s.day < 2 ^ 32
  pub owner : s.owner < 2 ^ 16
  pub count : s.count < 2 ^ 64

pub record IsWideAck (a : AckValue) : Type 0 where
  pub device : a.device < 2 ^ 32
  pub upto : a.upto < 2 ^ 64

pub record IsWideDayAck (a : DayAckValue) : Type 0 where
  pub device : a.device < 2 ^ 32
  pub day : a.day < 2 ^ 32

pub record IsWideHello (h : HelloValue) : Type 0 where
  pub device : h.device < 2 ^ 32
  pub version : h.version < 2 ^ 16
