-- The limits of the numbers in each kind of body.
use Rattle.std.specs.Prelude.{◌≤◌}
use Rattle.fare_record.specs.Limits.{IsDeviceId, IsOwnerId, IsProductId, IsToken, IsDay, IsMoment, IsRoute, IsNumber, IsCount}
use Rattle.fare_record.specs.Values.{RecordValue, StatementValue, AckValue, DayAckValue, HelloValue}

-- a record as one of a tap whose route is not known
abbrev pub unrouted : RecordValue → RecordValue
unrouted r = record r { tap = record r.tap { route = 0 } }

pub record IsLawfulRecord (r : RecordValue) : Type 0 where
  pub device : IsDeviceId r.device
  pub link : IsNumber r.link
  pub owner : IsOwnerId r.owner
  pub lane : IsNumber r.lane
  pub product : IsProductId r.tap.product
  pub token : IsToken r.tap.token
  pub moment : IsMoment r.tap.moment
  pub day : IsDay r.tap.day
  pub route : IsRoute r.tap.route

pub record IsLawfulStatement (s : StatementValue) : Type 0 where
  pub device : IsDeviceId s.device
  pub day : IsDay s.day
  pub owner : IsOwnerId s.owner
  pub count : IsCount s.count

pub record IsLawfulAck (a : AckValue) : Type 0 where
  pub device : IsDeviceId a.device
  pub upto : IsCount a.upto

pub record IsLawfulDayAck (a : DayAckValue) : Type 0 where
  pub device : IsDeviceId a.device
  pub day : IsDay a.day

-- any version of two bytes
pub record IsLawfulHello (h : HelloValue) : Type 0 where
  pub device : IsDeviceId h.device
  pub version : h.version ≤ 65535
