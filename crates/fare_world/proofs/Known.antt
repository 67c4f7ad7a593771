-- Where a device is registered.
use Rattle.std.proofs.Common.{◌≡◌, ℕ, Some, None, true, false, refl, sym, ap, ◌∙◌}
use Rattle.std.specs.Prelude.{Option, is_some, option_map}
use Rattle.std.proofs.lemmas.Bool.Decides.{Decides-eqb}
use Rattle.fare_scheme.specs.Values.{SchemeValue}
use Rattle.fare_scheme.specs.Words.{station_of, position_of_device}
use Rattle.fare_scheme.proofs.Known.{some_place}
use Rattle.fare_collector.specs.Collecting.{is_id}

is_some-map : {X Y : Type 0} (f : X → Y) (o : Option X) → is_some (option_map f o) ≡ is_some o
is_some-map f None = refl
is_some-map f (Some x) = refl

-- a device has a station exactly where it has a position
pub station_where_placed : (sc : SchemeValue) (device : ℕ) → is_some (position_of_device sc device) ≡ is_some (station_of sc device)
station_where_placed sc device = some_place sc.devices device ∙ sym (is_some-map (λ d. d.station) _)

is_none : {X : Type 0} (o : Option X) → is_some o ≡ false → o ≡ None
is_none None e = refl
is_none (Some x) e = absurd (cc)

pub no_station : (sc : SchemeValue) (device : ℕ) → position_of_device sc device ≡ None → station_of sc device ≡ None
no_station sc device none = is_none (station_of sc device) (sym (station_where_placed sc device) ∙ ap is_some none)

pub no_place : (sc : SchemeValue) (device : ℕ) → station_of sc device ≡ None → position_of_device sc device ≡ None
no_place sc device none = is_none (position_of_device sc device) (station_where_placed sc device ∙ ap is_some none)

pub placed : (sc : SchemeValue) (device station : ℕ) → station_of sc device ≡ Some station → is_some (position_of_device sc device) ≡ true
placed sc device station of = station_where_placed sc device ∙ ap is_some of

-- it is its own id
pub is_own_id : (id : ℕ) → is_id (Some id) id ≡ true
is_own_id id = (Decides-eqb id id).1 refl
