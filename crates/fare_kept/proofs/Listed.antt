-- Each table but the first holds a list.
use Rattle.std.proofs.Common.{[], codes, None, inl, inr, refl, arith}
use Rattle.fare_opening.specs.Listed.{IsReading, IsPutting, IsClearing}
use Rattle.fare_opening.specs.Moving.{Shape}
use Rattle.fare_kept.specs.Statements.{Setting, Zone, Owner, Operator, Station, Product, Device, kept_parts}
use Rattle.fare_kept.specs.Tables.{kept_schema, scheme_table, zone_table, owner_table, operator_table, station_table, product_table, device_table}
use Rattle.fare_kept.proofs.Texts.{scheme_names, read_scheme_text, read_scheme_own, put_scheme_text, put_scheme_own, clear_scheme_text, clear_scheme_own, zone_names, read_zone_text, read_zone_own, put_zone_text, put_zone_own, clear_zone_text, clear_zone_own, owner_names, read_owner_text, read_owner_own, put_owner_text, put_owner_own, clear_owner_text, clear_owner_own, operator_names, read_operator_text, read_operator_own, put_operator_text, put_operator_own, clear_operator_text, clear_operator_own, station_names, read_station_text, read_station_own, put_station_text, put_station_own, clear_station_text, clear_station_own, product_names, read_product_text, read_product_own, put_product_text, put_product_own, clear_product_text, clear_product_own, device_names, read_device_text, read_device_own, put_device_text, put_device_own, clear_device_text, clear_device_own}

pub reads_scheme : IsReading kept_parts Setting 2 read_scheme_text
unfolding kept_schema
reads_scheme = record { within = omega arith; has = inr (inr (inr (inl refl))); names = scheme_names; tree = 1; meant = read_scheme_own }

abbrev scheme_shape : Shape
scheme_shape = record { name = codes "kept_scheme"; columns = (scheme_table 0).columns; key = None; primary = []; uniques = []; orders = []; checks = [] }

pub puts_scheme : IsPutting kept_parts Setting 2 put_scheme_text
unfolding kept_schema
puts_scheme = record { has = inr (inr (inr (inr (inl refl)))); at = 1; meant = put_scheme_own; shape = scheme_shape; tree = 1; shape_is = refl; integers = (refl, (refl, tt)) }

pub clears_scheme : IsClearing kept_parts Setting clear_scheme_text
unfolding kept_schema
clears_scheme = record { within = omega arith; has = inr (inr (inr (inr (inr (inl refl))))); at = 1; tree = 1; meant = clear_scheme_own }

pub reads_zone : IsReading kept_parts Zone 1 read_zone_text
unfolding kept_schema
reads_zone = record { within = omega arith; has = inr (inr (inr (inr (inr (inr (inl refl)))))); names = zone_names; tree = 2; meant = read_zone_own }

abbrev zone_shape : Shape
zone_shape = record { name = codes "kept_zone"; columns = (zone_table 0).columns; key = None; primary = []; uniques = []; orders = []; checks = [] }

pub puts_zone : IsPutting kept_parts Zone 1 put_zone_text
unfolding kept_schema
puts_zone = record { has = inr (inr (inr (inr (inr (inr (inr (inl refl))))))); at = 2; meant = put_zone_own; shape = zone_shape; tree = 2; shape_is = refl; integers = (refl, tt) }

pub clears_zone : IsClearing kept_parts Zone clear_zone_text
unfolding kept_schema
clears_zone = record { within = omega arith; has = inr (inr (inr (inr (inr (inr (inr (inr (inl refl)))))))); at = 2; tree = 2; meant = clear_zone_own }

pub reads_owner : IsReading kept_parts Owner 2 read_owner_text
unfolding kept_schema
reads_owner = record { within = omega arith; has = inr (inr (inr (inr (inr (inr (inr (inr (inr (inl refl))))))))); names = owner_names; tree = 3; meant = read_owner_own }

abbrev owner_shape : Shape
owner_shape = record { name = codes "kept_owner"; columns = (owner_table 0).columns; key = None; primary = []; uniques = []; orders = []; checks = [] }

pub puts_owner : IsPutting kept_parts Owner 2 put_owner_text
unfolding kept_schema
puts_owner = record { has = inr (inr (inr (inr (inr (inr (inr (inr (inr (inr (inl refl)))))))))); at = 3; meant = put_owner_own; shape = owner_shape; tree = 3; shape_is = refl; integers = (refl, (refl, tt)) }

pub clears_owner : IsClearing kept_parts Owner clear_owner_text
unfolding kept_schema
clears_owner = record { within = omega arith; has = inr (inr (inr (inr (inr (inr (inr (inr (inr (inr (inr (inl refl))))))))))); at = 3; tree = 3; meant = clear_owner_own }

pub reads_operator : IsReading kept_parts Operator 1 read_operator_text
unfolding kept_schema
reads_operator = record { within = omega arith; has = inr (inr (inr (inr (inr (inr (inr (inr (inr (inr (inr (inr (inl refl)))))))))))); names = operator_names; tree = 4; meant = read_operator_own }

abbrev operator_shape : Shape
operator_shape = record { name = codes "kept_operator"; columns = (operator_table 0).columns; key = None; primary = []; uniques = []; orders = []; checks = [] }

pub puts_operator : IsPutting kept_parts Operator 1 put_operator_text
unfolding kept_schema
puts_operator = record { has = inr (inr (inr (inr (inr (inr (inr (inr (inr (inr (inr (inr (inr (inl refl))))))))))))); at = 4; meant = put_operator_own; shape = operator_shape; tree = 4; shape_is = refl; integers = (refl, tt) }

pub clears_operator : IsClearing kept_parts Operator clear_operator_text
unfolding kept_schema
clears_operator = record { within = omega arith; has = inr (inr (inr (inr (inr (inr (inr (inr (inr (inr (inr (inr (inr (inr (inl refl)))))))))))))); at = 4; tree = 4; meant = clear_operator_own }

pub reads_station : IsReading kept_parts Station 2 read_station_text
unfolding kept_schema
reads_station = record { within = omega arith; has = inr (inr (inr (inr (inr (inr (inr (inr (inr (inr (inr (inr (inr (inr (inr (inl refl))))))))))))))); names = station_names; tree = 5; meant = read_station_own }

abbrev station_shape : Shape
station_shape = record { name = codes "kept_station"; columns = (station_table 0).columns; key = None; primary = []; uniques = []; orders = []; checks = [] }

pub puts_station : IsPutting kept_parts Station 2 put_station_text
unfolding kept_schema
puts_station = record { has = inr (inr (inr (inr (inr (inr (inr (inr (inr (inr (inr (inr (inr (inr (inr (inr (inl refl)))))))))))))))); at = 5; meant = put_station_own; shape = station_shape; tree = 5; shape_is = refl; integers = (refl, (refl, tt)) }

pub clears_station : IsClearing kept_parts Station clear_station_text
unfolding kept_schema
clears_station = record { within = omega arith; has = inr (inr (inr (inr (inr (inr (inr (inr (inr (inr (inr (inr (inr (inr (inr (inr (inr (inl refl))))))))))))))))); at = 5; tree = 5; meant = clear_station_own }

pub reads_product : IsReading kept_parts Product 6 read_product_text
unfolding kept_schema
reads_product = record { within = omega arith; has = inr (inr (inr (inr (inr (inr (inr (inr (inr (inr (inr (inr (inr (inr (inr (inr (inr (inr (inl refl)))))))))))))))))); names = product_names; tree = 6; meant = read_product_own }

abbrev product_shape : Shape
product_shape = record { name = codes "kept_product"; columns = (product_table 0).columns; key = None; primary = []; uniques = []; orders = []; checks = [] }

pub puts_product : IsPutting kept_parts Product 6 put_product_text
unfolding kept_schema
puts_product = record { has = inr (inr (inr (inr (inr (inr (inr (inr (inr (inr (inr (inr (inr (inr (inr (inr (inr (inr (inr (inl refl))))))))))))))))))); at = 6; meant = put_product_own; shape = product_shape; tree = 6; shape_is = refl; integers = (refl, (refl, (refl, (refl, (refl, (refl, tt)))))) }

pub clears_product : IsClearing kept_parts Product clear_product_text
unfolding kept_schema
clears_product = record { within = omega arith; has = inr (inr (inr (inr (inr (inr (inr (inr (inr (inr (inr (inr (inr (inr (inr (inr (inr (inr (inr (inr (inl refl)))))))))))))))))))); at = 6; tree = 6; meant = clear_product_own }

pub reads_device : IsReading kept_parts Device 3 read_device_text
unfolding kept_schema
reads_device = record { within = omega arith; has = inr (inr (inr (inr (inr (inr (inr (inr (inr (inr (inr (inr (inr (inr (inr (inr (inr (inr (inr (inr (inr (inl refl))))))))))))))))))))); names = device_names; tree = 7; meant = read_device_own }

abbrev device_shape : Shape
device_shape = record { name = codes "kept_device"; columns = (device_table 0).columns; key = None; primary = []; uniques = []; orders = []; checks = [] }

pub puts_device : IsPutting kept_parts Device 3 put_device_text
unfolding kept_schema
puts_device = record { has = inr (inr (inr (inr (inr (inr (inr (inr (inr (inr (inr (inr (inr (inr (inr (inr (inr (inr (inr (inr (inr (inr (inl refl)))))))))))))))))))))); at = 7; meant = put_device_own; shape = device_shape; tree = 7; shape_is = refl; integers = (refl, (refl, (refl, tt))) }

pub clears_device : IsClearing kept_parts Device clear_device_text
unfolding kept_schema
clears_device = record { within = omega arith; has = inr (inr (inr (inr (inr (inr (inr (inr (inr (inr (inr (inr (inr (inr (inr (inr (inr (inr (inr (inr (inr (inr (inr (inl refl))))))))))))))))))))))); at = 7; tree = 7; meant = clear_device_own }
