-- A scheme that is kept follows itself.
use Rattle.std.proofs.Common.{List, [], Option, Some, None, Result, Ok, Err, refl, sym, inr}
use Rattle.std.specs.Prelude.{IfOk, IfSome, MatchOption}
use Rattle.std.specs.Cmp.{IsEquivalence}
use Rattle.std.proofs.lemmas.List.{append-nil}
use Rattle.sqlite.specs.Effect.{Database}
use Rattle.fare_day.specs.contracts.zone.ZoneEq.TheImpl.Laws.{laws-law}
use Rattle.fare_scheme.specs.Values.{SchemeValue}
use Rattle.fare_growth.specs.Zones.{same_zone}
use Rattle.fare_growth.specs.Growth.{AddsAtEnd, AddsTo}
use Rattle.fare_trace.specs.declared.schemes.ZonedScheme.{ZonedScheme}
use Rattle.fare_keeping.specs.Keeping.{Keeps, KeepsNone, MayFollow}
use Rattle.fare_keeping.specs.declared.fault.KeepFault.{KeepFault}

adds_nothing : {X : Type 0} (xs : List X) → AddsAtEnd xs xs
adds_nothing xs = ([], sym (append-nil xs))

adds_itself : (sc : SchemeValue) → AddsTo sc sc
adds_itself sc =
    let zones : IsEquivalence same_zone = laws-law in
    record {
      start = refl;
      zone = zones.refl sc.zone;
      owners = adds_nothing _;
      operators = adds_nothing _;
      stations = adds_nothing _;
      products = adds_nothing _;
      devices = adds_nothing _;
    }

pub kept_follows : (db : Database) (r : Result (Option ZonedScheme) KeepFault) → IfOk r (λ found. MatchOption found (KeepsNone db) (λ kept. Keeps db kept.scheme)) → IfOk r (λ found. IfSome found (λ taken. MayFollow db taken.scheme))
kept_follows db (Err e) is = tt
kept_follows db (Ok None) is = tt
kept_follows db (Ok (Some kept)) is = inr (kept.scheme, is, adds_itself kept.scheme)
