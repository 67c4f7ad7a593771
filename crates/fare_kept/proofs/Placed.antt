-- Tables that were opened stand at their site.
use Rattle.std.proofs.Common.{Option, Some, None, Result, Ok, Err}
use Rattle.std.specs.Prelude.{IfOk, IfSome}
use Rattle.sqlite.specs.Schema.{Schema}
use Rattle.fare_opening.specs.declared.opening.Opened.{Opened}
use Rattle.fare_opening.specs.declared.opening.Opened.TheVariants as opened
use Rattle.fare_opening.specs.Beside.{IsPlacedBeside}
use Rattle.fare_opening.specs.Opening.{place_in}
use Rattle.fare_opening.specs.Parts.{Parts}
use Rattle.fare_opening.specs.Sites.{IsSite}

stands : (d other : Parts) (s : Schema) (o : Opened) → IsPlacedBeside d other s o → IsSite d (place_in o)
stands d other s (opened.Kept w) placed = placed.0
stands d other s (opened.Made w) placed = placed.1.site
stands d other s (opened.Raised w) placed = absurd placed

pub all_stand : {E : Type 0} (r : Result (Option Opened) E) (d other : Parts) (s : Schema) → IfOk r (λ found. IfSome found (IsPlacedBeside d other s)) → IfOk r (λ found. IfSome found (λ o. IsSite d (place_in o)))
all_stand (Err e) d other s placed = tt
all_stand (Ok None) d other s placed = tt
all_stand (Ok (Some o)) d other s placed = stands d other s o placed
