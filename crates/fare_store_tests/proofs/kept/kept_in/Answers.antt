use Rattle.std.proofs.Common.{sym, subst}
use Rattle.fare_layout.proofs.Creation.{some_is}
use Rattle.fare_opening.specs.Opening.{place_in}
use Rattle.fare_opening.specs.Sites.{IsSite}
use Rattle.fare_kept.specs.Statements.{kept_parts}
use Rattle.fare_store_tests.proofs.kept.kept_in.Goals as goal

pub read_lists-requires : goal.read_lists-requires
read_lists-requires g c = (
  kept_parts,
  c.kept_lists-tables.ensures.listed,
  subst (IsSite kept_parts) (sym c.into_site-site.ensures) (some_is c.in-Ok-Some.field-0 c.in-Ok-Some.opened (λ o. IsSite kept_parts (place_in o)) c.in-Ok-Some.field-0-is c.in-Ok-Some.ensures.site),
)
