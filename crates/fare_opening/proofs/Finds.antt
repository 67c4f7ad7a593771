-- What an open finds, and what it makes.
use Rattle.std.proofs.Common.{◌≡◌, ◌≢◌, inl, inr, ℕ, sym, subst, ◌∙◌}
use Rattle.sqlite.specs.State.{State}
use Rattle.fare_tables.specs.Making.{no_schema}
use Rattle.fare_opening.specs.declared.site.Site.{Site}
use Rattle.fare_opening.specs.Parts.{Parts, IsDesign}
use Rattle.fare_opening.specs.Numbers.{Meta}
use Rattle.fare_opening.specs.Sites.{IsSite, IsEmptied, rows_at}
use Rattle.fare_opening.specs.Opening.{StandsAt, IsBlankOrStore}
use Rattle.fare_opening.specs.MetaRow.{IsMeta}
use Rattle.fare_opening.proofs.Standing.{same_rows, same_emptied}
use Rattle.fare_opening.proofs.Vacant.{not_blank}

-- what is neither without tables nor the store's own
pub neither : (d : Parts) (owner : ℕ) (old : State) → old.now.schema ≢ no_schema → ((w : Site) → StandsAt d owner old w → ⊥) → ¬ IsBlankOrStore d owner old
neither d owner old some other (inl blank) = some blank
neither d owner old some other (inr are) = other are.0 are.1

-- where the tables stand, and their meta isn't right or the one that isn't used has a row
pub none_lacks : (d : Parts) (owner : ℕ) (old : State) (w : Site) → IsDesign d → IsSite d w → old.now.schema ≡ w.schema → ¬ (IsMeta d.format owner (rows_at w Meta old.now.trees) × IsEmptied d w old.now.trees) → ¬ IsBlankOrStore d owner old
none_lacks d owner old w design site has lacks =
    neither d owner old (λ blank. not_blank d w old.now.schema design site has blank) (λ v are. (
    let same = sym are.schema ∙ has in
    lacks (subst (IsMeta d.format owner) (same_rows d v w Meta old.now.trees are.site site same) are.meta, same_emptied d v w old.now.trees are.site site same are.unused)))
