-- What has to be computed of the tables of an outbox, made in an order, so that they fit.
use Rattle.std.proofs.Common.{◌≡◌, ℕ, Bool, true, false, Option, [], ◌∷◌, List, map, ap, refl}
use Rattle.std.specs.List.{AllByRecursion}
use Rattle.sqlite.specs.Table.{Table}
use Rattle.sqlite_schema.specs.Names.{same_name}
use Rattle.sqlite_schema.specs.declared.schema.Reference.{Reference}
use Rattle.sqlite_tied.specs.Compute.{everything}
use Rattle.fare_layout.specs.declared.place.Places.{Places}
use Rattle.fare_layout.specs.Commands.{Essence}
use Rattle.fare_layout.specs.Layouts.{AreUnderstood, Fits}
use Rattle.fare_layout.specs.Places.{all_of}
use Rattle.fare_opening.specs.Orders.{made_of}
use Rattle.fare_opening.specs.Parts.{Parts}
use Rattle.fare_opening.proofs.Orders.{are_as_many, standing_there, should_stand, have_own_trees, refer_to_none, rowid_first, meanings, meant_there, places_of, fit_as}
use Rattle.fare_outbox.specs.Orders.{table_of, all_orders, FitInAnyOrder}
use Rattle.fare_outbox_rows.specs.Statements.{outbox_parts}
use Rattle.fare_outbox_rows.specs.Tables.{outbox_schema}
use Rattle.fare_outbox_rows.proofs.Texts.{understood_all}

-- what is computed of an order, and what it has to be
abbrev pub Facts : Type 0
Facts = Bool × List (Option ℕ × Option Table × Bool) × Bool × List (List Reference) × Bool × List (Option Essence)

pub same_head : {X : Type 0} {x y : X} {xs ys : List X} → x ∷ xs ≡ y ∷ ys → x ≡ y
same_head e = cc

pub same_tail : {X : Type 0} {x y : X} {xs ys : List X} → x ∷ xs ≡ y ∷ ys → xs ≡ ys
same_tail e = cc

module _ (d : Parts) (u : AreUnderstood d.own d.texts) where
  abbrev pub computed : List ℕ → Facts
  computed ks = (
    are_as_many d.own.tables (all_of (places_of d table_of ks)),
    standing_there (made_of table_of ks) d.own.tables (all_of (places_of d table_of ks)),
    have_own_trees (all_of (places_of d table_of ks)),
    map (λ (t : Table). t.references) (made_of table_of ks).tables,
    rowid_first (made_of table_of ks).indexes,
    meanings (made_of table_of ks) d.texts,
  )

  abbrev pub wanted : List ℕ → Facts
  wanted ks = (
    true,
    should_stand d.own.tables (all_of (places_of d table_of ks)),
    true,
    map (λ (t : Table). []) (made_of table_of ks).tables,
    false,
    meant_there d.own (places_of d table_of ks) d.texts u,
  )

  none_referred : (tables : List Table) → map (λ (t : Table). t.references) tables ≡ map (λ (t : Table). []) tables → refer_to_none tables
  none_referred [] is = tt
  none_referred (t ∷ tables) is = (same_head is, none_referred tables (same_tail is))

  pub fit_at : (ks : List ℕ) → computed ks ≡ wanted ks → Fits d.own d.texts (made_of table_of ks) (places_of d table_of ks)
  fit_at ks is = fit_as d.own d.texts u (made_of table_of ks) (places_of d table_of ks)
      (ap (λ (f : Facts). f.0) is)
      (ap (λ (f : Facts). f.1) is)
      (ap (λ (f : Facts). f.2) is)
      (none_referred (made_of table_of ks).tables (ap (λ (f : Facts). f.3) is))
      (ap (λ (f : Facts). f.4) is)
      (ap (λ (f : Facts). f.5) is)

  fit_all : (kss : List (List ℕ)) → map computed kss ≡ map wanted kss → AllByRecursion (λ ks. (p : Places) × Fits d.own d.texts (made_of table_of ks) p) kss
  fit_all [] is = tt
  fit_all (ks ∷ kss) is = ((places_of d table_of ks, fit_at ks (same_head is)), fit_all kss (same_tail is))

pub any_order : FitInAnyOrder
unfolding everything outbox_schema same_name understood_all
any_order = fit_all outbox_parts understood_all all_orders refl
