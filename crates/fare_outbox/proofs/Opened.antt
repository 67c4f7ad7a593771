-- What an open finds, and what it makes.
use Rattle.std.proofs.Common.{◌≡◌, ◌⊎◌, inl, inr, ℕ, List, [], ◌∷◌, refl, map, length, IsTrue, sym, ap, subst, ◌∙◌, arith, true, false}
use Rattle.std.specs.List.{AllByRecursion}
use Rattle.sqlite.specs.Schema.{Schema}
use Rattle.sqlite.specs.Effect.{Database, IsDatabase}
use Rattle.sqlite.specs.State.{State, HasCleanDisk, Survives}
use Rattle.sqlite.specs.Tree.{Trees}
use Rattle.sqlite.proofs.StateLemmas.{survives_weaker, survives_then}
use Rattle.fare_store.specs.OutboxWords.{IsEmptyOutbox}
use Rattle.fare_tables.specs.Asking.{IsLive, IsUp, IsAtRest, SameRows}
use Rattle.fare_tables.specs.Cells.{AreRows, held, int}
use Rattle.fare_tables.specs.Making.{no_schema}
use Rattle.fare_tables.specs.Tabled.{IsFit, IsLawfulIn, IsLeft, left_of}
use Rattle.fare_tables.proofs.Steps.{same_database}
use Rattle.fare_tables.proofs.Reopened.{fit_again}
use Rattle.fare_opening.specs.Numbers.{Device, Tap, Stated}
use Rattle.fare_layout.proofs.Others.{all_kept}
use Rattle.fare_outbox_rows.specs.declared.layout.Layout.{Layout}
use Rattle.fare_outbox_rows.specs.Layouts.{schema_in, ours}
use Rattle.fare_layout.specs.Growing.{HasNone}
use Rattle.fare_opening.specs.declared.site.Site.{Site}
use Rattle.fare_opening.specs.Making as store
use Rattle.fare_opening.specs.declared.opening.Opened.{Opened}
use Rattle.fare_opening.specs.declared.opening.Opened.TheVariants as opened
use Rattle.fare_opening.specs.Opening.{StandsAt, MayMake, WasMade, IsPlaced, Opens, place_in, was_made}
use Rattle.fare_opening.specs.Raising as raising
use Rattle.fare_opening.specs.Raising.{WasRaised}
use Rattle.fare_opening.proofs.Vacant as vacant
use Rattle.fare_outbox_rows.specs.Statements.{Routed, first_format, later_tables, tables, outbox_parts}
use Rattle.fare_outbox_rows.proofs.Placed.{same_trees, within}
use Rattle.fare_outbox.proofs.Own.{outbox_design}
use Rattle.fare_outbox_rows.specs.Held.{AreReadable, IsReady, IsDevice, IsTap, IsStated, upto_of, tap_of, stated_of, held_of}
use Rattle.fare_outbox.specs.First.{value_first, IsLawfulFirst}
use Rattle.fare_outbox_rows.specs.Making.{site_of}
use Rattle.fare_outbox.proofs.Rising.{not_first, first_taken, moved_first, moved_value, raised_rows, raised_value, keeps_all_but, is_first, left_raised}
use Rattle.fare_outbox.specs.Opening.{IsOutbox, IsFirstOutbox, IsVacant, IsBlankOrOurs, CanRise, IsOpened, IsCounted, IsLeftEmpty, IsLeftRaised, IsRaisedFirst, MayOpen, Settles}
use Rattle.fare_outbox.specs.Words.{tap_key, stated_key, first_at, itself, count_of, value_at, value_in, AreApart, IsKnown, FitTogether, IsLawful, IsWell}

map_none : {X Y : Type 0} (f : X → Y) (xs : List X) → xs ≡ [] → map f xs ≡ []
map_none f xs is = ap (map f) is

-- what there is of an outbox that was made
pub record IsEmptyAt (w : Layout) (trees : Trees) : Type 0 where
  pub lawful : IsLawful w trees
  pub rows : length (held_of (ours w trees)).taps ≡ 0
  pub statements : length (held_of (ours w trees)).statements ≡ 0
  pub empty : IsEmptyOutbox (value_at w trees)

new_rows : (w : Layout) (made : Database) → store.IsNew outbox_parts 0 (site_of w) made → IsEmptyAt w made.trees
unfolding ours
new_rows w made is_new =
    let db = ours w made.trees in
    let devices_none : db 1 ≡ [] = is_new.bare Device (omega arith) (within w Device refl) in
    let taps_none : db 7 ≡ [] = is_new.bare Routed (omega arith) (within w Routed refl) in
    let stated_none : db 5 ≡ [] = is_new.bare Stated (omega arith) (within w Stated refl) in
    let taps : (held_of db).taps ≡ [] = map_none tap_of (db 7) taps_none in
    let said : (held_of db).statements ≡ [] = map_none stated_of (db 5) stated_none in
    record {
      lawful = record {
        readable = record {
          devices = subst (AreRows IsDevice) (sym devices_none) tt;
          taps = subst (AreRows IsTap) (sym taps_none) tt;
          statements = subst (AreRows IsStated) (sym stated_none) tt;
        };
        together = record {
          apart = subst (AreApart tap_key) (sym taps) tt;
          known = subst (AllByRecursion (IsKnown (held_of db).upto)) (sym taps) tt;
          single = subst (AreApart stated_key) (sym said) tt;
          meta = record { row = int 1 ∷ int 2 ∷ int 0 ∷ []; only = is_new.meta; is = record { id_is = tt; format_is = refl; owner_is = refl } };
          unused = is_new.bare Tap (omega arith) (within w Tap refl);
        };
      };
      rows = ap length taps;
      statements = ap length said;
      empty = record {
        upto = λ d. ap (λ rows. upto_of (held rows d)) devices_none;
        rows = λ o d l. ap (λ ts. first_at tap_key itself ts o d l) taps;
        row_count = ap length taps;
        stated = λ o d y. ap (λ ss. first_at stated_key count_of ss o d y) said;
        stated_count = ap length said;
      };
    }

pub new_fits : (w : Layout) (old new : State) (rows statements : ℕ) → WasMade outbox_parts 0 old new (site_of w) → rows ≡ 0 → statements ≡ 0 → IsLawfulIn (schema_in w) (IsWell w rows statements) new × IsEmptyOutbox (value_at w new.now.trees)
new_fits w old new rows statements it no_rows no_statements =
    let is = new_rows w new.now it.is_new in (
      record {
        fit = record {
          rest = record { settled = it.settled; schema_is = it.is_new.schema };
          fits = record { lawful = is.lawful; rows_are = no_rows ∙ sym is.rows; statements_are = no_statements ∙ sym is.statements };
        };
        database = it.is_new.database;
      },
      is.empty,
    )

-- a stop where the tables are made leaves what there was, or an empty outbox
pub left_empty : (old : State) (trees : Trees) → MayMake outbox_parts 0 old trees → IsLeftEmpty trees
left_empty old trees it =
    let site = it.1.0 in
    let makes = it.1.1 in
    let made = it.1.2 in
    let is_new = it.1.3 in
    let same : trees ≡ made.trees = it.1.4 in
    let w : Layout = record { schema = site.schema; places = site.places; fits = makes.site } in
    let is = new_rows w made is_new in
    (w, left_of (schema_in w) (IsLawful w) made trees is_new.schema is_new.database is.lawful same, subst (λ t. IsEmptyOutbox (value_at w t)) (sym same) is.empty)

-- whatever a stop leaves of an open
pub left_open : (old : State) (trees : Trees) → MayOpen old trees → IsLeftEmpty trees ⊎ IsLeftRaised old trees
left_open old trees (inl made) = inl (left_empty old trees made)
left_open old trees (inr raised) = inr (left_raised old trees raised)

-- the tables are an outbox's already
pub taken_over : (old mid new : State) (w : Layout) (rows statements : ℕ) → old.now.schema ≡ schema_in w → (old.now ≡ old.committed → SameRows old mid) → (IsReady w mid → IsCounted w mid.now.trees rows statements) → (IsAtRest (schema_in w) mid → SameRows mid new)
    → Settles old new w rows statements
taken_over old mid new w rows statements has first counted second = record {
  made = λ none. absurd (vacant.not_vacant outbox_parts (site_of w) old.now.schema outbox_design w.fits none has);
  kept = λ ready. (stays ready.rest.settled, count ready);
  raised = λ v can. absurd (not_first w old.now.schema can.rises.free has);
  others = λ settled. inl (all_kept old.now.schema.tables old.now.trees new.now.trees (ap (λ (d : Database). d.trees) (stays settled).0));
}
  where
    at_rest : old.now ≡ old.committed → IsAtRest (schema_in w) mid
    at_rest settled = let same = first settled in record { settled = same.0 ∙ settled ∙ sym same.1; schema_is = ap (λ (d : Database). d.schema) same.0 ∙ has }

    stays : old.now ≡ old.committed → SameRows old new
    stays settled =
        let one = first settled in
        let two = second (at_rest settled) in (two.0 ∙ one.0, two.1 ∙ one.1)

    count : IsReady w old → IsCounted w old.now.trees rows statements
    count ready =
        let same = first ready.rest.settled in
        let trees : mid.now.trees ≡ old.now.trees = ap (λ (d : Database). d.trees) same.0 in
        subst (λ t. IsCounted w t rows statements) trees (counted (record { rest = at_rest ready.rest.settled; fits = subst (λ t. AreReadable (ours w t)) (sym trees) ready.fits }))

-- an outbox that was there goes on as it was, whichever layout it is taken for
pub kept_fits : (old new : State) (o p : Layout) (rows statements : ℕ) → Settles old new o rows statements → IsOpened old o → IsFit (schema_in p) (IsLawful p) old → IsDatabase old.now
    → IsLawfulIn (schema_in o) (IsWell o rows statements) new × (value_at o new.now.trees ≡ value_at p old.now.trees)
kept_fits old new o p rows statements settles (inl free) fit database = absurd (vacant.not_vacant outbox_parts (site_of p) old.now.schema outbox_design p.fits free fit.rest.schema_is)
kept_fits old new o p rows statements settles (inr (inr it)) fit database = absurd (not_first p old.now.schema it.1.rises.free fit.rest.schema_is)
kept_fits old new o p rows statements settles (inr (inl are)) fit database =
    let trees = same_trees p o old.now.trees (sym fit.rest.schema_is ∙ are.schema) in
    let readable = subst AreReadable trees fit.fits.readable in
    let together = subst (λ t. FitTogether (held_of t)) trees fit.fits.together in
    let kept = settles.kept (record { rest = record { settled = fit.rest.settled; schema_is = are.schema }; fits = readable }) in
    let same = kept.0 in
    let counted = kept.1 in
    let now : ours o new.now.trees ≡ ours o old.now.trees = ap (λ (d : Database). ours o d.trees) same.0 in (
      record {
        fit = record {
          rest = record { settled = same.0 ∙ fit.rest.settled ∙ sym same.1; schema_is = ap (λ (d : Database). d.schema) same.0 ∙ are.schema };
          fits = record {
            lawful = record { readable = subst AreReadable (sym now) readable; together = subst (λ t. FitTogether (held_of t)) (sym now) together };
            rows_are = counted.rows_are ∙ ap (λ t. length (held_of t).taps) (sym now);
            statements_are = counted.statements_are ∙ ap (λ t. length (held_of t).statements) (sym now);
          };
        };
        database = same_database old new same database;
      },
      ap (λ t. value_in (held_of t)) (now ∙ sym trees),
    )

-- and so does one that a stop left
pub opened_again : (old new : State) (o p : Layout) (rows statements : ℕ) → Settles old new o rows statements → IsOpened old o → old.now ≡ old.committed → IsDatabase old.now → IsLeft (schema_in p) (IsLawful p) old.now.trees
    → IsLawfulIn (schema_in o) (IsWell o rows statements) new × (value_at o new.now.trees ≡ value_at p old.now.trees)
opened_again old new o p rows statements settles are settled database left = kept_fits old new o p rows statements settles are (fit_again (schema_in p) (IsLawful p) old settled database left) database

-- one of the first format is raised, whichever layout it is taken for
pub raised_fits : (old new : State) (o : Layout) (v : Site) (rows statements : ℕ) → Settles old new o rows statements → IsOpened old o → IsFit v.schema (IsLawfulFirst v) old → IsLawfulIn (schema_in o) (IsWell o rows statements) new × (value_at o new.now.trees ≡ value_first v old.now.trees)
raised_fits old new o v rows statements settles (inl free) fit = absurd (first_taken v old.now.schema fit.fits.site fit.rest.schema_is free)
raised_fits old new o v rows statements settles (inr (inl are)) fit = absurd (not_first o old.now.schema (subst (HasNone later_tables) (sym fit.rest.schema_is) fit.fits.free) are.schema)
raised_fits old new o v rows statements settles (inr (inr it)) fit =
    let u = it.0 in
    let can = it.1 in
    let was = settles.raised u can in
    let here : u.schema ≡ v.schema = sym can.rises.has ∙ fit.rest.schema_is in
    let first = moved_first u v old.now.trees can.rises.from here fit.fits in
    let law = raised_rows o u old.now new.now can was.0.0 first in
    let counted = was.1 law.readable in (
      record {
        fit = record { rest = record { settled = was.0.1; schema_is = was.0.0.schema }; fits = record { lawful = law; rows_are = counted.rows_are; statements_are = counted.statements_are } };
        database = was.0.0.database;
      },
      raised_value o u old.now new.now can was.0.0 first ∙ moved_value u v old.now.trees can.rises.from here fit.fits,
    )

-- and so is one that a stop left
pub raised_again : (old new : State) (o : Layout) (v : Site) (rows statements : ℕ) → Settles old new o rows statements → IsOpened old o → old.now ≡ old.committed → IsDatabase old.now → IsLeft v.schema (IsLawfulFirst v) old.now.trees
    → IsLawfulIn (schema_in o) (IsWell o rows statements) new × (value_at o new.now.trees ≡ value_first v old.now.trees)
raised_again old new o v rows statements settles are settled database left = raised_fits old new o v rows statements settles are (fit_again v.schema (IsLawfulFirst v) old settled database left)

pub vacant_or_ours : (s : State) (w : Layout) → IsOpened s w → IsVacant s ⊎ (IsOutbox s ⊎ IsFirstOutbox s)
vacant_or_ours s w (inl free) = inl free
vacant_or_ours s w (inr (inl are)) = inr (inl (site_of w, are))
vacant_or_ours s w (inr (inr it)) = inr (inr (it.0, site_of w, it.1))

-- a lawful outbox is one that an open finds
pub lawful_is_ours : (w : Layout) (s : State) → IsFit (schema_in w) (IsLawful w) s → IsBlankOrOurs s
unfolding ours
lawful_is_ours w s fit = inr (site_of w, record { site = w.fits; schema = fit.rest.schema_is; meta = fit.fits.together.meta; unused = fit.fits.together.unused })

-- a database with no table has none of the names
pub vacant_of : (s : Schema) → s ≡ no_schema → HasNone tables s
vacant_of s blank = vacant.vacant_of outbox_parts s blank

-- a question on a connection that is open, where what is committed is what is seen
pub asks_up : (schema : Schema) (a b : State) → IsUp a → (IsLive a → a.now ≡ a.committed) → Survives a b (λ _. ¬ IsAtRest schema a) → Survives a b (λ _. ¬ (a.now.schema ≡ schema))
asks_up schema a b up settled one = survives_weaker a b _ _ (λ clean db not_rest has.
    let late : HasCleanDisk b = clean in
    let early : HasCleanDisk a = omega (arith, late, one.clean) in
    not_rest (record { settled = settled (early, up early); schema_is = has })) one

-- and one more
pub asks_again : (schema : Schema) (a b c : State) → (IsLive a → a.now ≡ a.committed) → (IsLive b → IsLive a) → (HasCleanDisk b → IsTrue b.is_open) → (IsLive b → IsAtRest schema a → SameRows a b)
    → Survives a b (λ _. ¬ (a.now.schema ≡ schema)) → Survives b c (λ _. ¬ IsAtRest schema b) → Survives a c (λ _. ¬ (a.now.schema ≡ schema))
asks_again schema a b c settled was is_up same one two =
    survives_then a b c _ _ _ (λ _ db not_ours. not_ours) (λ clean db not_rest has.
    let late : HasCleanDisk c = clean in
    let early : HasCleanDisk b = omega (arith, late, two.clean) in
    let live : IsLive b = (early, is_up early) in
    let rest : IsAtRest schema a = record { settled = settled (was live); schema_is = has } in
    let kept = same live rest in
    not_rest (record { settled = kept.0 ∙ rest.settled ∙ sym kept.1; schema_is = ap (λ (d : Database). d.schema) kept.0 ∙ has })) one two

-- what an open of the tables finds where they stood
pub found_rows : (old mid : State) (site : Site) (w : Layout) (rows statements : ℕ) (new : State) → site_of w ≡ site → StandsAt outbox_parts 0 old site × (old.now ≡ old.committed → SameRows old mid) → (IsReady w mid → IsCounted w mid.now.trees rows statements)
    → (IsAtRest (schema_in w) mid → SameRows mid new) → Settles old new w rows statements
found_rows old mid site w rows statements new at it counted second = taken_over old mid new w rows statements (it.0.schema ∙ ap (λ (s : Site). s.schema) (sym at)) it.1 counted second

-- and what it makes where they didn't
pub made_rows : (old new : State) (site : Site) (w : Layout) → site_of w ≡ site → HasNone tables old.now.schema × store.Makes outbox_parts old.now.schema site → WasMade outbox_parts 0 old new site → Settles old new w 0 0
made_rows old new site w at placed it = record {
  made = λ free. (subst (store.Makes outbox_parts old.now.schema) (sym at) placed.1, subst (WasMade outbox_parts 0 old new) (sym at) it, refl, refl);
  kept = λ ready. absurd (vacant.not_vacant outbox_parts (site_of w) old.now.schema outbox_design w.fits placed.0 ready.rest.schema_is);
  raised = λ v can. absurd (first_taken v old.now.schema can.rises.from can.rises.has placed.0);
  others = λ settled. inl it.others;
}

-- or of one of the first format that it raised
raised_from : (old mid new : State) (w : Layout) (rows statements : ℕ) (u : Site) → raising.CanRise outbox_parts first_format 0 old.now u (site_of w) → raising.IsRaised outbox_parts first_format 0 (site_of w) old.now mid.now → mid.now ≡ mid.committed
    → (IsReady w mid → IsCounted w mid.now.trees rows statements) → (IsAtRest (schema_in w) mid → SameRows mid new) → Settles old new w rows statements
raised_from old mid new w rows statements u can is settled counted second =
    let rest : IsAtRest (schema_in w) mid = record { settled = settled; schema_is = is.schema } in
    let same = second rest in
    let now : raising.IsRaised outbox_parts first_format 0 (site_of w) old.now new.now = subst (λ db. raising.IsRaised outbox_parts first_format 0 (site_of w) old.now db) (sym same.0) is in
    let trees : mid.now.trees ≡ new.now.trees = ap (λ (d : Database). d.trees) (sym same.0) in
    record {
      made = λ free. absurd (first_taken u old.now.schema can.rises.from can.rises.has free);
      kept = λ ready. absurd (not_first w old.now.schema can.rises.free ready.rest.schema_is);
      raised = λ v other. ((now, same.0 ∙ settled ∙ sym same.1), (λ readable. subst (λ t. IsCounted w t rows statements) trees (counted (record { rest = rest; fits = subst (λ t. AreReadable (ours w t)) (sym trees) readable }))));
      others = λ done. inr (u, site_of w, can, keeps_all_but w u old.now new.now can now);
    }

raised_rows_of : (old mid new : State) (site : Site) (w : Layout) (rows statements : ℕ) → site_of w ≡ site → WasRaised outbox_parts 0 old mid site → (IsReady w mid → IsCounted w mid.now.trees rows statements) → (IsAtRest (schema_in w) mid → SameRows mid new) → Settles old new w rows statements
raised_rows_of old mid new site w rows statements at it counted second =
    let raises = subst (λ x. raising.Raises outbox_parts first_format 0 old.now mid.now x) (sym at) (subst (λ o. raising.Raises outbox_parts o 0 old.now mid.now site) (is_first it.0 it.1) it.2) in
    raised_from old mid new w rows statements raises.0 raises.1 raises.2 it.3 counted second

-- what an open of the tables makes of a database: it makes them, or finds them, and then counts their rows
pub made_as : (old new : State) (w : Layout) (o : Opened) → site_of w ≡ place_in o → was_made o ≡ true → IsPlaced outbox_parts old.now.schema o → Opens outbox_parts 0 old new o → Settles old new w 0 0
made_as old new w (opened.Kept site) at is placed it = absurd (let e = is in cc)
made_as old new w (opened.Made site) at is placed it = made_rows old new site w at placed it
made_as old new w (opened.Raised site) at is placed it = absurd (let e = is in cc)

pub found_as : (old mid new : State) (w : Layout) (rows statements : ℕ) (o : Opened) → site_of w ≡ place_in o → was_made o ≡ false → Opens outbox_parts 0 old mid o → (IsReady w mid → IsCounted w mid.now.trees rows statements) → (IsAtRest (schema_in w) mid → SameRows mid new)
    → Settles old new w rows statements
found_as old mid new w rows statements (opened.Kept site) at is it counted second = found_rows old mid site w rows statements new at it counted second
found_as old mid new w rows statements (opened.Made site) at is it counted second = absurd (let e = is in cc)
found_as old mid new w rows statements (opened.Raised site) at is it counted second = raised_rows_of old mid new site w rows statements at it counted second

-- and what it found there
pub opened_as : (old new : State) (w : Layout) (o : Opened) → site_of w ≡ place_in o → IsPlaced outbox_parts old.now.schema o → Opens outbox_parts 0 old new o → IsOpened old w
opened_as old new w (opened.Kept site) at placed it = inr (inl (subst (StandsAt outbox_parts 0 old) (sym at) it.0))
opened_as old new w (opened.Made site) at placed it = inl placed.0
opened_as old new w (opened.Raised site) at placed it =
    let raises = subst (λ o. raising.Raises outbox_parts o 0 old.now new.now site) (is_first it.0 it.1) it.2 in
    inr (inr (raises.0, subst (λ x. CanRise old raises.0 x) (sym at) raises.1))

-- ---- where the rows can't be counted

-- the tables stand there when they are counted
stands_then : (old mid : State) (w : Layout) (o : Opened) → site_of w ≡ place_in o → was_made o ≡ false → old.now ≡ old.committed → Opens outbox_parts 0 old mid o → mid.now.schema ≡ schema_in w
stands_then old mid w (opened.Kept site) at is settled it = ap (λ (d : Database). d.schema) (it.1 settled).0 ∙ it.0.schema ∙ ap (λ (s : Site). s.schema) (sym at)
stands_then old mid w (opened.Made site) at is settled it = absurd (let e = is in cc)
stands_then old mid w (opened.Raised site) at is settled it =
    let raises = subst (λ o. raising.Raises outbox_parts o 0 old.now mid.now site) (is_first it.0 it.1) it.2 in
    raises.2.schema ∙ ap (λ (s : Site). s.schema) (sym at)

-- so a stop leaves no more than the open of the tables
pub left_counted : (old mid new : State) (w : Layout) (o : Opened) → site_of w ≡ place_in o → was_made o ≡ false → (IsTrue old.is_open → old.now ≡ old.committed) → (IsLive mid → IsLive old) → (HasCleanDisk mid → IsTrue mid.is_open) → (IsLive mid → Opens outbox_parts 0 old mid o)
    → Survives old mid (MayOpen old) → Survives mid new (λ _. ¬ (mid.now.schema ≡ schema_in w)) → Survives old new (MayOpen old)
left_counted old mid new w o at is settled was up opens first second =
    survives_then old mid new _ _ _ (λ clean trees may. may) (λ clean trees other. absurd (
    let late : HasCleanDisk new = clean in
    let before : HasCleanDisk mid = omega (arith, late, second.clean) in
    let live : IsLive mid = (before, up before) in
    other (stands_then old mid w o at is (settled (was live).1) (opens live)))) first second

-- and the rows are as they were, or the outbox stays raised
pub failed_as : (old mid new : State) (w : Layout) (o : Opened) → site_of w ≡ place_in o → was_made o ≡ false → Opens outbox_parts 0 old mid o → (IsAtRest (schema_in w) mid → SameRows mid new) → old.now ≡ old.committed → SameRows old new ⊎ IsRaisedFirst old new
failed_as old mid new w (opened.Kept site) at is it second settled =
    let one = it.1 settled in
    let two = second (record { settled = one.0 ∙ settled ∙ sym one.1; schema_is = stands_then old mid w (opened.Kept site) at is settled it }) in
    inl (two.0 ∙ one.0, two.1 ∙ one.1)
failed_as old mid new w (opened.Made site) at is it second settled = absurd (let e = is in cc)
failed_as old mid new w (opened.Raised site) at is it second settled =
    let raises = subst (λ x. raising.Raises outbox_parts first_format 0 old.now mid.now x) (sym at) (subst (λ o. raising.Raises outbox_parts o 0 old.now mid.now site) (is_first it.0 it.1) it.2) in
    let same = second (record { settled = it.3; schema_is = raises.2.schema }) in
    inr (raises.0, w, raises.1, (subst (λ db. raising.IsRaised outbox_parts first_format 0 (site_of w) old.now db) (sym same.0) raises.2, same.0 ∙ it.3 ∙ sym same.1))
