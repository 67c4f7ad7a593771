-- What an open finds, and what it makes.
use Rattle.std.proofs.Common.{◌≡◌, ◌⊎◌, inl, inr, ℕ, ◌-◌, Bool, [], ◌∷◌, map, length, refl, sym, ap, subst, ◌∙◌, arith}
use Rattle.std.specs.Prelude.{is_some}
use Rattle.sqlite.specs.Schema.{Schema}
use Rattle.sqlite.specs.Effect.{Database, IsDatabase}
use Rattle.sqlite.specs.Tree.{Trees}
use Rattle.sqlite.specs.State.{State}
use Rattle.sqlite_rules.specs.Lists.{Has}
use Rattle.fare_store.specs.LedgerWords.{IsEmptyLedger}
use Rattle.fare_store.specs.PlainLedgerWords.{filled}
use Rattle.fare_tables.specs.Cells.{AreRows, held, int}
use Rattle.fare_tables.specs.Making.{no_schema}
use Rattle.fare_tables.specs.Tabled.{IsFit, IsLawfulIn, IsLeft, left_of}
use Rattle.fare_tables.proofs.Steps.{same_database}
use Rattle.fare_tables.proofs.Reopened.{fit_again}
use Rattle.fare_opening.specs.Numbers.{Device, Tap, Stated}
use Rattle.fare_layout.specs.Growing.{HasNone}
use Rattle.fare_layout.proofs.Others.{all_kept}
use Rattle.fare_opening.specs.declared.opening.Opened.{Opened}
use Rattle.fare_opening.specs.declared.opening.Opened.TheVariants as opened
use Rattle.fare_opening.specs.declared.site.Site.{Site}
use Rattle.fare_opening.specs.Making as store
use Rattle.fare_opening.specs.Opening as opening
use Rattle.fare_opening.specs.Parts.{OlderParts}
use Rattle.fare_opening.specs.Opening.{IsPlaced, WasMade, Opens, place_in}
use Rattle.fare_opening.specs.Raising as raising
use Rattle.fare_opening.proofs.Vacant as vacant
use Rattle.fare_ledger.specs.declared.layout.Layout.{Layout}
use Rattle.fare_ledger.specs.Layouts.{schema_in, ours}
use Rattle.fare_ledger.specs.Held.{AreReadable, IsLane, IsTap, IsStated, IsRetired, IsSince, since_of, lane_of, tap_of, stated_of, stated_in, held_of}
use Rattle.fare_ledger.specs.Making.{site_of}
use Rattle.fare_ledger.specs.Opening.{IsLedger, IsBlankOrOurs, CanRise, IsOlderLedger, IsLeftEmpty, IsLeftRaised, IsVacant, IsOpened, MayOpen, Settles}
use Rattle.fare_ledger.specs.Words.{taken_in, gone_in, value_at, value_in, AreNext, AreApart, FitTogether, IsLawful}
use Rattle.fare_ledger.specs.Older.{value_older, IsLawfulOlder}
use Rattle.fare_ledger.specs.Statements.{Retired, Routed, Since, tables, ledger_parts}
use Rattle.fare_ledger.proofs.Placed.{same_trees, within}
use Rattle.fare_ledger.proofs.Own.{ledger_design}
use Rattle.fare_ledger.proofs.Olders.{not_older, older_taken, one_older, moved_older, moved_value}
use Rattle.fare_ledger.proofs.Rising.{raised_rows, raised_value, keeps_all_but, left_raised}

new_rows : (w : Layout) (o start : ℕ) (known : ℕ → Bool) (made : Database) → store.IsNew ledger_parts o (site_of w) made → IsLawful w o start made.trees × IsEmptyLedger (value_at w o start known made.trees)
unfolding ours
new_rows w o start known made is_new =
    let db = ours w made.trees in
    let lanes_none : db 1 ≡ [] = is_new.bare Device (omega arith) (within w Device refl) in
    let taps_none : db 7 ≡ [] = is_new.bare Routed (omega arith) (within w Routed refl) in
    let stated_none : db 4 ≡ [] = is_new.bare Stated (omega arith) (within w Stated refl) in
    let retired_none : db 6 ≡ [] = is_new.bare Retired (omega arith) (within w Retired refl) in
    let since_none : db 9 ≡ [] = is_new.bare Since (omega arith) (within w Since refl) in
    let taps : (held_of db).taps ≡ [] = ap (map tap_of) taps_none in
    let said : (held_of db).statements ≡ [] = ap (map stated_of) stated_none in
    let none : (d : ℕ) → lane_of (held (db 1) d) ≡ record { taken = 0; closed = 0 } = λ d. ap (λ rows. lane_of (held rows d)) lanes_none in (
      record {
        readable = record {
          lanes = subst (AreRows IsLane) (sym lanes_none) tt;
          taps = subst (AreRows IsTap) (sym taps_none) tt;
          statements = subst (AreRows IsStated) (sym stated_none) tt;
          retired = subst (AreRows IsRetired) (sym retired_none) tt;
          since = subst (AreRows IsSince) (sym since_none) tt;
        };
        together = record {
          counted = λ d. let few : length (taken_in o (held_of db).taps d) ≡ 0 = ap (λ ts. length (taken_in o ts d)) taps in omega (arith, few);
          numbered = subst (AreNext (gone_in o (held_of db))) (sym taps) tt;
          single = subst AreApart (sym said) tt;
          days = λ d y low high dated since. absurd (let closed = ap (λ l. l.closed) (none d) in omega (arith, low, high, closed));
          meta = record { row = int 1 ∷ int 4 ∷ int o ∷ []; only = is_new.meta; is = record { id_is = tt; format_is = refl; owner_is = refl } };
          unused = is_new.bare Tap (omega arith) (within w Tap refl);
        };
      },
      record {
        taken = λ d. λ i. filled (ap (λ l. l.taken) (none d) i - length (taken_in o (taps i) d)) (taken_in o (taps i) d);
        stated = λ d y. ap (λ ss. stated_in ss d y) said;
        closed = λ d. ap (λ l. l.closed) (none d);
        retired = λ d. ap (λ rows. is_some (held rows d)) retired_none;
        from = λ d. ap (λ rows. since_of (held rows d)) since_none;
      },
    )

pub new_fits : (w : Layout) (o start : ℕ) (known : ℕ → Bool) (old new : State) → WasMade ledger_parts o old new (site_of w) → IsLawfulIn (schema_in w) (IsLawful w o start) new × IsEmptyLedger (value_at w o start known new.now.trees)
new_fits w o start known old new it =
    let is = new_rows w o start known new.now it.is_new in
    (record { fit = record { rest = record { settled = it.settled; schema_is = it.is_new.schema }; fits = is.0 }; database = it.is_new.database }, is.1)

-- a stop where the tables are made leaves what there was, or an empty ledger
pub left_empty : (o start : ℕ) (known : ℕ → Bool) (old : State) (trees : Trees) → opening.MayMake ledger_parts o old trees → IsLeftEmpty o start known trees
left_empty o start known old trees it =
    let site = it.1.0 in
    let makes = it.1.1 in
    let made = it.1.2 in
    let is_new = it.1.3 in
    let same : trees ≡ made.trees = it.1.4 in
    let w : Layout = record { schema = site.schema; places = site.places; fits = makes.site } in
    let is = new_rows w o start known made is_new in
    (w, left_of (schema_in w) (IsLawful w o start) made trees is_new.schema is_new.database is.0 same, subst (λ t. IsEmptyLedger (value_at w o start known t)) (sym same) is.1)

-- what an open of the tables makes of a database
pub settles_as : (owner : ℕ) (old new : State) (w : Layout) (o : Opened) → site_of w ≡ place_in o → IsPlaced ledger_parts old.now.schema o → Opens ledger_parts owner old new o → Settles owner old new w
settles_as owner old new w (opened.Kept site) at placed it =
    let has : old.now.schema ≡ schema_in w = placed.1 ∙ ap (λ (s : Site). s.schema) (sym at) in
    record {
      made = λ free. absurd (vacant.not_vacant ledger_parts site old.now.schema ledger_design placed.0 free placed.1);
      kept = λ ready. it.1 ready.rest.settled;
      raised = λ o older v can. absurd (not_older o w old.now.schema older can.rises.free has);
      others = λ settled. inl (all_kept old.now.schema.tables old.now.trees new.now.trees (ap (λ (d : Database). d.trees) (it.1 settled).0));
    }
settles_as owner old new w (opened.Made site) at placed it = record {
  made = λ free. (subst (store.Makes ledger_parts old.now.schema) (sym at) placed.1, subst (WasMade ledger_parts owner old new) (sym at) it);
  kept = λ ready. absurd (vacant.not_vacant ledger_parts (site_of w) old.now.schema ledger_design w.fits placed.0 ready.rest.schema_is);
  raised = λ o older v can. absurd (older_taken o v old.now.schema older can.rises.from can.rises.has placed.0);
  others = λ settled. inl it.others;
}
settles_as owner old new w (opened.Raised site) at placed it =
    let o = it.0 in
    let older = it.1 in
    let u = it.2.0 in
    let can = it.2.1 in
    let is = it.2.2 in
    record {
      made = λ free. absurd (older_taken o u old.now.schema older can.rises.from can.rises.has free);
      kept = λ ready. absurd (not_older o w old.now.schema older can.rises.free ready.rest.schema_is);
      raised = λ p other v could.
          let same : o ≡ p = one_older o p u v old.now.schema older other can.rises.from could.rises.from can.rises.has could.rises.has can.rises.free could.rises.free in
          (subst (λ x. raising.IsRaised ledger_parts p owner x old.now new.now) (sym at) (subst (λ (q : OlderParts). raising.IsRaised ledger_parts q owner site old.now new.now) same is), it.3);
      others = λ settled. inr (o, older, u, site, can, keeps_all_but o (record { schema = site.schema; places = site.places; fits = can.rises.site }) u owner 0 old.now new.now older can is);
    }

-- and what it found there
pub opened_as : (owner : ℕ) (old new : State) (w : Layout) (o : Opened) → site_of w ≡ place_in o → IsPlaced ledger_parts old.now.schema o → Opens ledger_parts owner old new o → IsOpened owner old w
opened_as owner old new w (opened.Kept site) at placed it = inr (inl (subst (opening.StandsAt ledger_parts owner old) (sym at) it.0))
opened_as owner old new w (opened.Made site) at placed it = inl placed.0
opened_as owner old new w (opened.Raised site) at placed it = inr (inr (it.0, it.1, it.2.0, subst (λ x. CanRise it.0 owner old it.2.0 x) (sym at) it.2.1))

-- a ledger that was there goes on as it was, whichever layout it is taken for
pub kept_fits : (owner start : ℕ) (known : ℕ → Bool) (old new : State) (o p : Layout) → Settles owner old new o → IsOpened owner old o → IsFit (schema_in p) (IsLawful p owner start) old → IsDatabase old.now
    → IsLawfulIn (schema_in o) (IsLawful o owner start) new × (value_at o owner start known new.now.trees ≡ value_at p owner start known old.now.trees)
kept_fits owner start known old new o p settles (inl free) fit database = absurd (vacant.not_vacant ledger_parts (site_of p) old.now.schema ledger_design p.fits free fit.rest.schema_is)
kept_fits owner start known old new o p settles (inr (inr it)) fit database = absurd (not_older it.0 p old.now.schema it.1 it.3.rises.free fit.rest.schema_is)
kept_fits owner start known old new o p settles (inr (inl are)) fit database =
    let trees = same_trees p o old.now.trees (sym fit.rest.schema_is ∙ are.schema) in
    let readable = subst AreReadable trees fit.fits.readable in
    let together = subst (λ t. FitTogether owner start (held_of t)) trees fit.fits.together in
    let same = settles.kept (record { rest = record { settled = fit.rest.settled; schema_is = are.schema }; fits = readable }) in
    let now : ours o new.now.trees ≡ ours o old.now.trees = ap (λ (d : Database). ours o d.trees) same.0 in (
      record {
        fit = record {
          rest = record { settled = same.0 ∙ fit.rest.settled ∙ sym same.1; schema_is = ap (λ (d : Database). d.schema) same.0 ∙ are.schema };
          fits = record { readable = subst AreReadable (sym now) readable; together = subst (λ t. FitTogether owner start (held_of t)) (sym now) together };
        };
        database = same_database old new same database;
      },
      ap (λ t. value_in owner start known (held_of t)) (now ∙ sym trees),
    )

-- and so does one that a stop left
pub opened_again : (owner start : ℕ) (known : ℕ → Bool) (old new : State) (o p : Layout) → Settles owner old new o → IsOpened owner old o → old.now ≡ old.committed → IsDatabase old.now → IsLeft (schema_in p) (IsLawful p owner start) old.now.trees
    → IsLawfulIn (schema_in o) (IsLawful o owner start) new × (value_at o owner start known new.now.trees ≡ value_at p owner start known old.now.trees)
opened_again owner start known old new o p settles are settled database left = kept_fits owner start known old new o p settles are (fit_again (schema_in p) (IsLawful p owner start) old settled database left) database

-- one of an older format is raised, whichever layout it is taken for
pub raised_fits : (owner start : ℕ) (known : ℕ → Bool) (old new : State) (w : Layout) (o : OlderParts) (v : Site) → Has ledger_parts.older o → Settles owner old new w → IsOpened owner old w → IsFit v.schema (IsLawfulOlder o v owner start) old
    → IsLawfulIn (schema_in w) (IsLawful w owner start) new × (value_at w owner start known new.now.trees ≡ value_older o v owner start known old.now.trees)
raised_fits owner start known old new w o v older settles (inl free) fit = absurd (older_taken o v old.now.schema older fit.fits.site fit.rest.schema_is free)
raised_fits owner start known old new w o v older settles (inr (inl are)) fit = absurd (not_older o w old.now.schema older (subst (HasNone o.missing) (sym fit.rest.schema_is) fit.fits.free) are.schema)
raised_fits owner start known old new w o v older settles (inr (inr it)) fit =
    let free : HasNone o.missing old.now.schema = subst (HasNone o.missing) (sym fit.rest.schema_is) fit.fits.free in
    let same : it.0 ≡ o = one_older it.0 o it.2 v old.now.schema it.1 older it.3.rises.from fit.fits.site it.3.rises.has fit.rest.schema_is it.3.rises.free free in
    let u = it.2 in
    let can : CanRise o owner old u (site_of w) = subst (λ (p : OlderParts). CanRise p owner old u (site_of w)) same it.3 in
    let was = settles.raised o older u can in
    let here : u.schema ≡ v.schema = sym can.rises.has ∙ fit.rest.schema_is in
    let law = moved_older o u v owner start old.now.trees can.rises.from here fit.fits in (
      record {
        fit = record { rest = record { settled = was.1; schema_is = was.0.schema }; fits = raised_rows o w u owner start old.now new.now older can was.0 law };
        database = was.0.database;
      },
      raised_value o w u owner start old.now new.now older can was.0 law known ∙ moved_value o u v owner start known old.now.trees can.rises.from here fit.fits,
    )

-- and so is one that a stop left
pub raised_again : (owner start : ℕ) (known : ℕ → Bool) (old new : State) (w : Layout) (o : OlderParts) (v : Site) → Has ledger_parts.older o → Settles owner old new w → IsOpened owner old w → old.now ≡ old.committed → IsDatabase old.now → IsLeft v.schema (IsLawfulOlder o v owner start) old.now.trees
    → IsLawfulIn (schema_in w) (IsLawful w owner start) new × (value_at w owner start known new.now.trees ≡ value_older o v owner start known old.now.trees)
raised_again owner start known old new w o v older settles are settled database left = raised_fits owner start known old new w o v older settles are (fit_again v.schema (IsLawfulOlder o v owner start) old settled database left)

pub vacant_or_ours : (owner : ℕ) (s : State) (w : Layout) → IsOpened owner s w → IsVacant s ⊎ (IsLedger owner s ⊎ IsOlderLedger owner s)
vacant_or_ours owner s w (inl free) = inl free
vacant_or_ours owner s w (inr (inl are)) = inr (inl (site_of w, are))
vacant_or_ours owner s w (inr (inr it)) = inr (inr (it.0, it.1, it.2, site_of w, it.3))

-- whatever a stop leaves of an open
pub left_open : (owner start : ℕ) (old : State) (trees : Trees) → MayOpen owner old trees → ((known : ℕ → Bool) → IsLeftEmpty owner start known trees) ⊎ ((known : ℕ → Bool) → IsLeftRaised owner start known old trees)
left_open owner start old trees (inl made) = inl (λ known. left_empty owner start known old trees made)
left_open owner start old trees (inr raised) = inr (λ known. left_raised owner start known old trees raised)

-- a lawful ledger is one that an open finds
pub lawful_is_ours : (w : Layout) (owner start : ℕ) (s : State) → IsFit (schema_in w) (IsLawful w owner start) s → IsBlankOrOurs owner s
unfolding ours
lawful_is_ours w owner start s fit = inr (site_of w, record { site = w.fits; schema = fit.rest.schema_is; meta = fit.fits.together.meta; unused = fit.fits.together.unused })

-- a database with no table has none of the names
pub vacant_of : (s : Schema) → s ≡ no_schema → HasNone tables s
vacant_of s blank = vacant.vacant_of ledger_parts s blank
