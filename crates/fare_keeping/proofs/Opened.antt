-- The kept tables, once they were opened beside a store.
use Rattle.std.proofs.Common.{◌≡◌, ◌<◌, ◌⊎◌, inl, inr, ℕ, List, [], ◌∷◌, Result, Ok, Err, length, map, refl, sym, ap, subst, ◌∙◌, arith}
use Rattle.std.specs.Prelude.{IfErr, OnErr, OnOk}
use Rattle.std.specs.List.{AllByRecursion, AllZip}
use Rattle.sqlite.specs.Change.{KeepsRows}
use Rattle.sqlite.specs.Effect.{Database}
use Rattle.sqlite.specs.State.{State, HasCleanDisk, Survives}
use Rattle.sqlite.specs.Tree.{Trees}
use Rattle.sqlite.proofs.StateLemmas.{survives_weaker, survives_then}
use Rattle.sqlite_value.specs.Order.{Row}
use Rattle.fare_tables.specs.Asking.{IsAtRest, SameRows}
use Rattle.fare_tables.specs.Cells.{int}
use Rattle.fare_tables.proofs.Steps.{was_clean}
use Rattle.fare_layout.specs.declared.place.TableNumber.{TableNumber}
use Rattle.fare_layout.specs.Places.{all_of}
use Rattle.fare_opening.specs.declared.opening.Opened.{Opened}
use Rattle.fare_opening.specs.declared.opening.Opened.TheVariants as opened
use Rattle.fare_opening.specs.declared.site.Site.{Site}
use Rattle.fare_opening.specs.Beside.{IsBeside, IsPlacedBeside, MayMakeBeside, OpensBeside}
use Rattle.fare_opening.specs.MetaRow.{IsMeta}
use Rattle.fare_opening.specs.Moving.{AreNumbered}
use Rattle.fare_opening.specs.Numbers.{Meta}
use Rattle.fare_opening.specs.Opening.{place_in}
use Rattle.fare_opening.specs.Parts.{Parts}
use Rattle.fare_opening.specs.Sites.{IsSite, IsBare, rows_at}
use Rattle.fare_opening.proofs.Standing.{place_count, same_at}
use Rattle.fare_opening.proofs.Vacant.{not_vacant}
use Rattle.fare_scheme.specs.Values.{SchemeValue}
use Rattle.fare_lists.specs.Lists.{cells, behind_ids}
use Rattle.fare_kept.specs.Statements.{kept_parts}
use Rattle.fare_kept.proofs.Own.{kept_design}
use Rattle.fare_keeping.specs.declared.fault.KeepFault.{KeepFault}
use Rattle.fare_keeping.specs.declared.fault.KeepFault.TheVariants as keep_fault
use Rattle.fare_keeping.specs.Keeping.{AreEmpty, AreLawfulRows, HoldLists, HoldThoseThatMayFollow, IsLawful, IsRefusal, KeepsJust, MayFollow, SaysAt, SaysOf, StandsIn, kept_columns, no_lists}
use Rattle.fare_keeping.specs.Leaving.{LeavesIn, LeavesOthers, LeavesOthersIn, LeavesStore}
use Rattle.fare_keeping.proofs.Left.{eight, left_then, made_left, meta_left, same_left, written_left}
use Rattle.fare_keeping.proofs.Lists.{hold_none}
use Rattle.fare_register.specs.Registers.{register_lists, registered}

-- ---- one site

pub same_site : (w v : Site) → IsSite kept_parts w → IsSite kept_parts v → w.schema ≡ v.schema → w ≡ v
same_site w v one other schema =
    let all : all_of w.places ≡ all_of v.places = same_at kept_parts w v one other schema in
    λ i. record { schema = schema i; places = record { all = all i } }

-- ---- tables with no row

bare_rows : (w : Site) (trees : Trees) → IsSite kept_parts w → IsBare w trees → AllByRecursion (λ (t : TableNumber × ℕ). rows_at w t.0 trees ≡ []) kept_columns
unfolding kept_columns
bare_rows w trees site bare =
    let many : length (all_of w.places) ≡ 8 = sym (place_count w.schema kept_parts.own.tables (all_of w.places) site.stands) ∙ eight in
    let at = λ (n : ℕ) (past : 0 < n) (low : n < 8). bare (record { number = n }) past (omega (arith, low, many)) in
    (at 1 (omega arith) (omega arith), (at 2 (omega arith) (omega arith), (at 3 (omega arith) (omega arith), (at 4 (omega arith) (omega arith), (at 5 (omega arith) (omega arith), (at 6 (omega arith) (omega arith), (at 7 (omega arith) (omega arith), tt)))))))

bare_lawful : (w : Site) (trees : Trees) (columns : List (TableNumber × ℕ)) → AllByRecursion (λ (t : TableNumber × ℕ). rows_at w t.0 trees ≡ []) columns → AllByRecursion (λ (t : TableNumber × ℕ). AreNumbered t.1 (rows_at w t.0 trees)) columns
bare_lawful w trees [] bare = tt
bare_lawful w trees (c ∷ columns) bare = (subst (AreNumbered c.1) (sym bare.0) tt, bare_lawful w trees columns bare.1)

no_entries : (list : List (List ℕ)) → behind_ids [] ≡ map cells list → list ≡ []
no_entries [] is = refl
no_entries (row ∷ list) is = absurd (let x = is in cc)

bare_empty : (w : Site) (trees : Trees) (columns : List (TableNumber × ℕ)) (lists : List (List (List ℕ))) → AllByRecursion (λ (t : TableNumber × ℕ). rows_at w t.0 trees ≡ []) columns → AllZip (λ (t : TableNumber × ℕ) (list : List (List ℕ)). behind_ids (rows_at w t.0 trees) ≡ map cells list) columns lists → AreEmpty lists
bare_empty w trees [] [] bare hold = tt
bare_empty w trees [] (l ∷ lists) bare hold = absurd hold
bare_empty w trees (c ∷ columns) [] bare hold = absurd hold
bare_empty w trees (c ∷ columns) (l ∷ lists) bare hold = (no_entries l (ap behind_ids (sym bare.0) ∙ hold.0), bare_empty w trees columns lists bare.1 hold.1)

bare_none : (w : Site) (trees : Trees) (columns : List (TableNumber × ℕ)) (lists : List (List (List ℕ))) → AllByRecursion (λ (t : TableNumber × ℕ). rows_at w t.0 trees ≡ []) columns → AreEmpty lists → length lists ≡ length columns → AllZip (λ (t : TableNumber × ℕ) (list : List (List ℕ)). behind_ids (rows_at w t.0 trees) ≡ map cells list) columns lists
bare_none w trees [] [] bare empty many = tt
bare_none w trees [] (l ∷ lists) bare empty many = absurd (let x = many in cc)
bare_none w trees (c ∷ columns) [] bare empty many = absurd (let x = many in cc)
bare_none w trees (c ∷ columns) (l ∷ lists) bare empty many = (ap behind_ids bare.0 ∙ ap (map cells) (sym empty.0), bare_none w trees columns lists bare.1 empty.1 (let x = many in cc))

pub all_empty : AreEmpty no_lists
all_empty = (refl, (refl, (refl, (refl, (refl, (refl, (refl, tt)))))))

seven : length no_lists ≡ length kept_columns
unfolding kept_columns
seven = refl

hold_no_lists : (w : Site) (trees : Trees) → IsSite kept_parts w → IsBare w trees → HoldLists w trees no_lists
hold_no_lists w trees site bare = bare_none w trees kept_columns no_lists (bare_rows w trees site bare) all_empty seven

-- ---- what holds once they were opened

pub record AreOpen (e : Parts) (old mid : State) (w : Site) : Type 0 where
  pub site : IsSite kept_parts w
  pub beside : IsBeside e old.now.schema w
  pub rest : IsAtRest w.schema mid
  pub meta : IsMeta kept_parts.format 0 (rows_at w Meta mid.now.trees)
  pub left : LeavesStore e old.now mid.now
  -- they stood there, or were made
  pub was : (SameRows old mid × StandsIn old.now w) ⊎ (((v : Site) → ¬ StandsIn old.now v) × IsBare w mid.now.trees)

made_meta : (rows : List Row) → rows ≡ (int 1 ∷ int 1 ∷ int 0 ∷ []) ∷ [] → IsMeta 1 0 rows
made_meta rows is = record { row = int 1 ∷ int 1 ∷ int 0 ∷ []; only = is; is = record { id_is = tt; format_is = refl; owner_is = refl } }

pub are_open : (e : Parts) (old mid : State) (o : Opened) → old.now ≡ old.committed → IsPlacedBeside kept_parts e old.now.schema o → OpensBeside kept_parts 0 old mid o → AreOpen e old mid (place_in o)
are_open e old mid (opened.Kept w) settled placed opens =
    let same = opens.1 settled in
    let schema : mid.now.schema ≡ w.schema = ap (λ (db : Database). db.schema) same.0 ∙ placed.1 in
    record {
      site = placed.0;
      beside = placed.2;
      rest = record { settled = same.0 ∙ settled ∙ sym same.1; schema_is = schema };
      meta = subst (λ (db : Database). IsMeta kept_parts.format 0 (rows_at w Meta db.trees)) (sym same.0) opens.0.meta;
      left = same_left e old.now mid.now same.0;
      was = inl (same, record { site = placed.0; schema = placed.1; meta = opens.0.meta });
    }
are_open e old mid (opened.Made w) settled placed opens = record {
  site = placed.1.site;
  beside = placed.2;
  rest = record { settled = opens.settled; schema_is = opens.is_new.schema };
  meta = made_meta (rows_at w Meta mid.now.trees) opens.is_new.meta;
  left = made_left e w old.now mid.now placed.2 placed.1.grows opens.others opens.is_new.schema opens.is_new.database;
  was = inr (λ v stands. not_vacant kept_parts v old.now.schema kept_design stands.site placed.0 stands.schema, opens.is_new.bare);
}
are_open e old mid (opened.Raised w) settled placed opens = absurd placed

module _ (e : Parts) (old mid new : State) (w : Site) (it : AreOpen e old mid w) where
  pub lawful_then : IsLawful old.now → AreLawfulRows w mid.now.trees
  lawful_then lawful = elim it.was [
    | inl stood ↦ subst (λ (db : Database). AreLawfulRows w db.trees) (sym stood.0.0) (lawful w stood.1)
    | inr made ↦ bare_lawful w mid.now.trees kept_columns (bare_rows w mid.now.trees it.site made.1)
  ]

  stands_then : LeavesOthers w mid.now new.now → StandsIn new.now w
  stands_then left = record { site = it.site; schema = left.schema; meta = subst (IsMeta kept_parts.format 0) (sym (meta_left w mid.now new.now it.site left)) it.meta }

  pub kept_then : {X E : Type 0} (r : Result X E) (sc : SchemeValue) (zone : List ℕ) (given : List (List (List ℕ))) → given ≡ register_lists (registered sc zone) → OnOk r (HoldLists w new.now.trees given × AreLawfulRows w new.now.trees) → OnOk r (LeavesOthers w mid.now new.now × (new.now ≡ new.committed)) → OnOk r (KeepsJust new.now sc zone × IsLawful new.now)
  kept_then (Err x) sc zone given is put left = tt
  kept_then (Ok x) sc zone given is put left =
      let stands = stands_then left.0 in (
        (w, record { stands = stands; hold = subst (HoldLists w new.now.trees) is put.0 }),
        λ v there. subst (λ u. AreLawfulRows u new.now.trees) (same_site w v it.site there.site (sym left.0.schema ∙ there.schema)) put.1,
      )

  pub follows_then : {X E : Type 0} (r : Result X E) (sc : SchemeValue) → OnOk r (HoldThoseThatMayFollow w mid.now.trees sc) → OnOk r (MayFollow old.now sc)
  follows_then (Err x) sc follows = tt
  follows_then (Ok x) sc follows = elim it.was [
    | inl stood ↦
        let hold = subst (λ (db : Database). HoldLists w db.trees follows.0) stood.0.0 follows.1 in
        elim follows.2 [
          | inl empty ↦ inl (inr (w, record { stands = stood.1; hold = hold_none w old.now.trees follows.0 empty hold }))
          | inr tells ↦ inr (tells.0, (w, follows.0, record { stands = stood.1; hold = hold }, tells.1), tells.2)
        ]
    | inr made ↦ inl (inl made.0)
  ]

  -- tables that were made hold nothing of which a refusal says anything
  none_said : (sc : SchemeValue) (fault : KeepFault) → IsRefusal fault → IsBare w mid.now.trees → SaysAt w mid.now.trees sc fault → ⊥
  none_said sc (keep_fault.Changed why) refusal bare says = says.2.0 (bare_empty w mid.now.trees kept_columns says.0 (bare_rows w mid.now.trees it.site bare) says.1)
  none_said sc keep_fault.Unreadable refusal bare says = (says no_lists (hold_no_lists w mid.now.trees it.site bare) (tt, (tt, (tt, (tt, (tt, (tt, (tt, tt)))))))).0 all_empty
  none_said sc keep_fault.Foreign refusal bare says = says
  none_said sc keep_fault.Memory refusal bare says = refusal
  none_said sc keep_fault.Store refusal bare says = refusal

  says_stood : (sc : SchemeValue) (fault : KeepFault) → SameRows old mid → StandsIn old.now w → SaysAt w mid.now.trees sc fault → SaysOf old.now sc fault
  says_stood sc (keep_fault.Changed why) same stands says =
      (says.2.1.0, (w, says.0, record { stands = stands; hold = subst (λ (db : Database). HoldLists w db.trees says.0) same.0 says.1 }, says.2.1.1), says.2.1.2)
  says_stood sc keep_fault.Unreadable same stands says = (w, stands, subst (λ (db : Database). SaysAt w db.trees sc keep_fault.Unreadable) same.0 says)
  says_stood sc keep_fault.Foreign same stands says = tt
  says_stood sc keep_fault.Memory same stands says = tt
  says_stood sc keep_fault.Store same stands says = tt

  says_made : (sc : SchemeValue) (fault : KeepFault) → IsBare w mid.now.trees → SaysAt w mid.now.trees sc fault → SaysOf old.now sc fault
  says_made sc (keep_fault.Changed why) bare says = absurd (none_said sc (keep_fault.Changed why) tt bare says)
  says_made sc keep_fault.Unreadable bare says = absurd (none_said sc keep_fault.Unreadable tt bare says)
  says_made sc keep_fault.Foreign bare says = tt
  says_made sc keep_fault.Memory bare says = tt
  says_made sc keep_fault.Store bare says = tt

  pub says_then : {X : Type 0} (r : Result X KeepFault) (sc : SchemeValue) → IfErr r (SaysAt w mid.now.trees sc) → IfErr r (SaysOf old.now sc)
  says_then (Ok x) sc says = tt
  says_then (Err fault) sc says = elim it.was [ inl stood ↦ says_stood sc fault stood.0 stood.1 says | inr made ↦ says_made sc fault made.1 says ]

  pub refused_then : {X : Type 0} (r : Result X KeepFault) (sc : SchemeValue) → IfErr r (SaysAt w mid.now.trees sc) → OnErr r (SameRows mid new) → IfErr r (λ fault. IsRefusal fault → SameRows old new)
  refused_then (Ok x) sc says same = tt
  refused_then (Err fault) sc says same = λ refusal. elim it.was [
    | inl stood ↦ (same.0 ∙ stood.0.0, same.1 ∙ stood.0.1)
    | inr made ↦ absurd (none_said sc fault refusal made.1 says)
  ]

  pub left_so : {X E : Type 0} (r : Result X E) → OnOk r (LeavesOthers w mid.now new.now × (new.now ≡ new.committed)) → OnErr r (SameRows mid new) → LeavesStore e old.now new.now × (new.now ≡ new.committed)
  left_so (Ok x) left same = (left_then e old.now mid.now new.now it.left (written_left e old.now.schema w mid.now new.now it.site it.beside left.0 it.rest.schema_is) (left.0.schema ∙ sym it.rest.schema_is), left.1)
  left_so (Err x) left same = (left_then e old.now mid.now new.now it.left (same_left e mid.now new.now same.0) (ap (λ (db : Database). db.schema) same.0), same.0 ∙ it.rest.settled ∙ sym same.1)

-- ---- what a stop leaves

may_leave : (e : Parts) (old : State) (trees : Trees) → MayMakeBeside kept_parts e 0 old trees → LeavesIn e old.now trees
may_leave e old trees may =
    let made = may.made.1 in
    let w : Site = made.0 in
    let db : Database = made.2 in
    let others : KeepsRows old.now.schema.tables old.now.trees db.trees = subst (KeepsRows old.now.schema.tables old.now.trees) made.4 may.made.2 in
    (db, made_left e w old.now db (may.beside w made.1) made.1.grows others made.3.schema made.3.database, made.4)

pub leaves_opening : (e : Parts) (old new : State) → Survives old new (MayMakeBeside kept_parts e 0 old) → Survives old new (LeavesIn e old.now)
leaves_opening e old new = survives_weaker old new _ _ (λ clean trees may. may_leave e old trees may)

pub leaves_keeping : (e : Parts) (old mid new : State) (w : Site) → (HasCleanDisk mid → AreOpen e old mid w) → Survives old mid (MayMakeBeside kept_parts e 0 old) → Survives mid new (λ trees. IsAtRest w.schema mid → LeavesOthersIn w mid.now trees)
    → Survives old new (LeavesIn e old.now)
leaves_keeping e old mid new w opens first second =
    survives_then old mid new _ _ _ (λ clean trees may. may_leave e old trees may) (λ clean trees left.
    let it = opens (was_clean mid new _ second clean) in
    let last = left it.rest in
    (last.0, left_then e old.now mid.now last.0 it.left (written_left e old.now.schema w mid.now last.0 it.site it.beside last.1 it.rest.schema_is) (last.1.schema ∙ sym it.rest.schema_is), last.2)) first second

-- where nothing was opened
pub none_left : (e : Parts) (old new : State) → old.now ≡ old.committed → SameRows old new → LeavesStore e old.now new.now × (new.now ≡ new.committed)
none_left e old new settled same = (same_left e old.now new.now same.0, same.0 ∙ settled ∙ sym same.1)
