-- A store of an older format, found and raised.
use Rattle.std.proofs.Common.{◌≡◌, ◌<◌, ◌≤◌, inl, inr, ℕ, List, [], ◌∷◌, length, Option, Some, None, refl, sym, ap, subst, ◌∙◌, arith}
use Rattle.std.specs.Prelude.{slice_index_or, take, drop, ◌-◌, IfSome, Result, Ok, Err, OnErr}
use Rattle.std.proofs.Math.Seq.{take-length}
use Rattle.std.specs.List.{AllByRecursion, AllZip}
use Rattle.sqlite.specs.Effect.{Database}
use Rattle.sqlite.specs.Schema.{Schema}
use Rattle.sqlite_value.specs.Order.{Row}
use Rattle.sqlite.specs.State.{State, HasCleanDisk, Survives}
use Rattle.sqlite.specs.Tree.{Trees}
use Rattle.sqlite.proofs.StateLemmas.{survives_weaker, survives_then}
use Rattle.sqlite_rules.specs.Lists.{Has}
use Rattle.fare_tables.specs.Asking.{SameRows}
use Rattle.fare_tables.proofs.Steps.{was_clean}
use Rattle.fare_opening.specs.declared.design.Older.{Older}
use Rattle.fare_opening.specs.declared.site.Site.{Site}
use Rattle.fare_opening.specs.MetaRow.{IsMeta}
use Rattle.fare_opening.specs.Moving.{MovingParts, columns_of, AreNumbered}
use Rattle.fare_opening.specs.Numbers.{Meta}
use Rattle.fare_opening.specs.Opening.{MayMake, MayOpen}
use Rattle.fare_opening.specs.Parts.{Parts, OlderParts, IsOlder, IsTold, parts_of}
use Rattle.fare_opening.specs.Raising.{IsAnOwners, AreRead, Rises, CanRise, IsRaised, IsRising, RaisesAll, RaisesFrom, Raises, RaisesTo, IsOlderStore, MayRaise, WasRaised}
use Rattle.fare_opening.specs.Sites.{IsSite, HasNoRow, rows_at}
use Rattle.fare_opening.proofs.Standing.{same_rows, same_emptied}

-- two questions leave no more than one
pub neither_leaves : (old mid new : State) (schema : Schema) → (HasCleanDisk mid → old.now.schema ≡ schema → SameRows old mid) → Survives old mid (λ _. ¬ (old.now.schema ≡ schema)) → Survives mid new (λ _. ¬ (mid.now.schema ≡ schema)) → Survives old new (λ _. ¬ (old.now.schema ≡ schema))
neither_leaves old mid new schema same first second =
    survives_then old mid new _ _ _ (λ clean trees no. no) (λ clean trees no is. no (ap (λ (db : Database). db.schema) (same (was_clean mid new _ second clean) is).0 ∙ is)) first second

module _ (d : Parts) (told : Older) (owner : ℕ) (old mid : State) (from to : Site) (rows : List Row) where
  -- where its tables stand, and would stand
  abbrev pub AreFound : Type 0
  AreFound = (o : OlderParts) → IsOlder d o → IsTold told o → Rises d o old.now.schema from to

  pub can_rise : AreFound → IsAnOwners told owner from old.now.trees → (o : OlderParts) → IsOlder d o → IsTold told o → CanRise d o owner old.now from to
  can_rise found meta o older is = record {
    rises = found o older is;
    meta = subst (λ f. IsMeta f owner (rows_at from Meta old.now.trees)) is.format meta.0;
    unused = subst (λ u. HasNoRow u from old.now.trees) is.unused meta.1;
  }

  -- the rows that were read where its tables stand
  abbrev pub WereRead : Type 0
  WereRead = (e : Parts) (o : OlderParts) → IsOlder e o → IsTold told o → IsSite (parts_of o) from → AreRead o from old.now rows

  same_read : (o : OlderParts) (v : Site) (trees : Trees) (x : Option MovingParts) → IsSite (parts_of o) from → IsSite (parts_of o) v → from.schema ≡ v.schema → IfSome x (λ (m : MovingParts). AreNumbered (columns_of o.own m.from) (rows_at from m.from trees) → rows ≡ rows_at from m.from trees)
      → IfSome x (λ (m : MovingParts). AreNumbered (columns_of o.own m.from) (rows_at v m.from trees) → rows ≡ rows_at v m.from trees)
  same_read o v trees None one two same read = tt
  same_read o v trees (Some m) one two same read = subst (λ (there : List Row). AreNumbered (columns_of o.own m.from) there → rows ≡ there) (same_rows (parts_of o) from v m.from trees one two same) read

  read_there : AreFound → WereRead → (o : OlderParts) → IsOlder d o → IsTold told o → (v : Site) → IsSite (parts_of o) v → old.now.schema ≡ v.schema → AreRead o v old.now rows
  read_there found read o older is v site has =
      let here = found o older is in
      same_read o v old.now.trees o.moving here.from site (sym here.has ∙ has) (read d o older is here.from)

  pub is_rising : AreFound → IsAnOwners told owner from old.now.trees → WereRead → SameRows old mid → (o : OlderParts) → IsOlder d o → IsTold told o → IsRising d told mid.now rows
  is_rising found meta read same o older is =
      let can = can_rise found meta o older is in
      let all = read_there found read in
      let it : IsRising d told old.now rows = record { o = o; older = older; is_told = is; owner = owner; from = from; to = to; can = can; read = all } in
      subst (λ db. IsRising d told db rows) (sym same.0) it

  pub raises : AreFound → IsAnOwners told owner from old.now.trees → SameRows old mid → (o : OlderParts) → IsOlder d o → IsTold told o → (e : Database) → RaisesAll d told mid.now e → Raises d o owner old.now e to
  raises found meta same o older is e all =
      let can = can_rise found meta o older is in
      (from, can, subst (λ db. IsRaised d o owner to db e) same.0 (all.each o older is owner from to (subst (λ db. CanRise d o owner db from to) (sym same.0) can)))

  -- a stop leaves it as it was, or raised
  pub raises_survives : (new : State) → AreFound → (HasCleanDisk mid → IsAnOwners told owner from old.now.trees) → (HasCleanDisk mid → WereRead) → (HasCleanDisk mid → SameRows old mid) → old.now.schema ≡ from.schema → Survives old mid (λ _. ¬ (old.now.schema ≡ from.schema))
      → Survives mid new (λ trees. IsRising d told mid.now rows → RaisesFrom d told mid.now trees) → Survives old new (λ trees. (o : OlderParts) → IsOlder d o → IsTold told o → RaisesTo d o owner old.now trees)
  raises_survives new found meta read same has first second =
      survives_then old mid new _ _ _ (λ clean trees other. absurd (other has))
      (λ clean trees leaves o older is. (
      let before = was_clean mid new _ second clean in
      let it = leaves (is_rising found (meta before) (read before) (same before) o older is) in
      (to, it.0, raises found (meta before) (same before) o older is it.0 it.1, it.2)))
      first second

-- a row of meta that isn't of this format and owner, or one in the unused table, wherever the older format's tables are found to stand
pub none_rises : (d : Parts) (told : Older) (owner : ℕ) (old : State) (from to : Site) → ((o : OlderParts) → IsOlder d o → IsTold told o → Rises d o old.now.schema from to) → ¬ IsAnOwners told owner from old.now.trees
    → (o : OlderParts) → IsOlder d o → IsTold told o → (v w : Site) → ¬ CanRise d o owner old.now v w
none_rises d told owner old from to found other o older is v w can =
    let here = found o older is in
    let same = same_rows (parts_of o) v from Meta old.now.trees can.rises.from here.from (sym can.rises.has ∙ here.has) in
    let none = same_emptied (parts_of o) v from old.now.trees can.rises.from here.from (sym can.rises.has ∙ here.has) can.unused in
    other (subst (λ f. IsMeta f owner (rows_at from Meta old.now.trees)) (sym is.format) (subst (IsMeta o.format owner) same can.meta), subst (λ u. HasNoRow u from old.now.trees) (sym is.unused) none)

-- ---- the first of several formats, and those behind it

pub record AreFirst (d : Parts) (behind : List Older) (os : List OlderParts) : Type 0 where
  pub o : OlderParts
  pub rest : List OlderParts
  pub all : os ≡ o ∷ rest
  pub older : IsOlder d o
  pub olders : AllByRecursion (IsOlder d) rest
  pub are : AllZip IsTold behind rest

pub are_first : (d : Parts) (ts : List Older) (os : List OlderParts) → 1 ≤ length ts → AllByRecursion (IsOlder d) os → AllZip IsTold ts os → AreFirst d (take (length ts - 1) (drop 1 ts)) os
are_first d [] os some olders are = absurd (omega (arith, some))
are_first d (t ∷ ts) [] some olders are = absurd are
are_first d (t ∷ ts) (o ∷ os) some olders are = record { o = o; rest = os; all = refl; older = olders.0; olders = olders.1; are = subst (λ all. AllZip IsTold all os) (sym (ap (λ n. take n ts) (one_less t ts) ∙ take-length ts)) are.1 }
  where
    one_less : (t : Older) (ts : List Older) → length (t ∷ ts) - 1 ≡ length ts
    one_less t ts = omega arith

first_told : (ts : List Older) (x : Older) (o : OlderParts) (rest : List OlderParts) → 1 ≤ length ts → AllZip IsTold ts (o ∷ rest) → IsTold (slice_index_or ts 0 x) o
first_told [] x o rest some are = absurd are
first_told (t ∷ ts) x o rest some are = are.0

pub none_told : (ts : List Older) (os : List OlderParts) (o : OlderParts) → length ts < 1 → AllZip IsTold ts os → Has os o → ⊥
none_told [] [] o few are has = has
none_told [] (p ∷ os) o few are has = are
none_told (t ∷ ts) os o few are has = absurd (omega (arith, few))

module _ (d : Parts) (ts : List Older) (owner : ℕ) (old mid new : State) (some : 1 ≤ length ts) where
  abbrev behind : List Older
  behind = take (length ts - 1) (drop 1 ts)

  -- one of the formats, raised
  abbrev pub IsOneRaised : Database → Site → List Older → Type 0
  IsOneRaised from w all = (os : List OlderParts) → AllByRecursion (IsOlder d) os → AllZip IsTold all os → (o : OlderParts) × Has os o × Raises d o owner from new.now w × (new.now ≡ new.committed)

  -- what holds of the first one
  of_first : {P : Type 0} (x : Older) → ((o : OlderParts) → IsOlder d o → IsTold (slice_index_or ts 0 x) o → P) → (os : List OlderParts) → AllByRecursion (IsOlder d) os → AllZip IsTold ts os → P
  of_first x it os olders are =
      let a = are_first d ts os some olders are in
      it a.o a.older (first_told ts x a.o a.rest some (subst (AllZip IsTold ts) a.all are))

  pub first_raised : (x : Older) (w : Site) → ((o : OlderParts) → IsOlder d o → IsTold (slice_index_or ts 0 x) o → Raises d o owner old.now new.now w × (new.now ≡ new.committed)) → IsOneRaised old.now w ts
  first_raised x w it os olders are =
      let a = are_first d ts os some olders are in
      let one = it a.o a.older (first_told ts x a.o a.rest some (subst (AllZip IsTold ts) a.all are)) in
      (a.o, subst (λ all. Has all a.o) (sym a.all) (inl refl), one.0, one.1)

  -- what a failure leaves
  pub first_failed : (x : Older) → ((o : OlderParts) → IsOlder d o → IsTold (slice_index_or ts 0 x) o → SameRows old new) → (os : List OlderParts) → AllByRecursion (IsOlder d) os → AllZip IsTold ts os → SameRows old new
  first_failed x it = of_first x it

  pub later_failed : {X E : Type 0} (r : Result X E) → SameRows old mid → (mid.now ≡ mid.committed → (os : List OlderParts) → AllByRecursion (IsOlder d) os → AllZip IsTold behind os → OnErr r (SameRows mid new)) → old.now ≡ old.committed → (os : List OlderParts) → AllByRecursion (IsOlder d) os → AllZip IsTold ts os → OnErr r (SameRows old new)
  later_failed (Ok y) same later rest os olders are = tt
  later_failed (Err e) same later rest os olders are =
      let a = are_first d ts os some olders are in
      let it = later (same.0 ∙ rest ∙ sym same.1) a.rest a.olders a.are in
      (it.0 ∙ same.0, it.1 ∙ same.1)

  pub later_raised : (w : Site) → SameRows old mid → IsOneRaised mid.now w behind → IsOneRaised old.now w ts
  later_raised w same later os olders are =
      let it = are_first d ts os some olders are in
      let one = later it.rest it.olders it.are in
      (one.0, subst (λ all. Has all one.0) (sym it.all) (inr one.1), subst (λ db. Raises d one.0 owner db new.now w) same.0 one.2, one.3)

  -- none of the formats is there
  abbrev pub NoneCanRise : Database → List Older → Type 0
  NoneCanRise from all = (os : List OlderParts) → AllByRecursion (IsOlder d) os → AllZip IsTold all os → (o : OlderParts) → Has os o → (v w : Site) → ¬ CanRise d o owner from v w

  pub later_lacks : (x : Older) → SameRows old mid → ((o : OlderParts) → IsOlder d o → IsTold (slice_index_or ts 0 x) o → (v w : Site) → ¬ CanRise d o owner old.now v w) → NoneCanRise mid.now behind → NoneCanRise old.now ts
  later_lacks x same first later os olders are o has v w can =
      let it = are_first d ts os some olders are in
      elim (subst (λ all. Has all o) it.all has) [
        | inl is ↦ first it.o it.older (first_told ts x it.o it.rest some (subst (AllZip IsTold ts) it.all are)) v w (subst (λ (y : OlderParts). CanRise d y owner old.now v w) is can)
        | inr there ↦ later it.rest it.olders it.are o there v w (subst (λ db. CanRise d o owner db v w) (sym same.0) can)
      ]

  -- what a stop leaves
  abbrev pub OneMayRaise : Database → List Older → Trees → Type 0
  OneMayRaise from all trees = (os : List OlderParts) → AllByRecursion (IsOlder d) os → AllZip IsTold all os → (o : OlderParts) × Has os o × RaisesTo d o owner from trees

  first_leaves : (x : Older) (trees : Trees) → ((o : OlderParts) → IsOlder d o → IsTold (slice_index_or ts 0 x) o → RaisesTo d o owner old.now trees) → OneMayRaise old.now ts trees
  first_leaves x trees leaves os olders are =
      let it = are_first d ts os some olders are in
      (it.o, subst (λ all. Has all it.o) (sym it.all) (inl refl), leaves it.o it.older (first_told ts x it.o it.rest some (subst (AllZip IsTold ts) it.all are)))

  later_leaves : (trees : Trees) → SameRows old mid → OneMayRaise mid.now behind trees → OneMayRaise old.now ts trees
  later_leaves trees same leaves os olders are =
      let it = are_first d ts os some olders are in
      let one = leaves it.rest it.olders it.are in
      (one.0, subst (λ all. Has all one.0) (sym it.all) (inr one.1), subst (λ db. RaisesTo d one.0 owner db trees) same.0 one.2)

  pub first_survives : (x : Older) → Survives old new (λ trees. (o : OlderParts) → IsOlder d o → IsTold (slice_index_or ts 0 x) o → RaisesTo d o owner old.now trees) → Survives old new (OneMayRaise old.now ts)
  first_survives x = survives_weaker old new _ _ (λ clean trees leaves. first_leaves x trees leaves)

  pub later_survives : (x : Older) → (HasCleanDisk mid → SameRows old mid) → Survives old mid (λ trees. (o : OlderParts) → IsOlder d o → IsTold (slice_index_or ts 0 x) o → RaisesTo d o owner old.now trees) → Survives mid new (OneMayRaise mid.now behind) → Survives old new (OneMayRaise old.now ts)
  later_survives x same first second =
      survives_then old mid new _ _ _ (λ clean trees leaves. first_leaves x trees leaves) (λ clean trees leaves. later_leaves trees (same (was_clean mid new _ second clean)) leaves) first second

-- ---- after a question, which changes no row

module _ (d : Parts) (owner : ℕ) (old mid new : State) where
  pub raised_since : (w : Site) → SameRows old mid → WasRaised d owner mid new w → WasRaised d owner old new w
  raised_since w same it = (it.0, it.1, subst (λ db. Raises d it.0 owner db new.now w) same.0 it.2, it.3)

  pub none_since : SameRows old mid → ¬ IsOlderStore d owner mid → ¬ IsOlderStore d owner old
  none_since same none it = none (it.0, it.1, it.2, it.3, subst (λ db. CanRise d it.0 owner db it.2 it.3) (sym same.0) it.4)

  pub survives_since : (P : Type 0) → P → (HasCleanDisk mid → SameRows old mid) → Survives old mid (λ _. ¬ P) → Survives mid new (MayRaise d owner mid) → Survives old new (MayRaise d owner old)
  survives_since P p same first second =
      survives_then old mid new _ _ _ (λ clean trees none. absurd (none p)) (λ clean trees it. (it.0, it.1, subst (λ db. RaisesTo d it.0 owner db trees) (same (was_clean mid new _ second clean)).0 it.2)) first second

-- ---- a store that has no older format

pub none_raised : (d : Parts) (owner : ℕ) (old new : State) → d.older ≡ [] → Survives old new (MayOpen d owner old) → Survives old new (MayMake d owner old)
none_raised d owner old new none = survives_weaker old new _ _ (λ clean trees may. elim may [ inl made ↦ made | inr it ↦ absurd (subst (λ os. Has os it.0) none it.1) ])
