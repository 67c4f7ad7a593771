use Rattle.std.proofs.Common.{◌≡◌, ◌∙◌, sym, subst}
use Rattle.sqlite.specs.Held.{state}
use Rattle.sqlite.specs.State.{HasCleanDisk}
use Rattle.fare_tables.proofs.Steps.{was_clean}
use Rattle.fare_opening.specs.Parts.{OlderParts, IsOlder, IsTold}
use Rattle.fare_opening.specs.Raising.{Rises, IsAnOwners}
use Rattle.fare_opening.proofs.Olders.{AreFound, WereRead, none_rises, is_rising, raises, raises_survives}
use Rattle.fare_layout.proofs.Creation.{some_is}
use Rattle.fare_opening.proofs.Standing.{for_err, matched_some, matched_none}
use Rattle.fare_opening.proofs.older.raise_from.Goals as goal

pub returns-in_default-clause-lacks : goal.returns-in_default-clause-lacks
returns-in_default-clause-lacks g c clean none o older told v w can = c.in_ok-ascent.ensures.lacks c.in_default.is o older told v w (subst (λ s. Rises g.D.Design.parts o s v w) (sym c.schema.ensures.value) can.rises)

pub look_back-requires : goal.look_back-requires
look_back-requires g c =
    let d = g.D.Design.parts in
    let found = some_is c.in_ok-ascent.field-0 c.in-Some.ascent (λ it. (o : OlderParts) → IsOlder d o → IsTold c.args.older.now o → Rises d o c.schema.result.now it.from it.to) c.in-Some.is c.in_ok-ascent.ensures.found in
    let told = c.requires.told in
    (d, told.0, told.1, told.2, (found told.0 told.1 told.2).from)

pub returns-in_default-2-clause-lacks : goal.returns-in_default-2-clause-lacks
returns-in_default-2-clause-lacks g c clean none =
    let d = g.D.Design.parts in
    let told = c.args.older.now in
    let owner = c.args.owner in
    let old = state g.S.Store c.args.conn.now in
    let from = c.in-Some.ascent.from in
    let to = c.in-Some.ascent.to in
    let found : (o : OlderParts) → IsOlder d o → IsTold told o → Rises d o old.now.schema from to =
    subst (λ s. (o : OlderParts) → IsOlder d o → IsTold told o → Rises d o s from to) c.schema.ensures.value (some_is c.in_ok-ascent.field-0 c.in-Some.ascent (λ it. (o : OlderParts) → IsOlder d o → IsTold told o → Rises d o c.schema.result.now it.from it.to) c.in-Some.is c.in_ok-ascent.ensures.found) in
    let has = sym c.schema.ensures.value ∙ some_is c.in_ok-ascent.field-0 c.in-Some.ascent (λ it. c.schema.result.now ≡ it.from.schema) c.in-Some.is c.in_ok-ascent.ensures.at in
    none_rises d told owner old from to found (matched_none c.in_ok-rows.field-0 _ _ c.in_default-2.is (c.in_ok-rows.ensures.meta clean has))

pub returns-clause-raised : goal.returns-clause-raised
returns-clause-raised g c live o older is =
    let d = g.D.Design.parts in
    let told = c.args.older.now in
    let owner = c.args.owner in
    let old = state g.S.Store c.args.conn.now in
    let mid = state g.S.Store c.look_back.new.conn in
    let new = state g.S.Store c.raise_store.new.conn in
    let from = c.in-Some.ascent.from in
    let to = c.in-Some.ascent.to in
    let rows = c.as_slice.result.now in
    let found : AreFound d told owner old mid from to rows =
    subst (λ s. (o : OlderParts) → IsOlder d o → IsTold told o → Rises d o s from to) c.schema.ensures.value (some_is c.in_ok-ascent.field-0 c.in-Some.ascent (λ it. (o : OlderParts) → IsOlder d o → IsTold told o → Rises d o c.schema.result.now it.from it.to) c.in-Some.is c.in_ok-ascent.ensures.found) in
    let has = sym c.schema.ensures.value ∙ some_is c.in_ok-ascent.field-0 c.in-Some.ascent (λ it. c.schema.result.now ≡ it.from.schema) c.in-Some.is c.in_ok-ascent.ensures.at in
    let seen : HasCleanDisk mid → IsAnOwners told owner from old.now.trees × WereRead d told owner old mid from to c.in-Some-2.rows.items =
    (λ before. matched_some c.in_ok-rows.field-0 c.in-Some-2.rows _ _ c.in-Some-2.is (c.in_ok-rows.ensures.meta before has)) in
    let read : HasCleanDisk mid → WereRead d told owner old mid from to rows =
    (λ before. subst (WereRead d told owner old mid from to) (sym c.as_slice.ensures.value) (seen before).1) in
    let before : HasCleanDisk mid = was_clean mid new _ c.in_ok-raise_store.ensures.crash live.0 in
    let same = c.in_ok-rows.ensures.read before has in
    let meta = (seen before).0 in
    let it = c.in_ok-raise_store.ensures.raised live (is_rising d told owner old mid from to rows found meta (read before) same o older is) in
    (raises d told owner old mid from to rows found meta same o older is new.now it.0, it.1)

pub returns-in_err-raise_store-clause-failed : goal.returns-in_err-raise_store-clause-failed
returns-in_err-raise_store-clause-failed g c live rest o older is =
    let d = g.D.Design.parts in
    let told = c.args.older.now in
    let owner = c.args.owner in
    let old = state g.S.Store c.args.conn.now in
    let mid = state g.S.Store c.look_back.new.conn in
    let new = state g.S.Store c.raise_store.new.conn in
    let from = c.in-Some.ascent.from in
    let to = c.in-Some.ascent.to in
    let rows = c.as_slice.result.now in
    let found : AreFound d told owner old mid from to rows =
    subst (λ s. (o : OlderParts) → IsOlder d o → IsTold told o → Rises d o s from to) c.schema.ensures.value (some_is c.in_ok-ascent.field-0 c.in-Some.ascent (λ it. (o : OlderParts) → IsOlder d o → IsTold told o → Rises d o c.schema.result.now it.from it.to) c.in-Some.is c.in_ok-ascent.ensures.found) in
    let has = sym c.schema.ensures.value ∙ some_is c.in_ok-ascent.field-0 c.in-Some.ascent (λ it. c.schema.result.now ≡ it.from.schema) c.in-Some.is c.in_ok-ascent.ensures.at in
    let seen : HasCleanDisk mid → IsAnOwners told owner from old.now.trees × WereRead d told owner old mid from to c.in-Some-2.rows.items =
    (λ before. matched_some c.in_ok-rows.field-0 c.in-Some-2.rows _ _ c.in-Some-2.is (c.in_ok-rows.ensures.meta before has)) in
    let read : HasCleanDisk mid → WereRead d told owner old mid from to rows =
    (λ before. subst (WereRead d told owner old mid from to) (sym c.as_slice.ensures.value) (seen before).1) in
    let before : HasCleanDisk mid = was_clean mid new _ c.in_err-raise_store.ensures.crash live.0 in
    let same = c.in_ok-rows.ensures.read before has in
    let later = c.in_err-raise_store.ensures.same live (is_rising d told owner old mid from to rows found (seen before).0 (read before) same o older is) (same.0 ∙ rest ∙ sym same.1) in
    for_err c.from_residual-in_err-raise_store.result _ (later.0 ∙ same.0, later.1 ∙ same.1)

pub returns-in_err-raise_store-clause-crash : goal.returns-in_err-raise_store-clause-crash
returns-in_err-raise_store-clause-crash g c =
    let d = g.D.Design.parts in
    let told = c.args.older.now in
    let owner = c.args.owner in
    let old = state g.S.Store c.args.conn.now in
    let mid = state g.S.Store c.look_back.new.conn in
    let new = state g.S.Store c.raise_store.new.conn in
    let from = c.in-Some.ascent.from in
    let to = c.in-Some.ascent.to in
    let rows = c.as_slice.result.now in
    let found : AreFound d told owner old mid from to rows =
    subst (λ s. (o : OlderParts) → IsOlder d o → IsTold told o → Rises d o s from to) c.schema.ensures.value (some_is c.in_ok-ascent.field-0 c.in-Some.ascent (λ it. (o : OlderParts) → IsOlder d o → IsTold told o → Rises d o c.schema.result.now it.from it.to) c.in-Some.is c.in_ok-ascent.ensures.found) in
    let has = sym c.schema.ensures.value ∙ some_is c.in_ok-ascent.field-0 c.in-Some.ascent (λ it. c.schema.result.now ≡ it.from.schema) c.in-Some.is c.in_ok-ascent.ensures.at in
    let seen : HasCleanDisk mid → IsAnOwners told owner from old.now.trees × WereRead d told owner old mid from to c.in-Some-2.rows.items =
    (λ before. matched_some c.in_ok-rows.field-0 c.in-Some-2.rows _ _ c.in-Some-2.is (c.in_ok-rows.ensures.meta before has)) in
    let read : HasCleanDisk mid → WereRead d told owner old mid from to rows =
    (λ before. subst (WereRead d told owner old mid from to) (sym c.as_slice.ensures.value) (seen before).1) in
    raises_survives d told owner old mid from to rows new found (λ before. (seen before).0) read (λ before. c.in_ok-rows.ensures.read before has) has c.in_ok-rows.ensures.crash c.in_err-raise_store.ensures.crash

pub returns-clause-crash : goal.returns-clause-crash
returns-clause-crash g c =
    let d = g.D.Design.parts in
    let told = c.args.older.now in
    let owner = c.args.owner in
    let old = state g.S.Store c.args.conn.now in
    let mid = state g.S.Store c.look_back.new.conn in
    let new = state g.S.Store c.raise_store.new.conn in
    let from = c.in-Some.ascent.from in
    let to = c.in-Some.ascent.to in
    let rows = c.as_slice.result.now in
    let found : AreFound d told owner old mid from to rows =
    subst (λ s. (o : OlderParts) → IsOlder d o → IsTold told o → Rises d o s from to) c.schema.ensures.value (some_is c.in_ok-ascent.field-0 c.in-Some.ascent (λ it. (o : OlderParts) → IsOlder d o → IsTold told o → Rises d o c.schema.result.now it.from it.to) c.in-Some.is c.in_ok-ascent.ensures.found) in
    let has = sym c.schema.ensures.value ∙ some_is c.in_ok-ascent.field-0 c.in-Some.ascent (λ it. c.schema.result.now ≡ it.from.schema) c.in-Some.is c.in_ok-ascent.ensures.at in
    let seen : HasCleanDisk mid → IsAnOwners told owner from old.now.trees × WereRead d told owner old mid from to c.in-Some-2.rows.items =
    (λ before. matched_some c.in_ok-rows.field-0 c.in-Some-2.rows _ _ c.in-Some-2.is (c.in_ok-rows.ensures.meta before has)) in
    let read : HasCleanDisk mid → WereRead d told owner old mid from to rows =
    (λ before. subst (WereRead d told owner old mid from to) (sym c.as_slice.ensures.value) (seen before).1) in
    raises_survives d told owner old mid from to rows new found (λ before. (seen before).0) read (λ before. c.in_ok-rows.ensures.read before has) has c.in_ok-rows.ensures.crash c.in_ok-raise_store.ensures.crash
