use Rattle.std.proofs.Common.{◌≡◌, sym, subst}
use Rattle.fare_layout.specs.Growing.{CanMakeAll, GrowsBy, GoOn, HasNone}
use Rattle.fare_layout.specs.Places.{all_of}
use Rattle.fare_opening.specs.Parts.{Parts, IsDesign, parts_of}
use Rattle.fare_opening.specs.Sites.{IsSite}
use Rattle.fare_opening.proofs.Risen.{rises_again, rises_alike}
use Rattle.fare_layout.proofs.Creation.{some_is}
use Rattle.fare_opening.proofs.Standing.{not_true}
use Rattle.fare_opening.proofs.ascent.ascent_in.Goals as goal

pub returns-in_default-clause-lacks : goal.returns-in_default-clause-lacks
returns-in_default-clause-lacks g c none o older told v w rises = c.in_ok-from.ensures.lacks c.in_default.is (parts_of o) older.design told.tables told.texts v rises.from rises.has

pub returns-in_default-2-clause-lacks : goal.returns-in_default-2-clause-lacks
returns-in_default-2-clause-lacks g c none o older told v w rises =
    let d = g.D.Design.parts in
    let schema = c.args.schema.now in
    let can = subst (CanMakeAll schema) (sym told.missing) (rises_again d o schema v w c.sound.ensures.design older rises) in
    c.in_ok-to.ensures.lacks c.in_default-2.is can w rises.site (subst (λ t. GrowsBy schema t w.schema) (sym told.missing) rises.grows)

pub returns-then-go_on-clause-found : goal.returns-then-go_on-clause-found
returns-then-go_on-clause-found g c o older told =
    let d = g.D.Design.parts in
    let schema = c.args.schema.now in
    let a = some_is c.in_ok-from.field-0 c.in-Some.from (λ site. (p : Parts) → IsDesign p → _ ≡ p.tables → _ ≡ p.texts → IsSite p site × (schema ≡ site.schema)) c.in-Some.is c.in_ok-from.ensures.found (parts_of o) older.design told.tables told.texts in
    let b = some_is c.in_ok-to.field-0 c.in-Some-2.to (λ w. IsSite d w × GrowsBy schema _ w.schema) c.in-Some-2.is c.in_ok-to.ensures.found in
    let free : HasNone o.missing schema = subst (λ t. HasNone t schema) told.missing (c.has_none.ensures.0 search) in
    let goes = subst (λ x. GoOn schema x (all_of c.in-Some-2.to.places)) c.as_slice.ensures (subst (GoOn schema c.as_slice.result.now) c.as_slice-2.ensures (c.go_on.ensures.0 c.if-go_on.true)) in
    record { from = a.0; has = a.1; free = free; site = b.0; grows = subst (λ t. GrowsBy schema t c.in-Some-2.to.schema) told.missing b.1; places = goes }

pub returns-else-go_on-clause-lacks : goal.returns-else-go_on-clause-lacks
returns-else-go_on-clause-lacks g c none o older told v w rises =
    let d = g.D.Design.parts in
    let schema = c.args.schema.now in
    let a = some_is c.in_ok-from.field-0 c.in-Some.from (λ site. (p : Parts) → IsDesign p → _ ≡ p.tables → _ ≡ p.texts → IsSite p site × (schema ≡ site.schema)) c.in-Some.is c.in_ok-from.ensures.found (parts_of o) older.design told.tables told.texts in
    let b = some_is c.in_ok-to.field-0 c.in-Some-2.to (λ w. IsSite d w × GrowsBy schema _ w.schema) c.in-Some-2.is c.in_ok-to.ensures.found in
    let goes = rises_alike d o schema v w c.in-Some.from c.in-Some-2.to rises a.0 a.1 b.0 (subst (λ t. GrowsBy schema t c.in-Some-2.to.schema) told.missing b.1) in
    let there : GoOn schema c.as_slice.result.now c.as_slice-2.result.now = subst (λ x. GoOn schema x c.as_slice-2.result.now) (sym c.as_slice.ensures) (subst (GoOn schema (all_of c.in-Some.from.places)) (sym c.as_slice-2.ensures) goes) in
    not_true c.go_on.result c.if-go_on.false (c.go_on.ensures.1 there)
