use Rattle.std.proofs.Common.{refl, sym, subst, IsTrue}
use Rattle.fare_layout.specs.Growing.{CanMakeAll, GrowsBy, AreLast}
use Rattle.fare_opening.specs.Sites.{IsSite}
use Rattle.fare_layout.proofs.Creation.{some_is}
use Rattle.fare_opening.proofs.Standing.{not_true}
use Rattle.fare_opening.proofs.Vacant.{can_make_again, last_alike, blank_last, home_of}
use Rattle.fare_opening.proofs.looking.site_after.Goals as goal

pub returns-in_default-clause-lacks : goal.returns-in_default-clause-lacks
returns-in_default-clause-lacks g c none blank =
    let d = g.D.Design.parts in
    let design = c.sound.ensures.design in
    let schema = c.args.schema.now in
    let can = subst (CanMakeAll schema) (sym c.tables.ensures) (subst (λ s. CanMakeAll s d.tables) (sym blank) design.can) in
    let grows = subst (λ t. GrowsBy schema t d.own) (sym c.tables.ensures) (subst (λ s. GrowsBy s d.tables d.own) (sym blank) design.grows) in
    c.in_ok-site.ensures.lacks c.in_default.is can (home_of d design) design.at_home grows

pub returns-in_default-clause-vacant : goal.returns-in_default-clause-vacant
returns-in_default-clause-vacant g c none may =
    let d = g.D.Design.parts in
    let schema = c.args.schema.now in
    let can = subst (CanMakeAll schema) (sym c.tables.ensures) (can_make_again d may.site schema c.sound.ensures.design may.makes) in
    c.in_ok-site.ensures.lacks c.in_default.is can may.site may.makes.site (subst (λ t. GrowsBy schema t may.site.schema) (sym c.tables.ensures) may.makes.grows)

pub returns-else-are_last-clause-lacks : goal.returns-else-are_last-clause-lacks
returns-else-are_last-clause-lacks g c none blank =
    let d = g.D.Design.parts in
    let schema = c.args.schema.now in
    let it = some_is c.in_ok-site.field-0 c.in-Some.site (λ w. IsSite d w × GrowsBy schema _ w.schema) c.in-Some.is c.in_ok-site.ensures.found in
    let grows = subst (λ t. GrowsBy schema t c.in-Some.site.schema) c.tables.ensures it.1 in
    let last : IsTrue c.are_last.result = c.are_last.ensures.1 (subst (AreLast schema) (sym c.as_slice.ensures) (blank_last d c.in-Some.site schema c.in-Some.site.schema c.sound.ensures.design it.0 blank grows refl)) in
    not_true c.are_last.result c.if-are_last.false last

pub returns-else-are_last-clause-vacant : goal.returns-else-are_last-clause-vacant
returns-else-are_last-clause-vacant g c none may =
    let d = g.D.Design.parts in
    let schema = c.args.schema.now in
    let it = some_is c.in_ok-site.field-0 c.in-Some.site (λ w. IsSite d w × GrowsBy schema _ w.schema) c.in-Some.is c.in_ok-site.ensures.found in
    let grows = subst (λ t. GrowsBy schema t c.in-Some.site.schema) c.tables.ensures it.1 in
    let last : IsTrue c.are_last.result = c.are_last.ensures.1 (subst (AreLast schema) (sym c.as_slice.ensures) (last_alike d c.in-Some.site may.site schema c.in-Some.site.schema it.0 may.makes grows refl)) in
    not_true c.are_last.result c.if-are_last.false last
