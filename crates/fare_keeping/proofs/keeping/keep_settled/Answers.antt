use Rattle.std.proofs.Common.{◌≡◌, ◌∙◌, sym, ap, subst}
use Rattle.sqlite.specs.Held.{state}
use Rattle.fare_tables.specs.Asking.{IsLive}
use Rattle.fare_layout.proofs.Creation.{some_is}
use Rattle.fare_lists.specs.Lists.{told}
use Rattle.fare_opening.specs.Beside.{IsPlacedBeside, OpensBeside}
use Rattle.fare_kept.specs.Statements.{kept_parts}
use Rattle.fare_register.specs.Registers.{register_lists, registered}
use Rattle.fare_keeping.specs.Keeping.{AreWideLists}
use Rattle.fare_keeping.proofs.Lists.{register_wide}
use Rattle.fare_keeping.proofs.Opened.{AreOpen, are_open, follows_then, kept_then, lawful_then, leaves_keeping, leaves_opening, left_so, none_left, refused_then, says_then}
use Rattle.fare_keeping.proofs.keeping.keep_settled.Goals as goal

pub returns-in_err-opened-clause-crash : goal.returns-in_err-opened-clause-crash
returns-in_err-opened-clause-crash g c = leaves_opening g.E.Design.parts (state g.S.Store c.args.conn.now) (state g.S.Store c.open_kept.new.conn) c.in_err-opened.ensures.crash

pub returns-in_default-clause-leaves : goal.returns-in_default-clause-leaves
returns-in_default-clause-leaves g c live =
    let settled = c.requires.settled (c.in_ok-opened.ensures.live live).1 in
    (none_left g.E.Design.parts (state g.S.Store c.args.conn.now) (state g.S.Store c.open_kept.new.conn) settled (c.in_ok-opened.ensures.refused live settled c.in_default.is)).0

pub keep_at-requires-clause-wide : goal.keep_at-requires-clause-wide
keep_at-requires-clause-wide g c =
    let given : told c.as_slice.result.now ≡ register_lists (registered c.args.scheme.now c.args.zone.now) = ap told c.as_slice.ensures.value ∙ c.in_ok-given.ensures in
    subst AreWideLists (sym given) (register_wide (registered c.args.scheme.now c.args.zone.now))

pub returns-clause-kept : goal.returns-clause-kept
returns-clause-kept g c live lawful =
    let old = state g.S.Store c.args.conn.now in
    let mid = state g.S.Store c.open_kept.new.conn in
    let new = state g.S.Store c.keep_at.new.conn in
    let site = c.into_site-site.result in
    let up : IsLive mid = c.keep_at.ensures.live live in
    let settled = c.requires.settled (c.in_ok-opened.ensures.live up).1 in
    let placed = some_is c.in_ok-opened.field-0 c.in-Some.opened (IsPlacedBeside kept_parts g.E.Design.parts old.now.schema) c.in-Some.is c.in_ok-opened.ensures.placed in
    let opens = some_is c.in_ok-opened.field-0 c.in-Some.opened (OpensBeside kept_parts 0 old mid) c.in-Some.is (c.in_ok-opened.ensures.opens up) in
    let it = subst (AreOpen g.E.Design.parts old mid) (sym c.into_site-site.ensures) (are_open g.E.Design.parts old mid c.in-Some.opened settled placed opens) in
    kept_then g.E.Design.parts old mid new site it c.keep_at.result c.args.scheme.now c.args.zone.now (told c.as_slice.result.now) (ap told c.as_slice.ensures.value ∙ c.in_ok-given.ensures)
    (c.keep_at.ensures.put live it.rest (lawful_then g.E.Design.parts old mid new site it lawful)) (c.keep_at.ensures.leaves live it.rest)

pub returns-clause-follows : goal.returns-clause-follows
returns-clause-follows g c live lawful =
    let old = state g.S.Store c.args.conn.now in
    let mid = state g.S.Store c.open_kept.new.conn in
    let new = state g.S.Store c.keep_at.new.conn in
    let site = c.into_site-site.result in
    let up : IsLive mid = c.keep_at.ensures.live live in
    let settled = c.requires.settled (c.in_ok-opened.ensures.live up).1 in
    let placed = some_is c.in_ok-opened.field-0 c.in-Some.opened (IsPlacedBeside kept_parts g.E.Design.parts old.now.schema) c.in-Some.is c.in_ok-opened.ensures.placed in
    let opens = some_is c.in_ok-opened.field-0 c.in-Some.opened (OpensBeside kept_parts 0 old mid) c.in-Some.is (c.in_ok-opened.ensures.opens up) in
    let it = subst (AreOpen g.E.Design.parts old mid) (sym c.into_site-site.ensures) (are_open g.E.Design.parts old mid c.in-Some.opened settled placed opens) in
    follows_then g.E.Design.parts old mid new site it c.keep_at.result c.args.scheme.now (c.keep_at.ensures.follows live it.rest (lawful_then g.E.Design.parts old mid new site it lawful))

pub returns-clause-says : goal.returns-clause-says
returns-clause-says g c live lawful =
    let old = state g.S.Store c.args.conn.now in
    let mid = state g.S.Store c.open_kept.new.conn in
    let new = state g.S.Store c.keep_at.new.conn in
    let site = c.into_site-site.result in
    let up : IsLive mid = c.keep_at.ensures.live live in
    let settled = c.requires.settled (c.in_ok-opened.ensures.live up).1 in
    let placed = some_is c.in_ok-opened.field-0 c.in-Some.opened (IsPlacedBeside kept_parts g.E.Design.parts old.now.schema) c.in-Some.is c.in_ok-opened.ensures.placed in
    let opens = some_is c.in_ok-opened.field-0 c.in-Some.opened (OpensBeside kept_parts 0 old mid) c.in-Some.is (c.in_ok-opened.ensures.opens up) in
    let it = subst (AreOpen g.E.Design.parts old mid) (sym c.into_site-site.ensures) (are_open g.E.Design.parts old mid c.in-Some.opened settled placed opens) in
    says_then g.E.Design.parts old mid new site it c.keep_at.result c.args.scheme.now (c.keep_at.ensures.says live it.rest (lawful_then g.E.Design.parts old mid new site it lawful))

pub returns-clause-refused : goal.returns-clause-refused
returns-clause-refused g c live lawful =
    let old = state g.S.Store c.args.conn.now in
    let mid = state g.S.Store c.open_kept.new.conn in
    let new = state g.S.Store c.keep_at.new.conn in
    let site = c.into_site-site.result in
    let up : IsLive mid = c.keep_at.ensures.live live in
    let settled = c.requires.settled (c.in_ok-opened.ensures.live up).1 in
    let placed = some_is c.in_ok-opened.field-0 c.in-Some.opened (IsPlacedBeside kept_parts g.E.Design.parts old.now.schema) c.in-Some.is c.in_ok-opened.ensures.placed in
    let opens = some_is c.in_ok-opened.field-0 c.in-Some.opened (OpensBeside kept_parts 0 old mid) c.in-Some.is (c.in_ok-opened.ensures.opens up) in
    let it = subst (AreOpen g.E.Design.parts old mid) (sym c.into_site-site.ensures) (are_open g.E.Design.parts old mid c.in-Some.opened settled placed opens) in
    refused_then g.E.Design.parts old mid new site it c.keep_at.result c.args.scheme.now (c.keep_at.ensures.says live it.rest (lawful_then g.E.Design.parts old mid new site it lawful)) (c.keep_at.ensures.same live it.rest)

pub returns-clause-leaves : goal.returns-clause-leaves
returns-clause-leaves g c live =
    let old = state g.S.Store c.args.conn.now in
    let mid = state g.S.Store c.open_kept.new.conn in
    let new = state g.S.Store c.keep_at.new.conn in
    let site = c.into_site-site.result in
    let up : IsLive mid = c.keep_at.ensures.live live in
    let settled = c.requires.settled (c.in_ok-opened.ensures.live up).1 in
    let placed = some_is c.in_ok-opened.field-0 c.in-Some.opened (IsPlacedBeside kept_parts g.E.Design.parts old.now.schema) c.in-Some.is c.in_ok-opened.ensures.placed in
    let opens = some_is c.in_ok-opened.field-0 c.in-Some.opened (OpensBeside kept_parts 0 old mid) c.in-Some.is (c.in_ok-opened.ensures.opens up) in
    let it = subst (AreOpen g.E.Design.parts old mid) (sym c.into_site-site.ensures) (are_open g.E.Design.parts old mid c.in-Some.opened settled placed opens) in
    (left_so g.E.Design.parts old mid new site it c.keep_at.result (c.keep_at.ensures.leaves live it.rest) (c.keep_at.ensures.same live it.rest)).0

pub returns-clause-crash : goal.returns-clause-crash
returns-clause-crash g c =
    let old = state g.S.Store c.args.conn.now in
    let mid = state g.S.Store c.open_kept.new.conn in
    let new = state g.S.Store c.keep_at.new.conn in
    let placed = some_is c.in_ok-opened.field-0 c.in-Some.opened (IsPlacedBeside kept_parts g.E.Design.parts old.now.schema) c.in-Some.is c.in_ok-opened.ensures.placed in
    leaves_keeping g.E.Design.parts old mid new c.into_site-site.result (λ clean.
    let up : IsLive mid = (clean, some_is c.in_ok-opened.field-0 c.in-Some.opened _ c.in-Some.is (c.in_ok-opened.ensures.stays clean)) in
    let settled = c.requires.settled (c.in_ok-opened.ensures.live up).1 in
    let opens = some_is c.in_ok-opened.field-0 c.in-Some.opened (OpensBeside kept_parts 0 old mid) c.in-Some.is (c.in_ok-opened.ensures.opens up) in
    subst (AreOpen g.E.Design.parts old mid) (sym c.into_site-site.ensures) (are_open g.E.Design.parts old mid c.in-Some.opened settled placed opens)) c.in_ok-opened.ensures.crash c.keep_at.ensures.crash
