use Rattle.std.proofs.Common.{◌≡◌, nat_eq, cond, Some, None, is_some, sym, ap, ◌∙◌, ◌++◌, ◌∷◌, []}
use Rattle.std.specs.HashMap.{get}
use Rattle.fare_store.specs.TapPlaces.{marks_of}
use Rattle.fare_store.proofs.Tables.{on_err}
use Rattle.fare_store.proofs.Noted.{noted, unnoted}
use Rattle.fare_store.proofs.plain_ledger.taking.note.Goals as goal

pub returns-in_err-push-clause-err : goal.returns-in_err-push-clause-err
returns-in_err-push-clause-err c =
    let found : get nat_eq c.args.days.now c.args.day ≡ Some c.in-Some.marks.now = sym c.in-Some.ensures.value in
    on_err c.from_residual.result (unnoted c.args.day (get nat_eq c.args.days.now) (get nat_eq (c.get_mut.follows.lender c.push.new.self)) c.push.new.self (c.in_err-push.ensures.items ∙ ap marks_of (sym found)) ((c.get_mut.follows.holds c.push.new.self).3 (ap is_some found)).0)

pub returns-in-Some-clause-ok : goal.returns-in-Some-clause-ok
returns-in-Some-clause-ok c =
    let found : get nat_eq c.args.days.now c.args.day ≡ Some c.in-Some.marks.now = sym c.in-Some.ensures.value in
    noted c.args.day c.args.mark (get nat_eq c.args.days.now) (get nat_eq (c.get_mut.follows.lender c.push.new.self)) c.push.new.self (c.in_ok-push.ensures.items ∙ ap (λ o. marks_of o ++ c.args.mark ∷ []) (sym found)) ((c.get_mut.follows.holds c.push.new.self).3 (ap is_some found)).0

pub returns-clause-ok : goal.returns-clause-ok
returns-clause-ok c =
    let none : get nat_eq c.args.days.now c.args.day ≡ None = sym c.in_default.ensures.value in
    let items : c.push-2.new.self.items ≡ marks_of (get nat_eq c.args.days.now c.args.day) ++ c.args.mark ∷ [] = c.in_ok-push-2.ensures.items ∙ ap (λ l. l ++ c.args.mark ∷ []) (c.new-marks.ensures.items ∙ ap marks_of (sym none)) in
    noted c.args.day c.args.mark (get nat_eq c.args.days.now) (get nat_eq c.insert.new.self) c.push-2.new.self items (λ q. c.in_ok-insert.ensures.updates.0 q ∙ ap (λ m. cond (nat_eq c.args.day q) (Some c.push-2.new.self) (get nat_eq m q)) c.get_mut.follows.holds-at-none)
