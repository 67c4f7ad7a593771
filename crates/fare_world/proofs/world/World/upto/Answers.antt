use Rattle.std.proofs.Common.{◌≡◌, true, false, refl, sym, ap, ◌∙◌, subst}
use Rattle.std.specs.Prelude.{Ok, Err, is_some}
use Rattle.fare_scheme.specs.Words.{position_of_device}
use Rattle.fare_store.specs.Standing.{Reads}
use Rattle.fare_event.specs.declared.reply.Reply.TheVariants as reply
use Rattle.fare_world.specs.Whole.{seen, shape}
use Rattle.fare_world.proofs.Showing.{Answers}
use Rattle.fare_world.proofs.ShowAsk.{shown_upto, shown_upto_unknown}
use Rattle.fare_world.proofs.Stores.{steps, same_stores, outbox_stepped, outbox_failed, applied_err}
use Rattle.fare_world.specs.Steps as step
use Rattle.fare_world.proofs.world.World.upto.Goals as goal

pub returns-then-is_none : goal.returns-then-is_none
returns-then-is_none g c =
    let w = seen g.O.Outbox.standing g.L.Ledger.standing c.args.self.now in
    let none : is_some (position_of_device w.scheme c.args.device) ≡ false = ap is_some (sym c.device_position.ensures.value) ∙ c.if-is_none.ensures in
    steps g.O.Outbox.standing g.L.Ledger.standing c.args.self.now _ _ _ refl (same_stores _ _ refl refl) (λ s sh. shown_upto_unknown w.scheme (shape w) s c.args.device sh none)

pub returns-in_err-upto : goal.returns-in_err-upto
returns-in_err-upto g c =
    let w = seen g.O.Outbox.standing g.L.Ledger.standing c.args.self.now in
    let did : Reads (g.O.Outbox.standing c.args.self.now.outbox) (g.O.Outbox.standing c.upto.new.self) (λ u. u ≡ w.outbox.upto c.args.device) (Err c.in_err-upto.field-0.0) = c.in_err-upto.ensures.read in
    applied_err g.O.Outbox.standing g.L.Ledger.standing c.args.self.now _ _ c.from_residual.result _ c.from_residual.ensures.1 (outbox_failed g.O.Outbox.standing g.L.Ledger.standing c.args.self.now _ _ _ _ _ refl refl did (λ is i. record (shape w) { outbox = is.0 i }) (λ s sh. ap is_some (sym c.device_position.ensures.value) ∙ c.if-is_none.ensures))

pub returns : goal.returns
returns g c =
    let w = seen g.O.Outbox.standing g.L.Ledger.standing c.args.self.now in
    let known : is_some (position_of_device w.scheme c.args.device) ≡ true = ap is_some (sym c.device_position.ensures.value) ∙ c.if-is_none.ensures in
    let did : Reads (g.O.Outbox.standing c.args.self.now.outbox) (g.O.Outbox.standing c.upto.new.self) (λ u. u ≡ w.outbox.upto c.args.device) (Ok c.in_ok-upto.upto) = c.in_ok-upto.ensures.read in
    outbox_stepped g.O.Outbox.standing g.L.Ledger.standing c.args.self.now _ _ _ _ _ refl refl did (λ s is sh.
    subst (λ o. Answers w.scheme (record (shape w) { outbox = o }) (step.upto w.scheme s c.args.device) (reply.Upto c.in_ok-upto.upto)) (sym is.0)
    (shown_upto w.scheme (shape w) s c.args.device c.in_ok-upto.upto sh known is.1))
