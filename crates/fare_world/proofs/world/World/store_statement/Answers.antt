use Rattle.std.proofs.Common.{None, refl, sym, ap, ◌∙◌, subst}
use Rattle.std.specs.Prelude.{Ok, Err}
use Rattle.fare_store.specs.declared.fault.StatedFault.{StatedFault}
use Rattle.fare_store.specs.declared.fault.StatedFault.TheVariants as stated_fault
use Rattle.fare_store.specs.declared.fault.Refused.{Refused}
use Rattle.fare_store.specs.declared.fault.Refused.TheVariants as refused
use Rattle.fare_store.specs.Standing.{Writes}
use Rattle.fare_store.specs.OutboxWords.{stated_judged, stored_statement}
use Rattle.fare_record.specs.declared.item.Item.TheVariants as item
use Rattle.fare_event.specs.declared.reply.Refusal.TheVariants as refusal
use Rattle.fare_event.specs.declared.reply.Reply.TheVariants as reply
use Rattle.fare_world.specs.Storing.{store}
use Rattle.fare_world.specs.Whole.{seen, shape}
use Rattle.fare_world.proofs.ShowCollect.{StatedSeen, shown_store_statement}
use Rattle.fare_world.proofs.Showing.{Answers}
use Rattle.fare_world.proofs.Stores.{outbox_stepped, outbox_failed}
use Rattle.fare_world.proofs.MayFail.{store_may_fail}
use Rattle.fare_world.proofs.world.World.store_statement.Goals.{in-Duplicate, in-Conflict}
use Rattle.fare_world.proofs.world.World.store_statement.Goals as goal

pub returns-in-Ok : goal.returns-in-Ok
returns-in-Ok g c =
    let w = seen g.O.Outbox.standing g.L.Ledger.standing c.args.self.now in
    let row = c.args.statement in
    let did : Writes (g.O.Outbox.standing c.args.self.now.outbox) (g.O.Outbox.standing c.store_statement.new.self) (stated_judged w.outbox row) (stored_statement row w.outbox) (Ok tt) = c.in-Ok.ensures in
    outbox_stepped g.O.Outbox.standing g.L.Ledger.standing c.args.self.now _ _ _ _ _ refl refl did (λ s is sh.
    subst (λ o. Answers w.scheme (record (shape w) { hand = None; outbox = o }) (store s) (reply.StoredDay c.device.result c.day.result c.owner.result)) (sym is.1) (subst (Answers w.scheme (record (shape w) { hand = None; outbox = stored_statement row w.outbox }) (store s)) (λ i. reply.StoredDay (sym c.device.ensures i) (sym c.day.ensures i) (sym c.owner.ensures i))
    (subst (StatedSeen w.scheme (shape w) s row) is.0 (shown_store_statement w.scheme (shape w) s row sh c.requires))))

pub returns-in-OutboxFull : goal.returns-in-OutboxFull
returns-in-OutboxFull g c =
    let w = seen g.O.Outbox.standing g.L.Ledger.standing c.args.self.now in
    let row = c.args.statement in
    let did : Writes (g.O.Outbox.standing c.args.self.now.outbox) (g.O.Outbox.standing c.store_statement.new.self) (stated_judged w.outbox row) (stored_statement row w.outbox) (Err (refused.Because stated_fault.OutboxFull)) = subst (λ (v : Refused StatedFault). Writes (g.O.Outbox.standing c.args.self.now.outbox) (g.O.Outbox.standing c.store_statement.new.self) (stated_judged w.outbox row) (stored_statement row w.outbox) (Err v)) (c.in-Err-Because.field-0-is ∙ ap refused.Because (sym c.in-Err-Because.why-is ∙ c.in-OutboxFull.is)) c.in-Err-Because.ensures in
    outbox_stepped g.O.Outbox.standing g.L.Ledger.standing c.args.self.now _ _ _ _ _ refl refl did (λ s is sh.
    subst (λ o. Answers w.scheme (record (shape w) { outbox = o }) (store s) (reply.Refused refusal.OutboxFull)) (sym is.1) (subst (StatedSeen w.scheme (shape w) s row) is.0 (shown_store_statement w.scheme (shape w) s row sh c.requires)))

pub returns : goal.returns
returns g c =
    let w = seen g.O.Outbox.standing g.L.Ledger.standing c.args.self.now in
    let row = c.args.statement in
    elim c.match-why.branch [
      | in-Duplicate a ↦
          let did : Writes (g.O.Outbox.standing c.args.self.now.outbox) (g.O.Outbox.standing c.store_statement.new.self) (stated_judged w.outbox row) (stored_statement row w.outbox) (Err (refused.Because stated_fault.Duplicate)) = subst (λ (v : Refused StatedFault). Writes (g.O.Outbox.standing c.args.self.now.outbox) (g.O.Outbox.standing c.store_statement.new.self) (stated_judged w.outbox row) (stored_statement row w.outbox) (Err v)) (c.in-Err-Because.field-0-is ∙ ap refused.Because (sym c.in-Err-Because.why-is ∙ a.in-Duplicate.is)) c.in-Err-Because.ensures in
          outbox_stepped g.O.Outbox.standing g.L.Ledger.standing c.args.self.now _ _ _ _ _ refl refl did (λ s is sh.
          subst (λ o. Answers w.scheme (record (shape w) { hand = None; outbox = o }) (store s) (reply.Refused c.match-why.refusal)) (sym is.1) (subst (Answers w.scheme (record (shape w) { hand = None }) (store s)) (ap reply.Refused (sym a.refusal-is)) (subst (StatedSeen w.scheme (shape w) s row) is.0 (shown_store_statement w.scheme (shape w) s row sh c.requires))))
      | in-Conflict a ↦
          let did : Writes (g.O.Outbox.standing c.args.self.now.outbox) (g.O.Outbox.standing c.store_statement.new.self) (stated_judged w.outbox row) (stored_statement row w.outbox) (Err (refused.Because stated_fault.Conflict)) = subst (λ (v : Refused StatedFault). Writes (g.O.Outbox.standing c.args.self.now.outbox) (g.O.Outbox.standing c.store_statement.new.self) (stated_judged w.outbox row) (stored_statement row w.outbox) (Err v)) (c.in-Err-Because.field-0-is ∙ ap refused.Because (sym c.in-Err-Because.why-is ∙ a.in-Conflict.is)) c.in-Err-Because.ensures in
          outbox_stepped g.O.Outbox.standing g.L.Ledger.standing c.args.self.now _ _ _ _ _ refl refl did (λ s is sh.
          subst (λ o. Answers w.scheme (record (shape w) { hand = None; outbox = o }) (store s) (reply.Refused c.match-why.refusal)) (sym is.1) (subst (Answers w.scheme (record (shape w) { hand = None }) (store s)) (ap reply.Refused (sym a.refusal-is)) (subst (StatedSeen w.scheme (shape w) s row) is.0 (shown_store_statement w.scheme (shape w) s row sh c.requires))))
    ]

pub returns-in-Err-Failed : goal.returns-in-Err-Failed
returns-in-Err-Failed g c =
    let w = seen g.O.Outbox.standing g.L.Ledger.standing c.args.self.now in
    let row = c.args.statement in
    let did = subst (λ (v : Refused StatedFault). Writes (g.O.Outbox.standing c.args.self.now.outbox) (g.O.Outbox.standing c.store_statement.new.self) (stated_judged w.outbox row) (stored_statement row w.outbox) (Err v)) (c.in-Err-Failed.field-0-is ∙ ap refused.Failed (sym c.in-Err-Failed.fault-is)) c.in-Err-Failed.ensures in
    outbox_failed g.O.Outbox.standing g.L.Ledger.standing c.args.self.now _ _ _ _ _ refl refl did (λ is i. record (shape w) { outbox = is i }) (λ s sh. store_may_fail w.scheme (shape w) s (item.Stated row) sh c.requires)
