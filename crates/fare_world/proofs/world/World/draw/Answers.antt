use Rattle.std.proofs.Common.{drop, ap}
use Rattle.fare_record.specs.declared.item.Item.{Item}
use Rattle.circular_buffer.specs.Buffer.{Buffer}
use Rattle.fare_world.proofs.Lists.{none_left, front_and_rest}
use Rattle.fare_world.proofs.ShowCollect.{shown_hand_full}
use Rattle.fare_world.proofs.Showing.{some_of}
use Rattle.std.proofs.Common.{◌≡◌, [], None, Some, refl, sym, ◌∙◌, subst}
use Rattle.fare_event.specs.declared.reply.Reply.TheVariants.{Empty}
use Rattle.fare_world.specs.Storing.{draw}
use Rattle.fare_world.proofs.ShowCollect.{shown_empty, shown_draw}
use Rattle.fare_world.proofs.Showing.{Answers, none_of}
use Rattle.fare_world.proofs.Stores.{steps, same_stores}
use Rattle.fare_world.specs.Whole.{seen, shape}
use Rattle.fare_world.proofs.world.World.draw.Goals as goal

pub returns-in_default : goal.returns-in_default
returns-in_default g c =
    let w = seen g.O.Outbox.standing g.L.Ledger.standing c.args.self.now in
    let hand : w.hand ≡ None = none_of w.hand (sym c.is_some.ensures ∙ c.if-is_some.false) in
    let empty : w.inbox ≡ [] = none_left w.inbox (sym c.pop_front.ensures.value ∙ c.in_default.is) in
    let rest : c.pop_front.new.self.items ≡ [] = ap (λ (b : Buffer Item). b.items) c.pop_front.ensures.items ∙ ap (drop 1) empty in
    steps g.O.Outbox.standing g.L.Ledger.standing c.args.self.now _ _ _ refl (same_stores _ _ refl refl) (λ s sh. subst (λ l. Answers w.scheme (record (shape w) { inbox = l }) (draw s) Empty) (empty ∙ sym rest) (shown_empty w.scheme (shape w) s sh hand empty))

pub returns : goal.returns
returns g c =
    let w = seen g.O.Outbox.standing g.L.Ledger.standing c.args.self.now in
    let item = c.in-Some.item in
    let hand : w.hand ≡ None = none_of w.hand (sym c.is_some.ensures ∙ c.if-is_some.false) in
    steps g.O.Outbox.standing g.L.Ledger.standing c.args.self.now _ _ _ refl (same_stores _ _ refl refl) (λ s sh. subst (Answers w.scheme (record (shape w) { inbox = c.pop_front.new.self.items; hand = Some item }) (draw s)) (sym c.drawn.ensures)
    (shown_draw w.scheme (shape w) s item c.pop_front.new.self.items sh hand (front_and_rest w.inbox c.pop_front.new.self.items item (sym c.pop_front.ensures.value ∙ c.in-Some.is) (ap (λ (b : Buffer Item). b.items) c.pop_front.ensures.items))))

pub returns-then-is_some : goal.returns-then-is_some
returns-then-is_some g c =
    let w = seen g.O.Outbox.standing g.L.Ledger.standing c.args.self.now in
    let held = some_of w.hand (sym c.is_some.ensures ∙ c.if-is_some.true) in
    steps g.O.Outbox.standing g.L.Ledger.standing c.args.self.now _ _ _ refl (same_stores _ _ refl refl) (λ s sh. shown_hand_full w.scheme (shape w) s held.0 sh held.1)
