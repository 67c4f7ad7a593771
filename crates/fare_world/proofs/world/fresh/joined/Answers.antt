use Rattle.std.proofs.Common.{◌≡◌, ◌++◌, ◌∷◌, [], ◌<◌, None, Some, List, length, refl, sym, ap, ◌∙◌, arith, inl, inr}
use Rattle.std.specs.Prelude.{◌⊎◌}
use Rattle.std.specs.Vec.{vec_len}
use Rattle.std.specs.Vec.Iter.{into_iter_items, into_iter_len}
use Rattle.std.specs.Prelude.{slice_get, map}
use Rattle.std.proofs.lemmas.Grind.{common_steps}
use Rattle.fare_side.specs.declared.owner.Owner.{Owner}
use Rattle.fare_world.specs.Fresh.{side_of}
use Rattle.fare_world.proofs.Starting.{one_joined, no_hand_more, left_less, both_ended, room_left, ok_or_err}
use Rattle.fare_world.proofs.world.fresh.joined.Goals as goal

pub loop-side-init : goal.loop-side-init
loop-side-init g c =
    let gives = c.into_iter-side-iterator.ensures.into_iter_gives in
    let first = c.zip-side-items.ensures.first in
    let second = c.zip-side-items.ensures.second in
    let none = c.requires.none in
    let a : into_iter_items c.into_iter-side-iterator.result.a ≡ c.args.sides.items = ap (λ z. into_iter_items z.a) gives ∙ ap into_iter_items first ∙ c.into_iter.ensures.rest in
    let b : into_iter_items c.into_iter-side-iterator.result.b ≡ c.args.ledgers.items = ap (λ z. into_iter_items z.b) gives ∙ second.0 in
    let long_a : vec_len c.args.sides ≡ length c.args.sides.items = grind (arith, common_steps) in
    let long_b : vec_len c.args.ledgers ≡ length c.args.ledgers.items = grind (arith, common_steps) in
    record {
      sides_are = ap (λ (l : List (Owner g.row.L.Denot)). map side_of l ++ into_iter_items c.into_iter-side-iterator.result.a) none ∙ a;
      ledgers_are = ap (λ (l : List (Owner g.row.L.Denot)). map (λ x. x.ledger) l ++ into_iter_items c.into_iter-side-iterator.result.b) none ∙ b;
      sides_left = ap (λ z. into_iter_len z.a) gives ∙ ap into_iter_len first ∙ c.into_iter.ensures.len ∙ long_a ∙ ap length (sym a);
      ledgers_left = ap (λ z. into_iter_len z.b) gives ∙ second.1 ∙ long_b ∙ ap length (sym b);
      hands = λ k x e. let no : slice_get {X = Owner g.row.L.Denot} [] k ≡ Some x = ap (λ (l : List (Owner g.row.L.Denot)). slice_get l k) (sym none) ∙ e in absurd (cc);
      room = c.requires.room;
    }

pub loop-side-preserved : goal.loop-side-preserved
loop-side-preserved g c =
    let i = c.loop-side.invariant in
    let steps = c.in-Some.ensures.steps in
    let xs = c.loop-side.owners.items in
    let owner : Owner g.row.L.Denot = record { ledger = c.in-Some.ledger; queue = c.in-Some.side.queue; hand = None; forwarder = c.in-Some.side.forwarder; standings = c.in-Some.side.standings } in
    let pushed : c.push.new.self.items ≡ xs ++ owner ∷ [] = grind (arith, common_steps) in
    let before = c.loop-side.side-iterator in
    let after = c.next.new.self in
    record {
      sides_are = one_joined side_of xs owner c.push.new.self.items (into_iter_items before.a) (into_iter_items after.a) c.args.sides.items i.sides_are steps.0.0 pushed;
      ledgers_are = one_joined (λ (x : Owner g.row.L.Denot). x.ledger) xs owner c.push.new.self.items (into_iter_items before.b) (into_iter_items after.b) c.args.ledgers.items i.ledgers_are steps.1.0 pushed;
      sides_left = left_less (into_iter_items before.a) (into_iter_items after.a) c.in-Some.side (into_iter_len before.a) (into_iter_len after.a) steps.0.0 steps.0.1 i.sides_left;
      ledgers_left = left_less (into_iter_items before.b) (into_iter_items after.b) c.in-Some.ledger (into_iter_len before.b) (into_iter_len after.b) steps.1.0 steps.1.1 i.ledgers_left;
      hands = λ k y e. no_hand_more xs owner i.hands refl k y (ap (λ l. slice_get l k) (sym pushed) ∙ e);
      room = omega (arith, i.room, c.push.ensures.capacity);
    }

pub unreachable-requires : goal.unreachable-requires
unreachable-requires g c =
    let i = c.loop-side.invariant in
    let xs = c.loop-side.owners.items in
    let few : length xs < length c.args.ledgers.items = room_left (λ (x : Owner g.row.L.Denot). x.ledger) xs (into_iter_items c.loop-side.side-iterator.b) (into_iter_items c.next.new.self.b) c.args.ledgers.items c.in-Some.ledger i.ledgers_are c.in-Some.ensures.steps.1.0 in
    let long : vec_len c.loop-side.owners ≡ length xs = grind (arith, common_steps) in
    ok_or_err c.push.result (c.push.ensures.succeeds (omega (arith, few, long, i.room))) (sym c.is_err.ensures.value ∙ c.if-is_err.true)

pub returns : goal.returns
returns g c =
    let i = c.loop-side.invariant in
    let xs = c.loop-side.owners.items in
    let left = c.loop-side.side-iterator in
    let none : (length (into_iter_items left.a) ≡ 0) ⊎ (length (into_iter_items left.b) ≡ 0) = elim c.in-None.ensures.steps [ inl h ↦ inl (sym i.sides_left ∙ h.1.0) | inr h ↦ inr (sym i.ledgers_left ∙ h.1.0) ] in
    let ended = both_ended side_of (λ (x : Owner g.row.L.Denot). x.ledger) xs (into_iter_items left.a) c.args.sides.items (into_iter_items left.b) c.args.ledgers.items i.sides_are i.ledgers_are c.requires.count none in
    record { sides_are = ended.0; ledgers_are = ended.1; hands = i.hands }
