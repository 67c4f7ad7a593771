use Rattle.std.proofs.Common.{◌≡◌, ◌+◌, ◌++◌, ◌∷◌, [], Some, length, sym, ap, ◌∙◌, arith}
use Rattle.std.specs.Prelude.{slice_get}
use Rattle.std.proofs.lemmas.List.{length_push}
use Rattle.std.proofs.lemmas.Map.Entries.{length-keys_of}
use Rattle.fare_scheme.proofs.Slices.{item_at}
use Rattle.fare_scheme.specs.Words.{position_of_owner}
use Rattle.fare_world.specs.Fresh.{IsSideAt}
use Rattle.fare_world.proofs.Starting.{one_side_more}
use Rattle.fare_world.proofs.world.fresh.fresh_sides.Goals as goal

pub loop-owner-preserved : goal.loop-owner-preserved
loop-owner-preserved c =
    let sc = c.args.scheme.now in
    let xs = c.loop-owner.sides.items in
    let i = c.loop-owner.invariant in
    let side = c.in_ok-fresh_side.field-0 in
    let at : position_of_owner sc side.forwarder.owner ≡ Some (length xs) = ap (position_of_owner sc) c.in_ok-fresh_side.ensures.owner ∙ (c.owners-owner-items.ensures.placed c.loop-owner.owner-index c.owner-item.result (item_at c.owners-owner-items.result.now c.loop-owner.owner-index c.owner-item.result c.loop-owner-test.true c.owner-item.is)) ∙ ap Some (sym i.count) in
    let is : IsSideAt sc (length xs) side = record { at = at; fresh = c.in_ok-fresh_side.ensures.fresh } in
    let pushed : c.push.new.self.items ≡ xs ++ side ∷ [] = c.in_ok-push.ensures.items in
    record {
      count = ap length pushed ∙ length_push xs side ∙ ap (λ n. n + 1) i.count;
      each = λ k x e. one_side_more sc xs side i.each is k x (ap (λ l. slice_get l k) (sym pushed) ∙ e);
    }

pub returns : goal.returns
returns c =
    let all : c.loop-owner.owner-index ≡ length c.args.scheme.now.owners = omega (arith, ap length c.owners-owner-items.ensures.value, length-keys_of c.args.scheme.now.owners, c.loop-owner-test.false, c.loop-owner.auto.owner-index-end) in
    record { count = c.loop-owner.invariant.count ∙ all; each = c.loop-owner.invariant.each }
