use Rattle.std.proofs.Common.{◌≡◌, ap, ◌∙◌, length, slice_index_or, arith}
use Rattle.std.proofs.lemmas.Grind.{common_steps}
use Rattle.fare_collect.proofs.Posted.{posting_more}
use Rattle.fare_collect.proofs.opening.post_all.Goals as goal

pub loop-pass-preserved : goal.loop-pass-preserved
loop-pass-preserved g c =
    let inv = c.loop-pass.invariant in
    let all = c.loop-pass.stations in
    let n = c.len-index.result in
    let d = c.index-stations-index.result in
    let at : n ≡ length c.pop.new.self.items = grind (arith, common_steps) in (
      posting_more _ _ _ _ _ _ _ _ c.in-Some.pass c.in-Some-pop.hear n (slice_index_or all n d) inv.0 c.in-Some.ensures.items c.in-Some-pop.ensures.items at (ap (slice_index_or all n) c.index-stations-index.is),
      c.pop.ensures.capacity ∙ inv.1,
      c.pop-in-Some.ensures.capacity ∙ inv.2,
    )

pub loop-pass-preserved-in-Some-pop : goal.loop-pass-preserved-in-Some-pop
loop-pass-preserved-in-Some-pop g c =
    let inv = c.loop-pass.invariant in
    let all = c.loop-pass.stations in
    let n = c.len-index.result in
    let d = c.index-stations-index.result in
    let at : n ≡ length c.pop.new.self.items = grind (arith, common_steps) in (
      posting_more _ _ _ _ _ _ _ _ c.in-Some.pass c.in-Some-pop.hear n (slice_index_or all n d) inv.0 c.in-Some.ensures.items c.in-Some-pop.ensures.items at (ap (slice_index_or all n) c.index-stations-index.is),
      c.pop.ensures.capacity ∙ inv.1,
      c.pop-in-Some.ensures.capacity ∙ inv.2,
    )
