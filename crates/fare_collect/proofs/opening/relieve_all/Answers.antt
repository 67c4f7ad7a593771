use Rattle.std.proofs.Common.{◌+◌, List, ap, sym, subst, ◌∙◌, arith, set, slice_index_or}
use Rattle.fare_inbox_queue.specs.declared.ack_passes.HearPass.{HearPass}
use Rattle.fare_inbox_queue.specs.declared.inbox_passes.StationPass.{StationPass}
use Rattle.fare_collect.specs.Opening.{AreRelieving}
use Rattle.fare_collect.proofs.Posted.{relieving_more}
use Rattle.fare_collect.proofs.opening.relieve_all.Goals as goal

pub relieve-pass-requires : goal.relieve-pass-requires
relieve-pass-requires g c =
    let inv = c.loop-station.invariant in
    let k = c.loop-station.station-index in
    let d = c.station-item.result in
    let w = c.requires.posts.each k d (let l = inv.0.len in omega (arith, l)) in
    (w.0, ap (λ t. t.post) (inv.0.todo k d (omega arith)) ∙ w.1)

pub loop-station-preserved : goal.loop-station-preserved
loop-station-preserved g c =
    let inv = c.loop-station.invariant in
    let k = c.loop-station.station-index in
    let all = c.loop-station.stations in
    let x = slice_index_or all k c.station-item.result in
    let P : List StationPass × List HearPass → Type 0 = λ y. AreRelieving (k + 1) c.args.stations.now y.0 y.1 (set all k c.relieve-pass.new.station) in (
      subst P (λ i. (sym c.push_reserved.ensures.items i, sym c.push_reserved-in-loop-station.ensures.items i))
          (relieving_more k c.args.stations.now all c.loop-station.passes.items c.loop-station.hears.items c.relieve-pass.result.0 c.relieve-pass.result.1 x c.relieve-pass.new.station inv.0
          (let l = inv.0.len in omega (arith, l)) (ap (slice_index_or all k) c.station-item.is) c.relieve-pass.ensures),
      c.push_reserved.ensures.capacity ∙ inv.1,
      c.push_reserved-in-loop-station.ensures.capacity ∙ inv.2,
    )
