use Rattle.std.proofs.Common.{◌∷◌, ◌++◌, [], ℕ, List, ap, ◌∙◌, append_assoc}
use Rattle.crossbeam_queue.specs.Passes.{view}
use Rattle.fare_inbox_queue.specs.declared.arrived.Arrived.{Arrived}
use Rattle.fare_inbox_queue.specs.declared.inbox_rule.View.{View}
use Rattle.fare_inbox_queue.specs.declared.inbox_passes.StationPass.{StationPass}
use Rattle.fare_inbox_queue.specs.InboxPasses.{IsStationOf}
use Rattle.fare_inbox_queue.proofs.Steps.{joins}
use Rattle.fare_inbox_queue.proofs.Ends.{popped}
use Rattle.fare_inbox_queue.proofs.inbox.gather.Goals as goal

pub absorb-requires-clause-rule : goal.absorb-requires-clause-rule
absorb-requires-clause-rule c =
    let out = popped (IsStationOf c.args.inbox.now) c.loop-station.passes.items c.pop.new.self.items c.in-Some.station c.in-Some.ensures.items c.loop-station.invariant.passes in
    joins _ _ _ _ c.loop-station.invariant.takes ((λ i. (view (c.into_pass.ensures i)).puts) ∙ out.1.puts)

pub loop-station-preserved : goal.loop-station-preserved
loop-station-preserved c =
    let out = popped (IsStationOf c.args.inbox.now) c.loop-station.passes.items c.pop.new.self.items c.in-Some.station c.in-Some.ensures.items c.loop-station.invariant.passes in
    let step = c.absorb.ensures.rule in
    let same = c.absorb.ensures.queue in
    let was = c.loop-station.invariant in
    let station = c.in-Some.station in
    let own = c.into_pass.ensures in
    let done = was.ended.0 in
    record {
      queue = (same.0 ∙ was.queue.0, same.2 ∙ was.queue.1);
      takes = ap (λ (v : View). v.takes) step;
      taken = ap (λ (v : View). v.taken) step ∙ was.taken;
      seated = ap (λ (v : View). v.seated) step ∙ was.seated;
      passes = out.0;
      ended = (
        station ∷ done,
        was.ended.1 ∙ (ap (λ (l : List StationPass). l ++ done) c.in-Some.ensures.items ∙ append_assoc c.pop.new.self.items (station ∷ []) done),
        ap (λ (v : View). v.ended) step
            ∙ ap (λ (y : ℕ × List Arrived × List (ℕ × List Arrived)). (y.0, y.1) ∷ y.2) (λ i. (((λ i. (view (own i)).station) ∙ out.1.named) i, (view (own i)).sent, was.ended.2 i)),
      );
    }
