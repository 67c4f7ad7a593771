use Rattle.std.proofs.Common.{rules, ◌≡◌, ℕ, ◌+◌, ◌∷◌, [], ◌++◌, take, length, sym, ap, ◌∙◌, arith}
use Rattle.std.proofs.lemmas.List.{take_more}
use Rattle.std.proofs.Math.Seq.{take-length}
use Rattle.sqlite.specs.Held.{state}
use Rattle.sqlite.specs.State.{HasCleanDisk}
use Rattle.fare_outbox_rows.specs.Layouts.{ours}
use Rattle.fare_outbox_rows.specs.Held.{Held, held_of, without_lane, without_lanes}
use Rattle.fare_outbox.proofs.PrunedLanes.{without_lanes-push, fewer_left}
use Rattle.fare_outbox.proofs.pruning.cut_lanes.Goals as goal

pub loop-lane-preserved : goal.loop-lane-preserved
loop-lane-preserved g c =
    let a = state g.S.Store c.args.tx.now.conn.now in
    let b = state g.S.Store c.loop-lane.tx.conn.now in
    let lanes = c.args.lanes.now in
    let k = c.loop-lane.lane-index in
    let r = c.lane-item.result in
    let w = c.args.layout.now in
    let o = c.args.owner in
    let inv = c.loop-lane.invariant in
    let h = held_of (ours w a.now.trees) in
    let last = c.within.result in
    let before_it = without_lanes o (take k lanes) h in
    let at = take_more lanes k r (omega arith) ∙ ap (λ x. take k lanes ++ x ∷ []) (sym c.lane-item.is) in
    let more : without_lane o r.0 last before_it ≡ without_lanes o (take (k + 1) lanes) h = ap (λ m. without_lane o r.0 m before_it) c.within.ensures.value ∙ sym (ap (λ l. without_lanes o l h) at ∙ without_lanes-push o (take k lanes) r h) in
    record {
      same_reference = c.cut_rows.ensures.same_reference ∙ inv.same_reference;
      puts = λ late inside schema readable.
          let now = late in
          let clean : HasCleanDisk b = omega (arith, now, c.cut_rows.ensures.survives.clean) in
          let before = inv.puts clean inside schema readable in
          let one = c.in_ok-gone.ensures.puts late before.1 before.0.schema before.0.readable in (
            record {
              schema = one.0.schema;
              database = λ lt. one.0.database;
              readable = one.0.readable;
              value = one.0.value ∙ ap (without_lane o r.0 last) before.0.value ∙ more;
            },
            one.1,
          );
      inside = λ late up.
          let now = late in
          let clean : HasCleanDisk b = omega (arith, now, c.cut_rows.ensures.survives.clean) in
          let one = c.cut_rows.ensures.inside late up in
          let before = inv.inside clean one.0 in
          (before.0, one.1 ∙ before.1);
      survives = search rules;
      left = λ late inside schema readable rows.
          let now = late in
          let clean : HasCleanDisk b = omega (arith, now, c.cut_rows.ensures.survives.clean) in
          let before = inv.puts clean inside schema readable in
          let count = c.in_ok-gone.ensures.count late before.1 before.0.schema before.0.readable in
          let size : Held → ℕ = λ x. length x.taps in
          c.saturating_sub-left.ensures ∙ (fewer_left o r.0 last (held_of (ours w b.now.trees)) c.loop-lane.left c.in_ok-gone.gone (inv.left clean inside schema readable rows ∙ sym (ap size before.0.value)) count ∙ ap size (ap (without_lane o r.0 last) before.0.value ∙ more));
    }

pub returns-clause-puts : goal.returns-clause-puts
returns-clause-puts g c late inside schema readable =
    let lanes = c.args.lanes.now in
    let o = c.args.owner in
    let h = held_of (ours c.args.layout.now (state g.S.Store c.args.tx.now.conn.now).now.trees) in
    let past = c.loop-lane-test.false in
    let within = c.loop-lane.auto.lane-index-end in
    let some = c.requires in
    let it = c.loop-lane.invariant.puts late inside schema readable in
    let all : c.loop-lane.lane-index ≡ length lanes = omega (arith, past, within) in (
      record {
        schema = it.0.schema;
        database = it.0.database (omega (arith, all, some));
        readable = it.0.readable;
        value = it.0.value ∙ ap (λ l. without_lanes o l h) (ap (λ n. take n lanes) all ∙ take-length lanes);
      },
      it.1,
    )

pub returns-clause-left : goal.returns-clause-left
returns-clause-left g c late inside schema readable rows =
    let lanes = c.args.lanes.now in
    let past = c.loop-lane-test.false in
    let within = c.loop-lane.auto.lane-index-end in
    let all : c.loop-lane.lane-index ≡ length lanes = omega (arith, past, within) in
    c.loop-lane.invariant.left late inside schema readable rows ∙ ap (λ l. length (without_lanes c.args.owner l (held_of (ours c.args.layout.now (state g.S.Store c.args.tx.now.conn.now).now.trees))).taps) (ap (λ n. take n lanes) all ∙ take-length lanes)
