use Rattle.std.proofs.Common.{rules, ◌≡◌, ◌+◌, ◌-◌, ◌∷◌, Bool, not, drop, take, length, sym, ap, ◌∙◌, arith}
use Rattle.std.proofs.lemmas.List.{drop_more, drop_all, take_all, length-drop}
use Rattle.sqlite.specs.Held.{state}
use Rattle.sqlite.specs.State.{HasCleanDisk}
use Rattle.fare_outbox_rows.specs.Layouts.{ours}
use Rattle.fare_outbox_rows.specs.Held.{held_of}
use Rattle.fare_outbox_rows.specs.Batches.{names, with_tap_if}
use Rattle.fare_outbox_rows.proofs.Batches.{with_taps_by_last, all_by_last}
use Rattle.fare_outbox_rows.proofs.writing.put_rows.Goals as goal

pub loop-place-preserved : goal.loop-place-preserved
loop-place-preserved g c =
    let a = state g.S.Store c.args.tx.now.conn.now in
    let b = state g.S.Store c.loop-place.tx.conn.now in
    let d = state g.S.Store c.put_next.new.tx.conn.now in
    let rows = c.args.rows.now in
    let k = c.loop-place.place in
    let r = c.index-rows-place.result in
    let w = c.args.layout.now in
    let inv = c.loop-place.invariant in
    let h = held_of (ours w b.now.trees) in
    let rest = drop (k + 1) rows in
    let long = length-drop (k + 1) rows in
    let whole : take (length rows - (k + 1)) rest ≡ rest = take_all (length rows - (k + 1)) rest (omega (arith, long)) in
    let last : not c.names-last.result ≡ not (names r.device rest) = ap not (c.names-last.ensures ∙ (λ i. names (c.device.ensures i) (whole i))) in
    let at : drop k rows ≡ r ∷ rest = drop_more rows k r (omega arith) ∙ ap (λ x. x ∷ rest) (sym c.index-rows-place.is) in
    record {
      same_reference = c.put_next.ensures.same_reference ∙ inv.same_reference;
      puts = λ late inside schema readable.
          let now = late in
          let clean : HasCleanDisk b = omega (arith, now, c.put_next.ensures.survives.clean) in
          let before = inv.puts clean inside schema readable in
          let one = c.in_ok-put_next.ensures.puts late before.1 before.0.schema before.0.readable in (
            record {
              schema = one.0.schema;
              database = λ lt. one.0.database;
              readable = one.0.readable;
              value = ap (with_taps_by_last rest) (one.0.value ∙ ap (λ (l : Bool). with_tap_if l r h) last) ∙ (sym (ap (λ l. with_taps_by_last l h) at) ∙ before.0.value);
            },
            one.1,
          );
      inside = λ late up.
          let now = late in
          let clean : HasCleanDisk b = omega (arith, now, c.put_next.ensures.survives.clean) in
          let one = c.put_next.ensures.inside late up in
          let before = inv.inside clean one.0 in
          (before.0, one.1 ∙ before.1);
      survives = search rules;
    }

pub returns-clause-puts : goal.returns-clause-puts
returns-clause-puts g c late inside schema readable =
    let rows = c.args.rows.now in
    let h = held_of (ours c.args.layout.now (state g.S.Store c.args.tx.now.conn.now).now.trees) in
    let past = c.loop-place-test.false in
    let within = c.loop-place.auto.place-end in
    let some = c.requires in
    let it = c.loop-place.invariant.puts late inside schema readable in
    let all : c.loop-place.place ≡ length rows = omega (arith, past, within) in (
      record {
        schema = it.0.schema;
        database = it.0.database (omega (arith, all, some));
        readable = it.0.readable;
        value = ap (λ l. with_taps_by_last l (held_of (ours c.args.layout.now (state g.S.Store c.loop-place.tx.conn.now).now.trees))) (sym (drop_all c.loop-place.place rows (omega (arith, all)))) ∙ it.0.value ∙ all_by_last rows h;
      },
      it.1,
    )
