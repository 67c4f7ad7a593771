use Rattle.std.proofs.Common.{◌≤◌, ◌++◌, ap, sym, subst, ◌∙◌, arith}
use Rattle.std.proofs.lemmas.List.Elements.{filter-append}
use Rattle.std.specs.Prelude.{Result, All}
use Rattle.std.specs.Result.{result_err}
use Rattle.fare_inbox_queue.specs.Inbox.{of_station}
use Rattle.fare_inbox_queue.specs.declared.inbox.Inbox.{Inbox}
use Rattle.fare_inbox_queue.specs.InboxPasses.{taken_list, stations_of, left_of, capacity_of, IsStationOf}
use Rattle.fare_inbox_queue.proofs.Ends.{left_parts}
use Rattle.fare_writer.specs.declared.halt.Halt.{Halt}
use Rattle.fare_writer.specs.Handling.{HasWritten}
use Rattle.fare_writer.proofs.Written.{written_then}
use Rattle.fare_collect.proofs.Served.{gathered_all, gathered_more, passes_back, parts_are, both_nil, unnamed}
use Rattle.fare_collect.proofs.serving.serve.Goals as goal

pub finish-ended-requires-clause-passes : goal.finish-ended-requires-clause-passes
finish-ended-requires-clause-passes g c =
    let s = c.serve_stations-wrote in
    subst (λ (i : Inbox). All (IsStationOf i) s.new.intake.passes.items) (sym s.ensures.same) ((passes_back c.args.floor.now.scheme.now g.S.Source.talk c.args.intake.inbox c.args.lines.now c.args.tellers.now c.args.intake.passes.items s.new.intake.passes.items c.args.hears.now.items s.new.hears.items c.args.stations.now s.new.stations c.requires.passes c.requires.lines c.requires.some s.ensures.served).0)

pub finish-ended-requires-clause-all : goal.finish-ended-requires-clause-all
finish-ended-requires-clause-all g c =
    let s = c.serve_stations-wrote in
    (passes_back c.args.floor.now.scheme.now g.S.Source.talk c.args.intake.inbox c.args.lines.now c.args.tellers.now c.args.intake.passes.items s.new.intake.passes.items c.args.hears.now.items s.new.hears.items c.args.stations.now s.new.stations c.requires.passes c.requires.lines c.requires.some s.ensures.served).1
    ∙ (c.requires.all ∙ sym s.ensures.queue.1)

pub returns-in-Err-clause-gathered : goal.returns-in-Err-clause-gathered
returns-in-Err-clause-gathered g c =
    let s = c.serve_stations-wrote in
    let a = g.O.Outbox.standing c.args.outbox.now in
    let b = g.O.Outbox.standing s.new.outbox in
    let taken = taken_list s.new.intake.writer in
    let f = c.finish-ended in
    let inbox = f.ensures.left in
    record {
      all = taken;
      inbox = inbox.0;
      few = let n = subst (λ (i : Inbox). f.result.left ≤ capacity_of i) s.ensures.same f.ensures.few in let l = inbox.1 in omega (arith, n, l);
      count = sym inbox.1;
      others = λ station none.
          let both = f.ensures.others station (unnamed c.args.floor.now.scheme.now g.S.Source.talk c.args.intake.inbox c.args.lines.now c.args.tellers.now c.args.intake.passes.items s.new.intake.passes.items c.args.hears.now.items s.new.hears.items c.args.stations.now s.new.stations (stations_of s.new.intake.writer) station c.requires.passes c.requires.lines c.requires.some s.ensures.served (c.requires.all ∙ sym s.ensures.queue.1) none) in
          (both.0, inbox.2 station ∙ both.1);
      len = s.ensures.served.len;
      written = subst (λ (h : Result (Unit {0}) Halt). HasWritten c.args.floor.now.scheme.now a b taken c.args.tellers.now s.new.tellers c.args.tally.now s.new.tally (result_err h)) c.in-Err.is s.ensures.written;
      each = gathered_all c.args.floor.now.scheme.now g.S.Source.talk c.args.intake.inbox c.args.lines.now c.args.tellers.now c.args.intake.passes.items s.new.intake.passes.items c.args.hears.now.items s.new.hears.items c.args.stations.now s.new.stations taken (λ station. of_station station inbox.0)
          c.requires.passes c.requires.lines s.ensures.served (parts_are taken (left_of f.result) inbox.0 s.new.intake.passes.items inbox.2 f.ensures.each);
    }

pub returns-clause-gathered : goal.returns-clause-gathered
returns-clause-gathered g c =
    let s = c.serve_stations-wrote in
    let k = c.keep_left-kept in
    let a = g.O.Outbox.standing c.args.outbox.now in
    let b = g.O.Outbox.standing s.new.outbox in
    let d = g.O.Outbox.standing k.new.outbox in
    let taken = taken_list s.new.intake.writer in
    let kept = k.ensures.kept in
    let f = c.finish-ended in
    let inbox = k.ensures.ended.holds in
    let parts = left_parts _ inbox.0 inbox.2 in
    record {
      all = taken ++ kept.some.items;
      inbox = inbox.0;
      few = let n = subst (λ (i : Inbox). f.result.left ≤ capacity_of i) s.ensures.same f.ensures.few in let l = inbox.1 in let m = kept.some.count in omega (arith, n, l, m);
      count = sym inbox.1;
      others = λ station none.
          let both = f.ensures.others station (unnamed c.args.floor.now.scheme.now g.S.Source.talk c.args.intake.inbox c.args.lines.now c.args.tellers.now c.args.intake.passes.items s.new.intake.passes.items c.args.hears.now.items s.new.hears.items c.args.stations.now s.new.stations (stations_of s.new.intake.writer) station c.requires.passes c.requires.lines c.requires.some s.ensures.served (c.requires.all ∙ sym s.ensures.queue.1) none) in
          let split = both_nil (of_station station kept.some.items) (left_of k.new.ended station) (sym (kept.some.parts station) ∙ both.1) in
          (filter-append _ taken kept.some.items ∙ (λ i. both.0 i ++ split.0 i), sym (parts station) ∙ split.1);
      len = s.ensures.served.len;
      written = written_then c.args.floor.now.scheme.now a b d taken kept.some.items c.args.tellers.now s.new.tellers s.new.tellers c.args.tally.now s.new.tally k.new.tally (result_err k.result)
          (subst (λ (h : Result (Unit {0}) Halt). HasWritten c.args.floor.now.scheme.now a b taken c.args.tellers.now s.new.tellers c.args.tally.now s.new.tally (result_err h)) c.in_default.is s.ensures.written)
          (kept.some.kept.each s.new.tellers);
      each = λ j x h lt. gathered_more c.args.floor.now.scheme.now g.S.Source.talk taken kept.some.items (left_of c.finish-ended.result) (λ station. of_station station inbox.0) _ _ _
          (gathered_all c.args.floor.now.scheme.now g.S.Source.talk c.args.intake.inbox c.args.lines.now c.args.tellers.now c.args.intake.passes.items s.new.intake.passes.items c.args.hears.now.items s.new.hears.items c.args.stations.now s.new.stations taken (left_of c.finish-ended.result)
          c.requires.passes c.requires.lines s.ensures.served c.finish-ended.ensures.each j x h lt) (λ station. kept.some.parts station ∙ ap (λ l. of_station station kept.some.items ++ l) (parts station));
    }

pub returns-in-Err-clause-whole : goal.returns-in-Err-clause-whole
returns-in-Err-clause-whole g c e = absurd (cc e)

pub returns-clause-whole : goal.returns-clause-whole
returns-clause-whole g c e = let kept = c.keep_left-kept.ensures.kept in (kept.whole e, kept.none e)
