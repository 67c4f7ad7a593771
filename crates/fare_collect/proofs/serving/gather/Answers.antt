use Rattle.fare_collect.specs.Resting.{AreRead}
use Rattle.std.proofs.Common.{◌≡◌, ◌<◌, ◌++◌, [], ℕ, length, ap, sym, subst, ◌∙◌, slice_index_or, arith}
use Rattle.std.proofs.lemmas.List.{nil_from_length}
use Rattle.std.proofs.lemmas.List.Elements.{filter-append}
use Rattle.fare_inbox_queue.specs.Inbox.{of_station}
use Rattle.std.specs.Prelude.{Result}
use Rattle.std.specs.Result.{result_err}
use Rattle.fare_writer.specs.declared.halt.Halt.{Halt}
use Rattle.fare_writer.specs.Handling.{HasWritten}
use Rattle.fare_writer.proofs.Written.{written_then}
use Rattle.fare_collect.proofs.Served.{element}
use Rattle.fare_collect.proofs.RestedAll.{apart_after, gathered_rest}
use Rattle.fare_collect.proofs.serving.gather.Goals as goal

pub returns-clause-gathered : goal.returns-clause-gathered
returns-clause-gathered g c =
    let s = c.serve-wrote in
    let r = c.rest_all-rested in
    let was = s.ensures.gathered in
    let rest = r.ensures in
    let sc = c.args.floor.now.scheme.now in
    let a = g.O.Outbox.standing c.args.outbox.now in
    let b = g.O.Outbox.standing s.new.outbox in
    let d = g.O.Outbox.standing r.new.outbox in
    let empty : was.inbox ≡ [] = nil_from_length was.inbox (sym was.count ∙ (s.ensures.whole (ap result_err c.in_default.is)).1) in
    let hn = s.ensures.hears.len in
    let ln = c.requires.lines.lines_len in
    record {
      all = was.all ++ rest.items;
      inbox = was.inbox;
      few = was.few;
      count = was.count;
      others = λ station none.
          let both = was.others station none in
          let more : of_station station rest.items ≡ [] = rest.others station (λ k d lt e.
          let at : k < length c.args.stations.now = let l = was.len in omega (arith, lt, l) in
          none k d at (e ∙ (was.each k d (element s.new.hears.items k (omega (arith, at, hn, ln))) at).named)) in
          (filter-append _ was.all rest.items ∙ (λ i. both.0 i ++ more i), both.1);
      len = rest.len ∙ was.len;
      written = written_then sc a b d was.all rest.items c.args.tellers.now s.new.tellers s.new.tellers c.args.tally.now s.new.tally r.new.tally (result_err r.result)
          (subst (λ (h : Result (Unit {0}) Halt). HasWritten sc a b was.all c.args.tellers.now s.new.tellers c.args.tally.now s.new.tally (result_err h)) c.in_default.is was.written)
          (rest.kept.each s.new.tellers);
      each = λ k x h lt. gathered_rest sc g.S.Source.talk was.all rest.items (λ station. of_station station was.inbox) (slice_index_or s.new.hears.items k h) (slice_index_or c.args.stations.now k x) (slice_index_or s.new.stations k x) (slice_index_or r.new.stations k x)
          (was.each k x h lt) (rest.each k x (let l = was.len in omega (arith, lt, l))) (ap (of_station (slice_index_or c.args.stations.now k x).collector.station) empty);
    }

pub rest_all-rested-requires : goal.rest_all-rested-requires
rest_all-rested-requires g c =
    let s = c.serve-wrote in
    let was = s.ensures.gathered in
    let hn = s.ensures.hears.len in
    let ln = c.requires.lines.lines_len in
    apart_after c.args.stations.now s.new.stations c.requires.apart was.len
    (λ k d lt. (was.each k d (element s.new.hears.items k (omega (arith, lt, hn, ln))) lt).named)

pub returns-clause-whole : goal.returns-clause-whole
returns-clause-whole g c none =
    let s = c.serve-wrote in
    let was = s.ensures.gathered in
    ((s.ensures.whole (ap result_err c.in_default.is)).1, subst (λ (n : ℕ). AreRead c.rest_all-rested.new.stations n) was.len (c.rest_all-rested.ensures.read none))
