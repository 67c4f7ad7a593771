use Rattle.std.proofs.Common.{◌∷◌, [], take, sym, subst, arith}
use Rattle.std.specs.Prelude.{Option}
use Rattle.std.proofs.lemmas.List.{append-nil, take_more_set}
use Rattle.fare_inbox_queue.specs.declared.arrived.Arrived.{Arrived}
use Rattle.fare_writer.specs.Entries.{in_hand}
use Rattle.fare_collect.specs.Resting.{HasPassed, HasReadOn}
use Rattle.fare_collect.proofs.Rested.{read_none, read_then}
use Rattle.fare_collect.proofs.resting.read_on.Goals as goal

pub loop-place-init : goal.loop-place-init
loop-place-init g c = record {
  going = c.requires.going;
  held = c.requires.held;
  read = read_none c.args.scheme.now g.S.Source.talk c.args.id c.args.station.now (take 1 c.args.items.now) c.requires.going;
}

pub returns-in_default-clause-read : goal.returns-in_default-clause-read
returns-in_default-clause-read g c =
    let inv = c.loop-place.invariant in
    let talks = g.S.Source.talk in
    let t0 = c.args.station.now in
    let t1 = c.loop-place.station in
    let t2 = c.next_item.new.station in
    let first = take 1 c.args.items.now in
    let items = take c.loop-place.place c.loop-place.items in
    let last : HasPassed c.args.scheme.now talks c.args.id t1 t2 [] = subst (λ (r : Option Arrived). HasPassed c.args.scheme.now talks c.args.id t1 t2 (in_hand r)) c.in_default.is c.next_item.ensures.passed in
    subst (HasReadOn c.args.scheme.now talks c.args.id t0 t2 first) (append-nil items) (read_then c.args.scheme.now talks c.args.id t0 t1 t2 first items [] inv.read inv.going last)

pub loop-place-preserved : goal.loop-place-preserved
loop-place-preserved g c =
    let inv = c.loop-place.invariant in
    let talks = g.S.Source.talk in
    let t0 = c.args.station.now in
    let t1 = c.loop-place.station in
    let t2 = c.next_item.new.station in
    let first = take 1 c.args.items.now in
    let items = take c.loop-place.place c.loop-place.items in
    let item = c.in-Some.item in
    let long = c.loop-place.auto.items in
    let room = c.requires.room in
    let test = c.loop-place-test.true in
    let next : HasPassed c.args.scheme.now talks c.args.id t1 t2 (item ∷ []) = subst (λ (r : Option Arrived). HasPassed c.args.scheme.now talks c.args.id t1 t2 (in_hand r)) c.in-Some.is c.next_item.ensures.passed in
    record {
      going = c.in-Some.ensures.going;
      held = c.in-Some.ensures.held;
      read = subst (HasReadOn c.args.scheme.now talks c.args.id t0 t2 first) (sym (take_more_set c.loop-place.items c.loop-place.place item (omega (arith, long, room, test)))) (read_then c.args.scheme.now talks c.args.id t0 t1 t2 first items (item ∷ []) inv.read inv.going next);
    }
