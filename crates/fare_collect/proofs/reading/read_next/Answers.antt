use Rattle.std.proofs.Common.{Some, None, true, false, refl, sym, ap, subst}
use Rattle.std.specs.Prelude.{Ok, Bool, Option}
use Rattle.fare_collector.specs.Collecting.{next_in}
use Rattle.fare_frame.specs.declared.frame.Frame.{Frame}
use Rattle.fare_inbox_queue.specs.InboxPasses.{station_of, sent_list}
use Rattle.fare_inbox_queue.specs.LinePasses.{heard_list}
use Rattle.fare_collect.specs.declared.fault.StationFault.TheVariants.{Unexpected}
use Rattle.fare_source.specs.Talking.{Gives}
use Rattle.fare_collect.specs.Stations.{HasPassedOn}
use Rattle.fare_collect.proofs.Read.{read_none, read_end, read_failed, read_passed, read_held, read_unexpected, read_at}
use Rattle.fare_collect.proofs.reading.read_next.Goals as goal

pub returns-in-Err-clause-read : goal.returns-in-Err-clause-read
returns-in-Err-clause-read g c =
    let fresh = c.requires.fresh in
    let sc = c.args.floor.now.scheme.now in
    let post = c.args.post.now in
    let station = station_of post.pass in
    let a = g.S.Source.talk c.args.source.now in
    let d = g.S.Source.talk c.next.new.self in
    let n0 = next_in c.args.collector.now in
    let s0 = sent_list post.pass in
    let h = heard_list post.hear in
    let none = read_none sc station a n0 s0 h in
    read_at sc station a d n0 n0 s0 s0 h h None post.held false post.ended _ _ (sym fresh.0) (sym fresh.1) (ap Some (sym c.from.ensures))
    (read_failed sc station a a d n0 n0 s0 s0 h h c.in-Err.fault none c.in-Err.ensures)

pub returns-in-Ok-None-clause-read : goal.returns-in-Ok-None-clause-read
returns-in-Ok-None-clause-read g c =
    let fresh = c.requires.fresh in
    let sc = c.args.floor.now.scheme.now in
    let post = c.args.post.now in
    let station = station_of post.pass in
    let a = g.S.Source.talk c.args.source.now in
    let d = g.S.Source.talk c.next.new.self in
    let n0 = next_in c.args.collector.now in
    let s0 = sent_list post.pass in
    let h = heard_list post.hear in
    let none = read_none sc station a n0 s0 h in
    let gives : Gives a d (Ok None) = subst (λ (o : Option Frame). Gives a d (Ok o)) c.in-Ok-None.field-0-is c.in-Ok-None.ensures in
    read_at sc station a d n0 n0 s0 s0 h h None post.held true true None post.fault (sym fresh.0) refl (sym fresh.2) (read_end sc station a a d n0 n0 s0 s0 h h none gives)

pub returns-in-Ok-true-clause-read : goal.returns-in-Ok-true-clause-read
returns-in-Ok-true-clause-read g c =
    let fresh = c.requires.fresh in
    let sc = c.args.floor.now.scheme.now in
    let post = c.args.post.now in
    let station = station_of post.pass in
    let a = g.S.Source.talk c.args.source.now in
    let d = g.S.Source.talk c.next.new.self in
    let n0 = next_in c.args.collector.now in
    let s0 = sent_list post.pass in
    let h = heard_list post.hear in
    let none = read_none sc station a n0 s0 h in
    let frame = c.in-Ok-Some.frame in
    let gives : Gives a d (Ok (Some frame)) = subst (λ (o : Option Frame). Gives a d (Ok o)) c.in-Ok-Some.field-0-is c.in-Ok-Some.ensures in
    let n2 = next_in c.pass_on.new.collector in
    let s2 = sent_list c.pass_on.new.pass in
    let on : HasPassedOn sc station n0 n2 s0 s2 frame true = subst (λ (y : Bool). HasPassedOn sc station n0 n2 s0 s2 frame y) c.in-Ok-true.field-0-test c.in-Ok-true.ensures.passed in
    read_at sc station a d n0 n2 s0 s2 h h None post.held false post.ended None post.fault (sym fresh.0) (sym fresh.1) (sym fresh.2)
    (read_passed sc station a a d n0 n0 n2 s0 s0 s2 h h frame none gives on (λ wrong. absurd (let is = c.in-Ok-true.ensures.expected wrong in cc is)))

pub returns-in-Ok-false-clause-read : goal.returns-in-Ok-false-clause-read
returns-in-Ok-false-clause-read g c =
    let fresh = c.requires.fresh in
    let sc = c.args.floor.now.scheme.now in
    let post = c.args.post.now in
    let station = station_of post.pass in
    let a = g.S.Source.talk c.args.source.now in
    let d = g.S.Source.talk c.next.new.self in
    let n0 = next_in c.args.collector.now in
    let s0 = sent_list post.pass in
    let h = heard_list post.hear in
    let none = read_none sc station a n0 s0 h in
    let frame = c.in-Ok-Some.frame in
    let gives : Gives a d (Ok (Some frame)) = subst (λ (o : Option Frame). Gives a d (Ok o)) c.in-Ok-Some.field-0-is c.in-Ok-Some.ensures in
    let n2 = next_in c.pass_on.new.collector in
    let s2 = sent_list c.pass_on.new.pass in
    let on : HasPassedOn sc station n0 n2 s0 s2 frame false = subst (λ (y : Bool). HasPassedOn sc station n0 n2 s0 s2 frame y) c.in-Ok-false.field-0-test c.in-Ok-false.ensures.passed in
    read_at sc station a d n0 n2 s0 s2 h h (Some frame) (Some frame) false post.ended None post.fault refl (sym fresh.1) (sym fresh.2)
    (read_held sc station a a d n0 n0 n2 s0 s0 s2 h h frame none gives on (λ wrong. absurd (let is = c.in-Ok-false.ensures.expected wrong in cc is)))

pub returns-in-Err-pass_on-clause-read : goal.returns-in-Err-pass_on-clause-read
returns-in-Err-pass_on-clause-read g c =
    let fresh = c.requires.fresh in
    let sc = c.args.floor.now.scheme.now in
    let post = c.args.post.now in
    let station = station_of post.pass in
    let a = g.S.Source.talk c.args.source.now in
    let d = g.S.Source.talk c.next.new.self in
    let n0 = next_in c.args.collector.now in
    let s0 = sent_list post.pass in
    let h = heard_list post.hear in
    let none = read_none sc station a n0 s0 h in
    let frame = c.in-Ok-Some.frame in
    let gives : Gives a d (Ok (Some frame)) = subst (λ (o : Option Frame). Gives a d (Ok o)) c.in-Ok-Some.field-0-is c.in-Ok-Some.ensures in
    let n2 = next_in c.pass_on.new.collector in
    let s2 = sent_list c.pass_on.new.pass in
    let is = c.in-Err-pass_on.ensures.refused in
    read_at sc station a d n0 n2 s0 s2 h h None post.held false post.ended (Some Unexpected) (Some Unexpected) (sym fresh.0) (sym fresh.1) refl
    (read_unexpected sc station a a d n0 n0 n2 s0 s0 s2 h h frame none gives is.0 is.1 is.2)
