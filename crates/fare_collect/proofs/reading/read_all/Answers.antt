use Rattle.std.proofs.Common.{Some, None, false, refl, sym, subst, ◌∙◌}
use Rattle.std.specs.Prelude.{Result}
use Rattle.std.specs.Result.{result_err}
use Rattle.fare_collector.specs.Collecting.{next_in}
use Rattle.fare_collector.specs.declared.collector.Collector.{Collector}
use Rattle.fare_inbox_queue.specs.InboxPasses.{station_of, sent_list, IsStationOf}
use Rattle.fare_inbox_queue.specs.LinePasses.{heard_list, IsHearOf}
use Rattle.fare_collect.specs.declared.fault.StationFault.{StationFault}
use Rattle.fare_collect.specs.declared.station.Post.{Post}
use Rattle.fare_collect.specs.Stations.{HasAnswered, HasRead}
use Rattle.fare_collect.proofs.Read.{read_none, read_heard, read_waited, read_then, read_at}
use Rattle.fare_collect.proofs.reading.read_all.Goals.{in-None, in-Some+in-Err, in-Some+in_default+then-has_writer_ended, in-Some+in_default+else-has_writer_ended+else-holds+then-not-is_ready+then-is_over, in-Some+in_default+else-has_writer_ended+else-holds+else-not-is_ready+then-not-read_next}
use Rattle.fare_collect.proofs.reading.read_all.Goals as goal

pub loop-init : goal.loop-init
loop-init g c = (c.requires.queue, c.requires.fresh, (refl, refl), read_none _ _ _ _ _ _)

pub loop-preserved : goal.loop-preserved
loop-preserved g c =
    let inv = c.loop.invariant in
    let sc = c.args.floor.now.scheme.now in
    let station = station_of c.args.post.now.pass in
    let a = g.S.Source.talk c.args.source.now in
    let b = g.S.Source.talk c.loop.source in
    let n0 = next_in c.args.collector.now in
    let n1 = next_in c.loop.collector in
    let s0 = sent_list c.args.post.now.pass in
    let s1 = sent_list c.loop.post.pass in
    let h0 = heard_list c.args.post.now.hear in
    let h1 = heard_list c.loop.post.hear in
    let m = g.S.Source.talk c.answer_all.new.source in
    let h2 = heard_list c.answer_all.new.hear in
    let none : HasAnswered b m h1 h2 None = subst (λ (f : Result (Unit {0}) StationFault). HasAnswered b m h1 h2 (result_err f)) c.in_default.is c.answer_all.ensures.answered in
    let heard : HasRead sc station a m n0 n1 s0 s1 h0 h2 None false None = read_heard sc station a b m n0 n1 s0 s1 h0 h1 h2 None inv.3 none in
    let m2 = g.S.Source.talk c.is_ready.new.self in
    let ready : HasRead sc station a m2 n0 n1 s0 s1 h0 h2 None false None = read_waited sc station a m m2 n0 n1 s0 s1 h0 h2 heard c.is_ready.ensures in
    let d = g.S.Source.talk c.read_next.new.source in
    let n2 = next_in c.read_next.new.collector in
    let s2 = sent_list c.read_next.new.post.pass in
    let post = c.read_next.new.post in
    let read : HasRead sc station m2 d n1 n2 s1 s2 h2 (heard_list post.hear) post.held post.ended post.fault = subst (λ k. HasRead sc k m2 d n1 n2 s1 s2 h2 (heard_list post.hear) post.held post.ended post.fault) inv.2.0 c.read_next.ensures.read in
    let fresh = c.read_next.ensures.fresh c.if-not-read_next.false in (
      (c.read_next.ensures.queue.0, subst (IsHearOf c.args.line.now) (sym c.read_next.ensures.queue.1) c.answer_all.ensures.queue),
      fresh,
      (c.read_next.ensures.station.0 ∙ inv.2.0, c.read_next.ensures.station.1 ∙ inv.2.1),
      read_at sc station a d n0 n2 s0 s2 h0 (heard_list post.hear) post.held None post.ended false post.fault None fresh.0 fresh.1 fresh.2
          (read_then sc station a m2 d n0 n1 n2 s0 s1 s2 h0 h2 (heard_list post.hear) post.held post.ended post.fault ready read),
    )

pub loop-preserved-then-not-is_ready : goal.loop-preserved-then-not-is_ready
loop-preserved-then-not-is_ready g c =
    let inv = c.loop.invariant in
    let sc = c.args.floor.now.scheme.now in
    let station = station_of c.args.post.now.pass in
    let a = g.S.Source.talk c.args.source.now in
    let b = g.S.Source.talk c.loop.source in
    let n0 = next_in c.args.collector.now in
    let n1 = next_in c.loop.collector in
    let s0 = sent_list c.args.post.now.pass in
    let s1 = sent_list c.loop.post.pass in
    let h0 = heard_list c.args.post.now.hear in
    let h1 = heard_list c.loop.post.hear in
    let m = g.S.Source.talk c.answer_all.new.source in
    let h2 = heard_list c.answer_all.new.hear in
    let none : HasAnswered b m h1 h2 None = subst (λ (f : Result (Unit {0}) StationFault). HasAnswered b m h1 h2 (result_err f)) c.in_default.is c.answer_all.ensures.answered in
    let heard : HasRead sc station a m n0 n1 s0 s1 h0 h2 None false None = read_heard sc station a b m n0 n1 s0 s1 h0 h1 h2 None inv.3 none in
    ((inv.0.0, c.answer_all.ensures.queue), inv.1, inv.2, read_waited sc station a m (g.S.Source.talk c.is_ready.new.self) n0 n1 s0 s1 h0 h2 heard c.is_ready.ensures)

pub loop-preserved-then-holds : goal.loop-preserved-then-holds
loop-preserved-then-holds g c =
    let inv = c.loop.invariant in
    let sc = c.args.floor.now.scheme.now in
    let station = station_of c.args.post.now.pass in
    let a = g.S.Source.talk c.args.source.now in
    let b = g.S.Source.talk c.loop.source in
    let n0 = next_in c.args.collector.now in
    let n1 = next_in c.loop.collector in
    let s0 = sent_list c.args.post.now.pass in
    let s1 = sent_list c.loop.post.pass in
    let h0 = heard_list c.args.post.now.hear in
    let h1 = heard_list c.loop.post.hear in
    let m = g.S.Source.talk c.answer_all.new.source in
    let h2 = heard_list c.answer_all.new.hear in
    let none : HasAnswered b m h1 h2 None = subst (λ (f : Result (Unit {0}) StationFault). HasAnswered b m h1 h2 (result_err f)) c.in_default.is c.answer_all.ensures.answered in
    let heard : HasRead sc station a m n0 n1 s0 s1 h0 h2 None false None = read_heard sc station a b m n0 n1 s0 s1 h0 h1 h2 None inv.3 none in
    ((inv.0.0, c.answer_all.ensures.queue), inv.1, inv.2, heard)

pub returns-clause-queue : goal.returns-clause-queue
returns-clause-queue g c =
    let inv = c.loop.invariant in
    let Q : Post → Type 0 = λ p. IsStationOf c.args.inbox.now p.pass × IsHearOf c.args.line.now p.hear in
    elim c.match-next.branch [
      | in-None w ↦ subst Q (sym w.post-is) inv.0
      | in-Some+in-Err w ↦ subst Q (sym w.post-is) (inv.0.0, w.answer_all.ensures.queue)
      | in-Some+in_default+then-has_writer_ended w ↦ subst Q (sym w.post-is) (inv.0.0, w.answer_all.ensures.queue)
      | in-Some+in_default+else-has_writer_ended+else-holds+then-not-is_ready+then-is_over w ↦ subst Q (sym w.post-is) (inv.0.0, w.answer_all.ensures.queue)
      | in-Some+in_default+else-has_writer_ended+else-holds+else-not-is_ready+then-not-read_next w ↦
          subst Q (sym w.post-is) (w.read_next.ensures.queue.0, subst (IsHearOf c.args.line.now) (sym w.read_next.ensures.queue.1) w.answer_all.ensures.queue)
    ]

pub returns-clause-read : goal.returns-clause-read
returns-clause-read g c =
    let inv = c.loop.invariant in
    let sc = c.args.floor.now.scheme.now in
    let station = station_of c.args.post.now.pass in
    let a = g.S.Source.talk c.args.source.now in
    let b = g.S.Source.talk c.loop.source in
    let n0 = next_in c.args.collector.now in
    let n1 = next_in c.loop.collector in
    let s0 = sent_list c.args.post.now.pass in
    let s1 = sent_list c.loop.post.pass in
    let h0 = heard_list c.args.post.now.hear in
    let h1 = heard_list c.loop.post.hear in
    let Q : Post × (Collector × g.row.S.Denot) → Type 0 = λ y.
    HasRead sc station a (g.S.Source.talk y.1.1) n0 (next_in y.1.0) s0 (sent_list y.0.pass) h0 (heard_list y.0.hear) y.0.held y.0.ended y.0.fault in
    elim c.match-next.branch [
      | in-None w ↦
          subst Q (λ i. (sym w.post-is i, (sym w.collector-is i, sym w.source-is i)))
          (read_at sc station a b n0 n1 s0 s1 h0 h1 None c.loop.post.held false c.loop.post.ended None c.loop.post.fault (sym inv.1.0) (sym inv.1.1) (sym inv.1.2) inv.3)
      | in-Some+in-Err w ↦
          let m = g.S.Source.talk w.answer_all.new.source in
          let h2 = heard_list w.answer_all.new.hear in
          let fault = w.in-Err.fault in
          let some : HasAnswered b m h1 h2 (Some fault) = subst (λ (f : Result (Unit {0}) StationFault). HasAnswered b m h1 h2 (result_err f)) w.in-Err.is w.answer_all.ensures.answered in
          subst Q (λ i. (sym w.post-is i, (sym w.collector-is i, sym w.source-is i)))
          (read_at sc station a m n0 n1 s0 s1 h0 h2 None c.loop.post.held false c.loop.post.ended (Some fault) (Some fault) (sym inv.1.0) (sym inv.1.1) refl
          (read_heard sc station a b m n0 n1 s0 s1 h0 h1 h2 (Some fault) inv.3 some))
      | in-Some+in_default+then-has_writer_ended w ↦
          let m = g.S.Source.talk w.answer_all.new.source in
          let h2 = heard_list w.answer_all.new.hear in
          let none : HasAnswered b m h1 h2 None = subst (λ (f : Result (Unit {0}) StationFault). HasAnswered b m h1 h2 (result_err f)) w.in_default.is w.answer_all.ensures.answered in
          let heard : HasRead sc station a m n0 n1 s0 s1 h0 h2 None false None = read_heard sc station a b m n0 n1 s0 s1 h0 h1 h2 None inv.3 none in
          subst Q (λ i. (sym w.post-is i, (sym w.collector-is i, sym w.source-is i)))
          (read_at sc station a m n0 n1 s0 s1 h0 h2 None c.loop.post.held false c.loop.post.ended None c.loop.post.fault (sym inv.1.0) (sym inv.1.1) (sym inv.1.2) heard)
      | in-Some+in_default+else-has_writer_ended+else-holds+then-not-is_ready+then-is_over w ↦
          let m = g.S.Source.talk w.answer_all.new.source in
          let h2 = heard_list w.answer_all.new.hear in
          let none : HasAnswered b m h1 h2 None = subst (λ (f : Result (Unit {0}) StationFault). HasAnswered b m h1 h2 (result_err f)) w.in_default.is w.answer_all.ensures.answered in
          let heard : HasRead sc station a m n0 n1 s0 s1 h0 h2 None false None = read_heard sc station a b m n0 n1 s0 s1 h0 h1 h2 None inv.3 none in
          let m2 = g.S.Source.talk w.is_ready.new.self in
          let ready : HasRead sc station a m2 n0 n1 s0 s1 h0 h2 None false None = read_waited sc station a m m2 n0 n1 s0 s1 h0 h2 heard w.is_ready.ensures in
          subst Q (λ i. (sym w.post-is i, (sym w.collector-is i, sym w.source-is i)))
          (read_at sc station a m2 n0 n1 s0 s1 h0 h2 None c.loop.post.held false c.loop.post.ended None c.loop.post.fault (sym inv.1.0) (sym inv.1.1) (sym inv.1.2) ready)
      | in-Some+in_default+else-has_writer_ended+else-holds+else-not-is_ready+then-not-read_next w ↦
          let m = g.S.Source.talk w.answer_all.new.source in
          let h2 = heard_list w.answer_all.new.hear in
          let none : HasAnswered b m h1 h2 None = subst (λ (f : Result (Unit {0}) StationFault). HasAnswered b m h1 h2 (result_err f)) w.in_default.is w.answer_all.ensures.answered in
          let heard : HasRead sc station a m n0 n1 s0 s1 h0 h2 None false None = read_heard sc station a b m n0 n1 s0 s1 h0 h1 h2 None inv.3 none in
          let m2 = g.S.Source.talk w.is_ready.new.self in
          let ready : HasRead sc station a m2 n0 n1 s0 s1 h0 h2 None false None = read_waited sc station a m m2 n0 n1 s0 s1 h0 h2 heard w.is_ready.ensures in
          let d = g.S.Source.talk w.read_next.new.source in
          let n2 = next_in w.read_next.new.collector in
          let s2 = sent_list w.read_next.new.post.pass in
          let post = w.read_next.new.post in
          let read : HasRead sc station m2 d n1 n2 s1 s2 h2 (heard_list post.hear) post.held post.ended post.fault = subst (λ k. HasRead sc k m2 d n1 n2 s1 s2 h2 (heard_list post.hear) post.held post.ended post.fault) inv.2.0 w.read_next.ensures.read in
          subst Q (λ i. (sym w.post-is i, (sym w.collector-is i, sym w.source-is i)))
          (read_then sc station a m2 d n0 n1 n2 s0 s1 s2 h0 h2 (heard_list post.hear) post.held post.ended post.fault ready read)
    ]
