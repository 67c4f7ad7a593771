use Rattle.std.proofs.Common.{sym, subst, slice_index_or, arith}
use Rattle.fare_sessions.specs.Running.{IsRunnable}
use Rattle.fare_sessions.proofs.Follow.{all_at}
use Rattle.fare_sessions.proofs.Going.{begins, still_scheme, still_ledgers, still_there, still_room, goes_on, gives_up, ends}
use Rattle.fare_sessions.proofs.hub.Hub.run_all.Goals as goal

pub loop-place-init : goal.loop-place-init
loop-place-init g c = begins g.S.Source.talk g.O.Outbox.standing g.L.Ledger.standing c.args.self.now c.args.sessions.now c.args.course.now

pub run-requires-clause-can : goal.run-requires-clause-can
run-requires-clause-can g c κs within =
    let start = c.args.self.now in
    let d = c.index-sessions-place.result in
    let s = c.loop-place.invariant in
    subst (λ sc. IsRunnable sc (slice_index_or c.loop-place.sessions c.loop-place.place d)) (sym (still_scheme g.S.Source.talk g.O.Outbox.standing g.L.Ledger.standing start c.loop-place.self c.args.sessions.now c.loop-place.sessions c.loop-place.place c.args.course.now c.loop-place.course s))
    (all_at (IsRunnable start.scheme) c.args.sessions.now c.requires.can c.loop-place.place (slice_index_or c.loop-place.sessions c.loop-place.place d)
    (still_there g.S.Source.talk g.O.Outbox.standing g.L.Ledger.standing start c.loop-place.self c.args.sessions.now c.loop-place.sessions c.loop-place.place c.args.course.now c.loop-place.course s c.loop-place-test.true d))

pub run-requires-clause-ledgers : goal.run-requires-clause-ledgers
run-requires-clause-ledgers g c κs within = still_ledgers g.S.Source.talk g.O.Outbox.standing g.L.Ledger.standing c.args.self.now c.loop-place.self c.args.sessions.now c.loop-place.sessions c.loop-place.place c.args.course.now c.loop-place.course c.loop-place.invariant c.requires.ledgers

pub run-requires-clause-room : goal.run-requires-clause-room
run-requires-clause-room g c κs within = still_room g.S.Source.talk g.O.Outbox.standing g.L.Ledger.standing c.args.self.now c.loop-place.self c.args.sessions.now c.loop-place.sessions c.loop-place.place c.args.course.now c.loop-place.course c.loop-place.invariant c.loop-place-test.true c.requires.room

pub returns-then-course : goal.returns-then-course
returns-then-course g c =
    let run = c.run.ensures.ran in
    gives_up g.S.Source.talk g.O.Outbox.standing g.L.Ledger.standing c.args.self.now c.loop-place.self c.args.sessions.now c.loop-place.sessions c.loop-place.place c.args.course.now c.loop-place.course c.loop-place.invariant
    c.run.new.self c.index-sessions-place.result c.run.new.session c.run.new.course run.0 c.loop-place-test.true run.1 run.2 c.if-course.true

pub loop-place-preserved : goal.loop-place-preserved
loop-place-preserved g c =
    let run = c.run.ensures.ran in
    goes_on g.S.Source.talk g.O.Outbox.standing g.L.Ledger.standing c.args.self.now c.loop-place.self c.args.sessions.now c.loop-place.sessions c.loop-place.place c.args.course.now c.loop-place.course c.loop-place.invariant
    c.run.new.self c.index-sessions-place.result c.run.new.session c.run.new.course run.0 c.loop-place-test.true run.1 run.2 c.if-course.false c.run.ensures.few c.run.ensures.capacity

pub returns : goal.returns
returns g c =
    let past = c.loop-place-test.false in
    let within = c.loop-place.auto.place-end in
    ends g.S.Source.talk g.O.Outbox.standing g.L.Ledger.standing c.args.self.now c.loop-place.self c.args.sessions.now c.loop-place.sessions c.loop-place.place c.args.course.now c.loop-place.course c.loop-place.invariant (omega (arith, past)) within
