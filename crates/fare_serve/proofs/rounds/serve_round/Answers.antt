use Rattle.std.proofs.Common.{◌∙◌, ap, sym, length, rules}
use Rattle.std.specs.Prelude.{Vec}
use Rattle.std.specs.Global.{Global}
use Rattle.fare_scheme.specs.Values.{SchemeValue}
use Rattle.fare_serve.specs.declared.counts.Taken.{Taken}
use Rattle.fare_serve.specs.Rounds.{HasFailedRound}
use Rattle.fare_serve.proofs.Counted.{round_of}
use Rattle.fare_serve.proofs.Failed.{round_failed}
use Rattle.fare_serve.proofs.rounds.serve_round.Goals as goal

pub serve_owners-requires-clause-ledgers : goal.serve_owners-requires-clause-ledgers
serve_owners-requires-clause-ledgers g c κs within =
    let one = c.in_ok-report.ensures.held in
    one.held.follow.count ∙ (c.requires.ledgers ∙ ap (λ (sc : SchemeValue). length sc.owners) (sym one.held.scheme))

pub serve_owners-requires-clause-owners : goal.serve_owners-requires-clause-owners
serve_owners-requires-clause-owners g c κs within =
    let one = c.in_ok-report.ensures.held in
    ap (λ (v : Vec Taken Global). length v.items) c.add_stations.ensures.taken ∙ (c.requires.owners ∙ ap (λ (sc : SchemeValue). length sc.owners) (sym one.held.scheme))

pub returns-clause-served : goal.returns-clause-served
returns-clause-served g c =
    round_of g.S.Source.talk g.O.Outbox.standing g.L.Ledger.standing c.args.hub.now c.collect_once.new.hub c.serve_owners.new.hub c.args.stations c.in_ok-report.report c.in_ok-report.stations.items c.args.counts.now c.add_stations.new.self c.serve_owners.new.counts
    c.in_ok-report.ensures.held c.add_stations.ensures c.in_ok-serve_owners.ensures.served c.requires.order c.requires.all c.requires.owners

pub returns-in_err-serve_owners-clause-failed : goal.returns-in_err-serve_owners-clause-failed
returns-in_err-serve_owners-clause-failed g c =
    let fault = c.in_err-serve_owners.field-0.0 in
    let next = c.in_err-serve_owners.ensures.failed in
    let failed : HasFailedRound g.S.Source.talk g.O.Outbox.standing g.L.Ledger.standing c.args.hub.now c.serve_owners.new.hub c.args.stations.items fault =
    round_failed g.S.Source.talk g.O.Outbox.standing g.L.Ledger.standing c.args.hub.now c.collect_once.new.hub c.serve_owners.new.hub c.args.stations c.in_ok-report.report c.in_ok-report.stations.items fault
    c.in_ok-report.ensures.held c.requires.order c.requires.all next.failed next.serving in
    search (rules, failed)
