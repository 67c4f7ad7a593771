use Rattle.std.proofs.Common.{◌≡◌, ◌∙◌, Some, ap, sym, subst, refl, length, take, arith, rules}
use Rattle.std.specs.Map.{keys_of}
use Rattle.std.proofs.lemmas.Map.Entries.{length-keys_of}
use Rattle.fare_scheme.specs.Values.{SchemeValue}
use Rattle.fare_scheme.specs.Words.{id_at}
use Rattle.fare_scheme.proofs.Slices.{entry_at}
use Rattle.fare_serve.specs.Rounds.{HaveFailedOwners, HaveServedOwners}
use Rattle.fare_serve.proofs.Counted.{entries_kept, owner_ledgers, owners_more, owners_none}
use Rattle.fare_serve.proofs.Coming.{are_serving}
use Rattle.fare_serve.proofs.Failed.{first_owners, owners_failed, owners_of_scheme}
use Rattle.fare_serve.proofs.rounds.serve_owners.Goals as goal

pub loop-place-init : goal.loop-place-init
loop-place-init g c = record {
  served = owners_none g.S.Source.talk g.O.Outbox.standing g.L.Ledger.standing c.args.hub.now c.args.counts.now;
  scheme = refl;
  ledgers = c.requires.ledgers;
  entries = c.requires.owners;
}

pub loop-place-preserved : goal.loop-place-preserved
loop-place-preserved g c =
    let inv = c.loop-place.invariant in
    let one = c.in_ok-report.ensures.held in
    let place = c.loop-place.place in
    let at : id_at c.args.hub.now.scheme.owners place ≡ Some c.index-owners-place.result = ap (λ (sc : SchemeValue). id_at sc.owners place) (sym inv.scheme) ∙ entry_at c.loop-place.hub.scheme.owners c.owners.result.now c.loop-place.place c.index-owners-place.result c.owners.ensures.value (search rules) c.index-owners-place.is in
    record {
      served = owners_more g.S.Source.talk g.O.Outbox.standing g.L.Ledger.standing c.args.hub.now c.loop-place.hub c.serve_once.new.hub place c.index-owners-place.result c.in_ok-report.report c.args.counts.now c.loop-place.counts c.add_owner.new.self inv.served at one c.add_owner.ensures;
      scheme = one.held.scheme ∙ inv.scheme;
      ledgers = owner_ledgers g.S.Source.talk g.O.Outbox.standing g.L.Ledger.standing c.loop-place.hub c.serve_once.new.hub c.index-owners-place.result c.in_ok-report.report one inv.ledgers;
      entries = entries_kept c.loop-place.counts c.add_owner.new.self c.add_owner.ensures.owners ∙ inv.entries;
    }

pub returns-clause-served : goal.returns-clause-served
returns-clause-served g c =
    let past = c.loop-place-test.false in
    let within = c.loop-place.auto.place-end in
    let ids = ap length c.owners-place-end.ensures.value in
    let entries = length-keys_of c.args.hub.now.scheme.owners in
    let all : c.loop-place.place ≡ length c.args.hub.now.scheme.owners = omega (arith, past, within, ids, entries) in
    subst (λ n. HaveServedOwners g.S.Source.talk g.O.Outbox.standing g.L.Ledger.standing c.args.hub.now c.loop-place.hub n c.args.counts.now c.loop-place.counts) all c.loop-place.invariant.served

pub returns-in_err-report-clause-failed : goal.returns-in_err-report-clause-failed
returns-in_err-report-clause-failed g c =
    let served = c.loop-place.invariant.served in
    let fault = c.in_err-report.field-0.0 in
    let sc = c.args.hub.now.scheme in
    let ids = take c.loop-place.place (keys_of sc.owners) in
    let each = owners_of_scheme sc ids served.calls served.serves (first_owners sc c.loop-place.place) in
    let failed : HaveFailedOwners g.S.Source.talk g.O.Outbox.standing g.L.Ledger.standing c.args.hub.now c.serve_once.new.hub fault =
    owners_failed g.S.Source.talk g.O.Outbox.standing g.L.Ledger.standing c.args.hub.now c.loop-place.hub c.serve_once.new.hub served.calls c.index-owners-place.result c.loop-place.place c.in_err-report.ensures.ended.0 fault served.held served.unended each (are_serving ids served.calls served.serves)
    c.in_err-report.ensures.ended.1 (entry_at c.loop-place.hub.scheme.owners c.owners.result.now c.loop-place.place c.index-owners-place.result c.owners.ensures.value (search rules) c.index-owners-place.is) in
    search (rules, failed)
