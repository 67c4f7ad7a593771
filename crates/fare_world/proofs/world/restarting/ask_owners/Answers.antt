use Rattle.std.proofs.Common.{◌≡◌, ◌<◌, None, Some, length, get_or, set, refl, sym, ap, ◌∙◌, arith}
use Rattle.std.specs.Prelude.{Ok, Err, slice_get}
use Rattle.std.proofs.lemmas.Option.{slice_get_read}
use Rattle.fare_store.specs.Standing.{Reads}
use Rattle.fare_side.specs.Resuming.{AreStandings}
use Rattle.fare_world.specs.Restarts.{IsAsked}
use Rattle.fare_world.proofs.Pairs.{none_paired, one_paired, all_paired}
use Rattle.fare_world.proofs.Asking.{asked, one_failed, failed_with}
use Rattle.fare_world.proofs.world.restarting.ask_owners.Goals as goal

pub loop-owner-init : goal.loop-owner-init
loop-owner-init g c = none_paired (IsAsked g.L.Ledger.standing c.args.scheme.now None) c.args.owners.now

pub ask-requires : goal.ask-requires
ask-requires g c =
    let xs = c.loop-owner.owners in
    let k = c.loop-owner.owner-index in
    let x = get_or xs k c.owner-item.result in
    let within : k < length xs = omega (arith, c.loop-owner-test.true, c.loop-owner.invariant.count) in
    let here : slice_get xs k ≡ Some x = slice_get_read xs (length xs) k c.owner-item.result refl within c.owner-item.is ∙ ap Some c.owner-item.is in
    c.requires k x (sym (c.loop-owner.invariant.rest k (omega arith)) ∙ here)

pub loop-owner-preserved : goal.loop-owner-preserved
loop-owner-preserved g c =
    let xs = c.loop-owner.owners in
    let k = c.loop-owner.owner-index in
    let x = get_or xs k c.owner-item.result in
    let y = c.ask.new.self in
    let e = c.in_ok-ask.ensures in
    let within : k < length xs = omega (arith, c.loop-owner-test.true, c.loop-owner.invariant.count) in
    let did : Reads (g.L.Ledger.standing x.ledger) (g.L.Ledger.standing y.ledger) (λ (_ : Unit {0}). AreStandings c.args.scheme.now (g.L.Ledger.standing x.ledger).value y.standings.items) (Ok tt) = e.read in
    one_paired (IsAsked g.L.Ledger.standing c.args.scheme.now None) c.args.owners.now xs k x y c.loop-owner.invariant (slice_get_read xs (length xs) k c.owner-item.result refl within c.owner-item.is ∙ ap Some c.owner-item.is)
    (asked g.L.Ledger.standing c.args.scheme.now None x y (AreStandings c.args.scheme.now (g.L.Ledger.standing x.ledger).value y.standings.items) did (λ none is. is) e.count e.queue e.hand e.forwarder)

pub returns : goal.returns
returns g c = record {
  each = all_paired (IsAsked g.L.Ledger.standing c.args.scheme.now None) c.args.owners.now c.loop-owner.owners c.loop-owner.owner-index c.loop-owner.invariant (omega (arith, c.loop-owner-test.false));
  cause = λ is. absurd (cc);
}

pub returns-in_err-ask : goal.returns-in_err-ask
returns-in_err-ask g c =
    let xs = c.loop-owner.owners in
    let k = c.loop-owner.owner-index in
    let x = get_or xs k c.owner-item.result in
    let y = c.ask.new.self in
    let f = c.in_err-ask.field-0.0 in
    let e = c.in_err-ask.ensures in
    let within : k < length xs = omega (arith, c.loop-owner-test.true, c.loop-owner.invariant.count) in
    let did : Reads (g.L.Ledger.standing x.ledger) (g.L.Ledger.standing y.ledger) (λ (_ : Unit {0}). AreStandings c.args.scheme.now (g.L.Ledger.standing x.ledger).value y.standings.items) (Err f) = e.read in
    failed_with g.L.Ledger.standing c.args.scheme.now c.args.owners.now (set xs k y) c.from_residual.result f c.from_residual.ensures.1
    (one_failed g.L.Ledger.standing c.args.scheme.now f c.args.owners.now xs k x y (Unit {0}) c.loop-owner.invariant (slice_get_read xs (length xs) k c.owner-item.result refl within c.owner-item.is ∙ ap Some c.owner-item.is) did
    (asked g.L.Ledger.standing c.args.scheme.now (Some f) x y (Unit {0}) did (λ none is. absurd (cc)) e.count e.queue e.hand e.forwarder))
