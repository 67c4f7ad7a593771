use Rattle.std.proofs.Common.{◌≡◌, ◌<◌, Some, length, get_or, refl, sym, ap, ◌∙◌, arith}
use Rattle.std.specs.Prelude.{slice_get}
use Rattle.std.proofs.lemmas.Option.{slice_get_read}
use Rattle.fare_world.specs.Restarts.{IsOwnerAgain}
use Rattle.fare_world.proofs.Pairs.{none_paired, one_paired, all_paired}
use Rattle.fare_world.proofs.world.restarting.restart_owners.Goals as goal

pub loop-owner-init : goal.loop-owner-init
loop-owner-init g c = none_paired (IsOwnerAgain c.args.scheme.now) c.args.owners.now

pub restart-requires : goal.restart-requires
restart-requires g c =
    let xs = c.loop-owner.owners in
    let k = c.loop-owner.owner-index in
    let x = get_or xs k c.owner-item.result in
    let within : k < length xs = omega (arith, c.loop-owner-test.true, c.loop-owner.invariant.count) in
    let here : slice_get xs k ≡ Some x = slice_get_read xs (length xs) k c.owner-item.result refl within c.owner-item.is ∙ ap Some c.owner-item.is in
    c.requires k x (sym (c.loop-owner.invariant.rest k (omega arith)) ∙ here)

pub loop-owner-preserved : goal.loop-owner-preserved
loop-owner-preserved g c =
    let xs = c.loop-owner.owners in
    let k = c.loop-owner.owner-index in
    let x = get_or xs k c.owner-item.result in
    let e = c.restart.ensures in
    let within : k < length xs = omega (arith, c.loop-owner-test.true, c.loop-owner.invariant.count) in
    one_paired (IsOwnerAgain c.args.scheme.now) c.args.owners.now xs k x c.restart.new.self c.loop-owner.invariant (slice_get_read xs (length xs) k c.owner-item.result refl within c.owner-item.is ∙ ap Some c.owner-item.is)
    (record { ledger = e.ledger; standings = e.standings; queue = e.queue; hand = e.hand; owner = e.owner; resumed = e.resumed; others = e.others })

pub returns : goal.returns
returns g c = all_paired (IsOwnerAgain c.args.scheme.now) c.args.owners.now c.loop-owner.owners c.loop-owner.owner-index c.loop-owner.invariant (omega (arith, c.loop-owner-test.false))
