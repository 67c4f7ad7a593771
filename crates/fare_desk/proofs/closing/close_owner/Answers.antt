use Rattle.std.proofs.Common.{◌≡◌, refl, [], ◌∷◌, take, sym, ap, ◌∙◌, rules}
use Rattle.std.specs.Map.{keys_of}
use Rattle.fare_scheme.specs.Words.{id_at}
use Rattle.fare_scheme.proofs.Slices.{entry_at}
use Rattle.fare_sessions.proofs.Follow.{clean_back}
use Rattle.fare_desk.specs.Causes.{store_fault}
use Rattle.fare_desk.specs.Closing.{lanes_with}
use Rattle.fare_desk.proofs.Causes.{counted_done, counted_handed, counted_then}
use Rattle.fare_desk.proofs.Going.{goes_join}
use Rattle.fare_desk.proofs.Lanes.{over_none, over_more, devices_more}
use Rattle.fare_desk.proofs.closing.close_owner.Goals as goal

pub loop-place-init : goal.loop-place-init
loop-place-init g c = (over_none g.O.Outbox.standing g.L.Ledger.standing c.args.hub.now (g.W.Write.contents c.args.output.now), λ clean sound. refl)

pub returns-in_err-close_lane-clause-goes : goal.returns-in_err-close_lane-clause-goes
returns-in_err-close_lane-clause-goes g c = goes_join g.O.Outbox.standing g.L.Ledger.standing c.args.hub.now c.loop-place.hub c.close_lane.new.hub c.loop-place.invariant.0.goes c.close_lane.ensures.goes

pub returns-in_err-close_lane-clause-cause : goal.returns-in_err-close_lane-clause-cause
returns-in_err-close_lane-clause-cause g c = λ clean sound.
    let before = clean_back g.O.Outbox.standing g.L.Ledger.standing c.loop-place.hub c.close_lane.new.hub c.close_lane.ensures.goes.follow clean in
    counted_then _ _ _ (store_fault c.from_residual.result) (c.loop-place.invariant.1 before sound)
    (counted_handed _ _ c.close_lane.result c.from_residual.result c.in_err-close_lane.field-0.0 c.in_err-close_lane.was c.from_residual.ensures.1 (c.close_lane.ensures.cause clean (c.loop-place.invariant.0.goes.sound sound)))

pub loop-place-preserved : goal.loop-place-preserved
loop-place-preserved g c =
    let s = c.loop-place.invariant.0 in
    let old = c.args.hub.now in
    let ds = old.scheme.devices in
    let at : id_at ds c.loop-place.place ≡ _ = ap (λ sc. id_at sc.devices c.loop-place.place) (sym s.goes.scheme) ∙ entry_at c.loop-place.hub.scheme.devices c.devices.result.now c.loop-place.place c.index-devices-place.result c.devices.ensures.value (search rules) c.index-devices-place.is in (
      over_more g.O.Outbox.standing g.L.Ledger.standing old c.loop-place.hub c.close_lane.new.hub (lanes_with c.args.owner (take c.loop-place.place (keys_of ds))) ((c.args.owner, c.index-devices-place.result) ∷ []) _
          (g.W.Write.contents c.args.output.now) (g.W.Write.contents c.loop-place.output) (g.W.Write.contents c.close_lane.new.output) s c.close_lane.ensures.goes c.in_ok-close_lane.ensures.closed (devices_more c.args.owner ds c.loop-place.place c.index-devices-place.result at),
      λ clean sound.
          let before = clean_back g.O.Outbox.standing g.L.Ledger.standing c.loop-place.hub c.close_lane.new.hub c.close_lane.ensures.goes.follow clean in
          counted_done _ _ c.close_lane.result tt c.in_ok-close_lane.was (c.close_lane.ensures.cause clean (c.loop-place.invariant.0.goes.sound sound)) ∙ c.loop-place.invariant.1 before sound,
    )
