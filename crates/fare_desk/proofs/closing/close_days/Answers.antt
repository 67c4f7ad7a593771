use Rattle.std.proofs.Common.{◌≡◌, refl, take, sym, ap, ◌∙◌, subst, rules}
use Rattle.std.specs.Map.{keys_of}
use Rattle.fare_scheme.specs.Words.{id_at}
use Rattle.fare_scheme.proofs.Slices.{entry_at, item_at}
use Rattle.fare_sessions.proofs.Follow.{clean_back}
use Rattle.fare_desk.specs.Causes.{store_fault}
use Rattle.fare_desk.specs.Closing.{HasClosedLanes, lanes_with}
use Rattle.fare_desk.proofs.Asked.{placed_known}
use Rattle.fare_desk.proofs.Causes.{counted_done, counted_handed, counted_then}
use Rattle.fare_desk.proofs.Going.{goes_join}
use Rattle.fare_desk.proofs.Lanes.{over_more, over_none, owners_more, lanes_over}
use Rattle.fare_desk.proofs.closing.close_days.Goals as goal

pub loop-place-init : goal.loop-place-init
loop-place-init g c = (over_none g.O.Outbox.standing g.L.Ledger.standing c.args.hub.now (g.W.Write.contents c.args.output.now), λ clean sound. refl)

pub close_owner-requires-clause-known : goal.close_owner-requires-clause-known
close_owner-requires-clause-known g c = placed_known _ c.loop-place.place (c.owners.ensures.placed c.loop-place.place c.index-owners-place.result (item_at c.owners.result.now c.loop-place.place c.index-owners-place.result (search rules) c.index-owners-place.is))

pub returns-in_err-close_owner-clause-goes : goal.returns-in_err-close_owner-clause-goes
returns-in_err-close_owner-clause-goes g c = goes_join g.O.Outbox.standing g.L.Ledger.standing c.args.hub.now c.loop-place.hub c.close_owner.new.hub c.loop-place.invariant.0.goes c.close_owner.ensures.goes

pub returns-in_err-close_owner-clause-cause : goal.returns-in_err-close_owner-clause-cause
returns-in_err-close_owner-clause-cause g c = λ clean sound.
    let before = clean_back g.O.Outbox.standing g.L.Ledger.standing c.loop-place.hub c.close_owner.new.hub c.close_owner.ensures.goes.follow clean in
    counted_then _ _ _ (store_fault c.from_residual.result) (c.loop-place.invariant.1 before sound)
    (counted_handed _ _ c.close_owner.result c.from_residual.result c.in_err-close_owner.field-0.0 c.in_err-close_owner.was c.from_residual.ensures.1 (c.close_owner.ensures.cause clean (c.loop-place.invariant.0.goes.sound sound)))

pub loop-place-preserved : goal.loop-place-preserved
loop-place-preserved g c =
    let s = c.loop-place.invariant.0 in
    let old = c.args.hub.now in
    let os = old.scheme.owners in
    let ds = keys_of old.scheme.devices in
    let at : id_at os c.loop-place.place ≡ _ = ap (λ sc. id_at sc.owners c.loop-place.place) (sym s.goes.scheme) ∙ entry_at c.loop-place.hub.scheme.owners c.owners.result.now c.loop-place.place c.index-owners-place.result c.owners.ensures.value (search rules) c.index-owners-place.is in
    let closed = subst (λ sc. HasClosedLanes g.O.Outbox.standing g.L.Ledger.standing (lanes_with c.index-owners-place.result (keys_of sc.devices)) c.loop-place.hub c.close_owner.new.hub (g.W.Write.contents c.loop-place.output) (g.W.Write.contents c.close_owner.new.output)) s.goes.scheme c.in_ok-close_owner.ensures.closed in (
      over_more g.O.Outbox.standing g.L.Ledger.standing old c.loop-place.hub c.close_owner.new.hub (lanes_over (take c.loop-place.place (keys_of os)) ds) (lanes_with c.index-owners-place.result ds) _
          (g.W.Write.contents c.args.output.now) (g.W.Write.contents c.loop-place.output) (g.W.Write.contents c.close_owner.new.output) s c.close_owner.ensures.goes closed (owners_more ds os c.loop-place.place c.index-owners-place.result at),
      λ clean sound.
          let before = clean_back g.O.Outbox.standing g.L.Ledger.standing c.loop-place.hub c.close_owner.new.hub c.close_owner.ensures.goes.follow clean in
          counted_done _ _ c.close_owner.result tt c.in_ok-close_owner.was (c.close_owner.ensures.cause clean (c.loop-place.invariant.0.goes.sound sound)) ∙ c.loop-place.invariant.1 before sound,
    )
