use Rattle.std.proofs.Common.{◌≡◌, take, string_bytes, sym, ap, ◌∙◌, subst, refl, rules}
use Rattle.std.specs.Map.{keys_of}
use Rattle.fare_scheme.specs.Words.{id_at}
use Rattle.fare_scheme.proofs.Slices.{entry_at}
use Rattle.fare_desk.specs.Showing.{AddsUptos}
use Rattle.fare_desk.proofs.Asked.{asks_join}
use Rattle.fare_desk.proofs.Causes.{counted_ok}
use Rattle.fare_desk.proofs.Lanes.{keys_more}
use Rattle.fare_desk.proofs.Shown.{uptos_none, upto_then}
use Rattle.fare_desk.proofs.standing.add_uptos.Goals as goal

pub loop-place-init : goal.loop-place-init
loop-place-init g c = (uptos_none g.O.Outbox.standing g.L.Ledger.standing c.args.hub.now (string_bytes c.args.text.now), refl)

pub returns-in_err-upto-clause-asks : goal.returns-in_err-upto-clause-asks
returns-in_err-upto-clause-asks g c = asks_join g.O.Outbox.standing g.L.Ledger.standing c.args.hub.now c.loop-place.hub c.ask_upto.new.hub c.loop-place.invariant.0.asks c.ask_upto.ensures.asks

pub returns-in_err-add_upto-clause-asks : goal.returns-in_err-add_upto-clause-asks
returns-in_err-add_upto-clause-asks g c = asks_join g.O.Outbox.standing g.L.Ledger.standing c.args.hub.now c.loop-place.hub c.ask_upto.new.hub c.loop-place.invariant.0.asks c.ask_upto.ensures.asks

pub loop-place-preserved : goal.loop-place-preserved
loop-place-preserved g c =
    let s = c.loop-place.invariant.0 in
    let old = c.args.hub.now in
    let ds = old.scheme.devices in
    let at : id_at ds c.loop-place.place ≡ _ = ap (λ sc. id_at sc.devices c.loop-place.place) (sym s.asks.scheme) ∙ entry_at c.loop-place.hub.scheme.devices c.devices.result.now c.loop-place.place c.index-devices-place.result c.devices.ensures.value (search rules) c.index-devices-place.is in (
      subst (λ l. AddsUptos g.O.Outbox.standing g.L.Ledger.standing l old c.ask_upto.new.hub (string_bytes c.args.text.now) (string_bytes c.add_upto.new.text)) (sym (keys_more ds c.loop-place.place c.index-devices-place.result at))
          (upto_then g.O.Outbox.standing g.L.Ledger.standing old c.loop-place.hub c.ask_upto.new.hub (take c.loop-place.place (keys_of ds)) c.index-devices-place.result c.in_ok-upto.upto (string_bytes c.args.text.now) (string_bytes c.loop-place.text) (string_bytes c.add_upto.new.text) s c.ask_upto.ensures.asks c.in_ok-upto.ensures.tells c.in_ok-add_upto.ensures),
      counted_ok _ _ c.ask_upto.result c.in_ok-upto.upto c.in_ok-upto.was c.ask_upto.ensures.cause ∙ c.loop-place.invariant.1,
    )
