use Rattle.std.proofs.Common.{◌≡◌, Err, ◌∷◌, ◌++◌, [], List, true, false, refl, sym, ap, subst, ◌∙◌, append_assoc, rules}
use Rattle.std.proofs.lemmas.Result.{err_from_is_err_and}
use Rattle.std.proofs.lemmas.List.{append-nil}
use Rattle.std.proofs.lemmas.Map.Iter.{rest_more}
use Rattle.std.specs.Map.Iter.{deref}
use Rattle.std.specs.Prelude.{Ok, Bool, is_some}
use Rattle.fare_record.specs.declared.ack_item.AckItem.TheVariants.{Day}
use Rattle.fare_store.specs.Keys.{Key}
use Rattle.fare_store.specs.Standing.{Reads}
use Rattle.fare_route.specs.Stating.{are_all_stated}
use Rattle.fare_writer.proofs.Asked.{asks_of}
use Rattle.fare_collect.specs.Ending.{AreSent, HaveSent}
use Rattle.fare_collect.specs.Noting.{day_acks, AreNoted}
use Rattle.fare_collect.proofs.Last.{have_none, have_more, have_same, have_failed, asked_failed, day_told, day_untold, days_append, stations_after}
use Rattle.fare_collect.proofs.Noted.{noted_first, noted_rest}
use Rattle.fare_collect.proofs.answering.last_days.Goals as goal

pub loop-device-init : goal.loop-device-init
loop-device-init g c =
    let gives : c.into_iter-device-iterator.result ≡ c.args.days.now.keys = (let z = c.into_iter-device-iterator.ensures.into_iter_gives in search rules) in
    ([], gives, subst (AreNoted c.args.scheme.now) (sym gives) c.requires.noted, have_none c.args.scheme.now g.S.Source.talk (g.O.Outbox.standing c.args.outbox.now) c.args.stations.now (g.met.O.Outbox.sound c.args.outbox.now))

pub returns-in_err-held : goal.returns-in_err-held
returns-in_err-held g c =
    let inv = c.loop-device.invariant in
    let sc = c.args.scheme.now in
    let b = g.O.Outbox.standing c.loop-device.outbox in
    let d = g.O.Outbox.standing c.are_stated.new.outbox in
    let k = c.in-Some.field-0.now in
    let is = err_from_is_err_and c.from_residual.result c.from_residual.ensures.1 in
    subst (HaveSent sc g.S.Source.talk (g.O.Outbox.standing c.args.outbox.now) d c.args.stations.now c.loop-device.stations (λ x. day_acks sc x c.args.days.now.keys)) (sym (is.1 ∙ ap Err is.2))
    (have_failed sc g.S.Source.talk (g.O.Outbox.standing c.args.outbox.now) b d c.args.stations.now c.loop-device.stations (λ x. day_acks sc x inv.0) (λ x. day_acks sc x c.args.days.now.keys) c.in_err-held.field-0.0 inv.3
    (asked_failed sc b d k c.in_err-held.field-0.0 (g.met.O.Outbox.sound c.loop-device.outbox) (asks_of b d (λ all. all ≡ are_all_stated sc b.value k.1 k.2) (Err c.in_err-held.field-0.0) c.in_err-held.ensures)))

pub send-requires-clause-order : goal.send-requires-clause-order
send-requires-clause-order g c = stations_after c.args.scheme.now g.S.Source.talk c.loop-device.invariant.3.answers c.args.stations.now c.loop-device.stations c.requires.order c.loop-device.invariant.3.sent

pub send-requires-clause-known : goal.send-requires-clause-known
send-requires-clause-known g c =
    let rest : c.loop-device.device-iterator ≡ c.in-Some.field-0.now ∷ c.next.new.self = rest_more deref _ _ _ _ c.in-Some.is c.next.ensures.steps in
    ap is_some (noted_first c.args.scheme.now c.in-Some.field-0.now c.next.new.self (subst (AreNoted c.args.scheme.now) rest c.loop-device.invariant.2))

pub loop-device-preserved-then-held : goal.loop-device-preserved-then-held
loop-device-preserved-then-held g c =
    let inv = c.loop-device.invariant in
    let sc = c.args.scheme.now in
    let talks = g.S.Source.talk in
    let a = g.O.Outbox.standing c.args.outbox.now in
    let b = g.O.Outbox.standing c.loop-device.outbox in
    let d = g.O.Outbox.standing c.are_stated.new.outbox in
    let first = c.args.stations.now in
    let now = c.loop-device.stations in
    let next = c.send.new.stations in
    let k = c.in-Some.field-0.now in
    let rest : c.loop-device.device-iterator ≡ k ∷ c.next.new.self = rest_more deref _ _ _ _ c.in-Some.is c.next.ensures.steps in
    let asks : Reads b d (λ all. all ≡ are_all_stated sc b.value k.1 k.2) (Ok true) = subst (λ (x : Bool). Reads b d (λ all. all ≡ are_all_stated sc b.value k.1 k.2) (Ok x)) c.if-held.true c.in_ok-held.ensures in
    let sent = subst (λ (v : _). AreSent sc talks (Day v ∷ []) now next) c.new.ensures c.send.ensures.sent in (
      inv.0 ++ k ∷ [],
      append_assoc inv.0 (k ∷ []) c.next.new.self ∙ (ap (λ (l : List Key). inv.0 ++ l) (sym rest) ∙ inv.1),
      noted_rest sc k c.next.new.self (subst (AreNoted sc) rest inv.2),
      have_same sc talks a d first next (λ x. day_acks sc x inv.0 ++ day_acks sc x (k ∷ [])) (λ x. day_acks sc x (inv.0 ++ k ∷ [])) (Ok tt) (λ x. days_append sc x inv.0 (k ∷ []))
          (have_more sc talks a b d first now next (λ x. day_acks sc x inv.0) (λ x. day_acks sc x (k ∷ [])) (Ok tt) inv.3
          (day_told sc talks b d now next k (g.met.O.Outbox.sound c.loop-device.outbox) (asks_of b d (λ all. all ≡ are_all_stated sc b.value k.1 k.2) (Ok true) asks) (λ clean. asks.live (asks.stays refl clean)) c.send.ensures.known sent)).have,
    )

pub loop-device-preserved : goal.loop-device-preserved
loop-device-preserved g c =
    let inv = c.loop-device.invariant in
    let sc = c.args.scheme.now in
    let talks = g.S.Source.talk in
    let a = g.O.Outbox.standing c.args.outbox.now in
    let b = g.O.Outbox.standing c.loop-device.outbox in
    let d = g.O.Outbox.standing c.are_stated.new.outbox in
    let first = c.args.stations.now in
    let now = c.loop-device.stations in
    let k = c.in-Some.field-0.now in
    let rest : c.loop-device.device-iterator ≡ k ∷ c.next.new.self = rest_more deref _ _ _ _ c.in-Some.is c.next.ensures.steps in
    let asks : Reads b d (λ all. all ≡ are_all_stated sc b.value k.1 k.2) (Ok false) = subst (λ (x : Bool). Reads b d (λ all. all ≡ are_all_stated sc b.value k.1 k.2) (Ok x)) c.if-held.false c.in_ok-held.ensures in (
      inv.0 ++ k ∷ [],
      append_assoc inv.0 (k ∷ []) c.next.new.self ∙ (ap (λ (l : List Key). inv.0 ++ l) (sym rest) ∙ inv.1),
      noted_rest sc k c.next.new.self (subst (AreNoted sc) rest inv.2),
      have_same sc talks a d first now (λ x. day_acks sc x inv.0 ++ day_acks sc x (k ∷ [])) (λ x. day_acks sc x (inv.0 ++ k ∷ [])) (Ok tt) (λ x. days_append sc x inv.0 (k ∷ []))
          (have_more sc talks a b d first now now (λ x. day_acks sc x inv.0) (λ x. day_acks sc x (k ∷ [])) (Ok tt) inv.3
          (day_untold sc talks b d now k (g.met.O.Outbox.sound c.loop-device.outbox) (asks_of b d (λ all. all ≡ are_all_stated sc b.value k.1 k.2) (Ok false) asks) (λ clean. asks.live (asks.stays refl clean)))).have,
    )

pub returns : goal.returns
returns g c =
    let inv = c.loop-device.invariant in
    let sc = c.args.scheme.now in
    let all : inv.0 ≡ c.args.days.now.keys = sym (append-nil inv.0) ∙ (ap (λ (l : List Key). inv.0 ++ l) (sym c.in-None.ensures.steps.0) ∙ inv.1) in
    have_same sc g.S.Source.talk (g.O.Outbox.standing c.args.outbox.now) (g.O.Outbox.standing c.loop-device.outbox) c.args.stations.now c.loop-device.stations (λ x. day_acks sc x inv.0) (λ x. day_acks sc x c.args.days.now.keys) (Ok tt) (λ x. ap (day_acks sc x) all) inv.3
