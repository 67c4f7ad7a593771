use Rattle.std.proofs.Common.{◌∷◌, [], Some, None, refl, subst, inl, inr}
use Rattle.std.specs.Prelude.{Option}
use Rattle.std.proofs.lemmas.List.{append-nil}
use Rattle.fare_inbox_queue.specs.declared.arrived.Arrived.{Arrived}
use Rattle.std.specs.Result.{result_err}
use Rattle.fare_session.proofs.Takes.{handed}
use Rattle.fare_writer.specs.Entries.{in_hand}
use Rattle.fare_collect.specs.Resting.{HasPassed, HasRested, HasRestedBatch}
use Rattle.fare_collect.proofs.Rested.{kept_none, passed_none, passed_then, rested, rested_more}
use Rattle.fare_collect.proofs.resting.rest.Goals as goal

pub loop-init : goal.loop-init
loop-init g c = (
  [],
  passed_none c.args.scheme.now g.S.Source.talk c.args.id c.args.station.now _ (c.requires.0, c.requires.1) c.finish.ensures refl refl,
  kept_none c.args.scheme.now (g.O.Outbox.standing c.args.outbox.now) c.args.tally.now (g.met.O.Outbox.sound c.args.outbox.now),
  inl (c.requires.0, c.requires.1),
)

pub returns-in_default : goal.returns-in_default
returns-in_default g c =
    let inv = c.loop.invariant in
    let talks = g.S.Source.talk in
    let t0 = c.args.station.now in
    let t1 = c.loop.station in
    let t2 = c.next_item.new.station in
    let a = g.O.Outbox.standing c.args.outbox.now in
    let b = g.O.Outbox.standing c.loop.outbox in
    let going = c.if-is_over.ensures.going refl in
    let last : HasPassed c.args.scheme.now talks c.args.id t1 t2 [] = subst (λ (r : Option Arrived). HasPassed c.args.scheme.now talks c.args.id t1 t2 (in_hand r)) c.in_default.is c.next_item.ensures.passed in
    let all : HasPassed c.args.scheme.now talks c.args.id t0 t2 inv.0 = subst (HasPassed c.args.scheme.now talks c.args.id t0 t2) (append-nil inv.0) (passed_then c.args.scheme.now talks c.args.id t0 t1 t2 inv.0 [] inv.1 going last) in
    rested c.args.scheme.now talks c.args.id a b c.args.tally.now c.loop.tally t0 t2 inv.0 None all c.next_item.ensures.held inv.2 (λ h. c.next_item.ensures.over c.in_default.is)

pub loop-preserved : goal.loop-preserved
loop-preserved g c =
    let inv = c.loop.invariant in
    let talks = g.S.Source.talk in
    let t0 = c.args.station.now in
    let t1 = c.loop.station in
    let t2 = c.next_item.new.station in
    let t3 = c.rest_batch.new.station in
    let item = c.in-Some-next_item.item in
    let a = g.O.Outbox.standing c.args.outbox.now in
    let b = g.O.Outbox.standing c.loop.outbox in
    let d = g.O.Outbox.standing c.rest_batch.new.outbox in
    let next : HasPassed c.args.scheme.now talks c.args.id t1 t2 (item ∷ []) = subst (λ (r : Option Arrived). HasPassed c.args.scheme.now talks c.args.id t1 t2 (in_hand r)) c.in-Some-next_item.is c.next_item.ensures.passed in
    let batch : HasRestedBatch c.args.scheme.now talks c.args.id b d item c.loop.tally c.rest_batch.new.tally t2 t3 None = c.in_ok-rest_batch.ensures.rested in
    let on = rested_more c.args.scheme.now talks c.args.id a b d c.args.tally.now c.loop.tally c.rest_batch.new.tally t0 t1 t2 t3 inv.0 item None inv.1 (c.if-is_over.ensures.going refl) inv.2 next c.in-Some-next_item.ensures.going batch in (
      on.0,
      on.1,
      on.2,
      inr c.rest_batch.ensures.held,
    )

pub returns-in_err-rest_batch : goal.returns-in_err-rest_batch
returns-in_err-rest_batch g c =
    let inv = c.loop.invariant in
    let talks = g.S.Source.talk in
    let t0 = c.args.station.now in
    let t1 = c.loop.station in
    let t2 = c.next_item.new.station in
    let t3 = c.rest_batch.new.station in
    let item = c.in-Some-next_item.item in
    let halt = c.in_err-rest_batch.field-0.0 in
    let a = g.O.Outbox.standing c.args.outbox.now in
    let b = g.O.Outbox.standing c.loop.outbox in
    let d = g.O.Outbox.standing c.rest_batch.new.outbox in
    let next : HasPassed c.args.scheme.now talks c.args.id t1 t2 (item ∷ []) = subst (λ (r : Option Arrived). HasPassed c.args.scheme.now talks c.args.id t1 t2 (in_hand r)) c.in-Some-next_item.is c.next_item.ensures.passed in
    let batch : HasRestedBatch c.args.scheme.now talks c.args.id b d item c.loop.tally c.rest_batch.new.tally t2 t3 (Some halt) = c.in_err-rest_batch.ensures.rested in
    let on = rested_more c.args.scheme.now talks c.args.id a b d c.args.tally.now c.loop.tally c.rest_batch.new.tally t0 t1 t2 t3 inv.0 item (Some halt) inv.1 (c.if-is_over.ensures.going refl) inv.2 next c.in-Some-next_item.ensures.going batch in
    handed (λ z. HasRested c.args.scheme.now talks c.args.id a d c.args.tally.now c.rest_batch.new.tally t0 t3 (result_err z)) c.from_residual.result halt c.from_residual.ensures.1
    (rested c.args.scheme.now talks c.args.id a d c.args.tally.now c.rest_batch.new.tally t0 t3 on.0 (Some halt) on.1 c.rest_batch.ensures.held on.2 (λ h. absurd (cc)))
