use Rattle.std.proofs.Common.{◌≡◌, ◌∷◌, [], None, List, ℕ, sym, ap, subst, ◌∙◌}
use Rattle.std.specs.Prelude.{Ok, Err, IfErr, Bool}
use Rattle.std.specs.Result.{result_err}
use Rattle.fare_session.proofs.Takes.{handed}
use Rattle.fare_writer.specs.Writing.{Asks, as_writer}
use Rattle.fare_inbox_queue.specs.declared.arrived.Arrived.{Arrived}
use Rattle.fare_inbox_queue.specs.declared.arrived.Arrived.TheVariants.{Tap, Stated}
use Rattle.fare_record.specs.declared.ack_item.AckItem.TheVariants.{Upto, Day}
use Rattle.fare_writer.specs.declared.teller.Teller.{Teller}
use Rattle.fare_store.specs.Standing.{Reads}
use Rattle.fare_route.specs.Stating.{are_all_stated}
use Rattle.fare_writer.proofs.Asked.{asks_of}
use Rattle.fare_writer.specs.Writing.{Puts}
use Rattle.fare_writer.specs.Handling.{HasWritten}
use Rattle.fare_writer.specs.Counting.{Counts}
use Rattle.fare_writer.proofs.Handled.{written_tap, written_untold, written_held, written_unheld, written_failed}
use Rattle.fare_writer.proofs.handling.handle.Goals.{then-new-2, else-new-2, then-held, else-held}
use Rattle.fare_writer.proofs.handling.handle.Goals as goal

pub returns-in_err-new-clause-written : goal.returns-in_err-new-clause-written
returns-in_err-new-clause-written g c =
    let a = g.O.Outbox.standing c.args.outbox.now in
    let b = g.O.Outbox.standing c.store.new.outbox in
    let t = c.args.tellers.now in
    handed (λ z. HasWritten c.args.floor.now.scheme.now a b (c.args.item ∷ []) t t c.args.tally.now c.store.new.tally (result_err z)) c.from_residual.result c.in_err-new.field-0.0 c.from_residual.ensures.1 (c.in_err-new.ensures.halted.each t)

pub returns-in_err-new-clause-alone : goal.returns-in_err-new-clause-alone
returns-in_err-new-clause-alone g c = handed (λ z. IfErr z (λ halt. halt.behind ≡ 0)) c.from_residual.result c.in_err-new.field-0.0 c.from_residual.ensures.1 c.in_err-new.ensures.alone

pub returns-after-new-2-clause-written : goal.returns-after-new-2-clause-written
returns-after-new-2-clause-written g c =
    let sc = c.args.floor.now.scheme.now in
    let a = g.O.Outbox.standing c.args.outbox.now in
    let b = g.O.Outbox.standing c.store.new.outbox in
    let n0 = c.args.tally.now in
    let n1 = c.store.new.tally in
    let t = c.args.tellers.now in
    let new = c.in_ok-new.new in
    let station = c.in-Tap.station in
    let row = c.in-Tap.row in
    let sound = g.met.O.Outbox.sound c.store.new.outbox in
    let step : Counts sc c.args.item n0 n1 new = c.in_ok-new.ensures.stored.1 in
    let counts : Counts sc (Tap station row) n0 n1 new = subst (λ (i : Arrived). Counts sc i n0 n1 new) c.in-Tap.is step in
    let puts : Puts a b (Tap station row) (Ok new) = subst (λ (i : Arrived). Puts a b i (Ok new)) c.in-Tap.is c.in_ok-new.ensures.stored.0 in
    subst (λ (i : Arrived). HasWritten sc a b (i ∷ []) t c.if-new-2.tellers n0 n1 None) (sym c.in-Tap.is)
    (elim c.if-new-2.branch [
      | then-new-2 w ↦
          let is : Upto w.new.result ≡ Upto (record { device = row.device; upto = row.link }) = ap Upto (w.new.ensures ∙ λ i. record { device = w.device.ensures i; upto = w.link.ensures.value i }) in
          subst (λ (u : List Teller). HasWritten sc a b (Tap station row ∷ []) t u n0 n1 None) (sym w.tellers-is)
          (written_tap sc a b station row w.station_position-place.result (Upto w.new.result) w.tell.result t w.tell.new.tellers n0 n1 sound
          (subst (λ (x : Bool). Puts a b (Tap station row) (Ok x)) w.if-new-2.true puts) w.station_position-place.ensures.value is w.tell.ensures.told (subst (λ (x : Bool). Counts sc (Tap station row) n0 n1 x) w.if-new-2.true counts))
      | else-new-2 w ↦
          subst (λ (u : List Teller). HasWritten sc a b (Tap station row ∷ []) t u n0 n1 None) (sym w.tellers-is)
          (written_untold sc a b (Tap station row) new t n0 n1 sound puts counts)
    ])

pub returns-in_err-held-in-Stated-clause-written : goal.returns-in_err-held-in-Stated-clause-written
returns-in_err-held-in-Stated-clause-written g c =
    let sc = c.args.floor.now.scheme.now in
    let a = g.O.Outbox.standing c.args.outbox.now in
    let b = g.O.Outbox.standing c.store.new.outbox in
    let d = g.O.Outbox.standing c.are_stated.new.outbox in
    let n0 = c.args.tally.now in
    let n1 = c.store.new.tally in
    let t = c.args.tellers.now in
    let new = c.in_ok-new.new in
    let s = c.in-Stated.statement in
    let f = c.in_err-held-in-Stated.field-0.0 in
    let sound = g.met.O.Outbox.sound c.store.new.outbox in
    let step : Counts sc c.args.item n0 n1 new = c.in_ok-new.ensures.stored.1 in
    let reads = asks_of b d (λ held. held ≡ are_all_stated sc b.value s.device s.day) (Err f)
    (subst (λ (x : ℕ × ℕ). Reads b d (λ held. held ≡ are_all_stated sc b.value x.0 x.1) (Err f)) (λ i. (c.device-device.ensures i, c.day-day.ensures i)) c.in_err-held-in-Stated.ensures) in
    handed (λ z. HasWritten sc a d (c.args.item ∷ []) t t n0 n1 (result_err z)) c.from_residual-in_err-held-in-Stated.result (record { hand = None; behind = 0; fault = as_writer f }) c.from_residual-in_err-held-in-Stated.ensures.1
    (written_failed sc a b d c.args.item s new f t n0 n1 sound c.in_ok-new.ensures.stored.0 reads step)

pub returns-after-held-clause-written : goal.returns-after-held-clause-written
returns-after-held-clause-written g c =
    let sc = c.args.floor.now.scheme.now in
    let a = g.O.Outbox.standing c.args.outbox.now in
    let b = g.O.Outbox.standing c.store.new.outbox in
    let d = g.O.Outbox.standing c.are_stated.new.outbox in
    let n0 = c.args.tally.now in
    let n1 = c.store.new.tally in
    let t = c.args.tellers.now in
    let new = c.in_ok-new.new in
    let station = c.in-Stated.station in
    let s = c.in-Stated.statement in
    let held = c.in_ok-held-in-Stated.held in
    let sound = g.met.O.Outbox.sound c.store.new.outbox in
    let step : Counts sc c.args.item n0 n1 new = c.in_ok-new.ensures.stored.1 in
    let counts : Counts sc (Stated station s) n0 n1 new = subst (λ (i : Arrived). Counts sc i n0 n1 new) c.in-Stated.is step in
    let puts : Puts a b (Stated station s) (Ok new) = subst (λ (i : Arrived). Puts a b i (Ok new)) c.in-Stated.is c.in_ok-new.ensures.stored.0 in
    let reads = asks_of b d (λ all. all ≡ are_all_stated sc b.value s.device s.day) (Ok held)
    (subst (λ (x : ℕ × ℕ). Reads b d (λ all. all ≡ are_all_stated sc b.value x.0 x.1) (Ok held)) (λ i. (c.device-device.ensures i, c.day-day.ensures i)) c.in_ok-held-in-Stated.ensures) in
    subst (λ (i : Arrived). HasWritten sc a d (i ∷ []) t c.if-held.tellers n0 n1 None) (sym c.in-Stated.is)
    (elim c.if-held.branch [
      | then-held w ↦
          let is : Day w.new-then-held.result ≡ Day (record { device = s.device; day = s.day }) = ap Day (w.new-then-held.ensures ∙ λ i. record { device = c.device-device.ensures i; day = c.day-day.ensures i }) in
          subst (λ (u : List Teller). HasWritten sc a d (Stated station s ∷ []) t u n0 n1 None) (sym w.tellers-is)
          (written_held sc a b d station s new w.station_position-place-then-held.result (Day w.new-then-held.result) w.tell-then-held.result t w.tell-then-held.new.tellers n0 n1 sound puts
          (subst (λ (x : Bool). Asks b d (λ all. all ≡ are_all_stated sc b.value s.device s.day) (Ok x)) w.if-held.true reads) w.station_position-place-then-held.ensures.value is w.tell-then-held.ensures.told counts)
      | else-held w ↦
          subst (λ (u : List Teller). HasWritten sc a d (Stated station s ∷ []) t u n0 n1 None) (sym w.tellers-is)
          (written_unheld sc a b d (Stated station s) s new held t n0 n1 sound puts reads counts)
    ])
