use Rattle.std.proofs.Common.{refl, arith}
use Rattle.fare_session.specs.Stores.{session_fault}
use Rattle.fare_session.specs.Batching.{TakesFirst}
use Rattle.fare_session.proofs.Takes.{handed}
use Rattle.fare_session.proofs.Batches.{split_first, lead_taken, lead_failed}
use Rattle.fare_session.proofs.batching.keep_lead.Goals as goal

pub returns : goal.returns
returns g c =
    let taps = c.lead-count.ensures in
    let few = taps.few in
    lead_taken (g.L.Ledger.standing c.args.ledger.now) (g.L.Ledger.standing c.take_all.new.self) c.args.items.now c.lead-count.new.rows c.lead-count.result taps (omega (arith, few)) c.in_ok-kept.kept c.args.taken.now c.saturating_add.result
    (g.met.L.Ledger.sound c.take_all.new.self) c.in_ok-kept.ensures.few c.in_ok-kept.ensures.does c.saturating_add.ensures

pub returns-in_err-kept : goal.returns-in_err-kept
returns-in_err-kept g c =
    let lo = g.L.Ledger.standing c.args.ledger.now in
    let ln = g.L.Ledger.standing c.take_all.new.self in
    let n = c.args.taken.now in
    let taps = c.lead-count.ensures in
    let few = taps.few in
    let first = split_first c.args.items.now c.requires.some in
    let f = c.in_err-kept.field-0.0 in
    handed (λ z. TakesFirst lo ln c.args.items.now z n n) c.from_residual.result (session_fault f) c.from_residual.ensures.1
    (lead_failed lo ln c.args.items.now c.lead-count.new.rows c.lead-count.result taps (omega (arith, few)) first.0 first.1 f (session_fault f) n first.2 refl (g.met.L.Ledger.sound c.args.ledger.now) c.in_err-kept.ensures.does)
