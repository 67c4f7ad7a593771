use Rattle.std.proofs.Common.{◌≡◌, None, Ok, length, sym, ap, ◌∙◌, inr}
use Rattle.fare_record.specs.Values.{TapValue}
use Rattle.fare_owner.specs.TapJudged.{tap_judged}
use Rattle.fare_store.specs.LedgerWords.{is_mine, is_closed, take_judged}
use Rattle.fare_store.specs.PlainLedgerWords.{plain_ledger}
use Rattle.fare_store.proofs.PlainLemmas.{plain_call, plain_write_failed}
use Rattle.fare_store.proofs.plain_ledger.calls.PlainLedgerLedger.take.Goals as goal

pub returns-in_ok-write_tap-in-Ok-clause-does : goal.returns-in_ok-write_tap-in-Ok-clause-does
returns-in_ok-write_tap-in-Ok-clause-does c mine =
    let v = plain_ledger c.args.self.now in
    let row = c.args.row.now in
    let day : c.day-day.result ≡ row.tap.day = c.day-day.ensures ∙ ap (λ (t : TapValue). t.day) c.tap.ensures in
    let mine : c.lane_of-mine.result.0 ≡ is_mine v row.owner row.device = c.lane_of-mine.ensures.mine ∙ (λ i. is_mine v (c.owner.ensures i) (c.device-device.ensures i)) in
    let closed : c.is_closed-closed.result ≡ is_closed v row.device row.tap.day = c.is_closed-closed.ensures ∙ (λ i. is_closed v (c.device-device.ensures i) (day i)) in
    let held : c.lane_of-mine.result.1 ≡ length (v.taken row.device) = c.lane_of-mine.ensures.held ∙ ap (λ d. length (v.taken d)) c.device-device.ensures in
    let retired : c.is_retired-retired.result ≡ v.retired row.device = c.is_retired-retired.ensures ∙ ap v.retired c.device-device.ensures in
    let judged : take_judged v row ≡ Ok tt = (λ i. tap_judged (sym mine i) (sym held i) (sym closed i) (sym c.lane.ensures.value i) (sym retired i)) ∙ sym c.judge_tap.ensures.judged ∙ c.in-Ok.is in
    plain_call (plain_ledger c.args.self.now) (plain_ledger c.write_tap.new.self) None _ _ (λ e. absurd (cc)) (judged, c.in_ok-write_tap-in-Ok.ensures.ok) (inr (judged, c.in_ok-write_tap-in-Ok.ensures.ok))

pub returns-in_err-write_tap-in-Ok-clause-does : goal.returns-in_err-write_tap-in-Ok-clause-does
returns-in_err-write_tap-in-Ok-clause-does c mine = plain_write_failed (plain_ledger c.args.self.now) (plain_ledger c.write_tap.new.self) _ _ c.from_residual.result c.from_residual.ensures.1 c.in_err-write_tap-in-Ok.ensures.err
