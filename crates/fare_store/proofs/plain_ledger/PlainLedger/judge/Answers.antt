use Rattle.std.proofs.Common.{◌≡◌, length, ap, ◌∙◌}
use Rattle.fare_record.specs.Values.{TapValue}
use Rattle.fare_owner.specs.TapJudged.{tap_judged}
use Rattle.fare_store.specs.LedgerWords.{is_mine, is_closed}
use Rattle.fare_store.specs.PlainLedgerWords.{plain_ledger}
use Rattle.fare_store.proofs.plain_ledger.PlainLedger.judge.Goals as goal

pub returns-clause-judged : goal.returns-clause-judged
returns-clause-judged c =
    let v = plain_ledger c.args.self.now in
    let row = c.args.row.now in
    let day : c.day-day.result ≡ row.tap.day = c.day-day.ensures ∙ ap (λ (t : TapValue). t.day) c.tap.ensures in
    let mine : c.lane_of-mine.result.0 ≡ is_mine v row.owner row.device = c.lane_of-mine.ensures.mine ∙ (λ i. is_mine v (c.owner.ensures i) (c.device-device.ensures i)) in
    let closed : c.is_closed-closed.result ≡ is_closed v row.device row.tap.day = c.is_closed-closed.ensures ∙ (λ i. is_closed v (c.device-device.ensures i) (day i)) in
    let held : c.lane_of-mine.result.1 ≡ length (v.taken row.device) = c.lane_of-mine.ensures.held ∙ ap (λ d. length (v.taken d)) c.device-device.ensures in
    let retired : c.is_retired-retired.result ≡ v.retired row.device = c.is_retired-retired.ensures ∙ ap v.retired c.device-device.ensures in
    c.judge_tap.ensures.judged ∙ (λ i. tap_judged (mine i) (held i) (closed i) (c.lane.ensures.value i) (retired i))
