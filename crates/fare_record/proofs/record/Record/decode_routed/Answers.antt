use Rattle.std.proofs.Common.{◌≡◌, ◌==◌, Bool, true, false, if◌then◌else◌, Some, None, sym, ap, ◌∙◌, arith}
use Rattle.std.proofs.lemmas.Bool.Decides.{nat_tests}
use Rattle.std.proofs.lemmas.Grind.{common_steps}
use Rattle.fare_record.specs.Bodies.{number_at, record_in, record_fault}
use Rattle.fare_record.specs.declared.fault.RecordFault.TheVariants.{ZeroRoute}
use Rattle.fare_record.proofs.Faults.{last_fault}
use Rattle.fare_record.proofs.Spelling.{routed_spelled}
use Rattle.fare_record.proofs.record.Record.decode_routed.Goals as goal

pub returns-then-numbers-eq0-clause-judged : goal.returns-then-numbers-eq0-clause-judged
returns-then-numbers-eq0-clause-judged c =
    let ok : record_fault (record_in c.args.bytes.now) ≡ None = sym (ap record_fault c.read.ensures) ∙ c.in_ok-record.ensures.judged in
    let is = c.u16_at.ensures in
    let zero = c.if-numbers-eq0.true in
    let route : (number_at 46 2 c.args.bytes.now == 0) ≡ true = grind (arith, nat_tests) in
    last_fault _ _ _ (number_at 46 2 c.args.bytes.now == 0) ok ∙ ap (λ (b : Bool). if b then Some ZeroRoute else None) route

pub returns-clause-judged : goal.returns-clause-judged
returns-clause-judged c =
    let ok : record_fault (record_in c.args.bytes.now) ≡ None = sym (ap record_fault c.read.ensures) ∙ c.in_ok-record.ensures.judged in
    let is = c.u16_at.ensures in
    let some = c.if-numbers-eq0.false in
    let route : (number_at 46 2 c.args.bytes.now == 0) ≡ false = grind (arith, nat_tests) in
    last_fault _ _ _ (number_at 46 2 c.args.bytes.now == 0) ok ∙ ap (λ (b : Bool). if b then Some ZeroRoute else None) route

pub returns-clause-spelled : goal.returns-clause-spelled
returns-clause-spelled c =
    let spelled = routed_spelled c.args.bytes.now (record { all = c.told-bytes; small = c.fits-bytes }) in
    grind (arith, common_steps, spelled)
