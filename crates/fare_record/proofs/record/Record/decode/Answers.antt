use Rattle.std.proofs.Common.{arith}
use Rattle.std.proofs.lemmas.Grind.{common_steps}
use Rattle.fare_record.proofs.Spelling.{record_spelled}
use Rattle.fare_record.proofs.record.Record.decode.Goals as goal

pub returns-clause-spelled : goal.returns-clause-spelled
returns-clause-spelled c =
    let spelled = record_spelled c.args.bytes.now (record { all = c.told-bytes; small = c.fits-bytes }) in
    grind (arith, common_steps, spelled)
