use Rattle.std.proofs.Common.{arith}
use Rattle.std.proofs.lemmas.Grind.{common_steps}
use Rattle.fare_record.proofs.Spelling.{ack_spelled}
use Rattle.fare_record.proofs.ack.Ack.decode.Goals as goal

pub returns-clause-spelled : goal.returns-clause-spelled
returns-clause-spelled c =
    let bytes = c.args.bytes.now in
    let spelled = ack_spelled bytes (record { all = c.told-bytes; small = c.fits-bytes }) in
    grind (arith, common_steps, spelled)
