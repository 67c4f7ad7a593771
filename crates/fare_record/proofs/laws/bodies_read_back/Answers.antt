use Rattle.fare_record.proofs.Spelling.{record_spelled, routed_spelled, statement_spelled, ack_spelled, day_ack_spelled, hello_spelled}
use Rattle.fare_record.proofs.laws.bodies_read_back.Goals as goal

-- src/laws.rt:8:1
pub returns-clause-record_spelled : goal.returns-clause-record_spelled
returns-clause-record_spelled c = record_spelled

-- src/laws.rt:8:1
pub returns-clause-routed_spelled : goal.returns-clause-routed_spelled
returns-clause-routed_spelled c = routed_spelled

-- src/laws.rt:8:1
pub returns-clause-statement_spelled : goal.returns-clause-statement_spelled
returns-clause-statement_spelled c = statement_spelled

-- src/laws.rt:8:1
pub returns-clause-ack_spelled : goal.returns-clause-ack_spelled
returns-clause-ack_spelled c = ack_spelled

-- src/laws.rt:8:1
pub returns-clause-day_ack_spelled : goal.returns-clause-day_ack_spelled
returns-clause-day_ack_spelled c = day_ack_spelled

-- src/laws.rt:8:1
pub returns-clause-hello_spelled : goal.returns-clause-hello_spelled
returns-clause-hello_spelled c = hello_spelled
