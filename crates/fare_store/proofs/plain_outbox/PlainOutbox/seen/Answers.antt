use Rattle.std.proofs.Common.{sym}
use Rattle.fare_store.proofs.plain_outbox.PlainOutbox.seen.Goals as goal

pub returns-in-Some-clause-valid : goal.returns-in-Some-clause-valid
returns-in-Some-clause-valid c = (c.args.self.now.seen _ _ (sym c.in-Some.ensures.value)).1
