-- What is done between two rounds.
use Rattle.fare_serve.specs.Pausing.{PauseOf}
use Rattle.fare_store.specs.LedgerWords.{LedgerValue}
use Rattle.fare_store.specs.OutboxWords.{OutboxValue}
use Rattle.fare_store.specs.Standing.{Standing}
use Rattle.fare_page.specs.Answering.{HasAnswered}

-- what a pause does in which those who have come are answered: the requests, in their order, and nothing else
abbrev pub callers_do : {O L : Type 0} → (O → Standing OutboxValue) → (L → Standing LedgerValue) → PauseOf O L
callers_do outbox ledger progress old new = HasAnswered outbox ledger progress old new
