-- A worked stop: a device numbered two taps for one owner, who took both of them; then a stop came before any row was pruned.
use Rattle.std.specs.Prelude.{ℕ, ◌==◌, false, List, [], ◌∷◌, None, if◌then◌else◌}
use Rattle.fare_record.specs.Values.{RecordValue}
use Rattle.fare_record.specs.declared.item.Item.TheVariants as item
use Rattle.fare_store.specs.OutboxWords.{OutboxValue, stored}
use Rattle.fare_store.specs.LedgerWords.{LedgerValue}
use Rattle.fare_history.specs.Serving.{Service}
use Rattle.fare_history.specs.Stores.{StoresValue}

-- the first of two taps of owner 4 on device 7, on day 20
abbrev pub first_tap : RecordValue
first_tap = record { device = 7; link = 1; owner = 4; lane = 1; tap = record { product = 3; token = 11; moment = 1728000; day = 20; route = 0 } }

-- the second of them
abbrev pub second_tap : RecordValue
second_tap = record { device = 7; link = 2; owner = 4; lane = 2; tap = record { product = 3; token = 12; moment = 1728060; day = 20; route = 0 } }

-- the lists: the device numbered both, and no other device numbered any
abbrev pub two_taps : ℕ → List RecordValue
two_taps device = if device == 7 then first_tap ∷ second_tap ∷ [] else []

-- an outbox that has had nothing
abbrev pub empty_outbox : OutboxValue
empty_outbox = record { upto = λ device. 0; rows = λ owner device lane. None; row_count = 0; stated = λ owner device day. None; stated_count = 0 }

-- an owner's ledger, of any scheme that starts on day 20
abbrev pub empty_ledger : ℕ → LedgerValue
empty_ledger owner = record { owner = owner; start = 20; knows = λ device. device == 7; taken = λ device. []; stated = λ device day. None; closed = λ device. 0; retired = λ device. false; from = λ device. 0 }

-- the outbox stored both taps, and no ledger has taken any
abbrev pub both_stored : StoresValue
both_stored = record { outbox = stored second_tap (stored first_tap empty_outbox); ledgers = empty_ledger }

-- the owner takes both, and prunes no row
abbrev pub takes_both : Service
takes_both = record { taken = item.Tap first_tap ∷ item.Tap second_tap ∷ []; hand = None; queue = []; pruned = [] }

-- the owner's next session takes nothing, and prunes the lane
abbrev pub prunes_alone : Service
prunes_alone = record { taken = []; hand = None; queue = []; pruned = 7 ∷ [] }
