-- Small sessions and lists of frames, written out, of which the laws beside them compute what the definitions say.
use Rattle.std.specs.Prelude.{ℕ, ◌==◌, false, List, [], ◌∷◌, None, Some}
use Rattle.fare_day.specs.declared.zone.Zone.{Zone}
use Rattle.fare_record.specs.declared.ack_item.AckItem.{AckItem}
use Rattle.fare_record.specs.declared.ack_item.AckItem.TheVariants as ack_item
use Rattle.fare_record.specs.declared.item.Item.{Item}
use Rattle.fare_record.specs.declared.item.Item.TheVariants as item
use Rattle.fare_record.specs.Values.{RecordValue, StatementValue}
use Rattle.fare_scheme.specs.Demo.{demo_scheme}
use Rattle.fare_scheme.specs.declared.demo.DemoSize.TheVariants.{OneDevice, TwoDevices}
use Rattle.fare_scheme.specs.Values.{SchemeValue}
use Rattle.fare_store.specs.OutboxWords.{OutboxValue, stored, stored_statement}
use Rattle.fare_store.specs.LedgerWords.{LedgerValue}
use Rattle.fare_history.specs.Serving.{Service}
use Rattle.fare_history.specs.Gathering.{Entry, Gathering}

-- A SCHEME AND ITS RECORDS
-- one owner and one device, on any clock; the inbox and the owner's queue hold one item each
abbrev pub one_device : Zone → SchemeValue
one_device clock = demo_scheme OneDevice 4 1 1 clock

-- the same, with two stations and a device at each
abbrev pub two_devices : Zone → SchemeValue
two_devices clock = demo_scheme TwoDevices 4 1 1 clock

-- the tap that is this one of its device's taps, and of its owner's taps there, on the scheme's first day
abbrev pub tap_number : ℕ → ℕ → RecordValue
tap_number device n = record { device = device; link = n; owner = 1; lane = n; tap = record { product = 1; token = 77; moment = 1704100000; day = 19723; route = 0 } }

-- the device's statement of that day
abbrev pub day_statement : ℕ → ℕ → StatementValue
day_statement device count = record { device = device; day = 19723; owner = 1; count = count }

-- AN OWNER'S SESSION
abbrev pub new_outbox : OutboxValue
new_outbox = record { upto = λ device. 0; rows = λ owner device lane. None; row_count = 0; stated = λ owner device day. None; stated_count = 0 }

-- an outbox that has stored the device's first three taps and their statement
abbrev pub full_outbox : OutboxValue
full_outbox = stored_statement (day_statement 1 3) (stored (tap_number 1 3) (stored (tap_number 1 2) (stored (tap_number 1 1) new_outbox)))

-- the owner's ledger, before it has taken anything
abbrev pub new_ledger : LedgerValue
new_ledger = record { owner = 1; start = 19723; knows = λ device. device == 1; taken = λ device. []; stated = λ device day. None; closed = λ device. 0; retired = λ device. false; from = λ device. 0 }

-- the ledger that has the three taps and the statement, and closed the day
abbrev pub closed_ledger : LedgerValue
closed_ledger = record new_ledger { taken = λ device. tap_number device 1 ∷ tap_number device 2 ∷ tap_number device 3 ∷ []; stated = λ device day. Some 3; closed = λ device. 1 }

-- the ledger that has taken nothing and has retired its lane of the device
abbrev pub retired_ledger : LedgerValue
retired_ledger = record new_ledger { retired = λ device. device == 1 }

-- all three taps and then their statement are taken, and the lane is pruned
abbrev pub whole_service : Service
whole_service = record { taken = item.Tap (tap_number 1 1) ∷ item.Tap (tap_number 1 2) ∷ item.Tap (tap_number 1 3) ∷ item.Stated (day_statement 1 3) ∷ []; hand = None; queue = []; pruned = 1 ∷ [] }

-- two taps are taken, the third is in the owner's hand, its queue holds the statement, and the lane is pruned
abbrev pub cut_service : Service
cut_service = record { taken = item.Tap (tap_number 1 1) ∷ item.Tap (tap_number 1 2) ∷ []; hand = Some (item.Tap (tap_number 1 3)); queue = item.Stated (day_statement 1 3) ∷ []; pruned = 1 ∷ [] }

-- nothing is taken, and the queue holds two taps
abbrev pub crowded_service : Service
crowded_service = record { taken = []; hand = None; queue = item.Tap (tap_number 1 1) ∷ item.Tap (tap_number 1 2) ∷ []; pruned = [] }

-- these items are taken, and nothing else
abbrev pub taking : List Item → Service
taking items = record { taken = items; hand = None; queue = []; pruned = [] }

-- A SESSION OF THE STATIONS AND THE WRITER
abbrev pub had_upto : ℕ → ℕ → AckItem
had_upto device link = ack_item.Upto (record { device = device; upto = link })

abbrev pub had_day : ℕ → AckItem
had_day device = ack_item.Day (record { device = device; day = 19723 })

abbrev pub tap_entry : ℕ → ℕ → List AckItem → Entry
tap_entry device n answers = record { item = item.Tap (tap_number device n); answers = answers }

abbrev pub statement_entry : List AckItem → Entry
statement_entry answers = record { item = item.Stated (day_statement 1 1); answers = answers }

-- each device's first tap, and the first one's statement twice, are stored and acknowledged
abbrev pub whole_gathering : Gathering
whole_gathering = record {
  entries = tap_entry 1 1 (had_upto 1 1 ∷ []) ∷ statement_entry (had_day 1 ∷ []) ∷ tap_entry 2 1 (had_upto 2 1 ∷ []) ∷ statement_entry (had_day 1 ∷ []) ∷ [];
  hand = None;
  inbox = [];
  last = had_day 1 ∷ had_upto 1 1 ∷ had_upto 2 1 ∷ [];
}

-- nothing is stored: a tap is in the writer's hand, and the inbox holds these items
abbrev pub holding_back : List Item → Gathering
holding_back items = record { entries = []; hand = Some (item.Tap (tap_number 1 1)); inbox = items; last = [] }

-- these entries are stored, and nothing else
abbrev pub storing_only : List Entry → Gathering
storing_only entries = record { entries = entries; hand = None; inbox = []; last = [] }
