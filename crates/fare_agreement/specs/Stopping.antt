-- Sessions whose items are those of lists, what a stop in one leaves, and what stays of what a session was answered.
use Rattle.std.specs.Prelude.{◌≡◌, ◌⊎◌, ◌||◌, ℕ, ◌+◌, ◌-◌, ◌<◌, ◌≤◌, nat_lt, Bool, true, false, List, [], ◌∷◌, ◌++◌, Some, is_some, slice_get}
use Rattle.std.specs.List.{AllByRecursion, list_all}
use Rattle.fare_record.specs.Limits.{IsDay}
use Rattle.fare_record.specs.Values.{RecordValue}
use Rattle.fare_record.specs.declared.ack_item.AckItem.{AckItem}
use Rattle.fare_record.specs.declared.ack_item.AckItem.TheVariants as ack_item
use Rattle.fare_record.specs.declared.item.Item.{Item}
use Rattle.fare_record.specs.declared.item.Item.TheVariants as item
use Rattle.fare_scheme.specs.Values.{SchemeValue}
use Rattle.fare_store.specs.OutboxWords.{OutboxValue}
use Rattle.fare_store.specs.Tables.{put, put3}
use Rattle.fare_store.specs.LedgerWords.{LedgerValue, is_closed}
use Rattle.fare_world.specs.Knowing.{knows_owner}
use Rattle.fare_history.specs.Serving.{Service, IsService, first_taken}
use Rattle.fare_history.specs.Gathering.{items_of, accepted_by, all_answers, storing_all, tried_by, HasFirst, IsGathering}
use Rattle.fare_history.specs.Plainly.{IsCovered}
use Rattle.fare_history.specs.Stores.{StoresValue, MayClose, MayRetire, MayForget, forgotten_by_ledger, Session, Collects, Serves_owner, Closes_day, Retires_lane, Forgets, stores_after}
use Rattle.fare_agreement.specs.Agreeing.{IsOf}
use Rattle.fare_agreement.specs.Growing.{IsKept, IsStatedStill}

-- SESSIONS
-- the item's owner is registered
abbrev pub is_known : SchemeValue → Item → Bool
is_known sc (item.Tap r) = knows_owner sc r.owner
is_known sc (item.Stated v) = knows_owner sc v.owner

-- a session from these stores on, of items of the lists
abbrev pub IsSessionOf : SchemeValue → (ℕ → List RecordValue) → StoresValue → Session → Type 0
IsSessionOf sc lists h (Collects g) = AllByRecursion (IsOf lists) (accepted_by g) × IsGathering sc h.outbox g
IsSessionOf sc lists h (Serves_owner owner v) = (knows_owner sc owner ≡ true) × IsService sc owner h.outbox (h.ledgers owner) v
IsSessionOf sc lists h (Closes_day owner device day) = (knows_owner sc owner ≡ true) × MayClose (h.ledgers owner) device day × IsDay day
IsSessionOf sc lists h (Retires_lane owner device) = (knows_owner sc owner ≡ true) × MayRetire (h.ledgers owner) device
IsSessionOf sc lists h (Forgets owner device day) = (knows_owner sc owner ≡ true) × MayForget (h.ledgers owner) device day

-- each is one from the stores that those before it left
abbrev pub AreSessionsOf : SchemeValue → (ℕ → List RecordValue) → StoresValue → List Session → Type 0
AreSessionsOf sc lists h [] = Unit {0}
AreSessionsOf sc lists h (q ∷ qs) = IsSessionOf sc lists h q × AreSessionsOf sc lists (stores_after h q) qs

-- A STOP
-- the same of a session that may have been stopped: a close, a retire or a letting go that failed may be one that the ledger would have refused
abbrev pub IsBegunOf : SchemeValue → (ℕ → List RecordValue) → StoresValue → Session → Type 0
IsBegunOf sc lists h (Collects g) = IsSessionOf sc lists h (Collects g)
IsBegunOf sc lists h (Serves_owner owner v) = IsSessionOf sc lists h (Serves_owner owner v)
IsBegunOf sc lists h (Closes_day owner device day) = (knows_owner sc owner ≡ true) × IsDay day
IsBegunOf sc lists h (Retires_lane owner device) = knows_owner sc owner ≡ true
IsBegunOf sc lists h (Forgets owner device day) = knows_owner sc owner ≡ true

-- the owner's session, or one that took also what this one has in its hand, and the first of what is behind it
abbrev pub IsMaybeCommitted : Service → Service → Type 0
IsMaybeCommitted v w = (n : ℕ) × (w ≡ first_taken n v)

-- the owner's session that pruned these lanes too
abbrev pub pruned_too : Service → List ℕ → Service
pruned_too v devices = record v { pruned = v.pruned ++ devices }

-- A stop is a store call that fails together with all calls after it. It leaves what the session had made of the stores until then, or also what that call commits: the store of the item in the hand, or of that and the first of those behind it, the take of the same of an owner, the prune of some lanes more, the close, the retire, or the letting go of the ledger or of the outbox behind it. An owner whose take failed may go on to prune.
abbrev pub IsLeftBy : StoresValue → Session → StoresValue → Type 0
IsLeftBy h (Collects g) k = HasFirst (storing_all h.outbox g.entries) (tried_by g) k.outbox × (k.ledgers ≡ h.ledgers)
IsLeftBy h (Serves_owner owner v) k = (w : Service) × IsMaybeCommitted v w × ((devices : List ℕ) × (k ≡ stores_after h (Serves_owner owner (pruned_too w devices))))
IsLeftBy h (Closes_day owner device day) k = (k ≡ h) ⊎ (MayClose (h.ledgers owner) device day × (k ≡ stores_after h (Closes_day owner device day)))
IsLeftBy h (Retires_lane owner device) k = (k ≡ h) ⊎ (MayRetire (h.ledgers owner) device × (k ≡ stores_after h (Retires_lane owner device)))
IsLeftBy h (Forgets owner device day) k = (k ≡ h) ⊎ (MayForget (h.ledgers owner) device day × ((k ≡ forgotten_by_ledger owner device day h) ⊎ (k ≡ stores_after h (Forgets owner device day))))

-- from stores h the sessions led to stores k: each may have been stopped, and the next went on from what that left
abbrev pub AreLeft : SchemeValue → (ℕ → List RecordValue) → StoresValue → List Session → StoresValue → Type 0
AreLeft sc lists h [] k = k ≡ h
AreLeft sc lists h (q ∷ qs) k = (m : StoresValue) × IsBegunOf sc lists h q × IsLeftBy h q m × AreLeft sc lists m qs k

-- A TAP STORED IN TWO PARTS
-- its link alone
abbrev pub with_link_alone : RecordValue → OutboxValue → OutboxValue
with_link_alone r x = record x { upto = put x.upto r.device r.link }

-- its row alone
abbrev pub with_row_alone : RecordValue → OutboxValue → OutboxValue
with_row_alone r x = record x { rows = put3 x.rows r.owner r.device r.lane (Some r); row_count = x.row_count + 1 }

-- WHAT WAS ANSWERED
-- a stored tap's link is not above the outbox's, and a stored statement is held
abbrev pub IsStored : OutboxValue → Item → Type 0
IsStored x (item.Tap r) = r.link ≤ x.upto r.device
IsStored x (item.Stated v) = x.stated v.owner v.device v.day ≡ Some v.count

-- what was taken is in the ledger, a tap at the place of its lane number
abbrev pub IsTaken : LedgerValue → Item → Type 0
IsTaken l (item.Tap r) = slice_get (l.taken r.device) (r.lane - 1) ≡ Some r
IsTaken l (item.Stated v) = l.stated v.device v.day ≡ Some v.count

-- what the calls of a whole session were answered is in the stores
abbrev pub AreKept : SchemeValue → StoresValue → Session → Type 0
AreKept sc h (Collects g) = AllByRecursion (IsCovered sc h.outbox) (all_answers g) × AllByRecursion (IsStored h.outbox) (items_of g.entries)
AreKept sc h (Serves_owner owner v) = AllByRecursion (IsTaken (h.ledgers owner)) v.taken
AreKept sc h (Closes_day owner device day) = is_closed (h.ledgers owner) device day ≡ true
AreKept sc h (Retires_lane owner device) = (h.ledgers owner).retired device ≡ true
AreKept sc h (Forgets owner device day) = day ≤ (h.ledgers owner).from device

-- the same of a session that may have been stopped: of a close, a retire or a letting go that failed nothing is said
abbrev pub AreAnswered : SchemeValue → StoresValue → Session → Type 0
AreAnswered sc h (Collects g) = AreKept sc h (Collects g)
AreAnswered sc h (Serves_owner owner v) = AreKept sc h (Serves_owner owner v)
AreAnswered sc h (Closes_day owner device day) = Unit {0}
AreAnswered sc h (Retires_lane owner device) = Unit {0}
AreAnswered sc h (Forgets owner device day) = Unit {0}

-- OR LET GO SINCE
-- what is of closed days may be let go, and nothing else is
abbrev pub lets_go : Session → Bool
lets_go (Forgets owner device day) = true
lets_go _ = false

-- the sessions let nothing go
abbrev pub LetNothingGo : List Session → Type 0
LetNothingGo qs = AllByRecursion (λ q. lets_go q ≡ false) qs

-- the outbox has had what is acknowledged: for a day it holds the device's statement for each owner, but for those whose ledger has let the day go
abbrev pub IsCoveredStill : SchemeValue → StoresValue → AckItem → Type 0
IsCoveredStill sc h (ack_item.Upto a) = a.upto ≤ h.outbox.upto a.device
IsCoveredStill sc h (ack_item.Day a) = list_all (λ o. is_some (h.outbox.stated o.0 a.device a.day) || nat_lt a.day ((h.ledgers o.0).from a.device)) sc.owners ≡ true

-- a stored tap's link is not above the outbox's, and a stored statement is held, or of a day that the owner's ledger has let go
abbrev pub IsStoredStill : StoresValue → Item → Type 0
IsStoredStill h (item.Tap r) = r.link ≤ h.outbox.upto r.device
IsStoredStill h (item.Stated v) = IsStatedStill h v.owner v.device v.day v.count

-- what was taken is in the ledger, or was let go
abbrev pub IsTakenStill : LedgerValue → Item → Type 0
IsTakenStill l (item.Tap r) = IsKept (l.taken r.device) (l.from r.device) (r.lane - 1) r
IsTakenStill l (item.Stated v) = (l.stated v.device v.day ≡ Some v.count) ⊎ (v.day < l.from v.device)

-- what a whole session was answered is in the stores, or was let go
abbrev pub AreKeptStill : SchemeValue → StoresValue → Session → Type 0
AreKeptStill sc h (Collects g) = AllByRecursion (IsCoveredStill sc h) (all_answers g) × AllByRecursion (IsStoredStill h) (items_of g.entries)
AreKeptStill sc h (Serves_owner owner v) = AllByRecursion (IsTakenStill (h.ledgers owner)) v.taken
AreKeptStill sc h (Closes_day owner device day) = AreKept sc h (Closes_day owner device day)
AreKeptStill sc h (Retires_lane owner device) = AreKept sc h (Retires_lane owner device)
AreKeptStill sc h (Forgets owner device day) = AreKept sc h (Forgets owner device day)

-- the same of one that may have been stopped
abbrev pub AreAnsweredStill : SchemeValue → StoresValue → Session → Type 0
AreAnsweredStill sc h (Collects g) = AreKeptStill sc h (Collects g)
AreAnsweredStill sc h (Serves_owner owner v) = AreKeptStill sc h (Serves_owner owner v)
AreAnsweredStill sc h _ = Unit {0}
