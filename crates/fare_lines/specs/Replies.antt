-- The text of a reply: its words with one space between each two, ended by a line feed.
use Rattle.std.specs.Prelude.{ℕ, ◌==◌, List, [], ◌∷◌, ◌++◌, length, codes, if◌then◌else◌}
use Rattle.std.specs.List.{join_with_byte, flat_map}
use Rattle.std.specs.Fmt.{decimal}
use Rattle.fare_cap.specs.declared.row.Row.{Row}
use Rattle.fare_settle.specs.declared.route_share.RouteShare.{RouteShare}
use Rattle.fare_settle.specs.Values.{SettledValue}
use Rattle.fare_event.specs.declared.reply.Reply.{Reply}
use Rattle.fare_event.specs.declared.reply.Reply.TheVariants as reply
use Rattle.fare_event.specs.declared.reply.Refusal.{Refusal}
use Rattle.fare_event.specs.declared.reply.Refusal.TheVariants as refusal

-- the name of a refusal
abbrev pub refusal_name : Refusal → List ℕ
refusal_name refusal.Unsealed = codes "Unsealed"
refusal_name refusal.Sealed = codes "Sealed"
refusal_name refusal.Range = codes "Range"
refusal_name refusal.ZeroId = codes "ZeroId"
refusal_name refusal.Taken = codes "Taken"
refusal_name refusal.UnknownParent = codes "UnknownParent"
refusal_name refusal.TooMany = codes "TooMany"
refusal_name refusal.NothingRegistered = codes "NothingRegistered"
refusal_name refusal.NoStart = codes "NoStart"
refusal_name refusal.NoZone = codes "NoZone"
refusal_name refusal.BadZone = codes "BadZone"
refusal_name refusal.UnknownDevice = codes "UnknownDevice"
refusal_name refusal.UnknownOwner = codes "UnknownOwner"
refusal_name refusal.UnknownStation = codes "UnknownStation"
refusal_name refusal.BadMoment = codes "BadMoment"
refusal_name refusal.UnknownProduct = codes "UnknownProduct"
refusal_name refusal.DayClosed = codes "DayClosed"
refusal_name refusal.DayAhead = codes "DayAhead"
refusal_name refusal.NumbersSpent = codes "NumbersSpent"
refusal_name refusal.BufferFull = codes "BufferFull"
refusal_name refusal.NoPacket = codes "NoPacket"
refusal_name refusal.Stranger = codes "Stranger"
refusal_name refusal.Misrouted = codes "Misrouted"
refusal_name refusal.Old = codes "Old"
refusal_name refusal.Ahead = codes "Ahead"
refusal_name refusal.AckAhead = codes "AckAhead"
refusal_name refusal.LastDay = codes "LastDay"
refusal_name refusal.StatementsFull = codes "StatementsFull"
refusal_name refusal.NotWaiting = codes "NotWaiting"
refusal_name refusal.Busy = codes "Busy"
refusal_name refusal.HandFull = codes "HandFull"
refusal_name refusal.Duplicate = codes "Duplicate"
refusal_name refusal.Gap = codes "Gap"
refusal_name refusal.Conflict = codes "Conflict"
refusal_name refusal.OutboxFull = codes "OutboxFull"
refusal_name refusal.NotMine = codes "NotMine"
refusal_name refusal.Retired = codes "Retired"
refusal_name refusal.AfterClose = codes "AfterClose"
refusal_name refusal.Unstated = codes "Unstated"
refusal_name refusal.Repeated = codes "Repeated"
refusal_name refusal.AlreadyClosed = codes "AlreadyClosed"
refusal_name refusal.OutOfOrder = codes "OutOfOrder"
refusal_name (refusal.CountsShort stated taken) = codes "CountsShort"
refusal_name (refusal.CountsOver stated taken) = codes "CountsOver"
refusal_name refusal.BeforeStart = codes "BeforeStart"
refusal_name (refusal.Forgotten device) = codes "Forgotten"
refusal_name (refusal.NotClosed device) = codes "NotClosed"

-- the numbers that are shown with it
abbrev pub refusal_numbers : Refusal → List (List ℕ)
refusal_numbers (refusal.CountsShort stated taken) = decimal stated ∷ decimal taken ∷ []
refusal_numbers (refusal.CountsOver stated taken) = decimal stated ∷ decimal taken ∷ []
refusal_numbers (refusal.Forgotten device) = decimal device ∷ []
refusal_numbers (refusal.NotClosed device) = decimal device ∷ []
refusal_numbers _ = []

-- the words of a reply
abbrev pub reply_words : Reply → List (List ℕ)
reply_words reply.Done = codes "ok" ∷ []
reply_words reply.Idle = codes "idle" ∷ []
reply_words reply.Empty = codes "empty" ∷ []
reply_words (reply.Refused name) = codes "refused" ∷ refusal_name name ∷ refusal_numbers name
reply_words (reply.Opened day) = codes "open" ∷ decimal day ∷ []
reply_words (reply.Recorded link lane) = codes "record" ∷ decimal link ∷ decimal lane ∷ []
reply_words (reply.Sent packet link) = codes "packet" ∷ decimal packet ∷ codes "link" ∷ decimal link ∷ []
reply_words (reply.SentDay packet day owner) = codes "packet" ∷ decimal packet ∷ codes "day" ∷ decimal day ∷ codes "owner" ∷ decimal owner ∷ []
reply_words reply.Rewound = codes "rewound" ∷ []
reply_words reply.Accepted = codes "accepted" ∷ []
reply_words (reply.Dropped count) = codes "acked" ∷ decimal count ∷ []
reply_words (reply.DroppedDay day) = codes "acked" ∷ codes "day" ∷ decimal day ∷ []
reply_words (reply.Drawn device link) = codes "drawn" ∷ decimal device ∷ codes "link" ∷ decimal link ∷ []
reply_words (reply.DrawnDay device day owner) = codes "drawn" ∷ decimal device ∷ codes "day" ∷ decimal day ∷ codes "owner" ∷ decimal owner ∷ []
reply_words (reply.Stored device link) = codes "stored" ∷ decimal device ∷ codes "link" ∷ decimal link ∷ []
reply_words (reply.StoredDay device day owner) = codes "stored" ∷ decimal device ∷ codes "day" ∷ decimal day ∷ codes "owner" ∷ decimal owner ∷ []
reply_words (reply.Acknowledged upto) = codes "ack" ∷ decimal upto ∷ []
reply_words (reply.AcknowledgedDay day) = codes "dayack" ∷ decimal day ∷ []
reply_words (reply.Answered packet device upto) = codes "packet" ∷ decimal packet ∷ codes "ack" ∷ decimal device ∷ decimal upto ∷ []
reply_words (reply.AnsweredDay packet device day) = codes "packet" ∷ decimal packet ∷ codes "dayack" ∷ decimal device ∷ decimal day ∷ []
reply_words (reply.Forwarded lane) = codes "forwarded" ∷ codes "lane" ∷ decimal lane ∷ []
reply_words (reply.ForwardedDay day) = codes "forwarded" ∷ codes "day" ∷ decimal day ∷ []
reply_words (reply.Fetched device lane) = codes "fetched" ∷ decimal device ∷ codes "lane" ∷ decimal lane ∷ []
reply_words (reply.FetchedDay device day) = codes "fetched" ∷ decimal device ∷ codes "day" ∷ decimal day ∷ []
reply_words (reply.Taken device lane) = codes "taken" ∷ decimal device ∷ codes "lane" ∷ decimal lane ∷ []
reply_words (reply.Stated device day count) = codes "stated" ∷ decimal device ∷ codes "day" ∷ decimal day ∷ codes "count" ∷ decimal count ∷ []
reply_words (reply.Closed device day) = codes "closed" ∷ decimal device ∷ decimal day ∷ []
reply_words (reply.Retired device) = codes "retired" ∷ decimal device ∷ []
reply_words (reply.Resumed upto) = codes "resumed" ∷ decimal upto ∷ []
reply_words reply.Restarted = codes "restarted" ∷ []
reply_words (reply.Upto number) = codes "upto" ∷ decimal number ∷ []
reply_words (reply.Count number) = codes "count" ∷ decimal number ∷ []
reply_words (reply.Pruned rows) = codes "pruned" ∷ decimal rows ∷ []
reply_words (reply.Bill owner day bill short) = codes "bill" ∷ decimal owner ∷ decimal day ∷ decimal (length bill.rows) ∷ decimal bill.total ∷ []
reply_words (reply.Settlement owner day settlement short) = codes "settlement" ∷ decimal owner ∷ decimal day ∷ decimal (length settlement) ∷ []

-- the words of an account's row of a bill, and of an operator's row of a settlement
abbrev pub account_words : Row → List (List ℕ)
account_words row = codes "account" ∷ decimal row.account.product ∷ decimal row.account.token ∷ decimal row.rides ∷ decimal row.amount ∷ []

abbrev pub operator_words : SettledValue → List (List ℕ)
operator_words share = codes "operator" ∷ decimal share.operator ∷ decimal share.taps ∷ decimal share.amount ∷ []

-- the words of a route's row behind its operator's
abbrev pub route_words : RouteShare → List (List ℕ)
route_words share = codes "route" ∷ decimal share.route ∷ decimal share.taps ∷ decimal share.amount ∷ []

-- the words of a device of which a bill or a settlement is short
abbrev pub short_words : ℕ → List (List ℕ)
short_words device = codes "short" ∷ decimal device ∷ []

-- words with one space between each two, ended by a line feed
abbrev pub words_line : List (List ℕ) → List ℕ
words_line words = join_with_byte 32 words ++ (10 ∷ [])

-- a line for each row
abbrev pub rows_text : {X : Type 0} → (X → List (List ℕ)) → List X → List ℕ
rows_text words rows = flat_map (λ row. words_line (words row)) rows

-- a line for each route but 0
abbrev pub route_text : RouteShare → List ℕ
route_text share = if share.route == 0 then [] else words_line (route_words share)

abbrev pub routes_text : List RouteShare → List ℕ
routes_text shares = flat_map route_text shares

-- an operator's line, and those of its routes
abbrev pub operator_text : SettledValue → List ℕ
operator_text share = words_line (operator_words share) ++ routes_text share.routes

abbrev pub operators_text : List SettledValue → List ℕ
operators_text shares = flat_map operator_text shares

-- the one spelling of a reply
abbrev pub reply_text : Reply → List ℕ
reply_text (reply.Bill owner day bill short) = words_line (reply_words (reply.Bill owner day bill short)) ++ rows_text account_words bill.rows ++ rows_text short_words short
reply_text (reply.Settlement owner day settlement short) = words_line (reply_words (reply.Settlement owner day settlement short)) ++ operators_text settlement ++ rows_text short_words short
reply_text r = words_line (reply_words r)

-- the spellings of replies, one after the other
abbrev pub replies_text : List Reply → List ℕ
replies_text rs = flat_map reply_text rs

-- a reply of how a statement moved from one part to the next
abbrev pub IsMovedDay : Reply → Type 0
IsMovedDay (reply.SentDay packet day owner) = Unit {0}
IsMovedDay (reply.DroppedDay day) = Unit {0}
IsMovedDay (reply.DrawnDay device day owner) = Unit {0}
IsMovedDay (reply.StoredDay device day owner) = Unit {0}
IsMovedDay (reply.AcknowledgedDay day) = Unit {0}
IsMovedDay (reply.AnsweredDay packet device day) = Unit {0}
IsMovedDay (reply.ForwardedDay day) = Unit {0}
IsMovedDay (reply.FetchedDay device day) = Unit {0}
IsMovedDay (reply.Stated device day count) = Unit {0}
IsMovedDay _ = ⊥

-- a reply of how a tap or a statement did
abbrev pub IsMoved : Reply → Type 0
IsMoved (reply.Recorded link lane) = Unit {0}
IsMoved (reply.Sent packet link) = Unit {0}
IsMoved (reply.Dropped count) = Unit {0}
IsMoved (reply.Drawn device link) = Unit {0}
IsMoved (reply.Stored device link) = Unit {0}
IsMoved (reply.Acknowledged upto) = Unit {0}
IsMoved (reply.Answered packet device upto) = Unit {0}
IsMoved (reply.Forwarded lane) = Unit {0}
IsMoved (reply.Fetched device lane) = Unit {0}
IsMoved (reply.Taken device lane) = Unit {0}
IsMoved r = IsMovedDay r
