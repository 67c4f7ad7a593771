-- Where each device's lanes stand, and what is written of it.
use Rattle.std.specs.Prelude.{◌≡◌, ℕ, zero, suc, ◌+◌, ◌<◌, ◌≤◌, ◌==◌, List, [], ◌∷◌, ◌++◌, length, codes, Bool, true, false, Option, Some, None, is_some, if◌then◌else◌}
use Rattle.std.specs.List.{flat_map}
use Rattle.std.specs.Fmt.{decimal}
use Rattle.std.specs.Io.KnownBytes.{Appends}
use Rattle.std.specs.Map.{keys_of}
use Rattle.fare_store.specs.Standing.{Standing}
use Rattle.fare_store.specs.OutboxWords.{OutboxValue}
use Rattle.fare_store.specs.LedgerWords.{LedgerValue, closed_through}
use Rattle.fare_history.specs.Stores.{StoresValue}
use Rattle.fare_sessions.specs.declared.hub.Hub.{Hub}
use Rattle.fare_sessions.specs.Billing.{first_unclosed, of_a_day}
use Rattle.fare_sessions.specs.Stores.{AreClean, AreSound, StoresFollow, MayStandAs}
use Rattle.fare_desk.specs.Closing.{lanes_of}
use Rattle.fare_desk.specs.declared.standing.Lane.{Lane}

-- from this place on a table has so many entries: none, or one at a first place, and the others from the place behind it on
abbrev pub HasFrom : {A : Type 0} → (ℕ → Option A) → ℕ → ℕ → Type 0
HasFrom table from zero = (place : ℕ) → from ≤ place → table place ≡ None
HasFrom table from (suc n) = (first : ℕ) × (from ≤ first) × (is_some (table first) ≡ true) × ((place : ℕ) → from ≤ place → place < first → table place ≡ None) × HasFrom table (first + 1) n

-- so many rows of a lane that its owner has not taken, and so many statements of days that it has not closed
abbrev pub HasRows : StoresValue → ℕ → ℕ → ℕ → Type 0
HasRows h owner device n = HasFrom (h.outbox.rows owner device) (length ((h.ledgers owner).taken device) + 1) n

-- the counts of a device's days
abbrev pub stated_days : OutboxValue → ℕ → ℕ → ℕ → Option ℕ
stated_days x owner device = of_a_day (x.stated owner device)

abbrev pub HasStatements : StoresValue → ℕ → ℕ → ℕ → Type 0
HasStatements h owner device n = HasFrom (stated_days h.outbox owner device) (first_unclosed (h.ledgers owner) device) n

-- where an owner's lane of a device stands: how many taps are taken, the last closed day, how many rows and statements wait, from which day on all is held, and whether it is retired
pub record IsLane (h : StoresValue) (owner device : ℕ) (lane : Lane) : Type 0 where
  pub taken : lane.taken ≡ length ((h.ledgers owner).taken device)
  pub closed : lane.closed ≡ closed_through (h.ledgers owner) device
  pub rows : HasRows h owner device lane.rows
  pub statements : HasStatements h owner device lane.statements
  pub from : lane.from ≡ (h.ledgers owner).from device
  pub retired : lane.retired ≡ (h.ledgers owner).retired device

-- LINES
abbrev pub upto_line : ℕ → ℕ → List ℕ
upto_line device upto = codes "upto " ++ (decimal device ++ (codes " " ++ (decimal upto ++ codes "\n")))

abbrev pub closed_word : Option ℕ → List ℕ
closed_word None = codes "none"
closed_word (Some day) = decimal day

-- from which day on a lane is held, where something of it was let go
abbrev pub held_word : ℕ → List ℕ
held_word day = if day == 0 then [] else codes " from " ++ decimal day

-- what the line of a retired lane ends with
abbrev pub retired_word : Bool → List ℕ
retired_word true = codes " retired"
retired_word false = []

abbrev pub lane_line : ℕ → ℕ → Lane → List ℕ
lane_line owner device lane =
    (codes "lane " ++ (decimal owner ++ (codes " " ++ (decimal device ++ (codes " taken " ++ (decimal lane.taken ++ codes " closed "))))))
    ++ (closed_word lane.closed
    ++ ((codes " rows " ++ (decimal lane.rows ++ (codes " statements " ++ decimal lane.statements)))
    ++ (held_word lane.from ++ (retired_word lane.retired ++ codes "\n"))))

-- the lines of devices, of each one number
abbrev pub AreUptoLines : List ℕ → List ℕ → Type 0
AreUptoLines [] text = text ≡ []
AreUptoLines (device ∷ devices) text = (upto : ℕ) × (rest : List ℕ) × (text ≡ upto_line device upto ++ rest) × AreUptoLines devices rest

-- the lines of lanes, of each its numbers
abbrev pub AreLaneLines : List (ℕ × ℕ) → List ℕ → Type 0
AreLaneLines [] text = text ≡ []
AreLaneLines (l ∷ ls) text = (lane : Lane) × (rest : List ℕ) × (text ≡ lane_line l.0 l.1 lane ++ rest) × AreLaneLines ls rest

-- the lines of devices, of each what the outbox has had of it
abbrev pub uptos_text : List ℕ → OutboxValue → List ℕ
uptos_text devices x = flat_map (λ device. upto_line device (x.upto device)) devices

-- the lines of lanes, of each where it stands
abbrev pub ShowsLanes : List (ℕ × ℕ) → StoresValue → List ℕ → Type 0
ShowsLanes [] h text = text ≡ []
ShowsLanes (l ∷ ls) h text = (lane : Lane) × (rest : List ℕ) × IsLane h l.0 l.1 lane × (text ≡ lane_line l.0 l.1 lane ++ rest) × ShowsLanes ls h rest

module _ {O L : Type 0} (outbox : O → Standing OutboxValue) (ledger : L → Standing LedgerValue) where
  -- the stores were read: what may stand now might have stood before
  pub record OnlyAsks (old new : Hub O L) : Type 0 where
    pub scheme : new.scheme ≡ old.scheme
    pub follow : StoresFollow outbox ledger old new
    pub sound : AreSound outbox ledger old → AreSound outbox ledger new
    pub same : AreClean outbox ledger new → AreSound outbox ledger old → (k : StoresValue) → MayStandAs outbox ledger new k → MayStandAs outbox ledger old k

  -- a text grew by the lines of these devices
  pub record AddsUptos (devices : List ℕ) (old new : Hub O L) (before after : List ℕ) : Type 0 where
    pub asks : OnlyAsks old new
    pub text : List ℕ
    pub grown : after ≡ before ++ text
    pub lines : AreUptoLines devices text
    pub shown : AreClean outbox ledger new → AreSound outbox ledger old → (h : StoresValue) → MayStandAs outbox ledger new h → text ≡ uptos_text devices h.outbox

  -- and by those of these lanes
  pub record AddsLanes (lanes : List (ℕ × ℕ)) (old new : Hub O L) (before after : List ℕ) : Type 0 where
    pub asks : OnlyAsks old new
    pub text : List ℕ
    pub grown : after ≡ before ++ text
    pub lines : AreLaneLines lanes text
    pub shown : AreClean outbox ledger new → AreSound outbox ledger old → (h : StoresValue) → MayStandAs outbox ledger new h → ShowsLanes lanes h text

  -- what the outbox has had of each device, and then where each lane stands, was written
  pub record WritesStanding (old new : Hub O L) (before after : Option (List ℕ)) : Type 0 where
    pub uptos : List ℕ
    pub lanes : List ℕ
    pub written : Appends before after (uptos ++ lanes)
    pub upto_lines : AreUptoLines (keys_of old.scheme.devices) uptos
    pub lane_lines : AreLaneLines (lanes_of old.scheme) lanes
    pub uptos_are : AreClean outbox ledger new → AreSound outbox ledger old → (h : StoresValue) → MayStandAs outbox ledger new h → uptos ≡ uptos_text (keys_of old.scheme.devices) h.outbox
    pub lanes_are : AreClean outbox ledger new → AreSound outbox ledger old → (h : StoresValue) → MayStandAs outbox ledger new h → ShowsLanes (lanes_of old.scheme) h lanes
