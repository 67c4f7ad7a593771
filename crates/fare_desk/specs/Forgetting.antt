-- Letting go what is of the days before one, lane by lane, and what is written of it.
use Rattle.std.specs.Prelude.{◌≡◌, ◌⊎◌, ◌||◌, ◌-◌, ℕ, nat_le, Bool, true, false, List, [], ◌∷◌, ◌++◌, codes, Option, is_some, if◌then◌else◌}
use Rattle.std.specs.Fmt.{decimal}
use Rattle.std.specs.Io.KnownBytes.{Appends}
use Rattle.fare_scheme.specs.Words.{position_of_device}
use Rattle.fare_store.specs.Standing.{Standing}
use Rattle.fare_store.specs.OutboxWords.{OutboxValue}
use Rattle.fare_store.specs.LedgerWords.{LedgerValue, gone_of}
use Rattle.fare_history.specs.Stores.{StoresValue, Forgets, stores_after}
use Rattle.fare_sessions.specs.declared.hub.Hub.{Hub}
use Rattle.fare_sessions.specs.Billing.{first_unclosed}
use Rattle.fare_sessions.specs.Stores.{AreClean, AreSound, MayStandAs, ComesOf}
use Rattle.fare_desk.specs.Causes.{IsAtWork}
use Rattle.fare_desk.specs.Closing.{GoesOnLettingGo}
use Rattle.fare_desk.specs.declared.forgetting.LaneGone.{LaneGone}

-- A LANE
-- all days of a device before this one are closed, or its lane is retired
abbrev pub is_over : LedgerValue → ℕ → ℕ → Bool
is_over v device day = v.retired device || nat_le day (first_unclosed v device)

-- the stores without what is of the days of an owner's lane of a device before this one
abbrev pub without : ℕ → ℕ → ℕ → StoresValue → StoresValue
without day owner device h = stores_after h (Forgets owner device day)

-- the same, where these days are over
abbrev pub let_lane_go : ℕ → ℕ → ℕ → StoresValue → StoresValue
let_lane_go day owner device h = if is_over (h.ledgers owner) device day then without day owner device h else h

-- how many taps of a lane went
abbrev pub went : ℕ → ℕ → StoresValue → ℕ
went owner device h = gone_of ((h.ledgers owner).taken device)

-- what comes of it: how many taps more went, from which day on all is held, and whether the days are over
abbrev pub lane_gone : ℕ → ℕ → ℕ → StoresValue → LaneGone
lane_gone day owner device h = record {
  taps = went owner device (let_lane_go day owner device h) - went owner device h;
  from = ((let_lane_go day owner device h).ledgers owner).from device;
  over = is_over (h.ledgers owner) device day;
}

-- some of these days may have gone and nothing else has: without all of them both are the same
abbrev pub HasRest : ℕ → ℕ → ℕ → StoresValue → StoresValue → Type 0
HasRest day owner device h k = without day owner device k ≡ without day owner device h

-- LINES
-- what the line of a lane ends with whose days are not over
abbrev pub open_word : Bool → List ℕ
open_word true = []
open_word false = codes " open"

abbrev pub gone_line : ℕ → ℕ → LaneGone → List ℕ
gone_line owner device lane =
    (codes "forgot " ++ (decimal owner ++ (codes " " ++ (decimal device ++ (codes " taps " ++ decimal lane.taps)))))
    ++ ((codes " from " ++ decimal lane.from) ++ (open_word lane.over ++ codes "\n"))

-- the lines of lanes, of each its numbers
abbrev pub AreGoneLines : List (ℕ × ℕ) → List ℕ → Type 0
AreGoneLines [] text = text ≡ []
AreGoneLines (l ∷ ls) text = (lane : LaneGone) × (rest : List ℕ) × (text ≡ gone_line l.0 l.1 lane ++ rest) × AreGoneLines ls rest

-- LANES
-- the stores once these lanes are let go, one after the other
abbrev pub let_lanes_go : ℕ → List (ℕ × ℕ) → StoresValue → StoresValue
let_lanes_go day [] h = h
let_lanes_go day (l ∷ ls) h = let_lanes_go day ls (let_lane_go day l.0 l.1 h)

-- and the lines of it
abbrev pub gone_lines : ℕ → List (ℕ × ℕ) → StoresValue → List ℕ
gone_lines day [] h = []
gone_lines day (l ∷ ls) h = gone_line l.0 l.1 (lane_gone day l.0 l.1 h) ++ gone_lines day ls (let_lane_go day l.0 l.1 h)

-- the first of these lanes were let go, and of one behind them some days at most
abbrev pub LeavesSome : ℕ → List (ℕ × ℕ) → StoresValue → StoresValue → Type 0
LeavesSome day [] h k = k ≡ h
LeavesSome day (l ∷ ls) h k = HasRest day l.0 l.1 h k ⊎ LeavesSome day ls (let_lane_go day l.0 l.1 h) k

module _ {O L : Type 0} (outbox : O → Standing OutboxValue) (ledger : L → Standing LedgerValue) where
  -- the stores went on, and of an owner's lane of a device some of the days before one may have gone
  pub record LetsSomeGo (day owner device : ℕ) (old new : Hub O L) : Type 0 where
    pub goes : GoesOnLettingGo outbox ledger old new
    pub rest : ComesOf outbox ledger old new (HasRest day owner device)

  -- what is of the days before one may go of an owner's lane: its device is one of the scheme's, no failure has shut the owner's ledger, and the days are over
  pub record MayGo (day owner device : ℕ) (hub : Hub O L) : Type 0 where
    pub known : is_some (position_of_device hub.scheme device) ≡ true
    pub works : IsAtWork outbox ledger hub owner
    pub over : AreClean outbox ledger hub → (h : StoresValue) → MayStandAs outbox ledger hub h → is_over (h.ledgers owner) device day ≡ true

  -- these lanes were let go, and the lines of it written
  pub record LetsGo (day : ℕ) (lanes : List (ℕ × ℕ)) (old new : Hub O L) (before after : Option (List ℕ)) : Type 0 where
    pub text : List ℕ
    pub written : Appends before after text
    pub lines : AreGoneLines lanes text
    pub came : AreClean outbox ledger new → AreSound outbox ledger old → (k : StoresValue) → MayStandAs outbox ledger new k → (h : StoresValue) × MayStandAs outbox ledger old h × (text ≡ gone_lines day lanes h) × (k ≡ let_lanes_go day lanes h)
