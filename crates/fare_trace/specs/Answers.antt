-- What the lines of a trace are answered, one after the other.
use Rattle.std.specs.Prelude.{ℕ, ◌≡◌, ◌⊎◌, List, [], ◌∷◌, Bool, true, false, Option, Some, None, IsSome}
use Rattle.jiff_tz.specs.PosixReader.{read_whole}
use Rattle.fare_record.specs.Limits.{IsDay}
use Rattle.fare_day.specs.declared.zone.Zone.{Zone}
use Rattle.fare_day.specs.Clock.{HasRule}
use Rattle.fare_scheme.specs.declared.demo.DemoFault.{DemoFault}
use Rattle.fare_scheme.specs.declared.fault.AddFault.{AddFault}
use Rattle.fare_scheme.specs.declared.fault.AddFault.TheVariants as add
use Rattle.fare_scheme.specs.declared.fault.CapsFault.{CapsFault}
use Rattle.fare_scheme.specs.declared.fault.CapsFault.TheVariants as caps
use Rattle.fare_scheme.specs.declared.fault.HopFault.{HopFault}
use Rattle.fare_scheme.specs.declared.fault.HopFault.TheVariants as hop
use Rattle.fare_scheme.specs.declared.fault.SealFault.{SealFault}
use Rattle.fare_scheme.specs.declared.fault.SealFault.TheVariants as seal
use Rattle.fare_scheme.specs.Values.{DraftValue, SchemeValue}
use Rattle.fare_scheme.specs.Ranges.{IsCapacity}
use Rattle.fare_scheme.specs.Registering.{empty_draft, owner_refusal, operator_refusal, station_refusal, product_refusal, caps_refusal, hop_refusal, device_refusal, with_owner, with_operator, with_station, with_product, with_caps, with_hop, with_device}
use Rattle.fare_scheme.specs.Sealing.{IsSealedFrom, seal_refusal}
use Rattle.fare_scheme.specs.Demo.{demo_refusal, demo_rule, demo_scheme}
use Rattle.fare_event.specs.declared.reply.Reply.{Reply}
use Rattle.fare_event.specs.declared.reply.Reply.TheVariants.{Done, Refused}
use Rattle.fare_event.specs.declared.reply.Refusal.{Refusal}
use Rattle.fare_event.specs.declared.reply.Refusal.TheVariants.{Unsealed, Sealed, Range, ZeroId, Taken, UnknownParent, TooMany, NothingRegistered, NoStart, NoZone, BadZone}
use Rattle.fare_world.specs.System.{System, start}
use Rattle.fare_world.specs.Steps.{step}
use Rattle.fare_lines.specs.declared.line.Line.{Line}
use Rattle.fare_lines.specs.declared.line.Line.TheVariants.{Setup, Step}
use Rattle.fare_lines.specs.declared.line.SchemeLine.{SchemeLine}
use Rattle.fare_lines.specs.declared.line.SchemeLine.TheVariants as scheme
use Rattle.fare_lines.specs.Replies.{replies_text}

-- how far a trace is: a draft, with whether a scheme line was accepted, or the parts of the sealed scheme at a system
pub data Stage : Type 0 where
  Drafting : DraftValue → Bool → Stage
  Running : SchemeValue → System → Stage

abbrev pub first_stage : Stage
first_stage = Drafting empty_draft false

-- REFUSALS OF SCHEME LINES
-- why a line that adds to the draft is refused; want of memory is no refusal
abbrev pub add_refusal : Option AddFault → Option Refusal
add_refusal None = None
add_refusal (Some add.ZeroId) = Some ZeroId
add_refusal (Some add.Taken) = Some Taken
add_refusal (Some add.UnknownParent) = Some UnknownParent
add_refusal (Some add.Range) = Some Range
add_refusal (Some add.TooMany) = Some TooMany
add_refusal (Some add.Memory) = None

-- why caps are refused
abbrev pub cap_refusal : Option CapsFault → Option Refusal
cap_refusal None = None
cap_refusal (Some caps.UnknownParent) = Some UnknownParent
cap_refusal (Some caps.Range) = Some Range

-- why a window is refused
abbrev pub window_refusal : Option HopFault → Option Refusal
window_refusal None = None
window_refusal (Some hop.UnknownParent) = Some UnknownParent
window_refusal (Some hop.Range) = Some Range

-- why a draft is not sealed
abbrev pub seal_name : SealFault → Refusal
seal_name seal.NothingRegistered = NothingRegistered
seal_name seal.NoStart = NoStart
seal_name seal.NoZone = NoZone

-- SCHEME LINES BEFORE THE SEAL
-- the draft has become another one
abbrev pub accepted : DraftValue → Stage × Reply
accepted changed = (Drafting changed true, Done)

-- nothing has changed
abbrev pub refused : DraftValue → Bool → Refusal → Stage × Reply
refused draft used refusal = (Drafting draft used, Refused refusal)

-- the parts of a sealed scheme begin
abbrev pub begun : SchemeValue → Stage × Reply
begun sc = (Running sc (start sc), Done)

-- the draft has become another one, where there is no refusal
abbrev pub entered : DraftValue → Bool → Option Refusal → DraftValue → Stage × Reply
entered draft used None changed = accepted changed
entered draft used (Some refusal) changed = refused draft used refusal

-- the draft has become another one, where that is allowed
abbrev pub Sets : DraftValue → Bool → Type 0 → DraftValue → Stage × Reply → Type 0
Sets draft used allowed changed answer =
    (allowed × (answer ≡ accepted changed)) ⊎ ((allowed → ⊥) × (answer ≡ refused draft used Range))

-- the draft has got a clock that goes by the rule, where the text reads as one
abbrev pub SetsZone : DraftValue → Bool → List ℕ → Stage × Reply → Type 0
SetsZone draft used rule answer =
    (IsSome (read_whole rule) × ((clock : Zone) × HasRule clock rule × (answer ≡ accepted (record draft { zone = Some clock }))))
    ⊎ ((IsSome (read_whole rule) → ⊥) × (answer ≡ refused draft used BadZone))

-- the scheme with the draft's lists and settings has begun, where nothing keeps the draft from being sealed
abbrev pub Seals : DraftValue → Bool → Option SealFault → Stage × Reply → Type 0
Seals draft used None answer = (sc : SchemeValue) × IsSealedFrom draft sc × (answer ≡ begun sc)
Seals draft used (Some fault) answer = answer ≡ refused draft used (seal_name fault)

-- a demonstration scheme whose clock goes by London's rule has begun, where no line was accepted and its numbers
-- are in range
abbrev pub Demonstrates : DraftValue → Bool → Option DemoFault → (Zone → SchemeValue) → Stage × Reply → Type 0
Demonstrates draft true fault demo answer = answer ≡ refused draft true Taken
Demonstrates draft false (Some fault) demo answer = answer ≡ refused draft false Range
Demonstrates draft false None demo answer = (clock : Zone) × HasRule clock demo_rule × (answer ≡ begun (demo clock))

-- the stage after a scheme line, and its reply
abbrev pub SetsUp : DraftValue → Bool → SchemeLine → Stage × Reply → Type 0
SetsUp draft used (scheme.Owner owner lane) answer = answer ≡ entered draft used (add_refusal (owner_refusal draft owner lane)) (with_owner draft owner lane)
SetsUp draft used (scheme.Operator operator) answer = answer ≡ entered draft used (add_refusal (operator_refusal draft operator)) (with_operator draft operator)
SetsUp draft used (scheme.Station station operator) answer = answer ≡ entered draft used (add_refusal (station_refusal draft station operator)) (with_station draft station operator)
SetsUp draft used (scheme.Product product owner fare) answer = answer ≡ entered draft used (add_refusal (product_refusal draft product owner fare)) (with_product draft product owner fare)
SetsUp draft used (scheme.Caps product daily weekly) answer = answer ≡ entered draft used (cap_refusal (caps_refusal draft product daily weekly)) (with_caps draft product daily weekly)
SetsUp draft used (scheme.Hop product seconds) answer = answer ≡ entered draft used (window_refusal (hop_refusal draft product seconds)) (with_hop draft product seconds)
SetsUp draft used (scheme.Device device station buffer) answer = answer ≡ entered draft used (add_refusal (device_refusal draft device station buffer)) (with_device draft device station buffer)
SetsUp draft used (scheme.Inbox capacity) answer = Sets draft used (IsCapacity capacity) (record draft { inbox_capacity = capacity }) answer
SetsUp draft used (scheme.Zone rule) answer = SetsZone draft used rule answer
SetsUp draft used (scheme.Start day) answer = Sets draft used (IsDay day) (record draft { start = Some day }) answer
SetsUp draft used scheme.Seal answer = Seals draft used (seal_refusal draft) answer
SetsUp draft used (scheme.Demo size buffer inbox lane) answer = Demonstrates draft used (demo_refusal buffer inbox lane) (demo_scheme size buffer inbox lane) answer

-- LINES
-- the stage after a line, and its reply
abbrev pub Answers : Stage → Line → Stage × Reply → Type 0
Answers (Drafting draft used) (Setup line) answer = SetsUp draft used line answer
Answers (Drafting draft used) (Step event) answer = answer ≡ refused draft used Unsealed
Answers (Running sc s) (Setup line) answer = answer ≡ (Running sc s, Refused Sealed)
Answers (Running sc s) (Step event) answer = answer ≡ (Running sc (step sc s event).0, (step sc s event).1)

-- the replies to lines, in their order
abbrev pub AnswersAll : Stage → List Line → List Reply → Type 0
AnswersAll stage [] [] = Unit {0}
AnswersAll stage (line ∷ lines) (reply ∷ replies) = (next : Stage) × Answers stage line (next, reply) × AnswersAll next lines replies
AnswersAll stage [] (reply ∷ replies) = ⊥
AnswersAll stage (line ∷ lines) [] = ⊥

-- the bytes of the replies to lines
pub record IsOutput (lines : List Line) (text : List ℕ) : Type 0 where
  pub replies : List Reply
  pub answered : AnswersAll first_stage lines replies
  pub is : text ≡ replies_text replies
