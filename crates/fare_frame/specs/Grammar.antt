-- Frames as bytes: a length of two bytes, the highest first, which counts the bytes after itself, a type of one byte, and a body.
use Rattle.std.specs.Prelude.{◌≡◌, ◌≢◌, ◌==◌, ◌+◌, ◌-◌, ◌*◌, ◌<◌, ◌≤◌, ◌⊎◌, ℕ, Bool, true, false, List, ◌∷◌, ◌++◌, length, take, Option, Some, None}
use Rattle.std.specs.List.{flat_map}
use Rattle.fare_record.specs.Values.{RecordValue, StatementValue, AckValue, DayAckValue, HelloValue}
use Rattle.fare_record.specs.declared.ack_item.AckItem.{AckItem}
use Rattle.fare_record.specs.declared.ack_item.AckItem.TheVariants as ack_item
use Rattle.fare_record.specs.Bodies.{record_bytes, record_in, routed_bytes, routed_in, statement_bytes, statement_in, ack_bytes, ack_in, day_ack_bytes, day_ack_in, hello_bytes, hello_in}
use Rattle.fare_record.specs.Lawful.{IsLawfulRecord, IsLawfulStatement, IsLawfulAck, IsLawfulDayAck, IsLawfulHello}
use Rattle.fare_frame.specs.Table.{code_of, length_of, head_of}
use Rattle.fare_frame.specs.declared.fault.ReadFault.{ReadFault}
use Rattle.fare_frame.specs.declared.fault.ReadFault.TheVariants.{BadLength, BadType, BadBody}
use Rattle.fare_frame.specs.declared.frame.Frame.{Frame}
use Rattle.fare_frame.specs.declared.frame.Frame.TheVariants.{Tapped, Stated, Acked, DayAcked, Greeted}
use Rattle.fare_frame.specs.declared.kind.Kind.{Kind}
use Rattle.fare_frame.specs.declared.kind.Kind.TheVariants as kind

-- FRAMES
-- a tap's kind and body, where its route is 0 or another: only another is spelled
abbrev pub tap_kind : Bool → Kind
tap_kind true = kind.Tapped
tap_kind false = kind.Routed

abbrev pub tap_body : Bool → RecordValue → List ℕ
tap_body true r = record_bytes r
tap_body false r = routed_bytes r

abbrev pub kind_of : Frame → Kind
kind_of (Tapped r) = tap_kind (r.tap.route == 0)
kind_of (Stated _) = kind.Stated
kind_of (Acked _) = kind.Acked
kind_of (DayAcked _) = kind.DayAcked
kind_of (Greeted _) = kind.Greeted

abbrev pub body_of : Frame → List ℕ
body_of (Tapped r) = tap_body (r.tap.route == 0) r
body_of (Stated s) = statement_bytes s
body_of (Acked a) = ack_bytes a
body_of (DayAcked a) = day_ack_bytes a
body_of (Greeted h) = hello_bytes h

-- the one spelling of a frame
abbrev pub frame_bytes : Frame → List ℕ
frame_bytes f = head_of (kind_of f) ++ body_of f

-- frames one after the other
abbrev pub spelling_of : List Frame → List ℕ
spelling_of frames = flat_map frame_bytes frames

-- the record of a numbered tap
abbrev pub tap_of : Frame → Option RecordValue
tap_of (Tapped r) = Some r
tap_of _ = None

-- a device's statement
abbrev pub statement_of : Frame → Option StatementValue
statement_of (Stated s) = Some s
statement_of _ = None

-- the acknowledgement of taps
abbrev pub ack_of : Frame → Option AckValue
ack_of (Acked a) = Some a
ack_of _ = None

-- the acknowledgement of a day's statements
abbrev pub day_ack_of : Frame → Option DayAckValue
day_ack_of (DayAcked a) = Some a
day_ack_of _ = None

-- a greeting
abbrev pub hello_of : Frame → Option HelloValue
hello_of (Greeted h) = Some h
hello_of _ = None

-- the frame of an acknowledgement
abbrev pub frame_of : AckItem → Frame
frame_of (ack_item.Upto a) = Acked a
frame_of (ack_item.Day a) = DayAcked a

-- the frame of a kind with the numbers in a body, whatever they are
abbrev pub frame_in : Kind → List ℕ → Frame
frame_in kind.Tapped body = Tapped (record_in body)
frame_in kind.Stated body = Stated (statement_in body)
frame_in kind.Acked body = Acked (ack_in body)
frame_in kind.DayAcked body = DayAcked (day_ack_in body)
frame_in kind.Greeted body = Greeted (hello_in body)
frame_in kind.Routed body = Tapped (routed_in body)

-- each number of the frame is within its limits
abbrev pub IsFrame : Frame → Type 0
IsFrame (Tapped r) = IsLawfulRecord r
IsFrame (Stated s) = IsLawfulStatement s
IsFrame (Acked a) = IsLawfulAck a
IsFrame (DayAcked a) = IsLawfulDayAck a
IsFrame (Greeted h) = IsLawfulHello h

-- so it is, and it is spelled as one of this kind
abbrev pub IsFrameOf : Kind → Frame → Type 0
IsFrameOf k f = IsFrame f × (kind_of f ≡ k)

-- PLACES
-- these three bytes are the head of the kind's frames
pub record IsHead (k : Kind) (high low code : ℕ) : Type 0 where
  pub counts : length_of k ≡ 256 * high + low
  pub type : code_of k ≡ code

-- what stands at a frame's place is less than a whole frame: fewer than three bytes, or a right head and not all of its bytes
abbrev pub IsRest : List ℕ → Type 0
IsRest (high ∷ low ∷ code ∷ body) = (k : Kind) × IsHead k high low code × (length body + 1 < length_of k)
IsRest _ = Unit {0}

-- the length is that of no kind, or the type is that of a kind with another length
abbrev pub IsBadLength : ℕ → ℕ → Type 0
IsBadLength n code = ((k : Kind) → length_of k ≢ n) ⊎ ((k : Kind) × (code_of k ≡ code) × (length_of k ≢ n))

-- the length is that of a kind, and the type that of none
abbrev pub IsBadType : ℕ → ℕ → Type 0
IsBadType n code = ((k : Kind) × (length_of k ≡ n)) × ((k : Kind) → code_of k ≢ code)

-- the fault of a length and a type
abbrev pub IsHeadFault : ℕ → ℕ → ReadFault → Type 0
IsHeadFault n code BadLength = IsBadLength n code
IsHeadFault n code BadType = IsBadType n code
IsHeadFault n code _ = ⊥

-- behind a right head all bytes of the frame are there, and a number in its body is out of its limits, or its route is 0
abbrev pub IsBadBody : Kind → List ℕ → Type 0
IsBadBody k body = (length_of k ≤ length body + 1) × (IsFrameOf k (frame_in k (take (length_of k - 1) body)) → ⊥)

-- the fault stands at a frame's place, once its first three bytes are there
abbrev pub IsFault : List ℕ → ReadFault → Type 0
IsFault (high ∷ low ∷ code ∷ body) BadLength = IsBadLength (256 * high + low) code
IsFault (high ∷ low ∷ code ∷ body) BadType = IsBadType (256 * high + low) code
IsFault (high ∷ low ∷ code ∷ body) BadBody = (k : Kind) × IsHead k high low code × IsBadBody k body
IsFault _ _ = ⊥
