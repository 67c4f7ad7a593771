-- What the calls of a source over a line make of it.
use Rattle.std.specs.Prelude.{◌≡◌, ◌≢◌, ℕ, ◌<◌, ◌≤◌, ◌+◌, ◌*◌, ◌⊎◌, true, false, List, [], ◌∷◌, ◌++◌, length, Option, Some, None, Result, Ok, Err}
use Rattle.std.specs.Io.KnownBytes.{Appends, Consumes, IsAtEnd}
use Rattle.fare_record.specs.Values.{HelloValue}
use Rattle.fare_frame.specs.Grammar.{frame_bytes, hello_of, IsRest}
use Rattle.fare_frame.specs.Reading.{Spells, HasNoFrame}
use Rattle.fare_frame.specs.declared.frame.Frame.{Frame}
use Rattle.fare_frame.specs.declared.frame.Frame.TheVariants.{Greeted}
use Rattle.fare_scheme.specs.Values.{SchemeValue}
use Rattle.fare_scheme.specs.Words.{station_of}
use Rattle.fare_source.specs.Talking.{Talk}
use Rattle.fare_source.specs.declared.fault.SourceFault.{SourceFault}
use Rattle.fare_source.specs.declared.fault.SourceFault.TheVariants as source
use Rattle.fare_net.specs.Intakes.{fresh_intake}
use Rattle.fare_net.specs.NetValue.{NetValue}
use Rattle.fare_net.specs.Spoken.{IsSpoken}
use Rattle.fare_net.specs.declared.fault.HelloFault.{HelloFault}
use Rattle.fare_net.specs.declared.fault.HelloFault.TheVariants as hello
use Rattle.fare_net.specs.declared.intake.Stage.TheVariants.{Ended}

-- its reader is at its end, and no frame waits
pub record HasEnded (v : NetValue) : Type 0 where
  pub greeted : v.refused ≡ false
  pub stage : v.intake.stage ≡ Ended
  pub pending : v.intake.pending ≡ []

abbrev pub talk_of : NetValue → Talk
talk_of v = record { given = v.given; answered = v.answered; failures = v.failures; ended = HasEnded v }

abbrev pub fresh_source : Option (List ℕ) → Option (List ℕ) → ℕ → NetValue
fresh_source unread written turns = record {
  intake = fresh_intake;
  unread = unread;
  written = written;
  unsent = [];
  given = [];
  answered = [];
  failures = 0;
  refused = false;
  cut = false;
  turns = turns;
}

-- ANSWERING
-- of what it was answered and had not sent, so much went out, and the rest waits; or there was some, and the writer failed
abbrev pub SendsOn : NetValue → NetValue → Type 0
SendsOn old new = ((sent : List ℕ) × Appends old.written new.written sent × (old.unsent ≡ sent ++ new.unsent) × (new.cut ≡ old.cut)) ⊎ ((old.unsent ≢ []) × (old.cut ≡ false) × (new.cut ≡ true))

-- nothing waits to be sent, or the writer failed
abbrev pub IsToldAll : NetValue → Type 0
IsToldAll v = (v.cut ≡ true) ⊎ (v.unsent ≡ [])

-- it sent on, and nothing else changed
pub record Sends (old new : NetValue) : Type 0 where
  pub goes : SendsOn old new
  pub intake : new.intake ≡ old.intake
  pub unread : new.unread ≡ old.unread
  pub given : new.given ≡ old.given
  pub answered : new.answered ≡ old.answered
  pub failures : new.failures ≡ old.failures
  pub refused : new.refused ≡ old.refused
  pub turns : new.turns ≡ old.turns

-- it was handed an answer: what went out and what waits are what waited, and then the frame's bytes
abbrev pub Hands : NetValue → NetValue → Frame → Type 0
Hands old new f = (sent : List ℕ) × Appends old.written new.written sent × (old.unsent ++ frame_bytes f ≡ sent ++ new.unsent)

-- READING
-- More was read: what was read more is what the reader gave, in at most so many reads as are gone.
pub record HasReadMore (old new : NetValue) (more : List ℕ) : Type 0 where
  pub read : new.intake.read ≡ old.intake.read ++ more
  pub unread : Consumes old.unread new.unread more
  pub few : length more + 4096 * new.turns ≤ 4096 * old.turns

-- it read on, and nothing else changed
pub record Advances (old new : NetValue) : Type 0 where
  pub more : List ℕ
  pub reads : HasReadMore old new more
  pub taken : new.intake.taken ≡ old.intake.taken
  pub written : new.written ≡ old.written
  pub unsent : new.unsent ≡ old.unsent
  pub given : new.given ≡ old.given
  pub answered : new.answered ≡ old.answered
  pub failures : new.failures ≡ old.failures
  pub refused : new.refused ≡ old.refused
  pub cut : new.cut ≡ old.cut

-- it sent on and read on, and nothing else changed
pub record Listens (old new : NetValue) : Type 0 where
  pub more : List ℕ
  pub reads : HasReadMore old new more
  pub goes : SendsOn old new
  pub taken : new.intake.taken ≡ old.intake.taken
  pub given : new.given ≡ old.given
  pub answered : new.answered ≡ old.answered
  pub failures : new.failures ≡ old.failures
  pub refused : new.refused ≡ old.refused

-- it sent on and read on
pub record HasRead (old new : NetValue) : Type 0 where
  pub more : List ℕ
  pub reads : HasReadMore old new more
  pub goes : SendsOn old new
  pub refused : new.refused ≡ old.refused

-- it read and sent nothing
pub record IsStill (old new : NetValue) : Type 0 where
  pub read : new.intake.read ≡ old.intake.read
  pub unread : new.unread ≡ old.unread
  pub written : new.written ≡ old.written
  pub unsent : new.unsent ≡ old.unsent
  pub cut : new.cut ≡ old.cut
  pub turns : new.turns ≡ old.turns

-- a call failed, which counts, and nothing else changed
pub record Counts (old new : NetValue) : Type 0 where
  pub intake : new.intake ≡ old.intake
  pub unread : new.unread ≡ old.unread
  pub written : new.written ≡ old.written
  pub unsent : new.unsent ≡ old.unsent
  pub given : new.given ≡ old.given
  pub answered : new.answered ≡ old.answered
  pub refused : new.refused ≡ old.refused
  pub cut : new.cut ≡ old.cut
  pub turns : new.turns ≡ old.turns
  pub failures : (old.failures < new.failures) ⊎ ((18446744073709551615 ≤ old.failures) × (new.failures ≡ old.failures))

-- FRAMES
-- the frames that were taken off stand at the front of the bytes that were read
abbrev pub IsFront : NetValue → Type 0
IsFront v = (rest : List ℕ) × Spells v.intake.read v.intake.taken rest

-- they are all the frames in the bytes that were read: behind them stands what P says
abbrev pub IsWhole : NetValue → (List ℕ → Type 0) → Type 0
IsWhole v P = (rest : List ℕ) × Spells v.intake.read v.intake.taken rest × P rest

-- the reader is at its end, and all frames were taken off
abbrev pub IsAllTaken : NetValue → Type 0
IsAllTaken v = IsWhole v IsRest × IsAtEnd v.unread

-- the next frame was taken off
abbrev pub Finds : NetValue → NetValue → Frame → Type 0
Finds old new f = (new.intake.taken ≡ old.intake.taken ++ f ∷ []) × IsFront new

-- one call for a frame: the next one is taken off; or the reader is at its end and all were; or all in the bytes read
-- were, and no frame stands behind them
abbrev pub TakesOff : NetValue → NetValue → Result (Option Frame) SourceFault → Type 0
TakesOff old new (Ok (Some f)) = Finds old new f
TakesOff old new (Ok None) = (new.intake.taken ≡ old.intake.taken) × IsAllTaken new
TakesOff old new (Err fault) = (fault ≡ source.Failed) × (new.intake.taken ≡ old.intake.taken) × (old.refused ≡ false → IsWhole new HasNoFrame)

-- GREETING
-- it read on, and said nothing; it is refused or not
pub record HasGreeted (old new : NetValue) : Type 0 where
  pub more : List ℕ
  pub reads : HasReadMore old new more
  pub written : new.written ≡ old.written
  pub unsent : new.unsent ≡ old.unsent
  pub given : new.given ≡ old.given
  pub answered : new.answered ≡ old.answered
  pub failures : new.failures ≡ old.failures
  pub cut : new.cut ≡ old.cut

-- the greeting is the next frame, and the station that of its device
pub record Greets (scheme : SchemeValue) (old new : NetValue) (station : ℕ) : Type 0 where
  pub hello : HelloValue
  pub finds : Finds old new (Greeted hello)
  pub version : IsSpoken hello.version
  pub is : station_of scheme hello.device ≡ Some station

-- why a greeting is refused
abbrev pub HelloFails : SchemeValue → NetValue → NetValue → HelloFault → Type 0
HelloFails scheme old new hello.NoHello = ((f : Frame) × Finds old new f × (hello_of f ≡ None)) ⊎ ((new.intake.taken ≡ old.intake.taken) × IsAllTaken new)
HelloFails scheme old new hello.BadVersion = (h : HelloValue) × Finds old new (Greeted h) × (¬ IsSpoken h.version)
HelloFails scheme old new hello.UnknownDevice = (h : HelloValue) × Finds old new (Greeted h) × IsSpoken h.version × (station_of scheme h.device ≡ None)
HelloFails scheme old new hello.Failed = (new.intake.taken ≡ old.intake.taken) × (((old.refused ≡ true) × (new.intake ≡ old.intake)) ⊎ IsWhole new HasNoFrame)
