-- The scheme that a run is over: the one that the lines of an input make, or the one that is kept beside the outbox.
use Rattle.std.specs.Prelude.{◌≡◌, ◌⊎◌, ℕ, List, [], ◌∷◌, Option, Some, None, Result, Ok, Err, IfSome}
use Rattle.fare_scheme.specs.Values.{SchemeValue}
use Rattle.fare_lines.specs.declared.line.Line.{Line}
use Rattle.fare_replay.specs.Replay.{FailsToRead, ReadsLines}
use Rattle.fare_trace.specs.Schemes.{Lacks, Makes, Refuses}
use Rattle.fare_trace.specs.declared.schemes.ZonedScheme.{ZonedScheme}
use Rattle.fare_trace.specs.declared.schemes.SchemeFault.{SchemeFault}
use Rattle.fare_trace.specs.declared.schemes.SchemeFault.TheVariants as scheme
use Rattle.fare_keeping.specs.declared.fault.KeepFault.{KeepFault}
use Rattle.fare_keeping.specs.declared.fault.KeepFault.TheVariants as keep
use Rattle.fare_command.specs.declared.words.SchemeSource.{SchemeSource}
use Rattle.fare_command.specs.declared.words.SchemeSource.TheVariants.{Unsaid, Input, File}
use Rattle.fare_run.specs.declared.serve_failure.ServeFailure.{ServeFailure}
use Rattle.fare_run.specs.declared.serve_failure.ServeFailure.TheVariants.{Lines, Refused, NoScheme, Kept, Memory, Store, Network, Write}

-- LINES

-- the input spells lines that make this scheme
pub record SpellsScheme (sc : SchemeValue) (input : List ℕ) : Type 0 where
  pub lines : List Line
  pub read : ReadsLines lines input
  pub made : Makes lines sc

-- the failure of lines that make no scheme
abbrev pub scheme_failure : SchemeFault → ServeFailure
scheme_failure (scheme.Refused why) = Refused why
scheme_failure scheme.NoScheme = NoScheme
scheme_failure scheme.Memory = Memory

-- the failure of a scheme that is not kept, or not told
abbrev pub keep_failure : KeepFault → ServeFailure
keep_failure keep.Foreign = Kept keep.Foreign
keep_failure keep.Unreadable = Kept keep.Unreadable
keep_failure (keep.Changed why) = Kept (keep.Changed why)
keep_failure keep.Memory = Memory
keep_failure keep.Store = Store

-- why the input makes no scheme
abbrev pub MakesNoScheme : Option (List ℕ) → ServeFailure → Type 0
MakesNoScheme known (Lines fault) = FailsToRead known fault
MakesNoScheme known (Refused why) = IfSome known (λ input. (lines : List Line) × ReadsLines lines input × Refuses lines why)
MakesNoScheme known NoScheme = IfSome known (λ input. (lines : List Line) × ReadsLines lines input × Lacks lines)
MakesNoScheme known (Kept why) = ⊥
MakesNoScheme known Memory = Unit {0}
MakesNoScheme known Store = ⊥
MakesNoScheme known Network = ⊥
MakesNoScheme known Write = ⊥

-- these bytes spell lines that make the scheme, or none, for that reason
abbrev pub IsSchemeOf : List ℕ → Result ZonedScheme ServeFailure → Type 0
IsSchemeOf input (Ok made) = SpellsScheme made.scheme input
IsSchemeOf input (Err failure) = MakesNoScheme (Some input) failure

-- the input makes a scheme
abbrev pub HasScheme : Option (List ℕ) → Type 0
HasScheme known = IfSome known (λ input. (sc : SchemeValue) × SpellsScheme sc input)

-- WHAT IS GIVEN
-- the scheme's lines are in a file
abbrev pub IsFile : SchemeSource → Type 0
IsFile Unsaid = ⊥
IsFile Input = ⊥
IsFile (File path) = Unit {0}

-- What is known of the bytes from which the scheme is to come, by what is known of the input: these, where it is to come from
-- there, or where nothing is said and they are not empty. Nothing is known of a file's.
abbrev pub given_by : SchemeSource → Option (List ℕ) → Option (List ℕ)
given_by Unsaid None = None
given_by Unsaid (Some []) = None
given_by Unsaid (Some (byte ∷ bytes)) = Some (byte ∷ bytes)
given_by Input known = known
given_by (File path) known = None

-- these bytes give a scheme
abbrev pub IsGiven : Option ZonedScheme → List ℕ → Type 0
IsGiven None bytes = ⊥
IsGiven (Some made) bytes = SpellsScheme made.scheme bytes

-- these bytes give the scheme, or are none, where nothing is said of where it is to come from; or they make none, for that reason
abbrev pub IsGivenOf : SchemeSource → List ℕ → Result (Option ZonedScheme) ServeFailure → Type 0
IsGivenOf source bytes (Ok None) = (source ≡ Unsaid) × (bytes ≡ [])
IsGivenOf source bytes (Ok (Some made)) = SpellsScheme made.scheme bytes
IsGivenOf source bytes (Err failure) = MakesNoScheme (Some bytes) failure

-- WHAT A RUN IS OVER
-- the bytes that are given spell lines that make the scheme; or, where nothing is said of where it is to come from, there are
-- none, as where it is the kept one
abbrev pub TakesScheme : SchemeSource → SchemeValue → List ℕ → Type 0
TakesScheme source sc bytes = SpellsScheme sc bytes ⊎ ((source ≡ Unsaid) × (bytes ≡ []))

-- the bytes that are given make a scheme; or there are none, likewise
abbrev pub HasGiven : SchemeSource → List ℕ → Type 0
HasGiven source bytes = HasScheme (Some bytes) ⊎ ((source ≡ Unsaid) × (bytes ≡ []))

-- Why there is no scheme for a run: the lines make none, or they make one that is not kept. Where none are given, none is kept.
abbrev pub GivesNone : Option (List ℕ) → ServeFailure → Type 0
GivesNone known (Kept why) = HasScheme known
GivesNone known Store = HasScheme known
GivesNone known failure = MakesNoScheme known failure

-- so it failed for these bytes
abbrev pub GaveNone : SchemeSource → List ℕ → ServeFailure → Type 0
GaveNone source bytes (Kept why) = HasGiven source bytes
GaveNone source bytes Store = HasGiven source bytes
GaveNone source bytes failure = MakesNoScheme (Some bytes) failure

-- the scheme of a run is taken from these bytes, or they gave none
abbrev pub IsTakenOf : SchemeSource → List ℕ → Result SchemeValue ServeFailure → Type 0
IsTakenOf source bytes (Ok sc) = TakesScheme source sc bytes
IsTakenOf source bytes (Err failure) = GaveNone source bytes failure
