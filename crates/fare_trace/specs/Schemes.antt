-- The scheme that lines make.
use Rattle.std.specs.Prelude.{◌≡◌, ℕ, Bool, List, [], ◌∷◌, ◌++◌, map, Option, Some, None}
use Rattle.fare_day.specs.declared.zone.Zone.{Zone}
use Rattle.fare_day.specs.Clock.{HasRule}
use Rattle.fare_scheme.specs.Values.{DraftValue, SchemeValue}
use Rattle.fare_world.specs.System.{start}
use Rattle.fare_event.specs.declared.reply.Reply.TheVariants as reply
use Rattle.fare_event.specs.declared.reply.Refusal.{Refusal}
use Rattle.fare_lines.specs.declared.line.Line.{Line}
use Rattle.fare_lines.specs.declared.line.Line.TheVariants.{Setup, Step}
use Rattle.fare_lines.specs.declared.line.SchemeLine.{SchemeLine}
use Rattle.fare_lines.specs.declared.line.SchemeLine.TheVariants as scheme
use Rattle.fare_trace.specs.Answers.{Stage, Drafting, Running, first_stage, SetsUp}
use Rattle.fare_trace.specs.declared.schemes.SchemeFault.{SchemeFault}
use Rattle.fare_trace.specs.declared.schemes.SchemeFault.TheVariants.{Refused, NoScheme, Memory}

-- scheme lines that are each answered `ok` lead from a stage to a stage
abbrev pub LeadTo : Stage → List SchemeLine → Stage → Type 0
LeadTo stage [] last = stage ≡ last
LeadTo (Drafting draft used) (line ∷ lines) last = (next : Stage) × SetsUp draft used line (next, reply.Done) × LeadTo next lines last
LeadTo (Running sc s) (line ∷ lines) last = ⊥

-- the lines begin with scheme lines that are each answered `ok` and lead to this draft; the others are left
pub record HaveDrafted (lines left : List Line) (draft : DraftValue) (used : Bool) : Type 0 where
  pub front : List SchemeLine
  pub split : lines ≡ map Setup front ++ left
  pub lead : LeadTo first_stage front (Drafting draft used)

-- the lines begin with scheme lines that are each answered `ok`, of which the last begins this scheme
pub record Makes (lines : List Line) (sc : SchemeValue) : Type 0 where
  pub front : List SchemeLine
  pub rest : List Line
  pub split : lines ≡ map Setup front ++ rest
  pub lead : LeadTo first_stage front (Running sc (start sc))

-- the line behind a draft is refused
pub record Refuses (lines : List Line) (why : Refusal) : Type 0 where
  pub draft : DraftValue
  pub used : Bool
  pub line : SchemeLine
  pub rest : List Line
  pub drafted : HaveDrafted lines (Setup line ∷ rest) draft used
  pub next : Stage
  pub refused : SetsUp draft used line (next, reply.Refused why)

-- an event line, or the end
abbrev pub IsNoSetup : List Line → Type 0
IsNoSetup [] = Unit {0}
IsNoSetup (Step event ∷ rest) = Unit {0}
IsNoSetup (Setup line ∷ rest) = ⊥

-- behind a draft comes an event line, or the end
pub record Lacks (lines : List Line) : Type 0 where
  pub draft : DraftValue
  pub used : Bool
  pub rest : List Line
  pub drafted : HaveDrafted lines rest draft used
  pub no_setup : IsNoSetup rest

abbrev pub MakesNone : List Line → SchemeFault → Type 0
MakesNone lines (Refused why) = Refuses lines why
MakesNone lines NoScheme = Lacks lines
MakesNone lines Memory = Unit {0}

-- CLOCKS
-- a draft has a clock that goes by the rule, or it has neither
abbrev pub HasZone : Option Zone → Option (List ℕ) → Type 0
HasZone None None = Unit {0}
HasZone (Some clock) (Some rule) = HasRule clock rule
HasZone None (Some rule) = ⊥
HasZone (Some clock) None = ⊥

-- the rule of a draft's clock after a line was taken
abbrev pub zone_after : SchemeLine → Option (List ℕ) → Option (List ℕ)
zone_after (scheme.Zone rule) before = Some rule
zone_after line before = before
