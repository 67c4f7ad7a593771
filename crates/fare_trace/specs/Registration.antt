-- How far the registration of a trace's scheme is.
use Rattle.std.specs.Prelude.{◌≡◌, Bool, Some, Result, Ok, Err}
use Rattle.fare_scheme.specs.declared.fault.AddFault.{AddFault}
use Rattle.fare_scheme.specs.Values.{DraftValue}
use Rattle.fare_event.specs.declared.reply.Refusal.{Refusal}
use Rattle.fare_event.specs.declared.reply.Reply.{Reply}
use Rattle.fare_world.specs.System.{start}
use Rattle.fare_lines.specs.declared.line.SchemeLine.{SchemeLine}
use Rattle.fare_lines.specs.declared.line.SchemeLine.TheVariants as scheme
use Rattle.fare_trace.specs.declared.registering.Registration.{Registration}
use Rattle.fare_trace.specs.declared.registering.Registration.TheVariants.{Open, Sealed}
use Rattle.fare_trace.specs.Answers.{Drafting, Running, Stage, accepted, add_refusal, refused}

abbrev pub stage_of : Registration → Stage
stage_of (Open draft used) = Drafting draft used
stage_of (Sealed scheme) = Running scheme (start scheme)

-- the line adds nothing to the lists of the draft: it makes a setting, or seals
abbrev pub AddsNothing : SchemeLine → Type 0
AddsNothing (scheme.Owner owner lane) = ⊥
AddsNothing (scheme.Operator operator) = ⊥
AddsNothing (scheme.Station station operator) = ⊥
AddsNothing (scheme.Product product owner fare) = ⊥
AddsNothing (scheme.Device device station buffer) = ⊥
AddsNothing line = Unit {0}

abbrev pub answer_of : Registration × Reply → Stage × Reply
answer_of answer = (stage_of answer.0, answer.1)

-- the stage and the reply after an addition to the draft
abbrev pub AfterAdding : DraftValue → Bool → Result (Unit {0}) AddFault → Stage × Reply → Type 0
AfterAdding draft used (Ok done) answer = answer ≡ accepted draft
AfterAdding draft used (Err fault) answer = (refusal : Refusal) × (add_refusal (Some fault) ≡ Some refusal) × (answer ≡ refused draft used refusal)
