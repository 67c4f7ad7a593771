-- An addition to a draft is answered by what the draft made of it.
use Rattle.std.proofs.Common.{◌≡◌, ◌∙◌, Bool, Option, Some, None, Result, Ok, Err, OnOk, OnErr, IfOk, IfErr, unwrap_or, ap, sym}
use Rattle.fare_scheme.specs.declared.fault.AddFault.{AddFault}
use Rattle.fare_scheme.specs.declared.fault.AddFault.TheVariants.{Memory}
use Rattle.fare_scheme.specs.Values.{DraftValue}
use Rattle.fare_event.specs.declared.reply.Refusal.{Refusal}
use Rattle.fare_event.specs.declared.reply.Reply.{Reply}
use Rattle.fare_trace.specs.declared.registering.Registration.{Registration}
use Rattle.fare_trace.specs.Answers.{Stage, accepted, add_refusal, entered, refused}
use Rattle.fare_trace.specs.Registration.{AfterAdding, answer_of}

-- ADDITIONS
refused_by : (old new changed : DraftValue) (used : Bool) (r : Option AddFault) (fault : AddFault) (refusal : Refusal) (answer : Stage × Reply) → fault ≡ unwrap_or r Memory → add_refusal (Some fault) ≡ Some refusal → answer ≡ refused new used refusal → new ≡ old → answer ≡ entered old used (add_refusal r) changed
refused_by old new changed used None fault refusal answer is named answered same =
    let none : add_refusal (Some fault) ≡ None = ap (λ f. add_refusal (Some f)) is in absurd (cc)
refused_by old new changed used (Some cause) fault refusal answer is named answered same =
    answered ∙ ap (λ d. refused d used refusal) same
    ∙ ap (λ q. entered old used q changed) (sym named ∙ ap (λ f. add_refusal (Some f)) is)

pub addition : {E : Type 0} (old new changed : DraftValue) (used : Bool) (r : Option AddFault) (added : Result (Unit {0}) AddFault) (answer : Result (Registration × Reply) E) → OnOk added (r ≡ None) → OnOk added (new ≡ changed) → IfErr added (λ fault. fault ≡ unwrap_or r Memory) → OnErr added (new ≡ old) → IfOk answer (λ a. AfterAdding new used added (answer_of a)) → IfOk answer (λ a. answer_of a ≡ entered old used (add_refusal r) changed)
addition old new changed used r added (Err error) allowed becomes fault same after = tt
addition old new changed used r (Ok done) (Ok answer) allowed becomes fault same after =
    after ∙ ap accepted becomes ∙ ap (λ q. entered old used (add_refusal q) changed) (sym allowed)
addition old new changed used r (Err cause) (Ok answer) allowed becomes fault same after =
    refused_by old new changed used r cause after.0 (answer_of answer) fault after.1 after.2 same
