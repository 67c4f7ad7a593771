use Rattle.std.proofs.Common.{sym, subst}
use Rattle.fare_event.specs.declared.reply.Reply.{Reply}
use Rattle.fare_trace.specs.Answers.{SetsUp}
use Rattle.fare_trace.specs.Registration.{stage_of}
use Rattle.fare_trace.specs.Schemes.{HasZone, Makes}
use Rattle.fare_trace.specs.declared.registering.Registration.{Registration}
use Rattle.fare_trace.specs.declared.registering.Registration.TheVariants.{Open}
use Rattle.fare_trace.proofs.SchemeLines.{drafts_on, made_here, refused_here, said_done}
use Rattle.fare_trace.proofs.Zones.{zone_on}
use Rattle.fare_trace.proofs.schemes.zoned_scheme_of.Goals as goal

pub returns-in-Refused-clause-fails : goal.returns-in-Refused-clause-fails
returns-in-Refused-clause-fails c =
    let said = subst (λ (r : Reply). SetsUp c.loop-line.draft c.loop-line.used c.in-Setup.line (stage_of c.in_ok-registration.registration, r)) c.in-Refused.is c.in_ok-registration.ensures in
    refused_here c.args.lines.now c.loop-line.line-index c.line-item.result c.loop-line.draft c.loop-line.used c.in-Setup.line _ c.in-Refused.refusal c.loop-line-test.true c.line-item.is c.in-Setup.is c.loop-line.invariant.0 said

pub returns-in-Sealed-clause-made : goal.returns-in-Sealed-clause-made
returns-in-Sealed-clause-made c =
    let said = subst (λ (r : Registration). SetsUp c.loop-line.draft c.loop-line.used c.in-Setup.line (stage_of r, c.in_ok-registration.reply)) c.in-Sealed.is c.in_ok-registration.ensures in
    subst (Makes c.args.lines.now) (sym c.in_ok-with_rule-in-Sealed.ensures.scheme) (made_here c.args.lines.now c.loop-line.line-index c.line-item.result c.loop-line.draft c.loop-line.used c.in-Setup.line c.in-Sealed.scheme c.in_ok-registration.reply c.loop-line-test.true c.line-item.is c.in-Setup.is c.loop-line.invariant.0 said c.in_default-reply.not-Refused)

pub loop-line-preserved : goal.loop-line-preserved
loop-line-preserved c =
    let said = subst (λ (r : Registration). SetsUp c.loop-line.draft c.loop-line.used c.in-Setup.line (stage_of r, c.in_ok-registration.reply)) c.in-Open.is c.in_ok-registration.ensures in
    let done = subst (λ (r : Reply). SetsUp c.loop-line.draft c.loop-line.used c.in-Setup.line (stage_of (Open c.in-Open.next c.in-Open.now), r)) (said_done c.loop-line.draft c.loop-line.used c.in-Setup.line _ c.in_ok-registration.reply said c.in_default-reply.not-Refused) said in (
      drafts_on c.args.lines.now c.loop-line.line-index c.line-item.result c.loop-line.draft c.in-Open.next c.loop-line.used c.in-Open.now c.in-Setup.line c.in_ok-registration.reply c.loop-line-test.true c.line-item.is c.in-Setup.is c.loop-line.invariant.0 said c.in_default-reply.not-Refused,
      subst (HasZone c.in-Open.next.zone) (sym c.in_ok-zone-in-Open.ensures) (zone_on c.loop-line.draft c.in-Open.next c.loop-line.used c.in-Open.now c.in-Setup.line c.loop-line.zone done c.loop-line.invariant.1),
    )

pub with_rule-requires : goal.with_rule-requires
with_rule-requires c =
    let said = subst (λ (r : Registration). SetsUp c.loop-line.draft c.loop-line.used c.in-Setup.line (stage_of r, c.in_ok-registration.reply)) c.in-Sealed.is c.in_ok-registration.ensures in
    (c.loop-line.draft, c.loop-line.used, c.in_ok-registration.reply, said, c.loop-line.invariant.1)
