use Rattle.std.proofs.Common.{◌≡◌, ◌≤◌, ◌<◌, ◌+◌, Some, None, refl, sym, ◌∙◌, subst, arith}
use Rattle.std.specs.Prelude.{Option, IsSome, Ok}
use Rattle.fare_record.specs.Values.{StatementValue}
use Rattle.fare_store.specs.OutboxWords.{OutboxValue, IsNextStatement}
use Rattle.fare_store.specs.Standing.{Reads}
use Rattle.fare_store.proofs.Readings.{reads_none, reads_since, since_calls, reads_say}
use Rattle.fare_sessions.proofs.Billed.{from_not_less}
use Rattle.fare_desk.specs.Showing.{HasFrom, stated_days}
use Rattle.fare_desk.proofs.Held.{Found, found_none, statement_more, statement_none}
use Rattle.fare_desk.proofs.standing.statements_from.Goals as goal

pub loop-statement-init : goal.loop-statement-init
loop-statement-init g c =
    let x = g.O.Outbox.standing c.args.outbox.now in
    (reads_none x (0 < 0) (Found (stated_days x.value c.args.owner c.args.device) c.args.first 0 c.args.first) (λ lt. omega (arith, lt)) (found_none (stated_days x.value c.args.owner c.args.device) c.args.first), omega arith)

pub returns-in_default : goal.returns-in_default
returns-in_default g c =
    let first = g.O.Outbox.standing c.args.outbox.now in
    let before = g.O.Outbox.standing c.loop-statement.outbox in
    let now = g.O.Outbox.standing c.next_statement.new.self in
    let so = Found (stated_days first.value c.args.owner c.args.device) c.args.first c.loop-statement.statements c.loop-statement.from in
    let told : Reads before now (IsNextStatement before.value.stated c.args.owner c.args.device c.loop-statement.from) (Ok None) = subst (λ (o : Option StatementValue). Reads before now (IsNextStatement before.value.stated c.args.owner c.args.device c.loop-statement.from) (Ok o)) c.in_default.is c.in_ok-statement.ensures in
    reads_say first now ((before.value ≡ first.value) × so × IsNextStatement before.value.stated c.args.owner c.args.device c.loop-statement.from None) (HasFrom (stated_days first.value c.args.owner c.args.device) c.args.first c.loop-statement.statements) None
    (λ is. (is.0, statement_none first.value c.args.owner c.args.device c.args.first c.loop-statement.statements c.loop-statement.from is.1.1 (subst (λ (x : OutboxValue). IsNextStatement x.stated c.args.owner c.args.device c.loop-statement.from None) is.1.0 is.1.2)))
    (reads_since first before now (0 < c.loop-statement.statements) so (IsNextStatement before.value.stated c.args.owner c.args.device c.loop-statement.from None) None c.loop-statement.invariant.0 told)

pub loop-statement-preserved : goal.loop-statement-preserved
loop-statement-preserved g c =
    let first = g.O.Outbox.standing c.args.outbox.now in
    let before = g.O.Outbox.standing c.loop-statement.outbox in
    let now = g.O.Outbox.standing c.next_statement.new.self in
    let s = c.in-Some.statement in
    let so = Found (stated_days first.value c.args.owner c.args.device) c.args.first c.loop-statement.statements c.loop-statement.from in
    let more = Found (stated_days first.value c.args.owner c.args.device) c.args.first (c.loop-statement.statements + 1) c.in-Some-next_day.next in
    let told : Reads before now (IsNextStatement before.value.stated c.args.owner c.args.device c.loop-statement.from) (Ok (Some s)) = subst (λ (o : Option StatementValue). Reads before now (IsNextStatement before.value.stated c.args.owner c.args.device c.loop-statement.from) (Ok o)) c.in-Some.is c.in_ok-statement.ensures in
    let day = c.day-day.ensures in
    let made = c.in-Some-next_day.ensures.value in
    let valid = (c.next_day.ensures.valid).0 (subst IsSome (sym c.in-Some-next_day.is) refl) in
    let next : s.day + 1 ≡ c.in-Some-next_day.next = omega (arith, day, made) in
    let few : s.day ≤ 100000 = omega (arith, day, valid) in
    let not : c.loop-statement.from ≤ c.day-day.result = from_not_less c.day-day.result c.loop-statement.from (sym c.lt.ensures ∙ c.if-lt.false) in
    let all = c.loop-statement.invariant.1 in (
      since_calls first now (0 < c.loop-statement.statements + 1) more (reads_say first now ((before.value ≡ first.value) × so × IsNextStatement before.value.stated c.args.owner c.args.device c.loop-statement.from (Some s)) more None
          (λ is. (is.0, subst (λ n. Found (stated_days first.value c.args.owner c.args.device) c.args.first (c.loop-statement.statements + 1) n) next (statement_more first.value c.args.owner c.args.device c.args.first c.loop-statement.statements c.loop-statement.from s few is.1.1 (subst (λ (x : OutboxValue). IsNextStatement x.stated c.args.owner c.args.device c.loop-statement.from (Some s)) is.1.0 is.1.2))))
          (reads_since first before now (0 < c.loop-statement.statements) so (IsNextStatement before.value.stated c.args.owner c.args.device c.loop-statement.from (Some s)) None c.loop-statement.invariant.0 told)),
      omega (arith, not, all, next, day),
    )
