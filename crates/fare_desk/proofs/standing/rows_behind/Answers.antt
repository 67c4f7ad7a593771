use Rattle.std.proofs.Common.{◌≡◌, ◌<◌, ◌+◌, Some, None, sym, subst, arith}
use Rattle.std.specs.Prelude.{Option, Ok}
use Rattle.fare_record.specs.Values.{RecordValue}
use Rattle.fare_store.specs.OutboxWords.{OutboxValue, IsNextRow}
use Rattle.fare_store.specs.Standing.{Reads}
use Rattle.fare_store.proofs.Readings.{reads_none, reads_since, since_calls, reads_say}
use Rattle.fare_desk.specs.Showing.{HasFrom}
use Rattle.fare_desk.proofs.Held.{Found, found_none, row_more, row_none}
use Rattle.fare_desk.proofs.standing.rows_behind.Goals as goal

pub loop-row-init : goal.loop-row-init
loop-row-init g c =
    let x = g.O.Outbox.standing c.args.outbox.now in
    (reads_none x (0 < 0) (Found (x.value.rows c.args.owner c.args.device) (c.args.after + 1) 0 (c.args.after + 1)) (λ lt. omega (arith, lt)) (found_none (x.value.rows c.args.owner c.args.device) (c.args.after + 1)), omega arith)

pub returns-in_default : goal.returns-in_default
returns-in_default g c =
    let first = g.O.Outbox.standing c.args.outbox.now in
    let before = g.O.Outbox.standing c.loop-row.outbox in
    let now = g.O.Outbox.standing c.next_row.new.self in
    let so = Found (first.value.rows c.args.owner c.args.device) (c.args.after + 1) c.loop-row.rows (c.loop-row.last + 1) in
    let told : Reads before now (IsNextRow before.value.rows c.args.owner c.args.device c.loop-row.last) (Ok None) = subst (λ (o : Option RecordValue). Reads before now (IsNextRow before.value.rows c.args.owner c.args.device c.loop-row.last) (Ok o)) c.in_default.is c.in_ok-row.ensures in
    reads_say first now ((before.value ≡ first.value) × so × IsNextRow before.value.rows c.args.owner c.args.device c.loop-row.last None) (HasFrom (first.value.rows c.args.owner c.args.device) (c.args.after + 1) c.loop-row.rows) None
    (λ is. (is.0, row_none first.value.rows c.args.owner c.args.device (c.args.after + 1) c.loop-row.rows c.loop-row.last is.1.1 (subst (λ (x : OutboxValue). IsNextRow x.rows c.args.owner c.args.device c.loop-row.last None) is.1.0 is.1.2)))
    (reads_since first before now (0 < c.loop-row.rows) so (IsNextRow before.value.rows c.args.owner c.args.device c.loop-row.last None) None c.loop-row.invariant.0 told)

pub returns-then-lane-last : goal.returns-then-lane-last
returns-then-lane-last g c =
    let first = g.O.Outbox.standing c.args.outbox.now in
    let before = g.O.Outbox.standing c.loop-row.outbox in
    let now = g.O.Outbox.standing c.next_row.new.self in
    let row = c.in-Some.row in
    let so = Found (first.value.rows c.args.owner c.args.device) (c.args.after + 1) c.loop-row.rows (c.loop-row.last + 1) in
    let told : Reads before now (IsNextRow before.value.rows c.args.owner c.args.device c.loop-row.last) (Ok (Some row)) = subst (λ (o : Option RecordValue). Reads before now (IsNextRow before.value.rows c.args.owner c.args.device c.loop-row.last) (Ok o)) c.in-Some.is c.in_ok-row.ensures in
    let le = c.if-lane-last.true in
    let same = c.lane-lane.ensures.value in
    reads_say first now ((before.value ≡ first.value) × so × IsNextRow before.value.rows c.args.owner c.args.device c.loop-row.last (Some row)) (HasFrom (first.value.rows c.args.owner c.args.device) (c.args.after + 1) c.loop-row.rows) None
    (λ is. let lt = is.1.2.behind in absurd (omega (arith, lt, le, same)))
    (reads_since first before now (0 < c.loop-row.rows) so (IsNextRow before.value.rows c.args.owner c.args.device c.loop-row.last (Some row)) None c.loop-row.invariant.0 told)

pub loop-row-preserved : goal.loop-row-preserved
loop-row-preserved g c =
    let first = g.O.Outbox.standing c.args.outbox.now in
    let before = g.O.Outbox.standing c.loop-row.outbox in
    let now = g.O.Outbox.standing c.next_row.new.self in
    let row = c.in-Some.row in
    let so = Found (first.value.rows c.args.owner c.args.device) (c.args.after + 1) c.loop-row.rows (c.loop-row.last + 1) in
    let more = Found (first.value.rows c.args.owner c.args.device) (c.args.after + 1) (c.loop-row.rows + 1) (c.lane-lane.result + 1) in
    let told : Reads before now (IsNextRow before.value.rows c.args.owner c.args.device c.loop-row.last) (Ok (Some row)) = subst (λ (o : Option RecordValue). Reads before now (IsNextRow before.value.rows c.args.owner c.args.device c.loop-row.last) (Ok o)) c.in-Some.is c.in_ok-row.ensures in
    let not = c.if-lane-last.false in
    let same = c.lane-lane.ensures.value in
    let all = c.loop-row.invariant.1 in (
      since_calls first now (0 < c.loop-row.rows + 1) more (reads_say first now ((before.value ≡ first.value) × so × IsNextRow before.value.rows c.args.owner c.args.device c.loop-row.last (Some row)) more None
          (λ is. (is.0, subst (λ n. Found (first.value.rows c.args.owner c.args.device) (c.args.after + 1) (c.loop-row.rows + 1) (n + 1)) (sym same) (row_more first.value.rows c.args.owner c.args.device (c.args.after + 1) c.loop-row.rows c.loop-row.last row is.1.1 (subst (λ (x : OutboxValue). IsNextRow x.rows c.args.owner c.args.device c.loop-row.last (Some row)) is.1.0 is.1.2))))
          (reads_since first before now (0 < c.loop-row.rows) so (IsNextRow before.value.rows c.args.owner c.args.device c.loop-row.last (Some row)) None c.loop-row.invariant.0 told)),
      omega (arith, not, all),
    )
