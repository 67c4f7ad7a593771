use Rattle.std.proofs.Common.{◌≡◌, Some, None, ◌∙◌}
use Rattle.fare_record.specs.Lanes.{day_count}
use Rattle.fare_store.specs.Standing.{Calls}
use Rattle.fare_store.specs.LedgerWords.{LedgerValue}
use Rattle.fare_tables.proofs.Steps.{read_then, read_failed}
use Rattle.fare_ledger.specs.Words.{stands, HasNumbers}
use Rattle.fare_ledger.proofs.Judged.{read_next, read_more, all_read, day_answer, day_ok, day_err}
use Rattle.fare_ledger.proofs.tables.SqlLedger.judge_day.Goals as goal

pub returns-in_err-stated-clause-does : goal.returns-in_err-stated-clause-does
returns-in_err-stated-clause-does g c =
    let a = stands g.S.Store c.args.self.now in
    let b = stands g.S.Store c.begin.new.self in
    let d = stands g.S.Store c.stated_of.new.self in
    let first : Calls a b None ((b.value ≡ a.value) × Unit {0}) (λ v. ⊥) = c.in_ok-begin.ensures.does in
    read_failed a d _ _ c.from_residual-in_err-stated.result _ c.from_residual-in_err-stated.ensures.1 (read_then a b d (Unit {0}) (Unit {0}) (Some _) first c.in_err-stated.ensures.does)

pub returns-in_err-lane-clause-does : goal.returns-in_err-lane-clause-does
returns-in_err-lane-clause-does g c =
    let a = stands g.S.Store c.args.self.now in
    let b = stands g.S.Store c.begin.new.self in
    let d = stands g.S.Store c.stated_of.new.self in
    let first : Calls a b None ((b.value ≡ a.value) × Unit {0}) (λ v. ⊥) = c.in_ok-begin.ensures.does in
    let stated = c.in_ok-stated.stated in
    let second : Calls b d None ((d.value ≡ b.value) × (stated ≡ b.value.stated c.args.device c.args.day)) (λ v. ⊥) = c.in_ok-stated.ensures.does in
    let e = stands g.S.Store c.numbers_of.new.self in
    let one = read_next a b d (λ (v : LedgerValue). stated ≡ v.stated c.args.device c.args.day) first second in
    read_failed a e _ _ c.from_residual-in_err-lane.result _ c.from_residual-in_err-lane.ensures.1 (read_then a d e (stated ≡ a.value.stated c.args.device c.args.day) (Unit {0}) (Some _) one c.in_err-lane.ensures.does)

pub returns-in_err-taken-clause-does : goal.returns-in_err-taken-clause-does
returns-in_err-taken-clause-does g c =
    let a = stands g.S.Store c.args.self.now in
    let b = stands g.S.Store c.begin.new.self in
    let d = stands g.S.Store c.stated_of.new.self in
    let first : Calls a b None ((b.value ≡ a.value) × Unit {0}) (λ v. ⊥) = c.in_ok-begin.ensures.does in
    let stated = c.in_ok-stated.stated in
    let second : Calls b d None ((d.value ≡ b.value) × (stated ≡ b.value.stated c.args.device c.args.day)) (λ v. ⊥) = c.in_ok-stated.ensures.does in
    let e = stands g.S.Store c.numbers_of.new.self in
    let lane = c.in_ok-lane.lane in
    let third : Calls d e None ((e.value ≡ d.value) × HasNumbers d.value c.args.device lane) (λ v. ⊥) = c.in_ok-lane.ensures.does in
    let f = stands g.S.Store c.count_of_day.new.self in
    let one = read_next a b d (λ (v : LedgerValue). stated ≡ v.stated c.args.device c.args.day) first second in
    let two = read_more a d e (λ (v : LedgerValue). stated ≡ v.stated c.args.device c.args.day) (λ (v : LedgerValue). HasNumbers v c.args.device lane) one third in
    read_failed a f _ _ c.from_residual-in_err-taken.result _ c.from_residual-in_err-taken.ensures.1 (read_then a e f ((stated ≡ a.value.stated c.args.device c.args.day) × HasNumbers a.value c.args.device lane) (Unit {0}) (Some _) two c.in_err-taken.ensures.does)

pub returns-in_err-retired-clause-does : goal.returns-in_err-retired-clause-does
returns-in_err-retired-clause-does g c =
    let a = stands g.S.Store c.args.self.now in
    let b = stands g.S.Store c.begin.new.self in
    let d = stands g.S.Store c.stated_of.new.self in
    let e = stands g.S.Store c.numbers_of.new.self in
    let f = stands g.S.Store c.count_of_day.new.self in
    let h = stands g.S.Store c.retired_of.new.self in
    let stated = c.in_ok-stated.stated in
    let lane = c.in_ok-lane.lane in
    let count = c.in_ok-taken.taken in
    let first : Calls a b None ((b.value ≡ a.value) × Unit {0}) (λ v. ⊥) = c.in_ok-begin.ensures.does in
    let second : Calls b d None ((d.value ≡ b.value) × (stated ≡ b.value.stated c.args.device c.args.day)) (λ v. ⊥) = c.in_ok-stated.ensures.does in
    let third : Calls d e None ((e.value ≡ d.value) × HasNumbers d.value c.args.device lane) (λ v. ⊥) = c.in_ok-lane.ensures.does in
    let fourth : Calls e f None ((f.value ≡ e.value) × (count ≡ day_count (e.value.taken c.args.device) c.args.day)) (λ v. ⊥) = c.in_ok-taken.ensures.does in
    let P : LedgerValue → Type 0 = λ v. stated ≡ v.stated c.args.device c.args.day in
    let Q : LedgerValue → Type 0 = λ v. HasNumbers v c.args.device lane in
    let R : LedgerValue → Type 0 = λ v. count ≡ day_count (v.taken c.args.device) c.args.day in
    let three = read_more a e f (λ v. P v × Q v) R (read_more a d e P Q (read_next a b d P first second) third) fourth in
    read_failed a h _ _ c.from_residual-in_err-retired.result _ c.from_residual-in_err-retired.ensures.1 (read_then a f h ((P a.value × Q a.value) × R a.value) (Unit {0}) (Some _) three c.in_err-retired.ensures.does)

pub returns-in-Ok-clause-does : goal.returns-in-Ok-clause-does
returns-in-Ok-clause-does g c =
    let a = stands g.S.Store c.args.self.now in
    let b = stands g.S.Store c.begin.new.self in
    let d = stands g.S.Store c.stated_of.new.self in
    let e = stands g.S.Store c.numbers_of.new.self in
    let f = stands g.S.Store c.count_of_day.new.self in
    let h = stands g.S.Store c.retired_of.new.self in
    let stated = c.in_ok-stated.stated in
    let lane = c.in_ok-lane.lane in
    let count = c.in_ok-taken.taken in
    let first : Calls a b None ((b.value ≡ a.value) × Unit {0}) (λ v. ⊥) = c.in_ok-begin.ensures.does in
    let second : Calls b d None ((d.value ≡ b.value) × (stated ≡ b.value.stated c.args.device c.args.day)) (λ v. ⊥) = c.in_ok-stated.ensures.does in
    let third : Calls d e None ((e.value ≡ d.value) × HasNumbers d.value c.args.device lane) (λ v. ⊥) = c.in_ok-lane.ensures.does in
    let fourth : Calls e f None ((f.value ≡ e.value) × (count ≡ day_count (e.value.taken c.args.device) c.args.day)) (λ v. ⊥) = c.in_ok-taken.ensures.does in
    let retired = c.in_ok-retired.retired in
    let fifth : Calls f h None ((h.value ≡ f.value) × (retired ≡ f.value.retired c.args.device)) (λ v. ⊥) = c.in_ok-retired.ensures.does in
    let all = all_read a b d e f h c.args.device c.args.day stated lane count retired first second third fourth fifth in
    day_ok a h c.args.device c.args.day stated lane count retired
    (λ found. c.in-Ok.ensures.judged ∙ day_answer a.value c.args.device c.args.day stated lane count c.is_closed-closed.result c.is_next-next.result retired c.is_closed-closed.ensures c.is_next-next.ensures found) all

pub returns-in-Err-clause-does : goal.returns-in-Err-clause-does
returns-in-Err-clause-does g c =
    let a = stands g.S.Store c.args.self.now in
    let b = stands g.S.Store c.begin.new.self in
    let d = stands g.S.Store c.stated_of.new.self in
    let e = stands g.S.Store c.numbers_of.new.self in
    let f = stands g.S.Store c.count_of_day.new.self in
    let h = stands g.S.Store c.retired_of.new.self in
    let stated = c.in_ok-stated.stated in
    let lane = c.in_ok-lane.lane in
    let count = c.in_ok-taken.taken in
    let first : Calls a b None ((b.value ≡ a.value) × Unit {0}) (λ v. ⊥) = c.in_ok-begin.ensures.does in
    let second : Calls b d None ((d.value ≡ b.value) × (stated ≡ b.value.stated c.args.device c.args.day)) (λ v. ⊥) = c.in_ok-stated.ensures.does in
    let third : Calls d e None ((e.value ≡ d.value) × HasNumbers d.value c.args.device lane) (λ v. ⊥) = c.in_ok-lane.ensures.does in
    let fourth : Calls e f None ((f.value ≡ e.value) × (count ≡ day_count (e.value.taken c.args.device) c.args.day)) (λ v. ⊥) = c.in_ok-taken.ensures.does in
    let retired = c.in_ok-retired.retired in
    let fifth : Calls f h None ((h.value ≡ f.value) × (retired ≡ f.value.retired c.args.device)) (λ v. ⊥) = c.in_ok-retired.ensures.does in
    let all = all_read a b d e f h c.args.device c.args.day stated lane count retired first second third fourth fifth in
    day_err a h c.args.device c.args.day stated lane count retired c.in-Err.why
    (λ found. c.in-Err.ensures.judged ∙ day_answer a.value c.args.device c.args.day stated lane count c.is_closed-closed.result c.is_next-next.result retired c.is_closed-closed.ensures c.is_next-next.ensures found) all
