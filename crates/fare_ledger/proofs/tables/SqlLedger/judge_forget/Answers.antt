use Rattle.std.proofs.Common.{◌≡◌, ◌+◌, ◌&&◌, nat_lt, not, if◌then◌else◌, Bool, true, Some, None, Ok, Err, Result, ℕ, sym, ◌∙◌}
use Rattle.fare_store.specs.declared.fault.ForgetFault.{ForgetFault}
use Rattle.fare_store.specs.declared.fault.ForgetFault.TheVariants.{UnknownDevice, NotClosed}
use Rattle.fare_store.specs.Standing.{Calls}
use Rattle.fare_store.specs.LedgerWords.{LedgerValue, forget_judged}
use Rattle.fare_tables.proofs.Steps.{read_then, read_failed}
use Rattle.fare_ledger.specs.Words.{stands, HasNumbers, IsFront}
use Rattle.fare_ledger.proofs.Judged.{read_next, read_more}
use Rattle.fare_ledger.proofs.Forgot.{device_read, forget_ok, forget_err}
use Rattle.fare_ledger.proofs.tables.SqlLedger.judge_forget.Goals as goal

same_judged : (v : LedgerValue) (d y closed : ℕ) (known retired : Bool) → known ≡ v.knows d → retired ≡ v.retired d → closed ≡ v.closed d
    → ◌≡◌ {A = Result Unit ForgetFault} (if not known then Err UnknownDevice else (if not retired && nat_lt (v.start + closed) y then Err NotClosed else Ok tt)) (forget_judged v d y)
same_judged v d y closed known retired known_is retired_is closed_is =
    λ i. if◌then◌else◌ {A = Result Unit ForgetFault} (not (known_is i)) (Err UnknownDevice) (if◌then◌else◌ {A = Result Unit ForgetFault} (not (retired_is i) && nat_lt (v.start + closed_is i) y) (Err NotClosed) (Ok tt))

pub returns-in_err-lane-clause-does : goal.returns-in_err-lane-clause-does
returns-in_err-lane-clause-does g c =
    let a = stands g.S.Store c.args.self.now in
    let b = stands g.S.Store c.begin.new.self in
    let d = stands g.S.Store c.numbers_of.new.self in
    let first : Calls a b None ((b.value ≡ a.value) × Unit {0}) (λ v. ⊥) = c.in_ok-begin.ensures.does in
    read_failed a d _ _ c.from_residual-in_err-lane.result _ c.from_residual-in_err-lane.ensures.1 (read_then a b d (Unit {0}) (Unit {0}) (Some _) first c.in_err-lane.ensures.does)

pub returns-in_err-retired-clause-does : goal.returns-in_err-retired-clause-does
returns-in_err-retired-clause-does g c =
    let a = stands g.S.Store c.args.self.now in
    let b = stands g.S.Store c.begin.new.self in
    let d = stands g.S.Store c.numbers_of.new.self in
    let e = stands g.S.Store c.retired_of.new.self in
    let lane = c.in_ok-lane.lane in
    let first : Calls a b None ((b.value ≡ a.value) × Unit {0}) (λ v. ⊥) = c.in_ok-begin.ensures.does in
    let second : Calls b d None ((d.value ≡ b.value) × HasNumbers b.value c.args.device lane) (λ v. ⊥) = c.in_ok-lane.ensures.does in
    let one = read_next a b d (λ (v : LedgerValue). HasNumbers v c.args.device lane) first second in
    read_failed a e _ _ c.from_residual-in_err-retired.result _ c.from_residual-in_err-retired.ensures.1 (read_then a d e (HasNumbers a.value c.args.device lane) (Unit {0}) (Some _) one c.in_err-retired.ensures.does)

pub returns-in_err-since-clause-does : goal.returns-in_err-since-clause-does
returns-in_err-since-clause-does g c =
    let a = stands g.S.Store c.args.self.now in
    let b = stands g.S.Store c.begin.new.self in
    let d = stands g.S.Store c.numbers_of.new.self in
    let e = stands g.S.Store c.retired_of.new.self in
    let f = stands g.S.Store c.held_since.new.self in
    let lane = c.in_ok-lane.lane in
    let retired = c.in_ok-retired.retired in
    let first : Calls a b None ((b.value ≡ a.value) × Unit {0}) (λ v. ⊥) = c.in_ok-begin.ensures.does in
    let second : Calls b d None ((d.value ≡ b.value) × HasNumbers b.value c.args.device lane) (λ v. ⊥) = c.in_ok-lane.ensures.does in
    let third : Calls d e None ((e.value ≡ d.value) × (retired ≡ d.value.retired c.args.device)) (λ v. ⊥) = c.in_ok-retired.ensures.does in
    let one = read_next a b d (λ (v : LedgerValue). HasNumbers v c.args.device lane) first second in
    let two = read_more a d e (λ (v : LedgerValue). HasNumbers v c.args.device lane) (λ (v : LedgerValue). retired ≡ v.retired c.args.device) one third in
    read_failed a f _ _ c.from_residual-in_err-since.result _ c.from_residual-in_err-since.ensures.1 (read_then a e f (HasNumbers a.value c.args.device lane × (retired ≡ a.value.retired c.args.device)) (Unit {0}) (Some _) two c.in_err-since.ensures.does)

pub returns-in_err-kept-clause-does : goal.returns-in_err-kept-clause-does
returns-in_err-kept-clause-does g c =
    let a = stands g.S.Store c.args.self.now in
    let b = stands g.S.Store c.begin.new.self in
    let d = stands g.S.Store c.numbers_of.new.self in
    let e = stands g.S.Store c.retired_of.new.self in
    let f = stands g.S.Store c.held_since.new.self in
    let h = stands g.S.Store c.first_kept.new.self in
    let lane = c.in_ok-lane.lane in
    let retired = c.in_ok-retired.retired in
    let since = c.in_ok-since.since in
    let first : Calls a b None ((b.value ≡ a.value) × Unit {0}) (λ v. ⊥) = c.in_ok-begin.ensures.does in
    let second : Calls b d None ((d.value ≡ b.value) × HasNumbers b.value c.args.device lane) (λ v. ⊥) = c.in_ok-lane.ensures.does in
    let third : Calls d e None ((e.value ≡ d.value) × (retired ≡ d.value.retired c.args.device)) (λ v. ⊥) = c.in_ok-retired.ensures.does in
    let fourth : Calls e f None ((f.value ≡ e.value) × (since ≡ e.value.from c.args.device)) (λ v. ⊥) = c.in_ok-since.ensures.does in
    let one = read_next a b d (λ (v : LedgerValue). HasNumbers v c.args.device lane) first second in
    let two = read_more a d e (λ (v : LedgerValue). HasNumbers v c.args.device lane) (λ (v : LedgerValue). retired ≡ v.retired c.args.device) one third in
    let three = read_more a e f (λ (v : LedgerValue). HasNumbers v c.args.device lane × (retired ≡ v.retired c.args.device)) (λ (v : LedgerValue). since ≡ v.from c.args.device) two fourth in
    read_failed a h _ _ c.from_residual-in_err-kept.result _ c.from_residual-in_err-kept.ensures.1 (read_then a f h ((HasNumbers a.value c.args.device lane × (retired ≡ a.value.retired c.args.device)) × (since ≡ a.value.from c.args.device)) (Unit {0}) (Some _) three c.in_err-kept.ensures.does)

pub returns-in-Ok-clause-does : goal.returns-in-Ok-clause-does
returns-in-Ok-clause-does g c =
    let a = stands g.S.Store c.args.self.now in
    let b = stands g.S.Store c.begin.new.self in
    let d = stands g.S.Store c.numbers_of.new.self in
    let e = stands g.S.Store c.retired_of.new.self in
    let f = stands g.S.Store c.held_since.new.self in
    let h = stands g.S.Store c.first_kept.new.self in
    let lane = c.in_ok-lane.lane in
    let retired = c.in_ok-retired.retired in
    let since = c.in_ok-since.since in
    let kept = c.in_ok-kept.kept in
    let first : Calls a b None ((b.value ≡ a.value) × Unit {0}) (λ v. ⊥) = c.in_ok-begin.ensures.does in
    let second : Calls b d None ((d.value ≡ b.value) × HasNumbers b.value c.args.device lane) (λ v. ⊥) = c.in_ok-lane.ensures.does in
    let third : Calls d e None ((e.value ≡ d.value) × (retired ≡ d.value.retired c.args.device)) (λ v. ⊥) = c.in_ok-retired.ensures.does in
    let fourth : Calls e f None ((f.value ≡ e.value) × (since ≡ e.value.from c.args.device)) (λ v. ⊥) = c.in_ok-since.ensures.does in
    let fifth : Calls f h None ((h.value ≡ f.value) × IsFront f.value c.args.device c.args.day kept) (λ v. ⊥) = c.in_ok-kept.ensures.does in
    forget_ok a h c.args.device c.args.day lane retired since kept c.cut_of.result c.cut_of.ensures.upto c.cut_of.ensures.since
    (λ found. c.in-Ok.ensures.judged ∙ same_judged a.value c.args.device c.args.day lane.closed true retired (sym c.requires.known) found.retired_is found.numbers.closed)
    (device_read a b d e f h c.args.device c.args.day lane retired since kept first second third fourth fifth)

pub returns-in-Err-clause-does : goal.returns-in-Err-clause-does
returns-in-Err-clause-does g c =
    let a = stands g.S.Store c.args.self.now in
    let b = stands g.S.Store c.begin.new.self in
    let d = stands g.S.Store c.numbers_of.new.self in
    let e = stands g.S.Store c.retired_of.new.self in
    let f = stands g.S.Store c.held_since.new.self in
    let h = stands g.S.Store c.first_kept.new.self in
    let lane = c.in_ok-lane.lane in
    let retired = c.in_ok-retired.retired in
    let since = c.in_ok-since.since in
    let kept = c.in_ok-kept.kept in
    let first : Calls a b None ((b.value ≡ a.value) × Unit {0}) (λ v. ⊥) = c.in_ok-begin.ensures.does in
    let second : Calls b d None ((d.value ≡ b.value) × HasNumbers b.value c.args.device lane) (λ v. ⊥) = c.in_ok-lane.ensures.does in
    let third : Calls d e None ((e.value ≡ d.value) × (retired ≡ d.value.retired c.args.device)) (λ v. ⊥) = c.in_ok-retired.ensures.does in
    let fourth : Calls e f None ((f.value ≡ e.value) × (since ≡ e.value.from c.args.device)) (λ v. ⊥) = c.in_ok-since.ensures.does in
    let fifth : Calls f h None ((h.value ≡ f.value) × IsFront f.value c.args.device c.args.day kept) (λ v. ⊥) = c.in_ok-kept.ensures.does in
    forget_err a h c.args.device c.args.day lane retired since kept c.in-Err.why
    (λ found. c.in-Err.ensures.judged ∙ same_judged a.value c.args.device c.args.day lane.closed true retired (sym c.requires.known) found.retired_is found.numbers.closed)
    (device_read a b d e f h c.args.device c.args.day lane retired since kept first second third fourth fifth)
