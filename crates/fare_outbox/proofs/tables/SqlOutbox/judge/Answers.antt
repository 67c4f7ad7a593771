use Rattle.std.proofs.Common.{◌≡◌, ◌+◌, Some, None, Ok, Err, ◌∙◌, arith}
use Rattle.fare_store.specs.declared.fault.StoreFault.TheVariants as store
use Rattle.fare_store.specs.Standing.{Calls}
use Rattle.fare_outbox.specs.Words.{stands}
use Rattle.fare_tables.proofs.Steps.{read_then, read_failed}
use Rattle.fare_outbox.proofs.Judged.{all_read, answered, duplicate, gap, conflict, full, welcome}
use Rattle.fare_outbox.proofs.tables.SqlOutbox.judge.Goals as goal

pub returns-in_err-upto-clause-does : goal.returns-in_err-upto-clause-does
returns-in_err-upto-clause-does g c =
    let a = stands g.S.Store c.args.self.now in
    let b = stands g.S.Store c.begin.new.self in
    let l = stands g.S.Store c.greatest_link.new.self in
    let first : Calls a b None ((b.value ≡ a.value) × Unit {0}) (λ v. ⊥) = c.in_ok-begin.ensures.does in
    read_failed a l _ _ c.from_residual-in_err-upto.result _ c.from_residual-in_err-upto.ensures.1 (read_then a b l (Unit {0}) (Unit {0}) (Some _) first c.in_err-upto.ensures.does)

pub returns-in_err-held-clause-does : goal.returns-in_err-held-clause-does
returns-in_err-held-clause-does g c =
    let a = stands g.S.Store c.args.self.now in
    let b = stands g.S.Store c.begin.new.self in
    let l = stands g.S.Store c.greatest_link.new.self in
    let d = stands g.S.Store c.holds.new.self in
    let first : Calls a b None ((b.value ≡ a.value) × Unit {0}) (λ v. ⊥) = c.in_ok-begin.ensures.does in
    let r = c.args.row.now in
    let second : Calls b l None ((l.value ≡ b.value) × (c.in_ok-upto.upto ≡ b.value.upto r.device)) (λ v. ⊥) = rw c.device.ensures at c.in_ok-upto.ensures.does in
    let two = read_then a b l (Unit {0}) (c.in_ok-upto.upto ≡ b.value.upto r.device) None first second in
    read_failed a d _ _ c.from_residual-in_err-held.result _ c.from_residual-in_err-held.ensures.1 (read_then a l d _ (Unit {0}) (Some _) two c.in_err-held.ensures.does)

pub returns-then-link-upto-clause-does : goal.returns-then-link-upto-clause-does
returns-then-link-upto-clause-does g c =
    let a = stands g.S.Store c.args.self.now in
    let b = stands g.S.Store c.begin.new.self in
    let l = stands g.S.Store c.greatest_link.new.self in
    let d = stands g.S.Store c.holds.new.self in
    let first : Calls a b None ((b.value ≡ a.value) × Unit {0}) (λ v. ⊥) = c.in_ok-begin.ensures.does in
    let r = c.args.row.now in
    let second : Calls b l None ((l.value ≡ b.value) × (c.in_ok-upto.upto ≡ b.value.upto r.device)) (λ v. ⊥) = rw c.device.ensures at c.in_ok-upto.ensures.does in
    let all = all_read a b l d r c.in_ok-upto.upto c.in_ok-held.held first second c.in_ok-held.ensures.does in
    let link = c.link.ensures.value in
    let low = c.if-link-upto.true in
    answered a d r c.in_ok-upto.upto c.in_ok-held.held (Err store.Duplicate) (λ lawful seen. duplicate a.value r _ _ (omega (arith, low, link)) seen) all

pub returns-then-link-upto-2-clause-does : goal.returns-then-link-upto-2-clause-does
returns-then-link-upto-2-clause-does g c =
    let a = stands g.S.Store c.args.self.now in
    let b = stands g.S.Store c.begin.new.self in
    let l = stands g.S.Store c.greatest_link.new.self in
    let d = stands g.S.Store c.holds.new.self in
    let first : Calls a b None ((b.value ≡ a.value) × Unit {0}) (λ v. ⊥) = c.in_ok-begin.ensures.does in
    let r = c.args.row.now in
    let second : Calls b l None ((l.value ≡ b.value) × (c.in_ok-upto.upto ≡ b.value.upto r.device)) (λ v. ⊥) = rw c.device.ensures at c.in_ok-upto.ensures.does in
    let all = all_read a b l d r c.in_ok-upto.upto c.in_ok-held.held first second c.in_ok-held.ensures.does in
    let link = c.link.ensures.value in
    let not_low = c.if-link-upto.false in
    let valid = c.link.ensures.valid.0 in
    let again = c.link-2.ensures.value in
    let high = c.if-link-upto-2.true in
    answered a d r c.in_ok-upto.upto c.in_ok-held.held (Err store.Gap) (λ lawful seen. gap a.value r _ _ (omega (arith, high, link, again, valid)) seen) all

pub returns-then-held-clause-does : goal.returns-then-held-clause-does
returns-then-held-clause-does g c =
    let a = stands g.S.Store c.args.self.now in
    let b = stands g.S.Store c.begin.new.self in
    let l = stands g.S.Store c.greatest_link.new.self in
    let d = stands g.S.Store c.holds.new.self in
    let first : Calls a b None ((b.value ≡ a.value) × Unit {0}) (λ v. ⊥) = c.in_ok-begin.ensures.does in
    let r = c.args.row.now in
    let second : Calls b l None ((l.value ≡ b.value) × (c.in_ok-upto.upto ≡ b.value.upto r.device)) (λ v. ⊥) = rw c.device.ensures at c.in_ok-upto.ensures.does in
    let all = all_read a b l d r c.in_ok-upto.upto c.in_ok-held.held first second c.in_ok-held.ensures.does in
    let link = c.link.ensures.value in
    let not_low = c.if-link-upto.false in
    let valid = c.link.ensures.valid.0 in
    let again = c.link-2.ensures.value in
    let not_high = c.if-link-upto-2.false in
    let next : r.link ≡ c.in_ok-upto.upto + 1 = omega (arith, not_low, not_high, link, again, valid) in
    answered a d r c.in_ok-upto.upto c.in_ok-held.held (Err store.Conflict) (λ lawful seen. conflict a.value r _ next (rw c.if-held.true at seen)) all

pub returns-then-self-ge-MOST_ROWS-clause-does : goal.returns-then-self-ge-MOST_ROWS-clause-does
returns-then-self-ge-MOST_ROWS-clause-does g c =
    let a = stands g.S.Store c.args.self.now in
    let b = stands g.S.Store c.begin.new.self in
    let l = stands g.S.Store c.greatest_link.new.self in
    let d = stands g.S.Store c.holds.new.self in
    let first : Calls a b None ((b.value ≡ a.value) × Unit {0}) (λ v. ⊥) = c.in_ok-begin.ensures.does in
    let r = c.args.row.now in
    let second : Calls b l None ((l.value ≡ b.value) × (c.in_ok-upto.upto ≡ b.value.upto r.device)) (λ v. ⊥) = rw c.device.ensures at c.in_ok-upto.ensures.does in
    let all = all_read a b l d r c.in_ok-upto.upto c.in_ok-held.held first second c.in_ok-held.ensures.does in
    let link = c.link.ensures.value in
    let not_low = c.if-link-upto.false in
    let valid = c.link.ensures.valid.0 in
    let again = c.link-2.ensures.value in
    let not_high = c.if-link-upto-2.false in
    let next : r.link ≡ c.in_ok-upto.upto + 1 = omega (arith, not_low, not_high, link, again, valid) in
    let kept : c.holds.new.self.rows ≡ c.args.self.now.rows = c.in_ok-held.ensures.rows ∙ c.in_ok-upto.ensures.rows ∙ c.in_ok-begin.ensures.rows in
    let many = c.if-self-ge-MOST_ROWS.true in
    answered a d r c.in_ok-upto.upto c.in_ok-held.held (Err store.OutboxFull) (λ lawful seen. full a.value r _ c.holds.new.self.rows next (kept ∙ lawful.fit.fits.rows_are) many (rw c.if-held.false at seen)) all

pub returns-clause-does : goal.returns-clause-does
returns-clause-does g c =
    let a = stands g.S.Store c.args.self.now in
    let b = stands g.S.Store c.begin.new.self in
    let l = stands g.S.Store c.greatest_link.new.self in
    let d = stands g.S.Store c.holds.new.self in
    let first : Calls a b None ((b.value ≡ a.value) × Unit {0}) (λ v. ⊥) = c.in_ok-begin.ensures.does in
    let r = c.args.row.now in
    let second : Calls b l None ((l.value ≡ b.value) × (c.in_ok-upto.upto ≡ b.value.upto r.device)) (λ v. ⊥) = rw c.device.ensures at c.in_ok-upto.ensures.does in
    let all = all_read a b l d r c.in_ok-upto.upto c.in_ok-held.held first second c.in_ok-held.ensures.does in
    let link = c.link.ensures.value in
    let not_low = c.if-link-upto.false in
    let valid = c.link.ensures.valid.0 in
    let again = c.link-2.ensures.value in
    let not_high = c.if-link-upto-2.false in
    let next : r.link ≡ c.in_ok-upto.upto + 1 = omega (arith, not_low, not_high, link, again, valid) in
    let kept : c.holds.new.self.rows ≡ c.args.self.now.rows = c.in_ok-held.ensures.rows ∙ c.in_ok-upto.ensures.rows ∙ c.in_ok-begin.ensures.rows in
    let few = c.if-self-ge-MOST_ROWS.false in
    answered a d r c.in_ok-upto.upto c.in_ok-held.held (Ok tt) (λ lawful seen. welcome a.value r _ c.holds.new.self.rows next (kept ∙ lawful.fit.fits.rows_are) (omega (arith, few)) (rw c.if-held.false at seen)) all
