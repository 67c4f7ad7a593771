use Rattle.std.proofs.Common.{◌≡◌, ◌-◌, Some, None, length, take, drop, sym, ap, ◌∙◌, subst, arith, List}
use Rattle.std.specs.Prelude.{is_some, IsTrue}
use Rattle.std.specs.List.{AllByRecursion}
use Rattle.std.proofs.lemmas.List.{take_all, length-drop}
use Rattle.fare_record.specs.Values.{RecordValue}
use Rattle.fare_store.specs.OutboxWords.{OutboxValue, stored}
use Rattle.fare_store.specs.Standing.{Calls}
use Rattle.fare_store.specs.Batches.{done_all}
use Rattle.fare_tables.proofs.Steps.{read_then, read_failed, says}
use Rattle.fare_outbox.specs.Words.{stands}
use Rattle.fare_outbox.specs.Batches.{IsEnd}
use Rattle.fare_outbox.proofs.Batches.{ends_behind, follows_on}
use Rattle.fare_outbox.proofs.tables.SqlOutbox.follows.Goals as goal

pub returns-in_err-ends-clause-does : goal.returns-in_err-ends-clause-does
returns-in_err-ends-clause-does g c =
    let a = stands g.S.Store c.args.self.now in
    let b = stands g.S.Store c.link_behind.new.self in
    let d = stands g.S.Store c.ends.new.self in
    read_failed a d _ _ c.from_residual-in_err-ends.result _ c.from_residual-in_err-ends.ensures.1 (read_then a b d _ (Unit {0}) (Some _) c.in_ok-upto.ensures.does c.in_err-ends.ensures.does)

pub returns-clause-does : goal.returns-clause-does
returns-clause-does g c =
    let a = stands g.S.Store c.args.self.now in
    let b = stands g.S.Store c.link_behind.new.self in
    let d = stands g.S.Store c.ends.new.self in
    let r = c.args.row.now in
    let rs = c.args.rows.now in
    let e = c.in_ok-ends.ends in
    let kept : c.ends.new.self.rows ≡ c.args.self.now.rows = c.in_ok-ends.ensures.rows ∙ c.in_ok-upto.ensures.rows in
    let long = length-drop 1 rs in
    let whole : take (length rs - 1) (drop 1 rs) ≡ drop 1 rs = take_all (length rs - 1) (drop 1 rs) (omega (arith, long)) in
    let first : Calls a b None ((b.value ≡ a.value) × (c.in_ok-upto.upto ≡ (done_all stored rs a.value).upto r.device)) (λ v. ⊥) = rw c.device.ensures at c.in_ok-upto.ensures.does in
    let second : Calls b d None ((d.value ≡ b.value) × (IsTrue e → AllByRecursion (IsEnd b.value) (drop 1 rs) → IsEnd b.value r)) (λ v. ⊥) =
    subst (λ (l : List RecordValue). Calls b d None ((d.value ≡ b.value) × (IsTrue e → AllByRecursion (IsEnd b.value) l → IsEnd b.value r)) (λ v. ⊥)) whole c.in_ok-ends.ensures.does in
    says a d None _ _ (λ v. ⊥) (λ v. ⊥)
    (λ lawful p. (
      p.0,
      λ yes ends.
          let next = c.comes_next.ensures in
          let before = subst (λ (v : OutboxValue). AllByRecursion (IsEnd v) (drop 1 rs)) (sym p.1.0) (ends_behind a.value rs ends) in
          let end = subst (λ (v : OutboxValue). IsEnd v r) p.1.0 (p.1.2 (next.ends yes) before) in (
            follows_on a.value rs r c.in_ok-upto.upto c.ends.new.self.rows p.1.1 (next.link yes) (sym (ap is_some (end r.lane (omega arith)))) (next.free yes) (kept ∙ lawful.fit.fits.rows_are) (next.room yes) c.in_ok-ends.ensures.lane,
            end,
          ),
    ))
    (λ v none. none)
    (read_then a b d (c.in_ok-upto.upto ≡ (done_all stored rs a.value).upto r.device) (IsTrue e → AllByRecursion (IsEnd b.value) (drop 1 rs) → IsEnd b.value r) None first second)
