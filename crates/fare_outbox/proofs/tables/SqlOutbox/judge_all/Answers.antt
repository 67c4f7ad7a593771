use Rattle.std.proofs.Common.{◌≡◌, ◌<◌, ◌≤◌, length, get_or, OnOk, Ok, Err, Result, ◌∷◌, [], ◌++◌, Some, None, true, false, take, refl, sym, ap, ◌∙◌, subst, arith, List, rules}
use Rattle.std.proofs.lemmas.List.{take_more, take_all}
use Rattle.std.specs.Result.{is_err}
use Rattle.fare_record.specs.Values.{RecordValue}
use Rattle.fare_store.specs.declared.fault.StoreFault.{StoreFault}
use Rattle.fare_store.specs.OutboxWords.{OutboxValue, store_judged}
use Rattle.fare_store.specs.Standing.{Calls}
use Rattle.fare_tables.proofs.Steps.{read_then, read_failed, says}
use Rattle.fare_outbox.specs.Words.{stands}
use Rattle.fare_outbox.specs.Batches.{AreEnds, IsEnd, Follows, AreWelcome, IsWelcomePart}
use Rattle.fare_outbox.proofs.Batches.{ends-push, welcome-push}
use Rattle.fare_outbox.proofs.tables.SqlOutbox.judge_all.Goals as goal

none_welcome : (v : OutboxValue) (rs : List RecordValue) → length rs ≡ 0 → IsWelcomePart v rs 0
none_welcome v [] e = record { welcome = record { accepted = tt; lanes = tt }; some = λ _. tt }
none_welcome v (r ∷ rs) e = absurd (omega (arith, e))

not_ok : (j : Result Unit StoreFault) → is_err j ≡ true → j ≡ Ok tt → ⊥
not_ok (Ok x) err e = absurd (let h = err in cc)
not_ok (Err f) err e = absurd (let h = e in cc)

first_refused : (v : OutboxValue) (rs : List RecordValue) (r : RecordValue) (j : Result Unit StoreFault) → is_err j ≡ true → 0 < length rs → r ≡ get_or rs 0 r → j ≡ store_judged v r → IsWelcomePart v rs 0
first_refused v [] r j err some at is = absurd (omega (arith, some))
first_refused v (x ∷ rs) r j err some at is = record { welcome = record { accepted = tt; lanes = tt }; some = λ _ ok. not_ok j err (is ∙ ap (store_judged v) at ∙ ok) }

one_welcome : (v : OutboxValue) (rs : List RecordValue) (r : RecordValue) (j : Result Unit StoreFault) → is_err j ≡ false → 0 < length rs → r ≡ get_or rs 0 r → j ≡ store_judged v r → OnOk j (r.lane ≤ 9223372036854775807) → AreWelcome v (take 1 rs) × AreEnds v (take 1 rs)
one_welcome v [] r j ok some at is low = absurd (omega (arith, some))
one_welcome v (x ∷ rs) r (Err f) ok some at is low = absurd (let h = ok in cc)
one_welcome v (x ∷ rs) r (Ok u) ok some at is low = (
  record { accepted = (sym (is ∙ ap (store_judged v) at), tt); lanes = (subst (λ (t : RecordValue). t.lane ≤ 9223372036854775807) at low, tt) },
  tt,
)

pub returns-in_err-follows-clause-does : goal.returns-in_err-follows-clause-does
returns-in_err-follows-clause-does g c =
    let a = stands g.S.Store c.args.self.now in
    let b = stands g.S.Store c.loop-place.self in
    let d = stands g.S.Store c.follows.new.self in
    read_failed a d _ _ c.from_residual-in_err-follows.result _ c.from_residual-in_err-follows.ensures.1 (read_then a b d _ (Unit {0}) (Some _) c.loop-place.invariant.does c.in_err-follows.ensures.does)

pub loop-place-preserved : goal.loop-place-preserved
loop-place-preserved g c =
    let a = stands g.S.Store c.args.self.now in
    let b = stands g.S.Store c.loop-place.self in
    let d = stands g.S.Store c.follows.new.self in
    let rows = c.args.rows.now in
    let k = c.loop-place.place in
    let r = c.index-rows-place.result in
    let at = take_more rows k r (omega arith) ∙ ap (λ x. take k rows ++ x ∷ []) (sym c.index-rows-place.is) in
    let first : Calls a b None ((b.value ≡ a.value) × (AreWelcome a.value (take k rows) × AreEnds a.value (take k rows))) (λ v. ⊥) = c.loop-place.invariant.does in
    let second : Calls b d None ((d.value ≡ b.value) × (true ≡ true → AreEnds b.value (take k rows) → Follows b.value (take k rows) r × IsEnd b.value r)) (λ v. ⊥) = rw c.if-not-branch.false at c.in_ok-follows.ensures.does in
    record {
      does = says a d None _ _ (λ v. ⊥) (λ v. ⊥)
          (λ lawful p.
          let next = subst (λ (v : OutboxValue). Follows v (take k rows) r × IsEnd v r) p.1.0 (p.1.2 refl (subst (λ (v : OutboxValue). AreEnds v (take k rows)) (sym p.1.0) p.1.1.1)) in (
            p.0,
            subst (λ (l : List RecordValue). AreWelcome a.value l × AreEnds a.value l) (sym at) (welcome-push a.value (take k rows) r p.1.1.0 next.0, ends-push a.value (take k rows) r p.1.1.1 next.1),
          ))
          (λ v none. none) (read_then a b d (AreWelcome a.value (take k rows) × AreEnds a.value (take k rows)) (true ≡ true → AreEnds b.value (take k rows) → Follows b.value (take k rows) r × IsEnd b.value r) None first second);
      up = c.in_ok-follows.ensures.up;
    }

pub returns-then-not-branch-clause-does : goal.returns-then-not-branch-clause-does
returns-then-not-branch-clause-does g c =
    let a = stands g.S.Store c.args.self.now in
    let b = stands g.S.Store c.loop-place.self in
    let d = stands g.S.Store c.follows.new.self in
    let rows = c.args.rows.now in
    let k = c.loop-place.place in
    let r = c.index-rows-place.result in
    let start = c.loop-place.auto.place in
    let first : Calls a b None ((b.value ≡ a.value) × (AreWelcome a.value (take k rows) × AreEnds a.value (take k rows))) (λ v. ⊥) = c.loop-place.invariant.does in
    let second : Calls b d None ((d.value ≡ b.value) × (false ≡ true → AreEnds b.value (take k rows) → Follows b.value (take k rows) r × IsEnd b.value r)) (λ v. ⊥) = rw c.if-not-branch.true at c.in_ok-follows.ensures.does in
    says a d None _ _ (λ v. ⊥) (λ v. ⊥)
    (λ lawful p. (p.0, record { welcome = p.1.1.0; some = λ e. absurd (omega (arith, e, start)) }))
    (λ v none. none) (read_then a b d (AreWelcome a.value (take k rows) × AreEnds a.value (take k rows)) (false ≡ true → AreEnds b.value (take k rows) → Follows b.value (take k rows) r × IsEnd b.value r) None first second)

pub returns-then-is_empty-clause-does : goal.returns-then-is_empty-clause-does
returns-then-is_empty-clause-does g c =
    let a = stands g.S.Store c.args.self.now in
    let b = stands g.S.Store c.begin.new.self in
    let none : length c.args.rows.now ≡ 0 = search rules in
    let first : Calls a b None ((b.value ≡ a.value) × Unit {0}) (λ v. ⊥) = c.in_ok-begin.ensures.does in
    says a b None _ _ (λ v. ⊥) (λ v. ⊥) (λ lawful p. (p.0, none_welcome a.value c.args.rows.now none)) (λ v none. none) first

pub returns-then-is_empty-clause-up : goal.returns-then-is_empty-clause-up
returns-then-is_empty-clause-up g c = search rules

pub returns-then-is_empty-clause-few : goal.returns-then-is_empty-clause-few
returns-then-is_empty-clause-few g c = search rules

pub returns-then-is_err-clause-does : goal.returns-then-is_err-clause-does
returns-then-is_err-clause-does g c =
    let a = stands g.S.Store c.args.self.now in
    let b = stands g.S.Store c.judge.new.self in
    let rows = c.args.rows.now in
    let r = c.index-rows-0.result in
    let some : 0 < length rows = search rules in
    let first : Calls a b None ((b.value ≡ a.value) × (c.in_ok-judge.field-0 ≡ store_judged a.value r)) (λ v. ⊥) = c.in_ok-judge.ensures.does in
    let err : is_err c.in_ok-judge.field-0 ≡ true = sym c.if-is_err.ensures.value in
    says a b None _ _ (λ v. ⊥) (λ v. ⊥) (λ lawful p. (p.0, first_refused a.value rows r c.in_ok-judge.field-0 err some c.index-rows-0.is p.1)) (λ v none. none) first

pub returns-then-is_err-clause-up : goal.returns-then-is_err-clause-up
returns-then-is_err-clause-up g c = search rules

pub returns-then-is_err-clause-few : goal.returns-then-is_err-clause-few
returns-then-is_err-clause-few g c = search rules

pub returns-then-not-branch-clause-up : goal.returns-then-not-branch-clause-up
returns-then-not-branch-clause-up g c = search rules

pub returns-then-not-branch-clause-few : goal.returns-then-not-branch-clause-few
returns-then-not-branch-clause-few g c = search rules

pub returns-clause-does : goal.returns-clause-does
returns-clause-does g c =
    let a = stands g.S.Store c.args.self.now in
    let b = stands g.S.Store c.loop-place.self in
    let rows = c.args.rows.now in
    let k = c.loop-place.place in
    let some : 0 < length rows = search rules in
    let all : take k rows ≡ take (length rows) rows = take_all k rows c.loop-place-test.false ∙ sym (take_all (length rows) rows (omega arith)) in
    let first : Calls a b None ((b.value ≡ a.value) × (AreWelcome a.value (take k rows) × AreEnds a.value (take k rows))) (λ v. ⊥) = c.loop-place.invariant.does in
    says a b None _ _ (λ v. ⊥) (λ v. ⊥)
    (λ lawful p. (p.0, record { welcome = subst (λ (l : List RecordValue). AreWelcome a.value l) all p.1.0; some = λ e. absurd (omega (arith, e, some)) }))
    (λ v none. none) first

pub returns-clause-up : goal.returns-clause-up
returns-clause-up g c = search rules

pub returns-clause-few : goal.returns-clause-few
returns-clause-few g c = search rules

pub loop-place-init : goal.loop-place-init
loop-place-init g c =
    let a = stands g.S.Store c.args.self.now in
    let b = stands g.S.Store c.judge.new.self in
    let rows = c.args.rows.now in
    let r = c.index-rows-0.result in
    let some : 0 < length rows = search rules in
    let first : Calls a b None ((b.value ≡ a.value) × (c.in_ok-judge.field-0 ≡ store_judged a.value r)) (λ v. ⊥) = c.in_ok-judge.ensures.does in
    let ok : is_err c.in_ok-judge.field-0 ≡ false = sym c.if-is_err.ensures.value in
    record {
      does = says a b None _ _ (λ v. ⊥) (λ v. ⊥) (λ lawful p. (p.0, one_welcome a.value rows r c.in_ok-judge.field-0 ok some c.index-rows-0.is p.1 c.in_ok-judge.ensures.lane)) (λ v none. none) first;
      up = c.in_ok-judge.ensures.up;
    }

pub follows-requires : goal.follows-requires
follows-requires g c = search rules

pub bounds-rows-0 : goal.bounds-rows-0
bounds-rows-0 g c = search rules

pub returns-in_err-judge-clause-does : goal.returns-in_err-judge-clause-does
returns-in_err-judge-clause-does g c =
    let a = stands g.S.Store c.args.self.now in
    let b = stands g.S.Store c.judge.new.self in
    read_failed a b _ _ c.from_residual-in_err-judge.result _ c.from_residual-in_err-judge.ensures.1 c.in_err-judge.ensures.does

pub returns-in_err-begin-clause-does : goal.returns-in_err-begin-clause-does
returns-in_err-begin-clause-does g c =
    let a = stands g.S.Store c.args.self.now in
    let b = stands g.S.Store c.begin.new.self in
    read_failed a b _ _ c.from_residual.result _ c.from_residual.ensures.1 c.in_err-begin.ensures.does

pub returns-in_err-judge-clause-up : goal.returns-in_err-judge-clause-up
returns-in_err-judge-clause-up g c = search rules

pub returns-in_err-begin-clause-up : goal.returns-in_err-begin-clause-up
returns-in_err-begin-clause-up g c = search rules

pub returns-in_err-follows-clause-up : goal.returns-in_err-follows-clause-up
returns-in_err-follows-clause-up g c = search rules
