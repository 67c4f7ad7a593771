-- The terms that operations stand for.
use Rattle.std.proofs.Common.{◌≡◌, ◌≢◌, ◌-◌, ℕ, zero, suc, List, slice_index_or, refl, sym, ap, arith}
use Rattle.sqlite.specs.declared.types.Value.TheVariants.{Null}
use Rattle.sqlite_schema.specs.Code.{op_term, term_to}
use Rattle.sqlite_schema.specs.declared.code.Op.{Op}
use Rattle.sqlite_schema.specs.declared.code.Op.TheVariants.{Literal}
use Rattle.sqlite_schema.specs.declared.plan.Stage.{Stage}
use Rattle.sqlite_schema.specs.declared.plan.Stage.TheVariants.{End}
use Rattle.sqlite_schema.specs.Plan.{stage_join, join_to}
use Rattle.sqlite_sql.specs.Query.{Join, inner}
use Rattle.sqlite_sql.specs.Term.{Term, op1, op2}
use Rattle.sqlite_sql.specs.declared.ops.UnaryOp.{UnaryOp}
use Rattle.sqlite_sql.specs.declared.ops.BinaryOp.{BinaryOp}

pub op1_same : (o p : UnaryOp) (x y : Term) → op1 o x ≡ op1 p y → (o ≡ p) × (x ≡ y)
op1_same o p x y same = (cc, cc)

pub op2_same : (o p : BinaryOp) (x y z w : Term) → op2 o x z ≡ op2 p y w → (o ≡ p) × (x ≡ y) × (z ≡ w)
op2_same o p x y z w same = (cc, cc, cc)

-- the term at a place where there is an operation
pub term_at : (ops : List Op) (depth at : ℕ) (op : Op) → depth ≢ 0 → ((d : Op) → op ≡ slice_index_or ops at d) → term_to ops depth at ≡ op_term (term_to ops (depth - 1)) op
term_at ops zero at op deep is = absurd (deep refl)
term_at ops (suc n) at op deep is = let e : suc n - 1 ≡ n = omega arith in rw e (ap (op_term (term_to ops n)) (sym (is (Literal Null))))

-- the steps from a place where there is one
pub join_at : (ops : List Op) (stages : List Stage) (depth at : ℕ) (stage : Stage) → depth ≢ 0 → ((d : Stage) → stage ≡ slice_index_or stages at d) → join_to ops stages depth at ≡ stage_join ops (join_to ops stages (depth - 1)) stage
join_at ops stages zero at stage deep is = absurd (deep refl)
join_at ops stages (suc n) at stage deep is = let e : suc n - 1 ≡ n = omega arith in rw e (ap (stage_join ops (join_to ops stages n)) (sym (is End)))

pub inner_same : (table tree : ℕ) (x y : Join) → inner table x ≡ inner tree y → x ≡ y
inner_same table tree x y same = cc
