use Rattle.std.proofs.Common.{◌≡◌, ◌-◌, sym, ap, ◌∙◌}
use Rattle.sqlite_schema.specs.Code.{term_to, op_term}
use Rattle.sqlite_schema.specs.declared.code.Op.TheVariants.{Unary, Binary}
use Rattle.fare_layout.proofs.Nodes.{op1_same, op2_same, term_at}
use Rattle.fare_layout.proofs.schemas.+same_term.Goals as goal

pub returns-then-same_term-clause-found : goal.returns-then-same_term-clause-found
returns-then-same_term-clause-found t c simple same =
    let d : c.in-Some-Unary-Some-Unary.field-0-1.now ≡ Unary c.in-Some-Unary-Some-Unary.o c.in-Some-Unary-Some-Unary.x = search in
    let e : c.in-Some-Unary-Some-Unary.field-0-1'.now ≡ Unary c.in-Some-Unary-Some-Unary.p c.in-Some-Unary-Some-Unary.y = search in
    let left = term_at c.args.a.now c.args.depth c.args.at _ c.if-depth-eq0.false c.in-Some-Unary-Some-Unary.ensures.lookup.3.1 ∙ ap (op_term (term_to c.args.a.now (c.args.depth - 1))) d in
    let right = term_at c.args.b.now c.args.limit c.args.place _ c.if-limit-eq0.false c.in-Some-Unary-Some-Unary.ensures'.lookup.3.1 ∙ ap (op_term (term_to c.args.b.now (c.args.limit - 1))) e in
    let both = op1_same c.in-Some-Unary-Some-Unary.o c.in-Some-Unary-Some-Unary.p _ _ (sym left ∙ same ∙ right) in
    c.same_unary.ensures.1 both.0

pub returns-then-same_term-3-clause-found : goal.returns-then-same_term-3-clause-found
returns-then-same_term-3-clause-found t c simple same =
    let d : c.in-Some-Binary-Some-Binary.field-0-1.now ≡ Binary c.in-Some-Binary-Some-Binary.o c.in-Some-Binary-Some-Binary.x c.in-Some-Binary-Some-Binary.z = search in
    let e : c.in-Some-Binary-Some-Binary.field-0-1'.now ≡ Binary c.in-Some-Binary-Some-Binary.p c.in-Some-Binary-Some-Binary.y c.in-Some-Binary-Some-Binary.w = search in
    let left = term_at c.args.a.now c.args.depth c.args.at _ c.if-depth-eq0.false c.in-Some-Binary-Some-Binary.ensures.lookup.3.1 ∙ ap (op_term (term_to c.args.a.now (c.args.depth - 1))) d in
    let right = term_at c.args.b.now c.args.limit c.args.place _ c.if-limit-eq0.false c.in-Some-Binary-Some-Binary.ensures'.lookup.3.1 ∙ ap (op_term (term_to c.args.b.now (c.args.limit - 1))) e in
    let both = op2_same c.in-Some-Binary-Some-Binary.o c.in-Some-Binary-Some-Binary.p _ _ _ _ (sym left ∙ same ∙ right) in
    c.same_binary.ensures.1 both.0
