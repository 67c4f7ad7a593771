use Rattle.std.proofs.Common.{◌≡◌, ℕ, List, ◌∷◌, ◌++◌, Some, None, ap, ◌∙◌, codes, arith}
use Rattle.std.proofs.lemmas.Str.Pattern.{split_after, split_parts}
use Rattle.fare_request.proofs.Words.{behind_owner, cut_off}
use Rattle.fare_request.proofs.query.texts.Goals as goal

pub returns-in_err-first : goal.returns-in_err-first
returns-in_err-first c = rw c.from_residual-in_err-first.ensures (λ first second free says.
    split_after 38 c.in_ok-rest.rest.now first (c.args.key.now ++ second) None c.in_err-first.ensures.cases (omega arith) (behind_owner c.args.query.now c.in_ok-rest.rest.now c.args.key.now first second c.in_ok-rest.ensures.cases says) free)

pub returns-in_err-second : goal.returns-in_err-second
returns-in_err-second c = rw c.from_residual-in_err-second.ensures (λ first second free says.
    let cut = split_after 38 c.in_ok-rest.rest.now first (c.args.key.now ++ second) (Some (c.in_ok-first.first, c.in_ok-first.behind)) c.in_ok-first.ensures.cases (omega arith) (behind_owner c.args.query.now c.in_ok-rest.rest.now c.args.key.now first second c.in_ok-rest.ensures.cases says) free in
    c.in_err-second.ensures.cases second cut.1)

pub returns : goal.returns
returns c =
    let parts = split_parts 38 c.in_ok-rest.rest.now (Some (c.in_ok-first.first, c.in_ok-first.behind)) c.in_ok-first.ensures.cases (omega arith) in
    let last : c.in_ok-first.behind.now ≡ c.args.key.now ++ c.in_ok-second.second.now = cut_off c.args.key.now c.in_ok-first.behind.now c.in_ok-second.second.now c.in_ok-second.ensures.cases in (
      parts.1,
      cut_off (codes "owner=") c.args.query.now c.in_ok-rest.rest.now c.in_ok-rest.ensures.cases ∙ ap (λ (l : List ℕ). codes "owner=" ++ l) (parts.0 ∙ ap (λ (l : List ℕ). c.in_ok-first.first.now ++ (38 ∷ l)) last),
    )
