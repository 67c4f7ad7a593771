-- A host's name and what stands behind it.
use Rattle.std.proofs.Common.{◌≡◌, ℕ, List, ◌++◌, sym, subst, ◌∙◌}
use Rattle.std.proofs.lemmas.List.{append_cancel_left}
use Rattle.fare_request.specs.Asking.{IsAt, IsPortOrNone}

-- nothing else stands behind it
pub is_rest : (name host rest : List ℕ) → host ≡ name ++ rest → IsAt name host → IsPortOrNone rest
is_rest name host rest is at = subst IsPortOrNone (append_cancel_left name at.0 rest (sym at.1 ∙ is)) at.2
