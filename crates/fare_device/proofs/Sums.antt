-- Sums of counts.
use Rattle.std.proofs.Common.{◌≡◌, ◌≤◌, ℕ, List, Some, get_or, arith}
use Rattle.std.specs.Prelude.{slice_get}
use Rattle.std.specs.List.{sum}
use Rattle.std.proofs.lemmas.List.Sums.{sum_by_more_le}
use Rattle.std.proofs.lemmas.Option.{slice_get_within, get_or_from_slice_get}

-- no count is above the sum
pub count-le-sum : (xs : List ℕ) (k n : ℕ) → slice_get xs k ≡ Some n → n ≤ sum xs
count-le-sum xs k n e =
    let same : get_or xs k 0 ≡ n = get_or_from_slice_get xs k n 0 e in
    omega (arith, same, sum_by_more_le (λ x. x) xs k 0 (slice_get_within xs k n e))
