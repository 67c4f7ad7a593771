-- Numbers in falling order.
use Rattle.std.specs.Prelude.{◌≡◌, ℕ, ◌==◌}
use Rattle.std.specs.declared.cmp.Ordering.{Ordering}
use Rattle.std.specs.Ordering.{nat_cmp, is_eq}
use Rattle.std.specs.Cmp.{IsTotalOrder, unsigned_ties}
use Rattle.std.proofs.Common.{◌∙◌}
use Rattle.std.proofs.lemmas.Cmp.{back_total, nat_cmp_total, nat_eq_equiv}

-- the greater comes first
abbrev pub falling : ℕ → ℕ → Ordering
falling a b = nat_cmp b a

pub falling_total : IsTotalOrder falling
falling_total = back_total nat_cmp_total

pub falling_ties : (a b : ℕ) → (a == b) ≡ is_eq (falling a b)
falling_ties a b = nat_eq_equiv.symm a b ∙ unsigned_ties b a
