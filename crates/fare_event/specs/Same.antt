-- When two lists of devices are the same.
use Rattle.std.specs.Prelude.{ℕ, Bool, List, nat_eq}
use Rattle.std.specs.Cmp.{IsEquivalence}
use Rattle.std.specs.Cmp.Lexicographic.{pointwise}
use Rattle.std.proofs.lemmas.Cmp.{nat_eq_equiv, lists_equiv}

abbrev pub same_devices : List ℕ → List ℕ → Bool
same_devices = pointwise nat_eq

-- that is an equivalence
pub same_devices_equiv : IsEquivalence same_devices
same_devices_equiv = lists_equiv nat_eq_equiv
