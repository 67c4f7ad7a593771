-- What is written in parts.
use Rattle.std.proofs.Common.{◌∙◌, ◌++◌, ap, ℕ, List, Option, Some, None, Result, Ok, Err, OnOk, append_assoc}
use Rattle.std.specs.Io.KnownBytes.{Appends}

-- a part, and then another
pub in_turn : (a b c : Option (List ℕ)) (xs ys : List ℕ) → Appends a b xs → Appends b c ys → Appends a c (xs ++ ys)
in_turn None b c xs ys p q = tt
in_turn (Some us) None c xs ys p q = absurd p
in_turn (Some us) (Some vs) None xs ys p q = absurd q
in_turn (Some us) (Some vs) (Some ws) xs ys p q = q ∙ ap (λ (zs : List ℕ). zs ++ ys) p ∙ append_assoc us xs ys

-- what follows where a call succeeded
pub on_ok : {A E : Type 0} {P Q : Type 0} (r : Result A E) → (P → Q) → OnOk r P → OnOk r Q
on_ok (Ok a) f p = f p
on_ok (Err e) f p = tt
