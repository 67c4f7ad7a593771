-- The ids of a part of a scheme, gone over one by one: where each of them stands, and when none is left.
use Rattle.std.proofs.Common.{◌≡◌, ℕ, ◌<◌, ◌≤◌, List, length, get_or, Some, refl, sym, ◌∙◌, ap, arith}
use Rattle.std.specs.Prelude.{slice_get}
use Rattle.std.specs.Map.{keys_of}
use Rattle.std.proofs.lemmas.Map.Entries.{length-keys_of}
use Rattle.std.proofs.lemmas.Option.{slice_get_read}
use Rattle.fare_scheme.specs.Words.{id_at}
use Rattle.fare_scheme.proofs.Known.{id_at_keys}

-- the item that a loop over a slice is at stands at the loop's place
pub item_at : {X : Type 0} (xs : List X) (k : ℕ) (x : X) → k < length xs → x ≡ get_or xs k x → slice_get xs k ≡ Some x
item_at xs k x within is = slice_get_read xs (length xs) k x refl within is

-- and so it does among the entries
pub entry_at : {X : Type 0} (entries : List (ℕ × X)) (ids : List ℕ) (k id : ℕ) → ids ≡ keys_of entries → k < length ids → id ≡ get_or ids k id → id_at entries k ≡ Some id
entry_at entries ids k id all within is = sym (id_at_keys entries k) ∙ ap (λ i. slice_get i k) (sym all) ∙ item_at ids k id within is

-- a loop that has no id left has passed all entries
pub none_left : {X : Type 0} (entries : List (ℕ × X)) (ids : List ℕ) (k : ℕ) → ids ≡ keys_of entries → length ids ≤ k → length entries ≤ k
none_left entries ids k all past = omega (arith, past, ap length all, length-keys_of entries)
