-- What is stored, as the items of an acknowledgement line tell it.
use Rattle.std.proofs.Common.{◌≡◌, ℕ, ◌≤◌, ◌==◌, max, Bool, true, List, [], ◌∷◌, ◌++◌, All, ap, arith, if◌then◌else◌}
use Rattle.std.proofs.lemmas.List.Elements.{All-push, All-weaker}
use Rattle.std.proofs.lemmas.Bool.Decides.{nat_tests}
use Rattle.fare_record.specs.declared.ack_item.AckItem.{AckItem}
use Rattle.fare_record.specs.declared.ack_item.AckItem.TheVariants.{Upto, Day}
use Rattle.fare_inbox_queue.specs.declared.ack_rule.Told.{Told}
use Rattle.fare_inbox_queue.specs.Line.{device_in, told_of, stored_in, IsUpTo, IsStored}

pub stored_more : (sent : List Told) (told : Told) (device : ℕ) → stored_in (sent ++ told ∷ []) device ≡ max (stored_in sent device) (told_of told.item told.stored device)
stored_more [] told device = omega arith
stored_more (t ∷ sent) told device = let more = stored_more sent told device in omega arith

told_own : (item : AckItem) (stored : ℕ) → told_of item stored (device_in item) ≡ stored
told_own item stored = let same : (device_in item == device_in item) ≡ true = grind (arith, nat_tests) in ap (λ (b : Bool). if b then stored else 0) same

up_to_more : (item : AckItem) (stored more : ℕ) → stored ≤ more → IsUpTo item stored → IsUpTo item more
up_to_more (Upto a) stored more higher up = omega arith
up_to_more (Day a) stored more higher up = tt

-- what is stored only grows
pub stored_still : (sent : List Told) (told : Told) (item : AckItem) → IsStored (stored_in sent) item → IsStored (stored_in (sent ++ told ∷ [])) item
stored_still sent told item up =
    up_to_more item (stored_in sent (device_in item)) (stored_in (sent ++ told ∷ []) (device_in item)) (let more = stored_more sent told (device_in item) in omega arith) up

pub stored_now : (sent : List Told) (told : Told) → IsUpTo told.item told.stored → IsStored (stored_in (sent ++ told ∷ [])) told.item
stored_now sent told up =
    up_to_more told.item told.stored (stored_in (sent ++ told ∷ []) (device_in told.item))
    (let more = stored_more sent told (device_in told.item) in let own = told_own told.item told.stored in omega arith) up

pub all_stored : (sent : List Told) (told : Told) → All (λ (t : Told). IsStored (stored_in sent) t.item) sent → IsUpTo told.item told.stored
    → All (λ (t : Told). IsStored (stored_in (sent ++ told ∷ [])) t.item) (sent ++ told ∷ [])
all_stored sent told all up =
    All-push (λ (t : Told). IsStored (stored_in (sent ++ told ∷ [])) t.item) sent told
    (All-weaker (λ (t : Told). IsStored (stored_in sent) t.item) (λ (t : Told). IsStored (stored_in (sent ++ told ∷ [])) t.item) (λ t k. stored_still sent told t.item k) sent all) (stored_now sent told up)
