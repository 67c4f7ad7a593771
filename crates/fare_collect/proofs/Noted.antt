-- What is noted of the days that statements name.
use Rattle.std.proofs.Common.{◌≡◌, ℕ, suc, List, [], ◌∷◌, Some, None, refl, arith}
use Rattle.std.specs.Prelude.{Option, fold}
use Rattle.std.proofs.lemmas.Map.Views.{All-insert_key}
use Rattle.fare_record.specs.Values.{StatementValue}
use Rattle.fare_record.specs.declared.item.Item.{Item}
use Rattle.fare_record.specs.declared.item.Item.TheVariants as item
use Rattle.fare_scheme.specs.Values.{SchemeValue}
use Rattle.fare_scheme.specs.Words.{position_of_device}
use Rattle.fare_store.specs.Keys.{Key, key_order}
use Rattle.fare_collect.specs.Noting.{AreNoted}
use Rattle.fare_writer.specs.Noting.{noted_at, noting}

-- each day stands behind its device's place
noted_one : (sc : SchemeValue) (days : List Key) (v : StatementValue) (o : Option ℕ) → position_of_device sc v.device ≡ o → AreNoted sc days → AreNoted sc (noted_at days v o)
noted_one sc days v None at are = are
noted_one sc days v (Some place) at are = All-insert_key key_order (place, v.device, v.day) (λ k. position_of_device sc k.1 ≡ Some k.0) days are at

noted_item : (sc : SchemeValue) (days : List Key) (i : Item) → AreNoted sc days → AreNoted sc (noting sc days i)
noted_item sc days (item.Tap r) are = are
noted_item sc days (item.Stated v) are = noted_one sc days v (position_of_device sc v.device) refl are

pub noted_all : (sc : SchemeValue) (days : List Key) (items : List Item) → AreNoted sc days → AreNoted sc (fold (noting sc) days items)
noted_all sc days [] are = are
noted_all sc days (i ∷ items) are = noted_all sc (noting sc days i) items (noted_item sc days i are)

-- the first of them, and the rest
pub noted_first : (sc : SchemeValue) (k : Key) (days : List Key) → AreNoted sc (k ∷ days) → position_of_device sc k.1 ≡ Some k.0
noted_first sc k days are = are 0 k (omega arith)

pub noted_rest : (sc : SchemeValue) (k : Key) (days : List Key) → AreNoted sc (k ∷ days) → AreNoted sc days
noted_rest sc k days are = λ j d lt. are (suc j) d (omega (arith, lt))
