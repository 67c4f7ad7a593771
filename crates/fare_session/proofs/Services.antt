-- Lists of items with more behind them.
use Rattle.std.proofs.Common.{◌≡◌, ℕ, ◌+◌, List, [], ◌∷◌, ◌++◌, refl, arith}
use Rattle.std.specs.List.{AllByRecursion}
use Rattle.fare_record.specs.declared.item.Item.{Item}
use Rattle.fare_store.specs.OutboxWords.{OutboxValue}
use Rattle.fare_store.specs.LedgerWords.{LedgerValue}
use Rattle.fare_history.specs.Serving.{Cursors, moved_by, moved_by_all, AreNextItems, given, given_all, AreUnrefused}
use Rattle.fare_session.specs.Taking.{added_by}

pub moved_by_all-append : (c : Cursors) (is js : List Item) → moved_by_all c (is ++ js) ≡ moved_by_all (moved_by_all c is) js
moved_by_all-append c [] js = refl
moved_by_all-append c (i ∷ is) js = moved_by_all-append (moved_by c i) is js

pub next_items-append : (owner : ℕ) (x : OutboxValue) (c : Cursors) (is js : List Item) → AreNextItems owner x c is → AreNextItems owner x (moved_by_all c is) js → AreNextItems owner x c (is ++ js)
next_items-append owner x c [] js a b = b
next_items-append owner x c (i ∷ is) js a b = (a.0, next_items-append owner x (moved_by c i) is js a.1 b)

pub given_all-append : (l : LedgerValue) (is js : List Item) → given_all l (is ++ js) ≡ given_all (given_all l is) js
given_all-append l [] js = refl
given_all-append l (i ∷ is) js = given_all-append (given l i) is js

pub added_by-append : (l : LedgerValue) (is js : List Item) → added_by l (is ++ js) ≡ added_by l is + added_by (given_all l is) js
added_by-append l [] js = omega arith
added_by-append l (i ∷ is) js = let rest = added_by-append (given l i) is js in omega (arith, rest)

pub unrefused-append : (l : LedgerValue) (is js : List Item) → AreUnrefused l is → AreUnrefused (given_all l is) js → AreUnrefused l (is ++ js)
unrefused-append l [] js a b = b
unrefused-append l (i ∷ is) js a b = (a.0, unrefused-append (given l i) is js a.1 b)

pub all-append : {X : Type 0} (P : X → Type 0) (is js : List X) → AllByRecursion P is → AllByRecursion P js → AllByRecursion P (is ++ js)
all-append P [] js a b = b
all-append P (i ∷ is) js a b = (a.0, all-append P is js a.1 b)

pub next_items-front : (owner : ℕ) (x : OutboxValue) (c : Cursors) (is js : List Item) → AreNextItems owner x c (is ++ js) → AreNextItems owner x c is
next_items-front owner x c [] js a = tt
next_items-front owner x c (i ∷ is) js a = (a.0, next_items-front owner x (moved_by c i) is js a.1)
