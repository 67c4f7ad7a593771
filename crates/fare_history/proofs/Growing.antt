-- What a thread's loop adds to a session: one item at the end.
use Rattle.std.proofs.Common.{◌≡◌, ℕ, ◌+◌, List, [], ◌∷◌, ◌++◌, length, Bool, true, false, refl, ap, ◌∙◌, arith}
use Rattle.std.specs.Prelude.{◌==◌, if◌then◌else◌}
use Rattle.std.specs.List.{AllByRecursion}
use Rattle.fare_scheme.specs.Values.{SchemeValue}
use Rattle.fare_record.specs.declared.item.Item.{Item}
use Rattle.fare_record.specs.declared.item.Item.TheVariants as item
use Rattle.fare_store.specs.OutboxWords.{OutboxValue}
use Rattle.fare_store.specs.LedgerWords.{LedgerValue}
use Rattle.fare_history.specs.Serving.{Cursors, moved_by, moved_by_all, IsNextItem, AreNextItems, given, given_all}
use Rattle.fare_history.specs.Gathering.{with_link, links_of, CountsFrom, storing, IsHandled, IsAnswerFrom, Entry, storing_all, AreStored}

pub moved_by_all-push : (c : Cursors) (is : List Item) (i : Item) → moved_by_all c (is ++ i ∷ []) ≡ moved_by (moved_by_all c is) i
moved_by_all-push c [] i = refl
moved_by_all-push c (j ∷ is) i = moved_by_all-push (moved_by c j) is i

pub given_all-push : (l : LedgerValue) (is : List Item) (i : Item) → given_all l (is ++ i ∷ []) ≡ given (given_all l is) i
given_all-push l [] i = refl
given_all-push l (j ∷ is) i = given_all-push (given l j) is i

pub storing_all-push : (x : OutboxValue) (es : List Entry) (e : Entry) → storing_all x (es ++ e ∷ []) ≡ storing (storing_all x es) e.item
storing_all-push x [] e = refl
storing_all-push x (f ∷ es) e = storing_all-push (storing x f.item) es e

pub stored-push : (sc : SchemeValue) (x : OutboxValue) (es : List Entry) (e : Entry) → AreStored sc x es → IsHandled (storing_all x es) e.item → AllByRecursion (IsAnswerFrom sc (storing (storing_all x es) e.item)) e.answers → AreStored sc x (es ++ e ∷ [])
stored-push sc x [] e each room fits = (room, fits, tt)
stored-push sc x (f ∷ es) e each room fits = (each.0, each.1, stored-push sc (storing x f.item) es e each.2 room fits)

pub links_of-append : (d : ℕ) (gs hs : List Item) → links_of d (gs ++ hs) ≡ links_of d gs ++ links_of d hs
links_of-append d [] hs = refl
links_of-append d (i ∷ gs) hs = ap (with_link d i) (links_of-append d gs hs) ∙ with_more i (links_of d gs) (links_of d hs)
  where
    of_if : (b : Bool) (k : ℕ) (ks ms : List ℕ) → (if b then k ∷ (ks ++ ms) else ks ++ ms) ≡ (if b then k ∷ ks else ks) ++ ms
    of_if true k ks ms = refl
    of_if false k ks ms = refl

    with_more : (i : Item) (ks ms : List ℕ) → with_link d i (ks ++ ms) ≡ with_link d i ks ++ ms
    with_more (item.Tap r) ks ms = of_if (r.device == d) r.link ks ms
    with_more (item.Stated v) ks ms = refl

pub counted-push : (first n : ℕ) (ns : List ℕ) → CountsFrom first ns → n ≡ first + length ns → CountsFrom first (ns ++ n ∷ [])
counted-push first n [] counted is = (omega (arith, is), tt)
counted-push first n (m ∷ ns) counted is = (counted.0, counted-push (first + 1) n ns counted.1 (omega (arith, is)))

-- one item more comes next
pub next_items-push : (o : ℕ) (x : OutboxValue) (c : Cursors) (is : List Item) (i : Item) → AreNextItems o x c is → IsNextItem o x (moved_by_all c is) i → AreNextItems o x c (is ++ i ∷ [])
next_items-push o x c [] i each one = (one, tt)
next_items-push o x c (j ∷ is) i each one = (each.0, next_items-push o x (moved_by c j) is i each.1 one)

-- the items of a list in two parts come next, one part after the other
pub items_first : (o : ℕ) (x : OutboxValue) (c : Cursors) (is js : List Item) → AreNextItems o x c (is ++ js) → AreNextItems o x c is
items_first o x c [] js h = tt
items_first o x c (i ∷ is) js h = (h.0, items_first o x (moved_by c i) is js h.1)

pub items_then : (o : ℕ) (x : OutboxValue) (c : Cursors) (is js : List Item) → AreNextItems o x c (is ++ js) → AreNextItems o x (moved_by_all c is) js
items_then o x c [] js h = h
items_then o x c (i ∷ is) js h = items_then o x (moved_by c i) is js h.1
