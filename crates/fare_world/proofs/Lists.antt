-- Facts for each element of a list, and for two lists one by one.
use Rattle.std.proofs.Common.{◌≡◌, ℕ, zero, suc, ◌+◌, ◌<◌, ◌≤◌, List, [], ◌∷◌, ◌++◌, length, take, drop, Some, None, Bool, true, false, refl, sym, ap, ◌∙◌, subst, arith}
use Rattle.std.specs.Prelude.{◌==◌, ◌&&◌, filter, slice_get, Option, IfSome, if◌then◌else◌}
use Rattle.std.specs.List.{AllByRecursion, list_all}
use Rattle.std.proofs.lemmas.List.{take-append-le, take_more}
use Rattle.std.proofs.lemmas.Option.{slice_get_within, get_or_from_slice_get}
use Rattle.std.proofs.lemmas.Bool.Decides.{nat_tests}
use Rattle.fare_record.specs.Values.{RecordValue}
use Rattle.fare_record.specs.Lanes.{part}
use Rattle.fare_world.specs.Arriving.{is_full}
use Rattle.std.proofs.lemmas.List.Sums.{length-filter, count_by-le-length}
use Rattle.fare_world.specs.Shown.{Each2, Both}
use Rattle.fare_store.proofs.Entries.{if_all, both_left, both_right}

-- ONE LIST
pub AllByRecursion-weaken : {X : Type 0} (P Q : X → Type 0) → ((x : X) → P x → Q x) → (xs : List X) → AllByRecursion P xs → AllByRecursion Q xs
AllByRecursion-weaken P Q f [] h = tt
AllByRecursion-weaken P Q f (x ∷ xs) h = (f x h.0, AllByRecursion-weaken P Q f xs h.1)

pub AllByRecursion-push : {X : Type 0} (P : X → Type 0) (xs : List X) (y : X) → AllByRecursion P xs → P y → AllByRecursion P (xs ++ y ∷ [])
AllByRecursion-push P [] y h p = (p, tt)
AllByRecursion-push P (x ∷ xs) y h p = (h.0, AllByRecursion-push P xs y h.1 p)

pub AllByRecursion-at : {X : Type 0} (P : X → Type 0) (xs : List X) (k : ℕ) (x : X) → AllByRecursion P xs → slice_get xs k ≡ Some x → P x
AllByRecursion-at P [] k x h e = absurd (cc)
AllByRecursion-at P (y ∷ xs) zero x h e = let same : y ≡ x = cc in subst P same h.0
AllByRecursion-at P (y ∷ xs) (suc k) x h e = AllByRecursion-at P xs k x h.1 e

pub IfSome-weaken : {X : Type 0} (P Q : X → Type 0) → ((x : X) → P x → Q x) → (o : Option X) → IfSome o P → IfSome o Q
IfSome-weaken P Q f None h = tt
IfSome-weaken P Q f (Some x) h = f x h

pub AllByRecursion-filter : {X : Type 0} (P : X → Type 0) (p : X → Bool) (xs : List X) → AllByRecursion P xs → AllByRecursion P (filter p xs)
AllByRecursion-filter P p [] h = tt
AllByRecursion-filter P p (x ∷ xs) h = if_all (p x) (AllByRecursion P) (x ∷ filter p xs) (filter p xs) (λ _. (h.0, AllByRecursion-filter P p xs h.1)) (λ _. AllByRecursion-filter P p xs h.1)

pub length-filter-le : {X : Type 0} (p : X → Bool) (xs : List X) → length (filter p xs) ≤ length xs
length-filter-le p xs = omega (arith, length-filter p xs, count_by-le-length p xs)

-- a test that more pass
pub list_all-weaken : {X : Type 0} (p q : X → Bool) → ((x : X) → p x ≡ true → q x ≡ true) → (xs : List X) → list_all p xs ≡ true → list_all q xs ≡ true
list_all-weaken p q f [] h = refl
list_all-weaken p q f (x ∷ xs) h =
    let here = f x (both_left (p x) (list_all p xs) h) in
    let rest = list_all-weaken p q f xs (both_right (p x) (list_all p xs) h) in
    ap (λ b. b && list_all q xs) here ∙ rest

-- one element more from the front
pub take-one_more : {X : Type 0} (xs : List X) (k : ℕ) (x : X) → slice_get xs k ≡ Some x → take (k + 1) xs ≡ take k xs ++ x ∷ []
take-one_more xs k x e = take_more xs k x (slice_get_within xs k x e) ∙ ap (λ q. take k xs ++ q ∷ []) (get_or_from_slice_get xs k x x e)

pub drop-push : {X : Type 0} (n : ℕ) (xs : List X) (x : X) → n ≤ length xs → drop n (xs ++ x ∷ []) ≡ drop n xs ++ x ∷ []
drop-push zero xs x le = refl
drop-push (suc n) [] x le = absurd (omega arith)
drop-push (suc n) (y ∷ xs) x le = drop-push n xs x (omega arith)

pub slice_get-drop : {X : Type 0} (n : ℕ) (xs : List X) (k : ℕ) → slice_get (drop n xs) k ≡ slice_get xs (n + k)
slice_get-drop zero xs k = ap (slice_get xs) (omega arith)
slice_get-drop (suc n) [] k = refl
slice_get-drop (suc n) (x ∷ xs) k = let e : suc n + k ≡ suc (n + k) = omega arith in slice_get-drop n xs k ∙ sym (ap (slice_get (x ∷ xs)) e)

pub slice_get-past : {X : Type 0} (xs : List X) (k : ℕ) → slice_get xs k ≡ None → length xs ≤ k
slice_get-past [] k e = omega arith
slice_get-past (x ∷ xs) zero e = absurd (cc)
slice_get-past (x ∷ xs) (suc k) e = omega (arith, slice_get-past xs k e)

-- TWO LISTS
pub Each2-weaken : {X Y : Type 0} (P Q : X → Y → Type 0) → ((x : X) (y : Y) → P x y → Q x y) → (xs : List X) (ys : List Y) → Each2 P xs ys → Each2 Q xs ys
Each2-weaken P Q f [] [] h = tt
Each2-weaken P Q f (x ∷ xs) (y ∷ ys) h = (f x y h.0, Each2-weaken P Q f xs ys h.1)
Each2-weaken P Q f [] (y ∷ ys) h = h
Each2-weaken P Q f (x ∷ xs) [] h = h

pub Each2-push : {X Y : Type 0} (P : X → Y → Type 0) (xs : List X) (ys : List Y) (x : X) (y : Y) → Each2 P xs ys → P x y → Each2 P (xs ++ x ∷ []) (ys ++ y ∷ [])
Each2-push P [] [] x y h p = (p, tt)
Each2-push P (a ∷ xs) (b ∷ ys) x y h p = (h.0, Each2-push P xs ys x y h.1 p)
Each2-push P [] (b ∷ ys) x y h p = absurd h
Each2-push P (a ∷ xs) [] x y h p = absurd h

pub length-Each2 : {X Y : Type 0} (P : X → Y → Type 0) (xs : List X) (ys : List Y) → Each2 P xs ys → length xs ≡ length ys
length-Each2 P [] [] h = refl
length-Each2 P (a ∷ xs) (b ∷ ys) h = ap suc (length-Each2 P xs ys h.1)
length-Each2 P [] (b ∷ ys) h = absurd h
length-Each2 P (a ∷ xs) [] h = absurd h

-- at each place there is one in both, or in none
pub Each2-get : {X Y : Type 0} (P : X → Y → Type 0) (xs : List X) (ys : List Y) (k : ℕ) → Each2 P xs ys → Both P (slice_get xs k) (slice_get ys k)
Each2-get P [] [] k h = tt
Each2-get P [] (b ∷ ys) k h = absurd h
Each2-get P (a ∷ xs) [] k h = absurd h
Each2-get P (a ∷ xs) (b ∷ ys) zero h = h.0
Each2-get P (a ∷ xs) (b ∷ ys) (suc k) h = Each2-get P xs ys k h.1

pub Each2-nil : {X Y : Type 0} (P : X → Y → Type 0) (xs : List X) → Each2 P xs [] → xs ≡ []
Each2-nil P [] h = refl
Each2-nil P (x ∷ xs) h = absurd h

pub Each2-cons : {X Y : Type 0} (P : X → Y → Type 0) (xs : List X) (y : Y) (ys : List Y) → Each2 P xs (y ∷ ys) → (x : X) × (rest : List X) × (xs ≡ x ∷ rest) × P x y × Each2 P rest ys
Each2-cons P [] y ys h = absurd h
Each2-cons P (x ∷ xs) y ys h = (x, xs, refl, h.0, h.1)

pub Both-weaken : {X Y : Type 0} (P Q : X → Y → Type 0) → ((x : X) (y : Y) → P x y → Q x y) → (o : Option X) (p : Option Y) → Both P o p → Both Q o p
Both-weaken P Q f None None h = tt
Both-weaken P Q f (Some x) (Some y) h = f x y h
Both-weaken P Q f None (Some y) h = h
Both-weaken P Q f (Some x) None h = h

pub Both-none : {X Y : Type 0} (P : X → Y → Type 0) (o : Option X) → Both P o None → o ≡ None
Both-none P None h = refl
Both-none P (Some x) h = absurd h

pub Both-some : {X Y : Type 0} (P : X → Y → Type 0) (o : Option X) (y : Y) → Both P o (Some y) → (x : X) × (o ≡ Some x) × P x y
Both-some P None y h = absurd h
Both-some P (Some x) y h = (x, refl, h)

-- AN OWNER'S PART
pub part-push : (owner : ℕ) (rs : List RecordValue) (r : RecordValue) → part owner (rs ++ r ∷ []) ≡ (if r.owner == owner then part owner rs ++ r ∷ [] else part owner rs)
part-push owner [] r = grind (arith, nat_tests)
part-push owner (q ∷ rs) r = grind (arith, nat_tests, part-push owner rs r)

pub length-part-take : (owner n : ℕ) (rs : List RecordValue) → length (part owner (take n rs)) ≤ length (part owner rs)
length-part-take owner zero rs = omega arith
length-part-take owner (suc n) [] = omega arith
length-part-take owner (suc n) (r ∷ rs) = grind (arith, nat_tests, length-part-take owner n rs)

-- a longer front has no less of an owner's part
pub length-part-take_more : (owner n m : ℕ) (rs : List RecordValue) → n ≤ m → length (part owner (take n rs)) ≤ length (part owner (take m rs))
length-part-take_more owner zero m rs le = omega arith
length-part-take_more owner (suc n) zero rs le = absurd (omega arith)
length-part-take_more owner (suc n) (suc m) [] le = omega arith
length-part-take_more owner (suc n) (suc m) (r ∷ rs) le =
    let less : n ≤ m = omega arith in
    grind (arith, nat_tests, length-part-take_more owner n m rs less)

-- what was taken of an owner's part stays the front of it
pub take-part-push : (n owner : ℕ) (rs : List RecordValue) (r : RecordValue) → n ≤ length (part owner rs) → take n (part owner (rs ++ r ∷ [])) ≡ take n (part owner rs)
take-part-push n owner rs r le =
    if_all (r.owner == owner) (λ l. (part owner (rs ++ r ∷ []) ≡ l) → take n (part owner (rs ++ r ∷ [])) ≡ take n (part owner rs)) (part owner rs ++ r ∷ []) (part owner rs)
    (λ _ e. ap (take n) e ∙ take-append-le n (part owner rs) (r ∷ []) le) (λ _ e. ap (take n) e) (part-push owner rs r)

-- QUEUES
-- a queue has room, or it has none
pub has_room : {X : Type 0} (capacity : ℕ) (xs : List X) → length xs < capacity → is_full capacity xs ≡ false
has_room capacity xs lt = grind (arith, nat_tests)

pub has_no_room : {X : Type 0} (capacity : ℕ) (xs : List X) → capacity ≤ length xs → is_full capacity xs ≡ true
has_no_room capacity xs le = grind (arith, nat_tests)

-- a list without a first element is empty
pub none_left : {X : Type 0} (xs : List X) → slice_get xs 0 ≡ None → xs ≡ []
none_left [] e = refl
none_left (x ∷ xs) e = absurd (cc)

-- a list is its first element, and what is left without it
pub front_and_rest : {X : Type 0} (xs rest : List X) (x : X) → slice_get xs 0 ≡ Some x → rest ≡ drop 1 xs → xs ≡ x ∷ rest
front_and_rest [] rest x e left = absurd (cc)
front_and_rest (y ∷ xs) rest x e left = let same : y ≡ x = cc in (λ i. same i ∷ sym left i)
