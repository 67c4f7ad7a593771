-- Lane numbers: those of a list with one item more, and that of the item behind a front.
use Rattle.std.proofs.Common.{◌≡◌, ℕ, suc, ◌+◌, ◌==◌, Bool, true, false, List, [], ◌∷◌, ◌++◌, length, map, ap, ◌∙◌, refl, subst, arith, if◌then◌else◌}
use Rattle.std.proofs.lemmas.List.{append-nil, map-append}
use Rattle.std.proofs.lemmas.List.Elements.{filter-append}
use Rattle.std.proofs.lemmas.Bool.Decides.{nat_tests}
use Rattle.fare_record.specs.Values.{RecordValue}
use Rattle.fare_record.specs.declared.item.Item.{Item}
use Rattle.fare_record.specs.declared.item.Item.TheVariants.{Tap, Stated}
use Rattle.fare_lane_queue.specs.Lane.{taps_of, lanes_of, base_of, CountsFrom, AreNumbered, IsNext}

taps_of-append : (xs ys : List Item) → taps_of (xs ++ ys) ≡ taps_of xs ++ taps_of ys
taps_of-append [] ys = refl
taps_of-append (Tap r ∷ xs) ys = ap (λ l. r ∷ l) (taps_of-append xs ys)
taps_of-append (Stated s ∷ xs) ys = taps_of-append xs ys

lanes_of-append : (device : ℕ) (xs ys : List Item) → lanes_of device (xs ++ ys) ≡ lanes_of device xs ++ lanes_of device ys
lanes_of-append device xs ys = simp (taps_of-append, filter-append, map-append)

counts_more : (n : ℕ) (xs : List ℕ) (x : ℕ) → CountsFrom n xs → x ≡ n + length xs → CountsFrom n (xs ++ x ∷ [])
counts_more n [] x counts is = (omega arith, tt)
counts_more n (y ∷ xs) x counts is = (counts.0, counts_more (suc n) xs x counts.1 (omega arith))

counts_at : (n : ℕ) (xs ys : List ℕ) (x : ℕ) → CountsFrom n (xs ++ x ∷ ys) → x ≡ n + length xs
counts_at n [] ys x counts = let is = counts.0 in omega arith
counts_at n (y ∷ xs) ys x counts = let is = counts_at (suc n) xs ys x counts.1 in omega arith

-- a tap is one of its device alone
lanes_of_tap : (device : ℕ) (r : RecordValue) (same : Bool) → (r.device == device) ≡ same → lanes_of device (Tap r ∷ []) ≡ (if same then r.lane ∷ [] else [])
lanes_of_tap device r true is = ap (λ (b : Bool). map (λ (x : RecordValue). x.lane) (if b then r ∷ [] else [])) is
lanes_of_tap device r false is = ap (λ (b : Bool). map (λ (x : RecordValue). x.lane) (if b then r ∷ [] else [])) is

more_taps : (bases : List (ℕ × ℕ)) (items : List Item) (r : RecordValue) → AreNumbered bases items → IsNext bases items (Tap r)
    → (device : ℕ) (same : Bool) → (r.device == device) ≡ same → CountsFrom (suc (base_of bases device)) (lanes_of device items ++ lanes_of device (Tap r ∷ []))
more_taps bases items r numbered next device true is = rw (lanes_of_tap device r true is) (counts_more (suc (base_of bases device)) (lanes_of device items) r.lane (numbered device)
    (let here : r.device ≡ device = grind (arith, nat_tests) in
    let at : r.lane ≡ base_of bases device + length (lanes_of device items) + 1 = subst (λ (d : ℕ). r.lane ≡ base_of bases d + length (lanes_of d items) + 1) here next in omega arith))
more_taps bases items r numbered next device false is = rw (lanes_of_tap device r false is, append-nil) (numbered device)

-- one item more, the next of its device
pub numbered_more : (bases : List (ℕ × ℕ)) (items : List Item) (item : Item) → AreNumbered bases items → IsNext bases items item → AreNumbered bases (items ++ item ∷ [])
numbered_more bases items (Tap r) numbered next device = rw (lanes_of-append device items (Tap r ∷ [])) (more_taps bases items r numbered next device (r.device == device) refl)
numbered_more bases items (Stated s) numbered next device = rw (lanes_of-append device items (Stated s ∷ []), append-nil) (numbered device)

-- the item behind a front is the next of its device
pub numbered_at : (bases : List (ℕ × ℕ)) (front rest : List Item) (item : Item) → AreNumbered bases (front ++ item ∷ rest) → IsNext bases front item
numbered_at bases front rest (Stated s) numbered = tt
numbered_at bases front rest (Tap r) numbered =
    let device = r.device in
    let all : lanes_of device (front ++ Tap r ∷ rest) ≡ lanes_of device front ++ (r.lane ∷ lanes_of device rest) =
    lanes_of-append device front (Tap r ∷ rest)
    ∙ ap (λ l. lanes_of device front ++ l) (lanes_of-append device (Tap r ∷ []) rest ∙ ap (λ l. l ++ lanes_of device rest) (lanes_of_tap device r true (grind (arith, nat_tests)))) in
    let at = counts_at (suc (base_of bases device)) (lanes_of device front) (lanes_of device rest) r.lane (subst (λ l. CountsFrom (suc (base_of bases device)) l) all (numbered device)) in
    omega arith
