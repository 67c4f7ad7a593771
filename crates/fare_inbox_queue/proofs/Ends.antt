-- What an ended inbox has left.
use Rattle.std.proofs.Common.{◌≡◌, ℕ, false, List, [], ◌∷◌, ◌++◌, length, drop, map, nat_eq, All, Some, sym, ap, ◌∙◌, refl, subst, append_assoc}
use Rattle.std.proofs.Math.Seq.{drop-append_seam}
use Rattle.std.proofs.lemmas.List.Elements.{All-pop, All-from_recursion, All-weaker}
use Rattle.std.specs.List.{AllByRecursion, list_any}
use Rattle.std.specs.Map.{keys_of}
use Rattle.fare_inbox_queue.specs.declared.arrived.Arrived.{Arrived}
use Rattle.fare_inbox_queue.specs.declared.inbox_rule.View.{View}
use Rattle.fare_inbox_queue.specs.declared.inbox_passes.StationPass.{StationPass}
use Rattle.fare_inbox_queue.specs.Inbox.{of_station, with_taken, IsLeft}
use Rattle.fare_inbox_queue.specs.InboxPasses.{station_of, sent_list, sent_with, left_in}
use Rattle.fare_inbox_queue.proofs.Parts.{part-append, same_length, unlisted}
use Rattle.fare_inbox_queue.proofs.Steps.{each_still}

-- LEFT ITEMS
pub left_parts : (v : View) (items : List Arrived) → IsLeft v items → (station : ℕ) → left_in v station ≡ of_station station items
left_parts v items left station =
    ap (λ (l : List Arrived). drop (length (of_station station v.taken)) l) (left.of_all station) ∙ drop-append_seam (of_station station v.taken) (of_station station items)

moved : (station : ℕ) (taken rest : List Arrived) (item : Arrived) → of_station station taken ++ of_station station (item ∷ rest) ≡ of_station station (taken ++ item ∷ []) ++ of_station station rest
moved station taken rest item =
    sym (part-append station taken (item ∷ rest)) ∙ (ap (λ (l : List Arrived). of_station station l) (sym (append_assoc taken (item ∷ []) rest)) ∙ part-append station (taken ++ item ∷ []) rest)

-- after the front one is taken, the rest is left
pub left_behind : (v w : View) (item : Arrived) (rest : List Arrived) → w ≡ with_taken v item → IsLeft v (item ∷ rest) → IsLeft w rest
left_behind v w item rest is left = subst (λ (u : View). IsLeft u rest) (sym is) (record {
  of_each = each_still (λ e. e.1 ≡ of_station e.0 v.taken ++ of_station e.0 (item ∷ rest)) (λ e. e.1 ≡ of_station e.0 (v.taken ++ item ∷ []) ++ of_station e.0 rest) (λ e k. k ∙ moved e.0 v.taken rest item) v.ended left.of_each;
  of_all = λ station. left.of_all station ∙ moved station v.taken rest item;
})

pub left_before : (v w : View) (item : Arrived) (rest : List Arrived) → w ≡ with_taken v item → IsLeft v (item ∷ rest)
    → (station : ℕ) → left_in v station ≡ of_station station (item ∷ []) ++ left_in w station
left_before v w item rest is left station =
    left_parts v (item ∷ rest) left station ∙ (part-append station (item ∷ []) rest ∙ ap (λ (l : List Arrived). of_station station (item ∷ []) ++ l) (sym (left_parts w rest (left_behind v w item rest is left) station)))

-- any two lists that are left are equally long
pub left_length : (v : View) (xs ys : List Arrived) → IsLeft v xs → IsLeft v ys → length xs ≡ length ys
left_length v xs ys one two = same_length xs ys (λ station. sym (left_parts v xs one station) ∙ left_parts v ys two station)

-- PASSES
pub keys_sent : (passes : List StationPass) → keys_of (map sent_with passes) ≡ map station_of passes
keys_sent [] = refl
keys_sent (p ∷ passes) = ap (λ (l : List ℕ). p.station ∷ l) (keys_sent passes)

pub popped : (holds : StationPass → Type 0) (xs ys : List StationPass) (p : StationPass) → xs ≡ ys ++ p ∷ [] → All holds xs → All holds ys × holds p
popped holds xs ys p is all = All-pop holds xs ys (Some p) is all

by_pass : (holds : ℕ × List Arrived → Type 0) (passes : List StationPass) → AllByRecursion holds (map sent_with passes) → AllByRecursion (λ p. holds (sent_with p)) passes
by_pass holds [] each = tt
by_pass holds (p ∷ passes) each = (each.0, by_pass holds passes each.1)

pub each_pass : (v : View) (items taken : List Arrived) (passes : List StationPass) → v.ended ≡ map sent_with passes → v.taken ≡ taken → IsLeft v items
    → All (λ p. of_station (station_of p) taken ++ left_in v (station_of p) ≡ sent_list p) passes
each_pass v items taken passes is same left =
    let Shows : ℕ × List Arrived → Type 0 = λ e. e.1 ≡ of_station e.0 v.taken ++ of_station e.0 items in
    let each : AllByRecursion (λ p. Shows (sent_with p)) passes = by_pass Shows passes (subst (λ (l : List (ℕ × List Arrived)). AllByRecursion Shows l) is left.of_each) in
    All-weaker (λ p. Shows (sent_with p)) (λ p. of_station (station_of p) taken ++ left_in v (station_of p) ≡ sent_list p)
    (λ p k. ap (λ (l : List Arrived). of_station (station_of p) l ++ left_in v (station_of p)) (sym same) ∙ (ap (λ (l : List Arrived). of_station (station_of p) v.taken ++ l) (left_parts v items left (station_of p)) ∙ sym k))
    passes (All-from_recursion (λ p. Shows (sent_with p)) passes each)

no_parts : (xs ys : List Arrived) → xs ++ ys ≡ [] → (xs ≡ []) × (ys ≡ [])
no_parts [] ys e = (refl, e)
no_parts (x ∷ xs) ys e = cc

-- of another station nothing was taken, and nothing is left
pub no_others : (v : View) (items taken : List Arrived) (station : ℕ) → v.taken ≡ taken → IsLeft v items → list_any (nat_eq station) (keys_of v.ended) ≡ false
    → (of_station station taken ≡ []) × (left_in v station ≡ [])
no_others v items taken station same left new =
    let none = no_parts (of_station station v.taken) (of_station station items) (sym (left.of_all station) ∙ unlisted station v.ended new) in
    (subst (λ (l : List Arrived). of_station station l ≡ []) same none.0, left_parts v items left station ∙ none.1)
