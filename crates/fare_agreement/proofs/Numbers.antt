-- Lane numbers in numbered lists.
use Rattle.std.proofs.Common.{◌≡◌, ℕ, zero, suc, ◌+◌, ◌≤◌, List, [], ◌∷◌, ◌++◌, length, take, Some, None, refl, sym, ap, ◌∙◌, arith, inl, inr}
use Rattle.std.specs.Prelude.{slice_get, Option, ◌==◌, if◌then◌else◌}
use Rattle.std.proofs.lemmas.Bool.Decides.{Decides-eqb}
use Rattle.fare_record.specs.Values.{RecordValue}
use Rattle.fare_record.specs.Lanes.{part}
use Rattle.fare_world.proofs.Lists.{part-push, take-one_more, slice_get-past}
use Rattle.fare_world.proofs.Places.{slice_get-push_cases}
use Rattle.fare_store.proofs.Entries.{if_all}
use Rattle.fare_agreement.specs.Agreeing.{IsNumberedAt}

pub take_past : {X : Type 0} (n : ℕ) (xs : List X) → length xs ≤ n → take n xs ≡ xs
take_past zero [] le = refl
take_past zero (x ∷ xs) le = absurd (omega arith)
take_past (suc n) [] le = refl
take_past (suc n) (x ∷ xs) le = ap (λ l. x ∷ l) (take_past n xs (omega arith))

-- one link more
pub part_take_next : (owner n : ℕ) (taps : List RecordValue) (r : RecordValue) → slice_get taps n ≡ Some r → part owner (take (n + 1) taps) ≡ (if r.owner == owner then part owner (take n taps) ++ r ∷ [] else part owner (take n taps))
part_take_next owner n taps r at = ap (part owner) (take-one_more taps n r at) ∙ part-push owner (take n taps) r

module _ (device : ℕ) (taps : List RecordValue) (numbered : (place : ℕ) (r : RecordValue) → slice_get taps place ≡ Some r → IsNumberedAt device taps place r) where
  next_lane : (o n k : ℕ) (r q : RecordValue) → ((k : ℕ) (r : RecordValue) → slice_get (part o (take n taps)) k ≡ Some r → r.lane ≡ k + 1) → slice_get taps n ≡ Some q → slice_get (part o (take n taps ++ q ∷ [])) k ≡ Some r → r.lane ≡ k + 1
  next_lane o n k r q before at f =
      if_all (q.owner == o) (λ l. part o (take n taps ++ q ∷ []) ≡ l → r.lane ≡ k + 1) (part o (take n taps) ++ q ∷ []) (part o (take n taps))
      (λ mine g.
      elim (slice_get-push_cases (part o (take n taps)) q k r (ap (λ l. slice_get l k) (sym g) ∙ f)) [
        | inl p ↦ before k r p
        | inr p ↦ ap (λ (z : RecordValue). z.lane) (sym p.1) ∙ (numbered n q at).lane ∙ ap (λ z. length (part z (take n taps)) + 1) ((Decides-eqb q.owner o).0 mine) ∙ ap (λ z. z + 1) (sym p.0)
      ])
      (λ other g. before k r (ap (λ l. slice_get l k) (sym g) ∙ f))
      (part-push o (take n taps) q)

  -- an owner's part of any front has the lane numbers 1, 2, 3 and so on
  pub lanes_count : (o n k : ℕ) (r : RecordValue) → slice_get (part o (take n taps)) k ≡ Some r → r.lane ≡ k + 1
  lanes_count o zero k r e = absurd (cc)
  lanes_count o (suc n) k r e = by (slice_get taps n) refl (lanes_count o n)
    where
      next : suc n ≡ n + 1
      next = omega arith

      by : (found : Option RecordValue) → slice_get taps n ≡ found → ((k : ℕ) (r : RecordValue) → slice_get (part o (take n taps)) k ≡ Some r → r.lane ≡ k + 1) → r.lane ≡ k + 1
      by None none before =
          let past : length taps ≤ n = slice_get-past taps n none in
          let same : take (suc n) taps ≡ take n taps = take_past (suc n) taps (omega (arith, past)) ∙ sym (take_past n taps past) in
          before k r (ap (λ l. slice_get (part o l) k) (sym same) ∙ e)
      by (Some q) at before =
          let more : take (suc n) taps ≡ take n taps ++ q ∷ [] = ap (λ m. take m taps) next ∙ take-one_more taps n q at in
          next_lane o n k r q before at (ap (λ l. slice_get (part o l) k) (sym more) ∙ e)
