-- The worked stop: its lists are numbered, and its stores agree with them.
use Rattle.std.proofs.Common.{◌≡◌, ℕ, zero, suc, [], ◌∷◌, Some, Bool, true, false, refl, sym, subst, arith}
use Rattle.std.specs.Prelude.{slice_get, ◌==◌, if◌then◌else◌}
use Rattle.fare_record.specs.Values.{RecordValue}
use Rattle.fare_scheme.specs.Values.{SchemeValue}
use Rattle.fare_store.specs.OutboxWords.{stored, pruned}
use Rattle.fare_world.specs.Knowing.{knows_owner}
use Rattle.fare_history.specs.Serving.{IsOfDevice}
use Rattle.fare_history.specs.Stores.{Serves_owner, stores_after}
use Rattle.fare_store.proofs.Entries.{is_one}
use Rattle.fare_agreement.specs.Agreeing.{IsNumberedAt, AreNumberedLists, Agrees}
use Rattle.fare_agreement.specs.Stopping.{IsBegunOf, IsLeftBy, AreLeft}
use Rattle.fare_agreement.specs.WorkedStop.{first_tap, second_tap, two_taps, empty_outbox, empty_ledger, both_stored, takes_both, prunes_alone}
use Rattle.fare_agreement.proofs.Collecting.{tap_agrees}
use Rattle.fare_agreement.proofs.Fresh.{empty_agrees}
use Rattle.fare_agreement.proofs.Orders.{pruned_too_soon}
use Rattle.fare_agreement.proofs.Sessions.{stop_safe}

-- THE LISTS
record_at : (place : ℕ) (r : RecordValue) → slice_get (first_tap ∷ second_tap ∷ []) place ≡ Some r → IsNumberedAt 7 (first_tap ∷ second_tap ∷ []) place r
record_at zero r e = let same : first_tap ≡ r = cc in subst (IsNumberedAt 7 (first_tap ∷ second_tap ∷ []) zero) same (record { of_device = refl; link = refl; lane = refl })
record_at (suc zero) r e = let same : second_tap ≡ r = cc in subst (IsNumberedAt 7 (first_tap ∷ second_tap ∷ []) (suc zero)) same (record { of_device = refl; link = refl; lane = refl })
record_at (suc (suc k)) r e = absurd (cc)

taps_numbered : (device place : ℕ) (r : RecordValue) → slice_get (two_taps device) place ≡ Some r → IsNumberedAt device (two_taps device) place r
taps_numbered device place r e = by (device == 7) refl e
  where
    by : (b : Bool) → (device == 7) ≡ b → slice_get (if b then first_tap ∷ second_tap ∷ [] else []) place ≡ Some r → IsNumberedAt device (if b then first_tap ∷ second_tap ∷ [] else []) place r
    by true same at = subst (λ d. IsNumberedAt d (first_tap ∷ second_tap ∷ []) place r) (sym (is_one device 7 same)) (record_at place r at)
    by false other at = absurd (cc)

takes_left : IsLeftBy both_stored (Serves_owner 4 takes_both) (stores_after both_stored (Serves_owner 4 takes_both))
takes_left = (takes_both, (0, refl), ([], refl))

pub lists_numbered : AreNumberedLists two_taps
lists_numbered = record { numbered = taps_numbered }

module _ (sc : SchemeValue) where
  -- THE STORES
  emptiness : Agrees sc two_taps (record { outbox = empty_outbox; ledgers = empty_ledger })
  emptiness =
      empty_agrees sc two_taps (record { outbox = empty_outbox; ledgers = empty_ledger }) (record { upto = λ d. refl; rows = λ o d k. refl; row_count = refl; stated = λ o d day. refl; stated_count = refl })
      (λ o known. record { taken = λ d. refl; stated = λ d day. refl; closed = λ d. refl; retired = λ d. refl; from = λ d. refl })

  pub opening_agrees : Agrees sc two_taps both_stored
  opening_agrees =
      tap_agrees sc two_taps lists_numbered empty_ledger (stored first_tap empty_outbox) second_tap (record { positive = omega arith; here = refl }) refl
      (tap_agrees sc two_taps lists_numbered empty_ledger empty_outbox first_tap (record { positive = omega arith; here = refl }) refl emptiness)

  -- THE SESSIONS
  pub takes_begun : knows_owner sc 4 ≡ true → IsOfDevice sc 7 → IsBegunOf sc two_taps both_stored (Serves_owner 4 takes_both)
  takes_begun own known = (
    own,
    record {
      items = (record { mine = refl; lane = refl; held = refl }, (record { mine = refl; lane = refl; held = refl }, tt));
      known = (known, (known, tt));
      working = (refl, (refl, tt));
      room = omega arith;
      registered = tt;
    },
  )

  pub taken_agrees : knows_owner sc 4 ≡ true → IsOfDevice sc 7 → Agrees sc two_taps (stores_after both_stored (Serves_owner 4 takes_both))
  taken_agrees own known =
      (stop_safe sc two_taps lists_numbered both_stored (stores_after both_stored (Serves_owner 4 takes_both)) (Serves_owner 4 takes_both) opening_agrees (takes_begun own known) takes_left).agrees

  pub goes_on : knows_owner sc 4 ≡ true → IsOfDevice sc 7 → AreLeft sc two_taps both_stored (Serves_owner 4 takes_both ∷ Serves_owner 4 prunes_alone ∷ []) (stores_after (stores_after both_stored (Serves_owner 4 takes_both)) (Serves_owner 4 prunes_alone))
  goes_on own known = (
    stores_after both_stored (Serves_owner 4 takes_both),
    takes_begun own known,
    takes_left,
    (
      stores_after (stores_after both_stored (Serves_owner 4 takes_both)) (Serves_owner 4 prunes_alone),
      (own, record { items = tt; known = tt; working = tt; room = omega arith; registered = (known, tt) }),
      (prunes_alone, (0, refl), ([], refl)),
      refl,
    ),
  )

  pub too_soon : knows_owner sc 4 ≡ true → Agrees sc two_taps (record both_stored { outbox = pruned 4 7 1 both_stored.outbox }) → ⊥
  too_soon own is = pruned_too_soon sc two_taps both_stored 4 7 first_tap own refl is
