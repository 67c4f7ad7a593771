-- What lasts in the stores, also where something was let go.
use Rattle.std.proofs.Common.{◌≡◌, ℕ, ◌<◌, Bool, true, false, Option, Some, None, refl, sym, ap, ◌∙◌, arith, inl, inr}
use Rattle.std.specs.Prelude.{◌||◌, nat_lt, is_some}
use Rattle.std.proofs.lemmas.Bool.Decides.{nat_tests}
use Rattle.fare_record.specs.declared.ack_item.AckItem.{AckItem}
use Rattle.fare_record.specs.declared.ack_item.AckItem.TheVariants as ack_item
use Rattle.fare_record.specs.declared.item.Item.{Item}
use Rattle.fare_record.specs.declared.item.Item.TheVariants as item
use Rattle.fare_scheme.specs.Values.{SchemeValue}
use Rattle.fare_history.specs.Gathering.{items_of, all_answers}
use Rattle.fare_history.specs.Plainly.{IsCovered}
use Rattle.fare_history.specs.Stores.{StoresValue, Session, Collects, Serves_owner, Closes_day, Retires_lane, Forgets}
use Rattle.fare_history.proofs.Entries.{list_all-weaken, all-weaken}
use Rattle.fare_world.proofs.Lanes.{closed_later}
use Rattle.fare_side.specs.OpenDays as open_days
use Rattle.fare_store.specs.LedgerWords.{LedgerValue, is_closed}
use Rattle.fare_agreement.specs.Growing.{StoresGrew, LedgerLasts, IsStatedStill, StoresLast}
use Rattle.fare_agreement.specs.Stopping.{IsStored, IsTaken, AreKept, AreAnswered, IsCoveredStill, IsStoredStill, IsTakenStill, AreKeptStill, AreAnsweredStill}
use Rattle.fare_agreement.proofs.Takes.{ledger_lasts, lasts_trans, taken_lasts, taken_is_still}

pub stores_last : (h k : StoresValue) → StoresGrew h k → StoresLast h k
stores_last h k grew = record { upto = grew.outbox.upto; stated = λ o d day c e. inl (grew.outbox.stated o d day c e); ledgers = λ o. ledger_lasts (h.ledgers o) (k.ledgers o) (grew.ledgers o) }

stated_lasts : (h k : StoresValue) → StoresLast h k → (o d day c : ℕ) → IsStatedStill h o d day c → IsStatedStill k o d day c
stated_lasts h k last o d day c (inl e) = last.stated o d day c e
stated_lasts h k last o d day c (inr e) = inr (omega (arith, e, (last.ledgers o).from d))

pub last_trans : (h k m : StoresValue) → StoresLast h k → StoresLast k m → StoresLast h m
last_trans h k m p q = record {
  upto = λ d. omega (arith, p.upto d, q.upto d);
  stated = λ o d day c e. stated_lasts k m q o d day c (p.stated o d day c e);
  ledgers = λ o. lasts_trans (h.ledgers o) (k.ledgers o) (m.ledgers o) (p.ledgers o) (q.ledgers o);
}

-- WHAT WAS ANSWERED
either : (a b : Bool) → b ≡ true → (a || b) ≡ true
either true b e = refl
either false b e = e

covered_is_still : (sc : SchemeValue) (h : StoresValue) (a : AckItem) → IsCovered sc h.outbox a → IsCoveredStill sc h a
covered_is_still sc h (ack_item.Upto a) is = is
covered_is_still sc h (ack_item.Day a) is =
    list_all-weaken (λ (o : ℕ × ℕ). is_some (h.outbox.stated o.0 a.device a.day)) (λ (o : ℕ × ℕ). is_some (h.outbox.stated o.0 a.device a.day) || nat_lt a.day ((h.ledgers o.0).from a.device))
    (λ o e. ap (λ t. t || nat_lt a.day ((h.ledgers o.0).from a.device)) e) sc.owners is

covered_lasts : (sc : SchemeValue) (h k : StoresValue) → StoresLast h k → (a : AckItem) → IsCoveredStill sc h a → IsCoveredStill sc k a
covered_lasts sc h k last (ack_item.Upto a) is = omega (arith, is, last.upto a.device)
covered_lasts sc h k last (ack_item.Day a) is =
    list_all-weaken (λ (o : ℕ × ℕ). is_some (h.outbox.stated o.0 a.device a.day) || nat_lt a.day ((h.ledgers o.0).from a.device)) (λ (o : ℕ × ℕ). is_some (k.outbox.stated o.0 a.device a.day) || nat_lt a.day ((k.ledgers o.0).from a.device))
    (λ o. by o.0 (h.outbox.stated o.0 a.device a.day) refl) sc.owners is
  where
    late : (o : ℕ) → a.day < (k.ledgers o).from a.device → (is_some (k.outbox.stated o a.device a.day) || nat_lt a.day ((k.ledgers o).from a.device)) ≡ true
    late o e = let less : nat_lt a.day ((k.ledgers o).from a.device) ≡ true = grind (arith, nat_tests) in either (is_some (k.outbox.stated o a.device a.day)) (nat_lt a.day ((k.ledgers o).from a.device)) less

    there : (o c : ℕ) → IsStatedStill k o a.device a.day c → (is_some (k.outbox.stated o a.device a.day) || nat_lt a.day ((k.ledgers o).from a.device)) ≡ true
    there o c (inl e) = ap (λ s. is_some s || nat_lt a.day ((k.ledgers o).from a.device)) e
    there o c (inr e) = late o e

    by : (o : ℕ) (s : Option ℕ) → h.outbox.stated o a.device a.day ≡ s → (is_some (h.outbox.stated o a.device a.day) || nat_lt a.day ((h.ledgers o).from a.device)) ≡ true → (is_some (k.outbox.stated o a.device a.day) || nat_lt a.day ((k.ledgers o).from a.device)) ≡ true
    by o (Some c) e held = there o c (last.stated o a.device a.day c e)
    by o None e held =
        let went : nat_lt a.day ((h.ledgers o).from a.device) ≡ true = ap (λ s. is_some s || nat_lt a.day ((h.ledgers o).from a.device)) (sym e) ∙ held in
        let before : a.day < (h.ledgers o).from a.device = grind (arith, nat_tests) in
        late o (omega (arith, before, (last.ledgers o).from a.device))

stored_is_still : (h : StoresValue) (i : Item) → IsStored h.outbox i → IsStoredStill h i
stored_is_still h (item.Tap r) is = is
stored_is_still h (item.Stated v) is = inl is

stored_lasts : (h k : StoresValue) → StoresLast h k → (i : Item) → IsStoredStill h i → IsStoredStill k i
stored_lasts h k last (item.Tap r) is = omega (arith, is, last.upto r.device)
stored_lasts h k last (item.Stated v) is = stated_lasts h k last v.owner v.device v.day v.count is

pub kept_is_still : (sc : SchemeValue) (h : StoresValue) (q : Session) → AreKept sc h q → AreKeptStill sc h q
kept_is_still sc h (Collects g) is = (
  all-weaken (IsCovered sc h.outbox) (IsCoveredStill sc h) (covered_is_still sc h) (all_answers g) is.0,
  all-weaken (IsStored h.outbox) (IsStoredStill h) (stored_is_still h) (items_of g.entries) is.1,
)
kept_is_still sc h (Serves_owner o v) is = all-weaken (IsTaken (h.ledgers o)) (IsTakenStill (h.ledgers o)) (taken_is_still (h.ledgers o)) v.taken is
kept_is_still sc h (Closes_day o d day) is = is
kept_is_still sc h (Retires_lane o d) is = is
kept_is_still sc h (Forgets o d day) is = is

closed_lasts : (l m : LedgerValue) → LedgerLasts l m → (d day : ℕ) → is_closed l d day ≡ true → is_closed m d day ≡ true
closed_lasts l m last d day is =
    let late : open_days.is_closed l.start (m.closed d) day ≡ true = closed_later l.start (l.closed d) (m.closed d) day (last.closed d) is in
    ap (λ n. open_days.is_closed n (m.closed d) day) last.start ∙ late

pub kept_lasts : (sc : SchemeValue) (h k : StoresValue) → StoresLast h k → (q : Session) → AreKeptStill sc h q → AreKeptStill sc k q
kept_lasts sc h k last (Collects g) is = (
  all-weaken (IsCoveredStill sc h) (IsCoveredStill sc k) (covered_lasts sc h k last) (all_answers g) is.0,
  all-weaken (IsStoredStill h) (IsStoredStill k) (stored_lasts h k last) (items_of g.entries) is.1,
)
kept_lasts sc h k last (Serves_owner o v) is = all-weaken (IsTakenStill (h.ledgers o)) (IsTakenStill (k.ledgers o)) (taken_lasts (h.ledgers o) (k.ledgers o) (last.ledgers o)) v.taken is
kept_lasts sc h k last (Closes_day o d day) is = closed_lasts (h.ledgers o) (k.ledgers o) (last.ledgers o) d day is
kept_lasts sc h k last (Retires_lane o d) is = (last.ledgers o).retired d is
kept_lasts sc h k last (Forgets o d day) is = omega (arith, is, (last.ledgers o).from d)

pub answered_is_still : (sc : SchemeValue) (h : StoresValue) (q : Session) → AreAnswered sc h q → AreAnsweredStill sc h q
answered_is_still sc h (Collects g) is = kept_is_still sc h (Collects g) is
answered_is_still sc h (Serves_owner o v) is = kept_is_still sc h (Serves_owner o v) is
answered_is_still sc h (Closes_day o d day) is = tt
answered_is_still sc h (Retires_lane o d) is = tt
answered_is_still sc h (Forgets o d day) is = tt

pub answered_lasts : (sc : SchemeValue) (h k : StoresValue) → StoresLast h k → (q : Session) → AreAnsweredStill sc h q → AreAnsweredStill sc k q
answered_lasts sc h k last (Collects g) is = kept_lasts sc h k last (Collects g) is
answered_lasts sc h k last (Serves_owner o v) is = kept_lasts sc h k last (Serves_owner o v) is
answered_lasts sc h k last (Closes_day o d day) is = tt
answered_lasts sc h k last (Retires_lane o d) is = tt
answered_lasts sc h k last (Forgets o d day) is = tt
