-- The worked cases, computed.
use Rattle.std.proofs.Common.{◌≡◌, ℕ, ◌<◌, ◌≤◌, [], ◌∷◌, Some, None, Bool, true, false, refl, sym, ap, ◌∙◌, subst, arith, inl, inr}
use Rattle.std.specs.Prelude.{◌==◌, if◌then◌else◌, Option, nat_le, is_some, position}
use Rattle.std.specs.List.{list_any}
use Rattle.std.proofs.lemmas.Bool.Decides.{nat_tests}
use Rattle.fare_day.specs.declared.zone.Zone.{Zone}
use Rattle.fare_record.specs.Limits.{IsDay}
use Rattle.fare_record.specs.Values.{RecordValue}
use Rattle.fare_record.specs.declared.item.Item.TheVariants as item
use Rattle.fare_scheme.specs.Words.{position_of_device}
use Rattle.fare_store.specs.Tables.{put}
use Rattle.fare_store.specs.OutboxWords.{behind}
use Rattle.fare_history.specs.Serving.{Cursors, behind_ledger, moved_by_all, IsWorking, IsService}
use Rattle.fare_history.specs.Gathering.{CountsFrom, IsGathering}
use Rattle.fare_history.specs.Plainly.{IsFinished}
use Rattle.fare_history.specs.Examples.{one_device, two_devices, tap_number, day_statement, new_outbox, full_outbox, new_ledger, closed_ledger, retired_ledger, whole_service, cut_service, crowded_service, taking, had_upto, had_day, tap_entry, whole_gathering, holding_back, storing_only}
use Rattle.fare_store.proofs.Entries.{if_all, is_one, above}

-- TABLES
-- the entry of a place above the one that was written
past : (f : ℕ → Option RecordValue) (k : ℕ) (v : Option RecordValue) (lane : ℕ) → k < lane → f lane ≡ None → put f k v lane ≡ None
past f k v lane over none = let other : (lane == k) ≡ false = grind (arith, nat_tests) in ap (λ b. if b then v else f lane) other ∙ none

-- an outbox with three rows has none behind them
none_after : (lane : ℕ) → 3 < lane → full_outbox.rows 1 1 lane ≡ None
none_after lane over =
    past (put (put (λ lane. None) 1 (Some (tap_number 1 1))) 2 (Some (tap_number 1 2))) 3 (Some (tap_number 1 3)) lane over (past (put (λ lane. None) 1 (Some (tap_number 1 1))) 2 (Some (tap_number 1 2)) lane (omega (arith, over)) (past (λ lane. None) 1 (Some (tap_number 1 1)) lane (omega (arith, over)) refl))

pub none_left : (lane : ℕ) → behind 3 (full_outbox.rows 1 1) lane ≡ None
none_left lane = if_all (nat_le lane 3) (λ r. r ≡ None) None (full_outbox.rows 1 1 lane) (λ _. refl) (λ over. none_after lane (above lane 3 over))

-- the one device of the scheme
only_one : (clock : Zone) (device : ℕ) → is_some (position_of_device (one_device clock) device) ≡ true → device ≡ 1
only_one clock device known = by (device == 1) refl known
  where
    by : (b : Bool) → (device == 1) ≡ b → is_some (position {X = ℕ} (λ _. b) (1 ∷ [])) ≡ true → device ≡ 1
    by true same _ = is_one device 1 same
    by false other f = absurd (cc)

-- AN OWNER'S SESSION
-- the statement is the first that comes, and no row is behind the third
pub whole_is : (clock : Zone) → IsService (one_device clock) 1 full_outbox new_ledger whole_service
whole_is clock = record {
  items = (
    record { mine = refl; lane = refl; held = refl },
    (
      record { mine = refl; lane = refl; held = refl },
      (
        record { mine = refl; lane = refl; held = refl },
        (record { mine = refl; held = refl; from_there = omega arith; least = λ day from before. absurd (omega (arith, from, before)); last = none_after }, tt),
      ),
    ),
  );
  known = (refl, (refl, (refl, (refl, tt))));
  working = (refl, (refl, (refl, (refl, tt))));
  room = omega arith;
  registered = (refl, tt);
}

pub whole_is_finished : (clock : Zone) → IsFinished (one_device clock) 1 full_outbox new_ledger whole_service
whole_is_finished clock = record {
  hand = refl;
  queue = refl;
  rows = λ device known working. subst (λ d. (lane : ℕ) → (moved_by_all start whole_service.taken).lane d < lane → full_outbox.rows 1 d lane ≡ None) (sym (only_one clock device known)) none_after;
  days = λ device known working. subst (λ d. (day : ℕ) → (moved_by_all start whole_service.taken).day d ≤ day → IsDay day → full_outbox.stated 1 d day ≡ None) (sym (only_one clock device known)) (λ day from _. no_other day from);
  pruned = λ device known. subst (λ d. list_any (λ e. e == d) whole_service.pruned ≡ true) (sym (only_one clock device known)) refl;
}
  where
    start : Cursors
    start = behind_ledger (one_device clock) new_ledger

    no_other : (day : ℕ) → 19724 ≤ day → full_outbox.stated 1 1 day ≡ None
    no_other day from = let other : (day == 19723) ≡ false = grind (arith, nat_tests) in ap (λ b. if◌then◌else◌ {A = Option ℕ} b (Some 3) None) other

pub cut_is : (clock : Zone) → IsService (one_device clock) 1 full_outbox new_ledger cut_service
cut_is clock = record {
  items = (whole_is clock).items;
  known = (refl, (refl, (refl, (refl, tt))));
  working = (refl, (refl, (refl, (refl, tt))));
  room = omega arith;
  registered = (refl, tt);
}

pub none_is_passed_over : (clock : Zone) → IsService (one_device clock) 1 full_outbox new_ledger (taking (item.Tap (tap_number 1 1) ∷ item.Tap (tap_number 1 3) ∷ [])) → ⊥
none_is_passed_over clock is = let lane : 3 ≡ 2 = is.items.1.0.lane in absurd (omega (arith, lane))

pub none_before_the_last : (clock : Zone) → IsService (one_device clock) 1 full_outbox new_ledger (taking (item.Tap (tap_number 1 1) ∷ item.Tap (tap_number 1 2) ∷ item.Stated (day_statement 1 3) ∷ [])) → ⊥
none_before_the_last clock is = let none : Some (tap_number 1 3) ≡ None = is.items.1.1.0.last 3 (omega arith) in absurd (cc)

pub none_of_a_closed_day : (clock : Zone) → IsService (one_device clock) 1 full_outbox closed_ledger (taking (item.Stated (day_statement 1 3) ∷ [])) → ⊥
none_of_a_closed_day clock is = let late : 19724 ≤ 19723 = is.items.0.from_there in absurd (omega (arith, late))

pub none_of_a_retired_lane : (clock : Zone) → IsService (one_device clock) 1 full_outbox retired_ledger (taking (item.Tap (tap_number 1 1) ∷ [])) → ⊥
none_of_a_retired_lane clock is = let both : true ≡ false = is.working.0 in absurd (cc)

-- there a session has nothing to take, and prunes the lane
pub none_but_a_prune : (clock : Zone) → IsFinished (one_device clock) 1 full_outbox retired_ledger (record (taking []) { pruned = 1 ∷ [] })
none_but_a_prune clock = record {
  hand = refl;
  queue = refl;
  rows = λ device known working. absurd (retired_is device known working);
  days = λ device known working. absurd (retired_is device known working);
  pruned = λ device known. subst (λ d. list_any (λ e. e == d) (1 ∷ []) ≡ true) (sym (only_one clock device known)) refl;
}
  where
    retired_is : (device : ℕ) → is_some (position_of_device (one_device clock) device) ≡ true → IsWorking retired_ledger device → ⊥
    retired_is device known working = let both : true ≡ false = sym (ap retired_ledger.retired (only_one clock device known)) ∙ working in absurd (cc)

pub none_is_crowded : (clock : Zone) → IsService (one_device clock) 1 full_outbox new_ledger crowded_service → ⊥
none_is_crowded clock is = let two : 2 ≤ 1 = is.room in absurd (omega (arith, two))

-- A SESSION OF THE STATIONS AND THE WRITER
-- each device's one link is the first
one_link_each : (first second : Bool) → (first ≡ true → second ≡ true → ⊥) → CountsFrom 1 (if first then 1 ∷ (if second then 1 ∷ [] else []) else (if second then 1 ∷ [] else []))
one_link_each true true apart = absurd (apart refl refl)
one_link_each true false apart = (refl, tt)
one_link_each false true apart = (refl, tt)
one_link_each false false apart = tt

not_both : (device : ℕ) → (1 == device) ≡ true → (2 == device) ≡ true → ⊥
not_both device one two = let same : 1 ≡ 2 = is_one 1 device one ∙ sym (is_one 2 device two) in absurd (omega (arith, same))

pub gathering_is : (clock : Zone) → IsGathering (two_devices clock) new_outbox whole_gathering
gathering_is clock = record {
  counted = λ device. one_link_each (1 == device) (2 == device) (not_both device);
  stored = (inl refl, ((refl, refl), tt), (inl refl, ((refl, refl), tt), (inl refl, ((refl, refl), tt), (inr refl, ((refl, refl), tt), tt))));
  room = omega arith;
  last = ((refl, refl), ((refl, refl), ((refl, refl), tt)));
}

pub none_stores_twice : (clock : Zone) → IsGathering (two_devices clock) new_outbox (storing_only (tap_entry 1 1 [] ∷ tap_entry 1 1 [] ∷ [])) → ⊥
none_stores_twice clock is = let again : 1 ≡ 2 = (is.counted 1).1.0 in absurd (omega (arith, again))

pub none_acknowledges_ahead : (clock : Zone) → IsGathering (two_devices clock) new_outbox (storing_only (tap_entry 1 1 (had_upto 1 2 ∷ []) ∷ [])) → ⊥
none_acknowledges_ahead clock is = let more : 2 ≡ 1 = is.stored.1.0.1 in absurd (omega (arith, more))

pub none_acknowledges_unstated : (clock : Zone) → IsGathering (two_devices clock) new_outbox (storing_only (tap_entry 1 1 (had_day 1 ∷ []) ∷ [])) → ⊥
none_acknowledges_unstated clock is = let all : false ≡ true = is.stored.1.0.1 in absurd (cc)

pub two_may_be_left : (clock : Zone) → IsGathering (two_devices clock) new_outbox (holding_back (item.Tap (tap_number 2 1) ∷ []))
two_may_be_left clock = record { counted = λ device. one_link_each (1 == device) (2 == device) (not_both device); stored = tt; room = omega arith; last = tt }

pub none_has_a_crowded_inbox : (clock : Zone) → IsGathering (two_devices clock) new_outbox (holding_back (item.Tap (tap_number 2 1) ∷ item.Tap (tap_number 2 2) ∷ [])) → ⊥
none_has_a_crowded_inbox clock is = let two : 2 ≤ 1 = is.room in absurd (omega (arith, two))
