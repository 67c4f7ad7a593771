-- Rounds over lines, one more.
use Rattle.std.proofs.Common.{◌≡◌, ℕ, ◌+◌, List, [], ◌∷◌, ◌++◌, length, Bool, refl, sym, ap, ◌∙◌, subst}
use Rattle.std.specs.Prelude.{Result, Ok, Err, IfErr, IsErrAnd}
use Rattle.std.specs.List.{flat_map}
use Rattle.std.specs.Map.{keys_of}
use Rattle.std.proofs.lemmas.List.{length-append}
use Rattle.fare_scheme.specs.Values.{SchemeValue}
use Rattle.fare_store.specs.Standing.{Standing}
use Rattle.fare_store.specs.OutboxWords.{OutboxValue}
use Rattle.fare_store.specs.LedgerWords.{LedgerValue}
use Rattle.fare_history.proofs.Entries.{all-append}
use Rattle.fare_sessions.specs.declared.hub.Hub.{Hub}
use Rattle.fare_sessions.specs.Stores.{HasLedgers}
use Rattle.fare_serve.specs.Counting.{AreNoCounts}
use Rattle.fare_serve.specs.Rounds.{AreServed, HaveGiven, IsRound, Round, calls_of}
use Rattle.fare_record.specs.Values.{RecordValue}
use Rattle.fare_source.specs.declared.shift.Shift.{Shift}
use Rattle.fare_net.specs.NetValue.{NetValue}
use Rattle.fare_serve.specs.Calls.{Call, IsOutside}
use Rattle.fare_serve.specs.Coming.{ComeOfLines, HasBegun}
use Rattle.fare_serve.specs.Pausing.{HasPausedOnly, HasPausedSome, PauseOf}
use Rattle.fare_serve.specs.Spacing.{AreSpaced}
use Rattle.fare_serve.specs.Seats.{AreFree, AreSeatsGathered, AreSeats}
use Rattle.fare_serve.specs.Serving.{HasFailedHeld, HasFailedLines, HasHeldRound, HaveBeenHeld, HaveFailed, HaveTold, IsReadToEnds, KeepsStores, shift_talk}
use Rattle.fare_serve.specs.declared.fault.ServeFault.{ServeFault}
use Rattle.fare_serve.specs.declared.counts.Counts.{Counts}
use Rattle.fare_serve.specs.declared.seats.Seat.{Seat}
use Rattle.fare_serve.proofs.Chained.{held_scheme, ledgers_on}
use Rattle.fare_serve.proofs.Rested.{rested_goes, rested_none}
use Rattle.fare_serve.proofs.Spaced.{all_covered, all_follow, all_keep, all_last, all_owned, all_scheme, all_sound, gave_all, rounds_more, rounds_none, spaced_scheme}
use Rattle.fare_serve.proofs.Coming.{AreSeated, are_serving, come_none, come_of_rounds, come_to_fault, lines_covered, seated_more}
use Rattle.fare_serve.proofs.Failed.{IsFront, rounds_of_scheme, stopped_after, stopped_behind}
use Rattle.fare_serve.proofs.Seated.{seats_of_free}
use Rattle.fare_serve.proofs.Counted.{counts_more, counts_none, entries_of}

-- what holds of a fault holds of one that is handed on
pub handed_on : {A E : Type 0} (P : E → Type 0) (r : Result A E) (fault : E) → IsErrAnd r (λ q. q ≡ fault) → P fault → IfErr r P
handed_on P (Ok a) fault is holds = absurd is
handed_on P (Err q) fault is holds = subst P (sym is) holds

module _ {O L : Type 0} (does : PauseOf O L) (outbox : O → Standing OutboxValue) (ledger : L → Standing LedgerValue) where
  -- Rounds that were held, one after the other, and the seats behind them.
  pub record HaveBeenSeated (old new : Hub O L) (whole : Bool) (count : ℕ) (counts : Counts) (seats : List Seat) : Type 0 where
    pub held : HaveBeenHeld does outbox ledger old new whole count counts
    pub first : List Seat
    pub free : AreFree first
    pub seated : AreSeated old.scheme first held.rounds seats

  pub been_none : (hub : Hub O L) (whole : Bool) (c : Counts) (seats : List Seat) → AreNoCounts hub.scheme c → AreFree seats → HaveBeenSeated hub hub whole 0 c seats
  been_none hub whole c seats none free = record {
    held = record {
      rounds = [];
      many = refl;
      served = rounds_none shift_talk does outbox ledger hub;
      counted = counts_none hub.scheme c none;
      to_ends = λ e. tt;
      come = come_none hub.scheme;
    };
    first = seats;
    free = free;
    seated = refl;
  }

  -- before the first round no line has a seat that has not newly greeted
  pub seats_first : (old new : Hub O L) (whole : Bool) (count : ℕ) (c : Counts) (seats : List Seat) → HaveBeenSeated old new whole count c seats → count ≡ 0 → (sc : SchemeValue) → AreSeats sc seats
  seats_first old new whole count c seats was zero_is sc = by was.held.rounds was.seated (was.held.many ∙ zero_is)
    where
      by : (rs : List (Round (Shift NetValue))) → AreSeated old.scheme was.first rs seats → length rs ≡ 0 → AreSeats sc seats
      by [] seated none = seats_of_free sc seats (subst AreFree (sym seated) was.free)
      by (r ∷ rs) seated none = absurd (cc)

  pub been_more : (old middle begun new : Hub O L) (whole : Bool) (count : ℕ) (c d : Counts) (seats gathered next : List Seat) → HaveBeenSeated old middle whole count c seats → AreSeatsGathered middle.scheme seats gathered → HasPausedSome does outbox ledger middle begun
      → HasHeldRound outbox ledger begun new whole c d gathered next → HaveBeenSeated old new whole (count + 1) d next
  been_more old middle begun new whole count c d seats gathered next been came rested one = record {
    held = record {
      rounds = was.rounds ++ one.served.round ∷ [];
      many = length-append was.rounds (one.served.round ∷ []) ∙ ap (λ n. n + 1) was.many;
      served = rounds_more shift_talk does outbox ledger old middle begun new was.rounds one.served.round one.before was.served rested one.served.is one.served.held one.served.unended;
      counted = counts_more old.scheme was.rounds one.served.round c d was.counted one.served.counted;
      to_ends = λ e. all-append (IsReadToEnds old.scheme) was.rounds (one.served.round ∷ []) (was.to_ends e) ((one.before, subst (λ sc. IsRound sc one.served.round one.before) same one.served.is, one.to_ends e), tt);
      come = come_of_rounds old.scheme been.first (was.rounds ++ one.served.round ∷ []) next been.free seated;
    };
    first = been.first;
    free = been.free;
    seated = seated;
  }
    where
      was : HaveBeenHeld does outbox ledger old middle whole count c
      was = been.held

      before : middle.scheme ≡ old.scheme
      before = spaced_scheme shift_talk does outbox ledger old middle (flat_map calls_of was.rounds) was.served.held

      same : begun.scheme ≡ old.scheme
      same = (rested_goes does outbox ledger middle begun rested.0).scheme ∙ before

      seated : AreSeated old.scheme been.first (was.rounds ++ one.served.round ∷ []) next
      seated = seated_more old.scheme been.first was.rounds seats one.served.round next been.seated (record {
        gathered = gathered;
        came = subst (λ sc. AreSeatsGathered sc seats gathered) before came;
        over = one.over;
        back = one.back;
        serves = are_serving (keys_of begun.scheme.owners) one.served.round.owners one.served.is.serves;
      })

  pub round_scheme : (old new : Hub O L) (whole : Bool) (c d : Counts) (s t : List Seat) → HasHeldRound outbox ledger old new whole c d s t → new.scheme ≡ old.scheme
  round_scheme old new whole c d s t one = held_scheme shift_talk outbox ledger old new (calls_of one.served.round) one.served.held

  pub round_ledgers : (old new : Hub O L) (whole : Bool) (c d : Counts) (s t : List Seat) → HasHeldRound outbox ledger old new whole c d s t → HasLedgers old → HasLedgers new
  round_ledgers old new whole c d s t one has = ledgers_on shift_talk outbox ledger old new (calls_of one.served.round) one.served.held has

  pub been_scheme : (old new : Hub O L) (whole : Bool) (count : ℕ) (c : Counts) → HaveBeenHeld does outbox ledger old new whole count c → new.scheme ≡ old.scheme
  been_scheme old new whole count c was = spaced_scheme shift_talk does outbox ledger old new (flat_map calls_of was.rounds) was.served.held

  -- the counts have an entry for each owner
  pub been_entries : (old new : Hub O L) (whole : Bool) (count : ℕ) (c : Counts) → HaveBeenHeld does outbox ledger old new whole count c → length c.taken.items ≡ length new.scheme.owners
  been_entries old new whole count c was = entries_of old.scheme c was.counted.owners ∙ ap (λ (sc : SchemeValue). length sc.owners) (sym (been_scheme old new whole count c was))

  -- WHAT THE CALLS KEEP OF THE STORES
  pub calls_keep : (old last new : Hub O L) (calls : List (Call (Shift NetValue))) (AreGiven : (ℕ → List RecordValue) → Type 0) → ((lists : ℕ → List RecordValue) → AreGiven lists → HaveTold old.scheme lists calls) → AreSpaced shift_talk does outbox ledger old last calls
      → HasPausedOnly does outbox ledger last new → ComeOfLines old.scheme calls → KeepsStores does outbox ledger old new calls AreGiven
  calls_keep old last new calls AreGiven told held rested come = record {
    scheme = all_scheme shift_talk does outbox ledger old last new calls held rested;
    follow = all_follow shift_talk does outbox ledger old last new calls held rested;
    sound = all_sound shift_talk does outbox ledger old last new calls held rested;
    agrees = λ clean sound lists numbered given agreed. all_keep shift_talk does outbox ledger old last new calls held rested clean sound lists numbered (told lists given) agreed;
    covered = λ clean sound lists numbered given agreed k may. all_covered shift_talk does outbox ledger old last new calls held rested clean sound lists numbered (told lists given) agreed k may;
    answered = λ clean sound lists numbered given agreed k may. lines_covered old.scheme k.outbox calls come (all_covered shift_talk does outbox ledger old last new calls held rested clean sound lists numbered (told lists given) agreed k may);
    lasts = all_last shift_talk does outbox ledger old last new calls held rested;
    owned = λ keep clean sound owned. all_owned shift_talk does outbox ledger old last new calls held rested clean sound keep owned;
  }

  pub rounds_keep : (old new : Hub O L) (rounds : List (Round (Shift NetValue))) → AreServed shift_talk does outbox ledger old new rounds → ComeOfLines old.scheme (flat_map calls_of rounds) → KeepsStores does outbox ledger old new (flat_map calls_of rounds) (λ lists. HaveGiven shift_talk outbox ledger old.scheme lists rounds)
  rounds_keep old new rounds served come =
      calls_keep old new new (flat_map calls_of rounds) _ (λ lists given. gave_all shift_talk does outbox ledger old.scheme lists rounds served.each given) served.held (rested_none does outbox ledger new) come

  -- A FAULT
  pub lines_failed : (old new : Hub O L) (fault : ServeFault) → HaveFailed does outbox ledger old new fault → HasFailedLines does outbox ledger old new fault
  lines_failed old new fault h = record {
    failed = h.failed;
    come = h.come;
    keeps = calls_keep old h.failed.last new h.failed.calls _ (λ lists given. given) h.failed.held h.failed.rested h.come;
  }

  -- before any session
  pub none_failed : (hub : Hub O L) (fault : ServeFault) → IsOutside fault → HaveFailed does outbox ledger hub hub fault
  none_failed hub fault outside = record { failed = record { calls = []; last = hub; held = refl; rested = rested_none does outbox ledger hub; ended = outside; each = tt }; come = come_none hub.scheme }

  -- lines were lent to a front of a round
  front_of : (seats : List Seat) (calls : List (Call (Shift NetValue))) → HasBegun seats calls → IsFront calls
  front_of seats [] begun = tt
  front_of seats (c ∷ cs) begun = ((begun.0.stations, begun.0.collects), begun.1)

  -- behind rounds, in one that had begun
  pub rounds_failed : (old middle begun new : Hub O L) (whole : Bool) (count : ℕ) (c : Counts) (seats gathered : List Seat) (fault : ServeFault) → HaveBeenSeated old middle whole count c seats → AreSeatsGathered middle.scheme seats gathered → HasPausedSome does outbox ledger middle begun
      → HasFailedHeld outbox ledger begun new gathered fault → HaveFailed does outbox ledger old new fault
  rounds_failed old middle begun new whole count c seats gathered fault been came rested next =
      let was = been.held in
      let same = spaced_scheme shift_talk does outbox ledger old middle (flat_map calls_of was.rounds) was.served.held in
      let front = front_of gathered next.failed.calls next.begun in
      let all = stopped_after shift_talk does outbox ledger old middle begun new (flat_map calls_of was.rounds) fault was.served.held was.served.unended (rounds_of_scheme old.scheme was.rounds was.served.each) rested next.failed front in
      record {
        failed = all.0;
        come = subst (ComeOfLines old.scheme) (sym all.1) (come_to_fault old.scheme been.first was.rounds seats gathered next.failed.calls been.free been.seated (subst (λ sc. AreSeatsGathered sc seats gathered) same came) next.begun);
      }

  -- behind rounds, outside of sessions
  pub rounds_failed_behind : (old new : Hub O L) (whole : Bool) (count : ℕ) (c : Counts) (fault : ServeFault) → HaveBeenHeld does outbox ledger old new whole count c → IsOutside fault → HaveFailed does outbox ledger old new fault
  rounds_failed_behind old new whole count c fault was outside =
      let all = stopped_behind shift_talk does outbox ledger old new (flat_map calls_of was.rounds) fault was.served.held was.served.unended (rounds_of_scheme old.scheme was.rounds was.served.each) outside in
      record { failed = all.0; come = subst (ComeOfLines old.scheme) (sym all.1) was.come }
