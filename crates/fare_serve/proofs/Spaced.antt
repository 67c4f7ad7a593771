-- Calls of a hub's sessions with pauses between two rounds: what holds of each call, and of each pause, holds of all.
use Rattle.std.proofs.Common.{◌≡◌, ℕ, zero, suc, List, [], ◌∷◌, ◌++◌, map, Some, None, refl, sym, ap, ◌∙◌, subst, inl, inr}
use Rattle.std.specs.Prelude.{slice_get, Vec}
use Rattle.std.specs.Global.{Global}
use Rattle.std.specs.List.{AllByRecursion, flat_map}
use Rattle.std.specs.Map.{keys_of}
use Rattle.std.proofs.lemmas.List.{append-nil}
use Rattle.std.proofs.lemmas.Grind.{flat_map-append}
use Rattle.fare_record.specs.Values.{RecordValue}
use Rattle.fare_scheme.specs.Values.{SchemeValue}
use Rattle.fare_store.specs.Standing.{Standing}
use Rattle.fare_store.specs.OutboxWords.{OutboxValue}
use Rattle.fare_store.specs.LedgerWords.{LedgerValue}
use Rattle.fare_source.specs.Talking.{Talk}
use Rattle.fare_collect.specs.declared.station.Station.{Station}
use Rattle.fare_frame.specs.declared.frame.Frame.{Frame}
use Rattle.fare_frame.specs.declared.frame.Frame.TheVariants as frame
use Rattle.fare_record.specs.declared.ack_item.AckItem.TheVariants as ack
use Rattle.fare_history.specs.Stores.{StoresValue}
use Rattle.fare_history.proofs.Entries.{all-append, all-weaken}
use Rattle.fare_agreement.specs.Agreeing.{AreNumberedLists}
use Rattle.fare_agreement.specs.Growing.{OutboxGrew}
use Rattle.fare_agreement.proofs.Collecting.{covered_still}
use Rattle.fare_sessions.specs.declared.hub.Hub.{Hub}
use Rattle.fare_sessions.specs.declared.session.Session.{Session}
use Rattle.fare_sessions.specs.declared.session.Session.TheVariants.{Collect}
use Rattle.fare_sessions.specs.Stores.{AreClean, AreSound, StoresFollow, IsAgreed, HasGrown, MayStandAs}
use Rattle.fare_sessions.specs.Promises.{AreCovered, GaveOf, IsFrameCovered, Trusted}
use Rattle.fare_sessions.specs.Reopening.{AreLasting, AreOwned}
use Rattle.fare_sessions.proofs.Follow.{clean_back, follow_join, follow_self}
use Rattle.fare_sessions.proofs.Lasting.{lasting_on}
use Rattle.fare_desk.specs.Closing.{GoesOn}
use Rattle.fare_desk.proofs.Going.{goes_self, grown_same, grown_join}
use Rattle.fare_serve.specs.Calls.{AreHeld, AreUnended, Call, IsCollecting, IsHeld, IsServing, ended_by}
use Rattle.fare_serve.specs.Pausing.{HasPausedOnly, HasPausedSome, KeepOwners, PauseOf, does_nothing}
use Rattle.fare_serve.specs.Spacing.{AreSpaced, HaveStopped, IsBehind}
use Rattle.fare_serve.specs.declared.fault.ServeFault.{ServeFault}
use Rattle.fare_serve.specs.Rounds.{AreServed, HaveGiven, IsRound, Round, calls_of, olds_of, serving_of}
use Rattle.fare_serve.proofs.Coming.{are_serving}
use Rattle.fare_serve.proofs.Rested.{rested_goes, rested_owned, rested_still}

-- what an outbox covers, one that has grown from it does
frame_still : (sc : SchemeValue) (x y : OutboxValue) → OutboxGrew x y → (f : Frame) → IsFrameCovered sc x f → IsFrameCovered sc y f
frame_still sc x y grew (frame.Acked a) is = covered_still sc x y grew (ack.Upto a) is
frame_still sc x y grew (frame.DayAcked a) is = covered_still sc x y grew (ack.Day a) is
frame_still sc x y grew (frame.Tapped r) is = absurd is
frame_still sc x y grew (frame.Stated v) is = absurd is
frame_still sc x y grew (frame.Greeted d) is = absurd is

module _ {S O L : Type 0} (talks : S → Talk) (does : PauseOf O L) (outbox : O → Standing OutboxValue) (ledger : L → Standing LedgerValue) where
  abbrev Spaced : Hub O L → Hub O L → List (Call S) → Type 0
  Spaced = AreSpaced talks does outbox ledger

  abbrev Behind : Call S → Hub O L → Hub O L → Type 0
  Behind = IsBehind talks does outbox ledger

  abbrev Held : Hub O L → Hub O L → Call S → Type 0
  Held = IsHeld talks outbox ledger

  -- ONE CALL, AND WHAT LIES BEFORE IT
  behind_goes : (c : Call S) (a b : Hub O L) → Behind c a b → GoesOn outbox ledger a b
  behind_goes c a b (inl is) = rested_goes does outbox ledger a b is.1.0
  behind_goes c a b (inr is) = subst (GoesOn outbox ledger a) (sym is.1) (goes_self outbox ledger a)

  behind_owned : KeepOwners does outbox ledger → (c : Call S) (a b : Hub O L) → Behind c a b → AreClean outbox ledger b → AreSound outbox ledger a → AreOwned outbox ledger a → AreOwned outbox ledger b
  behind_owned keep c a b (inl is) clean sound owned = rested_owned does outbox ledger keep a b is.1.0 clean sound owned
  behind_owned keep c a b (inr is) clean sound owned = subst (AreOwned outbox ledger) (sym is.1) owned

  -- what agreed goes on to, and what then grows, through a rest and a call
  abbrev KeepsLists : (ℕ → List RecordValue) → Hub O L → Hub O L → Type 0
  KeepsLists lists a b = IsAgreed outbox ledger lists b × HasGrown outbox ledger a b

  module _ (x : Call S) (a m e : Hub O L) (behind : Behind x a m) (held : Held m e x) where
    goes : GoesOn outbox ledger a m
    goes = behind_goes x a m behind

    step_scheme : e.scheme ≡ a.scheme
    step_scheme = held.scheme ∙ goes.scheme

    step_follow : StoresFollow outbox ledger a e
    step_follow = follow_join outbox ledger a m e goes.follow held.follow

    module _ (clean : AreClean outbox ledger e) (sound : AreSound outbox ledger a) where
      clean_m : AreClean outbox ledger m
      clean_m = clean_back outbox ledger m e held.follow clean

      step_sound : AreSound outbox ledger e
      step_sound = held.sound clean (goes.sound sound)

      step_owned : KeepOwners does outbox ledger → AreOwned outbox ledger a → AreOwned outbox ledger e
      step_owned keep owned = held.owned clean (goes.sound sound) (behind_owned keep x a m behind clean_m sound owned)

      module _ (lists : ℕ → List RecordValue) (numbered : AreNumberedLists lists) (gave : GaveOf talks a.scheme lists x.olds x.news) (agreed : IsAgreed outbox ledger lists a) where
        asked : Trusted talks outbox ledger m e x.olds x.news lists
        asked = record {
          clean = clean;
          sound = goes.sound sound;
          numbered = numbered;
          gave = subst (λ sc. GaveOf talks sc lists x.olds x.news) (sym goes.scheme) gave;
          agreed = goes.agrees clean_m sound lists numbered agreed;
        }

        step_keeps : KeepsLists lists a e
        step_keeps = (held.agrees lists asked, grown_join outbox ledger a m e (goes.stays clean_m sound lists numbered agreed) (held.grows lists asked))

        step_covers : (k : StoresValue) → MayStandAs outbox ledger e k → AreCovered talks a.scheme k.outbox x.olds x.news
        step_covers k may = subst (λ sc. AreCovered talks sc k.outbox x.olds x.news) goes.scheme (held.covered lists asked k may)

  -- CHAINS
  pub spaced_then : (a b c : Hub O L) (xs ys : List (Call S)) → Spaced a b xs → Spaced b c ys → Spaced a c (xs ++ ys)
  spaced_then a b c [] ys first next = subst (λ (h : Hub O L). Spaced h c ys) first next
  spaced_then a b c (x ∷ xs) ys first next = (first.0, first.1, first.2, first.3, spaced_then first.1 b c xs ys first.4 next)

  -- sessions of owners have no pause before them
  spaced_owners : (a b : Hub O L) (os : List (Call S)) → AllByRecursion IsServing os → AreHeld talks outbox ledger a b os → Spaced a b os
  spaced_owners a b [] serve held = held
  spaced_owners a b (o ∷ os) serve held = (a, held.0, inr (serve.0, refl), held.1, spaced_owners held.0 b os serve.1 held.2)

  -- a round, or its front, behind a pause or several
  pub spaced_round : (a m b : Hub O L) (x : Call S) (os : List (Call S)) → HasPausedSome does outbox ledger a m → IsCollecting x → AllByRecursion IsServing os → AreHeld talks outbox ledger m b (x ∷ os) → Spaced a b (x ∷ os)
  spaced_round a m b x os rested collects serve held = (m, held.0, inl (collects, rested), held.1, spaced_owners held.0 b os serve held.2)

  pub spaced_scheme : (a b : Hub O L) (xs : List (Call S)) → Spaced a b xs → b.scheme ≡ a.scheme
  spaced_scheme a b [] h = ap (λ (x : Hub O L). x.scheme) h
  spaced_scheme a b (x ∷ xs) h = spaced_scheme h.1 b xs h.4 ∙ step_scheme x a h.0 h.1 h.2 h.3

  pub spaced_follow : (a b : Hub O L) (xs : List (Call S)) → Spaced a b xs → StoresFollow outbox ledger a b
  spaced_follow a b [] h = subst (StoresFollow outbox ledger a) (sym h) (follow_self outbox ledger a)
  spaced_follow a b (x ∷ xs) h = follow_join outbox ledger a h.1 b (step_follow x a h.0 h.1 h.2 h.3) (spaced_follow h.1 b xs h.4)

  pub spaced_sound : (a b : Hub O L) (xs : List (Call S)) → Spaced a b xs → AreClean outbox ledger b → AreSound outbox ledger a → AreSound outbox ledger b
  spaced_sound a b [] h clean sound = subst (AreSound outbox ledger) (sym h) sound
  spaced_sound a b (x ∷ xs) h clean sound =
      let clean_e = clean_back outbox ledger h.1 b (spaced_follow h.1 b xs h.4) clean in
      spaced_sound h.1 b xs h.4 clean (step_sound x a h.0 h.1 h.2 h.3 clean_e sound)

  pub spaced_owned : KeepOwners does outbox ledger → (a b : Hub O L) (xs : List (Call S)) → Spaced a b xs → AreClean outbox ledger b → AreSound outbox ledger a → AreOwned outbox ledger a → AreOwned outbox ledger b
  spaced_owned keep a b [] h clean sound owned = subst (AreOwned outbox ledger) (sym h) owned
  spaced_owned keep a b (x ∷ xs) h clean sound owned =
      let clean_e = clean_back outbox ledger h.1 b (spaced_follow h.1 b xs h.4) clean in
      spaced_owned keep h.1 b xs h.4 clean (step_sound x a h.0 h.1 h.2 h.3 clean_e sound) (step_owned x a h.0 h.1 h.2 h.3 clean_e sound keep owned)

  -- AGREEMENT
  abbrev Gave : SchemeValue → (ℕ → List RecordValue) → List (Call S) → Type 0
  Gave sc lists xs = AllByRecursion (λ x. GaveOf talks sc lists x.olds x.news) xs

  pub spaced_keeps : (a b : Hub O L) (xs : List (Call S)) → Spaced a b xs → AreClean outbox ledger b → AreSound outbox ledger a
      → (lists : ℕ → List RecordValue) → AreNumberedLists lists → Gave a.scheme lists xs → IsAgreed outbox ledger lists a → KeepsLists lists a b
  spaced_keeps a b [] h clean sound lists numbered gave agreed = (subst (IsAgreed outbox ledger lists) (sym h) agreed, subst (HasGrown outbox ledger a) (sym h) (grown_same outbox ledger a a (λ k may. may)))
  spaced_keeps a b (x ∷ xs) h clean sound lists numbered gave agreed =
      let clean_e = clean_back outbox ledger h.1 b (spaced_follow h.1 b xs h.4) clean in
      let same = step_scheme x a h.0 h.1 h.2 h.3 in
      let one = step_keeps x a h.0 h.1 h.2 h.3 clean_e sound lists numbered gave.0 agreed in
      let rest = spaced_keeps h.1 b xs h.4 clean (step_sound x a h.0 h.1 h.2 h.3 clean_e sound) lists numbered (subst (λ sc. Gave sc lists xs) (sym same) gave.1) one.0 in
      (rest.0, grown_join outbox ledger a h.1 b one.1 rest.1)

  -- what is covered stays so
  covered_more : (sc : SchemeValue) (x y : OutboxValue) → OutboxGrew x y → (c : Call S) → AreCovered talks sc x c.olds c.news → AreCovered talks sc y c.olds c.news
  covered_more sc x y grew c h = record {
    covered = λ place before after was now k d lt.
        let told = h.covered place before after was now k d lt in
        (told.0, told.1, all-weaken (IsFrameCovered sc x) (IsFrameCovered sc y) (frame_still sc x y grew) told.0 told.2);
  }

  all_covered_more : (sc : SchemeValue) (x y : OutboxValue) → OutboxGrew x y → (xs : List (Call S)) → AllByRecursion (λ c. AreCovered talks sc x c.olds c.news) xs → AllByRecursion (λ c. AreCovered talks sc y c.olds c.news) xs
  all_covered_more sc x y grew [] are = tt
  all_covered_more sc x y grew (c ∷ cs) are = (covered_more sc x y grew c are.0, all_covered_more sc x y grew cs are.1)

  spaced_covers : (a b : Hub O L) (xs : List (Call S)) → Spaced a b xs → AreClean outbox ledger b → AreSound outbox ledger a
      → (lists : ℕ → List RecordValue) → AreNumberedLists lists → Gave a.scheme lists xs → IsAgreed outbox ledger lists a
      → (k : StoresValue) → MayStandAs outbox ledger b k → AllByRecursion (λ x. AreCovered talks a.scheme k.outbox x.olds x.news) xs
  spaced_covers a b [] h clean sound lists numbered gave agreed k may = tt
  spaced_covers a b (x ∷ xs) h clean sound lists numbered gave agreed k may =
      let e = h.1 in
      let clean_e = clean_back outbox ledger e b (spaced_follow e b xs h.4) clean in
      let same = step_scheme x a h.0 e h.2 h.3 in
      let sound_e = step_sound x a h.0 e h.2 h.3 clean_e sound in
      let gave_e = subst (λ sc. Gave sc lists xs) (sym same) gave.1 in
      let agreed_e = (step_keeps x a h.0 e h.2 h.3 clean_e sound lists numbered gave.0 agreed).0 in
      let stood = (spaced_keeps e b xs h.4 clean sound_e lists numbered gave_e agreed_e).1.grown k may in (
        covered_more a.scheme stood.0.outbox k.outbox stood.2.outbox x (step_covers x a h.0 e h.2 h.3 clean_e sound lists numbered gave.0 agreed stood.0 stood.1),
        subst (λ sc. AllByRecursion (λ y. AreCovered talks sc k.outbox y.olds y.news) xs) same (spaced_covers e b xs h.4 clean sound_e lists numbered gave_e agreed_e k may),
      )

  -- WITH A REST BEHIND THE LAST CALL
  module _ (a m b : Hub O L) (xs : List (Call S)) (held : Spaced a m xs) (rested : HasPausedOnly does outbox ledger m b) where
    last_goes : GoesOn outbox ledger m b
    last_goes = rested_goes does outbox ledger m b rested

    pub all_scheme : b.scheme ≡ a.scheme
    all_scheme = last_goes.scheme ∙ spaced_scheme a m xs held

    pub all_follow : StoresFollow outbox ledger a b
    all_follow = follow_join outbox ledger a m b (spaced_follow a m xs held) last_goes.follow

    module _ (clean : AreClean outbox ledger b) (sound : AreSound outbox ledger a) where
      clean_last : AreClean outbox ledger m
      clean_last = clean_back outbox ledger m b last_goes.follow clean

      sound_last : AreSound outbox ledger m
      sound_last = spaced_sound a m xs held clean_last sound

      pub all_sound : AreSound outbox ledger b
      all_sound = last_goes.sound sound_last

      pub all_last : AreLasting outbox ledger a → AreLasting outbox ledger b
      all_last = lasting_on outbox ledger a b all_follow clean sound

      pub all_owned : KeepOwners does outbox ledger → AreOwned outbox ledger a → AreOwned outbox ledger b
      all_owned keep owned = rested_owned does outbox ledger keep m b rested clean sound_last (spaced_owned keep a m xs held clean_last sound owned)

      module _ (lists : ℕ → List RecordValue) (numbered : AreNumberedLists lists) (gave : Gave a.scheme lists xs) (agreed : IsAgreed outbox ledger lists a) where
        kept : KeepsLists lists a m
        kept = spaced_keeps a m xs held clean_last sound lists numbered gave agreed

        grown_last : HasGrown outbox ledger m b
        grown_last = last_goes.stays clean sound_last lists numbered kept.0

        pub all_keep : KeepsLists lists a b
        all_keep = (last_goes.agrees clean sound_last lists numbered kept.0, grown_join outbox ledger a m b kept.1 grown_last)

        pub all_covered : (k : StoresValue) → MayStandAs outbox ledger b k → AllByRecursion (λ x. AreCovered talks a.scheme k.outbox x.olds x.news) xs
        all_covered k may =
            let stood = grown_last.grown k may in
            all_covered_more a.scheme stood.0.outbox k.outbox stood.2.outbox xs (spaced_covers a m xs held clean_last sound lists numbered gave agreed stood.0 stood.1)

  -- FRAMES THAT WERE GIVEN
  -- a session of an owner has no source
  gave_serving : (sc : SchemeValue) (lists : ℕ → List RecordValue) (x : Call S) (owner : ℕ) → x.olds ≡ serving_of owner → GaveOf talks sc lists x.olds x.news
  gave_serving sc lists x owner is = record { of = λ place before after was now k d lt. absurd (none place before (ap (λ (l : List (Session S)). slice_get l place) (sym is) ∙ was)) }
    where
      none : (place : ℕ) (before : Vec (Station S) Global) → slice_get (serving_of owner) place ≡ Some (Collect before) → ⊥
      none zero before at = cc
      none (suc place) before at = cc

  gave_owners : (sc : SchemeValue) (lists : ℕ → List RecordValue) (xs : List (Call S)) (owners : List ℕ) → map olds_of xs ≡ map serving_of owners → Gave sc lists xs
  gave_owners sc lists [] owners same = tt
  gave_owners sc lists (x ∷ xs) [] same = absurd (cc)
  gave_owners sc lists (x ∷ xs) (o ∷ os) same =
      let first : x.olds ≡ serving_of o = cc in
      let rest : map olds_of xs ≡ map serving_of os = cc in
      (gave_serving sc lists x o first, gave_owners sc lists xs os rest)

  abbrev AreRounds : SchemeValue → List (Round S) → Type 0
  AreRounds sc rounds = AllByRecursion (λ r. (before : List (Station S)) × IsRound sc r before) rounds

  pub gave_all : (sc : SchemeValue) (lists : ℕ → List RecordValue) (rounds : List (Round S)) → AreRounds sc rounds → HaveGiven talks outbox ledger sc lists rounds → Gave sc lists (flat_map calls_of rounds)
  gave_all sc lists [] are gave = tt
  gave_all sc lists (r ∷ rs) are gave =
      all-append (λ x. GaveOf talks sc lists x.olds x.news) (calls_of r) (flat_map calls_of rs)
      (gave.0, gave_owners sc lists r.owners (keys_of sc.owners) are.0.1.serves) (gave_all sc lists rs are.1 gave.1)

  -- ROUNDS
  pub rounds_none : (hub : Hub O L) → AreServed talks does outbox ledger hub hub []
  rounds_none hub = record { each = tt; held = refl; unended = tt }

  pub rounds_more : (old middle begun new : Hub O L) (rounds : List (Round S)) (r : Round S) (before : List (Station S)) → AreServed talks does outbox ledger old middle rounds → HasPausedSome does outbox ledger middle begun
      → IsRound begun.scheme r before → AreHeld talks outbox ledger begun new (calls_of r) → AreUnended (calls_of r) → AreServed talks does outbox ledger old new (rounds ++ r ∷ [])
  rounds_more old middle begun new rounds r before was rested is held unended =
      let same = (rested_goes does outbox ledger middle begun rested.0).scheme ∙ spaced_scheme old middle (flat_map calls_of rounds) was.held in
      let one : IsRound old.scheme r before = subst (λ sc. IsRound sc r before) same is in
      let round = spaced_round middle begun new r.stations r.owners rested (is.sessions, is.collects) (are_serving (keys_of begun.scheme.owners) r.owners is.serves) held in
      let calls = sym (flat_map-append calls_of rounds (r ∷ []) ∙ ap (λ (l : List (Call S)). flat_map calls_of rounds ++ l) (append-nil (calls_of r))) in
      record {
        each = all-append (λ q. (b : List (Station S)) × IsRound old.scheme q b) rounds (r ∷ []) was.each ((before, one), tt);
        held = subst (Spaced old new) calls (spaced_then old middle new (flat_map calls_of rounds) (calls_of r) was.held round);
        unended = subst AreUnended calls (all-append (λ (x : Call S). ended_by x ≡ None) (flat_map calls_of rounds) (calls_of r) was.unended unended);
      }

-- PAUSES THAT DO NOTHING
module _ {S O L : Type 0} (talks : S → Talk) (outbox : O → Standing OutboxValue) (ledger : L → Standing LedgerValue) where
  behind_still : (c : Call S) (a b : Hub O L) → IsBehind talks does_nothing outbox ledger c a b → b ≡ a
  behind_still c a b (inl is) = rested_still outbox ledger a b is.1.0
  behind_still c a b (inr is) = is.1

  -- leave the calls one after the other, with nothing between them
  pub spaced_still : (a b : Hub O L) (xs : List (Call S)) → AreSpaced talks does_nothing outbox ledger a b xs → AreHeld talks outbox ledger a b xs
  spaced_still a b [] h = h
  spaced_still a b (x ∷ xs) h = (h.1, subst (λ (m : Hub O L). IsHeld talks outbox ledger m h.1 x) (behind_still x a h.0 h.2) h.3, spaced_still h.1 b xs h.4)

  pub stopped_still : (a b : Hub O L) (fault : ServeFault) (s : HaveStopped talks does_nothing outbox ledger a b fault) → AreHeld talks outbox ledger a b s.calls
  stopped_still a b fault s = subst (λ (h : Hub O L). AreHeld talks outbox ledger a h s.calls) (sym (rested_still outbox ledger s.last b s.rested)) (spaced_still a s.last s.calls s.held)
