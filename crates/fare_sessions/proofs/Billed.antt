-- What is asked of one ledger, and what a bill and a settlement are of.
use Rattle.std.proofs.Common.{◌≡◌, ℕ, ◌<◌, ◌≤◌, List, [], ◌∷◌, ◌++◌, Some, None, Bool, true, false, refl, sym, ap, ◌∙◌, subst, arith, inl, inr}
use Rattle.std.specs.Prelude.{◌==◌, ◌&&◌, nat_le, max, Option, Result, Ok, Err, IfOk, IsErrAnd, if◌then◌else◌, filter, map}
use Rattle.std.specs.List.{flat_map}
use Rattle.std.specs.Ordering.{nat_cmp, is_lt}
use Rattle.std.proofs.lemmas.Bool.{and_from}
use Rattle.std.proofs.lemmas.Bool.Decides.{nat_tests}
use Rattle.std.proofs.lemmas.List.Elements.{filter-append}
use Rattle.fare_record.specs.Values.{RecordValue}
use Rattle.fare_record.specs.Lanes.{part}
use Rattle.fare_day.specs.Week.{monday_on_or_before}
use Rattle.fare_scheme.specs.declared.entry.Placement.{Placement}
use Rattle.fare_scheme.specs.Facts.{IsScheme}
use Rattle.fare_scheme.specs.Values.{SchemeValue}
use Rattle.fare_scheme.specs.Words.{position_of_owner}
use Rattle.fare_cap.specs.Bills.{bill_of}
use Rattle.fare_cap.specs.Fares.{week_start}
use Rattle.fare_settle.specs.Values.{SettledValue}
use Rattle.fare_settle.specs.Charges.{charges_of}
use Rattle.fare_settle.specs.Settling.{settlement_of, share_of}
use Rattle.fare_settle.proofs.SettledWeeks.{other_days_settle_nothing}
use Rattle.fare_store.specs.declared.fault.Refused.{Refused}
use Rattle.fare_store.specs.declared.fault.Refused.TheVariants.{Because, Failed}
use Rattle.fare_store.specs.Standing.{Standing, Calls, IsSound, fault_in}
use Rattle.fare_store.specs.Tables.{put}
use Rattle.fare_store.specs.OutboxWords.{OutboxValue}
use Rattle.fare_store.specs.LedgerWords.{LedgerValue}
use Rattle.fare_side.specs.declared.bill_fault.BillFault.{BillFault}
use Rattle.fare_side.specs.declared.bill_fault.BillFault.TheVariants.{UnknownOwner, BeforeStart, NotClosed}
use Rattle.fare_side.specs.OpenDays.{first_open, short_devices, where_open}
use Rattle.fare_side.specs.Weeks.{open_of}
use Rattle.fare_side.specs.declared.week_taps.WeekTaps.{WeekTaps}
use Rattle.fare_sessions.specs.declared.billing.BillingFault.{BillingFault}
use Rattle.fare_sessions.specs.declared.billing.BillingFault.TheVariants.{Unbilled, Forgotten}
use Rattle.fare_world.specs.Knowing.{knows_owner}
use Rattle.fare_side.specs.Answering.{Answered}
use Rattle.fare_history.specs.Holding.{MayHold}
use Rattle.fare_history.specs.Stores.{StoresValue}
use Rattle.fare_store.proofs.Entries.{is_one}
use Rattle.fare_session.specs.Stores.{Follows}
use Rattle.fare_agreement.specs.Agreeing.{AreNumberedLists, had, Agrees}
use Rattle.fare_agreement.specs.Parts.{part_counted, parts_of, first_forgotten}
use Rattle.fare_agreement.proofs.Prefixes.{prefix_trans, part_front}
use Rattle.fare_agreement.proofs.WeekTaken.{week_in_order, bill_is}
use Rattle.fare_sessions.specs.declared.hub.Hub.{Hub}
use Rattle.fare_sessions.specs.Billing.{refusal_of, open_in, TellsWeek, HasBasis, OnlyReads, IsBillRefusal}
use Rattle.fare_sessions.specs.Stores.{ReplacesLedger, AreClean, AreSound, StoresFollow, MayStandAs}
use Rattle.fare_sessions.proofs.Follow.{replaced_follow, replaced_sound, IsOwn}
use Rattle.fare_sessions.proofs.Steps.{stood_before, own_stands}

-- a table with the value that it has
pub put_self : {A : Type 0} (f : ℕ → A) (k : ℕ) → put f k (f k) ≡ f
put_self f k = λ i j. by j (j == k) refl i
  where
    by : (j : ℕ) (b : Bool) → (j == k) ≡ b → (if b then f k else f j) ≡ f j
    by j true e = ap f (sym (is_one j k e))
    by j false e = refl

-- what a live and lawful store may hold is what it holds
pub holds_value : {V : Type 0} (s : Standing V) → IsSound s → s.live → s.lawful → (v : V) → MayHold s v → v ≡ s.value
holds_value s sound live lawful v (inl now) = now.1
holds_value s sound live lawful v (inr leaves) = sound.settled live lawful v leaves

pub from_not_less : (a b : ℕ) → is_lt (nat_cmp a b) ≡ false → b ≤ a
from_not_less a b e = grind (arith, nat_tests)

pub not_before_start : (a b : ℕ) → b ≤ a → is_lt (nat_cmp a b) ≡ true → ⊥
not_before_start a b le e = absurd (grind (arith, nat_tests))

-- a fault that is handed on is the same
pub fault_kept : {A R : Type 0} (B : Type 0) (r : Result A (Refused R)) (f : Refused R) → IsErrAnd r (λ q. q ≡ f) → fault_in r ≡ fault_in {A = B} (Err f)
fault_kept B (Ok v) f is = absurd is
fault_kept {A} B (Err q) f is = ap (λ z. fault_in {A = A} (Err z)) is

-- WHAT A SETTLEMENT IS OF
filter_flat : {X : Type 0} (p : RecordValue → Bool) (f : X → List RecordValue) (xs : List X) → filter p (flat_map f xs) ≡ flat_map (λ x. filter p (f x)) xs
filter_flat p f [] = refl
filter_flat p f (x ∷ xs) = filter-append p (f x) (flat_map f xs) ∙ ap (λ l. filter p (f x) ++ l) (filter_flat p f xs)

not_before : (a b : ℕ) → b ≤ max a b
not_before a b = omega arith

module _ (sc : SchemeValue) (lists : ℕ → List RecordValue) (all : AreNumberedLists lists) (h : StoresValue) (is : Agrees sc lists h) (owner : ℕ) (known : knows_owner sc owner ≡ true) (day : ℕ) (rows : List RecordValue) (short : List ℕ) (b : HasBasis sc (h.ledgers owner) day rows short) where
  none_open : open_of (h.ledgers owner) day sc ≡ None
  none_open = ap (λ start. first_open start (h.ledgers owner).closed (h.ledgers owner).retired day sc.devices) b.start ∙ b.closed

  pub bill_of_lists : bill_of sc rows day ≡ bill_of sc (parts_of sc lists (h.ledgers owner) owner) day
  bill_of_lists = bill_is sc lists all owner (h.ledgers owner) (λ d. (is.lanes owner d known).all)
      (λ d. prefix_trans (is.lanes owner d known).all (had lists h.outbox owner d) (part owner (lists d)) (is.lanes owner d known).all_are (part_front owner (h.outbox.upto d) (lists d)))
      (λ d. (is.lanes owner d known).taken_are) (λ d. (is.lanes owner d known).closed_are) (λ d unknown. is.untaken owner d known unknown) day rows b.dated b.valid b.start none_open b.held b.taps

  pub settlement_of_lists : settlement_of sc rows day ≡ settlement_of sc (parts_of sc lists (h.ledgers owner) owner) day
  settlement_of_lists =
      ap (λ ordered. map_shares ordered) (week_in_order sc lists all owner (h.ledgers owner) (λ d. (is.lanes owner d known).all)
      (λ d. prefix_trans (is.lanes owner d known).all (had lists h.outbox owner d) (part owner (lists d)) (is.lanes owner d known).all_are (part_front owner (h.outbox.upto d) (lists d)))
      (λ d. (is.lanes owner d known).taken_are) (λ d. (is.lanes owner d known).closed_are) (λ d unknown. is.untaken owner d known unknown) (week_start sc day) day rows b.dated b.taps b.valid
      (subst (λ n. n ≤ week_start sc day) (sym b.start) (not_before (monday_on_or_before day) sc.start)) none_open b.held)
      ∙ (ap (λ (records : List RecordValue). settlement_of sc records day) (sym (filter_flat among (λ (d : ℕ × Placement). part_counted lists (h.ledgers owner) owner d.0) sc.devices))
      ∙ other_days_settle_nothing sc day among (parts_of sc lists (h.ledgers owner) owner) (record { kept = λ r first last. and_from (nat_le (week_start sc day) r.tap.day) (nat_le r.tap.day day) (within first) (within last) }))
    where
      map_shares : List RecordValue → List SettledValue
      map_shares ordered = map (share_of (charges_of sc ordered day)) sc.operators

      among : RecordValue → Bool
      among r = nat_le (week_start sc day) r.tap.day && nat_le r.tap.day day

      within : {a b : ℕ} → a ≤ b → nat_le a b ≡ true
      within le = grind (arith, nat_tests)

module _ {O L : Type 0} (outbox : O → Standing OutboxValue) (ledger : L → Standing LedgerValue) where
  -- ONE LEDGER ASKED
  module _ {V W : Type 0} (old new : Hub O L) (owner day : ℕ) (r : ReplacesLedger old new owner) (same_outbox : new.outbox ≡ old.outbox) (sound_ledger : IsSound (ledger r.own_old)) (late : old.scheme.start ≤ day) (tells : LedgerValue → Result V W → Type 0) (result : Result V (Refused W))
      (call : Calls (ledger r.own_old) (ledger r.own_new) (fault_in result) (((ledger r.own_new).value ≡ (ledger r.own_old).value) × ((ledger r.own_old).value.start ≤ day → Answered (tells (ledger r.own_old).value) result)) (λ v. ⊥)) where
    follows : StoresFollow outbox ledger old new
    follows = replaced_follow outbox ledger old new owner r (subst (λ x. Follows (outbox old.outbox) (outbox x)) (sym same_outbox) same) (record { clean = call.clean; live = call.live; lawful = λ live lawful. (call.value live lawful).0; lasts = call.lasts })
      where
        same : Follows (outbox old.outbox) (outbox old.outbox)
        same = record { clean = λ c. c; live = λ l. l; lawful = λ l is. is; lasts = λ clean lawful lasting. lasting }

    -- what it may hold it might have held
    read : (ledger r.own_new).clean → ((ledger r.own_old).live → (ledger r.own_old).lawful) → (v : LedgerValue) → MayHold (ledger r.own_new) v → MayHold (ledger r.own_old) v
    read clean lawful v (inl now) = let before = call.live now.0 in inl (before, now.1 ∙ (call.value now.0 (lawful before)).1.0)
    read clean lawful v (inr leaves) = elim (call.stop clean lawful v leaves) [
      | inl was ↦ inr was
      | inr is ↦ absurd is.1
    ]

    lawful_old : AreSound outbox ledger old → (ledger r.own_old).live → (ledger r.own_old).lawful
    lawful_old sound = sound.lawful.ledgers_are r.place r.own_old r.was

    pub reads_one : OnlyReads outbox ledger old new
    reads_one = record {
      scheme = r.scheme;
      outbox_same = same_outbox;
      follow = follows;
      sound = λ sound. replaced_sound outbox ledger old new owner r follows sound (λ other live was. subst (IsOwn old.scheme other) (sym (call.value live (lawful_old sound (call.live live))).1.0) was);
      same = λ clean sound k may.
          let l = read (clean.ledgers_are r.place r.own_new r.is) (lawful_old sound) (k.ledgers owner) (own_stands outbox ledger old new owner r k may) in
          let x = subst (λ z. MayHold (outbox z) k.outbox) same_outbox may.outbox_may in
          subst (λ (f : ℕ → LedgerValue). MayStandAs outbox ledger old (record { outbox = k.outbox; ledgers = f })) (put_self k.ledgers owner) (stood_before outbox ledger old new owner r k may k.outbox x (k.ledgers owner) l);
    }

    -- it answered, or refused by name
    told_now : fault_in result ≡ None → AreClean outbox ledger new → AreSound outbox ledger old → (ledger r.own_old).live × (ledger r.own_old).lawful × ((ledger r.own_old).value.start ≡ old.scheme.start) × Answered (tells (ledger r.own_old).value) result
    told_now none clean sound =
        let live = call.stays none (clean.ledgers_are r.place r.own_new r.is) in
        let before = call.live live in
        let lawful = lawful_old sound before in
        let start = (sound.own owner r.own_old (r.place, r.at, r.was) before).1.start in
        (before, lawful, start, (call.value live lawful).1.1 (omega (arith, start, late)))

    pub told : fault_in result ≡ None → AreClean outbox ledger new → AreSound outbox ledger old → (h : StoresValue) → MayStandAs outbox ledger old h → ((h.ledgers owner).start ≡ old.scheme.start) × Answered (tells (h.ledgers owner)) result
    told none clean sound h may =
        let now = told_now none clean sound in
        let is = holds_value (ledger r.own_old) sound_ledger now.0 now.1 (h.ledgers owner) (may.ledgers_may owner r.own_old (r.place, r.at, r.was)) in
        subst (λ (l : LedgerValue). (l.start ≡ old.scheme.start) × Answered (tells l) result) (sym is) (now.2, now.3)

-- THE TAPS OF A WEEK
is_closed : (o : Option ℕ) → where_open o ≡ Ok tt → o ≡ None
is_closed None e = refl
is_closed (Some d) e = absurd (cc)

is_open : (o : Option ℕ) (why : BillFault) → where_open o ≡ Err why → (d : ℕ) × (o ≡ Some d) × (why ≡ NotClosed d)
is_open None why e = absurd (cc)
is_open (Some d) why e = let is : NotClosed d ≡ why = cc in (d, refl, sym is)

module _ {O L : Type 0} (outbox : O → Standing OutboxValue) (ledger : L → Standing LedgerValue) (old new : Hub O L) (owner day : ℕ) (r : ReplacesLedger old new owner) (same_outbox : new.outbox ≡ old.outbox) (sound_ledger : IsSound (ledger r.own_old)) (late : old.scheme.start ≤ day) (result : Result WeekTaps (Refused BillingFault))
    (call : Calls (ledger r.own_old) (ledger r.own_new) (fault_in result) (((ledger r.own_new).value ≡ (ledger r.own_old).value) × ((ledger r.own_old).value.start ≤ day → Answered (TellsWeek old.scheme day (ledger r.own_old).value) result)) (λ v. ⊥)) where
  week_now : AreClean outbox ledger new → AreSound outbox ledger old → fault_in result ≡ None → (ledger r.own_old).live × (ledger r.own_old).lawful × ((ledger r.own_old).value.start ≡ old.scheme.start) × Answered (TellsWeek old.scheme day (ledger r.own_old).value) result
  week_now clean sound none = told_now outbox ledger old new owner day r same_outbox sound_ledger late (λ l r. TellsWeek old.scheme day l r) result call none clean sound

  week_told : AreClean outbox ledger new → AreSound outbox ledger old → fault_in result ≡ None → (h : StoresValue) → MayStandAs outbox ledger old h → ((h.ledgers owner).start ≡ old.scheme.start) × Answered (TellsWeek old.scheme day (h.ledgers owner)) result
  week_told clean sound none = told outbox ledger old new owner day r same_outbox sound_ledger late (λ l r. TellsWeek old.scheme day l r) result call none clean sound

  known_place : position_of_owner old.scheme owner ≡ None → ⊥
  known_place none = let both : ◌≡◌ {A = Option ℕ} (Some r.place) None = sym r.at ∙ none in absurd (cc)

  not_early : day < old.scheme.start → ⊥
  not_early lt = absurd (omega (arith, lt, late))

  -- refused by neither of the first two names
  later_refusal : (refused : Option BillingFault) → (refused ≡ Some (Unbilled UnknownOwner) → ⊥) → (refused ≡ Some (Unbilled BeforeStart) → ⊥)
      → ((device : ℕ) → refused ≡ Some (Unbilled (NotClosed device)) → (h : StoresValue) → MayStandAs outbox ledger old h → (first_forgotten (h.ledgers owner).from (week_start old.scheme day) old.scheme.devices ≡ None) × (open_in old.scheme (h.ledgers owner) day ≡ Some device))
      → ((device : ℕ) → refused ≡ Some (Forgotten device) → (h : StoresValue) → MayStandAs outbox ledger old h → first_forgotten (h.ledgers owner).from (week_start old.scheme day) old.scheme.devices ≡ Some device) → IsBillRefusal outbox ledger old owner day refused
  later_refusal refused unknown early open_is gone_is = record {
    unknown = ((λ e. absurd (unknown e)), (λ none. absurd (known_place none)));
    early = ((λ e. absurd (early e)), (λ is. absurd (not_early is.1)));
    not_closed = open_is;
    forgotten_of = gone_is;
  }

  pub week_refused : AreClean outbox ledger new → AreSound outbox ledger old → IsBillRefusal outbox ledger old owner day (refusal_of result)
  week_refused clean sound = by result refl
    where
      by : (q : Result WeekTaps (Refused BillingFault)) → result ≡ q → IsBillRefusal outbox ledger old owner day (refusal_of q)
      by (Ok v) e = later_refusal None (λ e. absurd (cc)) (λ e. absurd (cc)) (λ device e. absurd (cc)) (λ device e. absurd (cc))
      by (Err (Failed f)) e = later_refusal None (λ e. absurd (cc)) (λ e. absurd (cc)) (λ device e. absurd (cc)) (λ device e. absurd (cc))
      by (Err (Because (Forgotten gone))) e =
          later_refusal (Some (Forgotten gone)) (λ f. absurd (cc)) (λ f. absurd (cc)) (λ device f. absurd (cc))
          (λ device f h may.
          let found : first_forgotten (h.ledgers owner).from (week_start old.scheme day) old.scheme.devices ≡ Some gone = subst (Answered (TellsWeek old.scheme day (h.ledgers owner))) e (week_told clean sound (ap fault_in e) h may).1 in
          let same : ◌≡◌ {A = Option BillingFault} (Some (Forgotten gone)) (Some (Forgotten device)) = f in
          let one : gone ≡ device = cc in
          found ∙ ap Some one)
      by (Err (Because (Unbilled why))) e =
          let none : fault_in result ≡ None = ap fault_in e in
          let v = (ledger r.own_old).value in
          let now : where_open (open_of v day old.scheme) ≡ Err why = (subst (Answered (TellsWeek old.scheme day v)) e (week_now clean sound none).3).1 in
          let is = is_open (open_of v day old.scheme) why now in
          let named = is.2 in
          later_refusal (Some (Unbilled why)) (λ f. let both : ◌≡◌ {A = Option BillingFault} (Some (Unbilled (NotClosed is.0))) (Some (Unbilled UnknownOwner)) = ap (λ w. Some (Unbilled w)) (sym named) ∙ f in absurd (cc)) (λ f. let both : ◌≡◌ {A = Option BillingFault} (Some (Unbilled (NotClosed is.0))) (Some (Unbilled BeforeStart)) = ap (λ w. Some (Unbilled w)) (sym named) ∙ f in absurd (cc))
          (λ device f h may.
          let here = week_told clean sound none h may in
          let l = h.ledgers owner in
          let tells = subst (Answered (TellsWeek old.scheme day l)) e here.1 in
          let found : where_open (open_of l day old.scheme) ≡ Err why = tells.1 in
          let there = is_open (open_of l day old.scheme) why found in
          let same : ◌≡◌ {A = Option BillingFault} (Some (Unbilled (NotClosed there.0))) (Some (Unbilled (NotClosed device))) = ap (λ w. Some (Unbilled w)) (sym there.2) ∙ f in
          let one : there.0 ≡ device = cc in
          (tells.0, ap (λ start. first_open start l.closed l.retired day old.scheme.devices) (sym here.0) ∙ (there.1 ∙ ap Some one)))
          (λ device f. absurd (cc))

  pub week_basis : IsScheme old.scheme → day ≤ 100000 → AreClean outbox ledger new → AreSound outbox ledger old → IfOk result (λ v. (h : StoresValue) → MayStandAs outbox ledger old h → HasBasis old.scheme (h.ledgers owner) day v.taps.items v.short.items)
  week_basis valid dated clean sound = by result refl
    where
      by : (q : Result WeekTaps (Refused BillingFault)) → result ≡ q → IfOk q (λ v. (h : StoresValue) → MayStandAs outbox ledger old h → HasBasis old.scheme (h.ledgers owner) day v.taps.items v.short.items)
      by (Err why) e = tt
      by (Ok v) e = λ h may.
          let here = week_told clean sound (ap fault_in e) h may in
          let l = h.ledgers owner in
          let tells = subst (Answered (TellsWeek old.scheme day l)) e here.1 in
          record { valid = valid; dated = dated; start = here.0; closed = ap (λ start. first_open start l.closed l.retired day old.scheme.devices) (sym here.0) ∙ is_closed (open_of l day old.scheme) tells.1.0; held = tells.0; short = tells.1.2 ∙ ap (λ start. short_devices start l.closed l.retired day old.scheme.devices) here.0; taps = tells.1.1 }
