-- How much a list of sessions added to stores that are live.
use Rattle.std.proofs.Common.{◌≡◌, ℕ, zero, suc, ◌+◌, List, [], ◌∷◌, ◌++◌, length, Some, true, refl, sym, ap, ◌∙◌, subst, arith, inl, inr}
use Rattle.std.specs.Prelude.{◌≢◌, min, slice_get, Option, Vec, is_some, if◌then◌else◌}
use Rattle.std.specs.Global.{Global}
use Rattle.fare_record.specs.declared.item.Item.{Item}
use Rattle.fare_record.specs.declared.item.Item.TheVariants as item
use Rattle.fare_scheme.specs.Facts.{IsScheme}
use Rattle.fare_scheme.specs.Values.{SchemeValue}
use Rattle.fare_scheme.specs.Words.{station_of}
use Rattle.fare_source.specs.Talking.{Talk}
use Rattle.fare_store.specs.Standing.{Standing, IsSound}
use Rattle.fare_store.specs.OutboxWords.{OutboxValue}
use Rattle.fare_store.specs.LedgerWords.{LedgerValue}
use Rattle.fare_world.proofs.Known.{station_where_placed}
use Rattle.fare_history.specs.Gathering.{Entry, is_new, storing, items_of, accepted_by}
use Rattle.fare_history.specs.Serving.{device_of, IsOfDevice, given, in_hand, pruned_to, pruned_to_all}
use Rattle.fare_history.proofs.Entries.{all-left, all-weaken}
use Rattle.fare_session.specs.Taking.{is_added, added_by}
use Rattle.fare_collect.specs.declared.station.Station.{Station}
use Rattle.fare_collect.specs.Collected.{new_items}
use Rattle.fare_agreement.specs.Totals.{had_by, held_by, stored_new, is_taken_new, taken_new}
use Rattle.fare_agreement.proofs.Sums.{entries_had, items_held}
use Rattle.fare_sessions.specs.declared.hub.Hub.{Hub}
use Rattle.fare_sessions.specs.declared.session.Session.{Session}
use Rattle.fare_sessions.specs.declared.session.Session.TheVariants.{Collect, Serve}
use Rattle.fare_sessions.specs.Course.{Counts, Tally}
use Rattle.fare_sessions.specs.Stores.{AreClean, AreLive, AreSound, held_by_all}
use Rattle.fare_sessions.specs.Running.{HasCollected, HasServed, HasRun, HaveRun}
use Rattle.fare_sessions.proofs.Follow.{fitting, fit, ran_follow, run_scheme, run_sound, live_back}

-- COUNTS
new_items_are : (x : OutboxValue) (es : List Entry) → new_items x es ≡ stored_new x es
new_items_are x [] = refl
new_items_are x (e ∷ es) = ap (λ n. (if is_new x e.item then 1 else 0) + n) (new_items_are (storing x e.item) es)

one_added : (l : LedgerValue) (i : Item) → is_added l i ≡ is_taken_new l i
one_added l (item.Tap r) = refl
one_added l (item.Stated v) = refl

added_are : (l : LedgerValue) (items : List Item) → added_by l items ≡ taken_new l items
added_are l [] = refl
added_are l (i ∷ is) = λ k. (if one_added l i k then 1 else 0) + added_are (given l i) is k

had_pruned : (sc : SchemeValue) (x : OutboxValue) (owner : ℕ) (l : LedgerValue) (ds : List ℕ) → had_by sc (pruned_to_all x owner l ds) ≡ had_by sc x
had_pruned sc x owner l [] = refl
had_pruned sc x owner l (d ∷ ds) = had_pruned sc (pruned_to x owner l d) owner l ds

device_known : (sc : SchemeValue) (device : ℕ) → is_some (station_of sc device) ≡ true → IsOfDevice sc device
device_known sc device has = station_where_placed sc device ∙ has

-- so much more, of what was counted up to the greatest number
abbrev pub Grew : ℕ → ℕ → ℕ → Type 0
Grew old new counted = (more : ℕ) × (new ≡ old + more) × (min counted 18446744073709551615 ≡ min more 18446744073709551615)

grew_join : (a b c m n : ℕ) → Grew a b m → Grew b c n → Grew a c (m + n)
grew_join a b c m n f g =
    let f1 = f.1 in
    let f2 = f.2 in
    let g1 = g.1 in
    let g2 = g.2 in
    (f.0 + g.0, omega (arith, f1, g1), omega (arith, f2, g2))

-- SUMS
module _ {L : Type 0} (ledger : L → Standing LedgerValue) (sc : SchemeValue) where
  same_sum : (xs ys : List L) → length ys ≡ length xs → ((place : ℕ) → slice_get ys place ≡ slice_get xs place) → held_by_all ledger sc ys ≡ held_by_all ledger sc xs
  same_sum [] [] len same = refl
  same_sum [] (y ∷ ys) len same = absurd (omega (arith, len))
  same_sum (x ∷ xs) [] len same = absurd (omega (arith, len))
  same_sum (x ∷ xs) (y ∷ ys) len same =
      let both : ◌≡◌ {A = Option L} (Some y) (Some x) = same 0 in
      let first : y ≡ x = cc in
      let rest = same_sum xs ys (omega (arith, len)) (λ place. same (suc place)) in
      λ i. held_by sc (ledger (first i)).value + rest i

  -- ledgers of which one holds so much more
  held_all : (xs ys : List L) (place : ℕ) (x y : L) (more : ℕ) → slice_get xs place ≡ Some x → slice_get ys place ≡ Some y → length ys ≡ length xs → ((other : ℕ) → other ≢ place → slice_get ys other ≡ slice_get xs other)
      → held_by sc (ledger y).value ≡ held_by sc (ledger x).value + more → held_by_all ledger sc ys ≡ held_by_all ledger sc xs + more
  held_all [] ys place x y more at_x at_y len others is = absurd (cc)
  held_all (a ∷ xs) [] place x y more at_x at_y len others is = absurd (omega (arith, len))
  held_all (a ∷ xs) (b ∷ ys) zero x y more at_x at_y len others is =
      let old : a ≡ x = cc in
      let new : b ≡ y = cc in
      let rest = same_sum xs ys (omega (arith, len)) (λ place. others (suc place) (λ e. absurd (omega (arith, e)))) in
      let head_old = ap (λ z. held_by sc (ledger z).value) old in
      let head_new = ap (λ z. held_by sc (ledger z).value) new in
      omega (arith, rest, head_old, head_new, is)
  held_all (a ∷ xs) (b ∷ ys) (suc place) x y more at_x at_y len others is =
      let both : ◌≡◌ {A = Option L} (Some b) (Some a) = others 0 (λ e. absurd (omega (arith, e))) in
      let same : b ≡ a = cc in
      let head = ap (λ z. held_by sc (ledger z).value) same in
      let rest = held_all xs ys place x y more at_x at_y (omega (arith, len)) (λ other apart. others (suc other) (λ e. apart (omega (arith, e)))) is in
      omega (arith, head, rest)

module _ {S O L : Type 0} (talks : S → Talk) (outbox : O → Standing OutboxValue) (ledger : L → Standing LedgerValue) (sound_outbox : (x : O) → IsSound (outbox x)) (sound_ledger : (x : L) → IsSound (ledger x)) where
  pub live_is_clean : (hub : Hub O L) → AreLive outbox ledger hub → AreClean outbox ledger hub
  live_is_clean hub live = record { outbox_is = (sound_outbox hub.outbox).clean live.outbox_is; ledgers_are = λ place x at. (sound_ledger x).clean (live.ledgers_are place x at) }

  -- ONE SESSION
  abbrev had : SchemeValue → Hub O L → ℕ
  had sc hub = had_by sc (outbox hub.outbox).value

  abbrev held : SchemeValue → Hub O L → ℕ
  held sc hub = held_by_all ledger sc hub.ledgers.items

  collect_stored : (old new : Hub O L) (before after : List (Station S)) (c : Counts) → HasCollected talks outbox old new before after c → IsScheme old.scheme → AreLive outbox ledger new → AreLive outbox ledger old → AreSound outbox ledger old → Grew (had old.scheme old) (had old.scheme new) c.stored
  collect_stored old new before after c h valid live live_before sound = elim h.came [
    | inr is ↦ (0, ap (λ x. had_by old.scheme (outbox x).value) is.0 ∙ omega arith, ap (λ n. min n 18446744073709551615) is.3)
    | inl is ↦ (
        let fits = fitting talks outbox ledger old new (live_is_clean new live) sound in
        let x = (outbox old.outbox).value in
        let says = is.1.says fits x (inl (live_before.outbox_is, refl)) in
        let g = is.1.g in
        let known = all-left (λ i. IsOfDevice old.scheme (device_of i)) (items_of g.entries) (in_hand g.hand ++ g.inbox) (all-weaken (λ i. is_some (station_of old.scheme (device_of i)) ≡ true) (λ i. IsOfDevice old.scheme (device_of i)) (λ i has. device_known old.scheme (device_of i) has) (accepted_by g) says.known) in
        let same = new_items_are x g.entries in
        (stored_new x g.entries, ap (had_by old.scheme) (is.1.holds fits live.outbox_is) ∙ entries_had old.scheme valid x g.entries known, says.stored ∙ ap (λ n. min n 18446744073709551615) same)
        )
  ]

  serve_stored : (old new : Hub O L) (owner : ℕ) (c : Counts) → HasServed outbox ledger old new owner c → AreLive outbox ledger new → AreSound outbox ledger old → Grew (had old.scheme old) (had old.scheme new) c.stored
  serve_stored old new owner c h live sound =
      let fits = fit talks outbox ledger old new owner c h (live_is_clean new live) sound in
      let own = live.ledgers_are h.one.place h.one.own_new h.one.is in
      let is = ap (had_by old.scheme) (h.served.outbox_holds fits own live.outbox_is) ∙ had_pruned old.scheme (outbox old.outbox).value owner (ledger h.one.own_new).value h.served.v.pruned in
      (0, is ∙ omega arith, ap (λ n. min n 18446744073709551615) h.stored)

  serve_taken : (old new : Hub O L) (owner : ℕ) (c : Counts) → HasServed outbox ledger old new owner c → IsScheme old.scheme → AreLive outbox ledger new → AreLive outbox ledger old → AreSound outbox ledger old → Grew (held old.scheme old) (held old.scheme new) c.taken
  serve_taken old new owner c h valid live live_before sound =
      let fits = fit talks outbox ledger old new owner c h (live_is_clean new live) sound in
      let own = live.ledgers_are h.one.place h.one.own_new h.one.is in
      let x = (outbox old.outbox).value in
      let l = (ledger h.one.own_old).value in
      let v = h.served.v in
      let m = h.served.ledger_holds fits own in
      let says = h.served.says fits x l (inl (live_before.outbox_is, refl)) (inl (live_before.ledgers_are h.one.place h.one.own_old h.one.was, refl)) in
      let known = all-left (λ i. IsOfDevice old.scheme (device_of i)) v.taken (in_hand v.hand ++ v.queue) says.service.known in
      let grew = ap (held_by old.scheme) m ∙ items_held old.scheme valid l v.taken known h.served.dated in
      let count = says.taken in
      let same = added_are l v.taken in
      let counted = h.taken in
      let n = taken_new l v.taken in
      let told : c.taken ≡ min n 18446744073709551615 = counted ∙ (count ∙ ap (λ k. min k 18446744073709551615) same) in
      (n, held_all ledger old.scheme old.ledgers.items new.ledgers.items h.one.place h.one.own_old h.one.own_new n h.one.was h.one.is h.one.count h.one.others grew, omega (arith, told))

  ran_stored : (old new : Hub O L) (s r : Session S) (c : Counts) → HasRun talks outbox ledger old new s r c → IsScheme old.scheme → AreLive outbox ledger new → AreSound outbox ledger old → Grew (had old.scheme old) (had old.scheme new) c.stored
  ran_stored old new (Collect before) (Collect after) c h valid live sound = collect_stored old new before.items after.items c h valid live (live_back outbox ledger old new (ran_follow talks outbox ledger old new (Collect before) (Collect after) c h) live) sound
  ran_stored old new (Collect before) (Serve owner) c h valid live sound = absurd h
  ran_stored old new (Serve owner) (Collect after) c h valid live sound = absurd h
  ran_stored old new (Serve owner) (Serve other) c h valid live sound = serve_stored old new owner c h.1 live sound

  ran_taken : (old new : Hub O L) (s r : Session S) (c : Counts) → HasRun talks outbox ledger old new s r c → IsScheme old.scheme → AreLive outbox ledger new → AreSound outbox ledger old → Grew (held old.scheme old) (held old.scheme new) c.taken
  ran_taken old new (Collect before) (Collect after) c h valid live sound = (0, ap (λ (v : Vec L Global). held_by_all ledger old.scheme v.items) h.ledgers ∙ omega arith, ap (λ n. min n 18446744073709551615) h.taken)
  ran_taken old new (Collect before) (Serve owner) c h valid live sound = absurd h
  ran_taken old new (Serve owner) (Collect after) c h valid live sound = absurd h
  ran_taken old new (Serve owner) (Serve other) c h valid live sound = serve_taken old new owner c h.1 valid live (live_back outbox ledger old new (ran_follow talks outbox ledger old new (Serve owner) (Serve other) c h) live) sound

  -- A LIST OF SESSIONS
  pub run_stored : (start : Hub O L) (olds news : List (Session S)) (n : ℕ) (now : Hub O L) (t : Tally) → HaveRun talks outbox ledger start olds news n now t → IsScheme start.scheme → AreLive outbox ledger now → AreSound outbox ledger start → Grew (had start.scheme start) (had start.scheme now) t.stored
  run_stored start olds news zero now t h valid live sound = (0, ap (had start.scheme) h.0 ∙ omega arith, ap (λ (u : Tally). min u.stored 18446744073709551615) h.1)
  run_stored start olds news (suc n) now t h valid live sound =
      let f = ran_follow talks outbox ledger h.0 now h.4.before h.4.after h.2 h.4.ran in
      let before = live_back outbox ledger h.0 now f live in
      let same = run_scheme talks outbox ledger start olds news n h.0 h.1 h.3 in
      let first = run_stored start olds news n h.0 h.1 h.3 valid before sound in
      let one = ran_stored h.0 now h.4.before h.4.after h.2 h.4.ran (subst IsScheme (sym same) valid) live (run_sound talks outbox ledger start olds news n h.0 h.1 h.3 (live_is_clean h.0 before) sound) in
      subst (λ (u : Tally). Grew (had start.scheme start) (had start.scheme now) u.stored) (sym h.5)
      (grew_join (had start.scheme start) (had start.scheme h.0) (had start.scheme now) h.1.stored h.2.stored first (subst (λ sc. Grew (had sc h.0) (had sc now) h.2.stored) same one))

  pub run_taken : (start : Hub O L) (olds news : List (Session S)) (n : ℕ) (now : Hub O L) (t : Tally) → HaveRun talks outbox ledger start olds news n now t → IsScheme start.scheme → AreLive outbox ledger now → AreSound outbox ledger start → Grew (held start.scheme start) (held start.scheme now) t.taken
  run_taken start olds news zero now t h valid live sound = (0, ap (held start.scheme) h.0 ∙ omega arith, ap (λ (u : Tally). min u.taken 18446744073709551615) h.1)
  run_taken start olds news (suc n) now t h valid live sound =
      let f = ran_follow talks outbox ledger h.0 now h.4.before h.4.after h.2 h.4.ran in
      let before = live_back outbox ledger h.0 now f live in
      let same = run_scheme talks outbox ledger start olds news n h.0 h.1 h.3 in
      let sound_before = run_sound talks outbox ledger start olds news n h.0 h.1 h.3 (live_is_clean h.0 before) sound in
      let first = run_taken start olds news n h.0 h.1 h.3 valid before sound in
      let one = ran_taken h.0 now h.4.before h.4.after h.2 h.4.ran (subst IsScheme (sym same) valid) live sound_before in
      subst (λ (u : Tally). Grew (held start.scheme start) (held start.scheme now) u.taken) (sym h.5)
      (grew_join (held start.scheme start) (held start.scheme h.0) (held start.scheme now) h.1.taken h.2.taken first (subst (λ sc. Grew (held sc h.0) (held sc now) h.2.taken) same one))
