-- One device after the other: what each comes to by itself, and all of them together.
use Rattle.std.proofs.Common.{◌≡◌, ◌≢◌, ℕ, zero, suc, ◌<◌, Some, None, Bool, true, false, List, [], ◌∷◌, ◌++◌, length, refl, sym, ap, ◌∙◌, subst, arith}
use Rattle.std.specs.Prelude.{slice_get, nat_eq, cond, Option, is_some, unwrap_or, Result, Ok}
use Rattle.std.specs.List.{AllByRecursion}
use Rattle.std.proofs.lemmas.Bool.Decides.{nat_tests}
use Rattle.std.proofs.lemmas.List.{append-nil, append_assoc}
use Rattle.std.proofs.lemmas.Option.{same_Some}
use Rattle.fare_record.specs.declared.item.Item.{Item}
use Rattle.fare_route.specs.declared.forwarder.Forwarder.{Forwarder}
use Rattle.fare_route.specs.Cursors.{undone}
use Rattle.fare_route.specs.Routing.{cursor_of, changed}
use Rattle.fare_lane_queue.specs.Lane.{base_of, lanes_of}
use Rattle.fare_store.specs.Standing.{Standing}
use Rattle.fare_store.specs.OutboxWords.{OutboxValue}
use Rattle.fare_session.specs.declared.fault.SessionFault.{SessionFault}
use Rattle.fare_history.proofs.Entries.{all-weaken}
use Rattle.fare_history.specs.Serving.{Cursors, device_of, moved_by_all, AreNextItems}
use Rattle.fare_session.specs.Stores.{stored_fault, HasStood}
use Rattle.fare_session.specs.Forwarding.{IsBased, HasCursor, HasCursors, IsAsFar, AreBases, Skips, AreApart, ForwardedIf, Forwarded, IsNextDue, Moves, IsDeviceForwarded, fault_due}
use Rattle.fare_session.proofs.StoreCalls.{stays_then, stood_first, stood_then, stood_value}
use Rattle.fare_session.proofs.Services.{moved_by_all-append, next_items-append, all-append}
use Rattle.fare_session.proofs.Forwards.{far_moved, far_stays, far_undone, some_changed, due_device, lanes_others, based_at, begun_far}

-- A LIST OF ONE BASE
pub only : (p : ℕ × ℕ) (d : ℕ) → IsBased (p ∷ []) d → d ≡ p.0
only p d based = by (nat_eq d p.0) refl
  where
    by : (t : Bool) → nat_eq d p.0 ≡ t → d ≡ p.0
    by true e = grind (arith, nat_tests)
    by false e = absurd (let none = sym (ap (λ (q : Bool). is_some (cond q (Some p.1) None)) e) ∙ based in cc)

itself : (n : ℕ) → nat_eq n n ≡ true
itself n = grind (arith, nat_tests)

pub alone : (p : ℕ × ℕ) → IsBased (p ∷ []) p.0
alone p = ap (λ (q : Bool). is_some (cond q (Some p.1) None)) (itself p.0)

pub base_alone : (p : ℕ × ℕ) → base_of (p ∷ []) p.0 ≡ p.1
base_alone p = ap (λ (q : Bool). unwrap_or (cond q (Some p.1) None) 0) (itself p.0)

pub at_alone : (p : ℕ × ℕ) (k : ℕ) (q : ℕ × ℕ) → slice_get (p ∷ []) k ≡ Some q → q.0 ≡ p.0
at_alone p zero q at = ap (λ (z : ℕ × ℕ). z.0) (sym (same_Some p q at))
at_alone p (suc k) q at = absurd (cc)

pub among : (bases : List (ℕ × ℕ)) (p : ℕ × ℕ) (d : ℕ) → IsBased bases p.0 → IsBased (p ∷ []) d → IsBased bases d
among bases p d based is = subst (IsBased bases) (sym (only p d is)) based

pub knows : (bases : List (ℕ × ℕ)) (p : ℕ × ℕ) (f : Forwarder) → IsBased bases p.0 → HasCursors bases f → HasCursors (p ∷ []) f
knows bases p f based has d is = has d (among bases p d based is)

pub far_of : (bases : List (ℕ × ℕ)) (p : ℕ × ℕ) (f : Forwarder) (c : Cursors) → IsBased bases p.0 → IsAsFar bases f c → IsAsFar (p ∷ []) f c
far_of bases p f c based far = record { at = λ d is. far.at d (among bases p d based is) }

skips_among : (bases : List (ℕ × ℕ)) (p : ℕ × ℕ) (owner : ℕ) (x : OutboxValue) (c : Cursors) → IsBased bases p.0 → Skips (p ∷ []) owner x c → Skips bases owner x c
skips_among bases p owner x c based s = record { device = s.device; row = s.row; known = among bases p s.device based s.known; next = s.next; skips = s.skips }

-- HOW FAR THE CURSORS MOVE
pub moves_none : (f : Forwarder) → Moves f f [] None
moves_none f = record { known = λ d is. is; far = λ e bases c far. far }

module _ (b c : Standing OutboxValue) (f g h : Forwarder) (items : List Item) (device reached : ℕ) (m : Moves f g items None) where
  pub moves_more : (i : Item) → IsNextDue b c g h device reached (Ok (Some i)) → Moves f h (items ++ i ∷ []) None
  moves_more i nd = record {
    known = λ d is. nd.cursors d (m.known d is);
    far = λ e bases c far. subst (IsAsFar bases h) (sym (moved_by_all-append c items (i ∷ []))) (far_moved bases g h (moved_by_all c items) i device (due_device i device reached nd.found.1) nd.found.2 (m.far refl bases c far));
  }

  pub moves_idle : IsNextDue b c g h device reached (Ok None) → Moves f h items None
  moves_idle nd = record {
    known = λ d is. nd.cursors d (m.known d is);
    far = λ e bases c far. far_stays bases g h (moved_by_all c items) device nd.found.2 (m.far refl bases c far);
  }

  pub moves_back : (i : Item) (z : Forwarder) → IsNextDue b c g h device reached (Ok (Some i)) → ((other : ℕ) → cursor_of z other ≡ changed undone (cursor_of h) device other) → Moves f z items None
  moves_back i z nd back = record {
    known = λ d is. ap is_some (back d) ∙ some_changed undone (cursor_of h) device d ∙ nd.cursors d (m.known d is);
    far = λ e bases c far. far_undone bases g h z (moved_by_all c items) i device nd.found.2 back (m.far refl bases c far);
  }

  pub moves_failed : (e : SessionFault) → ((other : ℕ) → HasCursor g other → HasCursor h other) → Moves f h items (Some e)
  moves_failed e kept = record { known = λ d is. kept d (m.known d is); far = λ is. absurd (cc) }

-- ONE DEVICE MORE
module _ (P Q : Cursors → Type 0) (bases : List (ℕ × ℕ)) (p : ℕ × ℕ) (a b c : Standing OutboxValue) (f g h : Forwarder) (items more : List Item) (fault : Option SessionFault) (based : IsBased bases p.0) (fw : ForwardedIf P bases a b f g items None) (of : ForwardedIf Q (p ∷ []) b c g h more fault) where
  stood_before : HasStood a c → HasStood a b
  stood_before k = stood_first a b c (stored_fault fault) b.value (λ w. w ≡ b.value) of.stays k

  stood_behind : HasStood a c → HasStood b c
  stood_behind k = stood_then a b c (stored_fault fault) b.value a.value (λ w. w ≡ b.value) (λ w. w ≡ a.value) fw.stays of.stays k

  same : HasStood a c → b.value ≡ a.value
  same k = stood_value a b a.value (λ w. w ≡ a.value) fw.stays (stood_before k)

  begin : (l : List Item) → (0 < length l → b.clean → a.live) → 0 < length (l ++ more) → c.clean → a.live
  begin [] say lt clean = fw.stays.calls.live (of.begun lt clean)
  begin (x ∷ xs) say lt clean = say (omega arith) (of.stays.calls.clean clean)

  pub forwarded_then : ((d : Cursors) → IsAsFar bases f d → P d → HasStood a c → Q (moved_by_all d items)) → Moves g h more fault → ForwardedIf P bases a c f h (items ++ more) fault
  forwarded_then meets moves = record {
    stays = stays_then a b c (stored_fault fault) fw.stays of.stays;
    owners = of.owners;
    begun = begin items fw.begun;
    skipped = λ is clean. fw.stays.calls.live (of.skipped is clean);
    owner = of.owner ∙ fw.owner;
    cursors = λ d is. moves.known d (fw.cursors d is);
    known = all-append (λ j. IsBased bases (device_of j)) items more fw.known (all-weaken (λ j. IsBased (p ∷ []) (device_of j)) (λ j. IsBased bases (device_of j)) (λ j is. among bases p (device_of j) based is) more of.known);
    forwards = λ d far is.
        let before = fw.forwards d far is in
        let at = moved_by_all d items in
        let then = λ (k : HasStood a c). of.forwards at (far_of bases p g at based (before.at refl)) (meets d far is k) in
        record {
          next = λ k. next_items-append f.owner a.value d items more (before.next (stood_before k)) (subst (λ (z : OutboxValue × ℕ). AreNextItems z.1 z.0 at more) (λ j. (same k j, fw.owner j)) ((then k).next (stood_behind k)));
          at = λ e. subst (IsAsFar bases h) (sym (moved_by_all-append d items more)) (moves.far e bases at (before.at refl));
          refused = λ e k. subst (Skips bases f.owner a.value) (sym (moved_by_all-append d items more))
              (subst (λ (z : OutboxValue × ℕ). Skips bases z.1 z.0 (moved_by_all at more)) (λ j. (same k j, fw.owner j)) (skips_among bases p g.owner b.value (moved_by_all at more) based ((then k).refused e (stood_behind k))));
        };
  }

-- A THREAD'S
-- another device's lane is where it was
pub lanes_apart : (p : ℕ × ℕ) (sent items : List Item) (device : ℕ) → p.0 ≢ device → AllByRecursion (λ i. IsBased (p ∷ []) (device_of i)) items → lanes_of device (sent ++ items) ≡ lanes_of device sent
lanes_apart p sent [] device apart all = ap (lanes_of device) (append-nil sent)
lanes_apart p sent (i ∷ items) device apart all =
    ap (lanes_of device) (sym (append_assoc sent (i ∷ []) items)) ∙ lanes_apart p (sent ++ i ∷ []) items device apart all.1 ∙ lanes_others sent i device (λ is. apart (sym (only p (device_of i) all.0) ∙ is))

pub thread_then : (bases : List (ℕ × ℕ)) (k : ℕ) (p : ℕ × ℕ) (a b c : Standing OutboxValue) (f g h : Forwarder) (before after : List Item) (result : Result Bool SessionFault) → AreApart bases → slice_get bases k ≡ Some p → lanes_of p.0 before ≡ [] → Forwarded bases a b f g before None → IsDeviceForwarded p b c g h before after result → Forwarded bases a c f h after (fault_due result)
thread_then bases k p a b c f g h before after result apart at none fw of = subst (λ (l : List Item). Forwarded bases a c f h l (fault_due result)) (sym of.sent)
    (forwarded_then (AreBases bases) (AreBases (p ∷ [])) bases p a b c f g h before of.items (fault_due result) (based_at bases k p apart at) fw of.forwarded
    (λ d far bs k'. record { base = λ e is. ap (moved_by_all d before).lane (only p e is) ∙ begun_far bases before k p d apart at none bs ∙ sym (base_alone p) ∙ ap (base_of (p ∷ [])) (sym (only p e is)) }) of.moves)
