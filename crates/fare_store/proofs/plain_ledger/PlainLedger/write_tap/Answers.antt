use Rattle.std.proofs.Common.{◌≡◌, ℕ, ◌+◌, ◌-◌, ◌∷◌, ◌++◌, [], nat_eq, length, List, Some, refl, sym, ap, subst, ◌∙◌, arith}
use Rattle.std.specs.HashMap.{get}
use Rattle.fare_record.specs.Values.{TapValue, RecordValue}
use Rattle.fare_store.specs.Tables.{put}
use Rattle.fare_store.specs.TapPlaces.{Mark, items_of, marks_of, gone_in, IsBegunAt}
use Rattle.fare_store.proofs.LettingGo.{length_filled}
use Rattle.fare_store.proofs.Taps.{IsNoted, mark_of, kept_same, kept_tap}
use Rattle.fare_store.proofs.plain_ledger.PlainLedger.write_tap.Goals as goal

pub invariant_of-self : goal.invariant_of-self
invariant_of-self c =
    let l = c.args.self.now in
    let k = kept_same l.begun (λ d. gone_in (get nat_eq l.gone d)) (λ d. items_of (get nat_eq l.taken d)) (λ d. items_of (get nat_eq c.make_room.new.taken d)) (λ d. marks_of (get nat_eq l.days d)) (λ d. marks_of (get nat_eq l.days d)) c.make_room.ensures.same (λ d. refl)
    (record { numbered = l.numbered; marked = l.marked; begun_at = l.begun_at }) in
    record { numbered = k.numbered; marked = k.marked; let_go = l.let_go; begun_at = k.begun_at; ends = l.ends }

pub invariant_of-self-in-Break-branch-2 : goal.invariant_of-self-in-Break-branch-2
invariant_of-self-in-Break-branch-2 c =
    let l = c.args.self.now in
    let k = kept_same l.begun (λ d. gone_in (get nat_eq l.gone d)) (λ d. items_of (get nat_eq l.taken d)) (λ d. items_of (get nat_eq c.make_room.new.taken d)) (λ d. marks_of (get nat_eq l.days d)) (λ d. marks_of (get nat_eq c.note.new.days d)) c.make_room.ensures.same c.in_err-note.ensures.err
    (record { numbered = l.numbered; marked = l.marked; begun_at = l.begun_at }) in
    record { numbered = k.numbered; marked = k.marked; let_go = l.let_go; begun_at = k.begun_at; ends = l.ends }

pub invariant_of-self-2 : goal.invariant_of-self-2
invariant_of-self-2 c =
    let l = c.args.self.now in
    let row = c.args.row.now in
    let gone : ℕ → ℕ = λ d. gone_in (get nat_eq l.gone d) in
    let taken : ℕ → List RecordValue = λ d. items_of (get nat_eq c.make_room.new.taken d) in
    let marks : ℕ → List Mark = λ d. marks_of (get nat_eq l.days d) in
    let noted : ℕ → List Mark = λ d. marks_of (get nat_eq c.note.new.days d) in
    let at_mid = kept_same l.begun gone (λ d. items_of (get nat_eq l.taken d)) taken marks marks c.make_room.ensures.same (λ d. refl) (record { numbered = l.numbered; marked = l.marked; begun_at = l.begun_at }) in
    let next : row.lane ≡ gone row.device + length (taken row.device) + 1 = c.requires.next ∙ ap (λ n. n + 1) (length_filled (gone row.device) (items_of (get nat_eq l.taken row.device))) ∙ ap (λ (ts : List RecordValue). gone row.device + length ts + 1) (sym (c.make_room.ensures.same row.device)) in
    let day : c.day.result ≡ row.tap.day = c.day.ensures ∙ ap (λ (t : TapValue). t.day) c.tap.ensures in
    let place : c.lane.result - 1 ≡ gone row.device + length (taken row.device) = omega (arith, c.lane.ensures.value, next) in
    let notes : IsNoted row (mark_of row gone taken) marks noted = λ q. c.in_ok-note.ensures.ok q ∙ (λ i. put marks (day i) (marks (day i) ++ (c.device-device.ensures i, place i) ∷ []) q) in
    let k = kept_tap row l.begun gone taken (λ d. items_of (get nat_eq c.append.new.taken d)) marks noted c.append.ensures.appended next notes at_mid in
    record { numbered = k.numbered; marked = k.marked; let_go = l.let_go; begun_at = subst (λ d. IsBegunAt (Some d) gone (λ e. items_of (get nat_eq c.append.new.taken e))) (sym c.device-device.ensures) k.begun_at; ends = l.ends }
