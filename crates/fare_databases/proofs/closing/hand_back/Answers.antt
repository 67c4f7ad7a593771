use Rattle.std.proofs.Common.{◌≡◌, ◌+◌, ◌++◌, ◌∷◌, suc, [], Some, length, refl, sym, ap, ◌∙◌, subst, arith, rules, append_assoc, append-nil, inl, inr}
use Rattle.std.specs.Prelude.{slice_get}
use Rattle.std.specs.Vec.Iter.{into_iter_len}
use Rattle.std.proofs.lemmas.List.{length_push}
use Rattle.fare_world.proofs.Places.{slice_get-push_cases}
use Rattle.fare_sessions.proofs.Follow.{same_at}
use Rattle.fare_databases.specs.Closed.{IsBack, ShowsLedger}
use Rattle.fare_ledger.specs.Words.{stands}
use Rattle.fare_databases.proofs.Back.{nothing_at}
use Rattle.fare_databases.proofs.closing.hand_back.Goals as goal

pub loop-ledger-init : goal.loop-ledger-init
loop-ledger-init g c =
    let gives = c.into_iter-ledger-iterator.ensures.into_iter_gives in
    (tt, tt, refl, ([], sym (append-nil c.args.databases.now.items), search rules, λ place x d at_x at_d. absurd (nothing_at place d at_d), λ k. let same : k ≡ 0 + k = omega arith in ap (λ l. slice_get l k) gives.0 ∙ ap (slice_get c.args.ledgers.items) same))

pub loop-ledger-preserved : goal.loop-ledger-preserved
loop-ledger-preserved g c =
    let i = c.loop-ledger.invariant in
    let backs = i.3.0 in
    let are = i.3.1 in
    let count = i.3.2 in
    let each = i.3.3 in
    let others = i.3.4 in
    let ledger = c.in-Some.ledger in
    let ledgers = c.args.ledgers.items in
    let d = c.into_connection.result in
    let items = c.in-Some.ensures.steps.0 in
    let fewer : into_iter_len c.next.new.self + 1 ≡ into_iter_len c.loop-ledger.ledger-iterator = c.in-Some.ensures.steps.1 in
    let more : length (backs ++ d ∷ []) ≡ length backs + 1 = length_push backs d in
    let nil : length backs + 0 ≡ length backs = omega arith in
    let here : slice_get ledgers (length backs) ≡ Some ledger = ap (slice_get ledgers) (sym nil) ∙ (sym (others 0) ∙ ap (λ l. slice_get l 0) items) in
    let back : IsBack g.S.Store (stands g.S.Store ledger).live ledger.conn d = record { crash = c.into_connection.ensures.crash; idle = c.into_connection.ensures.idle; still_live = c.into_connection.ensures.live } in (
      tt,
      tt,
      c.push_reserved.ensures.capacity ∙ i.2,
      (
        backs ++ d ∷ [],
        c.push_reserved.ensures.items ∙ ap (λ l. l ++ d ∷ []) are ∙ append_assoc c.args.databases.now.items backs (d ∷ []),
        omega (arith, more, fewer, count),
        λ place x b at_x at_b. elim (slice_get-push_cases backs d place b at_b) [
          | inl was ↦ each place x b at_x was
          | inr new ↦ (
              let one : ledger ≡ x = same_at ledgers ledgers place x ledger at_x (ap (slice_get ledgers) new.0 ∙ here) refl in
              subst (λ (z : _ × _). IsBack g.S.Store (stands g.S.Store z.0).live z.0.conn z.1 × ShowsLedger g.S.Store z.0 z.1) (λ j. (one j, new.1 j)) (back, c.into_connection.ensures.kept))
        ],
        λ k.
            let next : length backs + suc k ≡ length (backs ++ d ∷ []) + k = omega (arith, more) in
            ap (λ l. slice_get l (suc k)) (sym items) ∙ (others (suc k) ∙ ap (slice_get ledgers) next),
      ),
    )
