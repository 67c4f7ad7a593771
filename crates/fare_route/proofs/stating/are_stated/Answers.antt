use Rattle.std.proofs.lemmas.Grind.{common_steps}
use Rattle.fare_scheme.specs.Words.{id_at}
use Rattle.std.proofs.Common.{◌≡◌, ℕ, zero, ◌+◌, ◌<◌, ◌≤◌, List, [], ◌∷◌, length, Some, None, true, false, take, refl, sym, ap, ◌∙◌, subst, arith, suc}
use Rattle.std.specs.Prelude.{◌==◌, Ok, Option, is_some}
use Rattle.std.specs.List.{list_all}
use Rattle.std.proofs.lemmas.Bool.Decides.{nat_tests}
use Rattle.fare_scheme.proofs.Slices.{entry_at, none_left}
use Rattle.fare_record.specs.Values.{StatementValue}
use Rattle.fare_store.specs.Standing.{Reads}
use Rattle.fare_store.specs.OutboxWords.{OutboxValue, IsNextStatement}
use Rattle.fare_route.specs.Stating.{are_all_stated}
use Rattle.fare_store.proofs.Readings.{reads_none, reads_since, since_calls, calls_since, reads_say}
use Rattle.fare_route.proofs.AllStated.{here, later, missing, one_more, none_of_all}
use Rattle.fare_route.proofs.stating.are_stated.Goals as goal

take_all : {X : Type 0} (n : ℕ) (xs : List X) → length xs ≤ n → take n xs ≡ xs
take_all zero [] le = refl
take_all zero (x ∷ xs) le = absurd (omega arith)
take_all (suc n) [] le = refl
take_all (suc n) (x ∷ xs) le = ap (λ l. x ∷ l) (take_all n xs (omega arith))

pub loop-owner-init : goal.loop-owner-init
loop-owner-init g c = reads_none (g.O.Outbox.standing c.args.outbox.now) (0 < 0) _ (λ lt. omega (arith, lt)) refl

pub returns-in_default : goal.returns-in_default
returns-in_default g c =
    let d = c.args.device in
    let day = c.args.day in
    let first = g.O.Outbox.standing c.args.outbox.now in
    let before = g.O.Outbox.standing c.loop-owner.outbox in
    let now = g.O.Outbox.standing c.next_statement.new.self in
    let owner = c.owner-item.result in
    let owners = c.args.scheme.now.owners in
    let so = list_all (λ o. is_some (first.value.stated o.0 d day)) (take c.loop-owner.owner-index owners) ≡ true in
    let at : id_at owners c.loop-owner.owner-index ≡ Some owner = entry_at c.args.scheme.now.owners c.owners-owner-items.result.now c.loop-owner.owner-index c.owner-item.result c.owners-owner-items.ensures.value c.loop-owner-test.true c.owner-item.is in
    let one : Reads before now (λ n. IsNextStatement before.value.stated owner d day n) (Ok None) = subst (λ (o : Option StatementValue). Reads before now (λ n. IsNextStatement before.value.stated owner d day n) (Ok o)) c.in_default.is c.in_ok-statement.ensures in
    reads_say first now ((before.value ≡ first.value) × so × IsNextStatement before.value.stated owner d day None) (false ≡ are_all_stated c.args.scheme.now first.value d day) None
    (λ is. (is.0, sym (none_of_all (λ o. is_some (first.value.stated o d day)) owners c.loop-owner.owner-index owner at (missing first.value.stated owner d day (subst (λ (v : OutboxValue). IsNextStatement v.stated owner d day None) is.1.0 is.1.2)))))
    (reads_since first before now (0 < c.loop-owner.owner-index) so (IsNextStatement before.value.stated owner d day None) None c.loop-owner.invariant one)

pub returns-then-ne : goal.returns-then-ne
returns-then-ne g c =
    let d = c.args.device in
    let day = c.args.day in
    let first = g.O.Outbox.standing c.args.outbox.now in
    let before = g.O.Outbox.standing c.loop-owner.outbox in
    let now = g.O.Outbox.standing c.next_statement.new.self in
    let owner = c.owner-item.result in
    let found = c.in-Some.statement in
    let owners = c.args.scheme.now.owners in
    let so = list_all (λ o. is_some (first.value.stated o.0 d day)) (take c.loop-owner.owner-index owners) ≡ true in
    let at : id_at owners c.loop-owner.owner-index ≡ Some owner = entry_at c.args.scheme.now.owners c.owners-owner-items.result.now c.loop-owner.owner-index c.owner-item.result c.owners-owner-items.ensures.value c.loop-owner-test.true c.owner-item.is in
    let differ : (found.day == day) ≡ false = grind (arith, common_steps, nat_tests) in
    let one : Reads before now (λ n. IsNextStatement before.value.stated owner d day n) (Ok (Some found)) = subst (λ (o : Option StatementValue). Reads before now (λ n. IsNextStatement before.value.stated owner d day n) (Ok o)) c.in-Some.is c.in_ok-statement.ensures in
    reads_say first now ((before.value ≡ first.value) × so × IsNextStatement before.value.stated owner d day (Some found)) (false ≡ are_all_stated c.args.scheme.now first.value d day) None
    (λ is. (is.0, sym (none_of_all (λ o. is_some (first.value.stated o d day)) owners c.loop-owner.owner-index owner at (later first.value.stated owner d day found (subst (λ (v : OutboxValue). IsNextStatement v.stated owner d day (Some found)) is.1.0 is.1.2) differ))))
    (reads_since first before now (0 < c.loop-owner.owner-index) so (IsNextStatement before.value.stated owner d day (Some found)) None c.loop-owner.invariant one)

pub loop-owner-preserved : goal.loop-owner-preserved
loop-owner-preserved g c =
    let d = c.args.device in
    let day = c.args.day in
    let k = c.loop-owner.owner-index in
    let first = g.O.Outbox.standing c.args.outbox.now in
    let before = g.O.Outbox.standing c.loop-owner.outbox in
    let now = g.O.Outbox.standing c.next_statement.new.self in
    let owner = c.owner-item.result in
    let found = c.in-Some.statement in
    let owners = c.args.scheme.now.owners in
    let so = list_all (λ o. is_some (first.value.stated o.0 d day)) (take k owners) ≡ true in
    let more = list_all (λ o. is_some (first.value.stated o.0 d day)) (take (k + 1) owners) ≡ true in
    let at : id_at owners k ≡ Some owner = entry_at c.args.scheme.now.owners c.owners-owner-items.result.now c.loop-owner.owner-index c.owner-item.result c.owners-owner-items.ensures.value c.loop-owner-test.true c.owner-item.is in
    let same : found.day ≡ day = grind (arith, common_steps, nat_tests) in
    let next : suc k ≡ k + 1 = omega arith in
    let one : Reads before now (λ n. IsNextStatement before.value.stated owner d day n) (Ok (Some found)) = subst (λ (o : Option StatementValue). Reads before now (λ n. IsNextStatement before.value.stated owner d day n) (Ok o)) c.in-Some.is c.in_ok-statement.ensures in
    since_calls first now (0 < k + 1) more (reads_say first now ((before.value ≡ first.value) × so × IsNextStatement before.value.stated owner d day (Some found)) more None
    (λ is. (is.0, subst (λ n. list_all (λ o. is_some (first.value.stated o.0 d day)) (take n owners) ≡ true) next (one_more (λ o. is_some (first.value.stated o d day)) owners k owner at (here first.value.stated owner d day found (subst (λ (v : OutboxValue). IsNextStatement v.stated owner d day (Some found)) is.1.0 is.1.2) same) is.1.1)))
    (reads_since first before now (0 < c.loop-owner.owner-index) so (IsNextStatement before.value.stated owner d day (Some found)) None c.loop-owner.invariant one))

pub returns : goal.returns
returns g c =
    let d = c.args.device in
    let day = c.args.day in
    let first = g.O.Outbox.standing c.args.outbox.now in
    let last = g.O.Outbox.standing c.loop-owner.outbox in
    let owners = c.args.scheme.now.owners in
    let so = list_all (λ o. is_some (first.value.stated o.0 d day)) (take c.loop-owner.owner-index owners) ≡ true in
    let long : length owners ≤ c.loop-owner.owner-index = none_left c.args.scheme.now.owners c.owners-owner-items.result.now c.loop-owner.owner-index c.owners-owner-items.ensures.value (omega (arith, c.loop-owner-test.false)) in
    reads_say first last so (true ≡ are_all_stated c.args.scheme.now first.value d day) None
    (λ is. (is.0, sym (ap (list_all (λ o. is_some (first.value.stated o.0 d day))) (sym (take_all c.loop-owner.owner-index owners long)) ∙ is.1)))
    (calls_since first last (0 < c.loop-owner.owner-index) so (omega (arith, long, c.owners-owner-items.ensures.valid.has_owner)) c.loop-owner.invariant)
