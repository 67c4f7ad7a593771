use Rattle.std.proofs.Common.{◌≡◌, ◌+◌, ◌<◌, ◌++◌, ◌∷◌, suc, [], Some, length, refl, sym, ap, ◌∙◌, subst, arith, rules}
use Rattle.std.specs.Prelude.{slice_get}
use Rattle.std.specs.Vec.Iter.{into_iter_len, into_iter_items}
use Rattle.std.proofs.lemmas.List.{length_push}
use Rattle.std.proofs.lemmas.Map.Entries.{length-keys_of}
use Rattle.sqlite.specs.Held.{state}
use Rattle.fare_scheme.specs.Words.{id_at}
use Rattle.fare_scheme.proofs.Slices.{entry_at}
use Rattle.fare_ledger.specs.Words.{stands}
use Rattle.fare_databases.specs.Closed.{AreHandedBack}
use Rattle.fare_databases.specs.Holding.{AreStaying}
use Rattle.fare_databases.specs.Opened.{IsOpenedLedger}
use Rattle.fare_databases.proofs.Back.{back_again, nothing_at}
use Rattle.fare_databases.proofs.Pushed.{each_more}
use Rattle.fare_databases.proofs.opening.ledgers_in.Goals as goal

pub loop-database-init : goal.loop-database-init
loop-database-init g c =
    let gives = c.into_iter-waiting.ensures.rest in
    let none = c.requires.empty.0 in
    let nothing : length c.args.opened.items ≡ 0 = ap length none in
    let many : into_iter_len c.into_iter-waiting.result ≡ length c.args.databases.items = search rules in
    let owners = c.requires.owners in (
      omega (arith, nothing, many, owners),
      λ k x owner d e known there. absurd (nothing_at k x (ap (λ l. slice_get l k) (sym none) ∙ e)),
      λ k. let same : k ≡ length c.args.opened.items + k = omega (arith, nothing) in ap (λ l. slice_get l k) gives ∙ ap (slice_get c.args.databases.items) same,
      c.requires.room.0,
      refl,
      ap length gives ∙ sym many,
    )

pub bounds-owners-len : goal.bounds-owners-len
bounds-owners-len g c =
    let at : c.len.result ≡ length c.loop-database.ledgers.items = search rules in
    let fewer : into_iter_len c.next.new.self + 1 ≡ into_iter_len c.loop-database.waiting = c.in-Some.ensures.cases.1 in
    let count = c.loop-database.invariant.0 in
    let ids = ap length c.owners.ensures.value in
    let entries = length-keys_of c.args.scheme.now.owners in
    omega (arith, at, fewer, count, ids, entries)

pub loop-database-preserved : goal.loop-database-preserved
loop-database-preserved g c =
    let sc = c.args.scheme.now in
    let ds = c.args.databases.items in
    let xs = c.loop-database.ledgers.items in
    let i = c.loop-database.invariant in
    let ledger = c.in-Ok.ledger in
    let at : c.len.result ≡ length xs = search rules in
    let within : c.len.result < length c.owners.result.now = omega (arith, at, c.in-Some.ensures.cases.1, i.0, ap length c.owners.ensures.value, length-keys_of sc.owners) in
    let known : id_at sc.owners (length xs) ≡ Some c.index-owners-len.result = ap (id_at sc.owners) (sym at) ∙ entry_at sc.owners c.owners.result.now c.len.result c.index-owners-len.result c.owners.ensures.value within c.index-owners-len.is in
    let items = c.in-Some.ensures.items in
    let here : length xs + 0 ≡ length xs = omega arith in
    let there : slice_get ds (length xs) ≡ Some c.in-Some.database = ap (slice_get ds) (sym here) ∙ (sym (i.2 0) ∙ ap (λ l. slice_get l 0) items) in
    let pushed : c.push_reserved.new.self.items ≡ xs ++ ledger ∷ [] = c.push_reserved.ensures.items in
    let grown : length c.push_reserved.new.self.items ≡ length xs + 1 = ap length pushed ∙ length_push xs ledger in
    let fewer : into_iter_len c.next.new.self + 1 ≡ into_iter_len c.loop-database.waiting = c.in-Some.ensures.cases.1 in
    let count = i.0 in
    let long : length (into_iter_items c.loop-database.waiting) ≡ suc (length (into_iter_items c.next.new.self)) = ap length items in
    let same = i.5 in (
      omega (arith, grown, fewer, count),
      λ k x owner d e known_k there_k. each_more sc.owners ds (λ o d y. IsOpenedLedger sc o (state g.S.Store d) (stands g.S.Store y)) xs ledger c.index-owners-len.result c.in-Some.database i.1 known there c.in-Ok.ensures.opened k x owner d (ap (λ l. slice_get l k) (sym pushed) ∙ e) known_k there_k,
      λ k.
          let next : length xs + suc k ≡ length c.push_reserved.new.self.items + k = omega (arith, grown) in
          ap (λ l. slice_get l (suc k)) (sym items) ∙ (i.2 (suc k) ∙ ap (slice_get ds) next),
      (let kept = c.push_reserved.ensures.capacity in let was = i.3 in omega (arith, kept, was)),
      i.4,
      omega (arith, long, same, fewer),
    )

pub returns-in-Err-clause-stay : goal.returns-in-Err-clause-stay
returns-in-Err-clause-stay g c =
    let sc = c.args.scheme.now in
    let ds = c.args.databases.items in
    let xs = c.loop-database.ledgers.items in
    let i = c.loop-database.invariant in
    let at : c.len.result ≡ length xs = search rules in
    let within : c.len.result < length c.owners.result.now = omega (arith, at, c.in-Some.ensures.cases.1, i.0, ap length c.owners.ensures.value, length-keys_of sc.owners) in
    let known : id_at sc.owners (length xs) ≡ Some c.index-owners-len.result = ap (id_at sc.owners) (sym at) ∙ entry_at sc.owners c.owners.result.now c.len.result c.index-owners-len.result c.owners.ensures.value within c.index-owners-len.is in
    let items = c.in-Some.ensures.items in
    let here : length xs + 0 ≡ length xs = omega arith in
    let there : slice_get ds (length xs) ≡ Some c.in-Some.database = ap (slice_get ds) (sym here) ∙ (sym (i.2 0) ∙ ap (λ l. slice_get l 0) items) in
    let rest = into_iter_items c.next.new.self in
    let long : length (into_iter_items c.loop-database.waiting) ≡ suc (length rest) = ap length items in
    let same = i.5 in
    let count = i.0 in
    let owners = c.requires.owners in
    let many : length ds ≡ length xs + suc (length rest) = omega (arith, long, same, count, owners) in
    let empty = ap (λ r. r.items) i.4 ∙ c.requires.empty.1 in
    let after = c.hand_back.new.databases.items in
    let back = subst (λ before. AreHandedBack g.S.Store xs before after) empty c.hand_back.ensures.back in
    let whole = c.hand_on.ensures ∙ ap (λ l. l ++ rest) c.push_reserved-in-Err.ensures.items in
    subst (λ l. AreStaying (λ d. state g.S.Store d) sc ds l) (sym whole)
    (back_again g.S.Store sc (record { settled = g.met.S.Store.settled; survives = g.met.S.Store.survives }) ds xs c.index-owners-len.result c.in-Some.database c.in-Err.database rest after i.1 known there c.in-Err.ensures.stays (λ k. ap (λ l. slice_get l (suc k)) (sym items) ∙ i.2 (suc k)) many back)

pub returns-clause-opened : goal.returns-clause-opened
returns-clause-opened g c =
    let i = c.loop-database.invariant in
    let ended : into_iter_len c.loop-database.waiting ≡ 0 = c.in_default.ensures.cases.0 in
    let count = i.0 in
    record { count = omega (arith, ended, count); each = i.1 }
