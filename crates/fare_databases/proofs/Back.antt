-- Databases that come back where the stores of a scheme can't be opened.
use Rattle.std.proofs.Common.{◌≡◌, ◌+◌, ◌++◌, ◌∷◌, ℕ, zero, suc, List, [], Some, length, refl, sym, ap, ◌∙◌, subst, arith, inl, inr, append_assoc, length-append}
use Rattle.std.specs.Prelude.{◌⊎◌, Option, slice_get}
use Rattle.std.proofs.lemmas.Option.{slice_get_within}
use Rattle.sqlite_trees.specs.declared.store.Store.{Ghosts}
use Rattle.sqlite.specs.Held.{Held, state}
use Rattle.sqlite.specs.State.{State}
use Rattle.fare_scheme.specs.Values.{SchemeValue}
use Rattle.fare_scheme.specs.Words.{id_at}
use Rattle.fare_ledger.specs.Words as ledger_words
use Rattle.fare_ledger.specs.declared.tables.SqlLedger.{SqlLedger}
use Rattle.fare_history.proofs.Entries.{element_at}
use Rattle.fare_sessions.proofs.Follow.{same_at}
use Rattle.fare_databases.specs.Closed.{AreHandedBack}
use Rattle.fare_databases.specs.Holding.{AreStaying, HoldsOutbox, StaysLedger, StaysOutbox}
use Rattle.fare_databases.specs.Opened.{IsOpenedLedger}
use Rattle.fare_databases.proofs.Held.{ledger_back_stays}
use Rattle.fare_databases.proofs.Looks.{outbox_self}
use Rattle.fare_databases.proofs.Sound.{IsLawfulStore}
use Rattle.fare_databases.proofs.Staying.{ledger_kept}

pub cases_append : {X : Type 0} (xs ys : List X) (k : ℕ) (x : X) → slice_get (xs ++ ys) k ≡ Some x → (slice_get xs k ≡ Some x) ⊎ ((j : ℕ) × (k ≡ length xs + j) × (slice_get ys j ≡ Some x))
cases_append [] ys k x at = inr (k, omega arith, at)
cases_append (z ∷ xs) ys zero x at = inl at
cases_append (z ∷ xs) ys (suc k) x at = elim (cases_append xs ys k x at) [
  | inl here ↦ inl here
  | inr there ↦ (let e = there.1 in inr (there.0, omega (arith, e), there.2))
]

pub nothing_at : {X : Type 0} (k : ℕ) (x : X) → slice_get {X = X} [] k ≡ Some x → ⊥
nothing_at zero x e = absurd (cc)
nothing_at (suc k) x e = absurd (cc)

pub outbox_kept : (s : State) → StaysOutbox s s
outbox_kept s clean trees shows v holds left leaves = (v, subst (λ t. HoldsOutbox t v) (sym (shows.left left leaves)) holds, outbox_self v)

module _ {S : Type 0} (g : Ghosts S) (sc : SchemeValue) where
  pub all_kept : (ds : List (Held S)) → AreStaying (state g) sc ds ds
  all_kept ds = record { count = refl; each = λ place owner d e at_d at_e at. subst (λ x. StaysLedger sc owner (state g d) (state g x)) (same_at ds ds place e d at_e at_d refl) (ledger_kept sc owner (state g d)) }

  -- the ledgers that were opened go back to their databases, one could not be, and the others are as they were
  pub back_again : (law : IsLawfulStore g) (ds : List (Held S)) (xs : List (SqlLedger S g)) (owner : ℕ) (d e : Held S) (rest after : List (Held S))
      → ((k : ℕ) (x : SqlLedger S g) (owner : ℕ) (d : Held S) → slice_get xs k ≡ Some x → id_at sc.owners k ≡ Some owner → slice_get ds k ≡ Some d → IsOpenedLedger sc owner (state g d) (ledger_words.stands g x))
      → id_at sc.owners (length xs) ≡ Some owner → slice_get ds (length xs) ≡ Some d → StaysLedger sc owner (state g d) (state g e)
      → ((k : ℕ) → slice_get rest k ≡ slice_get ds (length xs + suc k)) → length ds ≡ length xs + suc (length rest)
      → (back : AreHandedBack g xs [] after) → AreStaying (state g) sc ds ((after ++ e ∷ []) ++ rest)
  back_again law ds xs owner d e rest after opened here there stays others many back = record { count = count; each = each }
    where
      are : after ≡ back.backs
      are = back.are

      len : length after ≡ length xs
      len = ap length are ∙ back.count

      count : length ((after ++ e ∷ []) ++ rest) ≡ length ds
      count =
          let one : length ((after ++ e ∷ []) ++ rest) ≡ length (after ++ e ∷ []) + length rest = length-append (after ++ e ∷ []) rest in
          let two : length (after ++ e ∷ []) ≡ length after + 1 = length-append after (e ∷ []) in
          let n = len in
          omega (arith, one, two, n, many)

      in_front : (place other : ℕ) (a b : Held S) → slice_get ds place ≡ Some a → slice_get after place ≡ Some b → id_at sc.owners place ≡ Some other → StaysLedger sc other (state g a) (state g b)
      in_front place other a b at_a at_b at =
          let lt = slice_get_within after place b at_b in
          let n = len in
          let x = element_at xs place (omega (arith, lt, n)) in
          ledger_back_stays g law sc other (state g a) x.0 b (opened place x.0 other a x.1 at at_a) (back.each place x.0 b x.1 (ap (λ l. slice_get l place) (sym are) ∙ at_b)).0

      behind : (place other j : ℕ) (a b : Held S) → place ≡ length after + j → slice_get ds place ≡ Some a → slice_get (e ∷ rest) j ≡ Some b → id_at sc.owners place ≡ Some other → StaysLedger sc other (state g a) (state g b)
      behind place other zero a b is at_a at_b at =
          let n = len in
          let spot : place ≡ length xs = omega (arith, is, n) in
          let same_d : d ≡ a = same_at ds ds place a d at_a (ap (slice_get ds) spot ∙ there) refl in
          let same_e : e ≡ b = cc in
          let both : ◌≡◌ {A = Option ℕ} (Some owner) (Some other) = sym here ∙ (ap (id_at sc.owners) (sym spot) ∙ at) in
          let same_o : owner ≡ other = cc in
          subst (λ (z : ℕ × (Held S × Held S)). StaysLedger sc z.0 (state g z.1.0) (state g z.1.1)) (λ i. (same_o i, (same_d i, same_e i))) stays
      behind place other (suc j) a b is at_a at_b at =
          let n = len in
          let spot : place ≡ length xs + suc j = omega (arith, is, n) in
          let same : a ≡ b = let both : ◌≡◌ {A = Option (Held S)} (Some a) (Some b) = sym at_a ∙ (ap (slice_get ds) spot ∙ (sym (others j) ∙ at_b)) in cc in
          subst (λ x. StaysLedger sc other (state g a) (state g x)) same (ledger_kept sc other (state g a))

      each : (place other : ℕ) (a b : Held S) → slice_get ds place ≡ Some a → slice_get ((after ++ e ∷ []) ++ rest) place ≡ Some b → id_at sc.owners place ≡ Some other → StaysLedger sc other (state g a) (state g b)
      each place other a b at_a at_b at = elim (cases_append after (e ∷ rest) place b (ap (λ l. slice_get l place) (sym (append_assoc after (e ∷ []) rest)) ∙ at_b)) [
        | inl front ↦ in_front place other a b at_a front at
        | inr past ↦ behind place other past.0 a b past.1 at_a past.2 at
      ]
