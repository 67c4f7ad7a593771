-- Two reads of a ledger, one after the other, behind others.
use Rattle.std.proofs.Common.{◌≡◌, None, ap, ◌∙◌, inl}
use Rattle.std.specs.Prelude.{Ok, Err}
use Rattle.fare_store.specs.declared.fault.Fault.TheVariants as fault
use Rattle.fare_store.specs.Standing.{Standing, Calls, Reads}
use Rattle.fare_store.proofs.Readings.{Since, reads_since, since_calls, reads_say}

module _ {V X : Type 0} (a b c : Standing V) (asked P : Type 0) (f : V → X) (x : X) (since : Since a b asked P) (first : Reads b c (λ r. r ≡ f b.value) (Ok x)) where
  -- the first is one more of those before
  pub one_more : Since a c asked ((b.value ≡ a.value) × P × (x ≡ f b.value))
  one_more = since_calls a c asked ((b.value ≡ a.value) × P × (x ≡ f b.value)) (reads_since a b c asked P (x ≡ f b.value) None since first)

  -- and what both answered is of what was there at first
  pub asked_both : {Y : Type 0} (d : Standing V) (g : V → Y) (y : Y) → Reads c d (λ r. r ≡ g c.value) (Ok y) → Calls a d None ((d.value ≡ a.value) × (P × (x ≡ f a.value) × (y ≡ g a.value))) (λ v. ⊥)
  asked_both d g y second =
      reads_say a d ((c.value ≡ a.value) × ((b.value ≡ a.value) × P × (x ≡ f b.value)) × (y ≡ g c.value)) (P × (x ≡ f a.value) × (y ≡ g a.value)) None
      (λ is. (is.0, (is.1.1.1, is.1.1.2 ∙ ap f is.1.1.0, is.1.2 ∙ ap g is.1.0)))
      (reads_since a c d asked ((b.value ≡ a.value) × P × (x ≡ f b.value)) (y ≡ g c.value) None one_more second)

-- there was no memory for an answer
pub unkept : {V A : Type 0} (a b : Standing V) (asked P : Type 0) (answer : A → Type 0) → Since a b asked P → Reads a b answer (Err fault.Memory)
unkept a b asked P answer s = record { value = λ live lawful. let is = s.value live lawful in (is.0, (is.1.0, tt)); stop = λ clean lawful v leaves. inl (s.stop clean lawful v leaves); lasts = s.lasts; clean = s.clean; live = s.live; stays = λ e. absurd (cc); cause = s.cause }
