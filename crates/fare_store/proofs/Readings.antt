-- Calls of a store one after the other, most of them reads.
use Rattle.std.proofs.Common.{◌≡◌, ℕ, List, None, Some, refl, sym, ◌∙◌, subst, inl, inr}
use Rattle.std.specs.Prelude.{◌⊎◌, Option, Result, Ok, Err, IsErrAnd}
use Rattle.fare_store.specs.declared.fault.Fault.{Fault}
use Rattle.fare_store.specs.declared.fault.Refused.{Refused}
use Rattle.fare_store.specs.declared.fault.Refused.TheVariants as refused
use Rattle.fare_store.specs.Batches.{WritesFirst}
use Rattle.fare_store.specs.Standing.{Standing, Calls, Counted, Reads, Writes}

-- the same call, of which something else is said
pub says : {V : Type 0} (a b : Standing V) (f : Option Fault) (P Q : Type 0) (C D : V → Type 0) → (a.lawful → P → Q) → ((v : V) → C v → D v) → Calls a b f P C → Calls a b f Q D
says a b f P Q C D say commits c = record {
  value = λ live lawful. let is = c.value live lawful in (is.0, say lawful is.1);
  stop = λ clean lawful v leaves. elim (c.stop clean lawful v leaves) [
    | inl was ↦ inl was
    | inr new ↦ inr (new.0, commits v new.1)
  ];
  lasts = c.lasts;
  clean = c.clean;
  live = c.live;
  stays = c.stays;
  cause = c.cause;
}

-- a read that answered, and then one that answered or failed
pub read_then : {V : Type 0} (a b c : Standing V) (P Q : Type 0) (f : Option Fault) → Calls a b None ((b.value ≡ a.value) × P) (λ v. ⊥) → Calls b c f ((c.value ≡ b.value) × Q) (λ v. ⊥) → Calls a c f ((c.value ≡ a.value) × ((b.value ≡ a.value) × P × Q)) (λ v. ⊥)
read_then a b c P Q f first second = record {
  value = λ live lawful.
      let one = first.value (second.live live) lawful in
      let two = second.value live one.0 in
      (two.0, (two.1.0 ∙ one.1.0, (one.1.0, one.1.1, two.1.1)));
  stop = λ clean lawful v leaves. elim (second.stop clean (λ live. (first.value live (lawful (first.live live))).0) v leaves) [
    | inl before ↦ first.stop (second.clean clean) lawful v before
    | inr none ↦ inr (first.live none.0, none.1)
  ];
  lasts = λ clean lawful lasting. second.lasts clean (λ live. (first.value live (lawful (first.live live))).0) (first.lasts (second.clean clean) lawful lasting);
  clean = λ h. first.clean (second.clean h);
  live = λ h. first.live (second.live h);
  stays = second.stays;
  cause = subst (λ n. Counted n c.failures f) first.cause second.cause;
}

-- LOOPS
-- reads that answered, as many as there were; where there was one, a clean store is live
pub record Since {V : Type 0} (old new : Standing V) (asked did : Type 0) : Type 0 where
  pub value : new.live → old.lawful → new.lawful × ((new.value ≡ old.value) × did)
  pub stop : new.clean → (old.live → old.lawful) → (v : V) → new.may_leave v → old.may_leave v
  pub lasts : new.clean → (old.live → old.lawful) → old.lasting → new.lasting
  pub clean : new.clean → old.clean
  pub live : new.live → old.live
  pub up : asked → new.clean → new.live
  pub cause : new.failures ≡ old.failures

-- nothing was read, and nothing is said
pub reads_none : {V : Type 0} (a : Standing V) (asked P : Type 0) → (asked → ⊥) → P → Since a a asked P
reads_none a asked P never p = record { value = λ live lawful. (lawful, (refl, p)); stop = λ clean lawful v leaves. leaves; lasts = λ clean lawful lasting. lasting; clean = λ h. h; live = λ h. h; up = λ some. absurd (never some); cause = refl }

-- what was read, and then a read that answered or failed
pub reads_since : {V : Type 0} (a b c : Standing V) (asked P Q : Type 0) (f : Option Fault) → Since a b asked P → Calls b c f ((c.value ≡ b.value) × Q) (λ v. ⊥) → Calls a c f ((c.value ≡ a.value) × ((b.value ≡ a.value) × P × Q)) (λ v. ⊥)
reads_since {V} a b c asked P Q f first second = record {
  value = λ live lawful.
      let one = first.value (second.live live) lawful in
      let two = second.value live one.0 in
      (two.0, (two.1.0 ∙ one.1.0, (one.1.0, one.1.1, two.1.1)));
  stop = λ clean lawful v leaves. elim (second.stop clean (λ live. (first.value live (lawful (first.live live))).0) v leaves) [
    | inl before ↦ inl (first.stop (second.clean clean) lawful v before)
    | inr none ↦ inr (first.live none.0, none.1)
  ];
  lasts = λ clean lawful lasting. second.lasts clean (λ live. (first.value live (lawful (first.live live))).0) (first.lasts (second.clean clean) lawful lasting);
  clean = λ h. first.clean (second.clean h);
  live = λ h. first.live (second.live h);
  stays = second.stays;
  cause = subst (λ n. Counted n c.failures f) first.cause second.cause;
}

-- one read or several are reads
pub since_calls : {V : Type 0} (a b : Standing V) (asked P : Type 0) → Calls a b None ((b.value ≡ a.value) × P) (λ v. ⊥) → Since a b asked P
since_calls {V} a b asked P c = record { value = c.value; stop = λ clean lawful v leaves. left (c.stop clean lawful v leaves); lasts = c.lasts; clean = c.clean; live = c.live; up = λ some. c.stays refl; cause = c.cause }
  where
    left : {v : V} → a.may_leave v ⊎ (a.live × ⊥) → a.may_leave v
    left (inl h) = h
    left (inr h) = absurd h.1

pub calls_since : {V : Type 0} (a b : Standing V) (asked P : Type 0) → asked → Since a b asked P → Calls a b None ((b.value ≡ a.value) × P) (λ v. ⊥)
calls_since a b asked P some s = record { value = s.value; stop = λ clean lawful v leaves. inl (s.stop clean lawful v leaves); lasts = s.lasts; clean = s.clean; live = s.live; stays = λ e. s.up some; cause = s.cause }

-- the same reads, of which something else is said
pub reads_say : {V : Type 0} (a b : Standing V) (P Q : Type 0) (f : Option Fault) → ((b.value ≡ a.value) × P → (b.value ≡ a.value) × Q) → Calls a b f ((b.value ≡ a.value) × P) (λ v. ⊥) → Calls a b f ((b.value ≡ a.value) × Q) (λ v. ⊥)
reads_say a b P Q f say c = record { value = λ live lawful. let is = c.value live lawful in (is.0, say is.1); stop = c.stop; lasts = c.lasts; clean = c.clean; live = c.live; stays = c.stays; cause = c.cause }

-- a read that failed, whatever else is said
pub read_failed : {V A : Type 0} (a b : Standing V) (P : Type 0) (answer : A → Type 0) (r : Result A Fault) (f : Fault) → IsErrAnd r (λ q. q ≡ f) → Calls a b (Some f) ((b.value ≡ a.value) × P) (λ v. ⊥) → Reads a b answer r
read_failed a b P answer (Ok x) f is c = absurd is
read_failed a b P answer (Err q) f is c = subst (λ (z : Fault). Calls a b (Some z) ((b.value ≡ a.value) × Unit {0}) (λ v. ⊥)) (sym is) (record { value = λ live lawful. let did = c.value live lawful in (did.0, (did.1.0, tt)); stop = c.stop; lasts = c.lasts; clean = c.clean; live = c.live; stays = c.stays; cause = c.cause })

-- a write that failed
pub write_failed : {V R : Type 0} (a b : Standing V) (judged : Result Unit R) (done : V) (r : Result Unit (Refused R)) (f : Fault) → IsErrAnd r (λ why. why ≡ refused.Failed f) → Calls a b (Some f) (b.value ≡ a.value) (λ v. (judged ≡ Ok tt) × (v ≡ done)) → Writes a b judged done r
write_failed a b judged done (Ok x) f is c = absurd is
write_failed {R} a b judged done (Err why) f is c = subst (λ (w : Refused R). Writes a b judged done (Err w)) (sym is) c

-- a write of the first of several that failed
pub first_failed : {V A R : Type 0} (judged : V → A → Result Unit R) (done : A → V → V) (a b : Standing V) (items : List A) (r : Result ℕ Fault) (f : Fault) → IsErrAnd r (λ q. q ≡ f) → WritesFirst judged done a b items (Err f) → WritesFirst judged done a b items r
first_failed judged done a b items (Ok n) f is c = absurd is
first_failed judged done a b items (Err q) f is c = subst (λ (z : Fault). WritesFirst judged done a b items (Err z)) (sym is) c
