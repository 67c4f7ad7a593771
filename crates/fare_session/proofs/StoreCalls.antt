-- Calls of a store one after the other.
use Rattle.std.proofs.Common.{◌≡◌, None, refl, ◌∙◌, subst, inl, inr}
use Rattle.std.specs.Prelude.{◌⊎◌, Option}
use Rattle.fare_store.specs.declared.fault.Fault.{Fault}
use Rattle.fare_store.specs.Standing.{Standing, Calls, Counted, IsSound}
use Rattle.fare_session.specs.Stores.{Called, Follows, HasStood, Leaves, Stays}

-- one call is such calls
pub called : {V : Type 0} (a b : Standing V) (f : Option Fault) (did : Type 0) (commits : V → Type 0) → Calls a b f did commits → Called a b f did commits
called a b f did commits c = record { value = c.value; stop = c.stop; lasts = c.lasts; clean = c.clean; live = c.live; stays = λ e live clean. c.stays e clean; cause = c.cause }

-- a call that was done: a stop leaves what it did, whatever of it a failure might have left
pub leaves_done : {V : Type 0} (a b : Standing V) (did : Type 0) (v : V) (commits : V → Type 0) → IsSound b → Called a b None did commits → (did → b.value ≡ v) → Leaves a b None v (λ w. w ≡ v)
leaves_done a b did v commits sound c is = record {
  calls = record {
    value = λ live lawful. let x = c.value live lawful in (x.0, is x.1);
    stop = λ clean lawful w leaves. elim (c.stop clean lawful w leaves) [
      | inl before ↦ inl before
      | inr done ↦ inr (done.0, whole (record { live = done.0; lawful = lawful done.0; clean = clean }) w leaves)
    ];
    lasts = c.lasts;
    clean = c.clean;
    live = c.live;
    stays = c.stays;
    cause = c.cause;
  };
  left = whole;
}
  where
    whole : HasStood a b → (w : _) → b.may_leave w → w ≡ v
    whole k w leaves =
        let live = c.stays refl k.live k.clean in
        let x = c.value live k.lawful in
        sound.settled live x.0 w leaves ∙ is x.1

-- a call that changed nothing, and yet may have committed
pub leaves_kept : {V : Type 0} (a b : Standing V) (f : Option Fault) (did : Type 0) (commits : V → Type 0) → IsSound a → Called a b f did commits → (did → b.value ≡ a.value) → Leaves a b f a.value (λ w. (w ≡ a.value) ⊎ commits w)
leaves_kept a b f did commits sound c is = record {
  calls = record {
    value = λ live lawful. let x = c.value live lawful in (x.0, is x.1);
    stop = λ clean lawful w leaves. elim (c.stop clean lawful w leaves) [
      | inl before ↦ inl before
      | inr done ↦ inr (done.0, inr done.1)
    ];
    lasts = c.lasts;
    clean = c.clean;
    live = c.live;
    stays = c.stays;
    cause = c.cause;
  };
  left = λ k w leaves. elim (c.stop k.clean (λ _. k.lawful) w leaves) [
    | inl before ↦ inl (sound.settled k.live k.lawful w before)
    | inr done ↦ inr done.1
  ];
}

-- the same, of which other images are said
pub leaves_say : {V : Type 0} (a b : Standing V) (f : Option Fault) (v : V) (P Q : V → Type 0) → ((w : V) → P w → Q w) → Leaves a b f v P → Leaves a b f v Q
leaves_say a b f v P Q say l = record {
  calls = record {
    value = l.calls.value;
    stop = λ clean lawful w leaves. elim (l.calls.stop clean lawful w leaves) [
      | inl before ↦ inl before
      | inr done ↦ inr (done.0, say w done.1)
    ];
    lasts = l.calls.lasts;
    clean = l.calls.clean;
    live = l.calls.live;
    stays = l.calls.stays;
    cause = l.calls.cause;
  };
  left = λ k w leaves. say w (l.left k w leaves);
}

-- a read
pub stays_read : {V : Type 0} (a b : Standing V) (f : Option Fault) (said : Type 0) → IsSound a → Calls a b f ((b.value ≡ a.value) × said) (λ v. ⊥) → Stays a b f
stays_read a b f said sound c = leaves_say a b f a.value (λ w. (w ≡ a.value) ⊎ ⊥) (λ w. w ≡ a.value) (λ w x. elim x [ inl e ↦ e | inr none ↦ absurd none ]) (leaves_kept a b f ((b.value ≡ a.value) × said) (λ v. ⊥) sound (called a b f ((b.value ≡ a.value) × said) (λ v. ⊥) c) (λ d. d.0))

-- nothing was called
pub stays_none : {V : Type 0} (a : Standing V) → IsSound a → Stays a a None
stays_none a sound = record {
  calls = record { value = λ live lawful. (lawful, refl); stop = λ clean lawful v leaves. inl leaves; lasts = λ clean lawful lasting. lasting; clean = λ h. h; live = λ h. h; stays = λ e live clean. live; cause = refl };
  left = λ k w leaves. sound.settled k.live k.lawful w leaves;
}

-- it kept what it held up to there, where it keeps it from there on
pub stood_first : {V : Type 0} (a b c : Standing V) (f : Option Fault) (v : V) (P : V → Type 0) → Leaves b c f v P → HasStood a c → HasStood a b
stood_first a b c f v P l k = record { live = k.live; lawful = k.lawful; clean = l.calls.clean k.clean }

pub stood_then : {V : Type 0} (a b c : Standing V) (f : Option Fault) (v u : V) (P Q : V → Type 0) → Leaves a b None u Q → Leaves b c f v P → HasStood a c → HasStood b c
stood_then a b c f v u P Q first second k =
    let live = first.calls.stays refl k.live (second.calls.clean k.clean) in
    record { live = live; lawful = (first.calls.value live k.lawful).0; clean = k.clean }

-- what it then holds
pub stood_value : {V : Type 0} (a b : Standing V) (u : V) (Q : V → Type 0) → Leaves a b None u Q → HasStood a b → b.value ≡ u
stood_value a b u Q first k = (first.calls.value (first.calls.stays refl k.live k.clean) k.lawful).1

-- calls that all succeeded, and then others
pub leaves_then : {V : Type 0} (a b c : Standing V) (f : Option Fault) (u v w : V) (P Q R : V → Type 0) → Leaves a b None u P → Leaves b c f v Q → (b.value ≡ u → v ≡ w) → (b.value ≡ u → (x : V) → Q x → R x) → Leaves a c f w R
leaves_then a b c f u v w P Q R first second same image = record {
  calls = record {
    value = λ live lawful.
        let one = first.calls.value (second.calls.live live) lawful in
        let two = second.calls.value live one.0 in
        (two.0, two.1 ∙ same one.1);
    stop = λ clean lawful x leaves. elim (second.calls.stop clean (λ live. (first.calls.value live (lawful (first.calls.live live))).0) x leaves) [
      | inl middle ↦ elim (first.calls.stop (second.calls.clean clean) lawful x middle) [
        | inl before ↦ inl before
        | inr done ↦ inr (done.0, whole (record { live = done.0; lawful = lawful done.0; clean = clean }) x leaves)
      ]
      | inr done ↦
          let old = first.calls.live done.0 in
          inr (old, whole (record { live = old; lawful = lawful old; clean = clean }) x leaves)
    ];
    lasts = λ clean lawful lasting. second.calls.lasts clean (λ live. (first.calls.value live (lawful (first.calls.live live))).0) (first.calls.lasts (second.calls.clean clean) lawful lasting);
    clean = λ h. first.calls.clean (second.calls.clean h);
    live = λ h. first.calls.live (second.calls.live h);
    stays = λ e live clean. second.calls.stays e (first.calls.stays refl live (second.calls.clean clean)) clean;
    cause = subst (λ n. Counted n c.failures f) first.calls.cause second.calls.cause;
  };
  left = whole;
}
  where
    whole : HasStood a c → (x : _) → c.may_leave x → R x
    whole k x leaves = image (stood_value a b u P first (stood_first a b c f v Q second k)) x (second.left (stood_then a b c f v u Q P first second k) x leaves)

-- it was read twice
pub stays_then : {V : Type 0} (a b c : Standing V) (f : Option Fault) → Stays a b None → Stays b c f → Stays a c f
stays_then a b c f first second = leaves_then a b c f a.value b.value a.value (λ w. w ≡ a.value) (λ w. w ≡ b.value) (λ w. w ≡ a.value) first second (λ e. e) (λ e x is. is ∙ e)

-- other words for the same faults
pub leaves_fault : {V : Type 0} (a b : Standing V) (f g : Option Fault) (v : V) (P : V → Type 0) → f ≡ g → Leaves a b f v P → Leaves a b g v P
leaves_fault a b f g v P e l = subst (λ q. Leaves a b q v P) e l

-- WHATEVER WAS CALLED
pub follows_none : {V : Type 0} (a : Standing V) → Follows a a
follows_none a = record { clean = λ h. h; live = λ h. h; lawful = λ live lawful. lawful; lasts = λ clean lawful lasting. lasting }

pub follows_call : {V : Type 0} (a b : Standing V) (f : Option Fault) (did : Type 0) (commits : V → Type 0) → Called a b f did commits → Follows a b
follows_call a b f did commits c = record { clean = c.clean; live = c.live; lawful = λ live lawful. (c.value live lawful).0; lasts = c.lasts }

pub follows_then : {V : Type 0} (a b c : Standing V) → Follows a b → Follows b c → Follows a c
follows_then a b c first second = record {
  clean = λ h. first.clean (second.clean h);
  live = λ h. first.live (second.live h);
  lawful = λ live lawful. second.lawful live (first.lawful (second.live live) lawful);
  lasts = λ clean lawful lasting. second.lasts clean (λ live. first.lawful live (lawful (first.live live))) (first.lasts (second.clean clean) lawful lasting);
}
