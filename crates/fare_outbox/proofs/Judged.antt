-- What is answered to a row or a statement, from what was read.
use Rattle.std.proofs.Common.{◌≡◌, inl, inr, ℕ, ◌+◌, ◌==◌, ◌<◌, ◌≤◌, nat_lt, nat_le, Bool, true, false, Some, None, Ok, Err, Result, refl, sym, ap, ◌∙◌, arith}
use Rattle.std.specs.Prelude.{Option, is_some}
use Rattle.std.proofs.lemmas.Bool.{cases_Bool}
use Rattle.std.proofs.lemmas.Bool.Decides.{nat_tests}
use Rattle.fare_record.specs.Values.{RecordValue, StatementValue}
use Rattle.fare_store.specs.declared.fault.StoreFault.{StoreFault}
use Rattle.fare_store.specs.declared.fault.StoreFault.TheVariants as store
use Rattle.fare_store.specs.declared.fault.StatedFault.{StatedFault}
use Rattle.fare_store.specs.declared.fault.StatedFault.TheVariants as stated
use Rattle.fare_store.specs.Standing.{Standing, Calls}
use Rattle.fare_store.specs.OutboxWords.{OutboxValue, store_judged, stated_judged, stated_judged_by}
use Rattle.fare_tables.proofs.Steps.{read_then, says}
use Rattle.fare_outbox.specs.Words.{MayStore}

-- what was read of a row
pub record Found (v : OutboxValue) (r : RecordValue) (upto : ℕ) (held : Bool) : Type 0 where
  pub upto_is : upto ≡ v.upto r.device
  pub held_is : held ≡ is_some (v.rows r.owner r.device r.lane)

pub all_read : (a b c d : Standing OutboxValue) (r : RecordValue) (upto : ℕ) (held : Bool)
    → Calls a b None ((b.value ≡ a.value) × Unit {0}) (λ v. ⊥)
    → Calls b c None ((c.value ≡ b.value) × (upto ≡ b.value.upto r.device)) (λ v. ⊥)
    → Calls c d None ((d.value ≡ c.value) × (held ≡ is_some (c.value.rows r.owner r.device r.lane))) (λ v. ⊥)
    → Calls a d None ((d.value ≡ a.value) × Found a.value r upto held) (λ v. ⊥)
all_read a b c d r upto held first second third =
    let two = read_then a b c (Unit {0}) (upto ≡ b.value.upto r.device) None first second in
    let three = read_then a c d _ (held ≡ is_some (c.value.rows r.owner r.device r.lane)) None two third in
    says a d None _ _ (λ v. ⊥) (λ v. ⊥) (λ lawful p. (
      p.0,
      record {
        upto_is = p.1.1.2 ∙ ap (λ (v : OutboxValue). v.upto r.device) p.1.1.0;
        held_is = p.1.2 ∙ ap (λ (v : OutboxValue). is_some (v.rows r.owner r.device r.lane)) p.1.0;
      },
    )) (λ v none. none) three

pub answered : (a d : Standing OutboxValue) (r : RecordValue) (upto : ℕ) (held : Bool) (answer : Result Unit StoreFault)
    → (a.lawful → Found a.value r upto held → answer ≡ store_judged a.value r)
    → Calls a d None ((d.value ≡ a.value) × Found a.value r upto held) (λ v. ⊥) → Calls a d None ((d.value ≡ a.value) × (answer ≡ store_judged a.value r)) (λ v. ⊥)
answered a d r upto held answer judge c = says a d None _ _ (λ v. ⊥) (λ v. ⊥) (λ lawful p. (p.0, judge lawful p.1)) (λ v none. none) c

pub duplicate : (v : OutboxValue) (r : RecordValue) (upto : ℕ) (held : Bool) → r.link ≤ upto → Found v r upto held → Err store.Duplicate ≡ store_judged v r
duplicate v r upto held low s =
    let is = s.upto_is in
    let first : nat_le r.link (v.upto r.device) ≡ true = grind (arith, nat_tests) in
    rw first refl

pub gap : (v : OutboxValue) (r : RecordValue) (upto : ℕ) (held : Bool) → upto + 1 < r.link → Found v r upto held → Err store.Gap ≡ store_judged v r
gap v r upto held high s =
    let is = s.upto_is in
    let first : nat_le r.link (v.upto r.device) ≡ false = grind (arith, nat_tests) in
    let second : nat_lt (v.upto r.device + 1) r.link ≡ true = grind (arith, nat_tests) in
    rw (first, second) refl

pub conflict : (v : OutboxValue) (r : RecordValue) (upto : ℕ) → r.link ≡ upto + 1 → Found v r upto true → Err store.Conflict ≡ store_judged v r
conflict v r upto next s =
    let is = s.upto_is in
    let first : nat_le r.link (v.upto r.device) ≡ false = grind (arith, nat_tests) in
    let second : nat_lt (v.upto r.device + 1) r.link ≡ false = grind (arith, nat_tests) in
    rw (first, second, sym s.held_is) refl

pub full : (v : OutboxValue) (r : RecordValue) (upto rows : ℕ) → r.link ≡ upto + 1 → rows ≡ v.row_count → 1000000 ≤ rows → Found v r upto false → Err store.OutboxFull ≡ store_judged v r
full v r upto rows next count high s =
    let is = s.upto_is in
    let first : nat_le r.link (v.upto r.device) ≡ false = grind (arith, nat_tests) in
    let second : nat_lt (v.upto r.device + 1) r.link ≡ false = grind (arith, nat_tests) in
    let fourth : nat_le 1000000 v.row_count ≡ true = grind (arith, nat_tests) in
    rw (first, second, sym s.held_is, fourth) refl

pub welcome : (v : OutboxValue) (r : RecordValue) (upto rows : ℕ) → r.link ≡ upto + 1 → rows ≡ v.row_count → rows < 1000000 → Found v r upto false → ◌≡◌ {A = Result Unit StoreFault} (Ok tt) (store_judged v r)
welcome v r upto rows next count low s =
    let is = s.upto_is in
    let first : nat_le r.link (v.upto r.device) ≡ false = grind (arith, nat_tests) in
    let second : nat_lt (v.upto r.device + 1) r.link ≡ false = grind (arith, nat_tests) in
    let fourth : nat_le 1000000 v.row_count ≡ false = grind (arith, nat_tests) in
    rw (first, second, sym s.held_is, fourth) refl

not_held : {A : Type 0} (o : Option A) → is_some o ≡ false → o ≡ None
not_held None h = refl
not_held (Some x) h = absurd cc

-- a row that may be stored stands at a free key
pub free_of : (v : OutboxValue) (r : RecordValue) → ◌≡◌ {A = Result Unit StoreFault} (Ok tt) (store_judged v r) → v.rows r.owner r.device r.lane ≡ None
free_of v r ok = elim (cases_Bool (nat_le r.link (v.upto r.device))) [
  | inl x ↦ absurd (let e : ◌≡◌ {A = Result Unit StoreFault} (Ok tt) (Err store.Duplicate) = rw x at ok in cc)
  | inr x ↦ elim (cases_Bool (nat_lt (v.upto r.device + 1) r.link)) [
    | inl y ↦ absurd (let e : ◌≡◌ {A = Result Unit StoreFault} (Ok tt) (Err store.Gap) = rw (x, y) at ok in cc)
    | inr y ↦ elim (cases_Bool (is_some (v.rows r.owner r.device r.lane))) [
      | inl z ↦ absurd (let e : ◌≡◌ {A = Result Unit StoreFault} (Ok tt) (Err store.Conflict) = rw (x, y, z) at ok in cc)
      | inr z ↦ not_held (v.rows r.owner r.device r.lane) z
    ]
  ]
]

-- a row that may be stored
pub may_store : (v : OutboxValue) (r : RecordValue) → ◌≡◌ {A = Result Unit StoreFault} (Ok tt) (store_judged v r) → MayStore v r
may_store v r ok = record {
  free = free_of v r ok;
  next = elim (cases_Bool (nat_le r.link (v.upto r.device))) [
    | inl x ↦ absurd (let e : ◌≡◌ {A = Result Unit StoreFault} (Ok tt) (Err store.Duplicate) = rw x at ok in cc)
    | inr x ↦ grind (arith, nat_tests)
  ];
}

-- ---- statements

pub said : (a d : Standing OutboxValue) (s : StatementValue) (held : Option ℕ) (answer : Result Unit StatedFault)
    → (a.lawful → held ≡ a.value.stated s.owner s.device s.day → answer ≡ stated_judged a.value s)
    → Calls a d None ((d.value ≡ a.value) × (held ≡ a.value.stated s.owner s.device s.day)) (λ v. ⊥) → Calls a d None ((d.value ≡ a.value) × (answer ≡ stated_judged a.value s)) (λ v. ⊥)
said a d s held answer judge c = says a d None _ _ (λ v. ⊥) (λ v. ⊥) (λ lawful p. (p.0, judge lawful p.1)) (λ v none. none) c

pub held_then : (a b c : Standing OutboxValue) (s : StatementValue) (held : Option ℕ)
    → Calls a b None ((b.value ≡ a.value) × Unit {0}) (λ v. ⊥)
    → Calls b c None ((c.value ≡ b.value) × (held ≡ b.value.stated s.owner s.device s.day)) (λ v. ⊥)
    → Calls a c None ((c.value ≡ a.value) × (held ≡ a.value.stated s.owner s.device s.day)) (λ v. ⊥)
held_then a b c s held first second =
    says a c None _ _ (λ v. ⊥) (λ v. ⊥) (λ lawful p. (p.0, p.1.2 ∙ ap (λ (v : OutboxValue). v.stated s.owner s.device s.day) p.1.0)) (λ v none. none) (read_then a b c (Unit {0}) (held ≡ b.value.stated s.owner s.device s.day) None first second)

pub stated_before : (v : OutboxValue) (s : StatementValue) (n : ℕ) → n ≡ s.count → Some n ≡ v.stated s.owner s.device s.day → Err stated.Duplicate ≡ stated_judged v s
stated_before v s n same is = let told : (n == s.count) ≡ true = grind (arith, nat_tests) in rw (sym is, told) refl

pub stated_otherwise : (v : OutboxValue) (s : StatementValue) (n : ℕ) → (n ≡ s.count → ⊥) → Some n ≡ v.stated s.owner s.device s.day → Err stated.Conflict ≡ stated_judged v s
stated_otherwise v s n other is = elim (cases_Bool (n == s.count)) [
  | inl same ↦ absurd (other (grind (arith, nat_tests)))
  | inr told ↦ rw (sym is, told) refl
]

pub stated_full : (v : OutboxValue) (s : StatementValue) (statements : ℕ) → statements ≡ v.stated_count → 1000000 ≤ statements → None ≡ v.stated s.owner s.device s.day → Err stated.OutboxFull ≡ stated_judged v s
stated_full v s statements count high is =
    let full : nat_le 1000000 v.stated_count ≡ true = grind (arith, nat_tests) in
    rw (sym is, full) refl

pub stated_welcome : (v : OutboxValue) (s : StatementValue) (statements : ℕ) → statements ≡ v.stated_count → statements < 1000000 → None ≡ v.stated s.owner s.device s.day → ◌≡◌ {A = Result Unit StatedFault} (Ok tt) (stated_judged v s)
stated_welcome v s statements count low is =
    let room : nat_le 1000000 v.stated_count ≡ false = grind (arith, nat_tests) in
    rw (sym is, room) refl

pub may_state : (v : OutboxValue) (s : StatementValue) → ◌≡◌ {A = Result Unit StatedFault} (Ok tt) (stated_judged v s) → v.stated s.owner s.device s.day ≡ None
may_state v s ok = go (v.stated s.owner s.device s.day) ok
  where
    go : (held : Option ℕ) → ◌≡◌ {A = Result Unit StatedFault} (Ok tt) (stated_judged_by held s.count v.stated_count) → held ≡ None
    go None is = refl
    go (Some n) is = elim (cases_Bool (n == s.count)) [
      | inl x ↦ absurd (let e : ◌≡◌ {A = Result Unit StatedFault} (Ok tt) (Err stated.Duplicate) = rw x at is in cc)
      | inr x ↦ absurd (let e : ◌≡◌ {A = Result Unit StatedFault} (Ok tt) (Err stated.Conflict) = rw x at is in cc)
    ]
