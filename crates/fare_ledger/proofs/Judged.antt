-- What is answered before a write, from what was read.
use Rattle.std.proofs.Common.{◌≡◌, inl, inr, ℕ, ◌+◌, ◌==◌, ◌&&◌, nat_lt, nat_le, Bool, true, false, length, Some, None, Ok, Err, Result, Option, refl, sym, ap, subst, ◌∙◌, arith}
use Rattle.std.proofs.lemmas.Bool.{cases_Bool}
use Rattle.std.proofs.lemmas.Bool.Decides.{nat_tests}
use Rattle.fare_record.specs.Values.{RecordValue, StatementValue}
use Rattle.fare_record.specs.Lanes.{day_count}
use Rattle.fare_owner.specs.TapJudged.{tap_judged}
use Rattle.fare_owner.specs.StatementJudged.{statement_judged}
use Rattle.fare_owner.specs.CloseJudged.{close_judged}
use Rattle.fare_owner.specs.RetireJudged.{retire_judged}
use Rattle.fare_owner.specs.declared.tap.TapFault.{TapFault}
use Rattle.fare_owner.specs.declared.tap.TapFault.TheVariants as tap
use Rattle.fare_owner.specs.declared.statement.StatementFault.{StatementFault}
use Rattle.fare_owner.specs.declared.statement.StatementFault.TheVariants as said
use Rattle.fare_owner.specs.declared.closing.CloseFault.{CloseFault}
use Rattle.fare_owner.specs.declared.closing.CloseFault.TheVariants as close
use Rattle.fare_owner.specs.declared.retiring.RetireFault.{RetireFault}
use Rattle.fare_store.specs.Standing.{Standing, Calls}
use Rattle.fare_store.specs.LedgerWords.{LedgerValue, is_mine, is_closed, take_judged, state_judged, close_of, retire_of}
use Rattle.fare_tables.proofs.Steps.{read_then, says}
use Rattle.fare_ledger.specs.declared.lane.Lane.{Lane}
use Rattle.fare_ledger.specs.Words.{HasNumbers, JudgesTap, JudgesDay, MayTake, MayClose}

-- the first of a call, and then a read that answered
pub read_next : (a b c : Standing LedgerValue) (Q : LedgerValue → Type 0) → Calls a b None ((b.value ≡ a.value) × Unit {0}) (λ v. ⊥) → Calls b c None ((c.value ≡ b.value) × Q b.value) (λ v. ⊥) → Calls a c None ((c.value ≡ a.value) × Q a.value) (λ v. ⊥)
read_next a b c Q first second = says a c None _ _ (λ v. ⊥) (λ v. ⊥) (λ lawful p. (p.0, subst Q p.1.0 p.1.2)) (λ v none. none) (read_then a b c (Unit {0}) (Q b.value) None first second)

-- reads that answered, and then one more
pub read_more : (a b c : Standing LedgerValue) (P Q : LedgerValue → Type 0) → Calls a b None ((b.value ≡ a.value) × P a.value) (λ v. ⊥) → Calls b c None ((c.value ≡ b.value) × Q b.value) (λ v. ⊥) → Calls a c None ((c.value ≡ a.value) × (P a.value × Q a.value)) (λ v. ⊥)
read_more a b c P Q first second = says a c None _ _ (λ v. ⊥) (λ v. ⊥) (λ lawful p. (p.0, (p.1.1, subst Q p.1.0 p.1.2))) (λ v none. none) (read_then a b c (P a.value) (Q b.value) None first second)

-- ---- a tap

-- what was read of a tap's device
pub record FoundTap (d : ℕ) (lane : Lane) (retired : Bool) (v : LedgerValue) : Type 0 where
  pub numbers : HasNumbers v d lane
  pub retired_is : retired ≡ v.retired d

pub tap_read : (a b c e : Standing LedgerValue) (d : ℕ) (lane : Lane) (retired : Bool)
    → Calls a b None ((b.value ≡ a.value) × Unit {0}) (λ v. ⊥)
    → Calls b c None ((c.value ≡ b.value) × HasNumbers b.value d lane) (λ v. ⊥)
    → Calls c e None ((e.value ≡ c.value) × (retired ≡ c.value.retired d)) (λ v. ⊥)
    → Calls a e None ((e.value ≡ a.value) × FoundTap d lane retired a.value) (λ v. ⊥)
tap_read a b c e d lane retired first second third =
    let one = read_next a b c (λ v. HasNumbers v d lane) first second in
    let two = read_more a c e (λ v. HasNumbers v d lane) (λ v. retired ≡ v.retired d) one third in
    says a e None _ _ (λ v. ⊥) (λ v. ⊥) (λ lawful p. (p.0, record { numbers = p.1.0; retired_is = p.1.1 })) (λ v none. none) two

pub tap_answer : (v : LedgerValue) (r : RecordValue) (lane : Lane) (mine closed retired : Bool) → mine ≡ is_mine v r.owner r.device → closed ≡ (nat_le v.start r.tap.day && nat_lt r.tap.day (v.start + lane.closed)) → FoundTap r.device lane retired v
    → tap_judged mine lane.taken closed r.lane retired ≡ take_judged v r
tap_answer v r lane mine closed retired mine_is closed_is found =
    let same : closed ≡ is_closed v r.device r.tap.day = closed_is ∙ ap (λ n. nat_le v.start r.tap.day && nat_lt r.tap.day (v.start + n)) found.numbers.closed in
    λ i. tap_judged (mine_is i) (found.numbers.taken i) (same i) r.lane (found.retired_is i)

pub judged_ok : (a d : Standing LedgerValue) (r : RecordValue) (lane : Lane) (retired : Bool) → (FoundTap r.device lane retired a.value → ◌≡◌ {A = Result Unit TapFault} (Ok tt) (take_judged a.value r)) → Calls a d None ((d.value ≡ a.value) × FoundTap r.device lane retired a.value) (λ v. ⊥)
    → Calls a d None ((d.value ≡ a.value) × JudgesTap a.value r (Ok lane.closed)) (λ v. ⊥)
judged_ok a d r lane retired judge c = says a d None _ _ (λ v. ⊥) (λ v. ⊥) (λ lawful p. (p.0, (sym (judge p.1), p.1.numbers.closed))) (λ v none. none) c

pub judged_err : (a d : Standing LedgerValue) (r : RecordValue) (lane : Lane) (retired : Bool) (why : TapFault) → (FoundTap r.device lane retired a.value → ◌≡◌ {A = Result Unit TapFault} (Err why) (take_judged a.value r)) → Calls a d None ((d.value ≡ a.value) × FoundTap r.device lane retired a.value) (λ v. ⊥)
    → Calls a d None ((d.value ≡ a.value) × JudgesTap a.value r (Err why)) (λ v. ⊥)
judged_err a d r lane retired why judge c = says a d None _ _ (λ v. ⊥) (λ v. ⊥) (λ lawful p. (p.0, sym (judge p.1))) (λ v none. none) c

-- a tap that is judged well is the owner's next of its device, of a day that isn't closed
record IsNextTap (mine : Bool) (count : ℕ) (closed : Bool) (lane : ℕ) : Type 0 where
  mine_is : mine ≡ true
  next : lane ≡ count + 1
  open_is : closed ≡ false

next_tap : (mine : Bool) (count : ℕ) (closed : Bool) (lane : ℕ) (retired : Bool) → ◌≡◌ {A = Result Unit TapFault} (tap_judged mine count closed lane retired) (Ok tt) → IsNextTap mine count closed lane
next_tap false count closed lane retired is = absurd (let e : ◌≡◌ {A = Result Unit TapFault} (Err tap.NotMine) (Ok tt) = is in cc)
next_tap true count closed lane true is = absurd (let e : ◌≡◌ {A = Result Unit TapFault} (Err tap.Retired) (Ok tt) = is in cc)
next_tap true count closed lane false is = elim (cases_Bool (nat_le lane count)) [
  | inl low ↦ absurd (let e : ◌≡◌ {A = Result Unit TapFault} (Err tap.Duplicate) (Ok tt) = rw low at is in cc)
  | inr above ↦ elim (cases_Bool (nat_lt (count + 1) lane)) [
    | inl high ↦ absurd (let e : ◌≡◌ {A = Result Unit TapFault} (Err tap.Gap) (Ok tt) = rw (above, high) at is in cc)
    | inr below ↦ elim (cases_Bool closed) [
      | inl shut ↦ absurd (let e : ◌≡◌ {A = Result Unit TapFault} (Err tap.AfterClose) (Ok tt) = rw (above, below, shut) at is in cc)
      | inr wide ↦ record { mine_is = refl; next = grind (arith, nat_tests); open_is = wide }
    ]
  ]
]

working : (mine : Bool) (count : ℕ) (closed : Bool) (lane : ℕ) (retired : Bool) → ◌≡◌ {A = Result Unit TapFault} (tap_judged mine count closed lane retired) (Ok tt) → retired ≡ false
working false count closed lane retired is = absurd (let e : ◌≡◌ {A = Result Unit TapFault} (Err tap.NotMine) (Ok tt) = is in cc)
working true count closed lane true is = absurd (let e : ◌≡◌ {A = Result Unit TapFault} (Err tap.Retired) (Ok tt) = is in cc)
working true count closed lane false is = refl

-- its lane isn't retired
pub not_retired : (v : LedgerValue) (r : RecordValue) (closed : ℕ) → JudgesTap v r (Ok closed) → v.retired r.device ≡ false
not_retired v r closed judged = working (is_mine v r.owner r.device) (length (v.taken r.device)) (is_closed v r.device r.tap.day) r.lane (v.retired r.device) judged.0

owned : (v : LedgerValue) (owner device : ℕ) → is_mine v owner device ≡ true → owner ≡ v.owner
owned v owner device is = elim (cases_Bool (owner == v.owner)) [
  | inl same ↦ grind (arith, nat_tests)
  | inr other ↦ absurd (let e : false ≡ true = rw other at is in cc)
]

pub may_take : (v : LedgerValue) (r : RecordValue) (closed : ℕ) → JudgesTap v r (Ok closed) → MayTake v r closed
may_take v r closed judged =
    let it = next_tap (is_mine v r.owner r.device) (length (v.taken r.device)) (is_closed v r.device r.tap.day) r.lane (v.retired r.device) judged.0 in
    record { mine = owned v r.owner r.device it.mine_is; next = it.next; open_day = it.open_is; closed_is = judged.1 }

-- ---- a statement

-- what was read of a statement's day
pub record FoundStated (d y : ℕ) (held : Option ℕ) (retired : Bool) (v : LedgerValue) : Type 0 where
  pub held_is : held ≡ v.stated d y
  pub retired_is : retired ≡ v.retired d

pub stated_read : (a b c e : Standing LedgerValue) (d y : ℕ) (held : Option ℕ) (retired : Bool)
    → Calls a b None ((b.value ≡ a.value) × Unit {0}) (λ v. ⊥)
    → Calls b c None ((c.value ≡ b.value) × (held ≡ b.value.stated d y)) (λ v. ⊥)
    → Calls c e None ((e.value ≡ c.value) × (retired ≡ c.value.retired d)) (λ v. ⊥)
    → Calls a e None ((e.value ≡ a.value) × FoundStated d y held retired a.value) (λ v. ⊥)
stated_read a b c e d y held retired first second third =
    let one = read_next a b c (λ v. held ≡ v.stated d y) first second in
    let two = read_more a c e (λ v. held ≡ v.stated d y) (λ v. retired ≡ v.retired d) one third in
    says a e None _ _ (λ v. ⊥) (λ v. ⊥) (λ lawful p. (p.0, record { held_is = p.1.0; retired_is = p.1.1 })) (λ v none. none) two

pub state_answer : (a d : Standing LedgerValue) (s : StatementValue) (mine : Bool) (held : Option ℕ) (retired : Bool) (answer : Result Unit StatementFault) → mine ≡ is_mine a.value s.owner s.device → answer ≡ statement_judged mine held s.count retired
    → Calls a d None ((d.value ≡ a.value) × FoundStated s.device s.day held retired a.value) (λ v. ⊥) → Calls a d None ((d.value ≡ a.value) × (answer ≡ state_judged a.value s)) (λ v. ⊥)
state_answer a d s mine held retired answer mine_is is c = says a d None _ _ (λ v. ⊥) (λ v. ⊥) (λ lawful p. (p.0, is ∙ (λ i. statement_judged (mine_is i) (p.1.held_is i) s.count (p.1.retired_is i)))) (λ v none. none) c

pub may_state : (v : LedgerValue) (s : StatementValue) → ◌≡◌ {A = Result Unit StatementFault} (Ok tt) (state_judged v s) → v.stated s.device s.day ≡ None
may_state v s ok = go (is_mine v s.owner s.device) (v.stated s.device s.day) (v.retired s.device) ok
  where
    go : (mine : Bool) (held : Option ℕ) (retired : Bool) → ◌≡◌ {A = Result Unit StatementFault} (Ok tt) (statement_judged mine held s.count retired) → held ≡ None
    go false held retired is = absurd (let e : ◌≡◌ {A = Result Unit StatementFault} (Ok tt) (Err said.NotMine) = is in cc)
    go true held true is = absurd (let e : ◌≡◌ {A = Result Unit StatementFault} (Ok tt) (Err said.Retired) = is in cc)
    go true None false is = refl
    go true (Some n) false is = elim (cases_Bool (n == s.count)) [
      | inl x ↦ absurd (let e : ◌≡◌ {A = Result Unit StatementFault} (Ok tt) (Err said.Repeated) = rw x at is in cc)
      | inr x ↦ absurd (let e : ◌≡◌ {A = Result Unit StatementFault} (Ok tt) (Err said.Conflict) = rw x at is in cc)
    ]

-- ---- a lane

pub lane_answer : (a d : Standing LedgerValue) (device : ℕ) (mine retired : Bool) (answer : Result Unit RetireFault) → mine ≡ a.value.knows device → answer ≡ retire_judged mine retired
    → Calls a d None ((d.value ≡ a.value) × (retired ≡ a.value.retired device)) (λ v. ⊥) → Calls a d None ((d.value ≡ a.value) × (answer ≡ retire_of a.value device)) (λ v. ⊥)
lane_answer a d device mine retired answer mine_is is c = says a d None _ _ (λ v. ⊥) (λ v. ⊥) (λ lawful p. (p.0, is ∙ (λ i. retire_judged (mine_is i) (p.1 i)))) (λ v none. none) c

-- ---- a day

-- what was read of a day
pub record Found (d y : ℕ) (stated : Option ℕ) (lane : Lane) (count : ℕ) (retired : Bool) (v : LedgerValue) : Type 0 where
  pub stated_is : stated ≡ v.stated d y
  pub numbers : HasNumbers v d lane
  pub count_is : count ≡ day_count (v.taken d) y
  pub retired_is : retired ≡ v.retired d

pub all_read : (a b c e f g : Standing LedgerValue) (d y : ℕ) (stated : Option ℕ) (lane : Lane) (count : ℕ) (retired : Bool)
    → Calls a b None ((b.value ≡ a.value) × Unit {0}) (λ v. ⊥)
    → Calls b c None ((c.value ≡ b.value) × (stated ≡ b.value.stated d y)) (λ v. ⊥)
    → Calls c e None ((e.value ≡ c.value) × HasNumbers c.value d lane) (λ v. ⊥)
    → Calls e f None ((f.value ≡ e.value) × (count ≡ day_count (e.value.taken d) y)) (λ v. ⊥)
    → Calls f g None ((g.value ≡ f.value) × (retired ≡ f.value.retired d)) (λ v. ⊥)
    → Calls a g None ((g.value ≡ a.value) × Found d y stated lane count retired a.value) (λ v. ⊥)
all_read a b c e f g d y stated lane count retired first second third fourth fifth =
    let one = read_next a b c (λ v. stated ≡ v.stated d y) first second in
    let two = read_more a c e (λ v. stated ≡ v.stated d y) (λ v. HasNumbers v d lane) one third in
    let three = read_more a e f (λ v. (stated ≡ v.stated d y) × HasNumbers v d lane) (λ v. count ≡ day_count (v.taken d) y) two fourth in
    let four = read_more a f g (λ v. ((stated ≡ v.stated d y) × HasNumbers v d lane) × (count ≡ day_count (v.taken d) y)) (λ v. retired ≡ v.retired d) three fifth in
    says a g None _ _ (λ v. ⊥) (λ v. ⊥) (λ lawful p. (p.0, record { stated_is = p.1.0.0.0; numbers = p.1.0.0.1; count_is = p.1.0.1; retired_is = p.1.1 })) (λ v none. none) four

pub day_answer : (v : LedgerValue) (d y : ℕ) (stated : Option ℕ) (lane : Lane) (count : ℕ) (closed next retired : Bool) → closed ≡ (nat_le v.start y && nat_lt y (v.start + lane.closed)) → next ≡ (y == v.start + lane.closed) → Found d y stated lane count retired v
    → close_judged stated closed next count retired ≡ close_of v d y
day_answer v d y stated lane count closed next retired closed_is next_is found =
    let shut : closed ≡ is_closed v d y = closed_is ∙ ap (λ n. nat_le v.start y && nat_lt y (v.start + n)) found.numbers.closed in
    let first : next ≡ (y == v.start + v.closed d) = next_is ∙ ap (λ n. y == v.start + n) found.numbers.closed in
    λ i. close_judged (found.stated_is i) (shut i) (first i) (found.count_is i) (found.retired_is i)

pub day_ok : (a f : Standing LedgerValue) (d y : ℕ) (stated : Option ℕ) (lane : Lane) (count : ℕ) (retired : Bool) → (Found d y stated lane count retired a.value → ◌≡◌ {A = Result Unit CloseFault} (Ok tt) (close_of a.value d y)) → Calls a f None ((f.value ≡ a.value) × Found d y stated lane count retired a.value) (λ v. ⊥)
    → Calls a f None ((f.value ≡ a.value) × JudgesDay a.value d y (Ok lane)) (λ v. ⊥)
day_ok a f d y stated lane count retired judge c = says a f None _ _ (λ v. ⊥) (λ v. ⊥) (λ lawful p. (p.0, (sym (judge p.1), p.1.numbers))) (λ v none. none) c

pub day_err : (a f : Standing LedgerValue) (d y : ℕ) (stated : Option ℕ) (lane : Lane) (count : ℕ) (retired : Bool) (why : CloseFault) → (Found d y stated lane count retired a.value → ◌≡◌ {A = Result Unit CloseFault} (Err why) (close_of a.value d y)) → Calls a f None ((f.value ≡ a.value) × Found d y stated lane count retired a.value) (λ v. ⊥)
    → Calls a f None ((f.value ≡ a.value) × JudgesDay a.value d y (Err why)) (λ v. ⊥)
day_err a f d y stated lane count retired why judge c = says a f None _ _ (λ v. ⊥) (λ v. ⊥) (λ lawful p. (p.0, sym (judge p.1))) (λ v none. none) c

-- a day that is judged well is the first that isn't closed, and its count is stated
record IsNextDay (stated : Option ℕ) (next : Bool) (count : ℕ) : Type 0 where
  stated_is : stated ≡ Some count
  next_is : next ≡ true

next_day : (stated : Option ℕ) (closed next : Bool) (count : ℕ) (retired : Bool) → ◌≡◌ {A = Result Unit CloseFault} (close_judged stated closed next count retired) (Ok tt) → IsNextDay stated next count
next_day stated closed next count true is = absurd (let e : ◌≡◌ {A = Result Unit CloseFault} (Err close.Retired) (Ok tt) = is in cc)
next_day None closed next count false is = absurd (let e : ◌≡◌ {A = Result Unit CloseFault} (Err close.Unstated) (Ok tt) = is in cc)
next_day (Some n) true next count false is = absurd (let e : ◌≡◌ {A = Result Unit CloseFault} (Err close.AlreadyClosed) (Ok tt) = is in cc)
next_day (Some n) false false count false is = absurd (let e : ◌≡◌ {A = Result Unit CloseFault} (Err close.OutOfOrder) (Ok tt) = is in cc)
next_day (Some n) false true count false is = elim (cases_Bool (nat_lt count n)) [
  | inl short ↦ absurd (let e : ◌≡◌ {A = Result Unit CloseFault} (Err (close.CountsShort n count)) (Ok tt) = rw short at is in cc)
  | inr enough ↦ elim (cases_Bool (nat_lt n count)) [
    | inl over ↦ absurd (let e : ◌≡◌ {A = Result Unit CloseFault} (Err (close.CountsOver n count)) (Ok tt) = rw (enough, over) at is in cc)
    | inr all ↦ record { stated_is = ap {B = Option ℕ} Some {x = n} {y = count} (grind (arith, nat_tests)); next_is = refl }
  ]
]

pub may_close : (v : LedgerValue) (d y : ℕ) (lane : Lane) → JudgesDay v d y (Ok lane) → MayClose v d lane
may_close v d y lane judged =
    let it = next_day (v.stated d y) (is_closed v d y) (y == v.start + v.closed d) (day_count (v.taken d) y) (v.retired d) judged.0 in
    let next = it.next_is in
    let at : y ≡ v.start + v.closed d = grind (arith, nat_tests) in
    record { stated = (λ i. v.stated d (sym at i)) ∙ it.stated_is ∙ (λ i. Some (day_count (v.taken d) (at i))); numbers = judged.1 }
