-- What a ledger answers to what isn't its own: it is refused so, and nothing else is.
use Rattle.std.proofs.Common.{◌≡◌, ℕ, Bool, true, false, length, Ok, Err, Result, refl, sym, ap, ◌∙◌}
use Rattle.std.specs.Prelude.{◌↔◌}
use Rattle.fare_record.specs.Values.{RecordValue, StatementValue}
use Rattle.fare_owner.specs.TapJudged.{tap_judged}
use Rattle.fare_owner.specs.StatementJudged.{statement_judged}
use Rattle.fare_owner.specs.declared.tap.TapFault.{TapFault}
use Rattle.fare_owner.specs.declared.tap.TapFault.TheVariants as tap
use Rattle.fare_owner.specs.declared.statement.StatementFault.{StatementFault}
use Rattle.fare_owner.specs.declared.statement.StatementFault.TheVariants as said
use Rattle.fare_owner.specs.RetireJudged.{retire_judged}
use Rattle.fare_owner.specs.declared.retiring.RetireFault.{RetireFault}
use Rattle.fare_owner.specs.declared.retiring.RetireFault.TheVariants as retiring
use Rattle.fare_store.specs.declared.fault.Fault.{Fault}
use Rattle.fare_store.specs.declared.fault.Refused.{Refused}
use Rattle.fare_store.specs.declared.fault.Refused.TheVariants as refused
use Rattle.fare_store.specs.LedgerWords.{LedgerValue, is_mine, is_closed, take_judged, state_judged, retire_of}

-- an answer that is no refusal by name comes to the ledger's own alone
pub own_done : {R : Type 0} (mine : Bool) (not_mine : R) → ((◌≡◌ {A = Result Unit (Refused R)} (Ok tt) (Err (refused.Because not_mine))) ↔ (mine ≡ false)) → mine ≡ true
own_done true not_mine iff = refl
own_done {R} false not_mine iff = absurd (let e : ◌≡◌ {A = Result Unit (Refused R)} (Ok tt) (Err (refused.Because not_mine)) = iff.1 refl in cc)

pub own_failed : {R : Type 0} (mine : Bool) (not_mine : R) (f : Fault) → ((◌≡◌ {A = Result Unit (Refused R)} (Err (refused.Failed f)) (Err (refused.Because not_mine))) ↔ (mine ≡ false)) → mine ≡ true
own_failed true not_mine f iff = refl
own_failed {R} false not_mine f iff = absurd (let e : ◌≡◌ {A = Result Unit (Refused R)} (Err (refused.Failed f)) (Err (refused.Because not_mine)) = iff.1 refl in cc)

-- what isn't its own is judged so
pub tap_of_another : (v : LedgerValue) (r : RecordValue) (why : TapFault) → is_mine v r.owner r.device ≡ false → ◌≡◌ {A = Result Unit (Refused TapFault)} (Err (refused.Because why)) (Err (refused.Because tap.NotMine)) → take_judged v r ≡ Err why
tap_of_another v r why other is =
    let same : why ≡ tap.NotMine = cc in
    ap (λ b. tap_judged b (length (v.taken r.device)) (is_closed v r.device r.tap.day) r.lane (v.retired r.device)) other ∙ ap Err (sym same)

pub statement_of_another : (v : LedgerValue) (s : StatementValue) (why : StatementFault) → is_mine v s.owner s.device ≡ false → ◌≡◌ {A = Result Unit (Refused StatementFault)} (Err (refused.Because why)) (Err (refused.Because said.NotMine)) → state_judged v s ≡ Err why
statement_of_another v s why other is =
    let same : why ≡ said.NotMine = cc in
    ap (λ b. statement_judged b (v.stated s.device s.day) s.count (v.retired s.device)) other ∙ ap Err (sym same)

pub retire_of_another : (v : LedgerValue) (d : ℕ) (why : RetireFault) → v.knows d ≡ false → ◌≡◌ {A = Result Unit (Refused RetireFault)} (Err (refused.Because why)) (Err (refused.Because retiring.NotMine)) → retire_of v d ≡ Err why
retire_of_another v d why other is =
    let same : why ≡ retiring.NotMine = cc in
    ap (λ b. retire_judged b (v.retired d)) other ∙ ap Err (sym same)
