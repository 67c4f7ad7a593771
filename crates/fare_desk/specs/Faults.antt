-- Why an operator's question or order came to nothing.
use Rattle.std.specs.Prelude.{Bool, true, false, Option, None, Some, Result, Ok, Err}
use Rattle.fare_store.specs.declared.fault.Fault.{Fault}
use Rattle.fare_store.specs.declared.fault.Fault.TheVariants as fault
use Rattle.fare_store.specs.declared.fault.Refused.{Refused}
use Rattle.fare_store.specs.declared.fault.Refused.TheVariants.{Because, Failed}
use Rattle.fare_owner.specs.declared.retiring.RetireFault.TheVariants as retire
use Rattle.fare_sessions.specs.declared.retiring.RetiringFault.{RetiringFault}
use Rattle.fare_sessions.specs.declared.retiring.RetiringFault.TheVariants as retiring
use Rattle.fare_sessions.specs.declared.billing.BillingFault.{BillingFault}
use Rattle.fare_sessions.specs.declared.billing.BillingFault.TheVariants as billing
use Rattle.fare_side.specs.declared.bill_fault.BillFault.{BillFault}
use Rattle.fare_side.specs.declared.bill_fault.BillFault.TheVariants as bill
use Rattle.fare_desk.specs.declared.fault.DeskFault.{DeskFault}
use Rattle.fare_desk.specs.declared.fault.DeskFault.TheVariants as desk

abbrev pub of_store : Fault → DeskFault
of_store fault.Memory = desk.Memory
of_store fault.Store = desk.Store

abbrev pub named_fault : BillFault → DeskFault
named_fault bill.UnknownOwner = desk.UnknownOwner
named_fault bill.BeforeStart = desk.BeforeStart
named_fault (bill.NotClosed device) = desk.NotClosed device

abbrev pub named_billing : BillingFault → DeskFault
named_billing (billing.Unbilled why) = named_fault why
named_billing (billing.Forgotten device) = desk.Forgotten device

abbrev pub of_bill : Refused BillingFault → DeskFault
of_bill (Because why) = named_billing why
of_bill (Failed f) = of_store f

-- why a lane was not retired: a ledger that knows no such device, where the scheme does, is none of this scheme's
abbrev pub of_retiring : Refused RetiringFault → DeskFault
of_retiring (Because retiring.UnknownOwner) = desk.UnknownOwner
of_retiring (Because (retiring.Ledger retire.NotMine)) = desk.Store
of_retiring (Because (retiring.Ledger retire.Retired)) = desk.Retired
of_retiring (Failed f) = of_store f

-- whether a fault is a refusal: it is none where there was no memory, or a store or the writer failed
abbrev pub is_refusal : DeskFault → Bool
is_refusal desk.Memory = false
is_refusal desk.Store = false
is_refusal desk.Write = false
is_refusal _ = true

-- whether it is a refusal of a retire
abbrev pub is_of_retire : DeskFault → Bool
is_of_retire desk.UnknownOwner = true
is_of_retire desk.UnknownDevice = true
is_of_retire desk.Retired = true
is_of_retire _ = false

-- the refusal of a bill that a fault is, if it is one
abbrev pub name_of : DeskFault → Option BillingFault
name_of desk.UnknownOwner = Some (billing.Unbilled bill.UnknownOwner)
name_of desk.BeforeStart = Some (billing.Unbilled bill.BeforeStart)
name_of (desk.Forgotten device) = Some (billing.Forgotten device)
name_of (desk.NotClosed device) = Some (billing.Unbilled (bill.NotClosed device))
name_of _ = None

abbrev pub refused_of : {V : Type 0} → Result V DeskFault → Option BillingFault
refused_of (Ok v) = None
refused_of (Err f) = name_of f
