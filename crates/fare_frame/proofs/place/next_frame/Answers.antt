use Rattle.std.proofs.Common.{◌≡◌, ◌-◌, ◌++◌, ◌≤◌, drop, length, ◌+◌, arith, sym, ◌∙◌, ap}
use Rattle.std.proofs.lemmas.List.{drop-drop}
use Rattle.fare_frame.specs.Table.{length_of}
use Rattle.fare_frame.specs.Grammar.{frame_bytes}
use Rattle.fare_frame.proofs.Frames.{length_of-above}
use Rattle.fare_frame.proofs.Places.{frame_read, body_fault_stands}
use Rattle.fare_frame.proofs.place.next_frame.Goals as goal

pub returns-in-Ok-Some-clause-whole : goal.returns-in-Ok-Some-clause-whole
returns-in-Ok-Some-clause-whole c =
    let bytes = c.args.bytes.now in
    let body = c.in-Some.rest.now in
    let frame = c.in-Ok-Some.frame in
    let n = length_of c.in_ok-kind.kind - 1 in
    let parts = c.in-Some.ensures.cases in
    let read = rw c.in-Ok-Some.field-0-is at c.in-Ok-Some.ensures in
    let long : 3 ≤ length bytes = omega arith in
    let behind : drop (c.length.result + 2) bytes ≡ drop n body =
    ap (λ k. drop k bytes) (omega (arith, length_of-above c.in_ok-kind.kind)) ∙ sym (drop-drop n 3 bytes) ∙ ap (drop n) (sym parts.1) in
    let found = frame_read bytes c.in-Some.head.now body (λ i. omega (arith, c.type_inv.bytes i)) long parts.0 parts.1 c.in_ok-kind.kind c.in_ok-kind.ensures.kind frame read.spelled.0 read.spelled.1 read.whole.1 read.whole.2 in
    (found.0 ∙ ap (λ t. frame_bytes frame ++ t) (sym behind), found.1, omega arith)

pub returns-in-Err-clause-fault : goal.returns-in-Err-clause-fault
returns-in-Err-clause-fault c =
    let bytes = c.args.bytes.now in
    let body = c.in-Some.rest.now in
    let kind = c.in_ok-kind.kind in
    let parts = c.in-Some.ensures.cases in
    let long : 3 ≤ length bytes = omega arith in
    body_fault_stands bytes c.in-Some.head.now body (λ i. omega (arith, c.type_inv.bytes i)) long parts.0 parts.1 kind c.in_ok-kind.ensures.kind c.in-Err.field-0 c.in-Err.ensures.fault.0 c.in-Err.ensures.fault.1
