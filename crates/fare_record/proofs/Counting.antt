-- Days that are gone through, one by one.
use Rattle.std.proofs.Common.{◌≡◌, ℕ, ◌∙◌, ap, arith}
use Rattle.std.specs.Prelude.{Some}
use Rattle.fare_record.specs.Counting.{Span, NextOf, AreLeft}

pub fewer_left : (from end day : ℕ) (s t : Span) → AreLeft from end s → NextOf s (Some day) t → AreLeft from end t
fewer_left from end day s t left steps =
    let next = ap (λ (x : Span). x.next) steps.2 in
    record {
      begun = omega (arith, next, left.begun);
      within = omega (arith, next, left.begun, left.last, steps.1);
      last = ap (λ (x : Span). x.end) steps.2 ∙ left.last;
    }
