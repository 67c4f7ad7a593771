use Rattle.std.proofs.Common.{◌≡◌, ◌+◌, ◌++◌, ◌∷◌, [], List, ℕ, ap, sym, ◌∙◌, append_assoc, arith}
use Rattle.std.proofs.lemmas.Fmt.{decimal_digit}
use Rattle.std.specs.Fmt.{decimal}
use Rattle.fare_lines.proofs.Pieces.{front_same, front_spaced, text_spaced}
use Rattle.fare_lines.proofs.print.put_number.Goals as goal

pub returns-then-number-lt10-clause-appended : goal.returns-then-number-lt10-clause-appended
returns-then-number-lt10-clause-appended c =
    let old = c.args.out.now.items in
    let digit = 48 + c.args.number in
    let behind : c.push-then-number-lt10.new.self.items ≡ c.push.new.self.items ++ digit ∷ [] =
    c.in_ok-push-2.ensures.items ∙ ap (λ n. c.push.new.self.items ++ n ∷ []) (omega (arith, c.if-number-lt10.true)) in
    behind ∙ ap (λ (l : List ℕ). l ++ digit ∷ []) c.in_ok-push.ensures.items ∙ append_assoc old (32 ∷ []) (digit ∷ [])
    ∙ ap (λ l. old ++ 32 ∷ l) (sym (decimal_digit c.args.number (omega (arith, c.if-number-lt10.true))))

pub returns-in_err-push-clause-front : goal.returns-in_err-push-clause-front
returns-in_err-push-clause-front c = front_same c.args.out.now.items c.push.new.self.items c.in_err-push.ensures.items

pub returns : goal.returns
returns c = record {
  appended = text_spaced c.extend_from_slice.result c.args.out.now.items c.push.new.self.items c.extend_from_slice.new.self.items c.as_bytes.result.now (decimal c.args.number) c.in_ok-push.ensures.items (c.as_bytes.ensures.value ∙ c.format.ensures.text) c.extend_from_slice.ensures.items;
  front = front_spaced c.extend_from_slice.result c.args.out.now.items c.push.new.self.items c.extend_from_slice.new.self.items c.as_bytes.result.now c.in_ok-push.ensures.items c.extend_from_slice.ensures.items;
}
