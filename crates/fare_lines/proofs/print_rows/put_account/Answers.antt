use Rattle.std.proofs.Common.{◌≡◌, ◌++◌, ◌∷◌, ◌∙◌, ap, rules}
use Rattle.std.specs.Fmt.{decimal}
use Rattle.std.specs.Prelude.{codes}
use Rattle.fare_lines.proofs.RowLines.{front_behind, front_stays}
use Rattle.fare_lines.proofs.Pieces.{front_same, front_named, four_numbers}
use Rattle.fare_lines.proofs.print_rows.put_account.Goals as goal

pub returns-in_err-put_number-clause-front : goal.returns-in_err-put_number-clause-front
returns-in_err-put_number-clause-front c =
    front_named c.args.out.now.items (codes "account") _ c.put_named.new.out.items c.put_number.new.out.items c.in_ok-put_named.ensures.appended c.put_number.ensures.front

pub returns-in_err-put_number-2-clause-front : goal.returns-in_err-put_number-2-clause-front
returns-in_err-put_number-2-clause-front c =
    front_named c.args.out.now.items (codes "account") _ c.put_named.new.out.items c.put_number-2.new.out.items c.in_ok-put_named.ensures.appended (front_behind c.put_named.new.out.items _ c.put_number.new.out.items c.put_number-2.new.out.items c.in_ok-put_number.ensures.appended c.put_number-2.ensures.front)

pub returns-in_err-put_number-3-clause-front : goal.returns-in_err-put_number-3-clause-front
returns-in_err-put_number-3-clause-front c =
    front_named c.args.out.now.items (codes "account") _ c.put_named.new.out.items c.put_number-3.new.out.items c.in_ok-put_named.ensures.appended (front_behind c.put_named.new.out.items _ c.put_number.new.out.items c.put_number-3.new.out.items c.in_ok-put_number.ensures.appended (front_behind c.put_number.new.out.items _ c.put_number-2.new.out.items c.put_number-3.new.out.items c.in_ok-put_number-2.ensures.appended c.put_number-3.ensures.front))

pub returns-in_err-push-clause-front : goal.returns-in_err-push-clause-front
returns-in_err-push-clause-front c =
    front_named c.args.out.now.items (codes "account") _ c.put_named.new.out.items c.push.new.self.items c.in_ok-put_named.ensures.appended (front_behind c.put_named.new.out.items _ c.put_number.new.out.items c.push.new.self.items c.in_ok-put_number.ensures.appended (front_behind c.put_number.new.out.items _ c.put_number-2.new.out.items c.push.new.self.items c.in_ok-put_number-2.ensures.appended (front_behind c.put_number-2.new.out.items _ c.put_number-3.new.out.items c.push.new.self.items c.in_ok-put_number-3.ensures.appended (front_same c.put_number-3.new.out.items c.push.new.self.items c.in_err-push.ensures.items))))

pub returns : goal.returns
returns c =
    let row = c.args.row.now in
    let product : c.from.result ≡ row.account.product = search rules in
    let token : c.get-2.result ≡ row.account.token = search rules in
    let amount : c.get-3.result ≡ row.amount = search rules in
    let first = c.in_ok-put_named.ensures.appended ∙ ap (λ n. c.args.out.now.items ++ codes "account" ++ 32 ∷ decimal n) product in
    let second = c.in_ok-put_number.ensures.appended ∙ ap (λ n. c.put_named.new.out.items ++ 32 ∷ decimal n) token in
    let fourth = c.in_ok-put_number-3.ensures.appended ∙ ap (λ n. c.put_number-2.new.out.items ++ 32 ∷ decimal n) amount in
    let line = four_numbers c.args.out.now.items c.put_named.new.out.items c.put_number.new.out.items c.put_number-2.new.out.items c.put_number-3.new.out.items c.push.new.self.items (codes "account") (decimal row.account.product) (decimal row.account.token) (decimal row.rides) (decimal row.amount) first second c.in_ok-put_number-2.ensures.appended fourth c.in_ok-push.ensures.items in
    record { appended = line; front = front_stays c.args.out.now.items _ c.push.new.self.items line }
