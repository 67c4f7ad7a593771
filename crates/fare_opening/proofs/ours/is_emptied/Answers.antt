use Rattle.std.proofs.Common.{◌≡◌, ℕ, List, [], Some, option_map, sym, ap, subst, ◌∙◌}
use Rattle.std.specs.Prelude.{IfSome}
use Rattle.sqlite.specs.Held.{state}
use Rattle.fare_tables.specs.Asking.{Reads}
use Rattle.fare_tables.proofs.Questions.{all_same}
use Rattle.fare_layout.specs.declared.place.TableNumber.{TableNumber}
use Rattle.fare_opening.specs.Moving.{CountsNone}
use Rattle.fare_opening.specs.Sites.{rows_at}
use Rattle.fare_opening.proofs.Unused.{counts_it, count_reads, none_there, counts_there}
use Rattle.fare_opening.proofs.ours.is_emptied.Goals as goal

pub ask_rows-requires : goal.ask_rows-requires
ask_rows-requires g c =
    let d = c.requires.0 in
    let u : TableNumber × List ℕ = (c.in-Some.field-0-0, c.in-Some.text.now) in
    let is : d.unused ≡ Some u = sym c.requires.3 ∙ ap (option_map _) c.in-Some.is in
    count_reads d u c.args.site.now (counts_it d u c.requires.1 is) c.requires.2

pub returns-in_ok-rows-in-Some-clause-emptied : goal.returns-in_ok-rows-in-Some-clause-emptied
returns-in_ok-rows-in-Some-clause-emptied g c clean has =
    let d = c.requires.0 in
    let old = state g.S.Store c.args.conn.now in
    let new = state g.S.Store c.ask_rows.new.conn in
    let w = c.args.site.now in
    let rows = c.in_ok-rows-in-Some.rows.items in
    let u : TableNumber × List ℕ = (c.in-Some.field-0-0, c.in-Some.text.now) in
    let is : d.unused ≡ Some u = sym c.requires.3 ∙ ap (option_map _) c.in-Some.is in
    let named : option_map (λ v. (v.0, v.1.now)) c.args.unused ≡ Some u = ap (option_map _) c.in-Some.is in
    let it = counts_it d u c.requires.1 is in
    let shows = c.in_ok-rows-in-Some.ensures.rows clean in (
      (λ right. subst (λ x. IfSome x (λ (y : TableNumber × List ℕ). rows_at w y.0 old.now.trees ≡ [])) (sym named) (none_there d u w it c.requires.2 old new rows has shows (subst CountsNone c.as_slice.ensures.value (c.count_none.ensures.0 right)))),
      (λ none. c.count_none.ensures.1 (subst CountsNone (sym c.as_slice.ensures.value) (counts_there d u w it c.requires.2 old new rows has shows (subst (λ x. IfSome x (λ (y : TableNumber × List ℕ). rows_at w y.0 old.now.trees ≡ [])) named none)))),
    )

pub returns-in_ok-rows-in-Some-clause-read : goal.returns-in_ok-rows-in-Some-clause-read
returns-in_ok-rows-in-Some-clause-read g c clean has =
    let d = c.requires.0 in
    let old = state g.S.Store c.args.conn.now in
    let new = state g.S.Store c.ask_rows.new.conn in
    let u : TableNumber × List ℕ = (c.in-Some.field-0-0, c.in-Some.text.now) in
    let is : d.unused ≡ Some u = sym c.requires.3 ∙ ap (option_map _) c.in-Some.is in
    let reads : Reads old.now.schema u.1 = subst (λ s. Reads s u.1) (sym has) (count_reads d u c.args.site.now (counts_it d u c.requires.1 is) c.requires.2) in
    all_same u.1 [] old new c.in_ok-rows-in-Some.rows.items reads (c.in_ok-rows-in-Some.ensures.rows clean)
