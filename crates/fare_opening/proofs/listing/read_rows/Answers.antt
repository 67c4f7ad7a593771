use Rattle.std.proofs.Common.{[], sym, subst}
use Rattle.std.proofs.lemmas.Result.{IfOk-weaker}
use Rattle.sqlite.specs.Held.{state}
use Rattle.fare_tables.specs.Asking.{Reads}
use Rattle.fare_tables.proofs.Questions.{all_same}
use Rattle.fare_opening.proofs.ReadRows.{read_only, read_is}
use Rattle.fare_opening.proofs.Standing.{on_any}
use Rattle.fare_opening.proofs.listing.read_rows.Goals as goal

pub ask_rows-requires : goal.ask_rows-requires
ask_rows-requires g c = read_only c.requires.0 c.requires.1 c.requires.2 c.args.read.now c.args.site.now c.requires.3 c.requires.4

pub returns-clause-rows : goal.returns-clause-rows
returns-clause-rows g c clean has =
    let old = state g.S.Store c.args.conn.now in
    let new = state g.S.Store c.ask_rows.new.conn in
    IfOk-weaker c.ask_rows.result _ _ (λ rows shows p k columns it site. read_is p k columns c.args.read.now c.args.site.now it site old new rows.items has shows) (c.ask_rows.ensures.rows clean)

pub returns-clause-read : goal.returns-clause-read
returns-clause-read g c clean has =
    let old = state g.S.Store c.args.conn.now in
    let new = state g.S.Store c.ask_rows.new.conn in
    let reads : Reads old.now.schema c.args.read.now = subst (λ s. Reads s c.args.read.now) (sym has) (read_only c.requires.0 c.requires.1 c.requires.2 c.args.read.now c.args.site.now c.requires.3 c.requires.4) in
    on_any c.ask_rows.result _ _ (λ rows shows. all_same c.args.read.now [] old new rows.items reads shows) (c.ask_rows.ensures.rows clean)
