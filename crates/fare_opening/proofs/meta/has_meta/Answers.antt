use Rattle.std.proofs.Common.{[], sym, subst}
use Rattle.sqlite.specs.Held.{state}
use Rattle.sqlite.specs.State.{Shown}
use Rattle.fare_tables.specs.Asking.{Reads}
use Rattle.fare_tables.proofs.Questions.{all_same}
use Rattle.fare_opening.specs.MetaRow.{AreMeta}
use Rattle.fare_opening.proofs.Asked.{meta_is, meta_found}
use Rattle.fare_opening.proofs.Standing.{meta_reads}
use Rattle.fare_opening.proofs.meta.has_meta.Goals as goal

pub ask_rows-requires : goal.ask_rows-requires
ask_rows-requires g c = subst (Reads c.args.site.now.schema) (sym c.requires.3) (meta_reads c.requires.0 c.args.site.now c.requires.1 c.requires.2)

pub returns-clause-meta : goal.returns-clause-meta
returns-clause-meta g c clean has =
    let d = c.requires.0 in
    let design = c.requires.1 in
    let site = c.requires.2 in
    let old = state g.S.Store c.args.conn.now in
    let new = state g.S.Store c.ask_rows.new.conn in
    let rows = c.in_ok-rows.rows.items in
    let shows = subst (λ sql. Shown sql [] old new rows) c.requires.3 (c.in_ok-rows.ensures.rows clean) in (
      λ is. meta_is d c.args.format c.args.owner c.args.site.now old new rows design site has shows (subst (AreMeta c.args.format c.args.owner) c.as_slice.ensures.value (c.are_meta.ensures.0 is)),
      λ ours. c.are_meta.ensures.1 (subst (AreMeta c.args.format c.args.owner) (sym c.as_slice.ensures.value) (meta_found d c.args.format c.args.owner c.args.site.now old new rows design site has shows ours)),
    )

pub returns-clause-read : goal.returns-clause-read
returns-clause-read g c clean has =
    let read = c.args.read.now in
    let reads : Reads (state g.S.Store c.args.conn.now).now.schema read = subst (λ s. Reads s read) (sym has) (subst (Reads c.args.site.now.schema) (sym c.requires.3) (meta_reads c.requires.0 c.args.site.now c.requires.1 c.requires.2)) in
    all_same read _ (state g.S.Store c.args.conn.now) (state g.S.Store c.ask_rows.new.conn) c.in_ok-rows.rows.items reads (c.in_ok-rows.ensures.rows clean)
