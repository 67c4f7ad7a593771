use Rattle.std.proofs.Common.{Err}
use Rattle.sqlite.specs.declared.error.Error.TheVariants.{QueryReturnedNoRows}
use Rattle.sqlite.specs.Held.{state}
use Rattle.sqlite.specs.State.{QueriesRow}
use Rattle.sqlite.specs.Values.{bound}
use Rattle.fare_tables.proofs.Questions.{reads_keep, asked_none, asked_survives, asked_live, row_is_open, no_row_is_open}
use Rattle.fare_tables.proofs.asking.ask.Goals as goal

pub returns-in-Ok : goal.returns-in-Ok
returns-in-Ok g c = record {
  row = λ clean reads. c.in-Ok.ensures.row clean;
  same = λ live reads settled. reads_keep c.args.sql.now _ (state g.S.Store c.args.conn.now) (state g.S.Store c.query_row.new.self) _ reads.0 settled live.1 (c.query_row.ensures.row live.0);
  crash = asked_survives c.args.sql.now _ (state g.S.Store c.args.conn.now) (state g.S.Store c.query_row.new.self) c.query_row.ensures.survives;
  live = λ live. asked_live c.args.sql.now _ (state g.S.Store c.args.conn.now) (state g.S.Store c.query_row.new.self) _ (c.query_row.ensures.row live.0) c.query_row.ensures.survives live;
  stays = λ clean. row_is_open c.args.sql.now _ (state g.S.Store c.args.conn.now) (state g.S.Store c.query_row.new.self) c.in-Ok.row (c.in-Ok.ensures.row clean);
  mode = c.query_row.ensures.mode;
}

pub returns-in-Err-QueryReturnedNoRows : goal.returns-in-Err-QueryReturnedNoRows
returns-in-Err-QueryReturnedNoRows g c = record {
  row = λ clean reads.
      let e = c.in-Err-QueryReturnedNoRows.field-0-is in
      let h : QueriesRow c.args.sql.now (bound c.args.params.now) (state g.S.Store c.args.conn.now) (state g.S.Store c.query_row.new.self) (Err QueryReturnedNoRows) = rw e at (c.in-Err-QueryReturnedNoRows.ensures.row clean) in
      asked_none c.args.sql.now _ (state g.S.Store c.args.conn.now) (state g.S.Store c.query_row.new.self) reads h;
  same = λ live reads settled. reads_keep c.args.sql.now _ (state g.S.Store c.args.conn.now) (state g.S.Store c.query_row.new.self) _ reads.0 settled live.1 (c.query_row.ensures.row live.0);
  crash = asked_survives c.args.sql.now _ (state g.S.Store c.args.conn.now) (state g.S.Store c.query_row.new.self) c.query_row.ensures.survives;
  live = λ live. asked_live c.args.sql.now _ (state g.S.Store c.args.conn.now) (state g.S.Store c.query_row.new.self) _ (c.query_row.ensures.row live.0) c.query_row.ensures.survives live;
  stays = λ clean.
      let e = c.in-Err-QueryReturnedNoRows.field-0-is in
      let h : QueriesRow c.args.sql.now (bound c.args.params.now) (state g.S.Store c.args.conn.now) (state g.S.Store c.query_row.new.self) (Err QueryReturnedNoRows) = rw e at (c.in-Err-QueryReturnedNoRows.ensures.row clean) in
      no_row_is_open c.args.sql.now _ (state g.S.Store c.args.conn.now) (state g.S.Store c.query_row.new.self) h;
  mode = c.query_row.ensures.mode;
}

pub returns-in-Err : goal.returns-in-Err
returns-in-Err g c = record {
  row = λ clean reads. tt;
  same = λ live reads settled. reads_keep c.args.sql.now _ (state g.S.Store c.args.conn.now) (state g.S.Store c.query_row.new.self) _ reads.0 settled live.1 (c.query_row.ensures.row live.0);
  crash = asked_survives c.args.sql.now _ (state g.S.Store c.args.conn.now) (state g.S.Store c.query_row.new.self) c.query_row.ensures.survives;
  live = λ live. asked_live c.args.sql.now _ (state g.S.Store c.args.conn.now) (state g.S.Store c.query_row.new.self) _ (c.query_row.ensures.row live.0) c.query_row.ensures.survives live;
  stays = λ clean. tt;
  mode = c.query_row.ensures.mode;
}
