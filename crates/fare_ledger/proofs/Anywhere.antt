-- What the texts of a ledger mean wherever its tables stand among seven.
use Rattle.std.proofs.Common.{◌≡◌, ◌<◌, ◌≤◌, ◌*◌, ℕ, suc, length, List, refl, Some, codes, [], ◌∷◌, arith}
use Rattle.sqlite.specs.Schema.{Schema}
use Rattle.sqlite.specs.Table.{Table}
use Rattle.sqlite_tied.specs.Compute.{everything}
use Rattle.sqlite_schema.specs.Names.{same_name, table_named}
use Rattle.fare_tables.specs.Queries.{meta_table}
use Rattle.fare_layout.specs.declared.place.Place.{Place}
use Rattle.fare_layout.specs.Commands.{IsMeant}
use Rattle.fare_opening.proofs.Among.{Has, step, one_more, none_more, one_tree, last_tree}
use Rattle.fare_opening.proofs.Meanings.{IsRead, select_means, insert_means, upsert_means, update_means, delete_means}
use Rattle.fare_ledger.specs.Tables.{lane_table, tap_table, stated_table, retired_table, routed_table, held_table}
use Rattle.fare_ledger.proofs.Texts.{lane_text, lane_at, stated_text, stated_at, day_text, day_at, between_text, between_at, begun_text, begun_at, later_text, later_at, statements_text, statements_at, meta_text, meta_at, put_meta_text, put_meta_at, set_meta_text, set_meta_at, put_lane_text, put_lane_at, put_tap_text, put_tap_at, put_stated_text, put_stated_at, retired_text, retired_at, put_retired_text, put_retired_at, all_retired_text, all_retired_at, unused_text, unused_at, put_older_text, put_older_at, clear_older_text, clear_older_at, since_text, since_at, put_since_text, put_since_at, kept_text, kept_at, cut_text, cut_at, told_text, told_at}

pub lane_anywhere : (s : Schema) (p : Place) → Has s (codes "lane") lane_table p → p.at < 7 → IsMeant s lane_text (lane_at p)
unfolding everything same_name
lane_anywhere s p has low =
    let t = lane_table p.tree in
    let P : List Table → ℕ → Type 0 = λ ts at. table_named (record s { tables = ts }) (codes "lane") ≡ Some at → IsRead (record s { tables = ts }) p.tree t → IsMeant (record s { tables = ts }) lane_text (lane_at (record { at = at; tree = p.tree })) in
    step P t (λ ys named read. select_means (record s { tables = t ∷ ys }) lane_text (codes "lane") 0 p.tree t named read _ _ _ _ _ refl refl refl refl refl refl refl refl refl refl refl) (λ y0.
    step (λ ts at. P (y0 ∷ ts) (suc (at))) t (λ ys named read. select_means (record s { tables = y0 ∷ t ∷ ys }) lane_text (codes "lane") 1 p.tree t named read _ _ _ _ _ refl refl refl refl refl refl refl refl refl refl refl) (λ y1.
    step (λ ts at. P (y0 ∷ y1 ∷ ts) (suc (suc (at)))) t (λ ys named read. select_means (record s { tables = y0 ∷ y1 ∷ t ∷ ys }) lane_text (codes "lane") 2 p.tree t named read _ _ _ _ _ refl refl refl refl refl refl refl refl refl refl refl) (λ y2.
    step (λ ts at. P (y0 ∷ y1 ∷ y2 ∷ ts) (suc (suc (suc (at))))) t (λ ys named read. select_means (record s { tables = y0 ∷ y1 ∷ y2 ∷ t ∷ ys }) lane_text (codes "lane") 3 p.tree t named read _ _ _ _ _ refl refl refl refl refl refl refl refl refl refl refl) (λ y3.
    step (λ ts at. P (y0 ∷ y1 ∷ y2 ∷ y3 ∷ ts) (suc (suc (suc (suc (at)))))) t (λ ys named read. select_means (record s { tables = y0 ∷ y1 ∷ y2 ∷ y3 ∷ t ∷ ys }) lane_text (codes "lane") 4 p.tree t named read _ _ _ _ _ refl refl refl refl refl refl refl refl refl refl refl) (λ y4.
    step (λ ts at. P (y0 ∷ y1 ∷ y2 ∷ y3 ∷ y4 ∷ ts) (suc (suc (suc (suc (suc (at))))))) t (λ ys named read. select_means (record s { tables = y0 ∷ y1 ∷ y2 ∷ y3 ∷ y4 ∷ t ∷ ys }) lane_text (codes "lane") 5 p.tree t named read _ _ _ _ _ refl refl refl refl refl refl refl refl refl refl refl) (λ y5.
    step (λ ts at. P (y0 ∷ y1 ∷ y2 ∷ y3 ∷ y4 ∷ y5 ∷ ts) (suc (suc (suc (suc (suc (suc (at)))))))) t (λ ys named read. select_means (record s { tables = y0 ∷ y1 ∷ y2 ∷ y3 ∷ y4 ∷ y5 ∷ t ∷ ys }) lane_text (codes "lane") 6 p.tree t named read _ _ _ _ _ refl refl refl refl refl refl refl refl refl refl refl) (λ y6 ts at past. absurd (omega (arith, past))))))))) s.tables p.at low has.there has.named has.read

pub stated_anywhere : (s : Schema) (p : Place) → Has s (codes "stated") stated_table p → p.at < 7 → IsMeant s stated_text (stated_at p)
unfolding everything same_name
stated_anywhere s p has low =
    let t = stated_table p.tree in
    let P : List Table → ℕ → Type 0 = λ ts at. table_named (record s { tables = ts }) (codes "stated") ≡ Some at → IsRead (record s { tables = ts }) p.tree t → IsMeant (record s { tables = ts }) stated_text (stated_at (record { at = at; tree = p.tree })) in
    step P t (λ ys named read. select_means (record s { tables = t ∷ ys }) stated_text (codes "stated") 0 p.tree t named read _ _ _ _ _ refl refl refl refl refl refl refl refl refl refl refl) (λ y0.
    step (λ ts at. P (y0 ∷ ts) (suc (at))) t (λ ys named read. select_means (record s { tables = y0 ∷ t ∷ ys }) stated_text (codes "stated") 1 p.tree t named read _ _ _ _ _ refl refl refl refl refl refl refl refl refl refl refl) (λ y1.
    step (λ ts at. P (y0 ∷ y1 ∷ ts) (suc (suc (at)))) t (λ ys named read. select_means (record s { tables = y0 ∷ y1 ∷ t ∷ ys }) stated_text (codes "stated") 2 p.tree t named read _ _ _ _ _ refl refl refl refl refl refl refl refl refl refl refl) (λ y2.
    step (λ ts at. P (y0 ∷ y1 ∷ y2 ∷ ts) (suc (suc (suc (at))))) t (λ ys named read. select_means (record s { tables = y0 ∷ y1 ∷ y2 ∷ t ∷ ys }) stated_text (codes "stated") 3 p.tree t named read _ _ _ _ _ refl refl refl refl refl refl refl refl refl refl refl) (λ y3.
    step (λ ts at. P (y0 ∷ y1 ∷ y2 ∷ y3 ∷ ts) (suc (suc (suc (suc (at)))))) t (λ ys named read. select_means (record s { tables = y0 ∷ y1 ∷ y2 ∷ y3 ∷ t ∷ ys }) stated_text (codes "stated") 4 p.tree t named read _ _ _ _ _ refl refl refl refl refl refl refl refl refl refl refl) (λ y4.
    step (λ ts at. P (y0 ∷ y1 ∷ y2 ∷ y3 ∷ y4 ∷ ts) (suc (suc (suc (suc (suc (at))))))) t (λ ys named read. select_means (record s { tables = y0 ∷ y1 ∷ y2 ∷ y3 ∷ y4 ∷ t ∷ ys }) stated_text (codes "stated") 5 p.tree t named read _ _ _ _ _ refl refl refl refl refl refl refl refl refl refl refl) (λ y5.
    step (λ ts at. P (y0 ∷ y1 ∷ y2 ∷ y3 ∷ y4 ∷ y5 ∷ ts) (suc (suc (suc (suc (suc (suc (at)))))))) t (λ ys named read. select_means (record s { tables = y0 ∷ y1 ∷ y2 ∷ y3 ∷ y4 ∷ y5 ∷ t ∷ ys }) stated_text (codes "stated") 6 p.tree t named read _ _ _ _ _ refl refl refl refl refl refl refl refl refl refl refl) (λ y6 ts at past. absurd (omega (arith, past))))))))) s.tables p.at low has.there has.named has.read

pub day_anywhere : (s : Schema) (p : Place) → Has s (codes "tap2") routed_table p → p.at < 7 → IsMeant s day_text (day_at p)
unfolding everything same_name
day_anywhere s p has low =
    let t = routed_table p.tree in
    let P : List Table → ℕ → Type 0 = λ ts at. table_named (record s { tables = ts }) (codes "tap2") ≡ Some at → IsRead (record s { tables = ts }) p.tree t → IsMeant (record s { tables = ts }) day_text (day_at (record { at = at; tree = p.tree })) in
    step P t (λ ys named read. select_means (record s { tables = t ∷ ys }) day_text (codes "tap2") 0 p.tree t named read _ _ _ _ _ refl refl refl refl refl refl refl refl refl refl refl) (λ y0.
    step (λ ts at. P (y0 ∷ ts) (suc (at))) t (λ ys named read. select_means (record s { tables = y0 ∷ t ∷ ys }) day_text (codes "tap2") 1 p.tree t named read _ _ _ _ _ refl refl refl refl refl refl refl refl refl refl refl) (λ y1.
    step (λ ts at. P (y0 ∷ y1 ∷ ts) (suc (suc (at)))) t (λ ys named read. select_means (record s { tables = y0 ∷ y1 ∷ t ∷ ys }) day_text (codes "tap2") 2 p.tree t named read _ _ _ _ _ refl refl refl refl refl refl refl refl refl refl refl) (λ y2.
    step (λ ts at. P (y0 ∷ y1 ∷ y2 ∷ ts) (suc (suc (suc (at))))) t (λ ys named read. select_means (record s { tables = y0 ∷ y1 ∷ y2 ∷ t ∷ ys }) day_text (codes "tap2") 3 p.tree t named read _ _ _ _ _ refl refl refl refl refl refl refl refl refl refl refl) (λ y3.
    step (λ ts at. P (y0 ∷ y1 ∷ y2 ∷ y3 ∷ ts) (suc (suc (suc (suc (at)))))) t (λ ys named read. select_means (record s { tables = y0 ∷ y1 ∷ y2 ∷ y3 ∷ t ∷ ys }) day_text (codes "tap2") 4 p.tree t named read _ _ _ _ _ refl refl refl refl refl refl refl refl refl refl refl) (λ y4.
    step (λ ts at. P (y0 ∷ y1 ∷ y2 ∷ y3 ∷ y4 ∷ ts) (suc (suc (suc (suc (suc (at))))))) t (λ ys named read. select_means (record s { tables = y0 ∷ y1 ∷ y2 ∷ y3 ∷ y4 ∷ t ∷ ys }) day_text (codes "tap2") 5 p.tree t named read _ _ _ _ _ refl refl refl refl refl refl refl refl refl refl refl) (λ y5.
    step (λ ts at. P (y0 ∷ y1 ∷ y2 ∷ y3 ∷ y4 ∷ y5 ∷ ts) (suc (suc (suc (suc (suc (suc (at)))))))) t (λ ys named read. select_means (record s { tables = y0 ∷ y1 ∷ y2 ∷ y3 ∷ y4 ∷ y5 ∷ t ∷ ys }) day_text (codes "tap2") 6 p.tree t named read _ _ _ _ _ refl refl refl refl refl refl refl refl refl refl refl) (λ y6 ts at past. absurd (omega (arith, past))))))))) s.tables p.at low has.there has.named has.read

pub between_anywhere : (s : Schema) (p : Place) → Has s (codes "tap2") routed_table p → p.at < 7 → IsMeant s between_text (between_at p)
unfolding everything same_name
between_anywhere s p has low =
    let t = routed_table p.tree in
    let P : List Table → ℕ → Type 0 = λ ts at. table_named (record s { tables = ts }) (codes "tap2") ≡ Some at → IsRead (record s { tables = ts }) p.tree t → IsMeant (record s { tables = ts }) between_text (between_at (record { at = at; tree = p.tree })) in
    step P t (λ ys named read. select_means (record s { tables = t ∷ ys }) between_text (codes "tap2") 0 p.tree t named read _ _ _ _ _ refl refl refl refl refl refl refl refl refl refl refl) (λ y0.
    step (λ ts at. P (y0 ∷ ts) (suc (at))) t (λ ys named read. select_means (record s { tables = y0 ∷ t ∷ ys }) between_text (codes "tap2") 1 p.tree t named read _ _ _ _ _ refl refl refl refl refl refl refl refl refl refl refl) (λ y1.
    step (λ ts at. P (y0 ∷ y1 ∷ ts) (suc (suc (at)))) t (λ ys named read. select_means (record s { tables = y0 ∷ y1 ∷ t ∷ ys }) between_text (codes "tap2") 2 p.tree t named read _ _ _ _ _ refl refl refl refl refl refl refl refl refl refl refl) (λ y2.
    step (λ ts at. P (y0 ∷ y1 ∷ y2 ∷ ts) (suc (suc (suc (at))))) t (λ ys named read. select_means (record s { tables = y0 ∷ y1 ∷ y2 ∷ t ∷ ys }) between_text (codes "tap2") 3 p.tree t named read _ _ _ _ _ refl refl refl refl refl refl refl refl refl refl refl) (λ y3.
    step (λ ts at. P (y0 ∷ y1 ∷ y2 ∷ y3 ∷ ts) (suc (suc (suc (suc (at)))))) t (λ ys named read. select_means (record s { tables = y0 ∷ y1 ∷ y2 ∷ y3 ∷ t ∷ ys }) between_text (codes "tap2") 4 p.tree t named read _ _ _ _ _ refl refl refl refl refl refl refl refl refl refl refl) (λ y4.
    step (λ ts at. P (y0 ∷ y1 ∷ y2 ∷ y3 ∷ y4 ∷ ts) (suc (suc (suc (suc (suc (at))))))) t (λ ys named read. select_means (record s { tables = y0 ∷ y1 ∷ y2 ∷ y3 ∷ y4 ∷ t ∷ ys }) between_text (codes "tap2") 5 p.tree t named read _ _ _ _ _ refl refl refl refl refl refl refl refl refl refl refl) (λ y5.
    step (λ ts at. P (y0 ∷ y1 ∷ y2 ∷ y3 ∷ y4 ∷ y5 ∷ ts) (suc (suc (suc (suc (suc (suc (at)))))))) t (λ ys named read. select_means (record s { tables = y0 ∷ y1 ∷ y2 ∷ y3 ∷ y4 ∷ y5 ∷ t ∷ ys }) between_text (codes "tap2") 6 p.tree t named read _ _ _ _ _ refl refl refl refl refl refl refl refl refl refl refl) (λ y6 ts at past. absurd (omega (arith, past))))))))) s.tables p.at low has.there has.named has.read

pub begun_anywhere : (s : Schema) (p : Place) → Has s (codes "lane") lane_table p → p.at < 7 → IsMeant s begun_text (begun_at p)
unfolding everything same_name
begun_anywhere s p has low =
    let t = lane_table p.tree in
    let P : List Table → ℕ → Type 0 = λ ts at. table_named (record s { tables = ts }) (codes "lane") ≡ Some at → IsRead (record s { tables = ts }) p.tree t → IsMeant (record s { tables = ts }) begun_text (begun_at (record { at = at; tree = p.tree })) in
    step P t (λ ys named read. select_means (record s { tables = t ∷ ys }) begun_text (codes "lane") 0 p.tree t named read _ _ _ _ _ refl refl refl refl refl refl refl refl refl refl refl) (λ y0.
    step (λ ts at. P (y0 ∷ ts) (suc (at))) t (λ ys named read. select_means (record s { tables = y0 ∷ t ∷ ys }) begun_text (codes "lane") 1 p.tree t named read _ _ _ _ _ refl refl refl refl refl refl refl refl refl refl refl) (λ y1.
    step (λ ts at. P (y0 ∷ y1 ∷ ts) (suc (suc (at)))) t (λ ys named read. select_means (record s { tables = y0 ∷ y1 ∷ t ∷ ys }) begun_text (codes "lane") 2 p.tree t named read _ _ _ _ _ refl refl refl refl refl refl refl refl refl refl refl) (λ y2.
    step (λ ts at. P (y0 ∷ y1 ∷ y2 ∷ ts) (suc (suc (suc (at))))) t (λ ys named read. select_means (record s { tables = y0 ∷ y1 ∷ y2 ∷ t ∷ ys }) begun_text (codes "lane") 3 p.tree t named read _ _ _ _ _ refl refl refl refl refl refl refl refl refl refl refl) (λ y3.
    step (λ ts at. P (y0 ∷ y1 ∷ y2 ∷ y3 ∷ ts) (suc (suc (suc (suc (at)))))) t (λ ys named read. select_means (record s { tables = y0 ∷ y1 ∷ y2 ∷ y3 ∷ t ∷ ys }) begun_text (codes "lane") 4 p.tree t named read _ _ _ _ _ refl refl refl refl refl refl refl refl refl refl refl) (λ y4.
    step (λ ts at. P (y0 ∷ y1 ∷ y2 ∷ y3 ∷ y4 ∷ ts) (suc (suc (suc (suc (suc (at))))))) t (λ ys named read. select_means (record s { tables = y0 ∷ y1 ∷ y2 ∷ y3 ∷ y4 ∷ t ∷ ys }) begun_text (codes "lane") 5 p.tree t named read _ _ _ _ _ refl refl refl refl refl refl refl refl refl refl refl) (λ y5.
    step (λ ts at. P (y0 ∷ y1 ∷ y2 ∷ y3 ∷ y4 ∷ y5 ∷ ts) (suc (suc (suc (suc (suc (suc (at)))))))) t (λ ys named read. select_means (record s { tables = y0 ∷ y1 ∷ y2 ∷ y3 ∷ y4 ∷ y5 ∷ t ∷ ys }) begun_text (codes "lane") 6 p.tree t named read _ _ _ _ _ refl refl refl refl refl refl refl refl refl refl refl) (λ y6 ts at past. absurd (omega (arith, past))))))))) s.tables p.at low has.there has.named has.read

pub later_anywhere : (s : Schema) (p : Place) → Has s (codes "held") held_table p → p.at < 7 → IsMeant s later_text (later_at p)
unfolding everything same_name
later_anywhere s p has low =
    let t = held_table p.tree in
    let P : List Table → ℕ → Type 0 = λ ts at. table_named (record s { tables = ts }) (codes "held") ≡ Some at → IsRead (record s { tables = ts }) p.tree t → IsMeant (record s { tables = ts }) later_text (later_at (record { at = at; tree = p.tree })) in
    step P t (λ ys named read. select_means (record s { tables = t ∷ ys }) later_text (codes "held") 0 p.tree t named read _ _ _ _ _ refl refl refl refl refl refl refl refl refl refl refl) (λ y0.
    step (λ ts at. P (y0 ∷ ts) (suc (at))) t (λ ys named read. select_means (record s { tables = y0 ∷ t ∷ ys }) later_text (codes "held") 1 p.tree t named read _ _ _ _ _ refl refl refl refl refl refl refl refl refl refl refl) (λ y1.
    step (λ ts at. P (y0 ∷ y1 ∷ ts) (suc (suc (at)))) t (λ ys named read. select_means (record s { tables = y0 ∷ y1 ∷ t ∷ ys }) later_text (codes "held") 2 p.tree t named read _ _ _ _ _ refl refl refl refl refl refl refl refl refl refl refl) (λ y2.
    step (λ ts at. P (y0 ∷ y1 ∷ y2 ∷ ts) (suc (suc (suc (at))))) t (λ ys named read. select_means (record s { tables = y0 ∷ y1 ∷ y2 ∷ t ∷ ys }) later_text (codes "held") 3 p.tree t named read _ _ _ _ _ refl refl refl refl refl refl refl refl refl refl refl) (λ y3.
    step (λ ts at. P (y0 ∷ y1 ∷ y2 ∷ y3 ∷ ts) (suc (suc (suc (suc (at)))))) t (λ ys named read. select_means (record s { tables = y0 ∷ y1 ∷ y2 ∷ y3 ∷ t ∷ ys }) later_text (codes "held") 4 p.tree t named read _ _ _ _ _ refl refl refl refl refl refl refl refl refl refl refl) (λ y4.
    step (λ ts at. P (y0 ∷ y1 ∷ y2 ∷ y3 ∷ y4 ∷ ts) (suc (suc (suc (suc (suc (at))))))) t (λ ys named read. select_means (record s { tables = y0 ∷ y1 ∷ y2 ∷ y3 ∷ y4 ∷ t ∷ ys }) later_text (codes "held") 5 p.tree t named read _ _ _ _ _ refl refl refl refl refl refl refl refl refl refl refl) (λ y5.
    step (λ ts at. P (y0 ∷ y1 ∷ y2 ∷ y3 ∷ y4 ∷ y5 ∷ ts) (suc (suc (suc (suc (suc (suc (at)))))))) t (λ ys named read. select_means (record s { tables = y0 ∷ y1 ∷ y2 ∷ y3 ∷ y4 ∷ y5 ∷ t ∷ ys }) later_text (codes "held") 6 p.tree t named read _ _ _ _ _ refl refl refl refl refl refl refl refl refl refl refl) (λ y6 ts at past. absurd (omega (arith, past))))))))) s.tables p.at low has.there has.named has.read

pub statements_anywhere : (s : Schema) (p : Place) → Has s (codes "stated") stated_table p → p.at < 7 → IsMeant s statements_text (statements_at p)
unfolding everything same_name
statements_anywhere s p has low =
    let t = stated_table p.tree in
    let P : List Table → ℕ → Type 0 = λ ts at. table_named (record s { tables = ts }) (codes "stated") ≡ Some at → IsRead (record s { tables = ts }) p.tree t → IsMeant (record s { tables = ts }) statements_text (statements_at (record { at = at; tree = p.tree })) in
    step P t (λ ys named read. select_means (record s { tables = t ∷ ys }) statements_text (codes "stated") 0 p.tree t named read _ _ _ _ _ refl refl refl refl refl refl refl refl refl refl refl) (λ y0.
    step (λ ts at. P (y0 ∷ ts) (suc (at))) t (λ ys named read. select_means (record s { tables = y0 ∷ t ∷ ys }) statements_text (codes "stated") 1 p.tree t named read _ _ _ _ _ refl refl refl refl refl refl refl refl refl refl refl) (λ y1.
    step (λ ts at. P (y0 ∷ y1 ∷ ts) (suc (suc (at)))) t (λ ys named read. select_means (record s { tables = y0 ∷ y1 ∷ t ∷ ys }) statements_text (codes "stated") 2 p.tree t named read _ _ _ _ _ refl refl refl refl refl refl refl refl refl refl refl) (λ y2.
    step (λ ts at. P (y0 ∷ y1 ∷ y2 ∷ ts) (suc (suc (suc (at))))) t (λ ys named read. select_means (record s { tables = y0 ∷ y1 ∷ y2 ∷ t ∷ ys }) statements_text (codes "stated") 3 p.tree t named read _ _ _ _ _ refl refl refl refl refl refl refl refl refl refl refl) (λ y3.
    step (λ ts at. P (y0 ∷ y1 ∷ y2 ∷ y3 ∷ ts) (suc (suc (suc (suc (at)))))) t (λ ys named read. select_means (record s { tables = y0 ∷ y1 ∷ y2 ∷ y3 ∷ t ∷ ys }) statements_text (codes "stated") 4 p.tree t named read _ _ _ _ _ refl refl refl refl refl refl refl refl refl refl refl) (λ y4.
    step (λ ts at. P (y0 ∷ y1 ∷ y2 ∷ y3 ∷ y4 ∷ ts) (suc (suc (suc (suc (suc (at))))))) t (λ ys named read. select_means (record s { tables = y0 ∷ y1 ∷ y2 ∷ y3 ∷ y4 ∷ t ∷ ys }) statements_text (codes "stated") 5 p.tree t named read _ _ _ _ _ refl refl refl refl refl refl refl refl refl refl refl) (λ y5.
    step (λ ts at. P (y0 ∷ y1 ∷ y2 ∷ y3 ∷ y4 ∷ y5 ∷ ts) (suc (suc (suc (suc (suc (suc (at)))))))) t (λ ys named read. select_means (record s { tables = y0 ∷ y1 ∷ y2 ∷ y3 ∷ y4 ∷ y5 ∷ t ∷ ys }) statements_text (codes "stated") 6 p.tree t named read _ _ _ _ _ refl refl refl refl refl refl refl refl refl refl refl) (λ y6 ts at past. absurd (omega (arith, past))))))))) s.tables p.at low has.there has.named has.read

pub meta_anywhere : (s : Schema) (p : Place) → Has s (codes "meta") meta_table p → p.at < 7 → p.at ≤ p.tree → p.tree ≤ 2 * p.at → IsMeant s meta_text (meta_at p)
unfolding everything same_name
meta_anywhere s p has low least most =
    let P : List Table → ℕ → Type 0 = λ ts at. at ≤ p.tree → p.tree ≤ 2 * at → table_named (record s { tables = ts }) (codes "meta") ≡ Some at → IsRead (record s { tables = ts }) p.tree (meta_table p.tree) → IsMeant (record s { tables = ts }) meta_text (meta_at (record { at = at; tree = p.tree })) in
    step P (meta_table p.tree) (λ ys least most. last_tree (λ tree. table_named (record s { tables = meta_table tree ∷ ys }) (codes "meta") ≡ Some 0 → IsRead (record s { tables = meta_table tree ∷ ys }) tree (meta_table tree) → IsMeant (record s { tables = meta_table tree ∷ ys }) meta_text (meta_at (record { at = 0; tree = tree }))) 0 (λ named read. select_means (record s { tables = meta_table 0 ∷ ys }) meta_text (codes "meta") 0 0 (meta_table 0) named read _ _ _ _ _ refl refl refl refl refl refl refl refl refl refl refl) p.tree (omega (arith, least)) (omega (arith, most))) (λ y0.
    step (λ ts at. P (y0 ∷ ts) (suc (at))) (meta_table p.tree) (λ ys least most. one_tree 0 (λ tree. table_named (record s { tables = y0 ∷ meta_table tree ∷ ys }) (codes "meta") ≡ Some 1 → IsRead (record s { tables = y0 ∷ meta_table tree ∷ ys }) tree (meta_table tree) → IsMeant (record s { tables = y0 ∷ meta_table tree ∷ ys }) meta_text (meta_at (record { at = 1; tree = tree }))) 1 (λ named read. select_means (record s { tables = y0 ∷ meta_table 1 ∷ ys }) meta_text (codes "meta") 1 1 (meta_table 1) named read _ _ _ _ _ refl refl refl refl refl refl refl refl refl refl refl) (last_tree (λ tree. table_named (record s { tables = y0 ∷ meta_table tree ∷ ys }) (codes "meta") ≡ Some 1 → IsRead (record s { tables = y0 ∷ meta_table tree ∷ ys }) tree (meta_table tree) → IsMeant (record s { tables = y0 ∷ meta_table tree ∷ ys }) meta_text (meta_at (record { at = 1; tree = tree }))) 2 (λ named read. select_means (record s { tables = y0 ∷ meta_table 2 ∷ ys }) meta_text (codes "meta") 1 2 (meta_table 2) named read _ _ _ _ _ refl refl refl refl refl refl refl refl refl refl refl)) p.tree (omega (arith, least)) (omega (arith, most))) (λ y1.
    step (λ ts at. P (y0 ∷ y1 ∷ ts) (suc (suc (at)))) (meta_table p.tree) (λ ys least most. one_tree 1 (λ tree. table_named (record s { tables = y0 ∷ y1 ∷ meta_table tree ∷ ys }) (codes "meta") ≡ Some 2 → IsRead (record s { tables = y0 ∷ y1 ∷ meta_table tree ∷ ys }) tree (meta_table tree) → IsMeant (record s { tables = y0 ∷ y1 ∷ meta_table tree ∷ ys }) meta_text (meta_at (record { at = 2; tree = tree }))) 2 (λ named read. select_means (record s { tables = y0 ∷ y1 ∷ meta_table 2 ∷ ys }) meta_text (codes "meta") 2 2 (meta_table 2) named read _ _ _ _ _ refl refl refl refl refl refl refl refl refl refl refl) (one_tree 0 (λ tree. table_named (record s { tables = y0 ∷ y1 ∷ meta_table tree ∷ ys }) (codes "meta") ≡ Some 2 → IsRead (record s { tables = y0 ∷ y1 ∷ meta_table tree ∷ ys }) tree (meta_table tree) → IsMeant (record s { tables = y0 ∷ y1 ∷ meta_table tree ∷ ys }) meta_text (meta_at (record { at = 2; tree = tree }))) 3 (λ named read. select_means (record s { tables = y0 ∷ y1 ∷ meta_table 3 ∷ ys }) meta_text (codes "meta") 2 3 (meta_table 3) named read _ _ _ _ _ refl refl refl refl refl refl refl refl refl refl refl) (last_tree (λ tree. table_named (record s { tables = y0 ∷ y1 ∷ meta_table tree ∷ ys }) (codes "meta") ≡ Some 2 → IsRead (record s { tables = y0 ∷ y1 ∷ meta_table tree ∷ ys }) tree (meta_table tree) → IsMeant (record s { tables = y0 ∷ y1 ∷ meta_table tree ∷ ys }) meta_text (meta_at (record { at = 2; tree = tree }))) 4 (λ named read. select_means (record s { tables = y0 ∷ y1 ∷ meta_table 4 ∷ ys }) meta_text (codes "meta") 2 4 (meta_table 4) named read _ _ _ _ _ refl refl refl refl refl refl refl refl refl refl refl))) p.tree (omega (arith, least)) (omega (arith, most))) (λ y2.
    step (λ ts at. P (y0 ∷ y1 ∷ y2 ∷ ts) (suc (suc (suc (at))))) (meta_table p.tree) (λ ys least most. one_tree 2 (λ tree. table_named (record s { tables = y0 ∷ y1 ∷ y2 ∷ meta_table tree ∷ ys }) (codes "meta") ≡ Some 3 → IsRead (record s { tables = y0 ∷ y1 ∷ y2 ∷ meta_table tree ∷ ys }) tree (meta_table tree) → IsMeant (record s { tables = y0 ∷ y1 ∷ y2 ∷ meta_table tree ∷ ys }) meta_text (meta_at (record { at = 3; tree = tree }))) 3 (λ named read. select_means (record s { tables = y0 ∷ y1 ∷ y2 ∷ meta_table 3 ∷ ys }) meta_text (codes "meta") 3 3 (meta_table 3) named read _ _ _ _ _ refl refl refl refl refl refl refl refl refl refl refl) (one_tree 1 (λ tree. table_named (record s { tables = y0 ∷ y1 ∷ y2 ∷ meta_table tree ∷ ys }) (codes "meta") ≡ Some 3 → IsRead (record s { tables = y0 ∷ y1 ∷ y2 ∷ meta_table tree ∷ ys }) tree (meta_table tree) → IsMeant (record s { tables = y0 ∷ y1 ∷ y2 ∷ meta_table tree ∷ ys }) meta_text (meta_at (record { at = 3; tree = tree }))) 4 (λ named read. select_means (record s { tables = y0 ∷ y1 ∷ y2 ∷ meta_table 4 ∷ ys }) meta_text (codes "meta") 3 4 (meta_table 4) named read _ _ _ _ _ refl refl refl refl refl refl refl refl refl refl refl) (one_tree 0 (λ tree. table_named (record s { tables = y0 ∷ y1 ∷ y2 ∷ meta_table tree ∷ ys }) (codes "meta") ≡ Some 3 → IsRead (record s { tables = y0 ∷ y1 ∷ y2 ∷ meta_table tree ∷ ys }) tree (meta_table tree) → IsMeant (record s { tables = y0 ∷ y1 ∷ y2 ∷ meta_table tree ∷ ys }) meta_text (meta_at (record { at = 3; tree = tree }))) 5 (λ named read. select_means (record s { tables = y0 ∷ y1 ∷ y2 ∷ meta_table 5 ∷ ys }) meta_text (codes "meta") 3 5 (meta_table 5) named read _ _ _ _ _ refl refl refl refl refl refl refl refl refl refl refl) (last_tree (λ tree. table_named (record s { tables = y0 ∷ y1 ∷ y2 ∷ meta_table tree ∷ ys }) (codes "meta") ≡ Some 3 → IsRead (record s { tables = y0 ∷ y1 ∷ y2 ∷ meta_table tree ∷ ys }) tree (meta_table tree) → IsMeant (record s { tables = y0 ∷ y1 ∷ y2 ∷ meta_table tree ∷ ys }) meta_text (meta_at (record { at = 3; tree = tree }))) 6 (λ named read. select_means (record s { tables = y0 ∷ y1 ∷ y2 ∷ meta_table 6 ∷ ys }) meta_text (codes "meta") 3 6 (meta_table 6) named read _ _ _ _ _ refl refl refl refl refl refl refl refl refl refl refl)))) p.tree (omega (arith, least)) (omega (arith, most))) (λ y3.
    step (λ ts at. P (y0 ∷ y1 ∷ y2 ∷ y3 ∷ ts) (suc (suc (suc (suc (at)))))) (meta_table p.tree) (λ ys least most. one_tree 3 (λ tree. table_named (record s { tables = y0 ∷ y1 ∷ y2 ∷ y3 ∷ meta_table tree ∷ ys }) (codes "meta") ≡ Some 4 → IsRead (record s { tables = y0 ∷ y1 ∷ y2 ∷ y3 ∷ meta_table tree ∷ ys }) tree (meta_table tree) → IsMeant (record s { tables = y0 ∷ y1 ∷ y2 ∷ y3 ∷ meta_table tree ∷ ys }) meta_text (meta_at (record { at = 4; tree = tree }))) 4 (λ named read. select_means (record s { tables = y0 ∷ y1 ∷ y2 ∷ y3 ∷ meta_table 4 ∷ ys }) meta_text (codes "meta") 4 4 (meta_table 4) named read _ _ _ _ _ refl refl refl refl refl refl refl refl refl refl refl) (one_tree 2 (λ tree. table_named (record s { tables = y0 ∷ y1 ∷ y2 ∷ y3 ∷ meta_table tree ∷ ys }) (codes "meta") ≡ Some 4 → IsRead (record s { tables = y0 ∷ y1 ∷ y2 ∷ y3 ∷ meta_table tree ∷ ys }) tree (meta_table tree) → IsMeant (record s { tables = y0 ∷ y1 ∷ y2 ∷ y3 ∷ meta_table tree ∷ ys }) meta_text (meta_at (record { at = 4; tree = tree }))) 5 (λ named read. select_means (record s { tables = y0 ∷ y1 ∷ y2 ∷ y3 ∷ meta_table 5 ∷ ys }) meta_text (codes "meta") 4 5 (meta_table 5) named read _ _ _ _ _ refl refl refl refl refl refl refl refl refl refl refl) (one_tree 1 (λ tree. table_named (record s { tables = y0 ∷ y1 ∷ y2 ∷ y3 ∷ meta_table tree ∷ ys }) (codes "meta") ≡ Some 4 → IsRead (record s { tables = y0 ∷ y1 ∷ y2 ∷ y3 ∷ meta_table tree ∷ ys }) tree (meta_table tree) → IsMeant (record s { tables = y0 ∷ y1 ∷ y2 ∷ y3 ∷ meta_table tree ∷ ys }) meta_text (meta_at (record { at = 4; tree = tree }))) 6 (λ named read. select_means (record s { tables = y0 ∷ y1 ∷ y2 ∷ y3 ∷ meta_table 6 ∷ ys }) meta_text (codes "meta") 4 6 (meta_table 6) named read _ _ _ _ _ refl refl refl refl refl refl refl refl refl refl refl) (one_tree 0 (λ tree. table_named (record s { tables = y0 ∷ y1 ∷ y2 ∷ y3 ∷ meta_table tree ∷ ys }) (codes "meta") ≡ Some 4 → IsRead (record s { tables = y0 ∷ y1 ∷ y2 ∷ y3 ∷ meta_table tree ∷ ys }) tree (meta_table tree) → IsMeant (record s { tables = y0 ∷ y1 ∷ y2 ∷ y3 ∷ meta_table tree ∷ ys }) meta_text (meta_at (record { at = 4; tree = tree }))) 7 (λ named read. select_means (record s { tables = y0 ∷ y1 ∷ y2 ∷ y3 ∷ meta_table 7 ∷ ys }) meta_text (codes "meta") 4 7 (meta_table 7) named read _ _ _ _ _ refl refl refl refl refl refl refl refl refl refl refl) (last_tree (λ tree. table_named (record s { tables = y0 ∷ y1 ∷ y2 ∷ y3 ∷ meta_table tree ∷ ys }) (codes "meta") ≡ Some 4 → IsRead (record s { tables = y0 ∷ y1 ∷ y2 ∷ y3 ∷ meta_table tree ∷ ys }) tree (meta_table tree) → IsMeant (record s { tables = y0 ∷ y1 ∷ y2 ∷ y3 ∷ meta_table tree ∷ ys }) meta_text (meta_at (record { at = 4; tree = tree }))) 8 (λ named read. select_means (record s { tables = y0 ∷ y1 ∷ y2 ∷ y3 ∷ meta_table 8 ∷ ys }) meta_text (codes "meta") 4 8 (meta_table 8) named read _ _ _ _ _ refl refl refl refl refl refl refl refl refl refl refl))))) p.tree (omega (arith, least)) (omega (arith, most))) (λ y4.
    step (λ ts at. P (y0 ∷ y1 ∷ y2 ∷ y3 ∷ y4 ∷ ts) (suc (suc (suc (suc (suc (at))))))) (meta_table p.tree) (λ ys least most. one_tree 4 (λ tree. table_named (record s { tables = y0 ∷ y1 ∷ y2 ∷ y3 ∷ y4 ∷ meta_table tree ∷ ys }) (codes "meta") ≡ Some 5 → IsRead (record s { tables = y0 ∷ y1 ∷ y2 ∷ y3 ∷ y4 ∷ meta_table tree ∷ ys }) tree (meta_table tree) → IsMeant (record s { tables = y0 ∷ y1 ∷ y2 ∷ y3 ∷ y4 ∷ meta_table tree ∷ ys }) meta_text (meta_at (record { at = 5; tree = tree }))) 5 (λ named read. select_means (record s { tables = y0 ∷ y1 ∷ y2 ∷ y3 ∷ y4 ∷ meta_table 5 ∷ ys }) meta_text (codes "meta") 5 5 (meta_table 5) named read _ _ _ _ _ refl refl refl refl refl refl refl refl refl refl refl) (one_tree 3 (λ tree. table_named (record s { tables = y0 ∷ y1 ∷ y2 ∷ y3 ∷ y4 ∷ meta_table tree ∷ ys }) (codes "meta") ≡ Some 5 → IsRead (record s { tables = y0 ∷ y1 ∷ y2 ∷ y3 ∷ y4 ∷ meta_table tree ∷ ys }) tree (meta_table tree) → IsMeant (record s { tables = y0 ∷ y1 ∷ y2 ∷ y3 ∷ y4 ∷ meta_table tree ∷ ys }) meta_text (meta_at (record { at = 5; tree = tree }))) 6 (λ named read. select_means (record s { tables = y0 ∷ y1 ∷ y2 ∷ y3 ∷ y4 ∷ meta_table 6 ∷ ys }) meta_text (codes "meta") 5 6 (meta_table 6) named read _ _ _ _ _ refl refl refl refl refl refl refl refl refl refl refl) (one_tree 2 (λ tree. table_named (record s { tables = y0 ∷ y1 ∷ y2 ∷ y3 ∷ y4 ∷ meta_table tree ∷ ys }) (codes "meta") ≡ Some 5 → IsRead (record s { tables = y0 ∷ y1 ∷ y2 ∷ y3 ∷ y4 ∷ meta_table tree ∷ ys }) tree (meta_table tree) → IsMeant (record s { tables = y0 ∷ y1 ∷ y2 ∷ y3 ∷ y4 ∷ meta_table tree ∷ ys }) meta_text (meta_at (record { at = 5; tree = tree }))) 7 (λ named read. select_means (record s { tables = y0 ∷ y1 ∷ y2 ∷ y3 ∷ y4 ∷ meta_table 7 ∷ ys }) meta_text (codes "meta") 5 7 (meta_table 7) named read _ _ _ _ _ refl refl refl refl refl refl refl refl refl refl refl) (one_tree 1 (λ tree. table_named (record s { tables = y0 ∷ y1 ∷ y2 ∷ y3 ∷ y4 ∷ meta_table tree ∷ ys }) (codes "meta") ≡ Some 5 → IsRead (record s { tables = y0 ∷ y1 ∷ y2 ∷ y3 ∷ y4 ∷ meta_table tree ∷ ys }) tree (meta_table tree) → IsMeant (record s { tables = y0 ∷ y1 ∷ y2 ∷ y3 ∷ y4 ∷ meta_table tree ∷ ys }) meta_text (meta_at (record { at = 5; tree = tree }))) 8 (λ named read. select_means (record s { tables = y0 ∷ y1 ∷ y2 ∷ y3 ∷ y4 ∷ meta_table 8 ∷ ys }) meta_text (codes "meta") 5 8 (meta_table 8) named read _ _ _ _ _ refl refl refl refl refl refl refl refl refl refl refl) (one_tree 0 (λ tree. table_named (record s { tables = y0 ∷ y1 ∷ y2 ∷ y3 ∷ y4 ∷ meta_table tree ∷ ys }) (codes "meta") ≡ Some 5 → IsRead (record s { tables = y0 ∷ y1 ∷ y2 ∷ y3 ∷ y4 ∷ meta_table tree ∷ ys }) tree (meta_table tree) → IsMeant (record s { tables = y0 ∷ y1 ∷ y2 ∷ y3 ∷ y4 ∷ meta_table tree ∷ ys }) meta_text (meta_at (record { at = 5; tree = tree }))) 9 (λ named read. select_means (record s { tables = y0 ∷ y1 ∷ y2 ∷ y3 ∷ y4 ∷ meta_table 9 ∷ ys }) meta_text (codes "meta") 5 9 (meta_table 9) named read _ _ _ _ _ refl refl refl refl refl refl refl refl refl refl refl) (last_tree (λ tree. table_named (record s { tables = y0 ∷ y1 ∷ y2 ∷ y3 ∷ y4 ∷ meta_table tree ∷ ys }) (codes "meta") ≡ Some 5 → IsRead (record s { tables = y0 ∷ y1 ∷ y2 ∷ y3 ∷ y4 ∷ meta_table tree ∷ ys }) tree (meta_table tree) → IsMeant (record s { tables = y0 ∷ y1 ∷ y2 ∷ y3 ∷ y4 ∷ meta_table tree ∷ ys }) meta_text (meta_at (record { at = 5; tree = tree }))) 10 (λ named read. select_means (record s { tables = y0 ∷ y1 ∷ y2 ∷ y3 ∷ y4 ∷ meta_table 10 ∷ ys }) meta_text (codes "meta") 5 10 (meta_table 10) named read _ _ _ _ _ refl refl refl refl refl refl refl refl refl refl refl)))))) p.tree (omega (arith, least)) (omega (arith, most))) (λ y5.
    step (λ ts at. P (y0 ∷ y1 ∷ y2 ∷ y3 ∷ y4 ∷ y5 ∷ ts) (suc (suc (suc (suc (suc (suc (at)))))))) (meta_table p.tree) (λ ys least most. one_tree 5 (λ tree. table_named (record s { tables = y0 ∷ y1 ∷ y2 ∷ y3 ∷ y4 ∷ y5 ∷ meta_table tree ∷ ys }) (codes "meta") ≡ Some 6 → IsRead (record s { tables = y0 ∷ y1 ∷ y2 ∷ y3 ∷ y4 ∷ y5 ∷ meta_table tree ∷ ys }) tree (meta_table tree) → IsMeant (record s { tables = y0 ∷ y1 ∷ y2 ∷ y3 ∷ y4 ∷ y5 ∷ meta_table tree ∷ ys }) meta_text (meta_at (record { at = 6; tree = tree }))) 6 (λ named read. select_means (record s { tables = y0 ∷ y1 ∷ y2 ∷ y3 ∷ y4 ∷ y5 ∷ meta_table 6 ∷ ys }) meta_text (codes "meta") 6 6 (meta_table 6) named read _ _ _ _ _ refl refl refl refl refl refl refl refl refl refl refl) (one_tree 4 (λ tree. table_named (record s { tables = y0 ∷ y1 ∷ y2 ∷ y3 ∷ y4 ∷ y5 ∷ meta_table tree ∷ ys }) (codes "meta") ≡ Some 6 → IsRead (record s { tables = y0 ∷ y1 ∷ y2 ∷ y3 ∷ y4 ∷ y5 ∷ meta_table tree ∷ ys }) tree (meta_table tree) → IsMeant (record s { tables = y0 ∷ y1 ∷ y2 ∷ y3 ∷ y4 ∷ y5 ∷ meta_table tree ∷ ys }) meta_text (meta_at (record { at = 6; tree = tree }))) 7 (λ named read. select_means (record s { tables = y0 ∷ y1 ∷ y2 ∷ y3 ∷ y4 ∷ y5 ∷ meta_table 7 ∷ ys }) meta_text (codes "meta") 6 7 (meta_table 7) named read _ _ _ _ _ refl refl refl refl refl refl refl refl refl refl refl) (one_tree 3 (λ tree. table_named (record s { tables = y0 ∷ y1 ∷ y2 ∷ y3 ∷ y4 ∷ y5 ∷ meta_table tree ∷ ys }) (codes "meta") ≡ Some 6 → IsRead (record s { tables = y0 ∷ y1 ∷ y2 ∷ y3 ∷ y4 ∷ y5 ∷ meta_table tree ∷ ys }) tree (meta_table tree) → IsMeant (record s { tables = y0 ∷ y1 ∷ y2 ∷ y3 ∷ y4 ∷ y5 ∷ meta_table tree ∷ ys }) meta_text (meta_at (record { at = 6; tree = tree }))) 8 (λ named read. select_means (record s { tables = y0 ∷ y1 ∷ y2 ∷ y3 ∷ y4 ∷ y5 ∷ meta_table 8 ∷ ys }) meta_text (codes "meta") 6 8 (meta_table 8) named read _ _ _ _ _ refl refl refl refl refl refl refl refl refl refl refl) (one_tree 2 (λ tree. table_named (record s { tables = y0 ∷ y1 ∷ y2 ∷ y3 ∷ y4 ∷ y5 ∷ meta_table tree ∷ ys }) (codes "meta") ≡ Some 6 → IsRead (record s { tables = y0 ∷ y1 ∷ y2 ∷ y3 ∷ y4 ∷ y5 ∷ meta_table tree ∷ ys }) tree (meta_table tree) → IsMeant (record s { tables = y0 ∷ y1 ∷ y2 ∷ y3 ∷ y4 ∷ y5 ∷ meta_table tree ∷ ys }) meta_text (meta_at (record { at = 6; tree = tree }))) 9 (λ named read. select_means (record s { tables = y0 ∷ y1 ∷ y2 ∷ y3 ∷ y4 ∷ y5 ∷ meta_table 9 ∷ ys }) meta_text (codes "meta") 6 9 (meta_table 9) named read _ _ _ _ _ refl refl refl refl refl refl refl refl refl refl refl) (one_tree 1 (λ tree. table_named (record s { tables = y0 ∷ y1 ∷ y2 ∷ y3 ∷ y4 ∷ y5 ∷ meta_table tree ∷ ys }) (codes "meta") ≡ Some 6 → IsRead (record s { tables = y0 ∷ y1 ∷ y2 ∷ y3 ∷ y4 ∷ y5 ∷ meta_table tree ∷ ys }) tree (meta_table tree) → IsMeant (record s { tables = y0 ∷ y1 ∷ y2 ∷ y3 ∷ y4 ∷ y5 ∷ meta_table tree ∷ ys }) meta_text (meta_at (record { at = 6; tree = tree }))) 10 (λ named read. select_means (record s { tables = y0 ∷ y1 ∷ y2 ∷ y3 ∷ y4 ∷ y5 ∷ meta_table 10 ∷ ys }) meta_text (codes "meta") 6 10 (meta_table 10) named read _ _ _ _ _ refl refl refl refl refl refl refl refl refl refl refl) (one_tree 0 (λ tree. table_named (record s { tables = y0 ∷ y1 ∷ y2 ∷ y3 ∷ y4 ∷ y5 ∷ meta_table tree ∷ ys }) (codes "meta") ≡ Some 6 → IsRead (record s { tables = y0 ∷ y1 ∷ y2 ∷ y3 ∷ y4 ∷ y5 ∷ meta_table tree ∷ ys }) tree (meta_table tree) → IsMeant (record s { tables = y0 ∷ y1 ∷ y2 ∷ y3 ∷ y4 ∷ y5 ∷ meta_table tree ∷ ys }) meta_text (meta_at (record { at = 6; tree = tree }))) 11 (λ named read. select_means (record s { tables = y0 ∷ y1 ∷ y2 ∷ y3 ∷ y4 ∷ y5 ∷ meta_table 11 ∷ ys }) meta_text (codes "meta") 6 11 (meta_table 11) named read _ _ _ _ _ refl refl refl refl refl refl refl refl refl refl refl) (last_tree (λ tree. table_named (record s { tables = y0 ∷ y1 ∷ y2 ∷ y3 ∷ y4 ∷ y5 ∷ meta_table tree ∷ ys }) (codes "meta") ≡ Some 6 → IsRead (record s { tables = y0 ∷ y1 ∷ y2 ∷ y3 ∷ y4 ∷ y5 ∷ meta_table tree ∷ ys }) tree (meta_table tree) → IsMeant (record s { tables = y0 ∷ y1 ∷ y2 ∷ y3 ∷ y4 ∷ y5 ∷ meta_table tree ∷ ys }) meta_text (meta_at (record { at = 6; tree = tree }))) 12 (λ named read. select_means (record s { tables = y0 ∷ y1 ∷ y2 ∷ y3 ∷ y4 ∷ y5 ∷ meta_table 12 ∷ ys }) meta_text (codes "meta") 6 12 (meta_table 12) named read _ _ _ _ _ refl refl refl refl refl refl refl refl refl refl refl))))))) p.tree (omega (arith, least)) (omega (arith, most))) (λ y6 ts at past. absurd (omega (arith, past))))))))) s.tables p.at low has.there least most has.named has.read

pub put_meta_anywhere : (s : Schema) (p : Place) → Has s (codes "meta") meta_table p → p.at < 7 → IsMeant s put_meta_text (put_meta_at p)
unfolding everything same_name
put_meta_anywhere s p has low =
    let t = meta_table p.tree in
    let P : List Table → ℕ → Type 0 = λ ts at. table_named (record s { tables = ts }) (codes "meta") ≡ Some at → IsRead (record s { tables = ts }) p.tree t → IsMeant (record s { tables = ts }) put_meta_text (put_meta_at (record { at = at; tree = p.tree })) in
    step P t (λ ys named read. insert_means (record s { tables = t ∷ ys }) put_meta_text (codes "meta") 0 t named refl _ _ _ _ refl refl refl refl refl) (λ y0.
    step (λ ts at. P (y0 ∷ ts) (suc (at))) t (λ ys named read. insert_means (record s { tables = y0 ∷ t ∷ ys }) put_meta_text (codes "meta") 1 t named refl _ _ _ _ refl refl refl refl refl) (λ y1.
    step (λ ts at. P (y0 ∷ y1 ∷ ts) (suc (suc (at)))) t (λ ys named read. insert_means (record s { tables = y0 ∷ y1 ∷ t ∷ ys }) put_meta_text (codes "meta") 2 t named refl _ _ _ _ refl refl refl refl refl) (λ y2.
    step (λ ts at. P (y0 ∷ y1 ∷ y2 ∷ ts) (suc (suc (suc (at))))) t (λ ys named read. insert_means (record s { tables = y0 ∷ y1 ∷ y2 ∷ t ∷ ys }) put_meta_text (codes "meta") 3 t named refl _ _ _ _ refl refl refl refl refl) (λ y3.
    step (λ ts at. P (y0 ∷ y1 ∷ y2 ∷ y3 ∷ ts) (suc (suc (suc (suc (at)))))) t (λ ys named read. insert_means (record s { tables = y0 ∷ y1 ∷ y2 ∷ y3 ∷ t ∷ ys }) put_meta_text (codes "meta") 4 t named refl _ _ _ _ refl refl refl refl refl) (λ y4.
    step (λ ts at. P (y0 ∷ y1 ∷ y2 ∷ y3 ∷ y4 ∷ ts) (suc (suc (suc (suc (suc (at))))))) t (λ ys named read. insert_means (record s { tables = y0 ∷ y1 ∷ y2 ∷ y3 ∷ y4 ∷ t ∷ ys }) put_meta_text (codes "meta") 5 t named refl _ _ _ _ refl refl refl refl refl) (λ y5.
    step (λ ts at. P (y0 ∷ y1 ∷ y2 ∷ y3 ∷ y4 ∷ y5 ∷ ts) (suc (suc (suc (suc (suc (suc (at)))))))) t (λ ys named read. insert_means (record s { tables = y0 ∷ y1 ∷ y2 ∷ y3 ∷ y4 ∷ y5 ∷ t ∷ ys }) put_meta_text (codes "meta") 6 t named refl _ _ _ _ refl refl refl refl refl) (λ y6 ts at past. absurd (omega (arith, past))))))))) s.tables p.at low has.there has.named has.read

pub set_meta_anywhere : (s : Schema) (p : Place) → Has s (codes "meta") meta_table p → p.at < 7 → IsMeant s set_meta_text (set_meta_at p)
unfolding everything same_name
set_meta_anywhere s p has low =
    let t = meta_table p.tree in
    let P : List Table → ℕ → Type 0 = λ ts at. table_named (record s { tables = ts }) (codes "meta") ≡ Some at → IsRead (record s { tables = ts }) p.tree t → IsMeant (record s { tables = ts }) set_meta_text (set_meta_at (record { at = at; tree = p.tree })) in
    step P t (λ ys named read. update_means (record s { tables = t ∷ ys }) set_meta_text (codes "meta") 0 p.tree t named refl read _ _ _ _ refl refl refl refl refl refl) (λ y0.
    step (λ ts at. P (y0 ∷ ts) (suc (at))) t (λ ys named read. update_means (record s { tables = y0 ∷ t ∷ ys }) set_meta_text (codes "meta") 1 p.tree t named refl read _ _ _ _ refl refl refl refl refl refl) (λ y1.
    step (λ ts at. P (y0 ∷ y1 ∷ ts) (suc (suc (at)))) t (λ ys named read. update_means (record s { tables = y0 ∷ y1 ∷ t ∷ ys }) set_meta_text (codes "meta") 2 p.tree t named refl read _ _ _ _ refl refl refl refl refl refl) (λ y2.
    step (λ ts at. P (y0 ∷ y1 ∷ y2 ∷ ts) (suc (suc (suc (at))))) t (λ ys named read. update_means (record s { tables = y0 ∷ y1 ∷ y2 ∷ t ∷ ys }) set_meta_text (codes "meta") 3 p.tree t named refl read _ _ _ _ refl refl refl refl refl refl) (λ y3.
    step (λ ts at. P (y0 ∷ y1 ∷ y2 ∷ y3 ∷ ts) (suc (suc (suc (suc (at)))))) t (λ ys named read. update_means (record s { tables = y0 ∷ y1 ∷ y2 ∷ y3 ∷ t ∷ ys }) set_meta_text (codes "meta") 4 p.tree t named refl read _ _ _ _ refl refl refl refl refl refl) (λ y4.
    step (λ ts at. P (y0 ∷ y1 ∷ y2 ∷ y3 ∷ y4 ∷ ts) (suc (suc (suc (suc (suc (at))))))) t (λ ys named read. update_means (record s { tables = y0 ∷ y1 ∷ y2 ∷ y3 ∷ y4 ∷ t ∷ ys }) set_meta_text (codes "meta") 5 p.tree t named refl read _ _ _ _ refl refl refl refl refl refl) (λ y5.
    step (λ ts at. P (y0 ∷ y1 ∷ y2 ∷ y3 ∷ y4 ∷ y5 ∷ ts) (suc (suc (suc (suc (suc (suc (at)))))))) t (λ ys named read. update_means (record s { tables = y0 ∷ y1 ∷ y2 ∷ y3 ∷ y4 ∷ y5 ∷ t ∷ ys }) set_meta_text (codes "meta") 6 p.tree t named refl read _ _ _ _ refl refl refl refl refl refl) (λ y6 ts at past. absurd (omega (arith, past))))))))) s.tables p.at low has.there has.named has.read

pub put_lane_anywhere : (s : Schema) (p : Place) → Has s (codes "lane") lane_table p → length s.tables ≡ 7 → p.at < 7 → IsMeant s put_lane_text (put_lane_at p)
unfolding everything same_name
put_lane_anywhere s p has seven low =
    let t = lane_table p.tree in
    let P : List Table → ℕ → Type 0 = λ ts at. length ts ≡ 7 → table_named (record s { tables = ts }) (codes "lane") ≡ Some at → IsRead (record s { tables = ts }) p.tree t → IsMeant (record s { tables = ts }) put_lane_text (put_lane_at (record { at = at; tree = p.tree })) in
    step P t (λ ys seven. one_more (λ ys. table_named (record s { tables = t ∷ ys }) (codes "lane") ≡ Some 0 → IsRead (record s { tables = t ∷ ys }) p.tree t → IsMeant (record s { tables = t ∷ ys }) put_lane_text (put_lane_at (record { at = 0; tree = p.tree }))) (λ z0. one_more (λ ys. table_named (record s { tables = t ∷ z0 ∷ ys }) (codes "lane") ≡ Some 0 → IsRead (record s { tables = t ∷ z0 ∷ ys }) p.tree t → IsMeant (record s { tables = t ∷ z0 ∷ ys }) put_lane_text (put_lane_at (record { at = 0; tree = p.tree }))) (λ z1. one_more (λ ys. table_named (record s { tables = t ∷ z0 ∷ z1 ∷ ys }) (codes "lane") ≡ Some 0 → IsRead (record s { tables = t ∷ z0 ∷ z1 ∷ ys }) p.tree t → IsMeant (record s { tables = t ∷ z0 ∷ z1 ∷ ys }) put_lane_text (put_lane_at (record { at = 0; tree = p.tree }))) (λ z2. one_more (λ ys. table_named (record s { tables = t ∷ z0 ∷ z1 ∷ z2 ∷ ys }) (codes "lane") ≡ Some 0 → IsRead (record s { tables = t ∷ z0 ∷ z1 ∷ z2 ∷ ys }) p.tree t → IsMeant (record s { tables = t ∷ z0 ∷ z1 ∷ z2 ∷ ys }) put_lane_text (put_lane_at (record { at = 0; tree = p.tree }))) (λ z3. one_more (λ ys. table_named (record s { tables = t ∷ z0 ∷ z1 ∷ z2 ∷ z3 ∷ ys }) (codes "lane") ≡ Some 0 → IsRead (record s { tables = t ∷ z0 ∷ z1 ∷ z2 ∷ z3 ∷ ys }) p.tree t → IsMeant (record s { tables = t ∷ z0 ∷ z1 ∷ z2 ∷ z3 ∷ ys }) put_lane_text (put_lane_at (record { at = 0; tree = p.tree }))) (λ z4. one_more (λ ys. table_named (record s { tables = t ∷ z0 ∷ z1 ∷ z2 ∷ z3 ∷ z4 ∷ ys }) (codes "lane") ≡ Some 0 → IsRead (record s { tables = t ∷ z0 ∷ z1 ∷ z2 ∷ z3 ∷ z4 ∷ ys }) p.tree t → IsMeant (record s { tables = t ∷ z0 ∷ z1 ∷ z2 ∷ z3 ∷ z4 ∷ ys }) put_lane_text (put_lane_at (record { at = 0; tree = p.tree }))) (λ z5. none_more (λ ys. table_named (record s { tables = t ∷ z0 ∷ z1 ∷ z2 ∷ z3 ∷ z4 ∷ z5 ∷ ys }) (codes "lane") ≡ Some 0 → IsRead (record s { tables = t ∷ z0 ∷ z1 ∷ z2 ∷ z3 ∷ z4 ∷ z5 ∷ ys }) p.tree t → IsMeant (record s { tables = t ∷ z0 ∷ z1 ∷ z2 ∷ z3 ∷ z4 ∷ z5 ∷ ys }) put_lane_text (put_lane_at (record { at = 0; tree = p.tree }))) (λ named read. upsert_means (record s { tables = t ∷ z0 ∷ z1 ∷ z2 ∷ z3 ∷ z4 ∷ z5 ∷ [] }) put_lane_text (codes "lane") 0 p.tree t named refl read _ _ _ _ _ _ _ refl refl refl refl refl refl refl refl refl refl refl))))))) ys (omega (arith, seven))) (λ y0.
    step (λ ts at. P (y0 ∷ ts) (suc (at))) t (λ ys seven. one_more (λ ys. table_named (record s { tables = y0 ∷ t ∷ ys }) (codes "lane") ≡ Some 1 → IsRead (record s { tables = y0 ∷ t ∷ ys }) p.tree t → IsMeant (record s { tables = y0 ∷ t ∷ ys }) put_lane_text (put_lane_at (record { at = 1; tree = p.tree }))) (λ z0. one_more (λ ys. table_named (record s { tables = y0 ∷ t ∷ z0 ∷ ys }) (codes "lane") ≡ Some 1 → IsRead (record s { tables = y0 ∷ t ∷ z0 ∷ ys }) p.tree t → IsMeant (record s { tables = y0 ∷ t ∷ z0 ∷ ys }) put_lane_text (put_lane_at (record { at = 1; tree = p.tree }))) (λ z1. one_more (λ ys. table_named (record s { tables = y0 ∷ t ∷ z0 ∷ z1 ∷ ys }) (codes "lane") ≡ Some 1 → IsRead (record s { tables = y0 ∷ t ∷ z0 ∷ z1 ∷ ys }) p.tree t → IsMeant (record s { tables = y0 ∷ t ∷ z0 ∷ z1 ∷ ys }) put_lane_text (put_lane_at (record { at = 1; tree = p.tree }))) (λ z2. one_more (λ ys. table_named (record s { tables = y0 ∷ t ∷ z0 ∷ z1 ∷ z2 ∷ ys }) (codes "lane") ≡ Some 1 → IsRead (record s { tables = y0 ∷ t ∷ z0 ∷ z1 ∷ z2 ∷ ys }) p.tree t → IsMeant (record s { tables = y0 ∷ t ∷ z0 ∷ z1 ∷ z2 ∷ ys }) put_lane_text (put_lane_at (record { at = 1; tree = p.tree }))) (λ z3. one_more (λ ys. table_named (record s { tables = y0 ∷ t ∷ z0 ∷ z1 ∷ z2 ∷ z3 ∷ ys }) (codes "lane") ≡ Some 1 → IsRead (record s { tables = y0 ∷ t ∷ z0 ∷ z1 ∷ z2 ∷ z3 ∷ ys }) p.tree t → IsMeant (record s { tables = y0 ∷ t ∷ z0 ∷ z1 ∷ z2 ∷ z3 ∷ ys }) put_lane_text (put_lane_at (record { at = 1; tree = p.tree }))) (λ z4. none_more (λ ys. table_named (record s { tables = y0 ∷ t ∷ z0 ∷ z1 ∷ z2 ∷ z3 ∷ z4 ∷ ys }) (codes "lane") ≡ Some 1 → IsRead (record s { tables = y0 ∷ t ∷ z0 ∷ z1 ∷ z2 ∷ z3 ∷ z4 ∷ ys }) p.tree t → IsMeant (record s { tables = y0 ∷ t ∷ z0 ∷ z1 ∷ z2 ∷ z3 ∷ z4 ∷ ys }) put_lane_text (put_lane_at (record { at = 1; tree = p.tree }))) (λ named read. upsert_means (record s { tables = y0 ∷ t ∷ z0 ∷ z1 ∷ z2 ∷ z3 ∷ z4 ∷ [] }) put_lane_text (codes "lane") 1 p.tree t named refl read _ _ _ _ _ _ _ refl refl refl refl refl refl refl refl refl refl refl)))))) ys (omega (arith, seven))) (λ y1.
    step (λ ts at. P (y0 ∷ y1 ∷ ts) (suc (suc (at)))) t (λ ys seven. one_more (λ ys. table_named (record s { tables = y0 ∷ y1 ∷ t ∷ ys }) (codes "lane") ≡ Some 2 → IsRead (record s { tables = y0 ∷ y1 ∷ t ∷ ys }) p.tree t → IsMeant (record s { tables = y0 ∷ y1 ∷ t ∷ ys }) put_lane_text (put_lane_at (record { at = 2; tree = p.tree }))) (λ z0. one_more (λ ys. table_named (record s { tables = y0 ∷ y1 ∷ t ∷ z0 ∷ ys }) (codes "lane") ≡ Some 2 → IsRead (record s { tables = y0 ∷ y1 ∷ t ∷ z0 ∷ ys }) p.tree t → IsMeant (record s { tables = y0 ∷ y1 ∷ t ∷ z0 ∷ ys }) put_lane_text (put_lane_at (record { at = 2; tree = p.tree }))) (λ z1. one_more (λ ys. table_named (record s { tables = y0 ∷ y1 ∷ t ∷ z0 ∷ z1 ∷ ys }) (codes "lane") ≡ Some 2 → IsRead (record s { tables = y0 ∷ y1 ∷ t ∷ z0 ∷ z1 ∷ ys }) p.tree t → IsMeant (record s { tables = y0 ∷ y1 ∷ t ∷ z0 ∷ z1 ∷ ys }) put_lane_text (put_lane_at (record { at = 2; tree = p.tree }))) (λ z2. one_more (λ ys. table_named (record s { tables = y0 ∷ y1 ∷ t ∷ z0 ∷ z1 ∷ z2 ∷ ys }) (codes "lane") ≡ Some 2 → IsRead (record s { tables = y0 ∷ y1 ∷ t ∷ z0 ∷ z1 ∷ z2 ∷ ys }) p.tree t → IsMeant (record s { tables = y0 ∷ y1 ∷ t ∷ z0 ∷ z1 ∷ z2 ∷ ys }) put_lane_text (put_lane_at (record { at = 2; tree = p.tree }))) (λ z3. none_more (λ ys. table_named (record s { tables = y0 ∷ y1 ∷ t ∷ z0 ∷ z1 ∷ z2 ∷ z3 ∷ ys }) (codes "lane") ≡ Some 2 → IsRead (record s { tables = y0 ∷ y1 ∷ t ∷ z0 ∷ z1 ∷ z2 ∷ z3 ∷ ys }) p.tree t → IsMeant (record s { tables = y0 ∷ y1 ∷ t ∷ z0 ∷ z1 ∷ z2 ∷ z3 ∷ ys }) put_lane_text (put_lane_at (record { at = 2; tree = p.tree }))) (λ named read. upsert_means (record s { tables = y0 ∷ y1 ∷ t ∷ z0 ∷ z1 ∷ z2 ∷ z3 ∷ [] }) put_lane_text (codes "lane") 2 p.tree t named refl read _ _ _ _ _ _ _ refl refl refl refl refl refl refl refl refl refl refl))))) ys (omega (arith, seven))) (λ y2.
    step (λ ts at. P (y0 ∷ y1 ∷ y2 ∷ ts) (suc (suc (suc (at))))) t (λ ys seven. one_more (λ ys. table_named (record s { tables = y0 ∷ y1 ∷ y2 ∷ t ∷ ys }) (codes "lane") ≡ Some 3 → IsRead (record s { tables = y0 ∷ y1 ∷ y2 ∷ t ∷ ys }) p.tree t → IsMeant (record s { tables = y0 ∷ y1 ∷ y2 ∷ t ∷ ys }) put_lane_text (put_lane_at (record { at = 3; tree = p.tree }))) (λ z0. one_more (λ ys. table_named (record s { tables = y0 ∷ y1 ∷ y2 ∷ t ∷ z0 ∷ ys }) (codes "lane") ≡ Some 3 → IsRead (record s { tables = y0 ∷ y1 ∷ y2 ∷ t ∷ z0 ∷ ys }) p.tree t → IsMeant (record s { tables = y0 ∷ y1 ∷ y2 ∷ t ∷ z0 ∷ ys }) put_lane_text (put_lane_at (record { at = 3; tree = p.tree }))) (λ z1. one_more (λ ys. table_named (record s { tables = y0 ∷ y1 ∷ y2 ∷ t ∷ z0 ∷ z1 ∷ ys }) (codes "lane") ≡ Some 3 → IsRead (record s { tables = y0 ∷ y1 ∷ y2 ∷ t ∷ z0 ∷ z1 ∷ ys }) p.tree t → IsMeant (record s { tables = y0 ∷ y1 ∷ y2 ∷ t ∷ z0 ∷ z1 ∷ ys }) put_lane_text (put_lane_at (record { at = 3; tree = p.tree }))) (λ z2. none_more (λ ys. table_named (record s { tables = y0 ∷ y1 ∷ y2 ∷ t ∷ z0 ∷ z1 ∷ z2 ∷ ys }) (codes "lane") ≡ Some 3 → IsRead (record s { tables = y0 ∷ y1 ∷ y2 ∷ t ∷ z0 ∷ z1 ∷ z2 ∷ ys }) p.tree t → IsMeant (record s { tables = y0 ∷ y1 ∷ y2 ∷ t ∷ z0 ∷ z1 ∷ z2 ∷ ys }) put_lane_text (put_lane_at (record { at = 3; tree = p.tree }))) (λ named read. upsert_means (record s { tables = y0 ∷ y1 ∷ y2 ∷ t ∷ z0 ∷ z1 ∷ z2 ∷ [] }) put_lane_text (codes "lane") 3 p.tree t named refl read _ _ _ _ _ _ _ refl refl refl refl refl refl refl refl refl refl refl)))) ys (omega (arith, seven))) (λ y3.
    step (λ ts at. P (y0 ∷ y1 ∷ y2 ∷ y3 ∷ ts) (suc (suc (suc (suc (at)))))) t (λ ys seven. one_more (λ ys. table_named (record s { tables = y0 ∷ y1 ∷ y2 ∷ y3 ∷ t ∷ ys }) (codes "lane") ≡ Some 4 → IsRead (record s { tables = y0 ∷ y1 ∷ y2 ∷ y3 ∷ t ∷ ys }) p.tree t → IsMeant (record s { tables = y0 ∷ y1 ∷ y2 ∷ y3 ∷ t ∷ ys }) put_lane_text (put_lane_at (record { at = 4; tree = p.tree }))) (λ z0. one_more (λ ys. table_named (record s { tables = y0 ∷ y1 ∷ y2 ∷ y3 ∷ t ∷ z0 ∷ ys }) (codes "lane") ≡ Some 4 → IsRead (record s { tables = y0 ∷ y1 ∷ y2 ∷ y3 ∷ t ∷ z0 ∷ ys }) p.tree t → IsMeant (record s { tables = y0 ∷ y1 ∷ y2 ∷ y3 ∷ t ∷ z0 ∷ ys }) put_lane_text (put_lane_at (record { at = 4; tree = p.tree }))) (λ z1. none_more (λ ys. table_named (record s { tables = y0 ∷ y1 ∷ y2 ∷ y3 ∷ t ∷ z0 ∷ z1 ∷ ys }) (codes "lane") ≡ Some 4 → IsRead (record s { tables = y0 ∷ y1 ∷ y2 ∷ y3 ∷ t ∷ z0 ∷ z1 ∷ ys }) p.tree t → IsMeant (record s { tables = y0 ∷ y1 ∷ y2 ∷ y3 ∷ t ∷ z0 ∷ z1 ∷ ys }) put_lane_text (put_lane_at (record { at = 4; tree = p.tree }))) (λ named read. upsert_means (record s { tables = y0 ∷ y1 ∷ y2 ∷ y3 ∷ t ∷ z0 ∷ z1 ∷ [] }) put_lane_text (codes "lane") 4 p.tree t named refl read _ _ _ _ _ _ _ refl refl refl refl refl refl refl refl refl refl refl))) ys (omega (arith, seven))) (λ y4.
    step (λ ts at. P (y0 ∷ y1 ∷ y2 ∷ y3 ∷ y4 ∷ ts) (suc (suc (suc (suc (suc (at))))))) t (λ ys seven. one_more (λ ys. table_named (record s { tables = y0 ∷ y1 ∷ y2 ∷ y3 ∷ y4 ∷ t ∷ ys }) (codes "lane") ≡ Some 5 → IsRead (record s { tables = y0 ∷ y1 ∷ y2 ∷ y3 ∷ y4 ∷ t ∷ ys }) p.tree t → IsMeant (record s { tables = y0 ∷ y1 ∷ y2 ∷ y3 ∷ y4 ∷ t ∷ ys }) put_lane_text (put_lane_at (record { at = 5; tree = p.tree }))) (λ z0. none_more (λ ys. table_named (record s { tables = y0 ∷ y1 ∷ y2 ∷ y3 ∷ y4 ∷ t ∷ z0 ∷ ys }) (codes "lane") ≡ Some 5 → IsRead (record s { tables = y0 ∷ y1 ∷ y2 ∷ y3 ∷ y4 ∷ t ∷ z0 ∷ ys }) p.tree t → IsMeant (record s { tables = y0 ∷ y1 ∷ y2 ∷ y3 ∷ y4 ∷ t ∷ z0 ∷ ys }) put_lane_text (put_lane_at (record { at = 5; tree = p.tree }))) (λ named read. upsert_means (record s { tables = y0 ∷ y1 ∷ y2 ∷ y3 ∷ y4 ∷ t ∷ z0 ∷ [] }) put_lane_text (codes "lane") 5 p.tree t named refl read _ _ _ _ _ _ _ refl refl refl refl refl refl refl refl refl refl refl)) ys (omega (arith, seven))) (λ y5.
    step (λ ts at. P (y0 ∷ y1 ∷ y2 ∷ y3 ∷ y4 ∷ y5 ∷ ts) (suc (suc (suc (suc (suc (suc (at)))))))) t (λ ys seven. none_more (λ ys. table_named (record s { tables = y0 ∷ y1 ∷ y2 ∷ y3 ∷ y4 ∷ y5 ∷ t ∷ ys }) (codes "lane") ≡ Some 6 → IsRead (record s { tables = y0 ∷ y1 ∷ y2 ∷ y3 ∷ y4 ∷ y5 ∷ t ∷ ys }) p.tree t → IsMeant (record s { tables = y0 ∷ y1 ∷ y2 ∷ y3 ∷ y4 ∷ y5 ∷ t ∷ ys }) put_lane_text (put_lane_at (record { at = 6; tree = p.tree }))) (λ named read. upsert_means (record s { tables = y0 ∷ y1 ∷ y2 ∷ y3 ∷ y4 ∷ y5 ∷ t ∷ [] }) put_lane_text (codes "lane") 6 p.tree t named refl read _ _ _ _ _ _ _ refl refl refl refl refl refl refl refl refl refl refl) ys (omega (arith, seven))) (λ y6 ts at past. absurd (omega (arith, past))))))))) s.tables p.at low has.there seven has.named has.read

pub put_tap_anywhere : (s : Schema) (p : Place) → Has s (codes "tap2") routed_table p → p.at < 7 → IsMeant s put_tap_text (put_tap_at p)
unfolding everything same_name
put_tap_anywhere s p has low =
    let t = routed_table p.tree in
    let P : List Table → ℕ → Type 0 = λ ts at. table_named (record s { tables = ts }) (codes "tap2") ≡ Some at → IsRead (record s { tables = ts }) p.tree t → IsMeant (record s { tables = ts }) put_tap_text (put_tap_at (record { at = at; tree = p.tree })) in
    step P t (λ ys named read. insert_means (record s { tables = t ∷ ys }) put_tap_text (codes "tap2") 0 t named refl _ _ _ _ refl refl refl refl refl) (λ y0.
    step (λ ts at. P (y0 ∷ ts) (suc (at))) t (λ ys named read. insert_means (record s { tables = y0 ∷ t ∷ ys }) put_tap_text (codes "tap2") 1 t named refl _ _ _ _ refl refl refl refl refl) (λ y1.
    step (λ ts at. P (y0 ∷ y1 ∷ ts) (suc (suc (at)))) t (λ ys named read. insert_means (record s { tables = y0 ∷ y1 ∷ t ∷ ys }) put_tap_text (codes "tap2") 2 t named refl _ _ _ _ refl refl refl refl refl) (λ y2.
    step (λ ts at. P (y0 ∷ y1 ∷ y2 ∷ ts) (suc (suc (suc (at))))) t (λ ys named read. insert_means (record s { tables = y0 ∷ y1 ∷ y2 ∷ t ∷ ys }) put_tap_text (codes "tap2") 3 t named refl _ _ _ _ refl refl refl refl refl) (λ y3.
    step (λ ts at. P (y0 ∷ y1 ∷ y2 ∷ y3 ∷ ts) (suc (suc (suc (suc (at)))))) t (λ ys named read. insert_means (record s { tables = y0 ∷ y1 ∷ y2 ∷ y3 ∷ t ∷ ys }) put_tap_text (codes "tap2") 4 t named refl _ _ _ _ refl refl refl refl refl) (λ y4.
    step (λ ts at. P (y0 ∷ y1 ∷ y2 ∷ y3 ∷ y4 ∷ ts) (suc (suc (suc (suc (suc (at))))))) t (λ ys named read. insert_means (record s { tables = y0 ∷ y1 ∷ y2 ∷ y3 ∷ y4 ∷ t ∷ ys }) put_tap_text (codes "tap2") 5 t named refl _ _ _ _ refl refl refl refl refl) (λ y5.
    step (λ ts at. P (y0 ∷ y1 ∷ y2 ∷ y3 ∷ y4 ∷ y5 ∷ ts) (suc (suc (suc (suc (suc (suc (at)))))))) t (λ ys named read. insert_means (record s { tables = y0 ∷ y1 ∷ y2 ∷ y3 ∷ y4 ∷ y5 ∷ t ∷ ys }) put_tap_text (codes "tap2") 6 t named refl _ _ _ _ refl refl refl refl refl) (λ y6 ts at past. absurd (omega (arith, past))))))))) s.tables p.at low has.there has.named has.read

pub put_stated_anywhere : (s : Schema) (p : Place) → Has s (codes "stated") stated_table p → p.at < 7 → IsMeant s put_stated_text (put_stated_at p)
unfolding everything same_name
put_stated_anywhere s p has low =
    let t = stated_table p.tree in
    let P : List Table → ℕ → Type 0 = λ ts at. table_named (record s { tables = ts }) (codes "stated") ≡ Some at → IsRead (record s { tables = ts }) p.tree t → IsMeant (record s { tables = ts }) put_stated_text (put_stated_at (record { at = at; tree = p.tree })) in
    step P t (λ ys named read. insert_means (record s { tables = t ∷ ys }) put_stated_text (codes "stated") 0 t named refl _ _ _ _ refl refl refl refl refl) (λ y0.
    step (λ ts at. P (y0 ∷ ts) (suc (at))) t (λ ys named read. insert_means (record s { tables = y0 ∷ t ∷ ys }) put_stated_text (codes "stated") 1 t named refl _ _ _ _ refl refl refl refl refl) (λ y1.
    step (λ ts at. P (y0 ∷ y1 ∷ ts) (suc (suc (at)))) t (λ ys named read. insert_means (record s { tables = y0 ∷ y1 ∷ t ∷ ys }) put_stated_text (codes "stated") 2 t named refl _ _ _ _ refl refl refl refl refl) (λ y2.
    step (λ ts at. P (y0 ∷ y1 ∷ y2 ∷ ts) (suc (suc (suc (at))))) t (λ ys named read. insert_means (record s { tables = y0 ∷ y1 ∷ y2 ∷ t ∷ ys }) put_stated_text (codes "stated") 3 t named refl _ _ _ _ refl refl refl refl refl) (λ y3.
    step (λ ts at. P (y0 ∷ y1 ∷ y2 ∷ y3 ∷ ts) (suc (suc (suc (suc (at)))))) t (λ ys named read. insert_means (record s { tables = y0 ∷ y1 ∷ y2 ∷ y3 ∷ t ∷ ys }) put_stated_text (codes "stated") 4 t named refl _ _ _ _ refl refl refl refl refl) (λ y4.
    step (λ ts at. P (y0 ∷ y1 ∷ y2 ∷ y3 ∷ y4 ∷ ts) (suc (suc (suc (suc (suc (at))))))) t (λ ys named read. insert_means (record s { tables = y0 ∷ y1 ∷ y2 ∷ y3 ∷ y4 ∷ t ∷ ys }) put_stated_text (codes "stated") 5 t named refl _ _ _ _ refl refl refl refl refl) (λ y5.
    step (λ ts at. P (y0 ∷ y1 ∷ y2 ∷ y3 ∷ y4 ∷ y5 ∷ ts) (suc (suc (suc (suc (suc (suc (at)))))))) t (λ ys named read. insert_means (record s { tables = y0 ∷ y1 ∷ y2 ∷ y3 ∷ y4 ∷ y5 ∷ t ∷ ys }) put_stated_text (codes "stated") 6 t named refl _ _ _ _ refl refl refl refl refl) (λ y6 ts at past. absurd (omega (arith, past))))))))) s.tables p.at low has.there has.named has.read

pub retired_anywhere : (s : Schema) (p : Place) → Has s (codes "retired") retired_table p → p.at < 7 → IsMeant s retired_text (retired_at p)
unfolding everything same_name
retired_anywhere s p has low =
    let t = retired_table p.tree in
    let P : List Table → ℕ → Type 0 = λ ts at. table_named (record s { tables = ts }) (codes "retired") ≡ Some at → IsRead (record s { tables = ts }) p.tree t → IsMeant (record s { tables = ts }) retired_text (retired_at (record { at = at; tree = p.tree })) in
    step P t (λ ys named read. select_means (record s { tables = t ∷ ys }) retired_text (codes "retired") 0 p.tree t named read _ _ _ _ _ refl refl refl refl refl refl refl refl refl refl refl) (λ y0.
    step (λ ts at. P (y0 ∷ ts) (suc (at))) t (λ ys named read. select_means (record s { tables = y0 ∷ t ∷ ys }) retired_text (codes "retired") 1 p.tree t named read _ _ _ _ _ refl refl refl refl refl refl refl refl refl refl refl) (λ y1.
    step (λ ts at. P (y0 ∷ y1 ∷ ts) (suc (suc (at)))) t (λ ys named read. select_means (record s { tables = y0 ∷ y1 ∷ t ∷ ys }) retired_text (codes "retired") 2 p.tree t named read _ _ _ _ _ refl refl refl refl refl refl refl refl refl refl refl) (λ y2.
    step (λ ts at. P (y0 ∷ y1 ∷ y2 ∷ ts) (suc (suc (suc (at))))) t (λ ys named read. select_means (record s { tables = y0 ∷ y1 ∷ y2 ∷ t ∷ ys }) retired_text (codes "retired") 3 p.tree t named read _ _ _ _ _ refl refl refl refl refl refl refl refl refl refl refl) (λ y3.
    step (λ ts at. P (y0 ∷ y1 ∷ y2 ∷ y3 ∷ ts) (suc (suc (suc (suc (at)))))) t (λ ys named read. select_means (record s { tables = y0 ∷ y1 ∷ y2 ∷ y3 ∷ t ∷ ys }) retired_text (codes "retired") 4 p.tree t named read _ _ _ _ _ refl refl refl refl refl refl refl refl refl refl refl) (λ y4.
    step (λ ts at. P (y0 ∷ y1 ∷ y2 ∷ y3 ∷ y4 ∷ ts) (suc (suc (suc (suc (suc (at))))))) t (λ ys named read. select_means (record s { tables = y0 ∷ y1 ∷ y2 ∷ y3 ∷ y4 ∷ t ∷ ys }) retired_text (codes "retired") 5 p.tree t named read _ _ _ _ _ refl refl refl refl refl refl refl refl refl refl refl) (λ y5.
    step (λ ts at. P (y0 ∷ y1 ∷ y2 ∷ y3 ∷ y4 ∷ y5 ∷ ts) (suc (suc (suc (suc (suc (suc (at)))))))) t (λ ys named read. select_means (record s { tables = y0 ∷ y1 ∷ y2 ∷ y3 ∷ y4 ∷ y5 ∷ t ∷ ys }) retired_text (codes "retired") 6 p.tree t named read _ _ _ _ _ refl refl refl refl refl refl refl refl refl refl refl) (λ y6 ts at past. absurd (omega (arith, past))))))))) s.tables p.at low has.there has.named has.read

pub put_retired_anywhere : (s : Schema) (p : Place) → Has s (codes "retired") retired_table p → p.at < 7 → IsMeant s put_retired_text (put_retired_at p)
unfolding everything same_name
put_retired_anywhere s p has low =
    let t = retired_table p.tree in
    let P : List Table → ℕ → Type 0 = λ ts at. table_named (record s { tables = ts }) (codes "retired") ≡ Some at → IsRead (record s { tables = ts }) p.tree t → IsMeant (record s { tables = ts }) put_retired_text (put_retired_at (record { at = at; tree = p.tree })) in
    step P t (λ ys named read. insert_means (record s { tables = t ∷ ys }) put_retired_text (codes "retired") 0 t named refl _ _ _ _ refl refl refl refl refl) (λ y0.
    step (λ ts at. P (y0 ∷ ts) (suc (at))) t (λ ys named read. insert_means (record s { tables = y0 ∷ t ∷ ys }) put_retired_text (codes "retired") 1 t named refl _ _ _ _ refl refl refl refl refl) (λ y1.
    step (λ ts at. P (y0 ∷ y1 ∷ ts) (suc (suc (at)))) t (λ ys named read. insert_means (record s { tables = y0 ∷ y1 ∷ t ∷ ys }) put_retired_text (codes "retired") 2 t named refl _ _ _ _ refl refl refl refl refl) (λ y2.
    step (λ ts at. P (y0 ∷ y1 ∷ y2 ∷ ts) (suc (suc (suc (at))))) t (λ ys named read. insert_means (record s { tables = y0 ∷ y1 ∷ y2 ∷ t ∷ ys }) put_retired_text (codes "retired") 3 t named refl _ _ _ _ refl refl refl refl refl) (λ y3.
    step (λ ts at. P (y0 ∷ y1 ∷ y2 ∷ y3 ∷ ts) (suc (suc (suc (suc (at)))))) t (λ ys named read. insert_means (record s { tables = y0 ∷ y1 ∷ y2 ∷ y3 ∷ t ∷ ys }) put_retired_text (codes "retired") 4 t named refl _ _ _ _ refl refl refl refl refl) (λ y4.
    step (λ ts at. P (y0 ∷ y1 ∷ y2 ∷ y3 ∷ y4 ∷ ts) (suc (suc (suc (suc (suc (at))))))) t (λ ys named read. insert_means (record s { tables = y0 ∷ y1 ∷ y2 ∷ y3 ∷ y4 ∷ t ∷ ys }) put_retired_text (codes "retired") 5 t named refl _ _ _ _ refl refl refl refl refl) (λ y5.
    step (λ ts at. P (y0 ∷ y1 ∷ y2 ∷ y3 ∷ y4 ∷ y5 ∷ ts) (suc (suc (suc (suc (suc (suc (at)))))))) t (λ ys named read. insert_means (record s { tables = y0 ∷ y1 ∷ y2 ∷ y3 ∷ y4 ∷ y5 ∷ t ∷ ys }) put_retired_text (codes "retired") 6 t named refl _ _ _ _ refl refl refl refl refl) (λ y6 ts at past. absurd (omega (arith, past))))))))) s.tables p.at low has.there has.named has.read

pub all_retired_anywhere : (s : Schema) (p : Place) → Has s (codes "retired") retired_table p → p.at < 7 → IsMeant s all_retired_text (all_retired_at p)
unfolding everything same_name
all_retired_anywhere s p has low =
    let t = retired_table p.tree in
    let P : List Table → ℕ → Type 0 = λ ts at. table_named (record s { tables = ts }) (codes "retired") ≡ Some at → IsRead (record s { tables = ts }) p.tree t → IsMeant (record s { tables = ts }) all_retired_text (all_retired_at (record { at = at; tree = p.tree })) in
    step P t (λ ys named read. select_means (record s { tables = t ∷ ys }) all_retired_text (codes "retired") 0 p.tree t named read _ _ _ _ _ refl refl refl refl refl refl refl refl refl refl refl) (λ y0.
    step (λ ts at. P (y0 ∷ ts) (suc (at))) t (λ ys named read. select_means (record s { tables = y0 ∷ t ∷ ys }) all_retired_text (codes "retired") 1 p.tree t named read _ _ _ _ _ refl refl refl refl refl refl refl refl refl refl refl) (λ y1.
    step (λ ts at. P (y0 ∷ y1 ∷ ts) (suc (suc (at)))) t (λ ys named read. select_means (record s { tables = y0 ∷ y1 ∷ t ∷ ys }) all_retired_text (codes "retired") 2 p.tree t named read _ _ _ _ _ refl refl refl refl refl refl refl refl refl refl refl) (λ y2.
    step (λ ts at. P (y0 ∷ y1 ∷ y2 ∷ ts) (suc (suc (suc (at))))) t (λ ys named read. select_means (record s { tables = y0 ∷ y1 ∷ y2 ∷ t ∷ ys }) all_retired_text (codes "retired") 3 p.tree t named read _ _ _ _ _ refl refl refl refl refl refl refl refl refl refl refl) (λ y3.
    step (λ ts at. P (y0 ∷ y1 ∷ y2 ∷ y3 ∷ ts) (suc (suc (suc (suc (at)))))) t (λ ys named read. select_means (record s { tables = y0 ∷ y1 ∷ y2 ∷ y3 ∷ t ∷ ys }) all_retired_text (codes "retired") 4 p.tree t named read _ _ _ _ _ refl refl refl refl refl refl refl refl refl refl refl) (λ y4.
    step (λ ts at. P (y0 ∷ y1 ∷ y2 ∷ y3 ∷ y4 ∷ ts) (suc (suc (suc (suc (suc (at))))))) t (λ ys named read. select_means (record s { tables = y0 ∷ y1 ∷ y2 ∷ y3 ∷ y4 ∷ t ∷ ys }) all_retired_text (codes "retired") 5 p.tree t named read _ _ _ _ _ refl refl refl refl refl refl refl refl refl refl refl) (λ y5.
    step (λ ts at. P (y0 ∷ y1 ∷ y2 ∷ y3 ∷ y4 ∷ y5 ∷ ts) (suc (suc (suc (suc (suc (suc (at)))))))) t (λ ys named read. select_means (record s { tables = y0 ∷ y1 ∷ y2 ∷ y3 ∷ y4 ∷ y5 ∷ t ∷ ys }) all_retired_text (codes "retired") 6 p.tree t named read _ _ _ _ _ refl refl refl refl refl refl refl refl refl refl refl) (λ y6 ts at past. absurd (omega (arith, past))))))))) s.tables p.at low has.there has.named has.read

pub unused_anywhere : (s : Schema) (p : Place) → Has s (codes "tap") tap_table p → p.at < 7 → IsMeant s unused_text (unused_at p)
unfolding everything same_name
unused_anywhere s p has low =
    let t = tap_table p.tree in
    let P : List Table → ℕ → Type 0 = λ ts at. table_named (record s { tables = ts }) (codes "tap") ≡ Some at → IsRead (record s { tables = ts }) p.tree t → IsMeant (record s { tables = ts }) unused_text (unused_at (record { at = at; tree = p.tree })) in
    step P t (λ ys named read. select_means (record s { tables = t ∷ ys }) unused_text (codes "tap") 0 p.tree t named read _ _ _ _ _ refl refl refl refl refl refl refl refl refl refl refl) (λ y0.
    step (λ ts at. P (y0 ∷ ts) (suc (at))) t (λ ys named read. select_means (record s { tables = y0 ∷ t ∷ ys }) unused_text (codes "tap") 1 p.tree t named read _ _ _ _ _ refl refl refl refl refl refl refl refl refl refl refl) (λ y1.
    step (λ ts at. P (y0 ∷ y1 ∷ ts) (suc (suc (at)))) t (λ ys named read. select_means (record s { tables = y0 ∷ y1 ∷ t ∷ ys }) unused_text (codes "tap") 2 p.tree t named read _ _ _ _ _ refl refl refl refl refl refl refl refl refl refl refl) (λ y2.
    step (λ ts at. P (y0 ∷ y1 ∷ y2 ∷ ts) (suc (suc (suc (at))))) t (λ ys named read. select_means (record s { tables = y0 ∷ y1 ∷ y2 ∷ t ∷ ys }) unused_text (codes "tap") 3 p.tree t named read _ _ _ _ _ refl refl refl refl refl refl refl refl refl refl refl) (λ y3.
    step (λ ts at. P (y0 ∷ y1 ∷ y2 ∷ y3 ∷ ts) (suc (suc (suc (suc (at)))))) t (λ ys named read. select_means (record s { tables = y0 ∷ y1 ∷ y2 ∷ y3 ∷ t ∷ ys }) unused_text (codes "tap") 4 p.tree t named read _ _ _ _ _ refl refl refl refl refl refl refl refl refl refl refl) (λ y4.
    step (λ ts at. P (y0 ∷ y1 ∷ y2 ∷ y3 ∷ y4 ∷ ts) (suc (suc (suc (suc (suc (at))))))) t (λ ys named read. select_means (record s { tables = y0 ∷ y1 ∷ y2 ∷ y3 ∷ y4 ∷ t ∷ ys }) unused_text (codes "tap") 5 p.tree t named read _ _ _ _ _ refl refl refl refl refl refl refl refl refl refl refl) (λ y5.
    step (λ ts at. P (y0 ∷ y1 ∷ y2 ∷ y3 ∷ y4 ∷ y5 ∷ ts) (suc (suc (suc (suc (suc (suc (at)))))))) t (λ ys named read. select_means (record s { tables = y0 ∷ y1 ∷ y2 ∷ y3 ∷ y4 ∷ y5 ∷ t ∷ ys }) unused_text (codes "tap") 6 p.tree t named read _ _ _ _ _ refl refl refl refl refl refl refl refl refl refl refl) (λ y6 ts at past. absurd (omega (arith, past))))))))) s.tables p.at low has.there has.named has.read

pub put_older_anywhere : (s : Schema) (p : Place) → Has s (codes "tap2") routed_table p → p.at < 7 → IsMeant s put_older_text (put_older_at p)
unfolding everything same_name
put_older_anywhere s p has low =
    let t = routed_table p.tree in
    let P : List Table → ℕ → Type 0 = λ ts at. table_named (record s { tables = ts }) (codes "tap2") ≡ Some at → IsRead (record s { tables = ts }) p.tree t → IsMeant (record s { tables = ts }) put_older_text (put_older_at (record { at = at; tree = p.tree })) in
    step P t (λ ys named read. insert_means (record s { tables = t ∷ ys }) put_older_text (codes "tap2") 0 t named refl _ _ _ _ refl refl refl refl refl) (λ y0.
    step (λ ts at. P (y0 ∷ ts) (suc (at))) t (λ ys named read. insert_means (record s { tables = y0 ∷ t ∷ ys }) put_older_text (codes "tap2") 1 t named refl _ _ _ _ refl refl refl refl refl) (λ y1.
    step (λ ts at. P (y0 ∷ y1 ∷ ts) (suc (suc (at)))) t (λ ys named read. insert_means (record s { tables = y0 ∷ y1 ∷ t ∷ ys }) put_older_text (codes "tap2") 2 t named refl _ _ _ _ refl refl refl refl refl) (λ y2.
    step (λ ts at. P (y0 ∷ y1 ∷ y2 ∷ ts) (suc (suc (suc (at))))) t (λ ys named read. insert_means (record s { tables = y0 ∷ y1 ∷ y2 ∷ t ∷ ys }) put_older_text (codes "tap2") 3 t named refl _ _ _ _ refl refl refl refl refl) (λ y3.
    step (λ ts at. P (y0 ∷ y1 ∷ y2 ∷ y3 ∷ ts) (suc (suc (suc (suc (at)))))) t (λ ys named read. insert_means (record s { tables = y0 ∷ y1 ∷ y2 ∷ y3 ∷ t ∷ ys }) put_older_text (codes "tap2") 4 t named refl _ _ _ _ refl refl refl refl refl) (λ y4.
    step (λ ts at. P (y0 ∷ y1 ∷ y2 ∷ y3 ∷ y4 ∷ ts) (suc (suc (suc (suc (suc (at))))))) t (λ ys named read. insert_means (record s { tables = y0 ∷ y1 ∷ y2 ∷ y3 ∷ y4 ∷ t ∷ ys }) put_older_text (codes "tap2") 5 t named refl _ _ _ _ refl refl refl refl refl) (λ y5.
    step (λ ts at. P (y0 ∷ y1 ∷ y2 ∷ y3 ∷ y4 ∷ y5 ∷ ts) (suc (suc (suc (suc (suc (suc (at)))))))) t (λ ys named read. insert_means (record s { tables = y0 ∷ y1 ∷ y2 ∷ y3 ∷ y4 ∷ y5 ∷ t ∷ ys }) put_older_text (codes "tap2") 6 t named refl _ _ _ _ refl refl refl refl refl) (λ y6 ts at past. absurd (omega (arith, past))))))))) s.tables p.at low has.there has.named has.read

pub clear_older_anywhere : (s : Schema) (p : Place) → Has s (codes "tap") tap_table p → p.at < 7 → IsMeant s clear_older_text (clear_older_at p)
unfolding everything same_name
clear_older_anywhere s p has low =
    let t = tap_table p.tree in
    let P : List Table → ℕ → Type 0 = λ ts at. table_named (record s { tables = ts }) (codes "tap") ≡ Some at → IsRead (record s { tables = ts }) p.tree t → IsMeant (record s { tables = ts }) clear_older_text (clear_older_at (record { at = at; tree = p.tree })) in
    step P t (λ ys named read. delete_means (record s { tables = t ∷ ys }) clear_older_text (codes "tap") 0 p.tree t named refl read _ _ _ refl refl refl refl refl refl) (λ y0.
    step (λ ts at. P (y0 ∷ ts) (suc (at))) t (λ ys named read. delete_means (record s { tables = y0 ∷ t ∷ ys }) clear_older_text (codes "tap") 1 p.tree t named refl read _ _ _ refl refl refl refl refl refl) (λ y1.
    step (λ ts at. P (y0 ∷ y1 ∷ ts) (suc (suc (at)))) t (λ ys named read. delete_means (record s { tables = y0 ∷ y1 ∷ t ∷ ys }) clear_older_text (codes "tap") 2 p.tree t named refl read _ _ _ refl refl refl refl refl refl) (λ y2.
    step (λ ts at. P (y0 ∷ y1 ∷ y2 ∷ ts) (suc (suc (suc (at))))) t (λ ys named read. delete_means (record s { tables = y0 ∷ y1 ∷ y2 ∷ t ∷ ys }) clear_older_text (codes "tap") 3 p.tree t named refl read _ _ _ refl refl refl refl refl refl) (λ y3.
    step (λ ts at. P (y0 ∷ y1 ∷ y2 ∷ y3 ∷ ts) (suc (suc (suc (suc (at)))))) t (λ ys named read. delete_means (record s { tables = y0 ∷ y1 ∷ y2 ∷ y3 ∷ t ∷ ys }) clear_older_text (codes "tap") 4 p.tree t named refl read _ _ _ refl refl refl refl refl refl) (λ y4.
    step (λ ts at. P (y0 ∷ y1 ∷ y2 ∷ y3 ∷ y4 ∷ ts) (suc (suc (suc (suc (suc (at))))))) t (λ ys named read. delete_means (record s { tables = y0 ∷ y1 ∷ y2 ∷ y3 ∷ y4 ∷ t ∷ ys }) clear_older_text (codes "tap") 5 p.tree t named refl read _ _ _ refl refl refl refl refl refl) (λ y5.
    step (λ ts at. P (y0 ∷ y1 ∷ y2 ∷ y3 ∷ y4 ∷ y5 ∷ ts) (suc (suc (suc (suc (suc (suc (at)))))))) t (λ ys named read. delete_means (record s { tables = y0 ∷ y1 ∷ y2 ∷ y3 ∷ y4 ∷ y5 ∷ t ∷ ys }) clear_older_text (codes "tap") 6 p.tree t named refl read _ _ _ refl refl refl refl refl refl) (λ y6 ts at past. absurd (omega (arith, past))))))))) s.tables p.at low has.there has.named has.read

pub since_anywhere : (s : Schema) (p : Place) → Has s (codes "held") held_table p → p.at < 7 → IsMeant s since_text (since_at p)
unfolding everything same_name
since_anywhere s p has low =
    let t = held_table p.tree in
    let P : List Table → ℕ → Type 0 = λ ts at. table_named (record s { tables = ts }) (codes "held") ≡ Some at → IsRead (record s { tables = ts }) p.tree t → IsMeant (record s { tables = ts }) since_text (since_at (record { at = at; tree = p.tree })) in
    step P t (λ ys named read. select_means (record s { tables = t ∷ ys }) since_text (codes "held") 0 p.tree t named read _ _ _ _ _ refl refl refl refl refl refl refl refl refl refl refl) (λ y0.
    step (λ ts at. P (y0 ∷ ts) (suc (at))) t (λ ys named read. select_means (record s { tables = y0 ∷ t ∷ ys }) since_text (codes "held") 1 p.tree t named read _ _ _ _ _ refl refl refl refl refl refl refl refl refl refl refl) (λ y1.
    step (λ ts at. P (y0 ∷ y1 ∷ ts) (suc (suc (at)))) t (λ ys named read. select_means (record s { tables = y0 ∷ y1 ∷ t ∷ ys }) since_text (codes "held") 2 p.tree t named read _ _ _ _ _ refl refl refl refl refl refl refl refl refl refl refl) (λ y2.
    step (λ ts at. P (y0 ∷ y1 ∷ y2 ∷ ts) (suc (suc (suc (at))))) t (λ ys named read. select_means (record s { tables = y0 ∷ y1 ∷ y2 ∷ t ∷ ys }) since_text (codes "held") 3 p.tree t named read _ _ _ _ _ refl refl refl refl refl refl refl refl refl refl refl) (λ y3.
    step (λ ts at. P (y0 ∷ y1 ∷ y2 ∷ y3 ∷ ts) (suc (suc (suc (suc (at)))))) t (λ ys named read. select_means (record s { tables = y0 ∷ y1 ∷ y2 ∷ y3 ∷ t ∷ ys }) since_text (codes "held") 4 p.tree t named read _ _ _ _ _ refl refl refl refl refl refl refl refl refl refl refl) (λ y4.
    step (λ ts at. P (y0 ∷ y1 ∷ y2 ∷ y3 ∷ y4 ∷ ts) (suc (suc (suc (suc (suc (at))))))) t (λ ys named read. select_means (record s { tables = y0 ∷ y1 ∷ y2 ∷ y3 ∷ y4 ∷ t ∷ ys }) since_text (codes "held") 5 p.tree t named read _ _ _ _ _ refl refl refl refl refl refl refl refl refl refl refl) (λ y5.
    step (λ ts at. P (y0 ∷ y1 ∷ y2 ∷ y3 ∷ y4 ∷ y5 ∷ ts) (suc (suc (suc (suc (suc (suc (at)))))))) t (λ ys named read. select_means (record s { tables = y0 ∷ y1 ∷ y2 ∷ y3 ∷ y4 ∷ y5 ∷ t ∷ ys }) since_text (codes "held") 6 p.tree t named read _ _ _ _ _ refl refl refl refl refl refl refl refl refl refl refl) (λ y6 ts at past. absurd (omega (arith, past))))))))) s.tables p.at low has.there has.named has.read

pub put_since_anywhere : (s : Schema) (p : Place) → Has s (codes "held") held_table p → length s.tables ≡ 7 → p.at < 7 → IsMeant s put_since_text (put_since_at p)
unfolding everything same_name
put_since_anywhere s p has seven low =
    let t = held_table p.tree in
    let P : List Table → ℕ → Type 0 = λ ts at. length ts ≡ 7 → table_named (record s { tables = ts }) (codes "held") ≡ Some at → IsRead (record s { tables = ts }) p.tree t → IsMeant (record s { tables = ts }) put_since_text (put_since_at (record { at = at; tree = p.tree })) in
    step P t (λ ys seven. one_more (λ ys. table_named (record s { tables = t ∷ ys }) (codes "held") ≡ Some 0 → IsRead (record s { tables = t ∷ ys }) p.tree t → IsMeant (record s { tables = t ∷ ys }) put_since_text (put_since_at (record { at = 0; tree = p.tree }))) (λ z0. one_more (λ ys. table_named (record s { tables = t ∷ z0 ∷ ys }) (codes "held") ≡ Some 0 → IsRead (record s { tables = t ∷ z0 ∷ ys }) p.tree t → IsMeant (record s { tables = t ∷ z0 ∷ ys }) put_since_text (put_since_at (record { at = 0; tree = p.tree }))) (λ z1. one_more (λ ys. table_named (record s { tables = t ∷ z0 ∷ z1 ∷ ys }) (codes "held") ≡ Some 0 → IsRead (record s { tables = t ∷ z0 ∷ z1 ∷ ys }) p.tree t → IsMeant (record s { tables = t ∷ z0 ∷ z1 ∷ ys }) put_since_text (put_since_at (record { at = 0; tree = p.tree }))) (λ z2. one_more (λ ys. table_named (record s { tables = t ∷ z0 ∷ z1 ∷ z2 ∷ ys }) (codes "held") ≡ Some 0 → IsRead (record s { tables = t ∷ z0 ∷ z1 ∷ z2 ∷ ys }) p.tree t → IsMeant (record s { tables = t ∷ z0 ∷ z1 ∷ z2 ∷ ys }) put_since_text (put_since_at (record { at = 0; tree = p.tree }))) (λ z3. one_more (λ ys. table_named (record s { tables = t ∷ z0 ∷ z1 ∷ z2 ∷ z3 ∷ ys }) (codes "held") ≡ Some 0 → IsRead (record s { tables = t ∷ z0 ∷ z1 ∷ z2 ∷ z3 ∷ ys }) p.tree t → IsMeant (record s { tables = t ∷ z0 ∷ z1 ∷ z2 ∷ z3 ∷ ys }) put_since_text (put_since_at (record { at = 0; tree = p.tree }))) (λ z4. one_more (λ ys. table_named (record s { tables = t ∷ z0 ∷ z1 ∷ z2 ∷ z3 ∷ z4 ∷ ys }) (codes "held") ≡ Some 0 → IsRead (record s { tables = t ∷ z0 ∷ z1 ∷ z2 ∷ z3 ∷ z4 ∷ ys }) p.tree t → IsMeant (record s { tables = t ∷ z0 ∷ z1 ∷ z2 ∷ z3 ∷ z4 ∷ ys }) put_since_text (put_since_at (record { at = 0; tree = p.tree }))) (λ z5. none_more (λ ys. table_named (record s { tables = t ∷ z0 ∷ z1 ∷ z2 ∷ z3 ∷ z4 ∷ z5 ∷ ys }) (codes "held") ≡ Some 0 → IsRead (record s { tables = t ∷ z0 ∷ z1 ∷ z2 ∷ z3 ∷ z4 ∷ z5 ∷ ys }) p.tree t → IsMeant (record s { tables = t ∷ z0 ∷ z1 ∷ z2 ∷ z3 ∷ z4 ∷ z5 ∷ ys }) put_since_text (put_since_at (record { at = 0; tree = p.tree }))) (λ named read. upsert_means (record s { tables = t ∷ z0 ∷ z1 ∷ z2 ∷ z3 ∷ z4 ∷ z5 ∷ [] }) put_since_text (codes "held") 0 p.tree t named refl read _ _ _ _ _ _ _ refl refl refl refl refl refl refl refl refl refl refl))))))) ys (omega (arith, seven))) (λ y0.
    step (λ ts at. P (y0 ∷ ts) (suc (at))) t (λ ys seven. one_more (λ ys. table_named (record s { tables = y0 ∷ t ∷ ys }) (codes "held") ≡ Some 1 → IsRead (record s { tables = y0 ∷ t ∷ ys }) p.tree t → IsMeant (record s { tables = y0 ∷ t ∷ ys }) put_since_text (put_since_at (record { at = 1; tree = p.tree }))) (λ z0. one_more (λ ys. table_named (record s { tables = y0 ∷ t ∷ z0 ∷ ys }) (codes "held") ≡ Some 1 → IsRead (record s { tables = y0 ∷ t ∷ z0 ∷ ys }) p.tree t → IsMeant (record s { tables = y0 ∷ t ∷ z0 ∷ ys }) put_since_text (put_since_at (record { at = 1; tree = p.tree }))) (λ z1. one_more (λ ys. table_named (record s { tables = y0 ∷ t ∷ z0 ∷ z1 ∷ ys }) (codes "held") ≡ Some 1 → IsRead (record s { tables = y0 ∷ t ∷ z0 ∷ z1 ∷ ys }) p.tree t → IsMeant (record s { tables = y0 ∷ t ∷ z0 ∷ z1 ∷ ys }) put_since_text (put_since_at (record { at = 1; tree = p.tree }))) (λ z2. one_more (λ ys. table_named (record s { tables = y0 ∷ t ∷ z0 ∷ z1 ∷ z2 ∷ ys }) (codes "held") ≡ Some 1 → IsRead (record s { tables = y0 ∷ t ∷ z0 ∷ z1 ∷ z2 ∷ ys }) p.tree t → IsMeant (record s { tables = y0 ∷ t ∷ z0 ∷ z1 ∷ z2 ∷ ys }) put_since_text (put_since_at (record { at = 1; tree = p.tree }))) (λ z3. one_more (λ ys. table_named (record s { tables = y0 ∷ t ∷ z0 ∷ z1 ∷ z2 ∷ z3 ∷ ys }) (codes "held") ≡ Some 1 → IsRead (record s { tables = y0 ∷ t ∷ z0 ∷ z1 ∷ z2 ∷ z3 ∷ ys }) p.tree t → IsMeant (record s { tables = y0 ∷ t ∷ z0 ∷ z1 ∷ z2 ∷ z3 ∷ ys }) put_since_text (put_since_at (record { at = 1; tree = p.tree }))) (λ z4. none_more (λ ys. table_named (record s { tables = y0 ∷ t ∷ z0 ∷ z1 ∷ z2 ∷ z3 ∷ z4 ∷ ys }) (codes "held") ≡ Some 1 → IsRead (record s { tables = y0 ∷ t ∷ z0 ∷ z1 ∷ z2 ∷ z3 ∷ z4 ∷ ys }) p.tree t → IsMeant (record s { tables = y0 ∷ t ∷ z0 ∷ z1 ∷ z2 ∷ z3 ∷ z4 ∷ ys }) put_since_text (put_since_at (record { at = 1; tree = p.tree }))) (λ named read. upsert_means (record s { tables = y0 ∷ t ∷ z0 ∷ z1 ∷ z2 ∷ z3 ∷ z4 ∷ [] }) put_since_text (codes "held") 1 p.tree t named refl read _ _ _ _ _ _ _ refl refl refl refl refl refl refl refl refl refl refl)))))) ys (omega (arith, seven))) (λ y1.
    step (λ ts at. P (y0 ∷ y1 ∷ ts) (suc (suc (at)))) t (λ ys seven. one_more (λ ys. table_named (record s { tables = y0 ∷ y1 ∷ t ∷ ys }) (codes "held") ≡ Some 2 → IsRead (record s { tables = y0 ∷ y1 ∷ t ∷ ys }) p.tree t → IsMeant (record s { tables = y0 ∷ y1 ∷ t ∷ ys }) put_since_text (put_since_at (record { at = 2; tree = p.tree }))) (λ z0. one_more (λ ys. table_named (record s { tables = y0 ∷ y1 ∷ t ∷ z0 ∷ ys }) (codes "held") ≡ Some 2 → IsRead (record s { tables = y0 ∷ y1 ∷ t ∷ z0 ∷ ys }) p.tree t → IsMeant (record s { tables = y0 ∷ y1 ∷ t ∷ z0 ∷ ys }) put_since_text (put_since_at (record { at = 2; tree = p.tree }))) (λ z1. one_more (λ ys. table_named (record s { tables = y0 ∷ y1 ∷ t ∷ z0 ∷ z1 ∷ ys }) (codes "held") ≡ Some 2 → IsRead (record s { tables = y0 ∷ y1 ∷ t ∷ z0 ∷ z1 ∷ ys }) p.tree t → IsMeant (record s { tables = y0 ∷ y1 ∷ t ∷ z0 ∷ z1 ∷ ys }) put_since_text (put_since_at (record { at = 2; tree = p.tree }))) (λ z2. one_more (λ ys. table_named (record s { tables = y0 ∷ y1 ∷ t ∷ z0 ∷ z1 ∷ z2 ∷ ys }) (codes "held") ≡ Some 2 → IsRead (record s { tables = y0 ∷ y1 ∷ t ∷ z0 ∷ z1 ∷ z2 ∷ ys }) p.tree t → IsMeant (record s { tables = y0 ∷ y1 ∷ t ∷ z0 ∷ z1 ∷ z2 ∷ ys }) put_since_text (put_since_at (record { at = 2; tree = p.tree }))) (λ z3. none_more (λ ys. table_named (record s { tables = y0 ∷ y1 ∷ t ∷ z0 ∷ z1 ∷ z2 ∷ z3 ∷ ys }) (codes "held") ≡ Some 2 → IsRead (record s { tables = y0 ∷ y1 ∷ t ∷ z0 ∷ z1 ∷ z2 ∷ z3 ∷ ys }) p.tree t → IsMeant (record s { tables = y0 ∷ y1 ∷ t ∷ z0 ∷ z1 ∷ z2 ∷ z3 ∷ ys }) put_since_text (put_since_at (record { at = 2; tree = p.tree }))) (λ named read. upsert_means (record s { tables = y0 ∷ y1 ∷ t ∷ z0 ∷ z1 ∷ z2 ∷ z3 ∷ [] }) put_since_text (codes "held") 2 p.tree t named refl read _ _ _ _ _ _ _ refl refl refl refl refl refl refl refl refl refl refl))))) ys (omega (arith, seven))) (λ y2.
    step (λ ts at. P (y0 ∷ y1 ∷ y2 ∷ ts) (suc (suc (suc (at))))) t (λ ys seven. one_more (λ ys. table_named (record s { tables = y0 ∷ y1 ∷ y2 ∷ t ∷ ys }) (codes "held") ≡ Some 3 → IsRead (record s { tables = y0 ∷ y1 ∷ y2 ∷ t ∷ ys }) p.tree t → IsMeant (record s { tables = y0 ∷ y1 ∷ y2 ∷ t ∷ ys }) put_since_text (put_since_at (record { at = 3; tree = p.tree }))) (λ z0. one_more (λ ys. table_named (record s { tables = y0 ∷ y1 ∷ y2 ∷ t ∷ z0 ∷ ys }) (codes "held") ≡ Some 3 → IsRead (record s { tables = y0 ∷ y1 ∷ y2 ∷ t ∷ z0 ∷ ys }) p.tree t → IsMeant (record s { tables = y0 ∷ y1 ∷ y2 ∷ t ∷ z0 ∷ ys }) put_since_text (put_since_at (record { at = 3; tree = p.tree }))) (λ z1. one_more (λ ys. table_named (record s { tables = y0 ∷ y1 ∷ y2 ∷ t ∷ z0 ∷ z1 ∷ ys }) (codes "held") ≡ Some 3 → IsRead (record s { tables = y0 ∷ y1 ∷ y2 ∷ t ∷ z0 ∷ z1 ∷ ys }) p.tree t → IsMeant (record s { tables = y0 ∷ y1 ∷ y2 ∷ t ∷ z0 ∷ z1 ∷ ys }) put_since_text (put_since_at (record { at = 3; tree = p.tree }))) (λ z2. none_more (λ ys. table_named (record s { tables = y0 ∷ y1 ∷ y2 ∷ t ∷ z0 ∷ z1 ∷ z2 ∷ ys }) (codes "held") ≡ Some 3 → IsRead (record s { tables = y0 ∷ y1 ∷ y2 ∷ t ∷ z0 ∷ z1 ∷ z2 ∷ ys }) p.tree t → IsMeant (record s { tables = y0 ∷ y1 ∷ y2 ∷ t ∷ z0 ∷ z1 ∷ z2 ∷ ys }) put_since_text (put_since_at (record { at = 3; tree = p.tree }))) (λ named read. upsert_means (record s { tables = y0 ∷ y1 ∷ y2 ∷ t ∷ z0 ∷ z1 ∷ z2 ∷ [] }) put_since_text (codes "held") 3 p.tree t named refl read _ _ _ _ _ _ _ refl refl refl refl refl refl refl refl refl refl refl)))) ys (omega (arith, seven))) (λ y3.
    step (λ ts at. P (y0 ∷ y1 ∷ y2 ∷ y3 ∷ ts) (suc (suc (suc (suc (at)))))) t (λ ys seven. one_more (λ ys. table_named (record s { tables = y0 ∷ y1 ∷ y2 ∷ y3 ∷ t ∷ ys }) (codes "held") ≡ Some 4 → IsRead (record s { tables = y0 ∷ y1 ∷ y2 ∷ y3 ∷ t ∷ ys }) p.tree t → IsMeant (record s { tables = y0 ∷ y1 ∷ y2 ∷ y3 ∷ t ∷ ys }) put_since_text (put_since_at (record { at = 4; tree = p.tree }))) (λ z0. one_more (λ ys. table_named (record s { tables = y0 ∷ y1 ∷ y2 ∷ y3 ∷ t ∷ z0 ∷ ys }) (codes "held") ≡ Some 4 → IsRead (record s { tables = y0 ∷ y1 ∷ y2 ∷ y3 ∷ t ∷ z0 ∷ ys }) p.tree t → IsMeant (record s { tables = y0 ∷ y1 ∷ y2 ∷ y3 ∷ t ∷ z0 ∷ ys }) put_since_text (put_since_at (record { at = 4; tree = p.tree }))) (λ z1. none_more (λ ys. table_named (record s { tables = y0 ∷ y1 ∷ y2 ∷ y3 ∷ t ∷ z0 ∷ z1 ∷ ys }) (codes "held") ≡ Some 4 → IsRead (record s { tables = y0 ∷ y1 ∷ y2 ∷ y3 ∷ t ∷ z0 ∷ z1 ∷ ys }) p.tree t → IsMeant (record s { tables = y0 ∷ y1 ∷ y2 ∷ y3 ∷ t ∷ z0 ∷ z1 ∷ ys }) put_since_text (put_since_at (record { at = 4; tree = p.tree }))) (λ named read. upsert_means (record s { tables = y0 ∷ y1 ∷ y2 ∷ y3 ∷ t ∷ z0 ∷ z1 ∷ [] }) put_since_text (codes "held") 4 p.tree t named refl read _ _ _ _ _ _ _ refl refl refl refl refl refl refl refl refl refl refl))) ys (omega (arith, seven))) (λ y4.
    step (λ ts at. P (y0 ∷ y1 ∷ y2 ∷ y3 ∷ y4 ∷ ts) (suc (suc (suc (suc (suc (at))))))) t (λ ys seven. one_more (λ ys. table_named (record s { tables = y0 ∷ y1 ∷ y2 ∷ y3 ∷ y4 ∷ t ∷ ys }) (codes "held") ≡ Some 5 → IsRead (record s { tables = y0 ∷ y1 ∷ y2 ∷ y3 ∷ y4 ∷ t ∷ ys }) p.tree t → IsMeant (record s { tables = y0 ∷ y1 ∷ y2 ∷ y3 ∷ y4 ∷ t ∷ ys }) put_since_text (put_since_at (record { at = 5; tree = p.tree }))) (λ z0. none_more (λ ys. table_named (record s { tables = y0 ∷ y1 ∷ y2 ∷ y3 ∷ y4 ∷ t ∷ z0 ∷ ys }) (codes "held") ≡ Some 5 → IsRead (record s { tables = y0 ∷ y1 ∷ y2 ∷ y3 ∷ y4 ∷ t ∷ z0 ∷ ys }) p.tree t → IsMeant (record s { tables = y0 ∷ y1 ∷ y2 ∷ y3 ∷ y4 ∷ t ∷ z0 ∷ ys }) put_since_text (put_since_at (record { at = 5; tree = p.tree }))) (λ named read. upsert_means (record s { tables = y0 ∷ y1 ∷ y2 ∷ y3 ∷ y4 ∷ t ∷ z0 ∷ [] }) put_since_text (codes "held") 5 p.tree t named refl read _ _ _ _ _ _ _ refl refl refl refl refl refl refl refl refl refl refl)) ys (omega (arith, seven))) (λ y5.
    step (λ ts at. P (y0 ∷ y1 ∷ y2 ∷ y3 ∷ y4 ∷ y5 ∷ ts) (suc (suc (suc (suc (suc (suc (at)))))))) t (λ ys seven. none_more (λ ys. table_named (record s { tables = y0 ∷ y1 ∷ y2 ∷ y3 ∷ y4 ∷ y5 ∷ t ∷ ys }) (codes "held") ≡ Some 6 → IsRead (record s { tables = y0 ∷ y1 ∷ y2 ∷ y3 ∷ y4 ∷ y5 ∷ t ∷ ys }) p.tree t → IsMeant (record s { tables = y0 ∷ y1 ∷ y2 ∷ y3 ∷ y4 ∷ y5 ∷ t ∷ ys }) put_since_text (put_since_at (record { at = 6; tree = p.tree }))) (λ named read. upsert_means (record s { tables = y0 ∷ y1 ∷ y2 ∷ y3 ∷ y4 ∷ y5 ∷ t ∷ [] }) put_since_text (codes "held") 6 p.tree t named refl read _ _ _ _ _ _ _ refl refl refl refl refl refl refl refl refl refl refl) ys (omega (arith, seven))) (λ y6 ts at past. absurd (omega (arith, past))))))))) s.tables p.at low has.there seven has.named has.read

pub kept_anywhere : (s : Schema) (p : Place) → Has s (codes "tap2") routed_table p → p.at < 7 → IsMeant s kept_text (kept_at p)
unfolding everything same_name
kept_anywhere s p has low =
    let t = routed_table p.tree in
    let P : List Table → ℕ → Type 0 = λ ts at. table_named (record s { tables = ts }) (codes "tap2") ≡ Some at → IsRead (record s { tables = ts }) p.tree t → IsMeant (record s { tables = ts }) kept_text (kept_at (record { at = at; tree = p.tree })) in
    step P t (λ ys named read. select_means (record s { tables = t ∷ ys }) kept_text (codes "tap2") 0 p.tree t named read _ _ _ _ _ refl refl refl refl refl refl refl refl refl refl refl) (λ y0.
    step (λ ts at. P (y0 ∷ ts) (suc (at))) t (λ ys named read. select_means (record s { tables = y0 ∷ t ∷ ys }) kept_text (codes "tap2") 1 p.tree t named read _ _ _ _ _ refl refl refl refl refl refl refl refl refl refl refl) (λ y1.
    step (λ ts at. P (y0 ∷ y1 ∷ ts) (suc (suc (at)))) t (λ ys named read. select_means (record s { tables = y0 ∷ y1 ∷ t ∷ ys }) kept_text (codes "tap2") 2 p.tree t named read _ _ _ _ _ refl refl refl refl refl refl refl refl refl refl refl) (λ y2.
    step (λ ts at. P (y0 ∷ y1 ∷ y2 ∷ ts) (suc (suc (suc (at))))) t (λ ys named read. select_means (record s { tables = y0 ∷ y1 ∷ y2 ∷ t ∷ ys }) kept_text (codes "tap2") 3 p.tree t named read _ _ _ _ _ refl refl refl refl refl refl refl refl refl refl refl) (λ y3.
    step (λ ts at. P (y0 ∷ y1 ∷ y2 ∷ y3 ∷ ts) (suc (suc (suc (suc (at)))))) t (λ ys named read. select_means (record s { tables = y0 ∷ y1 ∷ y2 ∷ y3 ∷ t ∷ ys }) kept_text (codes "tap2") 4 p.tree t named read _ _ _ _ _ refl refl refl refl refl refl refl refl refl refl refl) (λ y4.
    step (λ ts at. P (y0 ∷ y1 ∷ y2 ∷ y3 ∷ y4 ∷ ts) (suc (suc (suc (suc (suc (at))))))) t (λ ys named read. select_means (record s { tables = y0 ∷ y1 ∷ y2 ∷ y3 ∷ y4 ∷ t ∷ ys }) kept_text (codes "tap2") 5 p.tree t named read _ _ _ _ _ refl refl refl refl refl refl refl refl refl refl refl) (λ y5.
    step (λ ts at. P (y0 ∷ y1 ∷ y2 ∷ y3 ∷ y4 ∷ y5 ∷ ts) (suc (suc (suc (suc (suc (suc (at)))))))) t (λ ys named read. select_means (record s { tables = y0 ∷ y1 ∷ y2 ∷ y3 ∷ y4 ∷ y5 ∷ t ∷ ys }) kept_text (codes "tap2") 6 p.tree t named read _ _ _ _ _ refl refl refl refl refl refl refl refl refl refl refl) (λ y6 ts at past. absurd (omega (arith, past))))))))) s.tables p.at low has.there has.named has.read

pub cut_anywhere : (s : Schema) (p : Place) → Has s (codes "tap2") routed_table p → p.at < 7 → IsMeant s cut_text (cut_at p)
unfolding everything same_name
cut_anywhere s p has low =
    let t = routed_table p.tree in
    let P : List Table → ℕ → Type 0 = λ ts at. table_named (record s { tables = ts }) (codes "tap2") ≡ Some at → IsRead (record s { tables = ts }) p.tree t → IsMeant (record s { tables = ts }) cut_text (cut_at (record { at = at; tree = p.tree })) in
    step P t (λ ys named read. delete_means (record s { tables = t ∷ ys }) cut_text (codes "tap2") 0 p.tree t named refl read _ _ _ refl refl refl refl refl refl) (λ y0.
    step (λ ts at. P (y0 ∷ ts) (suc (at))) t (λ ys named read. delete_means (record s { tables = y0 ∷ t ∷ ys }) cut_text (codes "tap2") 1 p.tree t named refl read _ _ _ refl refl refl refl refl refl) (λ y1.
    step (λ ts at. P (y0 ∷ y1 ∷ ts) (suc (suc (at)))) t (λ ys named read. delete_means (record s { tables = y0 ∷ y1 ∷ t ∷ ys }) cut_text (codes "tap2") 2 p.tree t named refl read _ _ _ refl refl refl refl refl refl) (λ y2.
    step (λ ts at. P (y0 ∷ y1 ∷ y2 ∷ ts) (suc (suc (suc (at))))) t (λ ys named read. delete_means (record s { tables = y0 ∷ y1 ∷ y2 ∷ t ∷ ys }) cut_text (codes "tap2") 3 p.tree t named refl read _ _ _ refl refl refl refl refl refl) (λ y3.
    step (λ ts at. P (y0 ∷ y1 ∷ y2 ∷ y3 ∷ ts) (suc (suc (suc (suc (at)))))) t (λ ys named read. delete_means (record s { tables = y0 ∷ y1 ∷ y2 ∷ y3 ∷ t ∷ ys }) cut_text (codes "tap2") 4 p.tree t named refl read _ _ _ refl refl refl refl refl refl) (λ y4.
    step (λ ts at. P (y0 ∷ y1 ∷ y2 ∷ y3 ∷ y4 ∷ ts) (suc (suc (suc (suc (suc (at))))))) t (λ ys named read. delete_means (record s { tables = y0 ∷ y1 ∷ y2 ∷ y3 ∷ y4 ∷ t ∷ ys }) cut_text (codes "tap2") 5 p.tree t named refl read _ _ _ refl refl refl refl refl refl) (λ y5.
    step (λ ts at. P (y0 ∷ y1 ∷ y2 ∷ y3 ∷ y4 ∷ y5 ∷ ts) (suc (suc (suc (suc (suc (suc (at)))))))) t (λ ys named read. delete_means (record s { tables = y0 ∷ y1 ∷ y2 ∷ y3 ∷ y4 ∷ y5 ∷ t ∷ ys }) cut_text (codes "tap2") 6 p.tree t named refl read _ _ _ refl refl refl refl refl refl) (λ y6 ts at past. absurd (omega (arith, past))))))))) s.tables p.at low has.there has.named has.read

pub told_anywhere : (s : Schema) (p : Place) → Has s (codes "stated") stated_table p → p.at < 7 → IsMeant s told_text (told_at p)
unfolding everything same_name
told_anywhere s p has low =
    let t = stated_table p.tree in
    let P : List Table → ℕ → Type 0 = λ ts at. table_named (record s { tables = ts }) (codes "stated") ≡ Some at → IsRead (record s { tables = ts }) p.tree t → IsMeant (record s { tables = ts }) told_text (told_at (record { at = at; tree = p.tree })) in
    step P t (λ ys named read. delete_means (record s { tables = t ∷ ys }) told_text (codes "stated") 0 p.tree t named refl read _ _ _ refl refl refl refl refl refl) (λ y0.
    step (λ ts at. P (y0 ∷ ts) (suc (at))) t (λ ys named read. delete_means (record s { tables = y0 ∷ t ∷ ys }) told_text (codes "stated") 1 p.tree t named refl read _ _ _ refl refl refl refl refl refl) (λ y1.
    step (λ ts at. P (y0 ∷ y1 ∷ ts) (suc (suc (at)))) t (λ ys named read. delete_means (record s { tables = y0 ∷ y1 ∷ t ∷ ys }) told_text (codes "stated") 2 p.tree t named refl read _ _ _ refl refl refl refl refl refl) (λ y2.
    step (λ ts at. P (y0 ∷ y1 ∷ y2 ∷ ts) (suc (suc (suc (at))))) t (λ ys named read. delete_means (record s { tables = y0 ∷ y1 ∷ y2 ∷ t ∷ ys }) told_text (codes "stated") 3 p.tree t named refl read _ _ _ refl refl refl refl refl refl) (λ y3.
    step (λ ts at. P (y0 ∷ y1 ∷ y2 ∷ y3 ∷ ts) (suc (suc (suc (suc (at)))))) t (λ ys named read. delete_means (record s { tables = y0 ∷ y1 ∷ y2 ∷ y3 ∷ t ∷ ys }) told_text (codes "stated") 4 p.tree t named refl read _ _ _ refl refl refl refl refl refl) (λ y4.
    step (λ ts at. P (y0 ∷ y1 ∷ y2 ∷ y3 ∷ y4 ∷ ts) (suc (suc (suc (suc (suc (at))))))) t (λ ys named read. delete_means (record s { tables = y0 ∷ y1 ∷ y2 ∷ y3 ∷ y4 ∷ t ∷ ys }) told_text (codes "stated") 5 p.tree t named refl read _ _ _ refl refl refl refl refl refl) (λ y5.
    step (λ ts at. P (y0 ∷ y1 ∷ y2 ∷ y3 ∷ y4 ∷ y5 ∷ ts) (suc (suc (suc (suc (suc (suc (at)))))))) t (λ ys named read. delete_means (record s { tables = y0 ∷ y1 ∷ y2 ∷ y3 ∷ y4 ∷ y5 ∷ t ∷ ys }) told_text (codes "stated") 6 p.tree t named refl read _ _ _ refl refl refl refl refl refl) (λ y6 ts at past. absurd (omega (arith, past))))))))) s.tables p.at low has.there has.named has.read
