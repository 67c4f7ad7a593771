-- Each step keeps the rule of the inbox.
use Rattle.std.proofs.Common.{◌≡◌, ◌≢◌, ℕ, zero, suc, Bool, true, false, true≢false, List, [], ◌∷◌, ◌++◌, length, set, nat_eq, sym, refl, ap, ◌∙◌, subst, ⊎_elim, append_assoc, arith, ◌==◌, ◌||◌, if◌then◌else◌}
use Rattle.std.proofs.lemmas.List.{append-nil}
use Rattle.std.proofs.lemmas.List.Folds.{list_any-append}
use Rattle.std.proofs.lemmas.Bool.{ne_eqb}
use Rattle.std.proofs.lemmas.Bool.Decides.{nat_tests}
use Rattle.std.specs.List.{AllByRecursion, list_any}
use Rattle.std.specs.Map.{keys_of}
use mathlib.Core.Option.{Option, some, none, some-injective, some-ne-none}
use lib.ListN.{get_elem?}
use Rattle.crossbeam_queue.specs.Fifo.{Pushes, Pops, Forks, Merges, Learns}
use Rattle.crossbeam_queue.proofs.Lists.{at_set, at_snoc}
use Rattle.fare_inbox_queue.specs.declared.arrived.Arrived.{Arrived}
use Rattle.fare_inbox_queue.specs.declared.inbox_rule.View.{View}
use Rattle.fare_inbox_queue.specs.Inbox.{station_in, of_station, sent_by, whole, seating, sender, gathered, spent, with_sent, with_taken, IsSeated, IsEndedAs, FitsWriter, Fits, IsInbox, Stands, IsLeft, HasLeft}
use Rattle.fare_inbox_queue.proofs.Parts.{part-append, part-more, own_part, other_part, listed, unlisted}

-- VIEWS BY PORTS
abbrev AtEach : (ℕ → View → Type 0) → List View → Type 0
AtEach holds views = (port : ℕ) (v : View) → get_elem? views port ≡ some v → holds port v

-- a port at which the longer list shows w, and the shorter one did not, is the last
last_port : (views : List View) (v w : View) (port : ℕ) → get_elem? views port ≢ some w → get_elem? (views ++ v ∷ []) port ≡ some w → port ≡ length views
last_port [] v w zero not_there there = refl
last_port [] v w (suc port) not_there there = absurd (some-ne-none w (sym there))
last_port (x ∷ views) v w zero not_there there = absurd (not_there there)
last_port (x ∷ views) v w (suc port) not_there there = ap suc (last_port views v w port not_there there)

each_after_set : (holds : ℕ → View → Type 0) (views : List View) (port : ℕ) (w : View) → holds port w
    → ((other : ℕ) (u : View) → other ≢ port → get_elem? views other ≡ some u → holds other u) → AtEach holds (set views port w)
each_after_set holds views port w here others other u there =
    ⊎_elim (λ (x : (other ≡ port) × (w ≡ u)). subst (λ (y : ℕ × View). holds y.0 y.1) (λ i. (sym x.0 i, x.1 i)) here)
    (λ (x : (other ≢ port) × (get_elem? views other ≡ some u)). others other u x.0 x.1) (at_set views port other w u there)

no_way : {A : Type 0} → false ≡ true → A
no_way is = absurd (true≢false (sym is))

-- SEATS: which pass each station has
abbrev with_seat : (ℕ → Option ℕ) → ℕ → Option ℕ → ℕ → Option ℕ
with_seat seat station o other = if other == station then o else seat other

seat_here : (seat : ℕ → Option ℕ) (station : ℕ) (o : Option ℕ) → with_seat seat station o station ≡ o
seat_here seat station o = let is : (station == station) ≡ true = grind (arith, nat_tests) in ap (λ (b : Bool). if b then o else seat station) is

seat_else : (seat : ℕ → Option ℕ) (station : ℕ) (o : Option ℕ) (other : ℕ) → other ≢ station → with_seat seat station o other ≡ seat other
seat_else seat station o other apart = ap (λ (b : Bool). if b then o else seat other) (ne_eqb other station apart)

-- a station with a pass is no station without one
apart_by_seat : (seat : ℕ → Option ℕ) (without with' port : ℕ) → seat without ≡ none → seat with' ≡ some port → without ≢ with'
apart_by_seat seat without with' port a b e = some-ne-none port (sym b ∙ (ap seat (sym e) ∙ a))

-- two passes are of two stations
apart_by_port : (seat : ℕ → Option ℕ) (one two : ℕ) (port other : ℕ) → seat one ≡ some port → seat two ≡ some other → port ≢ other → one ≢ two
apart_by_port seat one two port other a b apart e = apart (some-injective port other (sym a ∙ (ap seat e ∙ b)))

pub each_still : (P Q : ℕ × List Arrived → Type 0) → ((e : ℕ × List Arrived) → P e → Q e) → (ended : List (ℕ × List Arrived)) → AllByRecursion P ended → AllByRecursion Q ended
each_still P Q step [] each = tt
each_still P Q step (e ∷ ended) each = (step e each.0, each_still P Q step ended each.1)

-- THE STEPS
pub opens : IsInbox [] (whole ∷ [])
opens = record {
  writer = 0;
  seat = λ _. none;
  taken = [];
  fits = each_after_set (Fits 0 (λ _. none) [] []) (whole ∷ []) 0 whole
      (record { puts = λ p. no_way p; takes = λ _. (refl, record { list = refl; seats = λ station new. (refl, refl); ends = tt }) })
      (λ other u apart there. absurd (apart (last_port [] whole u other (λ is. some-ne-none u (sym is)) there)));
}

pub puts : (capacity port : ℕ) (v : View) (item : Arrived) → v.puts ≡ true → station_in item ≡ v.station → Pushes IsInbox capacity port v item (λ w. w ≡ with_sent v item)
puts capacity port v item may is items views room rule at =
    let seat = rule.seat in
    let all : List Arrived = rule.taken ++ items in
    let all' : List Arrived = rule.taken ++ (items ++ item ∷ []) in
    let mine = (rule.fits port v at).puts may in
    let more : (station : ℕ) → of_station station all' ≡ of_station station all ++ of_station station (item ∷ []) =
    λ station. ap (λ (l : List Arrived). of_station station l) (sym (append_assoc rule.taken items (item ∷ []))) ∙ part-more station all item in
    let same : (station : ℕ) → station ≢ v.station → of_station station all' ≡ of_station station all =
    λ station apart. more station ∙ (ap (λ l. of_station station all ++ l) (other_part station item (λ e. apart (sym e ∙ is))) ∙ append-nil (of_station station all)) in
    let writers : (u : View) → FitsWriter seat rule.taken all u → FitsWriter seat rule.taken all' u = λ u f. record {
      list = f.list;
      seats = λ station new. let k = f.seats station new in (k.0, same station (apart_by_seat seat station v.station port k.0 mine.0) ∙ k.1);
      ends = each_still (IsEndedAs seat all) (IsEndedAs seat all') (λ e k. (k.0, k.1 ∙ sym (same e.0 (apart_by_seat seat e.0 v.station port k.0 mine.0)))) u.ended f.ends;
    } in (
      with_sent v item,
      record {
        writer = rule.writer;
        seat = seat;
        taken = rule.taken;
        fits = each_after_set (Fits rule.writer seat rule.taken all') views port (with_sent v item)
            (record {
              puts = λ _. (mine.0, ap (λ l. l ++ item ∷ []) mine.1 ∙ (ap (λ l. of_station v.station all ++ l) (sym (own_part v.station item is)) ∙ sym (more v.station)));
              takes = λ p. let f = (rule.fits port v at).takes p in let k = writers v f.1 in (f.0, record { list = k.list; seats = k.seats; ends = k.ends });
            })
            (λ other u apart there. let f = rule.fits other u there in record {
              puts = λ p. let k = f.puts p in (k.0, k.1 ∙ sym (same u.station (apart_by_port seat u.station v.station other port k.0 mine.0 apart)));
              takes = λ p. let k = f.takes p in (k.0, writers u k.1);
            });
      },
      refl,
    )

pub takes : (port : ℕ) (v : View) → v.takes ≡ true → Pops IsInbox port v (λ item w. w ≡ with_taken v item)
takes port v may item items views rule at =
    let seat = rule.seat in
    let taken = rule.taken ++ item ∷ [] in
    let same : rule.taken ++ item ∷ items ≡ taken ++ items = sym (append_assoc rule.taken (item ∷ []) items) in
    let mine = (rule.fits port v at).takes may in
    let senders : (other : ℕ) (u : View) → (u.puts ≡ true → (seat u.station ≡ some other) × (u.sent ≡ of_station u.station (rule.taken ++ item ∷ items)))
    → u.puts ≡ true → (seat u.station ≡ some other) × (u.sent ≡ of_station u.station (taken ++ items)) =
    λ other u f p. let k = f p in (k.0, k.1 ∙ ap (λ l. of_station u.station l) same) in (
      with_taken v item,
      record {
        writer = rule.writer;
        seat = seat;
        taken = taken;
        fits = each_after_set (Fits rule.writer seat taken (taken ++ items)) views port (with_taken v item)
            (record {
              puts = senders port v (rule.fits port v at).puts;
              takes = λ _. (
                mine.0,
                record {
                  list = ap (λ l. l ++ item ∷ []) mine.1.list;
                  seats = subst (λ (l : List Arrived). IsSeated seat l v.seated) same mine.1.seats;
                  ends = subst (λ (l : List Arrived). AllByRecursion (IsEndedAs seat l) v.ended) same mine.1.ends;
                },
              );
            })
            (λ other u apart there. record { puts = senders other u (rule.fits other u there).puts; takes = λ p. absurd (apart (((rule.fits other u there).takes p).0 ∙ sym mine.0)) });
      },
      refl,
    )

-- a station that is not among the seated ones and one more is not among the seated ones, nor that one
new_of_more : (seated : List ℕ) (station other : ℕ) → list_any (nat_eq other) (seated ++ station ∷ []) ≡ false → (list_any (nat_eq other) seated ≡ false) × (other ≢ station)
new_of_more seated station other new = new_of_both (list_any (nat_eq other) seated) (nat_eq other station) refl (sym (list_any-append (nat_eq other) seated (station ∷ [])) ∙ new)
  where
    new_of_both : (one two : Bool) → nat_eq other station ≡ two → (one || (two || false)) ≡ false → (one ≡ false) × (other ≢ station)
    new_of_both false false is neither = (refl, λ e. true≢false (sym (let k : nat_eq other station ≡ true = grind (arith, nat_tests) in k) ∙ is))
    new_of_both false true is neither = absurd (true≢false neither)
    new_of_both true two is neither = absurd (true≢false neither)

pub splits : (port : ℕ) (v : View) (station : ℕ) → v.takes ≡ true → list_any (nat_eq station) v.seated ≡ false → Forks IsInbox port v (seating v station) (sender station)
splits port v station may new items views rule at =
    let left : View = seating v station in
    let right : View = sender station in
    let shorter : List View = set views port left in
    let seat = rule.seat in
    let seat' : ℕ → Option ℕ = with_seat seat station (some (length shorter)) in
    let all : List Arrived = rule.taken ++ items in
    let mine = (rule.fits port v at).takes may in
    let free = mine.1.seats station new in
    let seats : IsSeated seat' all (v.seated ++ station ∷ []) = λ other fresh.
    let apart = new_of_more v.seated station other fresh in
    let k = mine.1.seats other apart.0 in
    (seat_else seat station (some (length shorter)) other apart.1 ∙ k.0, k.1) in
    let Old : ℕ → View → Type 0 = λ other u.
    (u.puts ≡ true → (seat u.station ≡ some other) × (u.sent ≡ of_station u.station all)) × (u.takes ≡ true → (other ≡ rule.writer) × FitsWriter seat' rule.taken all u) in
    let old : AtEach Old shorter = each_after_set Old views port left ((λ p. no_way p), λ _. (mine.0, record { list = mine.1.list; seats = seats; ends = tt }))
    (λ other u apart there. let f = rule.fits other u there in (f.puts, λ p. absurd (apart ((f.takes p).0 ∙ sym mine.0)))) in
    record {
      writer = rule.writer;
      seat = seat';
      taken = rule.taken;
      fits = λ other u there. ⊎_elim
          (λ x. let f = old other u x in record {
            puts = λ p. let k = f.0 p in (seat_else seat station (some (length shorter)) u.station (λ is. apart_by_seat seat station u.station other free.0 k.0 (sym is)) ∙ k.0, k.1);
            takes = f.1;
          })
          (λ (q : right ≡ u).
          let named : station ≡ u.station = ap (λ (y : View). y.station) q in
          let here : other ≡ length shorter = last_port shorter right u other
          (λ x. let k = (old other u x).0 (sym (ap (λ (y : View). y.puts) q)) in apart_by_seat seat station u.station other free.0 k.0 named) there in
          record {
            puts = λ _. (subst (λ (s : ℕ). seat' s ≡ some other) named (seat_here seat station (some (length shorter)) ∙ ap some (sym here)), subst (λ (s : ℕ). u.sent ≡ of_station s all) named (sym (ap (λ (y : View). y.sent) q) ∙ sym free.1));
            takes = λ p. no_way (ap (λ (y : View). y.takes) q ∙ p);
          })
          (at_snoc shorter right u other there);
    }

pub joins : (port : ℕ) (v : View) (other : ℕ) (w : View) → v.takes ≡ true → w.puts ≡ true → Merges IsInbox port v other w (gathered v w) spent
joins port v other w may_take may_put items views rule at two there =
    let both : View = gathered v w in
    let joined : List View = set views port both in
    let seat = rule.seat in
    let seat' : ℕ → Option ℕ = with_seat seat w.station none in
    let all : List Arrived = rule.taken ++ items in
    let mine = (rule.fits port v at).takes may_take in
    let was : get_elem? views other ≡ some w = ⊎_elim (λ x. absurd (two x.0)) (λ x. x.1) (at_set views port other both w there) in
    let theirs = (rule.fits other w was).puts may_put in
    let gone : (station : ℕ) → seat station ≡ none → seat' station ≡ none = λ station e. seat_else seat w.station none station (apart_by_seat seat station w.station other e theirs.0) ∙ e in
    let Now : ℕ → View → Type 0 = λ k u. k ≢ other → Fits rule.writer seat' rule.taken all k u in
    let now : AtEach Now joined = each_after_set Now views port both
    (λ _. record {
      puts = λ p. no_way p;
      takes = λ _. (
        mine.0,
        record {
          list = mine.1.list;
          seats = λ station new. let k = mine.1.seats station new in (gone station k.0, k.1);
          ends = ((seat_here seat w.station none, theirs.1), each_still (IsEndedAs seat all) (IsEndedAs seat' all) (λ e k. (gone e.0 k.0, k.1)) v.ended mine.1.ends);
        },
      );
    })
    (λ k u apart here far. let f = rule.fits k u here in record {
      puts = λ p. let q = f.puts p in (seat_else seat w.station none u.station (apart_by_port seat u.station w.station k other q.0 theirs.0 far) ∙ q.0, q.1);
      takes = λ p. absurd (apart ((f.takes p).0 ∙ sym mine.0));
    }) in
    record {
      writer = rule.writer;
      seat = seat';
      taken = rule.taken;
      fits = each_after_set (Fits rule.writer seat' rule.taken all) joined other spent (record { puts = λ p. no_way p; takes = λ p. no_way p }) (λ k u apart here. now k u here apart);
    }

-- a step that finds the inbox full, or empty, changes nothing: the rule stands
pub stands : (port : ℕ) (v : View) → Learns IsInbox port v (Stands v)
stands port v items views rule at = (views, port, rule, at)

-- THE END
left_by : (v : View) (seat : ℕ → Option ℕ) (taken items : List Arrived) → keys_of v.ended ≡ v.seated → FitsWriter seat taken (taken ++ items) v
    → (station : ℕ) (any : Bool) → list_any (nat_eq station) (keys_of v.ended) ≡ any → sent_by v.ended station ≡ of_station station (taken ++ items)
left_by v seat taken items all fits station true is =
    listed station v.ended (taken ++ items) (each_still (IsEndedAs seat (taken ++ items)) (λ e. e.1 ≡ of_station e.0 (taken ++ items)) (λ e k. k.1) v.ended fits.ends) is
left_by v seat taken items all fits station false is =
    unlisted station v.ended is ∙ sym (fits.seats station (subst (λ (l : List ℕ). list_any (nat_eq station) l ≡ false) all is)).1

pub learns_left : (port : ℕ) (v : View) → v.takes ≡ true → keys_of v.ended ≡ v.seated → Learns IsInbox port v (IsLeft v)
learns_left port v may all items views rule at =
    let mine = ((rule.fits port v at).takes may).1 in
    let apart : (station : ℕ) → of_station station (rule.taken ++ items) ≡ of_station station v.taken ++ of_station station items =
    λ station. part-append station rule.taken items ∙ ap (λ l. of_station station l ++ of_station station items) (sym mine.list) in
    record {
      of_each = each_still (IsEndedAs rule.seat (rule.taken ++ items)) (λ e. e.1 ≡ of_station e.0 v.taken ++ of_station e.0 items) (λ e k. k.1 ∙ apart e.0) v.ended mine.ends;
      of_all = λ station. left_by v rule.seat rule.taken items all mine station (list_any (nat_eq station) (keys_of v.ended)) refl ∙ apart station;
    }

pub drains : (port : ℕ) (v : View) → v.takes ≡ true → keys_of v.ended ≡ v.seated → Pops IsInbox port v (λ item w. (w ≡ with_taken v item) × HasLeft v item)
drains port v may all item items views rule at =
    let step = takes port v may item items views rule at in (step.0, step.1, (step.2, (items, learns_left port v may all (item ∷ items) views rule at)))
