-- Each step keeps the rule of the lane queue.
use Rattle.std.proofs.Common.{◌≡◌, ◌≢◌, ℕ, zero, suc, ◌≤◌, true, false, true≢false, List, [], ◌∷◌, ◌++◌, length, drop, set, sym, refl, ap, ◌∙◌, subst, ⊎_elim, append_assoc, arith, length-append}
use mathlib.Core.Option.{some, some-ne-none}
use lib.ListN.{get_elem?}
use Rattle.crossbeam_queue.specs.Fifo.{Pushes, Pops, Forks, Merges, Learns}
use Rattle.crossbeam_queue.proofs.Lists.{at_set, at_snoc}
use Rattle.fare_record.specs.declared.item.Item.{Item}
use Rattle.fare_lane_queue.specs.declared.rule.View.{View}
use Rattle.fare_lane_queue.specs.Lane.{whole, sender, taker, both, spent, with_sent, with_taken, IsNext, AreNumbered, Fits, IsLane, Stands, IsFirstLeft}
use Rattle.fare_lane_queue.proofs.Numbers.{numbered_more, numbered_at}

-- VIEWS BY PORTS
abbrev AtEach : (ℕ → View → Type 0) → List View → Type 0
AtEach holds views = (port : ℕ) (v : View) → get_elem? views port ≡ some v → holds port v

-- a port at which the longer list shows w, and the shorter one did not, is the last
last_port : (views : List View) (v w : View) (port : ℕ) → get_elem? views port ≢ some w → get_elem? (views ++ v ∷ []) port ≡ some w → port ≡ length views
last_port [] v w zero not_there there = refl
last_port [] v w (suc port) not_there there = absurd (some-ne-none w (sym there))
last_port (x ∷ views) v w zero not_there there = absurd (not_there there)
last_port (x ∷ views) v w (suc port) not_there there = ap suc (last_port views v w port not_there there)

each_after_set : (holds : ℕ → View → Type 0) (views : List View) (port : ℕ) (w : View) → holds port w
    → ((other : ℕ) (u : View) → other ≢ port → get_elem? views other ≡ some u → holds other u) → AtEach holds (set views port w)
each_after_set holds views port w here others other u there =
    ⊎_elim (λ (x : (other ≡ port) × (w ≡ u)). subst (λ (y : ℕ × View). holds y.0 y.1) (λ i. (sym x.0 i, x.1 i)) here)
    (λ (x : (other ≢ port) × (get_elem? views other ≡ some u)). others other u x.0 x.1) (at_set views port other w u there)

no_way : {A : Type 0} → false ≡ true → A
no_way is = absurd (true≢false (sym is))

-- THE STEPS
pub opens : IsLane [] (whole ∷ [])
opens = record {
  sender = 0;
  taker = 0;
  bases = [];
  sent = [];
  taken = [];
  kept = refl;
  numbered = λ device. tt;
  fits = each_after_set (Fits 0 0 [] [] []) (whole ∷ []) 0 whole (record { puts = λ _. (refl, refl, refl); takes = λ _. (refl, refl, refl) })
      (λ other u apart there. absurd (apart (last_port [] whole u other (λ is. some-ne-none u (sym is)) there)));
}

pub puts : (capacity port : ℕ) (v : View) (item : Item) → v.puts ≡ true → IsNext v.bases v.sent item → Pushes IsLane capacity port v item (λ w. w ≡ with_sent v item)
puts capacity port v item may next items views room rule at =
    let mine = (rule.fits port v at).puts may in
    let sent = rule.sent ++ item ∷ [] in (
      with_sent v item,
      record {
        sender = rule.sender;
        taker = rule.taker;
        bases = rule.bases;
        sent = sent;
        taken = rule.taken;
        kept = ap (λ l. l ++ item ∷ []) rule.kept ∙ append_assoc rule.taken items (item ∷ []);
        numbered = numbered_more rule.bases rule.sent item rule.numbered (subst (λ (y : List (ℕ × ℕ) × List Item). IsNext y.0 y.1 item) (λ i. (mine.1 i, mine.2 i)) next);
        fits = each_after_set (Fits rule.sender rule.taker rule.bases sent rule.taken) views port (with_sent v item)
            (record { puts = λ _. (mine.0, mine.1, ap (λ l. l ++ item ∷ []) mine.2); takes = (rule.fits port v at).takes })
            (λ other u apart there. record { puts = λ p. absurd (apart (((rule.fits other u there).puts p).0 ∙ sym mine.0)); takes = (rule.fits other u there).takes });
      },
      refl,
    )

pub takes : (port : ℕ) (v : View) → v.takes ≡ true → Pops IsLane port v (λ item w. (w ≡ with_taken v item) × IsNext v.bases v.taken item)
takes port v may item items views rule at =
    let mine = (rule.fits port v at).takes may in
    let taken = rule.taken ++ item ∷ [] in
    let next : IsNext rule.bases rule.taken item = numbered_at rule.bases rule.taken items item (subst (λ l. AreNumbered rule.bases l) rule.kept rule.numbered) in (
      with_taken v item,
      record {
        sender = rule.sender;
        taker = rule.taker;
        bases = rule.bases;
        sent = rule.sent;
        taken = taken;
        kept = rule.kept ∙ sym (append_assoc rule.taken (item ∷ []) items);
        numbered = rule.numbered;
        fits = each_after_set (Fits rule.sender rule.taker rule.bases rule.sent taken) views port (with_taken v item)
            (record { puts = (rule.fits port v at).puts; takes = λ _. (mine.0, mine.1, ap (λ l. l ++ item ∷ []) mine.2) })
            (λ other u apart there. record { puts = (rule.fits other u there).puts; takes = λ p. absurd (apart (((rule.fits other u there).takes p).0 ∙ sym mine.0)) });
      },
      (refl, subst (λ (y : List (ℕ × ℕ) × List Item). IsNext y.0 y.1 item) (λ i. (sym mine.1 i, sym mine.2 i)) next),
    )

pub splits : (port : ℕ) (v : View) (bases : List (ℕ × ℕ)) → v ≡ whole → Forks IsLane port v (sender bases) (taker bases)
splits port v bases is items views rule at =
    let mine = rule.fits port v at in
    let sends = mine.puts (ap (λ (y : View). y.puts) is) in
    let gets = mine.takes (ap (λ (y : View). y.takes) is) in
    let none_sent : rule.sent ≡ [] = sym sends.2 ∙ ap (λ (y : View). y.sent) is in
    let none_taken : rule.taken ≡ [] = sym gets.2 ∙ ap (λ (y : View). y.taken) is in
    let shorter : List View = set views port (sender bases) in
    let Old : ℕ → View → Type 0 = λ other u. (u.puts ≡ true → (other ≡ rule.sender) × (u.bases ≡ bases) × (u.sent ≡ rule.sent)) × (u.takes ≢ true) in
    let old : AtEach Old shorter = each_after_set Old views port (sender bases) ((λ _. (sends.0, refl, sym none_sent)), λ p. true≢false (sym p))
    (λ other u apart there. ((λ p. absurd (apart (((rule.fits other u there).puts p).0 ∙ sym sends.0))), λ p. apart (((rule.fits other u there).takes p).0 ∙ sym gets.0))) in
    record {
      sender = rule.sender;
      taker = length shorter;
      bases = bases;
      sent = rule.sent;
      taken = rule.taken;
      kept = rule.kept;
      numbered = subst (λ l. AreNumbered bases l) (sym none_sent) (λ device. tt);
      fits = λ other u there. ⊎_elim (λ x. record { puts = (old other u x).0; takes = λ p. absurd ((old other u x).1 p) })
          (λ (q : taker bases ≡ u). record {
            puts = λ p. no_way (ap (λ (y : View). y.puts) q ∙ p);
            takes = λ p. (last_port shorter (taker bases) u other (λ x. (old other u x).1 p) there, ap (λ (y : View). y.bases) (sym q), ap (λ (y : View). y.taken) (sym q) ∙ sym none_taken);
          }) (at_snoc shorter (taker bases) u other there);
    }

pub joins : (port : ℕ) (v : View) (other : ℕ) (w : View) → v.puts ≡ true → w.takes ≡ true → Merges IsLane port v other w (both v w) spent
joins port v other w may_put may_take items views rule at two there =
    let sends = (rule.fits port v at).puts may_put in
    let joined : List View = set views port (both v w) in
    let was : get_elem? views other ≡ some w = ⊎_elim (λ x. absurd (two x.0)) (λ x. x.1) (at_set views port other (both v w) w there) in
    let gets = (rule.fits other w was).takes may_take in
    let Now : ℕ → View → Type 0 = λ k u. k ≢ other → Fits rule.sender port rule.bases rule.sent rule.taken k u in
    let now : AtEach Now joined = each_after_set Now views port (both v w) (λ _. record { puts = λ _. sends; takes = λ _. (refl, sends.1, gets.2) })
    (λ k u _ here apart. record { puts = (rule.fits k u here).puts; takes = λ p. absurd (apart (((rule.fits k u here).takes p).0 ∙ sym gets.0)) }) in
    record {
      sender = rule.sender;
      taker = port;
      bases = rule.bases;
      sent = rule.sent;
      taken = rule.taken;
      kept = rule.kept;
      numbered = rule.numbered;
      fits = each_after_set (Fits rule.sender port rule.bases rule.sent rule.taken) joined other spent (record { puts = λ p. no_way p; takes = λ p. no_way p })
          (λ k u apart here. now k u here apart);
    }

-- a step that finds the queue full, or empty, changes nothing: the rule stands
pub stands : (port : ℕ) (v : View) → Learns IsLane port v (Stands v)
stands port v items views rule at = (views, port, rule, at)

-- where the queue holds so many items, no fewer were put
pub stands_sent : (v : View) (items : List Item) → v.puts ≡ true → Stands v items → length items ≤ length v.sent
stands_sent v items may state =
    let rule = state.2 in
    let sends = (rule.fits state.1 v state.3).puts may in
    let all : length v.sent ≡ length (rule.taken ++ items) = ap length (sends.2 ∙ rule.kept) in omega (arith, length-append rule.taken items)

-- THE END
pub learns_left : (port : ℕ) (v : View) → v.puts ≡ true → v.takes ≡ true → Learns IsLane port v (λ items. v.sent ≡ v.taken ++ items)
learns_left port v may_put may_take items views rule at =
    let mine = rule.fits port v at in (mine.puts may_put).2 ∙ rule.kept ∙ ap (λ l. l ++ items) (sym (mine.takes may_take).2)

pub learns_all : (port : ℕ) (v : View) → v.puts ≡ true → v.takes ≡ true → Learns IsLane port v (λ items. (v.sent ≡ v.taken ++ items) × AreNumbered v.bases v.sent)
learns_all port v may_put may_take items views rule at =
    let mine = (rule.fits port v at).puts may_put in
    (learns_left port v may_put may_take items views rule at, subst (λ (y : List (ℕ × ℕ) × List Item). AreNumbered y.0 y.1) (λ i. (sym mine.1 i, sym mine.2 i)) rule.numbered)

pub drains : (port : ℕ) (v : View) → v.puts ≡ true → v.takes ≡ true → Pops IsLane port v (λ item w. (w ≡ with_taken v item) × IsFirstLeft v.sent v.taken item)
drains port v may_put may_take item items views rule at =
    let step = takes port v may_take item items views rule at in (step.0, step.1, (step.2.0, (items, learns_left port v may_put may_take (item ∷ items) views rule at)))

pub behind : (taken rest : List Item) → drop (length taken) (taken ++ rest) ≡ rest
behind [] rest = refl
behind (x ∷ taken) rest = behind taken rest

-- what is left before and after the first of it is taken
pub left_before : (sent taken : List Item) (item : Item) → IsFirstLeft sent taken item → drop (length taken) sent ≡ item ∷ drop (length (taken ++ item ∷ [])) sent
left_before sent taken item first =
    let rest = first.0 in
    let grown : sent ≡ (taken ++ item ∷ []) ++ rest = first.1 ∙ sym (append_assoc taken (item ∷ []) rest) in
    let before : drop (length taken) sent ≡ item ∷ rest = ap (λ l. drop (length taken) l) first.1 ∙ behind taken (item ∷ rest) in
    let after : drop (length (taken ++ item ∷ [])) sent ≡ rest = ap (λ l. drop (length (taken ++ item ∷ [])) l) grown ∙ behind (taken ++ item ∷ []) rest in
    before ∙ ap (λ l. item ∷ l) (sym after)

pub left_whole : (sent taken : List Item) (item : Item) → IsFirstLeft sent taken item → sent ≡ (taken ++ item ∷ []) ++ drop (length (taken ++ item ∷ [])) sent
left_whole sent taken item first =
    let rest = first.0 in
    let grown : sent ≡ (taken ++ item ∷ []) ++ rest = first.1 ∙ sym (append_assoc taken (item ∷ []) rest) in
    grown ∙ ap (λ l. (taken ++ item ∷ []) ++ l) (sym (ap (λ l. drop (length (taken ++ item ∷ [])) l) grown ∙ behind (taken ++ item ∷ []) rest))
