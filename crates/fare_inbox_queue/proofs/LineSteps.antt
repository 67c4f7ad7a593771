-- Each step keeps the rule of an acknowledgement line.
use Rattle.std.proofs.Common.{◌≡◌, ◌≢◌, ℕ, zero, suc, ◌≤◌, true, false, true≢false, List, [], ◌∷◌, ◌++◌, All, length, drop, set, sym, refl, ap, ◌∙◌, subst, ⊎_elim, append_assoc, arith, length-append}
use Rattle.std.proofs.Math.Seq.{drop-append_seam}
use Rattle.std.proofs.lemmas.List.Elements.{All-nil}
use mathlib.Core.Option.{some, some-ne-none}
use lib.ListN.{get_elem?}
use Rattle.crossbeam_queue.specs.Fifo.{Pushes, Pops, Forks, Merges, Learns}
use Rattle.crossbeam_queue.proofs.Lists.{at_set, at_snoc}
use Rattle.fare_inbox_queue.specs.declared.ack_rule.Told.{Told}
use Rattle.fare_inbox_queue.specs.declared.ack_rule.View.{View}
use Rattle.fare_inbox_queue.specs.Line.{whole, sender, hearer, both, spent, with_sent, with_taken, stored_in, IsUpTo, IsStored, Fits, IsLine, Stands, IsFirstLeft, IsLeft}
use Rattle.fare_inbox_queue.proofs.Told.{all_stored}

-- VIEWS BY PORTS
abbrev AtEach : (ℕ → View → Type 0) → List View → Type 0
AtEach holds views = (port : ℕ) (v : View) → get_elem? views port ≡ some v → holds port v

-- a port at which the longer list shows w, and the shorter one did not, is the last
last_port : (views : List View) (v w : View) (port : ℕ) → get_elem? views port ≢ some w → get_elem? (views ++ v ∷ []) port ≡ some w → port ≡ length views
last_port [] v w zero not_there there = refl
last_port [] v w (suc port) not_there there = absurd (some-ne-none w (sym there))
last_port (x ∷ views) v w zero not_there there = absurd (not_there there)
last_port (x ∷ views) v w (suc port) not_there there = ap suc (last_port views v w port not_there there)

each_after_set : (holds : ℕ → View → Type 0) (views : List View) (port : ℕ) (w : View) → holds port w
    → ((other : ℕ) (u : View) → other ≢ port → get_elem? views other ≡ some u → holds other u) → AtEach holds (set views port w)
each_after_set holds views port w here others other u there =
    ⊎_elim (λ (x : (other ≡ port) × (w ≡ u)). subst (λ (y : ℕ × View). holds y.0 y.1) (λ i. (sym x.0 i, x.1 i)) here)
    (λ (x : (other ≢ port) × (get_elem? views other ≡ some u)). others other u x.0 x.1) (at_set views port other w u there)

no_way : {A : Type 0} → false ≡ true → A
no_way is = absurd (true≢false (sym is))

-- THE STEPS
pub opens : IsLine [] (whole ∷ [])
opens = record {
  sender = 0;
  hearer = 0;
  sent = [];
  taken = [];
  kept = refl;
  stored = All-nil (λ (t : Told). IsStored (stored_in []) t.item);
  fits = each_after_set (Fits 0 0 [] []) (whole ∷ []) 0 whole (record { puts = λ _. (refl, refl); takes = λ _. (refl, refl) })
      (λ other u apart there. absurd (apart (last_port [] whole u other (λ is. some-ne-none u (sym is)) there)));
}

pub puts : (capacity port : ℕ) (v : View) (told : Told) → v.puts ≡ true → IsUpTo told.item told.stored → Pushes IsLine capacity port v told (λ w. w ≡ with_sent v told)
puts capacity port v told may up items views room rule at =
    let mine = (rule.fits port v at).puts may in
    let sent = rule.sent ++ told ∷ [] in (
      with_sent v told,
      record {
        sender = rule.sender;
        hearer = rule.hearer;
        sent = sent;
        taken = rule.taken;
        kept = ap (λ l. l ++ told ∷ []) rule.kept ∙ append_assoc rule.taken items (told ∷ []);
        stored = all_stored rule.sent told rule.stored up;
        fits = each_after_set (Fits rule.sender rule.hearer sent rule.taken) views port (with_sent v told)
            (record { puts = λ _. (mine.0, ap (λ l. l ++ told ∷ []) mine.1); takes = (rule.fits port v at).takes })
            (λ other u apart there. record { puts = λ p. absurd (apart (((rule.fits other u there).puts p).0 ∙ sym mine.0)); takes = (rule.fits other u there).takes });
      },
      refl,
    )

pub takes : (port : ℕ) (v : View) → v.takes ≡ true → Pops IsLine port v (λ told w. w ≡ with_taken v told)
takes port v may told items views rule at =
    let mine = (rule.fits port v at).takes may in
    let taken = rule.taken ++ told ∷ [] in (
      with_taken v told,
      record {
        sender = rule.sender;
        hearer = rule.hearer;
        sent = rule.sent;
        taken = taken;
        kept = rule.kept ∙ sym (append_assoc rule.taken (told ∷ []) items);
        stored = rule.stored;
        fits = each_after_set (Fits rule.sender rule.hearer rule.sent taken) views port (with_taken v told)
            (record { puts = (rule.fits port v at).puts; takes = λ _. (mine.0, ap (λ l. l ++ told ∷ []) mine.1) })
            (λ other u apart there. record { puts = (rule.fits other u there).puts; takes = λ p. absurd (apart (((rule.fits other u there).takes p).0 ∙ sym mine.0)) });
      },
      refl,
    )

pub splits : (port : ℕ) (v : View) → v ≡ whole → Forks IsLine port v sender hearer
splits port v is items views rule at =
    let mine = rule.fits port v at in
    let sends = mine.puts (ap (λ (y : View). y.puts) is) in
    let hears = mine.takes (ap (λ (y : View). y.takes) is) in
    let none_sent : rule.sent ≡ [] = sym sends.1 ∙ ap (λ (y : View). y.sent) is in
    let none_taken : rule.taken ≡ [] = sym hears.1 ∙ ap (λ (y : View). y.taken) is in
    let shorter : List View = set views port sender in
    let Old : ℕ → View → Type 0 = λ other u. (u.puts ≡ true → (other ≡ rule.sender) × (u.sent ≡ rule.sent)) × (u.takes ≢ true) in
    let old : AtEach Old shorter = each_after_set Old views port sender ((λ _. (sends.0, sym none_sent)), λ p. true≢false (sym p))
    (λ other u apart there. ((rule.fits other u there).puts, λ p. apart (((rule.fits other u there).takes p).0 ∙ sym hears.0))) in
    record {
      sender = rule.sender;
      hearer = length shorter;
      sent = rule.sent;
      taken = rule.taken;
      kept = rule.kept;
      stored = rule.stored;
      fits = λ other u there. ⊎_elim (λ x. record { puts = (old other u x).0; takes = λ p. absurd ((old other u x).1 p) })
          (λ (q : hearer ≡ u). record {
            puts = λ p. no_way (ap (λ (y : View). y.puts) q ∙ p);
            takes = λ p. (last_port shorter hearer u other (λ x. (old other u x).1 p) there, ap (λ (y : View). y.taken) (sym q) ∙ sym none_taken);
          }) (at_snoc shorter hearer u other there);
    }

pub joins : (port : ℕ) (v : View) (other : ℕ) (w : View) → v.puts ≡ true → w.takes ≡ true → Merges IsLine port v other w (both v w) spent
joins port v other w may_put may_take items views rule at two there =
    let sends = (rule.fits port v at).puts may_put in
    let joined : List View = set views port (both v w) in
    let was : get_elem? views other ≡ some w = ⊎_elim (λ x. absurd (two x.0)) (λ x. x.1) (at_set views port other (both v w) w there) in
    let hears = (rule.fits other w was).takes may_take in
    let Now : ℕ → View → Type 0 = λ k u. k ≢ other → Fits rule.sender port rule.sent rule.taken k u in
    let now : AtEach Now joined = each_after_set Now views port (both v w) (λ _. record { puts = λ _. sends; takes = λ _. (refl, hears.1) })
    (λ k u _ here apart. record { puts = (rule.fits k u here).puts; takes = λ p. absurd (apart (((rule.fits k u here).takes p).0 ∙ sym hears.0)) }) in
    record {
      sender = rule.sender;
      hearer = port;
      sent = rule.sent;
      taken = rule.taken;
      kept = rule.kept;
      stored = rule.stored;
      fits = each_after_set (Fits rule.sender port rule.sent rule.taken) joined other spent (record { puts = λ p. no_way p; takes = λ p. no_way p })
          (λ k u apart here. now k u here apart);
    }

-- a step that finds the line full, or empty, changes nothing: the rule stands
pub stands : (port : ℕ) (v : View) → Learns IsLine port v (Stands v)
stands port v items views rule at = (views, port, rule, at)

-- where the line holds so many items, no fewer were put
pub stands_sent : (v : View) (items : List Told) → v.puts ≡ true → Stands v items → length items ≤ length v.sent
stands_sent v items may state =
    let rule = state.2 in
    let sends = (rule.fits state.1 v state.3).puts may in
    let all : length v.sent ≡ length (rule.taken ++ items) = ap length (sends.1 ∙ rule.kept) in omega (arith, length-append rule.taken items)

-- THE END
pub learns_left : (port : ℕ) (v : View) → v.puts ≡ true → v.takes ≡ true → Learns IsLine port v (IsLeft v)
learns_left port v may_put may_take items views rule at =
    let mine = rule.fits port v at in
    let sends = mine.puts may_put in
    record {
      kept = sends.1 ∙ (rule.kept ∙ ap (λ l. l ++ items) (sym (mine.takes may_take).1));
      stored = subst (λ (l : List Told). All (λ (t : Told). IsStored (stored_in l) t.item) l) (sym sends.1) rule.stored;
    }

pub drains : (port : ℕ) (v : View) → v.puts ≡ true → v.takes ≡ true → Pops IsLine port v (λ told w. (w ≡ with_taken v told) × IsFirstLeft v.sent v.taken told)
drains port v may_put may_take told items views rule at =
    let step = takes port v may_take told items views rule at in (step.0, step.1, (step.2, (items, (learns_left port v may_put may_take (told ∷ items) views rule at).kept)))

-- what is left before and after the first of it is taken
pub left_before : (sent taken : List Told) (told : Told) → IsFirstLeft sent taken told → drop (length taken) sent ≡ told ∷ drop (length (taken ++ told ∷ [])) sent
left_before sent taken told first =
    let rest = first.0 in
    let grown : sent ≡ (taken ++ told ∷ []) ++ rest = first.1 ∙ sym (append_assoc taken (told ∷ []) rest) in
    let before : drop (length taken) sent ≡ told ∷ rest = ap (λ l. drop (length taken) l) first.1 ∙ drop-append_seam taken (told ∷ rest) in
    let after : drop (length (taken ++ told ∷ [])) sent ≡ rest = ap (λ l. drop (length (taken ++ told ∷ [])) l) grown ∙ drop-append_seam (taken ++ told ∷ []) rest in
    before ∙ ap (λ l. told ∷ l) (sym after)

pub left_whole : (sent taken : List Told) (told : Told) → IsFirstLeft sent taken told → sent ≡ (taken ++ told ∷ []) ++ drop (length (taken ++ told ∷ [])) sent
left_whole sent taken told first =
    let rest = first.0 in
    let grown : sent ≡ (taken ++ told ∷ []) ++ rest = first.1 ∙ sym (append_assoc taken (told ∷ []) rest) in
    grown ∙ ap (λ l. (taken ++ told ∷ []) ++ l) (sym (ap (λ l. drop (length (taken ++ told ∷ [])) l) grown ∙ drop-append_seam (taken ++ told ∷ []) rest))
