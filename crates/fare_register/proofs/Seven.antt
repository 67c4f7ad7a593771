-- Seven lists, and the lines of all of them.
use Rattle.std.proofs.Common.{◌≡◌, ◌≤◌, ◌<◌, ◌++◌, ◌∷◌, ℕ, List, [], length, map, get_or, Bool, true, false, Result, Ok, Err, refl, sym, ap, ◌∙◌, arith}
use Rattle.std.specs.Global.{Global}
use Rattle.std.specs.Prelude.{Vec, IfOk}
use Rattle.std.specs.List.{flat_map}
use Rattle.std.proofs.lemmas.List.{append_assoc}
use Rattle.fare_scheme.specs.declared.entry.Product.{Product}
use Rattle.fare_scheme.specs.declared.entry.Placement.{Placement}
use Rattle.fare_lines.specs.declared.line.SchemeLine.{SchemeLine}
use Rattle.fare_lines.specs.declared.line.SchemeLine.TheVariants as line
use Rattle.fare_setup.specs.SchemeLines.{owner_line, station_line, product_lines, device_line}
use Rattle.fare_register.specs.Registers.{told, told_list, RegisterValue, register_lists, settings_lines, pair_numbers, one_number, product_numbers, device_numbers, owner_lines, operator_lines, station_lines, device_lines, FirstFits, IdFits, BothFit, OwnerFits, StationFits, ArePushed, HasPushed, HasSettled, HasRead}

-- seven lists by their places
pub told_seven : (lists : List (Vec (Vec ℕ Global) Global)) (a b c d e f g a' b' c' d' e' f' g' : Vec (Vec ℕ Global) Global) → 7 ≤ length lists → length lists < 8 → a ≡ get_or lists 0 a' → b ≡ get_or lists 1 b' → c ≡ get_or lists 2 c' → d ≡ get_or lists 3 d' → e ≡ get_or lists 4 e' → f ≡ get_or lists 5 f' → g ≡ get_or lists 6 g'
    → told lists ≡ told_list a.items ∷ told_list b.items ∷ told_list c.items ∷ told_list d.items ∷ told_list e.items ∷ told_list f.items ∷ told_list g.items ∷ []
told_seven [] a b c d e f g a' b' c' d' e' f' g' low high ia ib ic id ie if ig = absurd (omega (arith, low))
told_seven (s ∷ []) a b c d e f g a' b' c' d' e' f' g' low high ia ib ic id ie if ig = absurd (omega (arith, low))
told_seven (s ∷ t ∷ []) a b c d e f g a' b' c' d' e' f' g' low high ia ib ic id ie if ig = absurd (omega (arith, low))
told_seven (s ∷ t ∷ u ∷ []) a b c d e f g a' b' c' d' e' f' g' low high ia ib ic id ie if ig = absurd (omega (arith, low))
told_seven (s ∷ t ∷ u ∷ v ∷ []) a b c d e f g a' b' c' d' e' f' g' low high ia ib ic id ie if ig = absurd (omega (arith, low))
told_seven (s ∷ t ∷ u ∷ v ∷ w ∷ []) a b c d e f g a' b' c' d' e' f' g' low high ia ib ic id ie if ig = absurd (omega (arith, low))
told_seven (s ∷ t ∷ u ∷ v ∷ w ∷ x ∷ []) a b c d e f g a' b' c' d' e' f' g' low high ia ib ic id ie if ig = absurd (omega (arith, low))
told_seven (s ∷ t ∷ u ∷ v ∷ w ∷ x ∷ y ∷ z ∷ more) a b c d e f g a' b' c' d' e' f' g' low high ia ib ic id ie if ig = absurd (omega (arith, high))
told_seven (s ∷ t ∷ u ∷ v ∷ w ∷ x ∷ y ∷ []) a b c d e f g a' b' c' d' e' f' g' low high ia ib ic id ie if ig =
    λ i. told_list (sym ia i).items ∷ told_list (sym ib i).items ∷ told_list (sym ic i).items ∷ told_list (sym id i).items ∷ told_list (sym ie i).items ∷ told_list (sym if i).items ∷ told_list (sym ig i).items ∷ []

-- one line each
singles : {X : Type 0} (f : X → SchemeLine) (xs : List X) → flat_map (λ x. f x ∷ []) xs ≡ map f xs
singles f [] = refl
singles f (x ∷ xs) = ap (λ t. f x ∷ t) (singles f xs)

join : (old x y z more : List SchemeLine) → x ≡ old ++ y → z ≡ x ++ more → z ≡ old ++ (y ++ more)
join old x y z more front is = is ∙ ap (λ t. t ++ more) front ∙ append_assoc old y more

module _ (settings rule owners operators stations products devices : List (List ℕ)) (all : List (List (List ℕ))) (all_is : all ≡ settings ∷ rule ∷ owners ∷ operators ∷ stations ∷ products ∷ devices ∷ []) where
  pub all_read : {E : Type 0} (result : Result Bool E) (old a b c d e new : List SchemeLine) → ArePushed (ℕ × ℕ) FirstFits pair_numbers owner_lines owners old a → ArePushed ℕ IdFits one_number operator_lines operators a b → ArePushed (ℕ × ℕ) BothFit pair_numbers station_lines stations b c → ArePushed (ℕ × Product) OwnerFits product_numbers product_lines products c d → ArePushed (ℕ × Placement) StationFits device_numbers device_lines devices d e
      → IfOk result (HasSettled settings rule e new) → IfOk result (HasRead all old new)
  all_read (Err x) old a b c d e new o p s t v settled = tt
  all_read (Ok false) old a b c d e new o p s t v settled = λ r room is. settled r.start r.inbox r.zone room.zone (first r is) (second r is)
    where
      first : (r : RegisterValue) → all ≡ register_lists r → settings ≡ (r.start ∷ r.inbox ∷ []) ∷ []
      first r is = let e = sym all_is ∙ is in cc

      second : (r : RegisterValue) → all ≡ register_lists r → rule ≡ map one_number r.zone
      second r is = let e = sym all_is ∙ is in cc
  all_read (Ok true) old a b c d e new o p s t v settled = (
    r,
    record { owners = o.room; operators = p.room; stations = s.room; products = t.room; devices = v.room; zone = settled.word },
    all_is ∙ (λ i. settled.settings_are i ∷ settled.rule_is i ∷ o.rows_are i ∷ p.rows_are i ∷ s.rows_are i ∷ t.rows_are i ∷ v.rows_are i ∷ []),
    lines,
  )
    where
      one : a ≡ old ++ map owner_line o.entries
      one = o.new_is ∙ ap (λ x. old ++ x) (singles owner_line o.entries)

      two : b ≡ old ++ (map owner_line o.entries ++ map line.Operator p.entries)
      two = join old a (map owner_line o.entries) b (map line.Operator p.entries) one (p.new_is ∙ ap (λ x. a ++ x) (singles line.Operator p.entries))

      three : c ≡ old ++ (map owner_line o.entries ++ map line.Operator p.entries ++ map station_line s.entries)
      three = join old b _ c (map station_line s.entries) two (s.new_is ∙ ap (λ x. b ++ x) (singles station_line s.entries))

      four : d ≡ old ++ (map owner_line o.entries ++ map line.Operator p.entries ++ map station_line s.entries ++ flat_map product_lines t.entries)
      four = join old c _ d (flat_map product_lines t.entries) three t.new_is

      five : e ≡ old ++ (map owner_line o.entries ++ map line.Operator p.entries ++ map station_line s.entries ++ flat_map product_lines t.entries ++ map device_line v.entries)
      five = join old d _ e (map device_line v.entries) four (v.new_is ∙ ap (λ x. d ++ x) (singles device_line v.entries))

      lines : new ≡ old ++ (map owner_line o.entries ++ map line.Operator p.entries ++ map station_line s.entries ++ flat_map product_lines t.entries ++ map device_line v.entries ++ settings_lines settled.inbox settled.zone settled.start)
      lines = join old e _ new (settings_lines settled.inbox settled.zone settled.start) five settled.new_is

      r : RegisterValue
      r = record { owners = o.entries; operators = p.entries; stations = s.entries; products = t.entries; devices = v.entries; inbox = settled.inbox; zone = settled.zone; start = settled.start }

-- rows that were pushed
pub pushed : (X : Type 0) (Room : X → Type 0) (numbers : X → List ℕ) (lines : X → List SchemeLine) (rows : List (List ℕ)) (old new : List SchemeLine) (b : Bool) → b ≡ true → HasPushed X Room numbers lines rows old new b → ArePushed X Room numbers lines rows old new
pushed X Room numbers lines rows old new true is it = it
pushed X Room numbers lines rows old new false is it = absurd cc
