-- The lines of rows, pushed row by row.
use Rattle.std.proofs.Common.{◌≡◌, ◌<◌, ◌+◌, ◌++◌, ◌∷◌, ℕ, zero, suc, List, [], length, map, take, get_or, append-nil, refl, sym, ap, ◌∙◌, arith}
use Rattle.std.specs.Global.{Global}
use Rattle.std.specs.Prelude.{Vec}
use Rattle.std.specs.List.{AllByRecursion, flat_map}
use Rattle.std.proofs.lemmas.List.{map-append, append_assoc}
use Rattle.std.proofs.lemmas.Grind.{flat_map-append}
use Rattle.fare_lines.specs.declared.line.SchemeLine.{SchemeLine}
use Rattle.fare_register.specs.Registers.{told_list, ArePushed, AreNone}

module _ (X : Type 0) (Room : X → Type 0) (numbers : X → List ℕ) (lines : X → List SchemeLine) where
  pub none_pushed : (old : List SchemeLine) → ArePushed X Room numbers lines [] old old
  none_pushed old = record { entries = []; room = tt; rows_are = refl; new_is = sym (append-nil old) }

  room_behind : (xs : List X) (x : X) → AllByRecursion Room xs → Room x → AllByRecursion Room (xs ++ x ∷ [])
  room_behind [] x all here = (here, tt)
  room_behind (y ∷ xs) x all here = (all.0, room_behind xs x all.1 here)

  pub one_pushed : (rows : List (Vec ℕ Global)) (k : ℕ) (r : Vec ℕ Global) (x : X) (old mid new : List SchemeLine) → take (k + 1) rows ≡ take k rows ++ r ∷ [] → Room x → r.items ≡ numbers x → new ≡ mid ++ lines x
      → ArePushed X Room numbers lines (told_list (take k rows)) old mid → ArePushed X Room numbers lines (told_list (take (k + 1) rows)) old new
  one_pushed rows k r x old mid new more room is pushed so_far = record {
    entries = so_far.entries ++ x ∷ [];
    room = room_behind so_far.entries x so_far.room room;
    rows_are = ap told_list more ∙ map-append (λ (v : Vec ℕ Global). v.items) (take k rows) (r ∷ []) ∙ ap (λ t. t ++ r.items ∷ []) so_far.rows_are ∙ ap (λ n. map numbers so_far.entries ++ n ∷ []) is ∙ sym (map-append numbers so_far.entries (x ∷ []));
    new_is = pushed ∙ ap (λ t. t ++ lines x) so_far.new_is ∙ append_assoc old (flat_map lines so_far.entries) (lines x) ∙ ap (λ t. old ++ t) (ap (λ t. flat_map lines so_far.entries ++ t) (sym (append-nil (lines x))) ∙ sym (flat_map-append lines so_far.entries (x ∷ [])));
  }

  -- a row that is none of an entry
  pub no_entry : (rows : List (Vec ℕ Global)) (k : ℕ) (r d : Vec ℕ Global) → k < length rows → r ≡ get_or rows k d → ((x : X) → Room x → r.items ≡ numbers x → ⊥) → AreNone X Room numbers (told_list rows)
  no_entry [] k r d low is none entries room rows_are = omega (arith, low)
  no_entry (v ∷ rows) k r d low is none [] room rows_are = cc
  no_entry (v ∷ rows) zero r d low is none (x ∷ entries) room rows_are = none x room.0 (ap (λ (y : Vec ℕ Global). y.items) is ∙ first)
    where
      first : v.items ≡ numbers x
      first = cc
  no_entry (v ∷ rows) (suc k) r d low is none (x ∷ entries) room rows_are = no_entry rows k r d (omega (arith, low)) is none entries room.1 rest
    where
      rest : told_list rows ≡ map numbers entries
      rest = cc
