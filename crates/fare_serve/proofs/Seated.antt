-- Seats that lines take.
use Rattle.std.proofs.Common.{◌≡◌, ◌≢◌, ◌⊎◌, ℕ, zero, suc, ◌<◌, List, [], ◌∷◌, ◌++◌, length, take, drop, slice_index_or, refl, sym, ap, ◌∙◌, subst, inl, inr, arith, false, append_assoc, get_or-set_same, get_or-set_other}
use Rattle.std.proofs.lemmas.List.{get_or_default}
use Rattle.std.proofs.Math.ListN.{set}
use Rattle.std.proofs.Math.Seq.{take-append_seam}
use Rattle.fare_frame.specs.declared.frame.Frame.{Frame}
use Rattle.fare_frame.specs.declared.frame.Frame.TheVariants.{Greeted}
use Rattle.fare_frame.specs.Reading.{Spells}
use Rattle.fare_frame.specs.Grammar.{spelling_of}
use Rattle.fare_scheme.specs.Values.{SchemeValue}
use Rattle.fare_net.specs.NetValue.{NetValue}
use Rattle.fare_net.specs.Sources.{Greets, HasGreeted, IsFront, Listens}
use Rattle.fare_net.proofs.Sources.{listens_then}
use Rattle.fare_serve.specs.Lines.{HasGreetedAs, IsNewLine, IsUnheard}
use Rattle.fare_serve.specs.Seats.{AreFree, AreSeatsGathered, AreSeats, AreSeatsAfter, HasTakenSeat, IsSeatGathered, IsSeatAfter}
use Rattle.fare_serve.specs.declared.seats.Rule.{Rule}
use Rattle.fare_serve.specs.declared.seats.Rule.TheVariants.{First, Last}
use Rattle.fare_serve.specs.declared.seats.Seat.{Seat}
use Rattle.fare_serve.specs.declared.seats.Seat.TheVariants.{Free, Lent, Held}
use Rattle.fare_serve.proofs.Counted.{same_or_apart}

-- LINES
pub unheard_still : (u v : NetValue) → Listens u v → IsUnheard u → IsUnheard v
unheard_still u v a was = record { taken = a.taken ∙ was.taken; given = a.given ∙ was.given; answered = a.answered ∙ was.answered }

front_still : (u v : NetValue) → Listens u v → IsFront u → IsFront v
front_still u v a front =
    let more = a.more in
    let spelled : Spells v.intake.read u.intake.taken (front.0 ++ more) = record {
      lawful = front.1.lawful;
      whole = a.reads.read ∙ (ap (λ (t : List ℕ). t ++ more) front.1.whole ∙ append_assoc (spelling_of u.intake.taken) front.0 more);
    } in
    (front.0 ++ more, subst (λ (fs : List Frame). Spells v.intake.read fs (front.0 ++ more)) (sym a.taken) spelled)

greeted_still : (sc : SchemeValue) (station : ℕ) (u v : NetValue) → Listens u v → HasGreetedAs sc station u → HasGreetedAs sc station v
greeted_still sc station u v a was = record {
  hello = was.hello;
  version = was.version;
  is = was.is;
  taken = a.taken ∙ was.taken;
  front = front_still u v a was.front;
  greeted = a.refused ∙ was.greeted;
  given = a.given ∙ was.given;
  answered = a.answered ∙ was.answered;
}

pub new_still : (sc : SchemeValue) (place : ℕ) (u v : NetValue) → Listens u v → IsNewLine sc place u → IsNewLine sc place v
new_still sc place u v a was = (was.0, was.1, greeted_still sc was.0 u v a was.2)

pub greeted_as : (sc : SchemeValue) (station : ℕ) (guest line : NetValue) → IsUnheard guest → HasGreeted guest line → Greets sc guest line station → line.refused ≡ false → HasGreetedAs sc station line
greeted_as sc station guest line unheard said greets greeted = record {
  hello = greets.hello;
  version = greets.version;
  is = greets.is;
  taken = greets.finds.0 ∙ ap (λ (fs : List Frame). fs ++ Greeted greets.hello ∷ []) unheard.taken;
  front = greets.finds.1;
  greeted = greeted;
  given = said.given ∙ unheard.given;
  answered = said.answered ∙ unheard.answered;
}

-- ONE SEAT
pub sat : (sc : SchemeValue) (rule : Rule) (place : ℕ) (old new : Seat) (source : NetValue) → IsNewLine sc place source → HasTakenSeat rule old new source → IsSeatAfter sc rule place old new
sat sc First place (Held first) new source came (now, on, inl over) = inr (source, over.0, inl came)
sat sc First place (Held first) new source came (now, on, inr kept) = inr (now, kept.0, inr (first, refl, refl, on))
sat sc First place Free new source came has = inr (source, has, inl came)
sat sc First place Lent new source came has = inr (source, has, inl came)
sat sc Last place old new source came has = inr (source, has, inl came)

pub held_one : (a b : NetValue) (seat : Seat) → seat ≡ Held a → seat ≡ Held b → a ≡ b
held_one a b seat p q = cc

on_then : (sc : SchemeValue) (rule : Rule) (place : ℕ) (a b c : Seat) (line first : NetValue) → c ≡ Held line → rule ≡ First → b ≡ Held first → Listens first line → IsSeatAfter sc rule place a b → IsSeatAfter sc rule place a c
on_then sc rule place a b c line first is by was on (inl same) = inr (line, is, inr (first, by, sym same ∙ was, on))
on_then sc rule place a b c line first is by was on (inr (m, has, inl came)) =
    inr (line, is, inl (new_still sc place m line (subst (λ (x : NetValue). Listens x line) (held_one first m b was has) on) came))
on_then sc rule place a b c line first is by was on (inr (m, has, inr (f, rules, had, before))) =
    inr (line, is, inr (f, rules, had, listens_then f m line before (subst (λ (x : NetValue). Listens x line) (held_one first m b was has) on)))

after_one : (sc : SchemeValue) (rule : Rule) (place : ℕ) (a b c : Seat) → IsSeatAfter sc rule place a b → IsSeatAfter sc rule place b c → IsSeatAfter sc rule place a c
after_one sc rule place a b c p (inl same) = subst (IsSeatAfter sc rule place a) (sym same) p
after_one sc rule place a b c p (inr (line, is, inl came)) = inr (line, is, inl came)
after_one sc rule place a b c p (inr (line, is, inr (first, by, was, on))) = on_then sc rule place a b c line first is by was on p

-- ALL SEATS
pub after_none : (sc : SchemeValue) (rule : Rule) (seats : List Seat) → AreSeatsAfter sc rule seats seats
after_none sc rule seats = record { len = refl; each = λ k d lt. inl refl }

pub after_then : (sc : SchemeValue) (rule : Rule) (a b c : List Seat) → AreSeatsAfter sc rule a b → AreSeatsAfter sc rule b c → AreSeatsAfter sc rule a c
after_then sc rule a b c p q = record {
  len = q.len ∙ p.len;
  each = λ k d lt. after_one sc rule k (slice_index_or a k d) (slice_index_or b k d) (slice_index_or c k d) (p.each k d lt) (q.each k d (subst (λ n. k < n) (sym p.len) lt));
}

pub length-seats : (seats : List Seat) (place : ℕ) (new : Seat) → length (set seats place new) ≡ length seats
length-seats [] place new = refl
length-seats (s ∷ ss) zero new = refl
length-seats (s ∷ ss) (suc place) new = ap suc (length-seats ss place new)

-- as many seats as there were, written over all
pub written_over : (new olds : List Seat) (len : ℕ) → len ≡ length new → take len (new ++ drop (length new) olds) ≡ new
written_over new olds len same = ap (λ n. take n (new ++ drop (length new) olds)) same ∙ take-append_seam new (drop (length new) olds)

-- the line at a place came to its seat
pub after_set : (sc : SchemeValue) (rule : Rule) (seats : List Seat) (place : ℕ) (was new : Seat) → place < length seats → IsSeatAfter sc rule place (slice_index_or seats place was) new → AreSeatsAfter sc rule seats (set seats place new)
after_set sc rule seats place was new lt moved = record { len = length-seats seats place new; each = λ k d within. by k d (same_or_apart k place) }
  where
    by : (k : ℕ) (d : Seat) → (k ≡ place) ⊎ (k ≢ place) → IsSeatAfter sc rule k (slice_index_or seats k d) (slice_index_or (set seats place new) k d)
    by k d (inl e) = subst (λ n. IsSeatAfter sc rule n (slice_index_or seats n d) (slice_index_or (set seats place new) n d)) (sym e)
        (subst (λ (s : Seat). IsSeatAfter sc rule place s (slice_index_or (set seats place new) place d)) (get_or_default seats place was d lt)
        (subst (IsSeatAfter sc rule place (slice_index_or seats place was)) (sym (get_or-set_same seats place new d lt)) moved))
    by k d (inr differ) = inl (get_or-set_other seats place k new d differ)

-- no line has a seat before the first that comes
free_at : (seats : List Seat) → ((k : ℕ) (d : Seat) → k < length seats → slice_index_or seats k d ≡ Free) → (k : ℕ) (d : Seat) → k < length (seats ++ Free ∷ []) → slice_index_or (seats ++ Free ∷ []) k d ≡ Free
free_at [] each zero d lt = refl
free_at [] each (suc k) d lt = absurd (omega (arith, lt))
free_at (s ∷ ss) each zero d lt = each zero d (omega arith)
free_at (s ∷ ss) each (suc k) d lt = free_at ss (λ i e within. each (suc i) e (omega (arith, within))) k d (omega (arith, lt))

pub free_none : AreFree []
free_none = record { each = λ k d lt. absurd (omega (arith, lt)) }

pub free_more : (seats : List Seat) → AreFree seats → AreFree (seats ++ Free ∷ [])
free_more seats free = record { each = free_at seats free.each }

pub none_held : (line : NetValue) (seat : Seat) → seat ≡ Free → seat ≡ Held line → ⊥
none_held line seat p q = cc

pub seats_of_free : (sc : SchemeValue) (seats : List Seat) → AreFree seats → AreSeats sc seats
seats_of_free sc seats free = record { each = λ k d line lt has. absurd (none_held line (slice_index_or seats k d) (free.each k d lt) has) }

-- GATHERING
-- a line that was read on, of a seat that was gathered
on_gathered : (sc : SchemeValue) (place : ℕ) (a b c : Seat) (line first : NetValue) → c ≡ Held line → b ≡ Held first → Listens first line → ((l : NetValue) → a ≡ Held l → IsNewLine sc place l) → IsSeatGathered sc place a b → IsSeatGathered sc place a c
on_gathered sc place a b c line first is was on were (inl same) = inr (line, is, new_still sc place first line on (were first (sym same ∙ was)))
on_gathered sc place a b c line first is was on were (inr (m, has, came)) = inr (line, is, new_still sc place m line (subst (λ (x : NetValue). Listens x line) (held_one first m b was has) on) came)

gathered_one : (sc : SchemeValue) (rule : Rule) (place : ℕ) (a b c : Seat) → (rule ≡ First → (l : NetValue) → a ≡ Held l → IsNewLine sc place l) → IsSeatGathered sc place a b → IsSeatAfter sc rule place b c → IsSeatGathered sc place a c
gathered_one sc rule place a b c were p (inl same) = subst (IsSeatGathered sc place a) (sym same) p
gathered_one sc rule place a b c were p (inr (line, is, inl came)) = inr (line, is, came)
gathered_one sc rule place a b c were p (inr (line, is, inr (first, by, was, on))) = on_gathered sc place a b c line first is was on (were by) p

pub gathered_none : (sc : SchemeValue) (seats : List Seat) → AreSeatsGathered sc seats seats
gathered_none sc seats = record { len = refl; each = λ k d lt. inl refl }

pub gathered_then : (sc : SchemeValue) (rule : Rule) (a b c : List Seat) → (rule ≡ First → AreSeats sc a) → AreSeatsGathered sc a b → AreSeatsAfter sc rule b c → AreSeatsGathered sc a c
gathered_then sc rule a b c were p q = record {
  len = q.len ∙ p.len;
  each = λ k d lt. gathered_one sc rule k (slice_index_or a k d) (slice_index_or b k d) (slice_index_or c k d) (λ by l has. (were by).each k d l lt has) (p.each k d lt) (q.each k d (subst (λ n. k < n) (sym p.len) lt));
}
