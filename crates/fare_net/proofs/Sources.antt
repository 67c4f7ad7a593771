-- Reading on, and reading on further.
use Rattle.std.proofs.Common.{◌≡◌, ℕ, List, [], ◌∷◌, ◌++◌, refl, sym, ap, ◌∙◌, subst, inl, inr, append_assoc, arith, Option, None, Some}
use Rattle.std.specs.Io.KnownBytes.{Appends, Consumes}
use Rattle.std.proofs.KnownBytes.{Appends-nil, Appends-trans}
use Rattle.std.proofs.lemmas.List.{append-nil, length-append}
use Rattle.fare_frame.specs.Grammar.{hello_of}
use Rattle.fare_frame.specs.declared.frame.Frame.{Frame}
use Rattle.fare_frame.specs.declared.frame.Frame.TheVariants.{Tapped, Stated, Acked, DayAcked, Greeted}
use Rattle.fare_record.specs.Values.{HelloValue}
use Rattle.fare_net.specs.IntakeValue.{IntakeValue}
use Rattle.fare_net.specs.NetValue.{NetValue}
use Rattle.fare_net.specs.Sources.{Advances, HasReadMore, Listens, Sends, SendsOn}

pub consumes_none : (known : Option (List ℕ)) → Consumes known known []
consumes_none None = tt
consumes_none (Some xs) = refl

pub consumes_then : (a b c : Option (List ℕ)) (xs ys : List ℕ) → Consumes a b xs → Consumes b c ys → Consumes a c (xs ++ ys)
consumes_then None b c xs ys p q = tt
consumes_then (Some a) None c xs ys p q = absurd p
consumes_then (Some a) (Some b) None xs ys p q = absurd q
consumes_then (Some a) (Some b) (Some c) xs ys p q = p ∙ ap (λ t. xs ++ t) q ∙ sym (append_assoc xs ys c)

pub reads_none : (v : NetValue) → HasReadMore v v []
reads_none v = record { read = sym (append-nil v.intake.read); unread = consumes_none v.unread; few = omega arith }

pub reads_then : (u v w : NetValue) (xs ys : List ℕ) → HasReadMore u v xs → HasReadMore v w ys → HasReadMore u w (xs ++ ys)
reads_then u v w xs ys a b = record {
  read = b.read ∙ ap (λ t. t ++ ys) a.read ∙ append_assoc u.intake.read xs ys;
  unread = consumes_then u.unread v.unread w.unread xs ys a.unread b.unread;
  few = omega (arith, length-append xs ys, a.few, b.few);
}

-- what was read more behind a send was read more from before it
pub reads_from : (u v w : NetValue) (more : List ℕ) → Sends u v → HasReadMore v w more → HasReadMore u w more
reads_from u v w more a b = record {
  read = b.read ∙ ap (λ (i : IntakeValue). i.read ++ more) a.intake;
  unread = subst (λ (x : Option (List ℕ)). Consumes x w.unread more) a.unread b.unread;
  few = (let same = a.turns in let few = b.few in omega (arith, same, few));
}

pub advances_none : (v : NetValue) → Advances v v
advances_none v = record {
  more = [];
  reads = reads_none v;
  taken = refl;
  written = refl;
  unsent = refl;
  given = refl;
  answered = refl;
  failures = refl;
  refused = refl;
  cut = refl;
}

pub advances_then : (u v w : NetValue) → Advances u v → Advances v w → Advances u w
advances_then u v w a b = record {
  more = a.more ++ b.more;
  reads = reads_then u v w a.more b.more a.reads b.reads;
  taken = b.taken ∙ a.taken;
  written = b.written ∙ a.written;
  unsent = b.unsent ∙ a.unsent;
  given = b.given ∙ a.given;
  answered = b.answered ∙ a.answered;
  failures = b.failures ∙ a.failures;
  refused = b.refused ∙ a.refused;
  cut = b.cut ∙ a.cut;
}

-- SENDING ON
pub sends_nothing : (u v : NetValue) → v.written ≡ u.written → v.unsent ≡ u.unsent → v.cut ≡ u.cut → SendsOn u v
sends_nothing u v written unsent cut = inl ([], subst (λ w. Appends u.written w []) (sym written) (Appends-nil u.written), sym unsent, cut)

none_behind : (xs ys : List ℕ) → xs ++ ys ≡ [] → ys ≡ []
none_behind [] ys e = e
none_behind (x ∷ xs) ys e = cc

sends_then : (u v w : NetValue) → SendsOn u v → SendsOn v w → SendsOn u w
sends_then u v w (inl a) (inl b) = inl (a.0 ++ b.0, Appends-trans u.written v.written w.written a.0 b.0 a.1 b.1, a.2 ∙ ap (λ t. a.0 ++ t) b.2 ∙ sym (append_assoc a.0 b.0 w.unsent), b.3 ∙ a.3)
sends_then u v w (inl a) (inr b) = inr (λ none. b.0 (none_behind a.0 v.unsent (sym a.2 ∙ none)), sym a.3 ∙ b.1, b.2)
sends_then u v w (inr a) (inl b) = inr (a.0, a.1, b.3 ∙ a.2)
sends_then u v w (inr a) (inr b) = inr (a.0, a.1, b.2)

-- it sent on, and then it read on
pub listens_on : (u v w : NetValue) → Sends u v → Advances v w → Listens u w
listens_on u v w a b = record {
  more = b.more;
  reads = reads_from u v w b.more a b.reads;
  goes = sends_then u v w a.goes (sends_nothing v w b.written b.unsent b.cut);
  taken = b.taken ∙ ap (λ (i : IntakeValue). i.taken) a.intake;
  given = b.given ∙ a.given;
  answered = b.answered ∙ a.answered;
  failures = b.failures ∙ a.failures;
  refused = b.refused ∙ a.refused;
}

pub listens_none : (v : NetValue) → Listens v v
listens_none v = record {
  more = [];
  reads = reads_none v;
  goes = sends_nothing v v refl refl refl;
  taken = refl;
  given = refl;
  answered = refl;
  failures = refl;
  refused = refl;
}

pub listens_then : (u v w : NetValue) → Listens u v → Listens v w → Listens u w
listens_then u v w a b = record {
  more = a.more ++ b.more;
  reads = reads_then u v w a.more b.more a.reads b.reads;
  goes = sends_then u v w a.goes b.goes;
  taken = b.taken ∙ a.taken;
  given = b.given ∙ a.given;
  answered = b.answered ∙ a.answered;
  failures = b.failures ∙ a.failures;
  refused = b.refused ∙ a.refused;
}

-- a frame with a greeting is that greeting's
pub greeted_is : (f : Frame) (h : HelloValue) → hello_of f ≡ Some h → f ≡ Greeted h
greeted_is (Greeted g) h e = let same : g ≡ h = cc in ap Greeted same
greeted_is (Tapped r) h e = cc
greeted_is (Stated s) h e = cc
greeted_is (Acked a) h e = cc
greeted_is (DayAcked a) h e = cc
