-- What is heard, frame by frame.
use Rattle.std.proofs.Common.{◌≡◌, ◌<◌, ◌+◌, ◌*◌, ◌-◌, ◌⊎◌, ℕ, true, false, List, [], ◌∷◌, ◌++◌, length, inl, inr, refl, sym, ap, ◌∙◌, subst, arith, append_assoc, Option, None, Some, Ok, Err, IfSome}
use Rattle.std.specs.Io.KnownBytes.{Consumes, IsAtEnd}
use Rattle.std.proofs.lemmas.List.{append-nil, length-append}
use Rattle.fare_frame.specs.Grammar.{spelling_of, hello_of, IsRest}
use Rattle.fare_frame.specs.Reading.{Spells, HasNoFrame}
use Rattle.fare_frame.specs.declared.frame.Frame.{Frame}
use Rattle.fare_frame.specs.declared.frame.Frame.TheVariants.{Greeted}
use Rattle.fare_scheme.specs.Values.{SchemeValue}
use Rattle.fare_source.specs.declared.fault.SourceFault.{SourceFault}
use Rattle.fare_net.specs.NetValue.{NetValue}
use Rattle.fare_net.specs.Sources.{Finds, Greets, HasGreeted, HasRead, HasReadMore, HelloFails, TakesOff, IsAllTaken, IsWhole, fresh_source}
use Rattle.fare_net.specs.Listening.{Begins, BeginsWithNone, HasHeard, IsHearing, IsRefused}
use Rattle.fare_net.specs.declared.fault.HelloFault.{HelloFault}
use Rattle.fare_net.specs.declared.fault.HelloFault.TheVariants as hello
use Rattle.fare_net.proofs.Intakes.{each_has}
use Rattle.fare_net.proofs.Sources.{consumes_then}

-- THE INPUT
-- what is left of the known bytes
abbrev left_of : Option (List ℕ) → List ℕ
left_of None = []
left_of (Some xs) = xs

split : (xs : List ℕ) (unread : Option (List ℕ)) (read : List ℕ) → Consumes (Some xs) unread read → xs ≡ read ++ left_of unread
split xs None read c = absurd c
split xs (Some ys) read c = c

none_left : (xs : List ℕ) (unread : Option (List ℕ)) (read : List ℕ) → Consumes (Some xs) unread read → IsAtEnd unread → left_of unread ≡ []
none_left xs None read c end = absurd c
none_left xs (Some ys) read c end = end

-- of a new source, what was read is what the reader gave
fresh_read : (input written : Option (List ℕ)) (turns : ℕ) (old new : NetValue) (more : List ℕ) → old ≡ fresh_source input written turns → HasReadMore old new more → Consumes input new.unread new.intake.read
fresh_read input written turns old new more fresh reads =
    subst (λ t. Consumes input new.unread t) (sym (reads.read ∙ ap (λ (v : NetValue). v.intake.read ++ more) fresh)) (subst (λ t. Consumes t new.unread more) (ap (λ (v : NetValue). v.unread) fresh) reads.unread)

read_on : (input : Option (List ℕ)) (u v : NetValue) → Consumes input u.unread u.intake.read → HasRead u v → Consumes input v.unread v.intake.read
read_on input u v read reads = subst (λ t. Consumes input v.unread t) (sym reads.reads.read) (consumes_then input u.unread v.unread u.intake.read reads.more read reads.reads.unread)

-- FRAME BY FRAME
pub heard_first : (scheme : SchemeValue) (station : ℕ) (input written : Option (List ℕ)) (turns : ℕ) (old new : NetValue) → old ≡ fresh_source input written turns → HasGreeted old new → Greets scheme old new station → new.refused ≡ false → IsHearing scheme station [] input new
heard_first scheme station input written turns old new fresh reads greets greeted = record {
  hello = greets.hello;
  version = greets.version;
  is = greets.is;
  taken = greets.finds.0 ∙ ap (λ (v : NetValue). v.intake.taken ++ Greeted greets.hello ∷ []) fresh;
  read = fresh_read input written turns old new reads.more fresh reads.reads;
  front = greets.finds.1;
  greeted = greeted;
}

pub heard_next : (scheme : SchemeValue) (station : ℕ) (frames : List Frame) (input : Option (List ℕ)) (u v : NetValue) (f : Frame) → IsHearing scheme station frames input u → HasRead u v → TakesOff u v (Ok (Some f)) → IsHearing scheme station (frames ++ f ∷ []) input v
heard_next scheme station frames input u v f heard reads takes = record {
  hello = heard.hello;
  version = heard.version;
  is = heard.is;
  taken = takes.0 ∙ ap (λ t. t ++ f ∷ []) heard.taken;
  read = read_on input u v heard.read reads;
  front = takes.1;
  greeted = reads.refused ∙ heard.greeted;
}

-- each frame uses up some of the bytes that may still be read
pub fewer_left : (u v : NetValue) (f : Frame) → HasRead u v → TakesOff u v (Ok (Some f)) → 4096 * v.turns + length v.intake.read - length v.intake.taken < 4096 * u.turns + length u.intake.read - length u.intake.taken
fewer_left u v f reads takes =
    let n = each_has v.intake.taken in
    let front = takes.1 in
    omega (arith, n, ap length front.1.whole, length-append (spelling_of v.intake.taken) front.0, ap length takes.0, length-append u.intake.taken (f ∷ []), ap length reads.reads.read, length-append u.intake.read reads.more, reads.reads.few)

-- THE END
pub heard_end : (scheme : SchemeValue) (station : ℕ) (frames : List Frame) (input : Option (List ℕ)) (u v : NetValue) → IsHearing scheme station frames input u → HasRead u v → TakesOff u v (Ok None) → IfSome input (HasHeard scheme station frames true)
heard_end scheme station frames None u v heard reads takes = tt
heard_end scheme station frames (Some xs) u v heard reads takes =
    let whole = takes.1.0 in
    let read = read_on (Some xs) u v heard.read reads in
    record {
      hello = heard.hello;
      version = heard.version;
      is = heard.is;
      read = v.intake.read;
      unread = left_of v.unread;
      input_is = split xs v.unread v.intake.read read;
      rest = whole.0;
      spelled = subst (λ t. Spells v.intake.read t whole.0) (takes.0 ∙ heard.taken) whole.1;
      last = (whole.2, none_left xs v.unread v.intake.read read takes.1.1);
    }

pub heard_failed : (scheme : SchemeValue) (station : ℕ) (frames : List Frame) (input : Option (List ℕ)) (u v : NetValue) (fault : SourceFault) → IsHearing scheme station frames input u → HasRead u v → TakesOff u v (Err fault) → IfSome input (HasHeard scheme station frames false)
heard_failed scheme station frames None u v fault heard reads takes = tt
heard_failed scheme station frames (Some xs) u v fault heard reads takes =
    let whole = takes.2 heard.greeted in
    record {
      hello = heard.hello;
      version = heard.version;
      is = heard.is;
      read = v.intake.read;
      unread = left_of v.unread;
      input_is = split xs v.unread v.intake.read (read_on (Some xs) u v heard.read reads);
      rest = whole.0;
      spelled = subst (λ t. Spells v.intake.read t whole.0) (takes.1 ∙ heard.taken) whole.1;
      last = whole.2;
    }

-- NO GREETING
begins : (xs read left : List ℕ) (old new : NetValue) (f : Frame) → old.intake.taken ≡ [] → read ≡ new.intake.read → xs ≡ read ++ left → Finds old new f → Begins xs f
begins xs read left old new f none is split finds =
    let rest = finds.1.0 in
    let one : new.intake.taken ≡ f ∷ [] = finds.0 ∙ ap (λ t. t ++ f ∷ []) none in
    let spelled : Spells new.intake.read (f ∷ []) rest = subst (λ t. Spells new.intake.read t rest) one finds.1.1 in
    (rest ++ left, record { lawful = spelled.lawful; whole = split ∙ ap (λ t. t ++ left) (is ∙ spelled.whole) ∙ append_assoc (spelling_of (f ∷ [])) rest left })

-- where no frame was taken off, all that was read is the rest
all_rest : (old new : NetValue) (P : List ℕ → Type 0) → old.intake.taken ≡ [] → new.intake.taken ≡ old.intake.taken → IsWhole new P → P new.intake.read
all_rest old new P none same whole =
    let spelled : Spells new.intake.read [] whole.0 = subst (λ t. Spells new.intake.read t whole.0) (same ∙ none) whole.1 in
    subst P (sym spelled.whole) whole.2

pub not_heard : (scheme : SchemeValue) (input written : Option (List ℕ)) (turns : ℕ) (old new : NetValue) (fault : HelloFault) → old ≡ fresh_source input written turns → HasGreeted old new → HelloFails scheme old new fault → IfSome input (IsRefused scheme fault)
not_heard scheme None written turns old new fault fresh reads fails = tt
not_heard scheme (Some xs) written turns old new fault fresh reads fails = by_fault fault fails where
  none : old.intake.taken ≡ []
  none = ap (λ (v : NetValue). v.intake.taken) fresh

  open_ : old.refused ≡ false
  open_ = ap (λ (v : NetValue). v.refused) fresh

  read : Consumes (Some xs) new.unread new.intake.read
  read = fresh_read (Some xs) written turns old new reads.more fresh reads.reads

  parts : xs ≡ new.intake.read ++ left_of new.unread
  parts = split xs new.unread new.intake.read read

  found : (f : Frame) → Finds old new f → Begins xs f
  found f finds = begins xs new.intake.read (left_of new.unread) old new f none refl parts finds

  at_end : (new.intake.taken ≡ old.intake.taken) × IsAllTaken new → IsRest xs
  at_end h = subst IsRest (sym (parts ∙ ap (λ t. new.intake.read ++ t) (none_left xs new.unread new.intake.read read h.1.1) ∙ append-nil new.intake.read)) (all_rest old new IsRest none h.0 h.1.0)

  by_none : ((f : Frame) × Finds old new f × (hello_of f ≡ None)) ⊎ ((new.intake.taken ≡ old.intake.taken) × IsAllTaken new) → IsRefused scheme hello.NoHello xs
  by_none (inl h) = inl (h.0, found h.0 h.1, h.2)
  by_none (inr h) = inr (at_end h)

  by_failed : (new.intake.taken ≡ old.intake.taken) → ((old.refused ≡ true) × (new.intake ≡ old.intake)) ⊎ IsWhole new HasNoFrame → BeginsWithNone xs
  by_failed same (inl h) = let no : true ≡ false = sym h.0 ∙ open_ in cc
  by_failed same (inr h) = (new.intake.read, left_of new.unread, parts, all_rest old new HasNoFrame none same h)

  by_fault : (fault : HelloFault) → HelloFails scheme old new fault → IsRefused scheme fault xs
  by_fault hello.NoHello h = by_none h
  by_fault hello.BadVersion h = (h.0, found (Greeted h.0) h.1, h.2)
  by_fault hello.UnknownDevice h = (h.0, found (Greeted h.0) h.1, h.2, h.3)
  by_fault hello.Failed h = by_failed h.0 h.1
