-- Letting go, asked of a hub, lane by lane.
use Rattle.std.proofs.Common.{◌≡◌, ℕ, ◌+◌, ◌-◌, ◌≤◌, Bool, true, false, List, [], ◌∷◌, ◌++◌, length, take, drop, Some, refl, sym, ap, ◌∙◌, subst, append_assoc, append-nil, inl, inr}
use Rattle.std.specs.Prelude.{◌||◌, if◌then◌else◌, nat_le, Option, Result, Ok, Err, OnOk, IfErr}
use Rattle.std.specs.Map.{keys_of}
use Rattle.std.specs.Io.KnownBytes.{Appends}
use Rattle.std.proofs.KnownBytes.{Appends-nil, Appends-trans}
use Rattle.std.proofs.lemmas.Grind.{flat_map-append}
use Rattle.std.proofs.lemmas.List.{map-append, take-append-drop}
use Rattle.fare_scheme.specs.Values.{SchemeValue}
use Rattle.fare_scheme.specs.Words.{id_at}
use Rattle.fare_store.specs.declared.fault.Fault.{Fault}
use Rattle.fare_store.specs.Standing.{Standing}
use Rattle.fare_store.specs.OutboxWords.{OutboxValue}
use Rattle.fare_store.specs.LedgerWords.{LedgerValue, closed_through, gone_of}
use Rattle.fare_history.specs.Stores.{StoresValue, Forgets}
use Rattle.fare_agreement.specs.Stopping.{IsLeftBy}
use Rattle.fare_sessions.specs.declared.hub.Hub.{Hub}
use Rattle.fare_sessions.specs.Billing.{day_behind, first_unclosed}
use Rattle.fare_sessions.specs.Stores.{AreClean, AreSound, MayStandAs, ComesOf}
use Rattle.fare_sessions.proofs.Follow.{clean_back}
use Rattle.fare_sessions.proofs.NextClose.{behind_last}
use Rattle.fare_desk.specs.Closing.{GoesOnLettingGo, lanes_with}
use Rattle.fare_desk.specs.Forgetting.{AreGoneLines, HasRest, LeavesSome, LetsGo, LetsSomeGo, gone_line, gone_lines, is_over, lane_gone, let_lane_go, let_lanes_go, went, without}
use Rattle.fare_desk.specs.Showing.{OnlyAsks}
use Rattle.fare_desk.specs.declared.fault.DeskFault.{DeskFault}
use Rattle.fare_desk.specs.declared.forgetting.LaneGone.{LaneGone}
use Rattle.fare_desk.proofs.Going.{letting_self, letting_join, letting_asks}
use Rattle.fare_desk.proofs.Lanes.{keys_more, lanes_over}
use Rattle.fare_desk.proofs.Without.{left_rest}

-- A HUB
module _ {O L : Type 0} (outbox : O → Standing OutboxValue) (ledger : L → Standing LedgerValue) where
  -- CALL AFTER CALL
  -- what comes of stores by one relation comes of them by a weaker one
  pub comes_loosened : (old new : Hub O L) (R S : StoresValue → StoresValue → Type 0) → ((h k : StoresValue) → R h k → S h k) → ComesOf outbox ledger old new R → ComesOf outbox ledger old new S
  comes_loosened old new R S weaker comes = record { came = λ clean sound k may. (let was = comes.came clean sound k may in (was.0, was.1, weaker was.0 k was.2)) }

  pub comes_same : (old new : Hub O L) → OnlyAsks outbox ledger old new → ComesOf outbox ledger old new (λ h k. k ≡ h)
  comes_same old new asks = record { came = λ clean sound k may. (k, asks.same clean sound k may, refl) }

  pub comes_then : (a b c : Hub O L) (R S T : StoresValue → StoresValue → Type 0) → GoesOnLettingGo outbox ledger a b → GoesOnLettingGo outbox ledger b c → ComesOf outbox ledger a b R → ComesOf outbox ledger b c S → ((h m k : StoresValue) → R h m → S m k → T h k) → ComesOf outbox ledger a c T
  comes_then a b c R S T f g first second joins = record {
    came = λ clean sound k may.
        let late = second.came clean (f.sound sound) k may in
        let early = first.came (clean_back outbox ledger b c g.follow clean) sound late.0 late.1 in
        (early.0, early.1, joins early.0 late.0 k early.2 late.2);
  }

  -- SOME DAYS OF A LANE
  module _ (day owner device : ℕ) where
    abbrev LetsSome : Hub O L → Hub O L → Type 0
    LetsSome = LetsSomeGo outbox ledger day owner device

    pub some_self : (a : Hub O L) → LetsSome a a
    some_self a = record { goes = letting_self outbox ledger a; rest = record { came = λ clean sound k may. (k, may, refl) } }

    pub some_asked : (a b : Hub O L) → OnlyAsks outbox ledger a b → LetsSome a b
    some_asked a b asks = record { goes = letting_asks outbox ledger a b asks; rest = comes_loosened a b (λ h k. k ≡ h) (HasRest day owner device) (λ h k same. ap (without day owner device) same) (comes_same a b asks) }

    pub some_then : (a b c : Hub O L) → LetsSome a b → LetsSome b c → LetsSome a c
    some_then a b c f g = record {
      goes = letting_join outbox ledger a b c f.goes g.goes;
      rest = comes_then a b c (HasRest day owner device) (HasRest day owner device) (HasRest day owner device) f.goes g.goes f.rest g.rest (λ h m k one two. two ∙ one);
    }

    -- the days before an earlier one, once
    pub some_once : (a b : Hub O L) (week : ℕ) → week ≤ day → GoesOnLettingGo outbox ledger a b → ComesOf outbox ledger a b (λ h k. IsLeftBy h (Forgets owner device week) k) → LetsSome a b
    some_once a b week le goes left = record { goes = goes; rest = comes_loosened a b (λ h k. IsLeftBy h (Forgets owner device week) k) (HasRest day owner device) (λ h k l. left_rest device week day le owner h k l) left }

    -- some of these days, and then all that is left of them
    pub days_gone : (a b c : Hub O L) → LetsSome a b → GoesOnLettingGo outbox ledger b c → (r : Result (Unit {0}) Fault) → OnOk r (ComesOf outbox ledger b c (λ h k. k ≡ without day owner device h)) → OnOk r (ComesOf outbox ledger a c (λ h k. k ≡ without day owner device h))
    days_gone a b c f g (Err e) last = tt
    days_gone a b c f g (Ok u) last = comes_then a b c (HasRest day owner device) (λ h k. k ≡ without day owner device h) (λ h k. k ≡ without day owner device h) f.goes g f.rest last (λ h m k rest is. is ∙ rest)

  -- where they are over
  pub over_gone : (a b c : Hub O L) (day owner device : ℕ) → OnlyAsks outbox ledger a b → GoesOnLettingGo outbox ledger b c → (AreClean outbox ledger b → AreSound outbox ledger a → (h : StoresValue) → MayStandAs outbox ledger b h → true ≡ is_over (h.ledgers owner) device day) → ComesOf outbox ledger b c (λ h k. k ≡ without day owner device h)
      → ComesOf outbox ledger a c (λ h k. (true ≡ is_over (h.ledgers owner) device day) × (k ≡ let_lane_go day owner device h))
  over_gone a b c day owner device asks g over gone = record {
    came = λ clean sound k may.
        let clean_b = clean_back outbox ledger b c g.follow clean in
        let was = gone.came clean (asks.sound sound) k may in
        let stood = asks.same clean_b sound was.0 was.1 in
        let is = over clean_b sound was.0 was.1 in
        (was.0, stood, (is, was.2 ∙ ap (λ b. if b then without day owner device was.0 else was.0) is));
  }

  pub open_stays : (a b : Hub O L) (day owner device : ℕ) → OnlyAsks outbox ledger a b → (AreClean outbox ledger b → AreSound outbox ledger a → (h : StoresValue) → MayStandAs outbox ledger b h → false ≡ is_over (h.ledgers owner) device day)
      → ComesOf outbox ledger a b (λ h k. (false ≡ is_over (h.ledgers owner) device day) × (k ≡ let_lane_go day owner device h))
  open_stays a b day owner device asks over = record {
    came = λ clean sound k may.
        let stood = asks.same clean sound k may in
        let is = over clean sound k may in
        (k, stood, (is, ap (λ b. if b then without day owner device k else k) is));
  }

  -- whether they are over
  pub over_told : (a b c : Hub O L) (day owner device : ℕ) (closed : Option ℕ) (retired over : Bool) (taken : ℕ) → OnlyAsks outbox ledger a b → OnlyAsks outbox ledger b c
      → (AreClean outbox ledger b → AreSound outbox ledger a → (h : StoresValue) → MayStandAs outbox ledger a h → ((h.ledgers owner).start ≡ a.scheme.start) × ((taken ≡ length ((h.ledgers owner).taken device)) × (closed ≡ closed_through (h.ledgers owner) device)))
      → (AreClean outbox ledger c → AreSound outbox ledger b → (h : StoresValue) → MayStandAs outbox ledger b h → (h.ledgers owner).retired device ≡ retired)
      → over ≡ (retired || nat_le day (day_behind closed c.scheme.start))
      → AreClean outbox ledger c → AreSound outbox ledger a → (h : StoresValue) → MayStandAs outbox ledger c h → over ≡ is_over (h.ledgers owner) device day
  over_told a b c day owner device closed retired over taken f g first second is clean sound h may =
      let clean_b = clean_back outbox ledger b c g.follow clean in
      let sound_b = f.sound sound in
      let may_b = g.same clean sound_b h may in
      let t = first clean_b sound h (f.same clean_b sound h may_b) in
      let l = h.ledgers owner in
      let start : c.scheme.start ≡ l.start = ap (λ (sc : SchemeValue). sc.start) (g.scheme ∙ f.scheme) ∙ sym t.0 in
      let open_day : day_behind closed c.scheme.start ≡ first_unclosed l device = (λ i. day_behind (t.1.1 i) (start i)) ∙ behind_last l device in
      is ∙ (λ i. sym (second clean sound_b h may_b) i || nat_le day (open_day i))

  -- A LANE, AND WHAT CAME OF IT
  pub lane_is_gone : (a b c d e : Hub O L) (day owner device before after from : ℕ) (over : Bool) → OnlyAsks outbox ledger a b → GoesOnLettingGo outbox ledger b c → OnlyAsks outbox ledger c d → OnlyAsks outbox ledger d e
      → (AreClean outbox ledger b → AreSound outbox ledger a → (h : StoresValue) → MayStandAs outbox ledger a h → before ≡ gone_of ((h.ledgers owner).taken device))
      → ComesOf outbox ledger b c (λ h k. (over ≡ is_over (h.ledgers owner) device day) × (k ≡ let_lane_go day owner device h))
      → (AreClean outbox ledger d → AreSound outbox ledger c → (h : StoresValue) → MayStandAs outbox ledger c h → after ≡ gone_of ((h.ledgers owner).taken device))
      → (AreClean outbox ledger e → AreSound outbox ledger d → (h : StoresValue) → MayStandAs outbox ledger d h → from ≡ (h.ledgers owner).from device)
      → (lane : LaneGone) → lane ≡ record { taps = after - before; from = from; over = over } → ComesOf outbox ledger a e (λ h k. (lane ≡ lane_gone day owner device h) × (k ≡ let_lane_go day owner device h))
  lane_is_gone a b c d e day owner device before after from over p g q r first gone third fourth lane made = record {
    came = λ clean sound k may.
        let sound_b = p.sound sound in
        let sound_c = g.sound sound_b in
        let sound_d = q.sound sound_c in
        let clean_d = clean_back outbox ledger d e r.follow clean in
        let clean_c = clean_back outbox ledger c d q.follow clean_d in
        let clean_b = clean_back outbox ledger b c g.follow clean_c in
        let may_d = r.same clean sound_d k may in
        let may_c = q.same clean_d sound_c k may_d in
        let was = gone.came clean_c sound_b k may_c in
        let may_a = p.same clean_b sound was.0 was.1 in
        let is = was.2 in
        let now : after ≡ went owner device (let_lane_go day owner device was.0) = third clean_d sound_c k may_c ∙ ap (went owner device) is.1 in
        let then_gone : before ≡ went owner device was.0 = first clean_b sound was.0 may_a in
        let held : from ≡ ((let_lane_go day owner device was.0).ledgers owner).from device = fourth clean sound_d k may_d ∙ ap (λ (m : StoresValue). (m.ledgers owner).from device) is.1 in
        (was.0, may_a, (made ∙ (λ i. record { taps = now i - then_gone i; from = held i; over = is.0 i }), is.1));
  }

-- LANES
lanes_then : (day : ℕ) (ls ms : List (ℕ × ℕ)) (h : StoresValue) → let_lanes_go day (ls ++ ms) h ≡ let_lanes_go day ms (let_lanes_go day ls h)
lanes_then day [] ms h = refl
lanes_then day (l ∷ ls) ms h = lanes_then day ls ms (let_lane_go day l.0 l.1 h)

text_then : (day : ℕ) (ls ms : List (ℕ × ℕ)) (h : StoresValue) → gone_lines day (ls ++ ms) h ≡ gone_lines day ls h ++ gone_lines day ms (let_lanes_go day ls h)
text_then day [] ms h = refl
text_then day (l ∷ ls) ms h =
    let own = gone_line l.0 l.1 (lane_gone day l.0 l.1 h) in
    let m = let_lane_go day l.0 l.1 h in
    ap (λ (x : List ℕ). own ++ x) (text_then day ls ms m) ∙ sym (append_assoc own (gone_lines day ls m) (gone_lines day ms (let_lanes_go day ls m)))

lines_then : (ls ms : List (ℕ × ℕ)) (s t : List ℕ) → AreGoneLines ls s → AreGoneLines ms t → AreGoneLines (ls ++ ms) (s ++ t)
lines_then [] ms s t first second = subst (λ (x : List ℕ). AreGoneLines ms (x ++ t)) (sym first) second
lines_then (l ∷ ls) ms s t first second = (first.0, first.1 ++ t, ap (λ (x : List ℕ). x ++ t) first.2 ∙ append_assoc (gone_line l.0 l.1 first.0) first.1 t, lines_then ls ms first.1 t first.3 second)

some_none : (day : ℕ) (ls : List (ℕ × ℕ)) (h k : StoresValue) → k ≡ h → LeavesSome day ls h k
some_none day [] h k same = same
some_none day (l ∷ ls) h k same = inl (ap (without day l.0 l.1) same)

some_more : (day : ℕ) (ls ms : List (ℕ × ℕ)) (h k : StoresValue) → LeavesSome day ls h k → LeavesSome day (ls ++ ms) h k
some_more day [] ms h k same = some_none day ms h k same
some_more day (l ∷ ls) ms h k (inl rest) = inl rest
some_more day (l ∷ ls) ms h k (inr behind) = inr (some_more day ls ms (let_lane_go day l.0 l.1 h) k behind)

some_behind : (day : ℕ) (ls ms : List (ℕ × ℕ)) (h k : StoresValue) → LeavesSome day ms (let_lanes_go day ls h) k → LeavesSome day (ls ++ ms) h k
some_behind day [] ms h k some = some
some_behind day (l ∷ ls) ms h k some = inr (some_behind day ls ms (let_lane_go day l.0 l.1 h) k some)

-- what holds whatever came of a call
pub if_err : (r : Result (Unit {0}) DeskFault) (X : Type 0) → X → IfErr r (λ e. X)
if_err (Ok u) X x = tt
if_err (Err e) X x = x

-- the lanes up to a place and the others are all
pub devices_split : {X : Type 0} (owner : ℕ) (entries : List (ℕ × X)) (place device : ℕ) → id_at entries place ≡ Some device → (lanes_with owner (take place (keys_of entries)) ++ (owner, device) ∷ []) ++ lanes_with owner (drop (place + 1) (keys_of entries)) ≡ lanes_with owner (keys_of entries)
devices_split owner entries place device at =
    ap (λ (l : List (ℕ × ℕ)). l ++ lanes_with owner (drop (place + 1) (keys_of entries))) (sym (map-append (λ d. (owner, d)) (take place (keys_of entries)) (device ∷ [])) ∙ ap (lanes_with owner) (sym (keys_more entries place device at)))
    ∙ (sym (map-append (λ d. (owner, d)) (take (place + 1) (keys_of entries)) (drop (place + 1) (keys_of entries))) ∙ ap (lanes_with owner) (take-append-drop (place + 1) (keys_of entries)))

pub owners_split : {X : Type 0} (devices : List ℕ) (entries : List (ℕ × X)) (place owner : ℕ) → lanes_over (take place (keys_of entries)) devices ++ lanes_with owner devices ≡ lanes_over (take (place + 1) (keys_of entries)) devices
    → (lanes_over (take place (keys_of entries)) devices ++ lanes_with owner devices) ++ lanes_over (drop (place + 1) (keys_of entries)) devices ≡ lanes_over (keys_of entries) devices
owners_split devices entries place owner more =
    ap (λ (l : List (ℕ × ℕ)). l ++ lanes_over (drop (place + 1) (keys_of entries)) devices) more
    ∙ (sym (flat_map-append (λ o. lanes_with o devices) (take (place + 1) (keys_of entries)) (drop (place + 1) (keys_of entries))) ∙ ap (λ l. lanes_over l devices) (take-append-drop (place + 1) (keys_of entries)))

module _ {O L : Type 0} (outbox : O → Standing OutboxValue) (ledger : L → Standing LedgerValue) where
  -- ONE
  pub one_let_go : (old new : Hub O L) (day owner device : ℕ) (lane : LaneGone) (before after : Option (List ℕ)) (text : List ℕ) → text ≡ gone_line owner device lane → ComesOf outbox ledger old new (λ h k. (lane ≡ lane_gone day owner device h) × (k ≡ let_lane_go day owner device h))
      → (r : Result (Unit {0}) DeskFault) → OnOk r (Appends before after text) → OnOk r (LetsGo outbox ledger day ((owner, device) ∷ []) old new before after)
  one_let_go old new day owner device lane before after text is comes (Err f) w = tt
  one_let_go old new day owner device lane before after text is comes (Ok u) w = record {
    text = text;
    written = w;
    lines = (lane, [], is ∙ sym (append-nil (gone_line owner device lane)), refl);
    came = λ clean sound k may.
        let was = comes.came clean sound k may in
        let line : text ≡ gone_line owner device (lane_gone day owner device was.0) = is ∙ ap (gone_line owner device) was.2.0 in
        (was.0, was.1, line ∙ sym (append-nil (gone_line owner device (lane_gone day owner device was.0))), was.2.1);
  }

  pub one_rest : (old new : Hub O L) (day owner device : ℕ) → ComesOf outbox ledger old new (HasRest day owner device) → ComesOf outbox ledger old new (LeavesSome day ((owner, device) ∷ []))
  one_rest old new day owner device rest = comes_loosened outbox ledger old new (HasRest day owner device) (LeavesSome day ((owner, device) ∷ [])) (λ h k r. inl r) rest

  -- SEVERAL
  pub gone_then : (a b c : Hub O L) (day : ℕ) (ls ms : List (ℕ × ℕ)) (x y z : Option (List ℕ)) → GoesOnLettingGo outbox ledger a b → GoesOnLettingGo outbox ledger b c → LetsGo outbox ledger day ls a b x y → LetsGo outbox ledger day ms b c y z → LetsGo outbox ledger day (ls ++ ms) a c x z
  gone_then a b c day ls ms x y z f g first second = record {
    text = first.text ++ second.text;
    written = Appends-trans x y z first.text second.text first.written second.written;
    lines = lines_then ls ms first.text second.text first.lines second.lines;
    came = λ clean sound k may.
        let late = second.came clean (f.sound sound) k may in
        let early = first.came (clean_back outbox ledger b c g.follow clean) sound late.0 late.1 in (
          early.0,
          early.1,
          (λ i. early.2 i ++ late.2 i) ∙ (ap (λ m. gone_lines day ls early.0 ++ gone_lines day ms m) early.3 ∙ sym (text_then day ls ms early.0)),
          late.3 ∙ (ap (let_lanes_go day ms) early.3 ∙ sym (lanes_then day ls ms early.0)),
        );
  }

  pub record StandsOver (day : ℕ) (lanes : List (ℕ × ℕ)) (old now : Hub O L) (before after : Option (List ℕ)) : Type 0 where
    pub goes : GoesOnLettingGo outbox ledger old now
    pub gone : LetsGo outbox ledger day lanes old now before after

  pub over_none : (old : Hub O L) (day : ℕ) (before : Option (List ℕ)) → StandsOver day [] old old before before
  over_none old day before = record { goes = letting_self outbox ledger old; gone = record { text = []; written = Appends-nil before; lines = refl; came = λ clean sound k may. (k, may, refl, refl) } }

  pub over_more : (old now next : Hub O L) (day : ℕ) (lanes more all : List (ℕ × ℕ)) (x y z : Option (List ℕ)) → StandsOver day lanes old now x y → GoesOnLettingGo outbox ledger now next → LetsGo outbox ledger day more now next y z → lanes ++ more ≡ all → StandsOver day all old next x z
  over_more old now next day lanes more all x y z s g c is =
      subst (λ l. StandsOver day l old next x z) is (record { goes = letting_join outbox ledger old now next s.goes g; gone = gone_then old now next day lanes more x y z s.goes g s.gone c })

  -- and some of the next ones
  pub over_some : (old now next : Hub O L) (day : ℕ) (lanes more others all : List (ℕ × ℕ)) (x y : Option (List ℕ)) → StandsOver day lanes old now x y → GoesOnLettingGo outbox ledger now next → ComesOf outbox ledger now next (LeavesSome day more) → (lanes ++ more) ++ others ≡ all → ComesOf outbox ledger old next (LeavesSome day all)
  over_some old now next day lanes more others all x y s g some is = record {
    came = λ clean sound k may.
        let late = some.came clean (s.goes.sound sound) k may in
        let early = s.gone.came (clean_back outbox ledger now next g.follow clean) sound late.0 late.1 in
        let there = subst (λ m. LeavesSome day more m k) early.3 late.2 in
        (early.0, early.1, subst (λ l. LeavesSome day l early.0 k) is (some_more day (lanes ++ more) others early.0 k (some_behind day lanes more early.0 k there)));
  }
