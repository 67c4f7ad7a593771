-- Lines of lanes and devices, one after the other.
use Rattle.std.proofs.Common.{◌≡◌, ℕ, Bool, ◌+◌, List, [], ◌∷◌, ◌++◌, length, take, Some, refl, sym, ap, ◌∙◌, subst, append_assoc, append-nil}
use Rattle.std.proofs.lemmas.Grind.{flat_map-append}
use Rattle.fare_store.specs.Standing.{Standing}
use Rattle.fare_store.specs.OutboxWords.{OutboxValue}
use Rattle.fare_store.specs.LedgerWords.{LedgerValue}
use Rattle.fare_history.specs.Stores.{StoresValue}
use Rattle.fare_sessions.specs.declared.hub.Hub.{Hub}
use Rattle.fare_sessions.specs.Stores.{AreClean, AreSound, MayStandAs}
use Rattle.fare_desk.specs.declared.standing.Lane.{Lane}
use Rattle.std.specs.Prelude.{Option, Result, Ok, Err, OnOk}
use Rattle.std.specs.Io.KnownBytes.{Appends}
use Rattle.std.specs.Map.{keys_of}
use Rattle.fare_desk.specs.Closing.{lanes_of, lanes_with}
use Rattle.fare_desk.specs.declared.fault.DeskFault.{DeskFault}
use Rattle.fare_scheme.specs.Values.{SchemeValue}
use Rattle.fare_scheme.specs.Words.{id_at}
use Rattle.fare_store.specs.LedgerWords.{closed_through}
use Rattle.fare_sessions.specs.Billing.{day_behind, first_unclosed}
use Rattle.fare_sessions.proofs.NextClose.{behind_last}
use Rattle.fare_desk.specs.Showing.{AddsLanes, AddsUptos, AreLaneLines, AreUptoLines, HasFrom, IsLane, OnlyAsks, ShowsLanes, WritesStanding, lane_line, stated_days, upto_line, uptos_text}
use Rattle.fare_desk.proofs.Asked.{asks_self, asks_join}
use Rattle.fare_desk.proofs.Lanes.{devices_more, lanes_over, owners_more}
use Rattle.fare_sessions.proofs.Follow.{clean_back}

shows_then : (ls ms : List (ℕ × ℕ)) (h : StoresValue) (s t : List ℕ) → ShowsLanes ls h s → ShowsLanes ms h t → ShowsLanes (ls ++ ms) h (s ++ t)
shows_then [] ms h s t first second = subst (λ (x : List ℕ). ShowsLanes ms h (x ++ t)) (sym first) second
shows_then (l ∷ ls) ms h s t first second = (first.0, first.1 ++ t, first.2, ap (λ (x : List ℕ). x ++ t) first.3 ∙ append_assoc (lane_line l.0 l.1 first.0) first.1 t, shows_then ls ms h first.1 t first.4 second)

lane_lines_then : (ls ms : List (ℕ × ℕ)) (s t : List ℕ) → AreLaneLines ls s → AreLaneLines ms t → AreLaneLines (ls ++ ms) (s ++ t)
lane_lines_then [] ms s t first second = subst (λ (x : List ℕ). AreLaneLines ms (x ++ t)) (sym first) second
lane_lines_then (l ∷ ls) ms s t first second = (first.0, first.1 ++ t, ap (λ (x : List ℕ). x ++ t) first.2 ∙ append_assoc (lane_line l.0 l.1 first.0) first.1 t, lane_lines_then ls ms first.1 t first.3 second)

upto_lines_then : (ds es : List ℕ) (s t : List ℕ) → AreUptoLines ds s → AreUptoLines es t → AreUptoLines (ds ++ es) (s ++ t)
upto_lines_then [] es s t first second = subst (λ (x : List ℕ). AreUptoLines es (x ++ t)) (sym first) second
upto_lines_then (d ∷ ds) es s t first second = (first.0, first.1 ++ t, ap (λ (x : List ℕ). x ++ t) first.2 ∙ append_assoc (upto_line d first.0) first.1 t, upto_lines_then ds es first.1 t first.3 second)

module _ {O L : Type 0} (outbox : O → Standing OutboxValue) (ledger : L → Standing LedgerValue) where
  -- LANES
  pub lanes_none : (hub : Hub O L) (before : List ℕ) → AddsLanes outbox ledger [] hub hub before before
  lanes_none hub before = record { asks = asks_self outbox ledger hub; text = []; grown = sym (append-nil before); lines = refl; shown = λ clean sound h may. refl }

  pub lanes_then : (a b c : Hub O L) (ls ms : List (ℕ × ℕ)) (x y z : List ℕ) → AddsLanes outbox ledger ls a b x y → AddsLanes outbox ledger ms b c y z → AddsLanes outbox ledger (ls ++ ms) a c x z
  lanes_then a b c ls ms x y z f g = record {
    asks = asks_join outbox ledger a b c f.asks g.asks;
    text = f.text ++ g.text;
    grown = g.grown ∙ (ap (λ (l : List ℕ). l ++ g.text) f.grown ∙ append_assoc x f.text g.text);
    lines = lane_lines_then ls ms f.text g.text f.lines g.lines;
    shown = λ clean sound h may.
        let before = clean_back outbox ledger b c g.asks.follow clean in
        shows_then ls ms h f.text g.text (f.shown before sound h (g.asks.same clean (f.asks.sound sound) h may)) (g.shown clean (f.asks.sound sound) h may);
  }

  pub lane_one : (a b : Hub O L) (owner device : ℕ) (lane : Lane) (x y : List ℕ) → OnlyAsks outbox ledger a b → (AreClean outbox ledger b → AreSound outbox ledger a → (h : StoresValue) → MayStandAs outbox ledger b h → IsLane h owner device lane) → y ≡ x ++ lane_line owner device lane
      → AddsLanes outbox ledger ((owner, device) ∷ []) a b x y
  lane_one a b owner device lane x y asks tells is = record {
    asks = asks;
    text = lane_line owner device lane;
    grown = is;
    lines = (lane, [], sym (append-nil (lane_line owner device lane)), refl);
    shown = λ clean sound h may. (lane, [], tells clean sound h may, sym (append-nil (lane_line owner device lane)), refl);
  }

  -- one lane more of an owner's, and one owner's lanes more
  pub lanes_more : (owner place device : ℕ) (a b c : Hub O L) (lane : Lane) (x y z : List ℕ) → id_at b.scheme.devices place ≡ Some device → AddsLanes outbox ledger (lanes_with owner (take place (keys_of a.scheme.devices))) a b x y
      → OnlyAsks outbox ledger b c → (AreClean outbox ledger c → AreSound outbox ledger b → (h : StoresValue) → MayStandAs outbox ledger c h → IsLane h owner device lane) → z ≡ y ++ lane_line owner device lane
      → AddsLanes outbox ledger (lanes_with owner (take (place + 1) (keys_of a.scheme.devices))) a c x z
  lanes_more owner place device a b c lane x y z at s asks tells grown =
      let here : id_at a.scheme.devices place ≡ Some device = ap (λ (sc : SchemeValue). id_at sc.devices place) (sym s.asks.scheme) ∙ at in
      subst (λ (l : List (ℕ × ℕ)). AddsLanes outbox ledger l a c x z) (devices_more owner a.scheme.devices place device here)
      (lanes_then a b c (lanes_with owner (take place (keys_of a.scheme.devices))) ((owner, device) ∷ []) x y z s (lane_one b c owner device lane y z asks tells grown))

  pub owner_more : (place owner : ℕ) (a b c : Hub O L) (x y z : List ℕ) → id_at b.scheme.owners place ≡ Some owner → AddsLanes outbox ledger (lanes_over (take place (keys_of a.scheme.owners)) (keys_of a.scheme.devices)) a b x y
      → AddsLanes outbox ledger (lanes_with owner (keys_of b.scheme.devices)) b c y z → AddsLanes outbox ledger (lanes_over (take (place + 1) (keys_of a.scheme.owners)) (keys_of a.scheme.devices)) a c x z
  owner_more place owner a b c x y z at s one =
      let ds = keys_of a.scheme.devices in
      let here : id_at a.scheme.owners place ≡ Some owner = ap (λ (sc : SchemeValue). id_at sc.owners place) (sym s.asks.scheme) ∙ at in
      let own : AddsLanes outbox ledger (lanes_with owner ds) b c y z = subst (λ (sc : SchemeValue). AddsLanes outbox ledger (lanes_with owner (keys_of sc.devices)) b c y z) s.asks.scheme one in
      subst (λ (l : List (ℕ × ℕ)). AddsLanes outbox ledger l a c x z) (owners_more ds a.scheme.owners place owner here)
      (lanes_then a b c (lanes_over (take place (keys_of a.scheme.owners)) ds) (lanes_with owner ds) x y z s own)

  -- where a lane stands, by five questions
  pub lane_is : (a b c d e z : Hub O L) (owner device taken rows statements from : ℕ) (closed : Option ℕ) (retired : Bool) → OnlyAsks outbox ledger a b → OnlyAsks outbox ledger b c → OnlyAsks outbox ledger c d → OnlyAsks outbox ledger d e → OnlyAsks outbox ledger e z
      → (AreClean outbox ledger b → AreSound outbox ledger a → (h : StoresValue) → MayStandAs outbox ledger a h → ((h.ledgers owner).start ≡ a.scheme.start) × ((taken ≡ length ((h.ledgers owner).taken device)) × (closed ≡ closed_through (h.ledgers owner) device)))
      → (AreClean outbox ledger c → AreSound outbox ledger b → (h : StoresValue) → MayStandAs outbox ledger b h → HasFrom (h.outbox.rows owner device) (taken + 1) rows)
      → (AreClean outbox ledger d → AreSound outbox ledger c → (h : StoresValue) → MayStandAs outbox ledger c h → HasFrom (stated_days h.outbox owner device) (day_behind closed c.scheme.start) statements)
      → (AreClean outbox ledger e → AreSound outbox ledger d → (h : StoresValue) → MayStandAs outbox ledger d h → from ≡ (h.ledgers owner).from device)
      → (AreClean outbox ledger z → AreSound outbox ledger e → (h : StoresValue) → MayStandAs outbox ledger e h → (h.ledgers owner).retired device ≡ retired)
      → AreClean outbox ledger z → AreSound outbox ledger a → (h : StoresValue) → MayStandAs outbox ledger z h → IsLane h owner device (record { taken = taken; closed = closed; rows = rows; statements = statements; from = from; retired = retired })
  lane_is a b c d e z owner device taken rows statements from closed retired f g k l p first second third fourth fifth clean sound h may =
      let sound_b = f.sound sound in
      let sound_c = g.sound sound_b in
      let sound_d = k.sound sound_c in
      let sound_e = l.sound sound_d in
      let clean_e = clean_back outbox ledger e z p.follow clean in
      let clean_d = clean_back outbox ledger d e l.follow clean_e in
      let clean_c = clean_back outbox ledger c d k.follow clean_d in
      let clean_b = clean_back outbox ledger b c g.follow clean_c in
      let may_e = p.same clean sound_e h may in
      let may_d = l.same clean_e sound_d h may_e in
      let may_c = k.same clean_d sound_c h may_d in
      let may_b = g.same clean_c sound_b h may_c in
      let may_a = f.same clean_b sound h may_b in
      let t = first clean_b sound h may_a in
      let v = h.ledgers owner in
      let start : c.scheme.start ≡ v.start = ap (λ (sc : SchemeValue). sc.start) (g.scheme ∙ f.scheme) ∙ sym t.0 in
      let day : day_behind closed c.scheme.start ≡ first_unclosed v device = (λ i. day_behind (t.1.1 i) (start i)) ∙ behind_last v device in
      record {
        taken = t.1.0;
        closed = t.1.1;
        rows = subst (λ n. HasFrom (h.outbox.rows owner device) (n + 1) rows) t.1.0 (second clean_c sound_b h may_b);
        statements = subst (λ n. HasFrom (stated_days h.outbox owner device) n statements) day (third clean_d sound_c h may_c);
        from = fourth clean_e sound_d h may_d;
        retired = sym (fifth clean sound_e h may_e);
      }

  -- DEVICES
  pub uptos_none : (hub : Hub O L) (before : List ℕ) → AddsUptos outbox ledger [] hub hub before before
  uptos_none hub before = record { asks = asks_self outbox ledger hub; text = []; grown = sym (append-nil before); lines = refl; shown = λ clean sound h may. refl }

  pub upto_then : (a b c : Hub O L) (ds : List ℕ) (device upto : ℕ) (x y z : List ℕ) → AddsUptos outbox ledger ds a b x y → OnlyAsks outbox ledger b c → (AreClean outbox ledger c → AreSound outbox ledger b → (h : StoresValue) → MayStandAs outbox ledger b h → upto ≡ h.outbox.upto device) → z ≡ y ++ upto_line device upto
      → AddsUptos outbox ledger (ds ++ device ∷ []) a c x z
  upto_then a b c ds device upto x y z f asks tells is = record {
    asks = asks_join outbox ledger a b c f.asks asks;
    text = f.text ++ upto_line device upto;
    grown = is ∙ (ap (λ (l : List ℕ). l ++ upto_line device upto) f.grown ∙ append_assoc x f.text (upto_line device upto));
    lines = upto_lines_then ds (device ∷ []) f.text (upto_line device upto) f.lines (upto, [], sym (append-nil (upto_line device upto)), refl);
    shown = λ clean sound h may.
        let before = clean_back outbox ledger b c asks.follow clean in
        let was = asks.same clean (f.asks.sound sound) h may in
        ap (λ (l : List ℕ). l ++ upto_line device upto) (f.shown before sound h was)
        ∙ (ap (λ (n : ℕ). uptos_text ds h.outbox ++ upto_line device n) (tells clean (f.asks.sound sound) h was)
        ∙ (ap (λ (l : List ℕ). uptos_text ds h.outbox ++ l) (sym (append-nil (upto_line device (h.outbox.upto device)))) ∙ sym (flat_map-append (λ d. upto_line d (h.outbox.upto d)) ds (device ∷ []))));
  }

  -- ALL
  pub standing_written : (a b c : Hub O L) (x y z : List ℕ) (before after : Option (List ℕ)) → x ≡ [] → AddsUptos outbox ledger (keys_of a.scheme.devices) a b x y → AddsLanes outbox ledger (lanes_of b.scheme) b c y z
      → (text : List ℕ) → text ≡ z → (r : Result (Unit {0}) DeskFault) → OnOk r (Appends before after text) → OnOk r (WritesStanding outbox ledger a c before after)
  standing_written a b c x y z before after none f g text is (Err fault) w = tt
  standing_written a b c x y z before after none f g text is (Ok u) w = record {
    uptos = f.text;
    lanes = g.text;
    written = subst (Appends before after) (is ∙ (g.grown ∙ ap (λ (l : List ℕ). l ++ g.text) (f.grown ∙ ap (λ (l : List ℕ). l ++ f.text) none))) w;
    upto_lines = f.lines;
    lane_lines = subst (λ (sc : SchemeValue). AreLaneLines (lanes_of sc) g.text) f.asks.scheme g.lines;
    uptos_are = λ clean sound h may. f.shown (clean_back outbox ledger b c g.asks.follow clean) sound h (g.asks.same clean (f.asks.sound sound) h may);
    lanes_are = λ clean sound h may. subst (λ (sc : SchemeValue). ShowsLanes (lanes_of sc) h g.text) f.asks.scheme (g.shown clean (f.asks.sound sound) h may);
  }
