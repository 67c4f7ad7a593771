-- What stays of a hub's stores from session to session.
use Rattle.std.proofs.Common.{◌≡◌, ℕ, zero, suc, ◌<◌, List, [], ◌∷◌, length, Some, Bool, true, false, refl, sym, ap, ◌∙◌, subst, arith, inl, inr}
use Rattle.std.specs.Prelude.{◌⊎◌, ◌≢◌, ◌==◌, slice_get, Option, Vec}
use Rattle.std.specs.Global.{Global}
use Rattle.std.specs.List.{AllByRecursion}
use Rattle.fare_record.specs.declared.item.Item.{Item}
use Rattle.fare_record.specs.declared.item.Item.TheVariants as item
use Rattle.fare_scheme.specs.Values.{SchemeValue}
use Rattle.fare_scheme.specs.Words.{position_of_owner}
use Rattle.fare_source.specs.Talking.{Talk}
use Rattle.fare_store.specs.Standing.{Standing}
use Rattle.fare_store.specs.OutboxWords.{OutboxValue}
use Rattle.fare_store.specs.LedgerWords.{LedgerValue, IsOfScheme, took, with_statement}
use Rattle.fare_history.specs.Serving.{given_all}
use Rattle.fare_store.proofs.Entries.{is_one, is_self}
use Rattle.fare_history.proofs.Entries.{element_at}
use Rattle.fare_session.specs.Stores.{Follows}
use Rattle.fare_session.specs.Served.{AreFit}
use Rattle.fare_collect.specs.declared.station.Station.{Station}
use Rattle.fare_collect.specs.Collected.{IsFitting}
use Rattle.fare_sessions.specs.declared.hub.Hub.{Hub}
use Rattle.fare_sessions.specs.declared.session.Session.{Session}
use Rattle.fare_sessions.specs.declared.session.Session.TheVariants.{Collect, Serve}
use Rattle.fare_sessions.specs.Course.{Counts, Tally}
use Rattle.fare_sessions.specs.Stores.{IsLedgerOf, ReplacesLedger, EachStore, AreClean, AreLive, AreSound, StoresFollow}
use Rattle.fare_sessions.specs.Running.{HasCollected, HasServed, HasRun, HaveRun}

-- PLACES
pub same_at : {X : Type 0} (xs ys : List X) (place : ℕ) (x y : X) → slice_get xs place ≡ Some x → slice_get ys place ≡ Some y → slice_get ys place ≡ slice_get xs place → y ≡ x
same_at {X} xs ys place x y at_x at_y same = let both : ◌≡◌ {A = Option X} (Some y) (Some x) = sym at_y ∙ (same ∙ at_x) in cc

pub has_place : {X : Type 0} (xs : List X) (place : ℕ) (x : X) → slice_get xs place ≡ Some x → place < length xs
has_place [] place x at = absurd (cc)
has_place (y ∷ xs) zero x at = omega arith
has_place (y ∷ xs) (suc place) x at = let lt = has_place xs place x at in omega (arith, lt)

pub all_at : {X : Type 0} (P : X → Type 0) (xs : List X) → AllByRecursion P xs → (place : ℕ) (x : X) → slice_get xs place ≡ Some x → P x
all_at P [] all place x at = absurd (cc)
all_at P (y ∷ xs) all zero x at = let same : y ≡ x = cc in subst P same all.0
all_at P (y ∷ xs) all (suc place) x at = all_at P xs all.1 place x at

pub not_one : (a b : ℕ) → (a == b) ≡ false → a ≢ b
not_one a b e same = let self : (a == b) ≡ true = ap (λ n. a == n) (sym same) ∙ is_self a in let both : true ≡ false = sym self ∙ e in absurd (cc)

-- THE LEDGER OF AN OWNER
pub given_made : (l : LedgerValue) (items : List Item) → ((given_all l items).owner ≡ l.owner) × ((given_all l items).start ≡ l.start) × ((given_all l items).knows ≡ l.knows)
given_made l [] = (refl, refl, refl)
given_made l (item.Tap r ∷ is) = given_made (took r l) is
given_made l (item.Stated v ∷ is) = given_made (with_statement v l) is

-- a ledger is an owner's, made with a scheme
abbrev pub IsOwn : SchemeValue → ℕ → LedgerValue → Type 0
IsOwn sc owner v = (v.owner ≡ owner) × IsOfScheme sc v

follows_self : {V : Type 0} (s : Standing V) → Follows s s
follows_self s = record { clean = λ c. c; live = λ l. l; lawful = λ l is. is; lasts = λ clean lawful lasting. lasting }

follows_join : {V : Type 0} (s t u : Standing V) → Follows s t → Follows t u → Follows s u
follows_join s t u f g = record {
  clean = λ c. f.clean (g.clean c);
  live = λ l. f.live (g.live l);
  lawful = λ l is. g.lawful l (f.lawful (g.live l) is);
  lasts = λ clean lawful lasting. g.lasts clean (λ l. f.lawful l (lawful (f.live l))) (f.lasts (g.clean clean) lawful lasting);
}

module _ {O L : Type 0} (outbox : O → Standing OutboxValue) (ledger : L → Standing LedgerValue) where
  same_ledgers : (old new : Hub O L) → new.ledgers ≡ old.ledgers → (place : ℕ) (x y : L) → slice_get old.ledgers.items place ≡ Some x → slice_get new.ledgers.items place ≡ Some y → y ≡ x
  same_ledgers old new same place x y at_x at_y = same_at old.ledgers.items new.ledgers.items place x y at_x at_y (ap (λ (v : Vec L Global). slice_get v.items place) same)

  pub replaced : (old new : Hub O L) (owner : ℕ) (r : ReplacesLedger old new owner) (place : ℕ) (x y : L) → slice_get old.ledgers.items place ≡ Some x → slice_get new.ledgers.items place ≡ Some y
      → ((place ≡ r.place) × (x ≡ r.own_old) × (y ≡ r.own_new)) ⊎ ((place ≢ r.place) × (y ≡ x))
  replaced old new owner r place x y at_x at_y = by (place == r.place) refl
    where
      by : (b : Bool) → (place == r.place) ≡ b → ((place ≡ r.place) × (x ≡ r.own_old) × (y ≡ r.own_new)) ⊎ ((place ≢ r.place) × (y ≡ x))
      by true e =
          let here = is_one place r.place e in
          inl (here, same_at old.ledgers.items old.ledgers.items place r.own_old x (ap (slice_get old.ledgers.items) here ∙ r.was) at_x refl, same_at new.ledgers.items new.ledgers.items place r.own_new y (ap (slice_get new.ledgers.items) here ∙ r.is) at_y refl)
      by false e = let apart = not_one place r.place e in inr (apart, same_at old.ledgers.items new.ledgers.items place x y at_x at_y (r.others place apart))

  pub replaced_follow : (old new : Hub O L) (owner : ℕ) (r : ReplacesLedger old new owner) → Follows (outbox old.outbox) (outbox new.outbox) → Follows (ledger r.own_old) (ledger r.own_new) → StoresFollow outbox ledger old new
  replaced_follow old new owner r follows own = record {
    outbox_follows = follows;
    count = r.count;
    ledgers_follow = λ place x y at_x at_y. by place x y (replaced old new owner r place x y at_x at_y);
  }
    where
      by : (place : ℕ) (x y : L) → ((place ≡ r.place) × (x ≡ r.own_old) × (y ≡ r.own_new)) ⊎ ((place ≢ r.place) × (y ≡ x)) → Follows (ledger x) (ledger y)
      by place x y (inl is) = subst (λ (z : L × L). Follows (ledger z.0) (ledger z.1)) (λ i. (sym is.1 i, sym is.2 i)) own
      by place x y (inr is) = subst (λ z. Follows (ledger x) (ledger z)) (sym is.1) (follows_self (ledger x))

  pub follow_self : (hub : Hub O L) → StoresFollow outbox ledger hub hub
  follow_self hub = record {
    outbox_follows = follows_self (outbox hub.outbox);
    count = refl;
    ledgers_follow = λ place x y at_x at_y. subst (λ z. Follows (ledger x) (ledger z)) (sym (same_at hub.ledgers.items hub.ledgers.items place x y at_x at_y refl)) (follows_self (ledger x));
  }

  pub follow_join : (a b c : Hub O L) → StoresFollow outbox ledger a b → StoresFollow outbox ledger b c → StoresFollow outbox ledger a c
  follow_join a b c f g = record {
    outbox_follows = follows_join (outbox a.outbox) (outbox b.outbox) (outbox c.outbox) f.outbox_follows g.outbox_follows;
    count = g.count ∙ f.count;
    ledgers_follow = λ place x y at_x at_y.
        let lt = has_place a.ledgers.items place x at_x in
        let n = f.count in
        let m = element_at b.ledgers.items place (omega (arith, lt, n)) in
        follows_join (ledger x) (ledger m.0) (ledger y) (f.ledgers_follow place x m.0 at_x m.1) (g.ledgers_follow place m.0 y m.1 at_y);
  }

  -- what is clean or live now was so before
  pub clean_back : (old new : Hub O L) → StoresFollow outbox ledger old new → AreClean outbox ledger new → AreClean outbox ledger old
  clean_back old new f is = record {
    outbox_is = f.outbox_follows.clean is.outbox_is;
    ledgers_are = λ place x at.
        let lt = has_place old.ledgers.items place x at in
        let n = f.count in
        let y = element_at new.ledgers.items place (omega (arith, lt, n)) in
        (f.ledgers_follow place x y.0 at y.1).clean (is.ledgers_are place y.0 y.1);
  }

  pub live_back : (old new : Hub O L) → StoresFollow outbox ledger old new → AreLive outbox ledger new → AreLive outbox ledger old
  live_back old new f is = record {
    outbox_is = f.outbox_follows.live is.outbox_is;
    ledgers_are = λ place x at.
        let lt = has_place old.ledgers.items place x at in
        let n = f.count in
        let y = element_at new.ledgers.items place (omega (arith, lt, n)) in
        (f.ledgers_follow place x y.0 at y.1).live (is.ledgers_are place y.0 y.1);
  }

  lawful_on : (old new : Hub O L) → StoresFollow outbox ledger old new → AreSound outbox ledger old → EachStore outbox ledger (λ s. s.live → s.lawful) (λ s. s.live → s.lawful) new
  lawful_on old new f sound = record {
    outbox_is = λ live. f.outbox_follows.lawful live (sound.lawful.outbox_is (f.outbox_follows.live live));
    ledgers_are = λ place y at live.
        let lt = has_place new.ledgers.items place y at in
        let n = f.count in
        let x = element_at old.ledgers.items place (omega (arith, lt, n)) in
        let g = f.ledgers_follow place x.0 y x.1 at in
        g.lawful live (sound.lawful.ledgers_are place x.0 x.1 (g.live live));
  }

  -- where the ledger that was replaced is still whose it was, all are
  pub replaced_sound : (old new : Hub O L) (owner : ℕ) (r : ReplacesLedger old new owner) → StoresFollow outbox ledger old new → AreSound outbox ledger old
      → ((other : ℕ) → (ledger r.own_new).live → IsOwn old.scheme other (ledger r.own_old).value → IsOwn old.scheme other (ledger r.own_new).value) → AreSound outbox ledger new
  replaced_sound old new owner r f sound still = record { lawful = lawful_on old new f sound; own = own }
    where
      own : (other : ℕ) (y : L) → IsLedgerOf new other y → (ledger y).live → IsOwn new.scheme other (ledger y).value
      own other y of live = subst (λ sc. IsOwn sc other (ledger y).value) (sym r.scheme) (by (replaced old new owner r of.0 x.0 y x.1 of.2))
        where
          placed : position_of_owner old.scheme other ≡ Some of.0
          placed = ap (λ sc. position_of_owner sc other) (sym r.scheme) ∙ of.1

          x : (x : L) × (slice_get old.ledgers.items of.0 ≡ Some x)
          x = let lt = has_place new.ledgers.items of.0 y of.2 in let n = r.count in element_at old.ledgers.items of.0 (omega (arith, lt, n))

          was : IsOwn old.scheme other (ledger x.0).value
          was = sound.own other x.0 (of.0, placed, x.1) ((f.ledgers_follow of.0 x.0 y x.1 of.2).live live)

          by : ((of.0 ≡ r.place) × (x.0 ≡ r.own_old) × (y ≡ r.own_new)) ⊎ ((of.0 ≢ r.place) × (y ≡ x.0)) → IsOwn old.scheme other (ledger y).value
          by (inl is) = subst (λ z. IsOwn old.scheme other (ledger z).value) (sym is.2) (still other (subst (λ z. (ledger z).live) is.2 live) (subst (λ z. IsOwn old.scheme other (ledger z).value) is.1 was))
          by (inr is) = subst (λ z. IsOwn old.scheme other (ledger z).value) (sym is.1) was

module _ {S O L : Type 0} (talks : S → Talk) (outbox : O → Standing OutboxValue) (ledger : L → Standing LedgerValue) where
  -- FOLLOWING
  pub ran_scheme : (old new : Hub O L) (s r : Session S) (c : Counts) → HasRun talks outbox ledger old new s r c → new.scheme ≡ old.scheme
  ran_scheme old new (Collect b) (Collect a) c h = h.scheme
  ran_scheme old new (Collect b) (Serve o) c h = absurd h
  ran_scheme old new (Serve o) (Serve p) c h = h.1.one.scheme
  ran_scheme old new (Serve o) (Collect a) c h = absurd h

  collected_follow : (old new : Hub O L) (b a : List (Station S)) (c : Counts) → HasCollected talks outbox old new b a c → Follows (outbox old.outbox) (outbox new.outbox)
  collected_follow old new b a c h = elim h.came [
    | inl is ↦ is.1.follows
    | inr is ↦ subst (λ x. Follows (outbox old.outbox) (outbox x)) (sym is.0) (follows_self (outbox old.outbox))
  ]

  served_follow : (old new : Hub O L) (owner : ℕ) (c : Counts) → HasServed outbox ledger old new owner c → StoresFollow outbox ledger old new
  served_follow old new owner c h = replaced_follow outbox ledger old new owner h.one h.served.outbox_follows h.served.ledger_follows

  pub ran_follow : (old new : Hub O L) (s r : Session S) (c : Counts) → HasRun talks outbox ledger old new s r c → StoresFollow outbox ledger old new
  ran_follow old new (Collect b) (Collect a) c h = record {
    outbox_follows = collected_follow old new b.items a.items c h;
    count = ap (λ (v : Vec L Global). length v.items) h.ledgers;
    ledgers_follow = λ place x y at_x at_y. subst (λ z. Follows (ledger x) (ledger z)) (sym (same_ledgers outbox ledger old new h.ledgers place x y at_x at_y)) (follows_self (ledger x));
  }
  ran_follow old new (Collect b) (Serve o) c h = absurd h
  ran_follow old new (Serve o) (Serve p) c h = served_follow old new o c h.1
  ran_follow old new (Serve o) (Collect a) c h = absurd h

  -- WHAT FITS TOGETHER
  pub fitting : (old new : Hub O L) → AreClean outbox ledger new → AreSound outbox ledger old → IsFitting (outbox old.outbox) (outbox new.outbox)
  fitting old new clean sound = record { clean = clean.outbox_is; lawful = sound.lawful.outbox_is }

  pub fit : (old new : Hub O L) (owner : ℕ) (c : Counts) (h : HasServed outbox ledger old new owner c) → AreClean outbox ledger new → AreSound outbox ledger old → AreFit old.scheme owner (outbox old.outbox) (outbox new.outbox) (ledger h.one.own_old) (ledger h.one.own_new)
  fit old new owner c h clean sound = record {
    outbox = clean.outbox_is;
    ledger = clean.ledgers_are h.one.place h.one.own_new h.one.is;
    rows = sound.lawful.outbox_is;
    lists = sound.lawful.ledgers_are h.one.place h.one.own_old h.one.was;
    mine = sound.own owner h.one.own_old (h.one.place, h.one.at, h.one.was);
  }

  served_sound : (old new : Hub O L) (owner : ℕ) (c : Counts) → HasServed outbox ledger old new owner c → AreClean outbox ledger new → AreSound outbox ledger old → AreSound outbox ledger new
  served_sound old new owner c h clean sound = replaced_sound outbox ledger old new owner h.one (served_follow old new owner c h) sound (λ other live was. by other was (h.served.ledger_holds (fit old new owner c h clean sound) live))
    where
      by : (other : ℕ) → IsOwn old.scheme other (ledger h.one.own_old).value → (ledger h.one.own_new).value ≡ given_all (ledger h.one.own_old).value h.served.v.taken → IsOwn old.scheme other (ledger h.one.own_new).value
      by other was is =
          let made = given_made (ledger h.one.own_old).value h.served.v.taken in
          subst (IsOwn old.scheme other) (sym is)
          (made.0 ∙ was.0, record { start = made.1 ∙ was.1.start; knows = λ device. ap (λ (f : ℕ → Bool). f device) made.2 ∙ was.1.knows device })

  pub ran_sound : (old new : Hub O L) (s r : Session S) (c : Counts) → HasRun talks outbox ledger old new s r c → AreClean outbox ledger new → AreSound outbox ledger old → AreSound outbox ledger new
  ran_sound old new (Collect b) (Collect a) c h clean sound = record {
    lawful = lawful_on outbox ledger old new (ran_follow old new (Collect b) (Collect a) c h) sound;
    own = λ owner y of live.
        let was = sound.own owner y (of.0, ap (λ sc. position_of_owner sc owner) (sym h.scheme) ∙ of.1, ap (λ (v : Vec L Global). slice_get v.items of.0) (sym h.ledgers) ∙ of.2) live in
        (was.0, subst (λ sc. IsOfScheme sc (ledger y).value) (sym h.scheme) was.1);
  }
  ran_sound old new (Collect b) (Serve o) c h clean sound = absurd h
  ran_sound old new (Serve o) (Serve p) c h clean sound = served_sound old new o c h.1 clean sound
  ran_sound old new (Serve o) (Collect a) c h clean sound = absurd h

  -- A LIST OF SESSIONS
  pub run_scheme : (start : Hub O L) (olds news : List (Session S)) (n : ℕ) (now : Hub O L) (t : Tally) → HaveRun talks outbox ledger start olds news n now t → now.scheme ≡ start.scheme
  run_scheme start olds news zero now t h = ap (λ (hub : Hub O L). hub.scheme) h.0
  run_scheme start olds news (suc n) now t h = ran_scheme h.0 now h.4.before h.4.after h.2 h.4.ran ∙ run_scheme start olds news n h.0 h.1 h.3

  pub run_follow : (start : Hub O L) (olds news : List (Session S)) (n : ℕ) (now : Hub O L) (t : Tally) → HaveRun talks outbox ledger start olds news n now t → StoresFollow outbox ledger start now
  run_follow start olds news zero now t h = subst (StoresFollow outbox ledger start) (sym h.0) (follow_self outbox ledger start)
  run_follow start olds news (suc n) now t h = follow_join outbox ledger start h.0 now (run_follow start olds news n h.0 h.1 h.3) (ran_follow h.0 now h.4.before h.4.after h.2 h.4.ran)

  pub run_sound : (start : Hub O L) (olds news : List (Session S)) (n : ℕ) (now : Hub O L) (t : Tally) → HaveRun talks outbox ledger start olds news n now t → AreClean outbox ledger now → AreSound outbox ledger start → AreSound outbox ledger now
  run_sound start olds news zero now t h clean sound = subst (AreSound outbox ledger) (sym h.0) sound
  run_sound start olds news (suc n) now t h clean sound =
      ran_sound h.0 now h.4.before h.4.after h.2 h.4.ran clean (run_sound start olds news n h.0 h.1 h.3 (clean_back outbox ledger h.0 now (ran_follow h.0 now h.4.before h.4.after h.2 h.4.ran) clean) sound)
