-- What the databases of a hub's stores hold behind what was done with the hub.
use Rattle.std.proofs.Common.{◌≡◌, ◌<◌, ◌≤◌, ◌++◌, ℕ, List, [], Some, true, false, length, refl, sym, ap, ◌∙◌, subst, arith, inl, inr}
use Rattle.std.specs.Prelude.{None, Option, is_some, slice_get}
use Rattle.sqlite_trees.specs.Tree.{Trees}
use Rattle.sqlite_trees.specs.declared.store.Store.{Ghosts}
use Rattle.sqlite.specs.Held.{Held, state}
use Rattle.sqlite.specs.State.{HasCleanDisk}
use Rattle.fare_record.specs.Values.{RecordValue}
use Rattle.fare_scheme.specs.Facts.{IsScheme}
use Rattle.fare_scheme.specs.Values.{SchemeValue}
use Rattle.fare_scheme.specs.Words.{id_at, position_of_owner}
use Rattle.fare_scheme.proofs.Known.{positions}
use Rattle.fare_store.specs.Standing.{Standing}
use Rattle.fare_store.specs.OutboxWords.{OutboxValue}
use Rattle.fare_store.specs.LedgerWords.{LedgerValue, IsOfScheme}
use Rattle.fare_outbox.specs.Words as outbox_words
use Rattle.fare_outbox.specs.declared.tables.SqlOutbox.{SqlOutbox}
use Rattle.fare_ledger.specs.Known.{knows}
use Rattle.fare_ledger.specs.Words as ledger_words
use Rattle.fare_ledger.specs.declared.tables.SqlLedger.{SqlLedger}
use Rattle.fare_world.specs.Knowing.{knows_owner}
use Rattle.fare_world.specs.Headline.{IsPrefixOf}
use Rattle.fare_history.specs.Stores.{StoresValue}
use Rattle.fare_history.proofs.Entries.{element_at}
use Rattle.fare_agreement.specs.Agreeing.{Agrees}
use Rattle.fare_agreement.specs.Growing.{OutboxGrew, LedgerGrew, StoresLast}
use Rattle.fare_agreement.proofs.Takes.{ledger_self}
use Rattle.fare_agreement.proofs.Prefixes.{prefix_self}
use Rattle.fare_sessions.specs.declared.hub.Hub.{Hub}
use Rattle.fare_sessions.specs.Reopening.{AreLasting}
use Rattle.fare_sessions.specs.Stores.{AreClean, AreLive, AreSound, HasLedgers, IsAgreed, IsLedgerOf, MayStandAs, StoresFollow}
use Rattle.fare_sessions.proofs.Follow.{clean_back, has_place, same_at}
use Rattle.fare_sessions.proofs.Lasting.{lasting_on}
use Rattle.fare_databases.specs.Closed.{IsBack, IsHandedBack}
use Rattle.fare_databases.specs.Held.{AreCleanDisks, Holds, Leave, Show, StayStores}
use Rattle.fare_databases.specs.Holding.{HoldsLedger, HoldsOutbox, HoldStores, LedgersLook, OutboxesLook, StayAgreed, StayAgreedAs, StoresLook}
use Rattle.fare_databases.specs.declared.databases.Databases.{Databases}
use Rattle.fare_databases.proofs.Held.{clean_was, element_of, ledger_left, left_was, place_of_known}
use Rattle.fare_databases.proofs.Looks.{stores_agree}
use Rattle.fare_databases.proofs.Owners.{by_owner, by_owner_is, by_owner_none, place_within}

module _ {S : Type 0} (g : Ghosts S) where
  abbrev pub stands_outbox : SqlOutbox S g → Standing OutboxValue
  stands_outbox = outbox_words.stands g

  abbrev pub stands_ledger : SqlLedger S g → Standing LedgerValue
  stands_ledger = ledger_words.stands g

  -- what a ledger holds where a stop left these trees
  abbrev value_left : SqlLedger S g → Trees → LedgerValue
  value_left x left = ledger_words.value_at x.layout x.owner x.start (knows x.devices) left

  -- THE DATABASES OF A HUB
  module _ (sc : SchemeValue) (valid : IsScheme sc) (hub : Hub (SqlOutbox S g) (SqlLedger S g)) (same : hub.scheme ≡ sc) (count : HasLedgers hub) (databases : Databases S) (back : IsHandedBack g hub databases) (clean : AreCleanDisks g databases) where
    many : length hub.ledgers.items ≡ length sc.owners
    many = count ∙ ap (λ (s : SchemeValue). length s.owners) same

    -- the database of the ledger at a place
    back_at : (place : ℕ) (x : SqlLedger S g) → slice_get hub.ledgers.items place ≡ Some x → (d : Held S) × (slice_get databases.ledgers.items place ≡ Some d) × IsBack g (stands_ledger x).live x.conn d
    back_at place x at =
        let b = back.ledgers_back in
        let lt = has_place hub.ledgers.items place x at in
        let n = b.count in
        let d = element_at b.backs place (omega (arith, lt, n)) in
        (d.0, ap (λ l. slice_get l place) b.are ∙ d.1, (b.each place x d.0 at d.1).0)

    pub clean_hub : AreClean stands_outbox stands_ledger hub
    clean_hub = record {
      outbox_is = clean_was g hub.outbox.conn databases.outbox _ back.outbox_back clean.outbox_clean;
      ledgers_are = λ place x at. let d = back_at place x at in clean_was g x.conn d.0 _ d.2 (clean.ledgers_clean place d.0 d.1);
    }

    module _ (any : StoresValue) (outbox : Trees) (ledgers : ℕ → Trees) (leave : Leave g databases outbox ledgers) where
      -- the ledger at an owner's place
      ledger_at : (place owner : ℕ) → id_at sc.owners place ≡ Some owner → (x : SqlLedger S g) × (slice_get hub.ledgers.items place ≡ Some x)
      ledger_at place owner at = element_at hub.ledgers.items place (place_within sc hub.ledgers.items many place owner at)

      abbrev left_at : (place owner : ℕ) → id_at sc.owners place ≡ Some owner → LedgerValue
      left_at place owner at = value_left (ledger_at place owner at).0 (ledgers place)

      -- what the stop left, together
      left_all : StoresValue
      left_all = record { outbox = outbox_words.value_at hub.outbox.layout outbox; ledgers = by_owner sc valid any.ledgers left_at }

      left_is : (place owner : ℕ) → id_at sc.owners place ≡ Some owner → (x : SqlLedger S g) → slice_get hub.ledgers.items place ≡ Some x → left_all.ledgers owner ≡ value_left x (ledgers place)
      unfolding left_all
      left_is place owner at =
          by_owner_is sc valid any.ledgers left_at (λ place owner v. (x : SqlLedger S g) → slice_get hub.ledgers.items place ≡ Some x → v ≡ value_left x (ledgers place))
          (λ place owner at x here. let y = ledger_at place owner at in ap (λ z. value_left z (ledgers place)) (same_at hub.ledgers.items hub.ledgers.items place x y.0 here y.1 refl))
          place owner at

      may_stand : MayStandAs stands_outbox stands_ledger hub left_all
      unfolding left_all
      may_stand = record {
        outbox_may = inr (outbox, left_was g hub.outbox.conn databases.outbox _ back.outbox_back clean.outbox_clean outbox leave.outbox_leaves, refl);
        ledgers_may = λ owner x of.
            let d = back_at of.0 x of.2 in
            let left = left_was g x.conn d.0 _ d.2 (clean.ledgers_clean of.0 d.0 d.1) (ledgers of.0) (leave.ledgers_leave of.0 d.0 d.1) in
            inr (ledgers of.0, left, sym (left_is of.0 owner (((positions sc valid).owners owner of.0).0 (ap (λ s. position_of_owner s owner) (sym same) ∙ of.1)) x of.2));
      }

      module _ (lasting : AreLasting stands_outbox stands_ledger hub) (owned : (owner : ℕ) → knows_owner sc owner ≡ true → ((left_all.ledgers owner).owner ≡ owner) × IsOfScheme sc (left_all.ledgers owner)) where
        holds_left : HoldStores sc outbox ledgers left_all
        unfolding left_all
        holds_left = record {
          outbox_holds = inr (inl (hub.outbox.layout, lasting.outbox_is.each outbox (left_was g hub.outbox.conn databases.outbox _ back.outbox_back clean.outbox_clean outbox leave.outbox_leaves), refl));
          ledgers_hold = λ place owner at.
              let e = ((positions sc valid).owners owner place).1 at in
              let x = ledger_at place owner at in
              let d = back_at place x.0 x.1 in
              let left = left_was g x.0.conn d.0 _ d.2 (clean.ledgers_clean place d.0 d.1) (ledgers place) (leave.ledgers_leave place d.0 d.1) in
              let is = left_is place owner at x.0 x.1 in
              let mine = owned owner (ap is_some e) in
              let made : IsOfScheme sc (value_left x.0 (ledgers place)) = subst (IsOfScheme sc) is mine.1 in
              subst (HoldsLedger sc owner (ledgers place)) (sym is)
              (ledger_left g sc owner x.0 (ledgers place) (ap (λ (v : LedgerValue). v.owner) (sym is) ∙ mine.0) (record { start = made.start; knows = made.knows }) (lasting.ledgers_are place x.0 x.1) left);
        }

  -- A RUN
  module _ (sc : SchemeValue) (valid : IsScheme sc) (before after : Databases S) (old new : Hub (SqlOutbox S g) (SqlLedger S g)) (same : old.scheme ≡ sc) (count : HasLedgers old) (holds : AreClean stands_outbox stands_ledger old → Holds g before old)
      (scheme : new.scheme ≡ old.scheme) (follow : StoresFollow stands_outbox stands_ledger old new) (back : IsHandedBack g new after) (clean : AreCleanDisks g after) where
    same_new : new.scheme ≡ sc
    same_new = scheme ∙ same

    count_new : HasLedgers new
    count_new = follow.count ∙ count ∙ ap (λ (s : SchemeValue). length s.owners) (sym scheme)

    pub clean_new : AreClean stands_outbox stands_ledger new
    clean_new = clean_hub sc valid new same_new count_new after back clean

    pub clean_old : AreClean stands_outbox stands_ledger old
    clean_old = clean_back stands_outbox stands_ledger old new follow clean_new

    module _ (outbox : Trees) (ledgers : ℕ → Trees) (shows : Show g before outbox ledgers) (h : StoresValue) (held : HoldStores sc outbox ledgers h) where
      pub known : AreLive stands_outbox stands_ledger old × AreSound stands_outbox stands_ledger old × AreLasting stands_outbox stands_ledger old × ((k : StoresValue) → MayStandAs stands_outbox stands_ledger old k → HoldStores sc outbox ledgers k × StoresLook sc h k)
      known =
          let all = (holds clean_old).holds outbox ledgers shows h (subst (λ s. HoldStores s outbox ledgers h) (sym same) held) in
          (all.0, all.1, all.2, λ k may. let is = all.3 k may in (subst (λ s. HoldStores s outbox ledgers k) same is.0, subst (λ s. StoresLook s h k) same is.1))

      pub sound_old : AreSound stands_outbox stands_ledger old
      sound_old = known.1

      pub agreed_old : (lists : ℕ → List RecordValue) → Agrees sc lists h → IsAgreed stands_outbox stands_ledger lists old
      agreed_old lists is = record { agreed = λ k may. subst (λ s. Agrees s lists k) (sym same) (stores_agree sc lists h k (known.3 k may).1 is) }

      lasting_new : AreLasting stands_outbox stands_ledger new
      lasting_new = lasting_on stands_outbox stands_ledger old new follow clean_new sound_old known.2

      module _ (Stays : StoresValue → StoresValue → Type 0) (last : (w k : StoresValue) → Stays w k → StoresLast w k) (lists : ℕ → List RecordValue) (agreed : IsAgreed stands_outbox stands_ledger lists new) (stayed : (k : StoresValue) → MayStandAs stands_outbox stands_ledger new k → (w : StoresValue) × MayStandAs stands_outbox stands_ledger old w × Stays w k) (outbox_left : Trees) (ledgers_left : ℕ → Trees) (leave : Leave g after outbox_left ledgers_left) where
        abbrev k : StoresValue
        k = left_all sc valid new same_new count_new after back clean h outbox_left ledgers_left leave

        may : MayStandAs stands_outbox stands_ledger new k
        may = may_stand sc valid new same_new count_new after back clean h outbox_left ledgers_left leave

        it : (w : StoresValue) × MayStandAs stands_outbox stands_ledger old w × Stays w k
        it = stayed k may

        owned : (owner : ℕ) → knows_owner sc owner ≡ true → ((k.ledgers owner).owner ≡ owner) × IsOfScheme sc (k.ledgers owner)
        owned owner is =
            let place = place_of_known sc valid owner is in
            let was = (known.3 it.0 it.1).0.ledgers_hold place.0 owner place.1 in
            let grew = (last it.0 k it.2).ledgers owner in
            (grew.owner ∙ was.own, record { start = grew.start ∙ was.made.start; knows = λ device. grew.knows device ∙ was.made.knows device })

        pub run_keeps : (kept : StayAgreedAs Stays sc lists outbox ledgers outbox_left ledgers_left) × MayStandAs stands_outbox stands_ledger new kept.is
        run_keeps = (
          record {
            was = it.0;
            was_held = (known.3 it.0 it.1).0;
            is = k;
            is_held = holds_left sc valid new same_new count_new after back clean h outbox_left ledgers_left leave lasting_new owned;
            agrees = subst (λ s. Agrees s lists k) same_new (agreed.agreed k may);
            stays = it.2;
          },
          may,
        )

  -- DATABASES THAT WERE NOT OPENED
  looks_grew : (v w : OutboxValue) → OutboxesLook v w → OutboxGrew v w
  looks_grew v w looks = record { upto = λ d. let e = looks.upto d in omega (arith, e); stated = λ o d day count e. ap (λ (f : ℕ → Option ℕ). f day) (looks.stated o d) ∙ e }

  ledger_grew : (sc : SchemeValue) (owner : ℕ) (v w : LedgerValue) → v.owner ≡ owner → w.owner ≡ owner → IsOfScheme sc v → IsOfScheme sc w → LedgersLook v w → LedgerGrew v w
  ledger_grew sc owner v w mine yours one two looks = record {
    owner = yours ∙ sym mine;
    start = two.start ∙ sym one.start;
    knows = λ d. two.knows d ∙ sym (one.knows d);
    taken = λ d. subst (IsPrefixOf (v.taken d)) (sym (looks.taken d)) (prefix_self (v.taken d));
    stated = λ d day count e. ap (λ (f : ℕ → Option ℕ). f day) (looks.stated d) ∙ e;
    closed = λ d. let e = looks.closed d in omega (arith, e);
    retired = λ d e. looks.retired d ∙ e;
    from = looks.from;
  }

  module _ (sc : SchemeValue) (valid : IsScheme sc) (before after : Databases S) (count : length before.ledgers.items ≡ length sc.owners) (stay : StayStores g sc before after) (clean : AreCleanDisks g after)
      (outbox : Trees) (ledgers : ℕ → Trees) (shows : Show g before outbox ledgers) (h : StoresValue) (held : HoldStores sc outbox ledgers h) (outbox_left : Trees) (ledgers_left : ℕ → Trees) (leave : Leave g after outbox_left ledgers_left) where
    abbrev Still : ℕ → ℕ → LedgerValue → Type 0
    Still place owner w = HoldsLedger sc owner (ledgers_left place) w × LedgersLook (h.ledgers owner) w

    still_at : (place owner : ℕ) → id_at sc.owners place ≡ Some owner → (w : LedgerValue) × Still place owner w
    still_at place owner at =
        let e = element_of sc.owners place owner at in
        let lt = has_place sc.owners place e.0 e.1 in
        let n = stay.ledgers_stay.count in
        let d = element_at before.ledgers.items place (omega (arith, lt, count)) in
        let f = element_at after.ledgers.items place (omega (arith, lt, n, count)) in
        let it = stay.ledgers_stay.each place owner d.0 f.0 d.1 f.1 at (clean.ledgers_clean place f.0 f.1) (ledgers place) (shows.ledgers_show place d.0 d.1) (h.ledgers owner) (held.ledgers_hold place owner at) (ledgers_left place) (leave.ledgers_leave place f.0 f.1) in
        (it.0, (it.1, it.2))

    still_outbox : (w : OutboxValue) × HoldsOutbox outbox_left w × OutboxesLook h.outbox w
    still_outbox = stay.outbox_stays clean.outbox_clean outbox shows.outbox_shows h.outbox held.outbox_holds outbox_left leave.outbox_leaves

    still_all : StoresValue
    still_all = record { outbox = still_outbox.0; ledgers = by_owner sc valid h.ledgers (λ place owner at. (still_at place owner at).0) }

    still_there : (place owner : ℕ) → id_at sc.owners place ≡ Some owner → Still place owner (still_all.ledgers owner)
    unfolding still_all
    still_there place owner at = by_owner_is sc valid h.ledgers (λ place owner at. (still_at place owner at).0) Still (λ place owner at. (still_at place owner at).1) place owner at

    -- of an owner who isn't registered nothing else is said
    still_grew : (owner : ℕ) (at : Option ℕ) → position_of_owner sc owner ≡ at → LedgerGrew (h.ledgers owner) (still_all.ledgers owner)
    unfolding still_all
    still_grew owner None unknown = subst (LedgerGrew (h.ledgers owner)) (sym (by_owner_none sc valid h.ledgers (λ place owner at. (still_at place owner at).0) owner unknown)) (ledger_self (h.ledgers owner))
    still_grew owner (Some place) known =
        let at = place_of_known sc valid owner (ap is_some known) in
        let now = still_there at.0 owner at.1 in
        let was = held.ledgers_hold at.0 owner at.1 in
        ledger_grew sc owner (h.ledgers owner) (still_all.ledgers owner) was.own now.0.own was.made now.0.made now.1

    -- what they held is held still
    pub unopened_keeps : (lists : ℕ → List RecordValue) → Agrees sc lists h → StayAgreed sc lists outbox ledgers outbox_left ledgers_left
    unfolding still_all still_outbox
    unopened_keeps lists agrees = record {
      was = h;
      was_held = held;
      is = still_all;
      is_held = record { outbox_holds = still_outbox.1; ledgers_hold = λ place owner at. (still_there place owner at).0 };
      agrees = stores_agree sc lists h still_all (record { outbox_looks = still_outbox.2; ledgers_look = λ owner known. let at = place_of_known sc valid owner known in (still_there at.0 owner at.1).1 }) agrees;
      stays = record { outbox = looks_grew h.outbox still_outbox.0 still_outbox.2; ledgers = λ owner. still_grew owner (position_of_owner sc owner) refl };
    }
