-- A session put together.
use Rattle.std.proofs.Common.{◌≡◌, ℕ, ◌+◌, ◌<◌, ◌≤◌, Some, None, List, [], ◌∷◌, ◌++◌, length, refl, sym, ap, ◌∙◌, subst, inl, inr, arith, length-append, append_assoc}
use Rattle.std.specs.Prelude.{min, slice_get, Option}
use Rattle.std.specs.List.{AllByRecursion}
use Rattle.std.proofs.lemmas.List.{append-nil}
use Rattle.fare_record.specs.declared.item.Item.{Item}
use Rattle.fare_route.specs.declared.forwarder.Forwarder.{Forwarder}
use Rattle.fare_store.specs.declared.fault.Fault.{Fault}
use Rattle.fare_store.specs.Standing.{Standing, Counted}
use Rattle.fare_store.specs.OutboxWords.{OutboxValue}
use Rattle.fare_store.specs.LedgerWords.{LedgerValue}
use Rattle.fare_session.specs.declared.fault.SessionFault.{SessionFault}
use Rattle.fare_session.specs.declared.fault.SessionFault.TheVariants.{Refused}
use Rattle.fare_history.specs.Serving.{Cursors, device_of, moved_by_all, AreNextItems, given_all, in_hand, tried_in, Service, pruned_to_all}
use Rattle.fare_session.specs.Taking.{added_by}
use Rattle.fare_session.specs.Stores.{stored_fault, IsOwners, Follows, HasStood, Leaves, Stays}
use Rattle.fare_session.specs.Forwarding.{IsIdle, IsBased, IsAsFar, AreBases, Skips, Forwarded}
use Rattle.fare_session.specs.declared.batching.Halt.{Halt}
use Rattle.fare_session.specs.Taking.{Tallied, IsTaken, fault_of_halt, behind_of, IsTaking, IsLeftTaken, IsImage, InHand}
use Rattle.fare_session.specs.Resting.{MeetsLedger, Behind, IsCut, IsRest, IsPruning}
use Rattle.fare_session.specs.Session.{IsThreaded, IsCutWith, IsSession}
use Rattle.fare_session.specs.Served.{report_of}
use Rattle.fare_session.proofs.StoreCalls.{follows_call, follows_then, leaves_say, leaves_then, stays_then, stood_first, stood_then, stood_value}
use Rattle.fare_session.proofs.Services.{moved_by_all-append, next_items-append, all-append}
use Rattle.fare_session.proofs.Takes.{taken_then, taken_behind, nothing_in, image_none}
use Rattle.fare_session.proofs.Rests.{lanes_kept}

-- THE THREADS
no_halt : (halt : Option Halt) → fault_of_halt halt ≡ None → halt ≡ None
no_halt None e = refl
no_halt (Some halt) e = absurd (cc)

-- the owner took what it was given, or halted at an item
module _ (bases : List (ℕ × ℕ)) (room : ℕ) (xo xn : Standing OutboxValue) (lo ln : Standing LedgerValue) (f g : Forwarder) (put : Option SessionFault) (halt : Option Halt) (n m : ℕ) (sent items rest : List Item) (forwarded : Forwarded bases xo xn f g sent put) (taking : IsTaking lo ln items halt n m) (all : items ++ rest ≡ sent) where
  pub threads_done : (left : ℕ) → behind_of halt + length rest ≤ room → ((hand : Option Item) → InHand (fault_of_halt halt) hand → left ≡ length (in_hand hand ++ (taking.behind ++ rest))) → (halt ≡ None → rest ≡ []) → IsThreaded bases room xo xn lo ln f g put (fault_of_halt halt) n m left
  threads_done left low count none = record {
    sent = sent;
    done = taking.done;
    hand = taking.hand;
    queue = taking.behind ++ rest;
    forwarded = forwarded;
    taken = taken_behind lo ln taking.done taking.hand taking.behind rest (fault_of_halt halt) n m taking.taken;
    has = taking.has;
    all = sym all ∙ ap (λ l. l ++ rest) taking.all ∙ append_assoc taking.done (in_hand taking.hand ++ taking.behind) rest ∙ ap (λ l. taking.done ++ l) (append_assoc (in_hand taking.hand) taking.behind rest);
    few = let l = length-append taking.behind rest in let c = taking.count in omega (arith, l, c, low);
    count = count taking.hand taking.has;
    none = λ e. whole (no_halt halt e);
  }
    where
      whole : halt ≡ None → taking.behind ++ rest ≡ []
      whole e = λ j. nothing_in taking.behind (taking.count ∙ ap behind_of e) j ++ none e j

-- how many are in the hand, behind it and in the queue
pub halt_count : (halt : Halt) (n : ℕ) (behind rest : List Item) → n ≡ length rest → length behind ≡ halt.behind → (hand : Option Item) → InHand (Some halt.fault) hand → n + halt.behind + 1 ≡ length (in_hand hand ++ (behind ++ rest))
halt_count halt n behind rest is count None has = absurd (let none : ◌≡◌ {A = Option Item} None (Some has.0) = has.1 in cc)
halt_count halt n behind rest is count (Some i) has = let l = length-append behind rest in omega (arith, is, count, l)

pub none_count : (behind rest : List Item) → length behind ≡ 0 → rest ≡ [] → (hand : Option Item) → InHand None hand → 0 ≡ length (in_hand hand ++ (behind ++ rest))
none_count behind rest count none hand has = sym (λ j. length (in_hand (has j) ++ (nothing_in behind count j ++ none j)))

-- of what was left there are no more than there were
pub left_low : (lo ln : Standing LedgerValue) (left rest : List Item) (halt : Option Halt) (n m : ℕ) → IsLeftTaken lo ln left rest halt n m → behind_of halt + length rest ≤ length left
left_low lo ln left rest halt n m t =
    let all = ap length t.all in
    let items = ap length t.taking.all in
    let count = t.taking.count in
    omega (arith, all, items, count, length-append t.items rest, length-append t.taking.done (in_hand t.taking.hand ++ t.taking.behind), length-append (in_hand t.taking.hand) t.taking.behind)

-- A SESSION
stays_follow : (a b : Standing OutboxValue) (f : Option Fault) → Stays a b f → Follows a b
stays_follow a b f s = follows_call a b f (b.value ≡ a.value) (λ w. w ≡ a.value) s.calls

from_none : (k n : ℕ) → Tallied 0 k n → k ≡ min n 18446744073709551615
from_none k n tally = let is = tally (omega arith) in omega (arith, is)

abbrev pub service : List Item → Option Item → List Item → List ℕ → Service
service taken hand queue pruned = record { taken = taken; hand = hand; queue = queue; pruned = pruned }

-- an item is in the hand
has_one : (done : List Item) (hand : Option Item) (queue : List Item) (e : SessionFault) → InHand (Some e) hand → 0 < length (done ++ (in_hand hand ++ queue))
has_one done None queue e has = absurd (let is : ◌≡◌ {A = Option Item} None (Some has.0) = has.1 in cc)
has_one done (Some i) queue e has = let n = length-append done (i ∷ queue) in omega (arith, n)

pub session_stopped : (bases lanes : List (ℕ × ℕ)) (room : ℕ) (xo xn : Standing OutboxValue) (lo ln : Standing LedgerValue) (f g : Forwarder) (put : Option SessionFault) (e : SessionFault) (n left : ℕ) → IsThreaded bases room xo xn lo ln f g put (Some e) 0 n left → IsSession bases lanes room xo xn lo ln f (report_of n left (Some e))
session_stopped bases lanes room xo xn lo ln f g put e n left th = record {
  v = service th.done th.hand th.queue [];
  fx = stored_fault put;
  fl = stored_fault (Some e);
  next = λ c far meets bs kx kl. subst (AreNextItems f.owner xo.value c) th.all ((th.forwarded.forwards c far bs).next kx);
  known = subst (AllByRecursion (λ i. IsBased bases (device_of i))) th.all th.forwarded.known;
  few = th.few;
  registered = inr refl;
  ledger = th.taken.leaves;
  outbox = λ kl. leaves_say xo xn (stored_fault put) xo.value (λ w. w ≡ xo.value) (IsCutWith th.hand xo.value f.owner (given_all lo.value th.done) lanes []) (λ w is. inl is) th.forwarded.stays;
  counted = th.forwarded.stays.calls.cause;
  begun = begun;
  cut = λ lt. absurd (omega (arith, lt));
  skipped = λ is. begun (has_one th.done th.hand th.queue e th.has);
  unpruned = λ i is. refl;
  owners = th.taken.owners;
  follows = stays_follow xo xn (stored_fault put) th.forwarded.stays;
  stays = λ is. absurd (cc);
  taken = λ kl. from_none n (added_by lo.value th.done) (th.taken.tally kl);
  unrefused = λ kl. th.taken.unrefused kl;
  dated = th.taken.dated;
  left = th.count;
  cause = λ is. inr (ap stored_fault is);
  refused = λ is c far meets bs kx kl. inr (th.taken.refused is kl);
  whole = λ is. absurd (cc);
}
  where
    begun : 0 < length (th.done ++ (in_hand th.hand ++ th.queue)) → xn.clean → xo.live
    begun lt = th.forwarded.begun (subst (λ (l : List Item). 0 < length l) (sym th.all) lt)

-- the owner did all, and the forwarder failed
pub session_put : (bases lanes : List (ℕ × ℕ)) (room : ℕ) (xo xn : Standing OutboxValue) (lo ln : Standing LedgerValue) (f g : Forwarder) (e : SessionFault) (n left : ℕ) → IsThreaded bases room xo xn lo ln f g (Some e) None 0 n left → IsSession bases lanes room xo xn lo ln f (report_of n 0 (Some e))
session_put bases lanes room xo xn lo ln f g e n left th = record {
  v = service th.done None [] [];
  fx = stored_fault (Some e);
  fl = None;
  next = λ c far meets bs kx kl. subst (AreNextItems f.owner xo.value c) all ((th.forwarded.forwards c far bs).next kx);
  known = subst (AllByRecursion (λ i. IsBased bases (device_of i))) all th.forwarded.known;
  few = omega arith;
  registered = inr refl;
  ledger = subst (λ h. Leaves lo ln None (given_all lo.value th.done) (IsImage lo.value th.done (tried_in h th.queue))) (th.taken.empty refl) th.taken.leaves;
  outbox = λ kl. leaves_say xo xn (stored_fault (Some e)) xo.value (λ w. w ≡ xo.value) (IsCutWith None xo.value f.owner (given_all lo.value th.done) lanes []) (λ w is. inl is) th.forwarded.stays;
  counted = th.forwarded.stays.calls.cause;
  begun = λ lt. th.forwarded.begun (subst (λ (l : List Item). 0 < length l) (sym all) lt);
  cut = λ lt. absurd (omega (arith, lt));
  skipped = th.forwarded.skipped;
  unpruned = λ i is. refl;
  owners = th.forwarded.owners;
  follows = stays_follow xo xn (stored_fault (Some e)) th.forwarded.stays;
  stays = λ is. absurd (cc);
  taken = λ kl. from_none n (added_by lo.value th.done) (th.taken.tally kl);
  unrefused = λ kl. th.taken.unrefused kl;
  dated = th.taken.dated;
  left = refl;
  cause = λ is. inl (ap stored_fault is);
  refused = λ is c far meets bs kx kl. inl (subst (λ l. Skips bases f.owner xo.value (moved_by_all c l)) same ((th.forwarded.forwards c far bs).refused is kx));
  whole = λ is. absurd (cc);
}
  where
    all : th.sent ≡ th.done ++ (in_hand None ++ [])
    all = th.all ∙ (λ j. th.done ++ (in_hand (th.taken.empty refl j) ++ th.none refl j))

    same : th.sent ≡ th.done
    same = all ∙ append-nil th.done

-- THE REST
module _ (bases : List (ℕ × ℕ)) (room : ℕ) (xo xm xn : Standing OutboxValue) (lo lm ln : Standing LedgerValue) (f g h : Forwarder) (fault : Option SessionFault) (m k left held : ℕ) (th : IsThreaded bases room xo xm lo lm f g None None 0 m left) (r : IsRest bases xm xn lm ln g h fault m k held) where
  sent_done : th.sent ≡ th.done
  sent_done = th.all ∙ (λ j. th.done ++ (in_hand (th.taken.empty refl j) ++ th.none refl j)) ∙ append-nil th.done

  threads_taken : IsTaken lo lm th.done None [] None 0 m
  threads_taken = subst (λ (z : Option Item × List Item). IsTaken lo lm th.done z.0 z.1 None 0 m) (λ j. (th.taken.empty refl j, th.none refl j)) th.taken

  both_taken : IsTaken lo ln (th.done ++ r.done) r.hand [] r.fl 0 k
  both_taken = taken_then lo lm ln th.done r.done r.hand [] r.fl 0 m k threads_taken r.taken

  kx_first : HasStood xo xn → HasStood xo xm
  kx_first kx = stood_first xo xm xn (stored_fault r.fx) xm.value (λ w. w ≡ xm.value) r.forwarded.stays kx

  kx_then : HasStood xo xn → HasStood xm xn
  kx_then kx = stood_then xo xm xn (stored_fault r.fx) xm.value xo.value (λ w. w ≡ xm.value) (λ w. w ≡ xo.value) th.forwarded.stays r.forwarded.stays kx

  kx_same : HasStood xo xn → xm.value ≡ xo.value
  kx_same kx = stood_value xo xm xo.value (λ w. w ≡ xo.value) th.forwarded.stays (kx_first kx)

  kl_first : HasStood lo ln → HasStood lo lm
  kl_first kl = stood_first lo lm ln (stored_fault r.fl) (given_all lm.value r.done) (IsImage lm.value r.done (tried_in r.hand [])) r.taken.leaves kl

  kl_then : HasStood lo ln → HasStood lm ln
  kl_then kl = stood_then lo lm ln (stored_fault r.fl) (given_all lm.value r.done) (given_all lo.value th.done) (IsImage lm.value r.done (tried_in r.hand [])) (IsImage lo.value th.done []) threads_taken.leaves r.taken.leaves kl

  both_stay : Stays xo xn (stored_fault r.fx)
  both_stay = stays_then xo xm xn (stored_fault r.fx) th.forwarded.stays r.forwarded.stays

  -- a clean outbox that gave an item was live
  both_begun : 0 < length ((th.done ++ r.done) ++ (in_hand r.hand ++ [])) → xn.clean → xo.live
  both_begun lt clean = by th.sent refl
    where
      by : (sent : List Item) → th.sent ≡ sent → xo.live
      by (i ∷ is) e = th.forwarded.begun (subst (λ (l : List Item). 0 < length l) (sym e) (omega arith)) (r.forwarded.stays.calls.clean clean)
      by [] e = th.forwarded.stays.calls.live (r.forwarded.begun (subst (λ (l : List Item). 0 < length l) same lt) clean)
        where
          same : (th.done ++ r.done) ++ (in_hand r.hand ++ []) ≡ r.done ++ in_hand r.hand
          same = ap (λ l. (l ++ r.done) ++ (in_hand r.hand ++ [])) (sym sent_done ∙ e) ∙ ap (λ l. r.done ++ l) (append-nil (in_hand r.hand))

  both_skipped : fault ≡ Some Refused → xn.clean → xo.live
  both_skipped is clean = th.forwarded.stays.calls.live (r.skipped is clean)

  both_owners : IsOwners fault
  both_owners = elim r.one [ inl one ↦ subst IsOwners (sym one.1) r.taken.owners | inr one ↦ subst IsOwners (sym one.1) r.forwarded.owners ]

  module _ (c : Cursors) (far : IsAsFar bases f c) (meets : MeetsLedger bases lo.value c) (bs : AreBases bases c) (kx : HasStood xo xn) (kl : HasStood lo ln) where
    sent_next : AreNextItems f.owner xo.value c th.sent
    sent_next = (th.forwarded.forwards c far bs).next (kx_first kx)

    far_there : IsAsFar bases g (moved_by_all c th.sent)
    far_there = (th.forwarded.forwards c far bs).at refl

    behind_there : Behind bases lm ln (moved_by_all c th.sent)
    behind_there = (
      kl_then kl,
      λ d based. lanes_kept f.owner xo.value lo.value c th.sent d sent_next (meets d based)
          ∙ ap (λ (z : LedgerValue). length (z.taken d)) (ap (given_all lo.value) sent_done ∙ sym (stood_value lo lm (given_all lo.value th.done) (IsImage lo.value th.done []) threads_taken.leaves (kl_first kl))),
    )

    rest_next : AreNextItems f.owner xo.value (moved_by_all c th.sent) (r.done ++ in_hand r.hand)
    rest_next = subst (λ (z : ℕ × OutboxValue). AreNextItems z.0 z.1 (moved_by_all c th.sent) (r.done ++ in_hand r.hand)) (λ j. (th.forwarded.owner j, kx_same kx j)) ((r.forwarded.forwards (moved_by_all c th.sent) far_there behind_there).next (kx_then kx))

    both_next : AreNextItems f.owner xo.value c ((th.done ++ r.done) ++ (in_hand r.hand ++ []))
    both_next = subst (AreNextItems f.owner xo.value c) same (next_items-append f.owner xo.value c th.sent (r.done ++ in_hand r.hand) sent_next rest_next)
      where
        same : th.sent ++ (r.done ++ in_hand r.hand) ≡ (th.done ++ r.done) ++ (in_hand r.hand ++ [])
        same = ap (λ l. l ++ (r.done ++ in_hand r.hand)) sent_done ∙ sym (append_assoc th.done r.done (in_hand r.hand)) ∙ ap (λ l. (th.done ++ r.done) ++ l) (sym (append-nil (in_hand r.hand)))

    moved_there : moved_by_all (moved_by_all c th.sent) r.done ≡ moved_by_all c (th.done ++ r.done)
    moved_there = sym (moved_by_all-append c th.sent r.done) ∙ ap (λ l. moved_by_all c (l ++ r.done)) sent_done

    both_idle : fault ≡ None → (i : ℕ) (p : ℕ × ℕ) → slice_get bases i ≡ Some p → IsIdle f.owner xo.value (moved_by_all c (th.done ++ r.done)) p.0
    both_idle none i p at = subst (λ (z : ℕ × OutboxValue × Cursors). IsIdle z.0 z.1 z.2 p.0) (λ j. (th.forwarded.owner j, kx_same kx j, moved_there j)) (r.idle none i p at (moved_by_all c th.sent) far_there behind_there (kx_then kx))

    both_skip : r.fx ≡ Some Refused → r.fl ≡ None → Skips bases f.owner xo.value (moved_by_all c (th.done ++ r.done))
    both_skip is none = subst (λ (z : ℕ × OutboxValue × Cursors). Skips bases z.0 z.1 z.2) (λ j. (th.forwarded.owner j, kx_same kx j, moved_there j))
        (subst (λ l. Skips bases g.owner xm.value (moved_by_all (moved_by_all c th.sent) l)) only ((r.forwarded.forwards (moved_by_all c th.sent) far_there behind_there).refused is (kx_then kx)))
      where
        only : r.done ++ in_hand r.hand ≡ r.done
        only = ap (λ z. r.done ++ in_hand z) (r.taken.empty none) ∙ append-nil r.done

  both_known : AllByRecursion (λ i. IsBased bases (device_of i)) ((th.done ++ r.done) ++ (in_hand r.hand ++ []))
  both_known = subst (AllByRecursion (λ i. IsBased bases (device_of i))) same (all-append (λ i. IsBased bases (device_of i)) th.sent (r.done ++ in_hand r.hand) th.forwarded.known r.forwarded.known)
    where
      same : th.sent ++ (r.done ++ in_hand r.hand) ≡ (th.done ++ r.done) ++ (in_hand r.hand ++ [])
      same = ap (λ l. l ++ (r.done ++ in_hand r.hand)) sent_done ∙ sym (append_assoc th.done r.done (in_hand r.hand)) ∙ ap (λ l. (th.done ++ r.done) ++ l) (sym (append-nil (in_hand r.hand)))

-- the rest failed
pub session_rest : (bases lanes : List (ℕ × ℕ)) (room : ℕ) (xo xm xn : Standing OutboxValue) (lo lm ln : Standing LedgerValue) (f g h : Forwarder) (e : SessionFault) (m k left held : ℕ) → IsThreaded bases room xo xm lo lm f g None None 0 m left → IsRest bases xm xn lm ln g h (Some e) m k held → IsSession bases lanes room xo xn lo ln f (report_of k held (Some e))
session_rest bases lanes room xo xm xn lo lm ln f g h e m k left held th r = record {
  v = service (th.done ++ r.done) r.hand [] [];
  fx = stored_fault r.fx;
  fl = stored_fault r.fl;
  next = λ c far meets bs kx kl. both_next bases room xo xm xn lo lm ln f g h (Some e) m k left held th r c far meets bs kx kl;
  known = both_known bases room xo xm xn lo lm ln f g h (Some e) m k left held th r;
  few = omega arith;
  registered = inr refl;
  ledger = taken.leaves;
  outbox = λ kl. leaves_say xo xn (stored_fault r.fx) xo.value (λ w. w ≡ xo.value) (IsCutWith r.hand xo.value f.owner (given_all lo.value (th.done ++ r.done)) lanes []) (λ w is. inl is) stays;
  counted = stays.calls.cause;
  begun = both_begun bases room xo xm xn lo lm ln f g h (Some e) m k left held th r;
  cut = λ lt. absurd (omega (arith, lt));
  skipped = both_skipped bases room xo xm xn lo lm ln f g h (Some e) m k left held th r;
  unpruned = λ i is. refl;
  owners = both_owners bases room xo xm xn lo lm ln f g h (Some e) m k left held th r;
  follows = stays_follow xo xn (stored_fault r.fx) stays;
  stays = λ is. absurd (cc);
  taken = λ kl. from_none k (added_by lo.value (th.done ++ r.done)) (taken.tally kl);
  unrefused = λ kl. taken.unrefused kl;
  dated = taken.dated;
  left = r.count ∙ ap length (sym (append-nil (in_hand r.hand)));
  cause = λ is. elim r.one [ inl one ↦ inr (ap stored_fault (sym one.1 ∙ is)) | inr one ↦ inl (ap stored_fault (sym one.1 ∙ is)) ];
  refused = λ is c far meets bs kx kl. elim r.one [
    | inl one ↦ inr (taken.refused (sym one.1 ∙ is) kl)
    | inr one ↦ inl (both_skip bases room xo xm xn lo lm ln f g h (Some e) m k left held th r c far meets bs kx kl (sym one.1 ∙ is) one.0)
  ];
  whole = λ is. absurd (cc);
}
  where
    taken : IsTaken lo ln (th.done ++ r.done) r.hand [] r.fl 0 k
    taken = both_taken bases room xo xm xn lo lm ln f g h (Some e) m k left held th r

    stays : Stays xo xn (stored_fault r.fx)
    stays = both_stay bases room xo xm xn lo lm ln f g h (Some e) m k left held th r

-- all was taken, and lanes were pruned
pub session_done : (bases lanes : List (ℕ × ℕ)) (room : ℕ) (xo xm xn xz : Standing OutboxValue) (lo lm ln lz : Standing LedgerValue) (f g h : Forwarder) (fault : Option SessionFault) (m k left held : ℕ) → IsThreaded bases room xo xm lo lm f g None None 0 m left → IsRest bases xm xn lm ln g h None m k held → IsPruning f.owner lanes xn xz ln lz fault → IsSession bases lanes room xo xz lo lz f (report_of k 0 fault)
session_done bases lanes room xo xm xn xz lo lm ln lz f g h fault m k left held th r p = record {
  v = service done None [] p.ds;
  fx = stored_fault p.fx;
  fl = stored_fault p.fl;
  next = λ c far meets bs kx kl. subst (λ z. AreNextItems f.owner xo.value c (done ++ (in_hand z ++ []))) no_hand (both_next bases room xo xm xn lo lm ln f g h None m k left held th r c far meets bs (kx_then_first kx kl) (kl_before kl));
  known = subst (λ z. AllByRecursion (λ i. IsBased bases (device_of i)) (done ++ (in_hand z ++ []))) no_hand (both_known bases room xo xm xn lo lm ln f g h None m k left held th r);
  few = omega arith;
  registered = p.all;
  ledger = leaves_then lo ln lz (stored_fault p.fl) (given_all lo.value done) ln.value (given_all lo.value done) (IsImage lo.value done []) (λ w. w ≡ ln.value) (IsImage lo.value done []) taken.leaves p.pruned.stays (λ e. e) (λ e w is. image_none lo.value done [] w (is ∙ e));
  outbox = λ kl. leaves_then xo xn xz (stored_fault p.fx) xo.value (pruned_to_all xn.value f.owner ln.value p.ds) (pruned_to_all xo.value f.owner (given_all lo.value done) p.ds) (λ w. w ≡ xo.value) (IsCut xn.value f.owner ln.value lanes p.ds) (IsCutWith None xo.value f.owner (given_all lo.value done) lanes p.ds)
      stays (p.pruned.leaves (kl_behind kl))
      (λ e. (λ j. pruned_to_all (e j) f.owner (kl_same kl j) p.ds))
      (λ e w is. subst (λ (z : OutboxValue × LedgerValue). IsCutWith None z.0 f.owner z.1 lanes p.ds w) (λ j. (e j, kl_same kl j)) (elim is [ inl all ↦ inl all | inr some ↦ inr (refl, some) ]));
  counted = subst (λ n. Counted n xz.failures (stored_fault p.fx)) stays.calls.cause p.pruned.counted;
  begun = λ lt clean. both_begun bases room xo xm xn lo lm ln f g h None m k left held th r (subst (λ z. 0 < length (done ++ (in_hand z ++ []))) (sym no_hand) lt) (p.pruned.follows.clean clean);
  cut = λ lt clean. stays.calls.live (p.pruned.begun lt clean);
  skipped = λ is. absurd (p.unrefused is);
  unpruned = λ i is. absurd (let none : ◌≡◌ {A = Option Item} None (Some i) = is in cc);
  owners = p.owners;
  follows = follows_then xo xn xz (stays_follow xo xn None stays) p.pruned.follows;
  stays = λ is. elim p.one [ inl one ↦ (ap stored_fault one.0, ap stored_fault (sym one.1 ∙ is)) | inr one ↦ (ap stored_fault (sym one.1 ∙ is), ap stored_fault one.0) ];
  taken = λ kl. from_none k (added_by lo.value done) (taken.tally (kl_before kl));
  unrefused = λ kl. taken.unrefused (kl_before kl);
  dated = taken.dated;
  left = refl;
  cause = λ is. elim p.one [ inl one ↦ inr (ap stored_fault (sym one.1 ∙ is)) | inr one ↦ inl (ap stored_fault (sym one.1 ∙ is)) ];
  refused = λ is c far meets bs kx kl. absurd (p.unrefused is);
  whole = λ none. record {
    hand = refl;
    queue = refl;
    pruned = p.whole none;
    idle = λ c far meets bs kx kl i q at. both_idle bases room xo xm xn lo lm ln f g h None m k left held th r c far meets bs (kx_then_first kx kl) (kl_before kl) refl i q at;
  };
}
  where
    done : List Item
    done = th.done ++ r.done

    no_fault : (r.fx ≡ None) × (r.fl ≡ None)
    no_fault = elim r.one [ inl one ↦ (one.0, sym one.1) | inr one ↦ (sym one.1, one.0) ]

    no_hand : r.hand ≡ None
    no_hand = r.taken.empty no_fault.1

    taken : IsTaken lo ln done None [] None 0 k
    taken = subst (λ (z : Option Item × Option SessionFault). IsTaken lo ln done z.0 [] z.1 0 k) (λ j. (no_hand j, no_fault.1 j)) (both_taken bases room xo xm xn lo lm ln f g h None m k left held th r)

    stays : Stays xo xn None
    stays = subst (λ z. Stays xo xn (stored_fault z)) no_fault.0 (both_stay bases room xo xm xn lo lm ln f g h None m k left held th r)

    kl_before : HasStood lo lz → HasStood lo ln
    kl_before kl = stood_first lo ln lz (stored_fault p.fl) ln.value (λ w. w ≡ ln.value) p.pruned.stays kl

    kl_behind : HasStood lo lz → HasStood ln lz
    kl_behind kl = stood_then lo ln lz (stored_fault p.fl) ln.value (given_all lo.value done) (λ w. w ≡ ln.value) (IsImage lo.value done []) taken.leaves p.pruned.stays kl

    kl_same : HasStood lo lz → ln.value ≡ given_all lo.value done
    kl_same kl = stood_value lo ln (given_all lo.value done) (IsImage lo.value done []) taken.leaves (kl_before kl)

    kx_then_first : HasStood xo xz → HasStood lo lz → HasStood xo xn
    kx_then_first kx kl = stood_first xo xn xz (stored_fault p.fx) (pruned_to_all xn.value f.owner ln.value p.ds) (IsCut xn.value f.owner ln.value lanes p.ds) (p.pruned.leaves (kl_behind kl)) kx
