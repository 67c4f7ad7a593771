-- How a question ends, by how its parts do.
use Rattle.std.proofs.Common.{◌≡◌, ◌≢◌, ◌⊎◌, ℕ, List, Option, Some, None, IfSome, inl, inr, sym, ap, ◌∙◌, subst, codes, slice_index_or, arith}
use Rattle.std.specs.Prelude.{◌↔◌, Result, Ok, Err, OnOk, IfErr, length}
use Rattle.std.specs.Result.{IsErrAnd}
use Rattle.std.specs.Io.KnownBytes.{Keeps}
use Rattle.std.specs.Map.{keys_of}
use Rattle.clap.specs.Words.{Row, Text}
use Rattle.fare_scheme.specs.Values.{SchemeValue}
use Rattle.fare_scheme.specs.Words.{position_of_device, position_of_owner}
use Rattle.fare_store.specs.Standing.{Standing}
use Rattle.fare_store.specs.OutboxWords.{OutboxValue}
use Rattle.fare_store.specs.LedgerWords.{LedgerValue}
use Rattle.fare_command.specs.Jobs.{JobOf}
use Rattle.fare_command.specs.declared.words.Job.{Job}
use Rattle.fare_command.specs.declared.words.Job.TheVariants as job
use Rattle.fare_command.specs.declared.words.SchemeSource.{SchemeSource}
use Rattle.fare_command.specs.declared.words.Question.{Question}
use Rattle.fare_command.specs.declared.words.Question.TheVariants.{Close, Bill, Settle, Stand, Retire, Forget}
use Rattle.fare_desk.specs.Closing.{AreLinesOf, lanes_of}
use Rattle.fare_desk.specs.Faults.{is_of_retire, is_refusal}
use Rattle.fare_desk.specs.Forgetting.{AreGoneLines}
use Rattle.fare_desk.specs.Retiring.{LeavesLane}
use Rattle.fare_desk.specs.Showing.{AreLaneLines, AreUptoLines}
use Rattle.fare_desk.specs.declared.fault.DeskFault.{DeskFault}
use Rattle.fare_desk.specs.declared.fault.DeskFault.TheVariants as desk
use Rattle.fare_sessions.specs.declared.hub.Hub.{Hub}
use Rattle.fare_sessions.specs.Stores.{ComesOf}
use Rattle.fare_run.proofs.Unasked.{asked_ok}
use Rattle.fare_run.specs.Asking.{Answers, AskEnds, AskFails, FailsIn, FailsRetire, GoesOnAsked, IsAnswered, IsAskedOf, IsRefusedAs, KeepsUnlessWrite, NamesFirst, refused_unasked}
use Rattle.fare_run.specs.Runs.{IsOfFiles}
use Rattle.fare_run.specs.Scheming.{GaveNone, GivesNone, HasGiven, SpellsScheme, TakesScheme}
use Rattle.fare_run.specs.Stores.{IsOfStores}
use Rattle.fare_run.specs.declared.serve_failure.ServeFailure.{ServeFailure}
use Rattle.fare_run.specs.declared.serve_failure.ServeFailure.TheVariants as serve
use Rattle.fare_run.specs.declared.ask_failure.AskFailure.{AskFailure}
use Rattle.fare_run.specs.declared.ask_failure.AskFailure.TheVariants.{Stores, Desk}
use Rattle.fare_run.proofs.Served.{has_given, has_scheme}

-- AN ORDER
-- it is said of stores that keep what was committed
pub ordered : {Q : Type 0} → ⊥ ⊎ Q → Q
ordered (inl none) = absurd none
ordered (inr kept) = kept

-- A RETIRE
-- what it says of its result it says of its fault
module _ {O L : Type 0} (outbox : O → Standing OutboxValue) (ledger : L → Standing LedgerValue) (owner device : ℕ) (old new : Hub O L) where
  pub retire_fails : (r : Result (Unit {0}) DeskFault) → ((r ≡ Err desk.UnknownOwner) ↔ (position_of_owner old.scheme owner ≡ None)) → ((r ≡ Err desk.UnknownDevice) ↔ ((position_of_owner old.scheme owner ≢ None) × (position_of_device old.scheme device ≡ None)))
      → IfErr r (λ fault. ComesOf outbox ledger old new (LeavesLane owner device fault)) → IfErr r (λ fault. is_refusal fault ≡ is_of_retire fault) → IfErr r (λ fault. FailsRetire outbox ledger owner device old new fault)
  retire_fails (Ok u) of_owner of_device failed named = tt
  retire_fails (Err fault) of_owner of_device failed named = (
    named,
    ((λ is. of_owner.0 (ap Err is)), (λ none. let both = of_owner.1 none in cc)),
    ((λ is. of_device.0 (ap Err is)), (λ none. let both = of_device.1 none in cc)),
    failed,
  )

-- LEDGERS
-- whatever was asked, there are as many as before
pub asked_count : {O L : Type 0} (outbox : O → Standing OutboxValue) (ledger : L → Standing LedgerValue) (question : Question) (old new : Hub O L) → GoesOnAsked outbox ledger question old new → length new.ledgers.items ≡ length old.ledgers.items
asked_count outbox ledger Close old new goes = goes.follow.count
asked_count outbox ledger (Bill owner day) old new goes = goes.follow.count
asked_count outbox ledger (Settle owner day) old new goes = goes.follow.count
asked_count outbox ledger Stand old new goes = goes.follow.count
asked_count outbox ledger (Retire owner device) old new goes = goes.follow.count
asked_count outbox ledger (Forget day) old new goes = goes.follow.count

-- THE JOB
-- the first letters of two words
letters_apart : ◌≡◌ {A = ℕ} 114 115 → ⊥
letters_apart e = absurd (omega (arith, e))

not_serve : codes "replay" ≡ codes "serve" → ⊥
not_serve e = absurd (cc)

not_scheme : codes "replay" ≡ codes "scheme" → ⊥
not_scheme e = letters_apart (ap (λ (l : List ℕ). slice_index_or l 0 0) e)

not_close : codes "replay" ≡ codes "close" → ⊥
not_close e = absurd (cc)

not_bill : codes "replay" ≡ codes "bill" → ⊥
not_bill e = absurd (cc)

not_settle : codes "replay" ≡ codes "settle" → ⊥
not_settle e = letters_apart (ap (λ (l : List ℕ). slice_index_or l 0 0) e)

not_stand : codes "replay" ≡ codes "stand" → ⊥
not_stand e = absurd (cc)

first_letters_apart : ◌≡◌ {A = ℕ} 114 102 → ⊥
first_letters_apart e = absurd (omega (arith, e))

-- and their third ones
third_letters_apart : ◌≡◌ {A = ℕ} 112 116 → ⊥
third_letters_apart e = absurd (omega (arith, e))

not_retire : codes "replay" ≡ codes "retire" → ⊥
not_retire e = third_letters_apart (ap (λ (l : List ℕ). slice_index_or l 2 0) e)

not_forget : codes "replay" ≡ codes "forget" → ⊥
not_forget e = first_letters_apart (ap (λ (l : List ℕ). slice_index_or l 0 0) e)

-- words that ask for a replay ask for nothing else
pub no_files : (matched : Option (Text × List Row)) (sql : _) (j : Job) → JobOf matched (job.Replay sql) → JobOf matched j → IsOfFiles j → ⊥
no_files None sql j replays is files = replays
no_files (Some m) sql (job.Replay other) replays is files = files
no_files (Some m) sql (job.Serve port turns path scheme read_millis write_millis rounds until patience round_millis ask) replays is files = not_serve (sym replays.0 ∙ is.0)
no_files (Some m) sql (job.Scheme path) replays is files = not_scheme (sym replays.0 ∙ is.0)
no_files (Some m) sql (job.Ask path scheme Close) replays is files = not_close (sym replays.0 ∙ is.2)
no_files (Some m) sql (job.Ask path scheme (Bill owner day)) replays is files = not_bill (sym replays.0 ∙ is.2.0)
no_files (Some m) sql (job.Ask path scheme (Settle owner day)) replays is files = not_settle (sym replays.0 ∙ is.2.0)
no_files (Some m) sql (job.Ask path scheme Stand) replays is files = not_stand (sym replays.0 ∙ is.2)
no_files (Some m) sql (job.Ask path scheme (Retire owner device)) replays is files = not_retire (sym replays.0 ∙ is.2.0)
no_files (Some m) sql (job.Ask path scheme (Forget before)) replays is files = not_forget (sym replays.0 ∙ is.2.0)

-- THE STORES
module _ {O L : Type 0} (outbox : O → Standing OutboxValue) (ledger : L → Standing LedgerValue) where
  -- what was written, of a hub of this scheme
  pub answered : (question : Question) (sc : SchemeValue) (old new : Hub O L) (before after : Option (List ℕ)) → old.scheme ≡ sc → Answers outbox ledger question old new before after → IsAnswered sc question before after
  answered Close sc old new before after same a = (a.text, subst (λ (x : SchemeValue). AreLinesOf (lanes_of x) a.text) same a.lines, a.written)
  answered (Bill owner day) sc old new before after same a = (a.bill, a.short, a.written)
  answered (Settle owner day) sc old new before after same a = (a.shares, a.short, a.written)
  answered Stand sc old new before after same a = (
    a.uptos,
    a.lanes,
    subst (λ (x : SchemeValue). AreUptoLines (keys_of x.devices) a.uptos) same a.upto_lines,
    subst (λ (x : SchemeValue). AreLaneLines (lanes_of x) a.lanes) same a.lane_lines,
    a.written,
  )
  answered (Retire owner device) sc old new before after same a = a.written
  answered (Forget day) sc old new before after same a = (a.text, subst (λ (x : SchemeValue). AreGoneLines (lanes_of x) a.text) same a.lines, a.written)

-- FILES
-- stores that were not opened are no fault of the lines
pub of_stores : (known : Option (List ℕ)) (sc : SchemeValue) (why : ServeFailure) → IfSome known (SpellsScheme sc) → IsOfStores why → GivesNone known why
of_stores known sc (serve.Lines fault) spelled is = absurd is
of_stores known sc (serve.Refused why) spelled is = absurd is
of_stores known sc serve.NoScheme spelled is = absurd is
of_stores known sc (serve.Kept why) spelled is = absurd is
of_stores known sc serve.Memory spelled is = tt
of_stores known sc serve.Store spelled is = has_scheme known sc spelled
of_stores known sc serve.Network spelled is = absurd is
of_stores known sc serve.Write spelled is = absurd is

pub gave_none : (source : SchemeSource) (input : List ℕ) (why : ServeFailure) → HasGiven source input → IsOfStores why → GaveNone source input why
gave_none source input (serve.Lines fault) given is = absurd is
gave_none source input (serve.Refused why) given is = absurd is
gave_none source input serve.NoScheme given is = absurd is
gave_none source input (serve.Kept why) given is = absurd is
gave_none source input serve.Memory given is = tt
gave_none source input serve.Store given is = given
gave_none source input serve.Network given is = absurd is
gave_none source input serve.Write given is = absurd is

-- OVER DATABASES
module _ (question : Question) (sc : SchemeValue) (before after : Option (List ℕ)) where
  -- a scheme was known, of the lines that were given
  named_known : (known : Option (List ℕ)) (fault : DeskFault) → IfSome known (SpellsScheme sc) → NamesFirst sc question fault → IfSome known (λ input. (x : SchemeValue) × SpellsScheme x input × NamesFirst x question fault)
  named_known None fault spelled names = tt
  named_known (Some input) fault spelled names = (sc, spelled, names)

  pub asked_done : (known : Option (List ℕ)) (r : Result (Unit {0}) AskFailure) → IfSome known (SpellsScheme sc) → OnOk r (IsAnswered sc question before after) → ((why : DeskFault) → refused_unasked sc question ≡ Some why → IsErrAnd r (IsRefusedAs why)) → OnOk r (IfSome known (AskEnds question before after))
  asked_done None (Ok u) spelled is unasked = tt
  asked_done (Some input) (Ok u) spelled is unasked = record { sc = sc; spelled = spelled; asked = asked_ok sc question u unasked; writes = is }
  asked_done known (Err failure) spelled is unasked = tt

  pub asked_failed : (known : Option (List ℕ)) (r : Result (Unit {0}) AskFailure) → IfSome known (SpellsScheme sc) → IfErr r (FailsIn question before after) → ((why : DeskFault) → refused_unasked sc question ≡ Some why → IsErrAnd r (IsRefusedAs why)) → IfErr r (AskFails question known before after)
  asked_failed known (Ok u) spelled is unasked = tt
  asked_failed known (Err (Stores why)) spelled is unasked = (is.0, of_stores known sc why spelled is.1)
  asked_failed known (Err (Desk fault)) spelled is unasked = (named_known known fault spelled unasked, is)

  pub asked_of : (source : SchemeSource) (input : List ℕ) (r : Result (Unit {0}) AskFailure) → TakesScheme source sc input → OnOk r (IsAnswered sc question before after) → IfErr r (FailsIn question before after) → ((why : DeskFault) → refused_unasked sc question ≡ Some why → IsErrAnd r (IsRefusedAs why)) → IsAskedOf question before after source input r
  asked_of source input (Ok u) takes done fails unasked = (sc, takes, asked_ok sc question u unasked, done)
  asked_of source input (Err (Stores why)) takes done fails unasked = (fails.0, gave_none source input why (has_given source input sc takes) fails.1)
  asked_of source input (Err (Desk fault)) takes done fails unasked = (sc, takes, unasked, fails)

-- there is no scheme, or the stores were not opened
pub err_asked : (question : Question) (source : SchemeSource) (input : List ℕ) (before after : Option (List ℕ)) (r : Result (Unit {0}) AskFailure) (why : ServeFailure) → IsErrAnd r (λ e. e ≡ Stores why) → Keeps before after → GaveNone source input why → IsAskedOf question before after source input r
err_asked question source input before after (Ok u) why is kept none = absurd is
err_asked question source input before after (Err failure) why is kept none = subst (λ (f : AskFailure). IsAskedOf question before after source input (Err f)) (sym is) (kept, none)

-- FAILURES
pub keeps_unless : (fault : DeskFault) (before after : Option (List ℕ)) → (fault ≢ desk.Write → Keeps before after) → KeepsUnlessWrite fault before after
keeps_unless desk.UnknownOwner before after is = is (λ e. absurd (cc))
keeps_unless desk.BeforeStart before after is = is (λ e. absurd (cc))
keeps_unless (desk.Forgotten device) before after is = is (λ e. absurd (cc))
keeps_unless (desk.NotClosed device) before after is = is (λ e. absurd (cc))
keeps_unless desk.UnknownDevice before after is = is (λ e. absurd (cc))
keeps_unless desk.Retired before after is = is (λ e. absurd (cc))
keeps_unless desk.Memory before after is = is (λ e. absurd (cc))
keeps_unless desk.Store before after is = is (λ e. absurd (cc))
keeps_unless desk.Write before after is = tt
