-- Going on through a text and answering it, line by line.
use Rattle.std.proofs.Common.{◌≡◌, ◌+◌, ◌∙◌, ℕ, List, [], ◌∷◌, ◌++◌, Option, Some, None, length, map, ap, sym, subst, refl, arith, append_assoc, length-append}
use Rattle.std.specs.List.{AllByRecursion}
use Rattle.fare_store.specs.declared.fault.Fault.{Fault}
use Rattle.fare_store.specs.declared.fault.Fault.TheVariants as fault
use Rattle.fare_store.specs.LedgerWords.{LedgerValue}
use Rattle.fare_store.specs.OutboxWords.{OutboxValue}
use Rattle.fare_store.specs.Standing.{Standing}
use Rattle.fare_world.specs.declared.world.World.{World}
use Rattle.fare_event.specs.declared.reply.Reply.{Reply}
use Rattle.fare_event.specs.declared.reply.Reply.TheVariants.{Refused}
use Rattle.fare_event.specs.declared.reply.Refusal.TheVariants.{Sealed}
use Rattle.fare_world.specs.System.{System, start}
use Rattle.fare_world.specs.Steps.{step}
use Rattle.fare_world.specs.Whole.{AreLive, CountsFailure, Follows, StandsAt}
use Rattle.fare_lines.specs.declared.line.Line.{Line}
use Rattle.fare_lines.specs.declared.line.Line.TheVariants.{Setup, Step}
use Rattle.fare_lines.specs.declared.text.ParseFault.{ParseFault}
use Rattle.fare_lines.specs.declared.text.ParseFault.TheVariants.{BadLine, Memory}
use Rattle.fare_lines.specs.Grammar.{Fits, line_text}
use Rattle.fare_trace.specs.declared.running.RunFault.{RunFault}
use Rattle.fare_trace.specs.declared.running.RunFault.TheVariants.{Text, Store}
use Rattle.fare_lines.specs.Faults.{Refuses}
use Rattle.fare_trace.specs.Faults.{RefusesRun, run_fault}
use Rattle.fare_lines.specs.Lines.{FirstBadLine, Spells, lines_of}
use Rattle.fare_lines.specs.Replies.{reply_text, replies_text}
use Rattle.fare_trace.specs.Answers.{AnswersAll, Running, Stage, first_stage}
use Rattle.fare_lines.specs.Unread.{IsNext, ReadsOff, StopsIn, Unread, whole}
use Rattle.fare_trace.specs.Progress.{AnswersText, Breaks, Ends, Goes, GoesToEnd, IsRest, WritesAnswer}
use Rattle.fare_trace.specs.Stores.{IsNew, WritesStep}
use Rattle.fare_lines.proofs.Cuts.{append_nil}
use Rattle.fare_lines.proofs.Rows.{all_push, row_next}
use Rattle.fare_trace.proofs.Stores.{fails_then, follows_none, follows_then}
use Rattle.fare_lines.proofs.Unread.{all_both, map_both, reads_all, reads_both, reads_line, reads_nothing, reads_stops, stops_text}

-- ANSWERING
replies_both : (rs ss : List Reply) → replies_text rs ++ replies_text ss ≡ replies_text (rs ++ ss)
replies_both [] ss = refl
replies_both (r ∷ rs) ss = append_assoc (reply_text r) (replies_text rs) (replies_text ss) ∙ ap (λ t. reply_text r ++ t) (replies_both rs ss)

one_reply : (r : Reply) → reply_text r ≡ replies_text (r ∷ [])
one_reply r = sym (append_nil (reply_text r))

pub goes_nothing : (stage : Stage) (at : Unread) (out : List ℕ) → Goes stage stage at at out out
goes_nothing stage at out = record {
  lines = [];
  read = reads_nothing at;
  replies = [];
  leads = λ more answers all. all;
  written = sym (append_nil out);
}

pub goes_line : (first stage next : Stage) (old mid new : Unread) (before between after : List ℕ) (line : Line) → Goes first stage old mid before between → IsNext mid new (Some line) → WritesAnswer stage line next between after → Goes first next old new before after
goes_line first stage next old mid new before between after line goes is writes =
    let reply = writes.0 in
    record {
      lines = goes.lines ++ line ∷ [];
      read = reads_line old mid new goes.lines line goes.read is;
      replies = goes.replies ++ reply ∷ [];
      leads = λ more answers all.
          let led : AnswersAll first (goes.lines ++ (line ∷ more)) (goes.replies ++ (reply ∷ answers)) = goes.leads (line ∷ more) (reply ∷ answers) (next, writes.1, all) in
          subst (λ ls. AnswersAll first ls ((goes.replies ++ reply ∷ []) ++ answers)) (sym (append_assoc goes.lines (line ∷ []) more))
          (subst (λ rs. AnswersAll first (goes.lines ++ (line ∷ more)) rs) (sym (append_assoc goes.replies (reply ∷ []) answers)) led);
      written = writes.2
          ∙ ap (λ t. t ++ reply_text reply) goes.written
          ∙ append_assoc before (replies_text goes.replies) (reply_text reply)
          ∙ ap (λ t. before ++ (replies_text goes.replies ++ t)) (one_reply reply)
          ∙ ap (λ t. before ++ t) (replies_both goes.replies (reply ∷ []));
    }

pub goes_stops : (first stage : Stage) (old mid : Unread) (before between : List ℕ) (f : ParseFault) → Goes first stage old mid before between → StopsIn mid f → StopsIn old f
goes_stops first stage old mid before between f goes stops = reads_stops old mid goes.lines f goes.read stops

ends_answer : (stage : Stage) → AnswersAll stage [] []
ends_answer stage = tt

pub goes_all : (text : List ℕ) (new : Unread) (out : List ℕ) → GoesToEnd first_stage (whole text) new [] out → AnswersText text out
goes_all text new out end =
    let goes = end.1 in
    let led : AnswersAll first_stage (goes.lines ++ []) (goes.replies ++ []) = goes.leads [] [] (ends_answer end.0) in (
      goes.lines,
      reads_all text new goes.lines goes.read end.2,
      record {
        replies = goes.replies;
        answered = subst (λ ls. AnswersAll first_stage ls goes.replies) (append_nil goes.lines) (subst (λ rs. AnswersAll first_stage (goes.lines ++ []) rs) (append_nil goes.replies) led);
        is = goes.written;
      },
    )

-- one part after the other
pub goes_on : (first stage : Stage) (old mid new : Unread) (before between after : List ℕ) → Goes first stage old mid before between → GoesToEnd stage mid new between after → GoesToEnd first old new before after
goes_on first stage old mid new before between after goes end =
    let later = end.1 in (
      end.0,
      record {
        lines = goes.lines ++ later.lines;
        read = reads_both old mid new goes.lines later.lines goes.read later.read;
        replies = goes.replies ++ later.replies;
        leads = λ more answers all.
            let led : AnswersAll first (goes.lines ++ (later.lines ++ more)) (goes.replies ++ (later.replies ++ answers)) = goes.leads (later.lines ++ more) (later.replies ++ answers) (later.leads more answers all) in
            subst (λ ls. AnswersAll first ls ((goes.replies ++ later.replies) ++ answers)) (sym (append_assoc goes.lines later.lines more))
            (subst (λ rs. AnswersAll first (goes.lines ++ (later.lines ++ more)) rs) (sym (append_assoc goes.replies later.replies answers)) led);
        written = later.written
            ∙ ap (λ t. t ++ replies_text later.replies) goes.written
            ∙ append_assoc before (replies_text goes.replies) (replies_text later.replies)
            ∙ ap (λ t. before ++ t) (replies_both goes.replies later.replies);
      },
      end.2,
    )

pub goes_end : (first last : Stage) (old mid new : Unread) (before after : List ℕ) → Goes first last old mid before after → IsNext mid new None → GoesToEnd first old new before after
goes_end first last old mid new before after goes is =
    (last, subst (λ u. Goes first last old u before after) (sym is.0) goes, ap (λ u. lines_of u.rest) is.0 ∙ is.1)

-- A WHOLE TEXT
pub text_stops : (text : List ℕ) (first stage : Stage) (old mid : Unread) (before between : List ℕ) (f : ParseFault) → old ≡ whole text → Goes first stage old mid before between → StopsIn mid f → Refuses text f
text_stops text first stage old mid before between f is goes stops =
    stops_text text f (subst (λ u. StopsIn u f) is (goes_stops first stage old mid before between f goes stops))

pub text_answered : (text : List ℕ) (old new : Unread) (before after : List ℕ) → old ≡ whole text → before ≡ [] → GoesToEnd first_stage old new before after → AnswersText text after
text_answered text old new before after is none end =
    goes_all text new after (subst (λ u. GoesToEnd first_stage u new [] after) is (subst (λ b. GoesToEnd first_stage old new b after) none end))

-- READING ALONE
pub rest_of : (old new : Unread) (lines : List Line) → ReadsOff old new lines → lines_of new.rest ≡ [] → IsRest old
rest_of old new lines read none = (lines, record { fits = read.fits; is = read.is ∙ ap (λ t. map line_text lines ++ t) none ∙ append_nil (map line_text lines) })

-- one line more, or none
pub reads_more : (old mid new : Unread) (lines : List Line) (found : Option Line) → ReadsOff old mid lines → IsNext mid new found → (more : List Line) × ReadsOff old new more
reads_more old mid new lines None read next = (lines, subst (λ u. ReadsOff old u lines) (sym next.0) read)
reads_more old mid new lines (Some line) read next = (lines ++ line ∷ [], reads_line old mid new lines line read next)

-- what is still to be read, behind lines that were
pub rest_behind : (old mid : Unread) (lines : List Line) → ReadsOff old mid lines → IsRest mid → IsRest old
rest_behind old mid lines read rest =
    let more = rest.0 in (
      lines ++ more,
      record {
        fits = all_both Fits lines more read.fits rest.1.fits;
        is = read.is ∙ ap (λ t. map line_text lines ++ t) (rest.1.is ∙ sym (append_nil (map line_text more))) ∙ map_both line_text lines more [] ∙ append_nil (map line_text (lines ++ more));
      },
    )

-- a run that ended before the end of its text
pub text_refused : (text : List ℕ) (first stage : Stage) (old mid : Unread) (before between : List ℕ) (f : RunFault) → old ≡ whole text → Goes first stage old mid before between → Ends mid f → RefusesRun text f
text_refused text first stage old mid before between (Text f) is goes ends = text_stops text first stage old mid before between f is goes ends
text_refused text first stage old mid before between Store is goes ends = subst IsRest is (rest_behind old mid goes.lines goes.read ends)

-- RUNNING
module _ {O L : Type 0} (out : O → Standing OutboxValue) (led : L → Standing LedgerValue) where
  -- the world stands where the lines so far led, and if its stores are live, what was written answers these lines
  pub record IsRunning (was now : World O L) (old mid : Unread) (before between : List ℕ) : Type 0 where
    pub scheme : now.scheme ≡ was.scheme
    pub system : System
    pub stands : StandsAt out led now system
    pub lines : List Line
    pub read : ReadsOff old mid lines
    pub goes : AreLive out led now → Goes (Running was.scheme (start was.scheme)) (Running was.scheme system) old mid before between
    pub stores : Follows out led was now None

  pub runs_nothing : (w : World O L) (at : Unread) (text : List ℕ) → IsNew out led w → IsRunning w w at at text text
  runs_nothing w at text new = record {
    scheme = refl;
    system = start w.scheme;
    stands = new;
    lines = [];
    read = reads_nothing at;
    goes = λ live. goes_nothing (Running w.scheme (start w.scheme)) at text;
    stores = follows_none out led w;
  }

  pub runs_line : (was now next : World O L) (old mid new : Unread) (before between after : List ℕ) (line : Line) → IsRunning was now old mid before between → IsNext mid new (Some line) → WritesStep out led now next line between after → IsRunning was next old new before after
  runs_line was now next old mid new before between after (Setup line) runs is writes =
      let first = Running was.scheme (start was.scheme) in
      let stage = Running was.scheme runs.system in
      record {
        scheme = ap (λ w. w.scheme) writes.0 ∙ runs.scheme;
        system = runs.system;
        stands = subst (λ w. StandsAt out led w runs.system) (sym writes.0) runs.stands;
        lines = runs.lines ++ Setup line ∷ [];
        read = reads_line old mid new runs.lines (Setup line) runs.read is;
        goes = λ live. goes_line first stage stage old mid new before between after (Setup line) (runs.goes (subst (AreLive out led) writes.0 live)) is (Refused Sealed, refl, writes.1);
        stores = subst (λ w. Follows out led was w None) (sym writes.0) runs.stores;
      }
  runs_line was now next old mid new before between after (Step event) runs is writes =
      let first = Running was.scheme (start was.scheme) in
      let stage = Running was.scheme runs.system in
      let stepped = writes.1 in
      let then_stage = Running was.scheme (step was.scheme runs.system event).0 in
      record {
        scheme = stepped.scheme ∙ runs.scheme;
        system = (step was.scheme runs.system event).0;
        stands = subst (λ sc. StandsAt out led next (step sc runs.system event).0) runs.scheme (stepped.stands runs.system runs.stands);
        lines = runs.lines ++ Step event ∷ [];
        read = reads_line old mid new runs.lines (Step event) runs.read is;
        goes = λ live.
            let answer : writes.0 ≡ (step was.scheme runs.system event).1 = stepped.reply runs.system runs.stands live ∙ ap (λ sc. (step sc runs.system event).1) runs.scheme in
            goes_line first stage then_stage old mid new before between after (Step event) (runs.goes (stepped.stores.live live)) is (writes.0, ap (λ r. (then_stage, r)) answer, writes.2);
        stores = follows_then out led was now next runs.stores stepped.stores;
      }

  -- a line at which there was no memory or a store failed
  pub breaks_at : (was now : World O L) (old mid new : Unread) (before between : List ℕ) (line : Line) (f : Fault) → IsRunning was now old mid before between → IsNext mid new (Some line) → Breaks old new (run_fault f)
  breaks_at was now old mid new before between line fault.Memory runs is = tt
  breaks_at was now old mid new before between line fault.Store runs is = (runs.lines ++ line ∷ [], reads_line old mid new runs.lines line runs.read is)

  pub breaks_cause : (was now next : World O L) (old mid : Unread) (before between : List ℕ) (f : Fault) → IsRunning was now old mid before between → (f ≡ fault.Store → CountsFailure out led now next) → run_fault f ≡ Store → CountsFailure out led was next
  breaks_cause was now next old mid before between fault.Memory runs cause is = absurd (cc)
  breaks_cause was now next old mid before between fault.Store runs cause is = fails_then out led was now next runs.stores (cause refl)
