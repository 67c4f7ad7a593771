use Rattle.std.proofs.Common.{◌∙◌, ◌++◌, ap, subst}
use Rattle.std.specs.Prelude.{OnOk}
use Rattle.std.specs.Io.KnownBytes.{Appends}
use Rattle.fare_lines.specs.Replies.{reply_text}
use Rattle.fare_desk.proofs.Failing.{memory_failed, ok_of_none, store_kept, write_failed, write_kept}
use Rattle.fare_desk.proofs.writing.write_reply.Goals as goal

pub returns-in_err-print_reply-clause-written : goal.returns-in_err-print_reply-clause-written
returns-in_err-print_reply-clause-written g c = ok_of_none c.from_residual.result _ _ c.from_residual.ensures.1

pub returns-in_err-print_reply-clause-failed : goal.returns-in_err-print_reply-clause-failed
returns-in_err-print_reply-clause-failed g c = memory_failed c.from_residual.result c.from_residual.ensures.1

pub returns-in_err-print_reply-clause-kept : goal.returns-in_err-print_reply-clause-kept
returns-in_err-print_reply-clause-kept g c = store_kept c.from_residual.result (g.W.Write.contents c.args.output.now)

pub returns-clause-written : goal.returns-clause-written
returns-clause-written g c =
    subst (λ t. OnOk c.write_text.result (Appends (g.W.Write.contents c.args.output.now) (g.W.Write.contents c.write_text.new.output) t))
    (c.deref.ensures.value ∙ (c.in_ok-print_reply.ensures.appended ∙ ap (λ l. l ++ reply_text c.args.reply.now) c.new-text.ensures.items)) c.write_text.ensures.written

pub returns-clause-failed : goal.returns-clause-failed
returns-clause-failed g c = write_failed c.write_text.result c.write_text.ensures.failed

pub returns-clause-kept : goal.returns-clause-kept
returns-clause-kept g c = write_kept c.write_text.result (g.W.Write.contents c.args.output.now) (g.W.Write.contents c.write_text.new.output) c.write_text.ensures.failed
