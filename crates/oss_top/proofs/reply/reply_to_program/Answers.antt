use Rattle.std.proofs.Common.{ap}
use Rattle.oss_command.specs.Commands.{meant}
use Rattle.oss_top.specs.Reply.IsProgramReply.{audited, checked, drawn, explained, missed, ran, soaked, spanned, traced}
use Rattle.oss_top.proofs.FormLemmas.{if_ok}
use Rattle.oss_top.proofs.reply.reply_to_program.Goals as goal

pub returns-in-Run : goal.returns-in-Run
returns-in-Run g c = if_ok c.reply_to_run.result (λ reply is. rw (ap meant c.in-Run.is) (ran is)) c.reply_to_run.ensures

pub returns-in-Check : goal.returns-in-Check
returns-in-Check g c = if_ok c.accepted.result (λ reply is. rw (ap meant c.in-Check.is) (checked is)) c.accepted.ensures

pub returns-in-Trace : goal.returns-in-Trace
returns-in-Trace g c = if_ok c.reply_to_trace.result (λ reply is. rw (ap meant c.in-Trace.is) (traced is)) c.reply_to_trace.ensures

pub returns-in-Soak : goal.returns-in-Soak
returns-in-Soak g c = if_ok c.reply_to_generated.result (λ reply is. rw (ap meant c.in-Soak.is) (soaked is)) c.reply_to_generated.ensures

pub returns-in-Audit : goal.returns-in-Audit
returns-in-Audit g c = if_ok c.reply_to_audit.result (λ reply is. rw (ap meant c.in-Audit.is) (audited is)) c.reply_to_audit.ensures

pub returns-in-Span : goal.returns-in-Span
returns-in-Span g c = if_ok c.reply_to_span.result (λ reply is. rw (ap meant c.in-Span.is) (spanned is)) c.reply_to_span.ensures

pub returns-in-Explain : goal.returns-in-Explain
returns-in-Explain g c = if_ok c.reply_to_explain.result (λ reply is. rw (ap meant c.in-Explain.is) (explained is)) c.reply_to_explain.ensures

pub returns-in-Graph : goal.returns-in-Graph
returns-in-Graph g c = if_ok c.reply_to_graph.result (λ reply is. rw (ap meant c.in-Graph.is) (drawn is)) c.reply_to_graph.ensures

pub returns-in-Missing : goal.returns-in-Missing
returns-in-Missing g c = if_ok c.reply_to_missing.result (λ reply is. rw (ap meant c.in-Missing.is) (missed is)) c.reply_to_missing.ensures
