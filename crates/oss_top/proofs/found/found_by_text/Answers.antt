use Rattle.std.proofs.Common.{ap, refl}
use Rattle.oss_io.specs.Spans.{shelf_span}
use Rattle.oss_command.specs.Commands.{meant}
use Rattle.oss_top.proofs.FormLemmas.{if_ok}
use Rattle.oss_top.proofs.FoundLemmas.{found_of_soak, found_of_text}
use Rattle.oss_top.proofs.found.found_by_text.Goals as goal

pub returns-in-Run : goal.returns-in-Run
returns-in-Run g c =
    if_ok c.found_in_text.result
    (λ found is. found_of_text (meant c.args.command) (rw (ap meant c.in-Run.is) tt) c.args.text.now (shelf_span g.S.Shelf.held g.S.Shelf.faults g.S.Shelf.last c.args.shelf.now c.args.shelf.now) found refl is) c.found_in_text.ensures

pub returns-in-Check : goal.returns-in-Check
returns-in-Check g c =
    if_ok c.found_in_text-in-Check.result
    (λ found is. found_of_text (meant c.args.command) (rw (ap meant c.in-Check.is) tt) c.args.text.now (shelf_span g.S.Shelf.held g.S.Shelf.faults g.S.Shelf.last c.args.shelf.now c.args.shelf.now) found refl is) c.found_in_text-in-Check.ensures

pub returns-in-Trace : goal.returns-in-Trace
returns-in-Trace g c =
    if_ok c.found_in_text-in-Trace.result
    (λ found is. found_of_text (meant c.args.command) (rw (ap meant c.in-Trace.is) tt) c.args.text.now (shelf_span g.S.Shelf.held g.S.Shelf.faults g.S.Shelf.last c.args.shelf.now c.args.shelf.now) found refl is) c.found_in_text-in-Trace.ensures

pub returns-in-Audit : goal.returns-in-Audit
returns-in-Audit g c =
    if_ok c.found_in_text-in-Audit.result
    (λ found is. found_of_text (meant c.args.command) (rw (ap meant c.in-Audit.is) tt) c.args.text.now (shelf_span g.S.Shelf.held g.S.Shelf.faults g.S.Shelf.last c.args.shelf.now c.args.shelf.now) found refl is) c.found_in_text-in-Audit.ensures

pub returns-in-Span : goal.returns-in-Span
returns-in-Span g c =
    if_ok c.found_in_text-in-Span.result
    (λ found is. found_of_text (meant c.args.command) (rw (ap meant c.in-Span.is) tt) c.args.text.now (shelf_span g.S.Shelf.held g.S.Shelf.faults g.S.Shelf.last c.args.shelf.now c.args.shelf.now) found refl is) c.found_in_text-in-Span.ensures

pub returns-in-Explain : goal.returns-in-Explain
returns-in-Explain g c =
    if_ok c.found_in_text-in-Explain.result
    (λ found is. found_of_text (meant c.args.command) (rw (ap meant c.in-Explain.is) tt) c.args.text.now (shelf_span g.S.Shelf.held g.S.Shelf.faults g.S.Shelf.last c.args.shelf.now c.args.shelf.now) found refl is) c.found_in_text-in-Explain.ensures

pub returns-in-Graph : goal.returns-in-Graph
returns-in-Graph g c =
    if_ok c.found_in_text-in-Graph.result
    (λ found is. found_of_text (meant c.args.command) (rw (ap meant c.in-Graph.is) tt) c.args.text.now (shelf_span g.S.Shelf.held g.S.Shelf.faults g.S.Shelf.last c.args.shelf.now c.args.shelf.now) found refl is) c.found_in_text-in-Graph.ensures

pub returns-in-Missing : goal.returns-in-Missing
returns-in-Missing g c =
    if_ok c.found_in_text-in-Missing.result
    (λ found is. found_of_text (meant c.args.command) (rw (ap meant c.in-Missing.is) tt) c.args.text.now (shelf_span g.S.Shelf.held g.S.Shelf.faults g.S.Shelf.last c.args.shelf.now c.args.shelf.now) found refl is) c.found_in_text-in-Missing.ensures

pub returns-in-Soak : goal.returns-in-Soak
returns-in-Soak g c =
    let asked = c.in-Soak.asked in
    if_ok c.found_by_soak.result
    (λ found is. rw (ap meant c.in-Soak.is) (found_of_soak asked.number asked.size asked.options c.args.text.now (shelf_span g.S.Shelf.held g.S.Shelf.faults g.S.Shelf.last c.args.shelf.now c.args.shelf.now) found refl is)) c.found_by_soak.ensures

pub returns-in_ok-reply-in-Replay : goal.returns-in_ok-reply-in-Replay
returns-in_ok-reply-in-Replay g c = rw (ap meant c.in-Replay.is) c.in_ok-reply-in-Replay.ensures
