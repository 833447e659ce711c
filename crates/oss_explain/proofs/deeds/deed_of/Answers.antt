use Rattle.std.proofs.Common.{◌∙◌, List, ap}
use Rattle.oss_syntax.specs.declared.access.Range.{Range}
use Rattle.oss_meaning.specs.Clauses.{waited_for}
use Rattle.oss_meaning.specs.Sections.{declared_on}
use Rattle.oss_explanation.specs.Explanations.IsDeed.{awaits, begins, creates, folds, reads, ticks, writes}
use Rattle.oss_explain.proofs.DeedLemmas.{released_deed, waited_deed}
use Rattle.oss_explain.proofs.deeds.deed_of.Goals as goal

pub returns-in-Tick : goal.returns-in-Tick
returns-in-Tick c = rw c.in-Tick.is ticks

pub returns-in-Begin : goal.returns-in-Begin
returns-in-Begin c = rw c.in-Begin.is begins

pub returns-in-Await : goal.returns-in-Await
returns-in-Await c = rw c.in-Await.is awaits

pub returns-in-Read : goal.returns-in-Read
returns-in-Read c = rw c.in-Read.is reads

pub returns-in-Write : goal.returns-in-Write
returns-in-Write c = rw c.in-Write.is writes

pub returns-in-Fold : goal.returns-in-Fold
returns-in-Fold c = rw c.in-Fold.is folds

pub returns-in-Create : goal.returns-in-Create
returns-in-Create c = rw c.in-Create.is creates

pub returns-in-Ok : goal.returns-in-Ok
returns-in-Ok c = rw c.in-Release.is (released_deed c.args.program.now.items _ _ _ c.as_slice.ensures c.in-Ok.ensures)

pub returns-in-Ok-pieces_named : goal.returns-in-Ok-pieces_named
returns-in-Ok-pieces_named c =
    rw c.in-WaitOn.is (waited_deed c.args.program.now.items _ _ _ (c.as_slice-in-WaitOn-2.ensures ∙ c.in_ok-named-in-WaitOn.ensures ∙ ap (λ (rs : List Range). declared_on waited_for rs) c.as_slice-in-WaitOn.ensures) c.in-Ok-pieces_named.ensures)
