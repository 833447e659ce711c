use Rattle.std.proofs.Common.{arith, subst, sym, ◌+◌, length, List}
use Rattle.std.specs.Prelude.{box_value}
use Rattle.oss_syntax.specs.declared.access.Access.{Access}
use Rattle.oss_jobs.specs.Entries.{cells_in}
use Rattle.oss_creations.specs.Accesses.{Gives}
use Rattle.oss_creations.specs.Creating.{HasBegunTask, HasLinked, OfNew}
use Rattle.oss_creations.proofs.LinkLemmas.{still_making}
use Rattle.oss_creations.proofs.MakeLemmas.{made_all, may_put}
use Rattle.oss_creations.proofs.creating.make.Goals as goal

pub begin-requires-clause-new : goal.begin-requires-clause-new
begin-requires-clause-new c = subst (λ (xs : List Access). OfNew c.args.field.now.code c.args.job.now (λ own. Gives own xs)) (sym c.as_slice-cells.ensures) c.requires.new

pub link_all-requires-clause-new : goal.link_all-requires-clause-new
link_all-requires-clause-new c = subst (λ (xs : List Access). OfNew c.args.field.now.code c.args.job.now (λ own. Gives own xs)) (sym c.as_slice-cells.ensures) c.requires.new

pub link_all-requires-clause-making : goal.link_all-requires-clause-making
link_all-requires-clause-making c = c.begin.ensures.begun.making

pub put_first-requires-clause-may : goal.put_first-requires-clause-may
put_first-requires-clause-may c =
    let stop = c.args.task + 1 + cells_in c.as_slice-cells.result.now in
    let a = still_making c.args.field.now.code c.args.field.now.entries c.args.job.now c.args.task 0 c.args.task stop stop c.begin.new.seat.known c.link_all.new.seat.known (omega arith) c.link_all.ensures.linked c.begin.ensures.begun.making in
    may_put c.args.field.now.code c.args.field.now.entries c.args.job.now (box_value c.args.new) c.args.task stop stop c.link_all.new.seat.known a.0 c.requires.child c.requires.number

pub returns-clause-made : goal.returns-clause-made
returns-clause-made c =
    let code = c.args.field.now.code in
    let n = c.args.field.now.entries in
    let t = c.args.task in
    let e = c.as_slice-cells.ensures in
    made_all code n c.args.job.now (box_value c.args.new) c.open.new.job t (t + 1 + cells_in c.args.accesses.now) (length code.first) c.args.seat.now.known c.begin.new.seat.known c.link_all.new.seat.known c.put_first.new.seat.known c.open.new.seat.known (omega arith)
    (subst (λ (xs : List Access). HasBegunTask code n c.args.job.now t (t + 1 + cells_in xs) c.args.seat.now.known c.begin.new.seat.known) e c.begin.ensures.begun)
    (subst (λ (xs : List Access). HasLinked t t (t + 1 + cells_in xs) c.begin.new.seat.known c.link_all.new.seat.known) e c.link_all.ensures.linked)
    c.requires.number c.put_first.ensures.put c.open.ensures.opened
