use Rattle.std.proofs.Common.{◌∙◌, ap, sym, subst, ℕ, List, Err}
use Rattle.oss_machine.specs.Machines.{asks}
use Rattle.oss_model.specs.declared.moving.Move.{Move}
use Rattle.oss_tree.specs.Tasks.{HasPoint}
use Rattle.oss_core.specs.Changes.{IsMove, IsMade}
use Rattle.oss_core.specs.Cores.{kept_of}
use Rattle.oss_replay.proofs.MakingLemmas.{makes_part, refuses_none, refuses_beyond, refuses_part}
use Rattle.oss_replay.proofs.making.make_part.Goals as goal

pub returns-in-None-clause-refused : goal.returns-in-None-clause-refused
returns-in-None-clause-refused g c = λ e.
    refuses_none c.args.code.now (kept_of g.D.Deps.seen c.args.core.now) c.args.what.now c.args.k
    (λ t h. c.in-None.ensures t (subst (λ (p : List ℕ). HasPoint c.args.core.now.tree.tasks t p) (sym (c.as_slice.ensures.numbers ∙ c.point_of.ensures)) h))

pub returns-in-None-part-clause-refused : goal.returns-in-None-part-clause-refused
returns-in-None-part-clause-refused g c = λ e. refuses_beyond c.args.code.now (kept_of g.D.Deps.seen c.args.core.now) c.args.what.now c.args.k c.in-None-part.ensures

pub returns-in-Ok-clause-made : goal.returns-in-Ok-clause-made
returns-in-Ok-clause-made g c = λ e.
    makes_part c.args.code.now (kept_of g.D.Deps.seen c.args.core.now) (kept_of g.D.Deps.seen c.apply.new.self) c.args.what.now c.args.k c.in-Some.task
    (subst (λ (p : List ℕ). HasPoint c.args.core.now.tree.tasks c.in-Some.task.0 p) (c.as_slice.ensures.numbers ∙ c.point_of.ensures) c.in-Some.ensures)
    (subst (λ (m : Move). IsMade c.args.code.now (kept_of g.D.Deps.seen c.args.core.now) (kept_of g.D.Deps.seen c.apply.new.self) m) c.in-Some-part.ensures c.in-Ok.ensures.ok)

pub returns-in-Err-NotNow-clause-refused : goal.returns-in-Err-NotNow-clause-refused
returns-in-Err-NotNow-clause-refused g c = λ e.
    refuses_part c.args.code.now (kept_of g.D.Deps.seen c.args.core.now) c.args.what.now c.args.k c.in-Some.task
    (subst (λ (p : List ℕ). HasPoint c.args.core.now.tree.tasks c.in-Some.task.0 p) (c.as_slice.ensures.numbers ∙ c.point_of.ensures) c.in-Some.ensures)
    (λ main first s core n h.
    c.apply.ensures.not_now (c.in-Err-NotNow.is ∙ ap Err c.in-Err-NotNow.field-0-is) main first s core n
    (subst (λ (m : Move). IsMove (asks c.args.code.now) c.args.core.now.tree.tasks m s n) (sym c.in-Some-part.ensures) h))
