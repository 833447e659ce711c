use Rattle.std.proofs.Common.{◌∙◌, ◌++◌, ℕ, List, ap, arith, length, length-set, refl, subst, sym}
use Rattle.oss_tree.specs.declared.output.Print.{Print}
use Rattle.oss_core.specs.Kept.{Kept}
use Rattle.oss_core.specs.Cores.{kept_of}
use Rattle.oss_core.specs.Putting.{IsWritten, MayAdd}
use Rattle.oss_core.proofs.CallLemmas.{both_ok}
use Rattle.oss_core.proofs.PutFacts.{all_put}
use Rattle.oss_core.proofs.machine.Core.put.Goals as goal

pub add_children-requires-clause-sizes : goal.add_children-requires-clause-sizes
add_children-requires-clause-sizes g c = c.requires.sizes ∙ sym (ap length c.put_body-spare.ensures.put.tasks ∙ length-set c.args.self.now.tasks.items c.args.task.0 c.put_body-spare.ensures.put.after)

pub add_children-requires-clause-may : goal.add_children-requires-clause-may
add_children-requires-clause-may g c =
    λ xs news.
    subst (λ (n : _). MayAdd c.args.task.0 n xs c.args.self.now.tree.tasks (g.D.Deps.seen c.args.self.now.deps))
    (sym (ap length c.put_body-spare.ensures.put.tasks ∙ length-set c.args.self.now.tasks.items c.args.task.0 c.put_body-spare.ensures.put.after)) (c.requires.may xs news)

pub note_over-requires : goal.note_over-requires
note_over-requires g c = let a = c.requires.sizes in let b = c.requires.there in let m = c.in_ok-add_children.ensures.2.more in omega (arith, a, b, m)

pub returns : goal.returns
returns g c =
    let put = c.put_body-spare.ensures.put in
    let added = c.in_ok-add_children.ensures in
    let mid : Kept = record { tasks = c.put_body-spare.new.tasks.items; tree = c.args.self.now.tree; seen = g.D.Deps.seen c.args.self.now.deps; cells = c.write_into.new.cells.items } in
    both_ok c.print_all.result
    (λ tasks prints. (
      added.0,
      added.1,
      all_put c.args.task.0 added.0 c.args.part.body c.args.part.prints.items c.ended-ended.result (kept_of g.D.Deps.seen c.args.self.now)
          (record { tasks = c.add_children.new.self.tasks.items; tree = c.print_all.new.tree; seen = g.D.Deps.seen c.add_children.new.self.deps; cells = c.add_children.new.self.cells.items })
          mid put refl refl c.ended-ended.ensures.kept (kept_of g.D.Deps.seen c.add_children.new.self) added.2 refl (tasks ∙ c.note_over.ensures.tasks) (prints ∙ ap (λ (ps : List Print). ps ++ c.args.part.prints.items) c.note_over.ensures.prints) refl,
      subst (λ (cs : List ℕ). IsWritten c.args.part.writes.pieces c.args.self.now.cells.items cs) (sym added.2.cells) c.write_into.ensures,
    ))
    c.print_all.ensures.tasks c.print_all.ensures.prints
