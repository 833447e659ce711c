use Rattle.oss_task_edges.proofs.EnterLemmas.{if_ok, in_any_case, keeps_next, parts_next}
use Rattle.oss_task_edges.proofs.JoinLemmas.{edges_are}
use Rattle.oss_task_edges.proofs.siblings.Siblings.enter_child.Goals as goal

pub returns-clause-keeps : goal.returns-clause-keeps
returns-clause-keeps c =
    in_any_case c.edges_of.result
    (λ all keeps has. keeps_next c.args.number c.args.accesses.now c.args.self.now c.enter_all.new.self c.enter_all.new.parts.items c.in_ok-enter_all.ensures all keeps has)

pub returns-clause-edges : goal.returns-clause-edges
returns-clause-edges c =
    if_ok c.edges_of.result
    (λ edges h items e all keeps has. edges_are items all c.args.number c.enter_all.new.parts.items (parts_next c.args.number c.args.accesses.now c.args.self.now c.enter_all.new.self c.enter_all.new.parts.items c.in_ok-enter_all.ensures all keeps has) edges (h items e))
    c.edges_of.ensures
