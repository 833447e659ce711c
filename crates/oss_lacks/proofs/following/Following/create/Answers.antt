use Rattle.std.proofs.Common.{ap, subst, ◌∙◌, ◌++◌, ◌∷◌, [], Bool, List}
use Rattle.oss_syntax.specs.declared.access.Access.{Access}
use Rattle.oss_machine.specs.Asks.{meant_order}
use Rattle.oss_open_needs.specs.Stacks.{Opens as NeedsOpen}
use Rattle.oss_lacks.specs.declared.creation.Creation.{Creation}
use Rattle.oss_lacks.proofs.KeptLemmas.{on_ok, opened_more}
use Rattle.oss_lacks.proofs.following.Following.create.Goals as goal

pub returns : goal.returns
returns c =
    on_ok c.push.result (λ above.
    opened_more (meant_order c.args.order.now) c.args.line c.args.created c.args.is_final c.args.self.now (record { alloc = c.args.self.now.alloc; needs = c.open.new.self; current = c.replace-creator.new.dest; above = c.push.new.self; tasks = c.add_slot.new.slots }) c.in_ok-number.number
    (subst (λ (b : Bool). NeedsOpen b c.args.order.now.accesses c.args.self.now.needs c.open.new.self) c.is_final_below-is_final.ensures
    (subst (λ (xs : List Access). NeedsOpen c.is_final_below-is_final.result xs c.args.self.now.needs c.open.new.self) c.as_slice.ensures c.in_ok-open.ensures))
    (c.replace-creator.ensures.after ∙ c.in_ok-child.ensures
    ∙ ap (λ (b : Bool). let k : Creation = record { number = c.in_ok-number.number; point = c.args.self.now.current.point ++ c.args.created ∷ []; line = c.args.line; clauses = c.args.order.now.accesses; is_final = b } in k) c.is_final_below-is_final.ensures)
    (above ∙ ap (λ (k : Creation). c.args.self.now.above ++ k ∷ []) c.replace-creator.ensures.value) c.in_ok-number.ensures) c.push.ensures.ok
