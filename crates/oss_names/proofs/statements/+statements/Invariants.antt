use Rattle.std.proofs.Common.{◌+◌, ◌*◌, List, drop}
use Rattle.oss_loops.proofs.Weights.{part_weight, weight, weights}
use Rattle.std.specs.Prelude.{Result}
use Rattle.oss_syntax.specs.declared.tree.program.Local.{Local}
use Rattle.oss_syntax.specs.declared.refusal.Refusal.{Refusal}
use Rattle.oss_grammar.specs.StaticRules.{rules_of_all}
use Rattle.oss_names.specs.PartChecks.{IsPartChecked}
use Rattle.oss_names.proofs.statements.+statements.Given as goal

-- as the check of those left ends, that of all ends
abbrev pub invariant-statements-loop-one : goal.invariant-statements-loop-one
invariant-statements-loop-one l = (result : Result (Unit {0}) Refusal) (now : List Local) → IsPartChecked l.locals (rules_of_all (drop l.one-index l.list) l.globals l.around l.locals) result now
    → IsPartChecked l.fn.locals (rules_of_all l.list l.globals l.around l.fn.locals) result now

-- each function has a smaller part of the statement than its caller, or stands below it
abbrev pub decreases-statement : goal.decreases-statement
decreases-statement l = 4 * weight l.statement.now

abbrev pub decreases-statements : goal.decreases-statements
decreases-statements l = 4 * weights l.list.now + 1

abbrev pub decreases-block : goal.decreases-block
decreases-block l = 4 * weights l.list.now + 2

abbrev pub decreases-inside : goal.decreases-inside
decreases-inside l = 4 * weight l.one.now + 1

abbrev pub decreases-part : goal.decreases-part
decreases-part l = 4 * part_weight l.one.now + 1

abbrev pub decreases-inside_part : goal.decreases-inside_part
decreases-inside_part l = 4 * part_weight l.one.now + 2

abbrev pub decreases-branches : goal.decreases-branches
decreases-branches l = 4 * (weight l.then_part.now + part_weight l.else_part.now) + 2

abbrev pub decreases-while_loop : goal.decreases-while_loop
decreases-while_loop l = 4 * weight l.body.now + 2

abbrev pub decreases-for_loop : goal.decreases-for_loop
decreases-for_loop l = 4 * (part_weight l.start.now + (part_weight l.step.now + weight l.body.now)) + 2

abbrev pub decreases-task : goal.decreases-task
decreases-task l = 4 * weight l.body.now + 2

abbrev pub decreases-turns : goal.decreases-turns
decreases-turns l = 4 * weight l.body.now + 2

abbrev pub decreases-task_loop : goal.decreases-task_loop
decreases-task_loop l = 4 * weight l.body.now + 3

abbrev pub decreases-for_statement : goal.decreases-for_statement
decreases-for_statement l = 4 * (part_weight l.start.now + (part_weight l.step.now + weight l.body.now)) + 3
